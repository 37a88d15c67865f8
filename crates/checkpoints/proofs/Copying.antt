-- Pairs copied one by one, to marks and back.
use mathlib.Core.Path.{◌≡◌, refl, sym, ap, ◌∙◌, subst}
use mathlib.Core.Bool.{Bool, true, false}
use mathlib.Core.Logic.{⊎_elim}
use mathlib.Core.List.{List, ◌++◌}
use Prim.Native.Nat.{ℕ, ◌+◌, ◌-◌, ◌*◌, ◌≤◌, ◌<◌}
use native.Mathlib.Omega.{arith}
use lib.ListN.{length, get_or, set, take, drop, replicate, length-set}
use lib.Seq.{get_or-set_same, get_or-set_other, get_or-append_right}
use Rattle.std.proofs.lemmas.List.{get_or_append_left, get_or-replicate, get_or-drop, length-replicate, length-take-le}
use Rattle.machine.specs.Layout.{frame_place, variable_place, mark_place, mark_number, index_end}
use Rattle.machine.proofs.Stays.{three}
use Rattle.checkpoints.specs.Live.{framed, Row, RowSaved, RowBack, FramesSaved, FramesBack, Cleared}
use Rattle.checkpoints.specs.Words.{Numbered}
use Rattle.checkpoints.proofs.Places.{times-on, either}

abbrev Never : Bool → Type 0
Never true = ⊥
Never false = Unit {0}

pub never : {A : Type 0} → false ≡ true → A
never e = absurd (subst Never e tt)

-- ---- numbers

pub numbered-none : {m h : List ℕ} {w : ℕ} → Numbered m m h w 0
numbered-none = record { other = λ x h. refl; numbers = λ i l. absurd (omega arith) }

pub numbered-on : (m m₁ h : List ℕ) (w i : ℕ) → index_end (w + i) ≤ length m₁ → Numbered m m₁ h w i → Numbered m (set m₁ (mark_number (w + i)) (get_or h i 0)) h w (i + 1)
numbered-on m m₁ h w i len c = record {
  other = λ y g. get_or-set_other m₁ (mark_number (w + i)) y (get_or h i 0) 0 (g (w + i) (omega arith) (omega arith)) ∙ c.other y (λ v a b. g v a (omega arith));
  numbers = λ j l. ⊎_elim
      (λ e. ap (λ (q : ℕ). get_or m₂ (mark_number (w + q)) 0) e ∙ get_or-set_same m₁ (mark_number (w + i)) (get_or h i 0) 0 (omega arith) ∙ ap (λ (q : ℕ). get_or h q 0) (sym e))
      (λ g. ⊎_elim (λ g. get_or-set_other m₁ (mark_number (w + i)) (mark_number (w + j)) (get_or h i 0) 0 (λ e. omega arith) ∙ c.numbers j g) (λ g. absurd (omega arith)) g)
      (three j i);
}
  where
    m₂ : List ℕ
    m₂ = set m₁ (mark_number (w + i)) (get_or h i 0)

-- ---- a row is saved

pub row-none : {m : List ℕ} {x s w : ℕ} → RowSaved m m x s 0 w
row-none = record { marking = record { other = λ y h. refl }; pairs = λ i b l. absurd (omega arith) }

module _ (m m₁ : List ℕ) (x s n w i : ℕ) (l : i < n) (row : Row m x s n) (len : index_end (w + i) ≤ length m₁) (c : RowSaved m m₁ x s i w) where
  abbrev t : ℕ
  t = mark_place (w + i)

  abbrev f : ℕ
  f = x + s * i

  abbrev pub m₂ : List ℕ
  m₂ = set m₁ t (get_or m₁ f 0)

  abbrev pub m₃ : List ℕ
  m₃ = set m₂ (t + 1) (get_or m₂ (f + 1) 0)

  -- no other word has changed
  beside : (y : ℕ) → (y ≡ t → ⊥) → (y ≡ t + 1 → ⊥) → get_or m₃ y 0 ≡ get_or m₁ y 0
  beside y p q = get_or-set_other m₂ (t + 1) y (get_or m₂ (f + 1) 0) 0 q ∙ get_or-set_other m₁ t y (get_or m₁ f 0) 0 p

  source : (b : ℕ) → b < 2 → get_or m₁ (f + b) 0 ≡ get_or m (f + b) 0
  source b g = c.marking.other (f + b) (λ j u v p q. row.apart i b j l g p q)

  here : (b : ℕ) → b < 2 → get_or m₃ (t + b) 0 ≡ get_or m (f + b) 0
  here = either (λ (b : ℕ). get_or m₃ (t + b) 0 ≡ get_or m (f + b) 0)
      (ap (λ (y : ℕ). get_or m₃ y 0) {x = t + 0} {y = t} (omega arith) ∙ get_or-set_other m₂ (t + 1) t (get_or m₂ (f + 1) 0) 0 (λ e. omega arith) ∙ get_or-set_same m₁ t (get_or m₁ f 0) 0 (omega arith)
      ∙ ap (λ (y : ℕ). get_or m₁ y 0) {x = f} {y = f + 0} (omega arith) ∙ source 0 (omega arith))
      (get_or-set_same m₂ (t + 1) (get_or m₂ (f + 1) 0) 0 (simp length-set (omega arith)) ∙ get_or-set_other m₁ t (f + 1) (get_or m₁ f 0) 0 (λ e. row.apart i 1 (w + i) l (omega arith) (omega arith) (omega arith)) ∙ source 1 (omega arith))

  pub row_on : RowSaved m m₃ x s (i + 1) w
  row_on = record {
    marking = record { other = λ y h. beside y (λ e. h (w + i) (omega arith) (omega arith) (omega arith) (omega arith)) (λ e. h (w + i) (omega arith) (omega arith) (omega arith) (omega arith)) ∙ c.marking.other y (λ j a b. h j a (omega arith)) };
    pairs = λ j b g k. ⊎_elim
        (λ e. subst (λ (q : ℕ). get_or m₃ (mark_place (w + q) + b) 0 ≡ get_or m (x + s * q + b) 0) (sym e) (here b k))
        (λ h. ⊎_elim (λ h. beside (mark_place (w + j) + b) (λ e. omega arith) (λ e. omega arith) ∙ c.pairs j b h k) (λ h. absurd (omega arith)) h)
        (three j i);
  }

-- ---- and put back

pub row-back-none : {m : List ℕ} {x s w : ℕ} → RowBack m m x s 0 w
row-back-none = record { other = λ y h. refl; pairs = λ i b l. absurd (omega arith) }

module _ (m m₁ : List ℕ) (x s n w i : ℕ) (l : i < n) (row : Row m x s n) (len : length m₁ ≡ length m) (c : RowBack m m₁ x s i w) where
  abbrev f' : ℕ
  f' = mark_place (w + i)

  abbrev t' : ℕ
  t' = x + s * i

  abbrev pub m₂' : List ℕ
  m₂' = set m₁ t' (get_or m₁ f' 0)

  abbrev pub m₃' : List ℕ
  m₃' = set m₂' (t' + 1) (get_or m₂' (f' + 1) 0)

  beside' : (y : ℕ) → (y ≡ t' → ⊥) → (y ≡ t' + 1 → ⊥) → get_or m₃' y 0 ≡ get_or m₁ y 0
  beside' y p q = get_or-set_other m₂' (t' + 1) y (get_or m₂' (f' + 1) 0) 0 q ∙ get_or-set_other m₁ t' y (get_or m₁ f' 0) 0 p

  source' : (b : ℕ) → b < 2 → get_or m₁ (f' + b) 0 ≡ get_or m (f' + b) 0
  source' b g = c.other (f' + b) (λ j d u v e. row.apart j d (w + i) (omega arith) v (omega arith) (omega arith))

  here' : (b : ℕ) → b < 2 → get_or m₃' (t' + b) 0 ≡ get_or m (f' + b) 0
  here' = either (λ (b : ℕ). get_or m₃' (t' + b) 0 ≡ get_or m (f' + b) 0)
      (ap (λ (y : ℕ). get_or m₃' y 0) {x = t' + 0} {y = t'} (omega arith) ∙ get_or-set_other m₂' (t' + 1) t' (get_or m₂' (f' + 1) 0) 0 (λ e. omega arith) ∙ get_or-set_same m₁ t' (get_or m₁ f' 0) 0 (omega (arith, row.inside i l))
      ∙ ap (λ (y : ℕ). get_or m₁ y 0) {x = f'} {y = f' + 0} (omega arith) ∙ source' 0 (omega arith))
      (get_or-set_same m₂' (t' + 1) (get_or m₂' (f' + 1) 0) 0 (simp length-set (omega (arith, row.inside i l))) ∙ get_or-set_other m₁ t' (f' + 1) (get_or m₁ f' 0) 0 (λ e. row.apart i 0 (w + i) l (omega arith) (omega arith) (omega arith)) ∙ source' 1 (omega arith))

  pub row-back-on : RowBack m m₃' x s (i + 1) w
  row-back-on = record {
    other = λ y h. beside' y (λ e. h i 0 (omega arith) (omega arith) (omega arith)) (λ e. h i 1 (omega arith) (omega arith) e) ∙ c.other y (λ j b g. h j b (omega arith));
    pairs = λ j b g k. ⊎_elim
        (λ e. subst (λ (q : ℕ). get_or m₃' (x + s * q + b) 0 ≡ get_or m (mark_place (w + q) + b) 0) (sym e) (here' b k))
        (λ h. ⊎_elim (λ h. let o = times-on s j i h in beside' (x + s * j + b) (λ e. omega (arith, row.two)) (λ e. omega (arith, row.two)) ∙ c.pairs j b h k) (λ h. absurd (omega arith)) h)
        (three j i);
  }

-- ---- frame by frame

pub frames-none : {n : ℕ} {m : List ℕ} {w : ℕ} → FramesSaved n m m 0 w
frames-none {n} = record { marking = record { other = λ y h. refl }; pairs = λ j a b l. absurd (omega arith) }

pub frames-back-none : {n : ℕ} {m : List ℕ} {w : ℕ} → FramesBack n m m 0 w
frames-back-none = record { other = λ y h. refl; pairs = λ j a b l. absurd (omega arith) }

module _ (n : ℕ) (m m₁ m₂ : List ℕ) (j w : ℕ) (few : n ≤ 16) (deep : j < 32) where
  pub frames-on : FramesSaved n m m₁ j w → RowSaved m₁ m₂ (frame_place (j + 1)) 2 n (w + framed n j) → FramesSaved n m m₂ (j + 1) w
  frames-on c r = record {
    marking = record { other = λ y h. r.marking.other y (λ i a b. h i (omega arith) (omega arith)) ∙ c.marking.other y (λ i a b. h i a (omega arith)) };
    pairs = λ q a b l g k. ⊎_elim
        (λ e. subst (λ (q : ℕ). get_or m₂ (mark_place (w + framed n q + a) + b) 0 ≡ get_or m (variable_place (q + 1) a + b) 0) (sym e)
        (r.pairs a b g k ∙ c.marking.other (variable_place (j + 1) a + b) (λ i u v x y. omega arith)))
        (λ h. ⊎_elim (λ h. let o = times-on n q j h in r.marking.other (mark_place (w + framed n q + a) + b) (λ i u v x y. omega arith) ∙ c.pairs q a b h g k) (λ h. absurd (omega arith)) h)
        (three q j);
  }

  pub frames-back-on : FramesBack n m m₁ j w → RowBack m₁ m₂ (frame_place (j + 1)) 2 n (w + framed n j) → FramesBack n m m₂ (j + 1) w
  frames-back-on c r = record {
    other = λ y h. r.other y (λ i b l g e. h j i b (omega arith) l g e) ∙ c.other y (λ q a b l. h q a b (omega arith));
    pairs = λ q a b l g k. ⊎_elim
        (λ e. subst (λ (q : ℕ). get_or m₂ (variable_place (q + 1) a + b) 0 ≡ get_or m (mark_place (w + framed n q + a) + b) 0) (sym e)
        (r.pairs a b g k ∙ c.other (mark_place (w + framed n j + a) + b) (λ q d f u v x e. omega arith)))
        (λ h. ⊎_elim (λ h. r.other (variable_place (q + 1) a + b) (λ i d u v e. omega arith) ∙ c.pairs q a b h g k) (λ h. absurd (omega arith)) h)
        (three q j);
  }

-- ---- words made 0

abbrev blanks : ℕ → List ℕ
blanks n = replicate n 0

-- zeros before all that lies from n on
pub cleared-filled : (m z : List ℕ) (n : ℕ) → n ≤ length m → z ≡ blanks (length (take n m)) → Cleared m (z ++ drop n m) n
cleared-filled m z n l e = subst (λ (z : List ℕ). Cleared m (z ++ drop n m) n) (sym (e ∙ ap blanks len)) record {
  blank = λ x h. get_or_append_left (blanks n) (drop n m) 0 x (omega (arith, zeros, h)) ∙ get_or-replicate n x 0 0 h;
  other = λ x h. get_or-append_right (blanks n) (drop n m) x 0 (omega (arith, zeros, h)) ∙ get_or-drop n m (x - length (blanks n)) 0 ∙ ap (λ (k : ℕ). get_or m k 0) {x = n + (x - length (blanks n))} {y = x} (omega (arith, zeros, h));
}
  where
    len : length (take n m) ≡ n
    len = length-take-le n m l

    zeros : length (blanks n) ≡ n
    zeros = length-replicate n 0
