-- Tables that grow at their end, and what the leaves read of them.
use mathlib.Core.Path.{◌≡◌, refl, sym, ap, ap₂, ◌∙◌, subst}
use mathlib.Core.List.{List, [], ◌∷◌, ◌++◌}
use mathlib.Core.Logic.{⊎_elim}
use Prim.Native.Nat.{ℕ, zero, suc, ◌+◌, ◌-◌, ◌≤◌, ◌<◌}
use native.Mathlib.Nat.{eq-or-lt_of_le}
use native.Mathlib.Numerals.{add-one, unary_clauses}
use native.Mathlib.Omega.{arith}
use lib.ListN.{length, get_or, set, length-append, get_or-append, get_or-eq_default}
use lib.Seq.{get_or_at, get_or-set_same, get_or-set_other}
use lib.IntN.{ℤ, pos, suc_ℤ, ◌+ℤ◌, +ℤ_one}
use lib.Dec.{T}
use lib.Signed.{lt_z}
use mir.Syntax.{w32}
use mir.Val.{to_z, of_z, Fits, SFits}
use mir.Facts.{to_z-of_z, sfits_to_z}
use Rattle.semantics.specs.Int as int
use Rattle.semantics.proofs.Order.{lt_z→}
use Rattle.intervals.proofs.Narrow.{suc-fits}
use Rattle.simulation.specs.Nodes.{Cell, Known, Open, cell, node, number_in}
use Rattle.ints.specs.Numbers as numbers
use Rattle.machine.specs.Layout.{number_place}
use Rattle.machine.specs.Memory.{cell_read_as, node_by, node_at, nodes_in, setting_in, numbers_in}
use Rattle.settings.specs.Table.{value_at, Wrote}

-- ---- what stands at each place of a table that grows at its end

module _ {A : Type 0} (f : ℕ → A) where
  unfoldable pub up_to : ℕ → List A
  up_to zero = []
  up_to (suc n) = up_to n ++ f n ∷ []

  pub up_to-length : (n : ℕ) → length (up_to n) ≡ n
  unfolding up_to
  up_to-length zero = refl
  up_to-length (suc n) = length-append (up_to n) (f n ∷ []) ∙ ap (λ k. k + 1) (up_to-length n) ∙ add-one n

  pub up_to-at : (n i : ℕ) (d : A) → i < n → get_or (up_to n) i d ≡ f i
  unfolding up_to
  up_to-at zero i d h = absurd (omega arith)
  up_to-at (suc n) i d h = ⊎_elim
      (λ e. get_or_at (up_to n) (f n) [] d i (up_to-length n ∙ sym e) ∙ ap f (sym e))
      (λ l. get_or-append (up_to n) (f n ∷ []) d i (omega (arith, up_to-length n)) ∙ up_to-at n i d (omega arith))
      (eq-or-lt_of_le {n = i} {m = n} (omega arith))

  pub up_to-none : (n i : ℕ) (d : A) → n ≤ i → get_or (up_to n) i d ≡ d
  up_to-none n i d h = get_or-eq_default (up_to n) d (omega (arith, up_to-length n))

pub up_to-same : {A : Type 0} (f g : ℕ → A) (n : ℕ) → ((j : ℕ) → j < n → f j ≡ g j) → up_to f n ≡ up_to g n
unfolding up_to
up_to-same f g zero h = refl
up_to-same f g (suc n) h = ap₂ (λ l x. l ++ x ∷ []) (up_to-same f g n (λ j l. h j (omega arith))) (h n (omega arith))

abbrev pub number_word : List ℕ → ℕ → ℤ
number_word m j = to_z w32 (get_or m (number_place j) 0)

pub setting-is : (m : List ℕ) (n : ℕ) → setting_in m n ≡ up_to (value_at m) n
unfolding setting_in up_to
setting-is m zero = refl
setting-is m (suc n) = ap (λ l. l ++ value_at m n ∷ []) (setting-is m n)

pub numbers-is : (m : List ℕ) (n : ℕ) → numbers_in m n ≡ up_to (number_word m) n
unfolding numbers_in up_to
numbers-is m zero = refl
numbers-is m (suc n) = ap (λ l. l ++ number_word m n ∷ []) (numbers-is m n)

pub nodes-is : (m : List ℕ) (n : ℕ) → nodes_in m n ≡ up_to (node_at m) n
unfolding nodes_in up_to
nodes-is m zero = refl
nodes-is m (suc n) = ap (λ l. l ++ node_at m n ∷ []) (nodes-is m n)

-- ---- the setting

pub setting-length : (m : List ℕ) (n : ℕ) → length (setting_in m n) ≡ n
setting-length m n = ap length (setting-is m n) ∙ up_to-length (value_at m) n

pub setting-at : (m : List ℕ) (k i : ℕ) → i < k → value_at m i ≡ get_or (setting_in m k) i (pos 0)
setting-at m k i h = sym (ap (λ l. get_or l i (pos 0)) (setting-is m k) ∙ up_to-at (value_at m) k i (pos 0) h)

pub setting-none : (m : List ℕ) (k i : ℕ) → k ≤ i → pos 0 ≡ get_or (setting_in m k) i (pos 0)
setting-none m k i h = sym (ap (λ l. get_or l i (pos 0)) (setting-is m k) ∙ up_to-none (value_at m) k i (pos 0) h)

-- ---- a cell's number

pub closed-number : (zs : List ℤ) (o x : ℕ) → o ≡ 0 → to_z w32 x ≡ number_in zs (cell_read_as o x)
closed-number zs o x e = ap (λ (k : ℕ). number_in zs (cell_read_as k x)) (sym e)

open-number : (zs : List ℤ) (o x : ℕ) → (o ≡ 0 → ⊥) → get_or zs x (pos 0) ≡ number_in zs (cell_read_as o x)
open-number zs zero x h = absurd (h refl)
open-number zs (suc n) x h = refl

pub word-there : (m : List ℕ) (n x : ℕ) → x < n → number_word m x ≡ get_or (numbers_in m n) x (pos 0)
word-there m n x l = sym (ap (λ l. get_or l x (pos 0)) (numbers-is m n) ∙ up_to-at (number_word m) n x (pos 0) l)

pub word_none : (m : List ℕ) (n x : ℕ) → n ≤ x → pos 0 ≡ get_or (numbers_in m n) x (pos 0)
word_none m n x l = sym (ap (λ l. get_or l x (pos 0)) (numbers-is m n) ∙ up_to-none (number_word m) n x (pos 0) l)

pub number-there : (m : List ℕ) (n o x : ℕ) → (o ≡ 0 → ⊥) → x < n → number_word m x ≡ number_in (numbers_in m n) (cell_read_as o x)
number-there m n o x h l = word-there m n x l ∙ open-number (numbers_in m n) o x h

pub number-none : (m : List ℕ) (n o x : ℕ) → (o ≡ 0 → ⊥) → n ≤ x → pos 0 ≡ number_in (numbers_in m n) (cell_read_as o x)
number-none m n o x h l = word_none m n x l ∙ open-number (numbers_in m n) o x h

-- ---- a node's number

module _ (free : ℕ → ℤ) (zs : List ℤ) where
  cell-is : (v : Cell) → number_in zs v ≡ cell (λ z. z) free int.arith zs v
  cell-is (Known z) = refl
  cell-is (Open j) = refl

  pub node-free : (r x : ℕ) (a b : Cell) → r ≡ 0 → free x ≡ node (λ z. z) free int.arith zs (node_by r x a b)
  node-free r x a b e = ap (λ (k : ℕ). node (λ z. z) free int.arith zs (node_by k x a b)) (sym e)

  pub node-works : (r x : ℕ) (a b : Cell) → (r ≡ 0 → ⊥) → int.arith (numbers.operation (r - 1)) (number_in zs a) (number_in zs b) ≡ node (λ z. z) free int.arith zs (node_by r x a b)
  node-works zero x a b h = absurd (h refl)
  node-works (suc n) x a b h = simp unary_clauses (ap₂ (int.arith (numbers.operation n)) (cell-is a) (cell-is b))

-- ---- a word is written

pub wrote : (m : List ℕ) (i w : ℕ) {z : ℤ} → i < length m → to_z w32 w ≡ z → Wrote m (set m i w) i z
wrote m i w h e = record {
  other = record { outside = λ k l. get_or-set_other m i k w 0 (λ q. l (omega arith) (omega arith)) };
  is = ap (to_z w32) (get_or-set_same m i w 0 h) ∙ e;
}

pub word_of : {r : ℤ} (w : ℕ) → SFits w32 r → w ≡ of_z w32 (to_z w32 (of_z w32 r)) → to_z w32 w ≡ r
word_of w f q = ap (to_z w32) (rw (to_z-of_z f) at q) ∙ to_z-of_z f

-- ---- a number goes up by one

pub raised-fits : {r : ℤ} (v h : ℕ) → SFits w32 r → r ≡ to_z w32 v → Fits w32 h → T (lt_z (to_z w32 v) (to_z w32 h)) → SFits w32 (to_z w32 (of_z w32 r) +ℤ pos 1)
raised-fits {r} v h f e g t = rw (to_z-of_z f) (suc-fits r (to_z w32 h) f (sfits_to_z g) (lt_z→ r (to_z w32 h) (subst (λ (z : ℤ). T (lt_z z (to_z w32 h))) (sym e) t)))

pub raised : {r : ℤ} (w v : ℕ) → SFits w32 r → SFits w32 (to_z w32 (of_z w32 r) +ℤ pos 1) → r ≡ to_z w32 v → w ≡ of_z w32 (to_z w32 (of_z w32 (to_z w32 (of_z w32 r) +ℤ pos 1))) → to_z w32 w ≡ suc_ℤ (to_z w32 v)
raised {r} w v f g e q = word_of w g q ∙ ap (λ (z : ℤ). z +ℤ pos 1) (to_z-of_z f) ∙ +ℤ_one r ∙ ap suc_ℤ e
