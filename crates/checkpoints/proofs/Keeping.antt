-- All that is live is copied to marks, and back.
use mathlib.Core.Path.{◌≡◌, ◌∙◌, subst}
use mathlib.Core.List.{List}
use Prim.Native.Nat.{ℕ, ◌+◌, ◌*◌, ◌≤◌, ◌<◌}
use native.Mathlib.Omega.{arith}
use lib.ListN.{get_or}
use Rattle.machine.specs.Layout.{frame_words, variable_place, callers_place, caller_place, windows_place, window_low, tables_place, stride, temp_place, mark_place}
use Rattle.paths.specs.declared.Point.{Point}
use Rattle.checkpoints.specs.Live.{framed, called, windowed, live_pairs, Marking, RowSaved, RowBack, FramesSaved, FramesBack, Cleared}
use Rattle.checkpoints.specs.Words.{Lives, Back}
use Rattle.checkpoints.proofs.Places.{times-on}

module _ (n : ℕ) (p : Point) (w : ℕ) (few : n ≤ 16) (deep : p.run.depth ≤ 32) (eight : p.windows ≤ 8) where
  abbrev d : ℕ
  d = p.run.depth

  abbrev k : ℕ
  k = p.windows

  abbrev t : ℕ
  t = p.run.top

  -- ---- to marks

  module _ (m m₁ m₂ m₃ m₄ : List ℕ) (a : FramesSaved n m m₁ d w) (b : RowSaved m₁ m₂ callers_place 2 d (w + framed n d)) (c₀ : RowSaved m₂ m₃ windows_place 2 k (w + framed n d + d))
      (e₀ : RowSaved m₃ m₄ tables_place stride t (w + framed n d + d + k)) where
    c : RowSaved m₂ m₃ windows_place 2 k (w + called n d)
    c = subst (RowSaved m₂ m₃ windows_place 2 k) {x = w + framed n d + d} {y = w + called n d} (omega arith) c₀

    e : RowSaved m₃ m₄ tables_place stride t (w + windowed n d k)
    e = subst (RowSaved m₃ m₄ tables_place stride t) {x = w + framed n d + d + k} {y = w + windowed n d k} (omega arith) e₀

    pub lives-so : Lives n m₄ m p w
    lives-so = record {
      frames = λ j q r l g h.
          let o = times-on n j d l in
          e.marking.other (mark_place (w + framed n j + q) + r) (λ i x y u v. omega arith) ∙ c.marking.other (mark_place (w + framed n j + q) + r) (λ i x y u v. omega arith)
          ∙ b.marking.other (mark_place (w + framed n j + q) + r) (λ i x y u v. omega arith) ∙ a.pairs j q r l g h;
      callers = λ j r l h.
          e.marking.other (mark_place (w + framed n d + j) + r) (λ i x y u v. omega arith) ∙ c.marking.other (mark_place (w + framed n d + j) + r) (λ i x y u v. omega arith)
          ∙ b.pairs j r l h ∙ a.marking.other (caller_place j + r) (λ i x y u v. omega arith);
      windows = λ j r l h.
          e.marking.other (mark_place (w + called n d + j) + r) (λ i x y u v. omega arith) ∙ c.pairs j r l h
          ∙ b.marking.other (window_low j + r) (λ i x y u v. omega arith) ∙ a.marking.other (window_low j + r) (λ i x y u v. omega arith);
      temporaries = λ j r l h.
          e.pairs j r l h ∙ c.marking.other (temp_place j + r) (λ i x y u v. omega arith) ∙ b.marking.other (temp_place j + r) (λ i x y u v. omega arith) ∙ a.marking.other (temp_place j + r) (λ i x y u v. omega arith);
    }

    pub marking-so : Marking m m₄ w (live_pairs n p)
    marking-so = record {
      other = λ x h. e.marking.other x (λ i u v. h i (omega arith) (omega arith)) ∙ c.marking.other x (λ i u v. h i (omega arith) (omega arith)) ∙ b.marking.other x (λ i u v. h i (omega arith) (omega arith))
          ∙ a.marking.other x (λ i u v. h i u (omega arith));
    }

  -- ---- and back

  module _ (m m₁ m₂ m₃ m₄ m₅ : List ℕ) (z : Cleared m m₁ (frame_words * (d + 1))) (a : FramesBack n m₁ m₂ d w) (b : RowBack m₂ m₃ callers_place 2 d (w + framed n d))
      (c₀ : RowBack m₃ m₄ windows_place 2 k (w + framed n d + d)) (e₀ : RowBack m₄ m₅ tables_place stride t (w + framed n d + d + k)) where
    c' : RowBack m₃ m₄ windows_place 2 k (w + called n d)
    c' = subst (RowBack m₃ m₄ windows_place 2 k) {x = w + framed n d + d} {y = w + called n d} (omega arith) c₀

    e' : RowBack m₄ m₅ tables_place stride t (w + windowed n d k)
    e' = subst (RowBack m₄ m₅ tables_place stride t) {x = w + framed n d + d + k} {y = w + windowed n d k} (omega arith) e₀

    -- a word behind the frames, callers and windows, where those were written
    behind₂ : (x : ℕ) → callers_place ≤ x → get_or m₂ x 0 ≡ get_or m x 0
    behind₂ x l = a.other x (λ j q r u v g y. omega arith) ∙ z.other x (omega arith)

    behind₃ : (x : ℕ) → windows_place ≤ x → get_or m₃ x 0 ≡ get_or m x 0
    behind₃ x l = b.other x (λ i r u v y. omega arith) ∙ behind₂ x (omega arith)

    behind₄ : (x : ℕ) → windows_place + 16 ≤ x → get_or m₄ x 0 ≡ get_or m x 0
    behind₄ x l = c'.other x (λ i r u v y. omega arith) ∙ behind₃ x (omega arith)

    -- a word before the windows, the callers, the tables
    before₅ : (x : ℕ) → x < tables_place → get_or m₅ x 0 ≡ get_or m₄ x 0
    before₅ x l = e'.other x (λ i r u v y. omega arith)

    before₄ : (x : ℕ) → x < windows_place → get_or m₅ x 0 ≡ get_or m₃ x 0
    before₄ x l = before₅ x (omega arith) ∙ c'.other x (λ i r u v y. omega arith)

    before₃ : (x : ℕ) → x < callers_place → get_or m₅ x 0 ≡ get_or m₂ x 0
    before₃ x l = before₄ x (omega arith) ∙ b.other x (λ i r u v y. omega arith)

    pub back-so : Back n m m₅ p w
    back-so = record {
      unused = record {
        first = λ x l. before₃ x (omega arith) ∙ a.other x (λ j q r u v g y. omega arith) ∙ z.blank x (omega arith);
        slim = record { rest = λ j q r l g h f. before₃ (variable_place j q + r) (omega arith) ∙ a.other (variable_place j q + r) (λ i s y u v o x. omega arith) ∙ z.blank (variable_place j q + r) (omega arith) };
      };
      alive = λ m₀ h. record {
        frames = λ j q r l g f. before₃ (variable_place (j + 1) q + r) (omega arith) ∙ a.pairs j q r l g f ∙ z.other (mark_place (w + framed n j + q) + r) (omega arith) ∙ h.frames j q r l g f;
        callers = λ j r l f. before₄ (caller_place j + r) (omega arith) ∙ b.pairs j r l f ∙ behind₂ (mark_place (w + framed n d + j) + r) (omega arith) ∙ h.callers j r l f;
        windows = λ j r l f. before₅ (window_low j + r) (omega arith) ∙ c'.pairs j r l f ∙ behind₃ (mark_place (w + called n d + j) + r) (omega arith) ∙ h.windows j r l f;
        temporaries = λ j r l f. e'.pairs j r l f ∙ behind₄ (mark_place (w + windowed n d k + j) + r) (omega arith) ∙ h.temporaries j r l f;
      };
      other = λ x l h. e'.other x (λ i r u v y. h i r u v y) ∙ behind₄ x l;
    }
