-- The code of a whole program: three entries, its functions, and where they begin.
use Rattle.std.proofs.Common.{◌≡◌, ℕ, ◌%◌, ◌<◌, List, [], ◌∷◌, ◌++◌, length, replicate, ap, ◌∙◌, arith}
use lib.Seq.{sets}
use Rattle.text_rules.specs.Resolve.{part}
use Rattle.simulation.specs.Code.{Entry, Code, call, return, fail, act, entries_of, starts_of, code_of}
use Rattle.compiler.specs.Coded.{word}
use Rattle.compiler.specs.Compile.{Ready, Compiled}
use Rattle.compiler.specs.Pass.{RoomP, Built}
use Rattle.compiler.proofs.Parts.{starts-length}
use Rattle.compiler.proofs.Programs.{filled, same-many}

-- the call of main, and where a call of what is no function goes
abbrev pub opening : ℕ → List Entry
opening g = act (call g 0) ∷ (act return ∷ (act fail ∷ []))

pub opened : {k a b c : List Entry} (g : ℕ) → g < 16 → k ≡ [] → a ≡ k ++ act (call (g % 16) 0) ∷ [] → b ≡ a ++ act return ∷ [] → c ≡ b ++ act fail ∷ [] → c ≡ opening g
opened g h w x y z =
    let m : g % 16 ≡ g = omega arith in
    z ∙ ap (λ (l : List Entry). l ++ act fail ∷ []) (y ∙ ap (λ (l : List Entry). l ++ act return ∷ []) (x ∙ ap (λ (l : List Entry). l ++ act (call (g % 16) 0) ∷ []) w ∙ ap (λ (n : ℕ). act (call n 0) ∷ []) m))

module _ {l : List ℕ} {i : ℕ} {values slots : List ℕ} {g : ℕ} (q : Ready l i values slots g) where
  module _ (c : Code) (e : c.entries ≡ opening g) where
    -- what the code of its functions asks
    pub begun : RoomP l i values slots (length c.entries)
    unfolding code_of
    begun = record {
      rooted = q.rooted;
      tokens = q.tokens;
      within = q.within;
      sound = q.sound;
      due = record { space = omega (arith, q.space, ap (λ (x : List Entry). length x) e) };
      few = q.functions;
    }

    -- with its functions, and where they begin
    pub whole : {d : Code} → c.starts ≡ replicate 16 2 → Built l i values slots c d → Compiled l i values slots g d
    unfolding code_of
    whole s b = record {
      entries = λ p h. b.entries p h ∙ ap (λ (x : List Entry). x ++ entries_of (part (word values) (word slots) p [])) e;
      starts = λ p h.
          let bs = part (word values) (word slots) p [] in
          b.starts p h
          ∙ ap (λ (x : List ℕ). sets x 0 (starts_of (length c.entries) bs)) s
          ∙ ap (λ (x : List Entry). sets (replicate 16 2) 0 (starts_of (length x) bs)) e
          ∙ filled 2 16 (starts_of 3 bs) (omega (arith, same-many (word values) (word slots) h q.rooted.holds, q.functions, starts-length 3 bs));
    }
