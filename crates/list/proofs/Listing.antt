-- List, from its grounds, the code of the text and the search.
use Prim.Native.Nat.{ℕ, ◌≤◌}
use mathlib.Core.Path.{◌≡◌, refl, sym, ap, ◌∙◌}
use mathlib.Core.Bool.{Bool, true, false, cond, ◌||◌}
use mathlib.Core.List.{List}
use Rattle.std.specs.Prelude.{Option, None, Some, Ok, Err}
use native.Mathlib.Omega.{arith}
use lib.ListN.{length}
use lib.Dec.{ltb, eqb}
use lib.IntN.{ℤ, pos, negsuc}
use lib.Signed.{le_z, lt_z}
use borrow.Author.Tests.{ltb-false, le-leb}
use Rattle.syntax.specs.Refusals.{number_of}
use Rattle.syntax.specs.declared.refusal.Reason.{Reason}
use Rattle.syntax.specs.declared.refusal.Refusal.{Refusal}
use Rattle.checker.specs.Check.{Verdict, checked}
use Rattle.semantics.specs.Run.{numbers}
use Rattle.semantics.specs.Search as S
use Rattle.semantics.specs.Search.{known, work, to, in_use}
use Rattle.list.specs.List.{job_of, ground, Left, answering, places, list}
use Rattle.list.specs.Parts.{leaves}
use Rattle.simulation.specs.Code.{Code}
use Rattle.list.specs.Code.{Translates, refuses, has, Searches}
use Rattle.list.proofs.Values.{neither}
use Rattle.list.proofs.Sure.{never_stuck}

-- ---- without a ground

-- no ground: scratch has its words, the window is filled, the step limit is in its bounds
pub record Groundless (words : ℕ) (low high : ℤ) (steps : ℕ) : Type 0 where
  pub scratch : 16384 ≤ words
  pub window : le_z low high ≡ true
  pub limit : steps ≤ 1000

past : (b : Bool) (n : ℕ) (o : Option ℕ) → cond b (Some n) o ≡ None → (b ≡ false) × (o ≡ None)
past true n o e = let z : ◌≡◌ {A = ℕ} 0 1 = cc in absurd (omega arith)
past false n o e = (refl, e)

le_of : (a b : ℤ) → lt_z b a ≡ false → le_z a b ≡ true
le_of (pos a) (pos b) e = le-leb a b (ltb-false b a e)
le_of (pos a) (negsuc b) e = absurd (let z : ◌≡◌ {A = ℕ} 0 1 = cc in omega arith)
le_of (negsuc a) (pos b) e = refl
le_of (negsuc a) (negsuc b) e = le-leb b a (ltb-false a b e)

pub groundless : (words : ℕ) (low high : ℤ) (steps : ℕ) → None ≡ ground words low high steps → Groundless words low high steps
unfolding ground
groundless words low high steps e =
    let a = past (ltb words 16384) 11 _ (sym e) in
    let b = past (lt_z high low) 12 _ a.1 in
    let c = past (ltb 4096 (length (numbers (to low high)))) 13 _ b.1 in
    let d = past (eqb steps 0 || ltb 1000 steps) 14 _ c.1 in
    record {
      scratch = ltb-false words 16384 a.0;
      window = le_of low high b.0;
      limit = ltb-false 1000 steps (neither (eqb steps 0) (ltb 1000 steps) d.0);
    }

-- ---- the answer

module _ (text : List ℕ) (low high : ℤ) (steps skip budget : ℕ) (rows : List ℤ) (scratch : List ℕ) where
  -- the answer by the grounds and by check
  abbrev by : Option ℕ → Verdict → Left
  by = answering rows scratch (S.listed in_use (job_of text low high steps) skip (places rows) budget)

  -- 11 to 14
  pub list-grounded : (r : Reason) → Some (number_of r) ≡ ground (length scratch) low high steps → leaves (Err (record { reason = r; place = 0 })) rows scratch ≡ list text low high steps skip budget rows scratch
  unfolding list
  list-grounded r e = ap (λ (g : Option ℕ). by g (checked text)) e

  -- "then as check"
  module _ (free : None ≡ ground (length scratch) low high steps) where
    list-checked : (v : Verdict) → v ≡ checked text → by None v ≡ list text low high steps skip budget rows scratch
    unfolding list
    list-checked v e = ap (by None) e ∙ ap (λ (g : Option ℕ). by g (checked text)) free

    pub list-refused : {code : Code} {r : Refusal} → Translates text code (Err r) (checked text) → leaves (Err r) rows scratch ≡ list text low high steps skip budget rows scratch
    list-refused {code} {r} t = go (checked text) refl t
      where
        go : (v : Verdict) → v ≡ checked text → Translates text code (Err r) v → leaves (Err r) rows scratch ≡ list text low high steps skip budget rows scratch
        go v e refuses = list-checked v e

    -- "Else scratch is left all zero, with rows written, moves made and an ending"
    pub list-searched : {code : Code} {left : Left} → Translates text code (Ok tt) (checked text) → Searches code low high steps skip budget rows scratch left → left ≡ list text low high steps skip budget rows scratch
    list-searched {code} {left} t s = go (checked text) refl t
      where
        go : (v : Verdict) → v ≡ checked text → Translates text code (Ok tt) v → left ≡ list text low high steps skip budget rows scratch
        go v e (has c) = s.is text c.placed (never_stuck text (sym e) known work steps) ∙ list-checked v e
