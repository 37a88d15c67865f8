-- Cells by their two words.
use mathlib.Core.Path.{◌≡◌, refl, sym, ap, ◌∙◌, subst}
use mathlib.Core.List.{List}
use Prim.Native.Nat.{ℕ, zero, suc, ◌+◌, ◌-◌, ◌≤◌, ◌<◌}
use lib.IntN.{ℤ}
use lib.ListN.{get_or}
use mir.Syntax.{w32}
use mir.Val.{to_z, of_z, SFits}
use mir.Facts.{to_z-of_z, sfits_to_z}
use Rattle.simulation.specs.Code.{Code, Act, act}
use Rattle.code.specs.Meaning.{as_entry}
use Rattle.code.specs.declared.Entry as C
use Rattle.code.specs.declared.Entry.TheVariants as code
use Rattle.machine.specs.Memory.{cell_read_as}
use Rattle.machine.specs.Terms.{cell_of, Sized, Holds, Taking}
use Rattle.machine.specs.declared.Value.{Value}
use Rattle.machine.specs.declared.Value.TheVariants.{Known}
use Rattle.machine.specs.declared.Run.{Run}
use Rattle.machine.proofs.Operands.{taking-number}
use Rattle.known_steps.specs.Cells.{value_as}

pub cell_as : (k x : ℕ) → cell_of (value_as k x) ≡ cell_read_as k x
cell_as zero x = refl
cell_as (suc k) x = refl

-- whichever word says that a cell is open
pub open-as : (k x : ℕ) → (k ≡ 0 → ⊥) → cell_read_as 1 x ≡ cell_read_as k x
open-as zero x n = absurd (n refl)
open-as (suc k) x n = refl

pub sized-as : (k x : ℕ) → x < 4294967296 → Sized (value_as k x)
sized-as zero x l = sfits_to_z {w = w32} {n = x} (record { fits = l })
sized-as (suc k) x l = l

-- the two words at a place are its cell
pub holds-words : (m : List ℕ) (i : ℕ) → get_or m (i + 1) 0 < 4294967296 → Holds m i (value_as (get_or m i 0) (get_or m (i + 1) 0))
holds-words m i l = record { is = cell_as (get_or m i 0) (get_or m (i + 1) 0); sized = sized-as (get_or m i 0) (get_or m (i + 1) 0) l }

-- a number's word is an operand that is known
pub taking-word : (c : Code) (m : List ℕ) (r : Run) (j : ℕ) (x : C.Entry) → (j ≡ 0 → ⊥) → as_entry x ≡ get_or c.entries (j - 1) (act Act.fail) → (z : ℤ) → SFits w32 z → x ≡ code.Number z → (w : ℕ) → w ≡ of_z w32 (to_z w32 (of_z w32 z))
    → r.base ≤ r.top → Taking c m r j (value_as 0 w) r.top
taking-word c m r j x h q z s e w u g = subst (λ (z : ℤ). Taking c m r j (Known z) r.top) (sym (ap (to_z w32) (u ∙ ap (of_z w32) (to_z-of_z s)) ∙ to_z-of_z s)) (taking-number c m r j x h q z s e g)

-- an operand whose first word is 0 is known
pub taking-known : (c : Code) (m : List ℕ) (r : Run) (j k x top : ℕ) → k ≡ 0 → Taking c m r j (value_as k x) top → Taking c m r j (Known (to_z w32 x)) top
taking-known c m r j k x top e t = subst (λ (v : Value). Taking c m r j v top) (ap (λ (k : ℕ). value_as k x) e) t
