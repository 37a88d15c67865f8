-- The own pair of a free declaration, read from the code.
use mathlib.Core.Path.{◌≡◌, sym, ap, ap₂, ◌∙◌}
use Prim.Native.Nat.{ℕ, ◌-◌, ◌≤◌}
use lib.ListN.{length, get_or, get_or-eq_default}
use lib.IntN.{ℤ, pos}
use Rattle.semantics.specs.Search.{to, max_z}
use Rattle.simulation.specs.Code.{Code, act, Act}
use Rattle.simulation.specs.Machine.{leaf_number, own_pair_of}
use Rattle.code.specs.Meaning.{as_entry}
use Rattle.code.specs.declared.Entry as C

module _ (c : Code) (e : ℕ) where
  abbrev found : ℤ
  found = leaf_number (get_or c.entries e (act Act.fail))

  pub number_is : (x : C.Entry) (z : ℤ) → as_entry x ≡ get_or c.entries e (act Act.fail) → z ≡ leaf_number (as_entry x) → z ≡ found
  number_is x z q p = p ∙ ap leaf_number q

  pub number-out : length c.entries ≤ e → pos 0 ≡ found
  number-out h = sym (ap leaf_number (get_or-eq_default c.entries (act Act.fail) {n = e} h))

-- the two numbers before an entry, as its pair
module _ (c : Code) (e p q : ℕ) (l h : ℤ) (a : p ≡ e - 2) (b : q ≡ e - 1) (x : l ≡ found c p) (y : h ≡ found c q) where
  pub ends : to l (max_z l h) ≡ own_pair_of (c) e
  ends = ap₂ (λ u v. to u (max_z u v)) (x ∙ ap (found c) a) (y ∙ ap (found c) b)
