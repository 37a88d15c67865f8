-- Which cells a code uses, up to one of its entries.
use mathlib.Core.Path.{sym, subst}
use mathlib.Core.Logic.{⊎_elim}
use Prim.Native.Nat.{ℕ, ◌+◌, ◌≤◌, ◌<◌}
use native.Mathlib.Omega.{arith}
use native.Mathlib.Decide.{dec_lt}
use lib.ListN.{length, get_or, get_or-eq_default}
use Rattle.simulation.specs.Code.{Code, Entry, act, Act}
use Rattle.simulation.specs.Cells.{Fills, Uses}
use Rattle.simulation.proofs.Cells.{fills-more}
use Rattle.machine.proofs.Stays.{three}

module _ (c : Code) where
  abbrev at : ℕ → Entry
  at i = get_or c.entries i (act Act.fail)

  pub uses-so : (n : ℕ) → ((i : ℕ) → i < length c.entries → Fills n (at i)) → Uses c n
  uses-so n h = record { each = λ i. by i (dec_lt i (length c.entries)) }
    where
      by : (i : ℕ) → Dec (i < length c.entries) → Fills n (at i)
      by i (yes l) = h i l
      by i (no l) = subst (Fills n) (sym (get_or-eq_default c.entries (act Act.fail) {n = i} (omega arith))) tt

  -- one entry more
  pub one_more : (e n r k : ℕ) → ((i : ℕ) → i < e → Fills n (at i)) → Fills r (at e) → n ≤ k → r ≤ k → (i : ℕ) → i < e + 1 → Fills k (at i)
  one_more e n r k h x a b i l = ⊎_elim (λ q. subst (λ (i : ℕ). Fills k (at i)) (sym q) (fills-more r k b (at e) x))
      (λ q. ⊎_elim (λ q. fills-more n k a (at i) (h i q)) (λ q. absurd (omega arith)) q) (three i e)
