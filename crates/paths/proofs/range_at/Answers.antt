use Prim.Native.Nat.{ℕ, zero, suc, ◌-◌}
use mathlib.Core.Path.{◌≡◌, refl, ap₂, ◌∙◌}
use native.Mathlib.Omega.{arith}
use Rattle.semantics.specs.Program.{Window}
use Rattle.semantics.specs.Search.{span, fitted}
use Rattle.ints.specs.Numbers as numbers
use Rattle.machine.specs.Kinds.{node_op}
use Rattle.paths.proofs.Table.{kind, range-op}
use Rattle.paths.proofs.range_at.Goals as goal

less : (n : ℕ) → (n ≡ 0 → ⊥) → n ≡ suc (n - 1)
less zero h = absurd (h refl)
less (suc n) h = omega arith

pub returns : goal.returns
returns c =
    let o : ℕ = node_op (kind c.args.mem.now c.args.j) - 1 in
    rw c.from.ensures at c.range.ensures ∙ ap₂ (λ (v w : Window). fitted (span (numbers.operation o) v w)) c.cell_range-v.ensures c.cell_range-w.ensures
    ∙ range-op c.args.mem.now c.args.k c.args.j o (less (node_op (kind c.args.mem.now c.args.j)) c.if-op-eq-FREE.false)
