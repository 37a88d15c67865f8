use mathlib.Core.Path.{◌∙◌, sym}
use mathlib.Core.Bool.{true, false}
use native.Mathlib.Omega.{arith}
use Rattle.settings.proofs.Pass.{meets-none, meets-one}
use Rattle.settings.proofs.meets.Goals as goal

pub returns-then-not-holds_at : goal.returns-then-not-holds_at
returns-then-not-holds_at c =
    sym (c.loop-j.invariant.1 ∙ meets-one c.args.mem.now c.args.n c.loop-j.j false (omega arith)
    (sym c.holds_at.ensures ∙ c.if-not-holds_at.true))

pub loop-j-preserved : goal.loop-j-preserved
loop-j-preserved c = (
  omega arith,
  c.loop-j.invariant.1 ∙ meets-one c.args.mem.now c.args.n c.loop-j.j true (omega arith)
      (sym c.holds_at.ensures ∙ c.if-not-holds_at.false),
)

pub returns : goal.returns
returns c = sym (c.loop-j.invariant.1 ∙ meets-none _ _ c.loop-j.j (omega arith))
