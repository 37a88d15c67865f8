use Prim.Native.Nat.{ℕ, ◌+◌, min}
use native.Mathlib.Omega.{arith}
use mathlib.Core.Path.{sym, ◌∙◌, ap}
use lib.ListN.{drop}
use Rattle.lexer.specs.Lex.{decimal, digits_of}
use Rattle.lexer.specs.Parts.{limit}
use Rattle.lexer.proofs.Numbers.{value-more, value-end}
use Rattle.lexer.proofs.number_value.Goals as goal

pub loop-b-preserved : goal.loop-b-preserved
loop-b-preserved c =
    let more = value-more c.args.number.now c.loop-b.b-index c.loop-b.value c.loop-b-test.true ∙ ap (λ (v' : ℕ). min (decimal v' (digits_of (drop (c.loop-b.b-index + 1) c.args.number.now))) limit) (sym c.with_byte-value.ensures) in
    (omega (arith, c.with_byte-value.ensures), c.loop-b.invariant.1 ∙ more)

pub returns : goal.returns
returns c =
    sym (c.loop-b.invariant.1 ∙ ap (λ (v : ℕ). min v limit) (value-end c.args.number.now c.loop-b.b-index c.loop-b.value c.loop-b-test.false) ∙ omega (arith, c.loop-b.invariant.0))
