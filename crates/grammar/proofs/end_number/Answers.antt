use Rattle.std.proofs.Common.{rules}
use Rattle.syntax.specs.declared.token.TokenKind.TheVariants as kind
use Rattle.grammar.proofs.Ends.{minus_number, plain-number, minus-inside}
use Rattle.grammar.proofs.Steps.{is_kind, not_kind}
use Rattle.grammar.proofs.end_number.Goals as goal

pub returns-then-eq : goal.returns-then-eq
returns-then-eq c =
    let h = is_kind kind.Minus c.kind.ensures (search rules) in
    (minus_number c.args.source.now.kinds c.args.at h, minus-inside c.requires h)

pub returns : goal.returns
returns c = (plain-number c.args.source.now.kinds c.args.at (not_kind kind.Minus c.kind.ensures (search rules)), c.requires.inside)
