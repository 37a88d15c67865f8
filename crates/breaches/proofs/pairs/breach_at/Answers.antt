use mathlib.Core.Path.{ap}
use mir.Facts.{to_z-of_z}
use Rattle.syntax.specs.TokenKinds.{kind_number}
use Rattle.syntax.proofs.SameKinds.{same-token}
use Rattle.breaches.specs.Pairs.{wide_rule}
use Rattle.breaches.proofs.OwnPairs.{not_free, plain-free, breach-found, breach-none}
use Rattle.breaches.proofs.pairs.breach_at.Goals as goal

pub returns-in_default : goal.returns-in_default
returns-in_default c =
    not_free c.args.source.now.kinds c.args.source.now.values (wide_rule c.args.rule) c.args.i _ c.kind.ensures (λ e. c.in_default.not-Free (same-token e))

pub returns-in-Semi : goal.returns-in-Semi
returns-in-Semi c =
    plain-free c.args.source.now.kinds c.args.source.now.values (wide_rule c.args.rule) c.args.i c.kind.ensures (ap kind_number c.in-Free.is) _ c.kind-2.ensures (ap kind_number c.in-Semi.is)

pub returns-then-breaks : goal.returns-then-breaks
returns-then-breaks c =
    let says = rw (to_z-of_z (record { sfits = c.signed-low.type_inv }), to_z-of_z (record { sfits = c.signed-high.type_inv })) at c.breaks.ensures in
    breach-found c.args.source.now.kinds c.args.source.now.values (wide_rule c.args.rule) c.args.i c.kind.ensures (ap kind_number c.in-Free.is) c.kind-2.ensures (λ e. c.in_default-kind.not-Semi (same-token e))
    c.is_minus-minus.ensures c.number_token-number.ensures c.value.ensures c.signed-low.ensures.0 c.is_minus-second.ensures c.number_token.ensures c.value-2.ensures c.signed-high.ensures.0 says _ c.if-breaks.true c.lesser.ensures

pub returns : goal.returns
returns c =
    let says = rw (to_z-of_z (record { sfits = c.signed-low.type_inv }), to_z-of_z (record { sfits = c.signed-high.type_inv })) at c.breaks.ensures in
    breach-none c.args.source.now.kinds c.args.source.now.values (wide_rule c.args.rule) c.args.i c.kind.ensures (ap kind_number c.in-Free.is) c.kind-2.ensures (λ e. c.in_default-kind.not-Semi (same-token e))
    c.is_minus-minus.ensures c.number_token-number.ensures c.value.ensures c.signed-low.ensures.0 c.is_minus-second.ensures c.number_token.ensures c.value-2.ensures c.signed-high.ensures.0 says _ c.if-breaks.false
