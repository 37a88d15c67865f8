use Prim.Native.Nat.{ℕ, ◌+◌}
use mathlib.Core.Path.{refl, ap, ◌∙◌}
use native.Mathlib.Omega.{arith}
use mathlib.Core.List.{[], ◌∷◌}
use Rattle.events.specs.Event.{thing, calls, first, events_at}
use Rattle.events.proofs.Laws.{grown-none, grown-then, grown-as, said, due, due-room, due-next, due-front, due-after, rooted-child, placed}
use Rattle.events.proofs.Nodes.{at-kind, other, call-node, bracket-node, more-args-node, joint, not-joint, joint-node}
use Rattle.events.proofs.Leaves.{name-node, silent-node, silent-expression}
use Rattle.events.proofs.+expression.Goals as goal

pub push-requires : goal.push-requires
push-requires t c = due-room (due c.requires (name-node _ c.node-node.ensures c.in-Name.is c.requires.rooted.holds))

pub arity-count-requires : goal.arity-count-requires
arity-count-requires t c =
    let v = call-node c.node-node.ensures c.in-Call.is c.requires.rooted.holds in
    rooted-child c.requires.rooted v.falls v.holds

pub push-requires-in-Call : goal.push-requires-in-Call
push-requires-in-Call t c =
    let v = call-node c.node-node.ensures c.in-Call.is c.requires.rooted.holds in
    due-room (due c.requires (v.events _))

pub expression-requires : goal.expression-requires
expression-requires t c =
    let v = call-node c.node-node.ensures c.in-Call.is c.requires.rooted.holds in
    (omega (arith, v.falls, c.decreases), placed refl c.requires.rooted v.falls v.holds (v.below c.requires.tokens) (omega (arith, v.falls, c.requires.deep)) (due-next _ _ (due c.requires (v.events _)) c.push-in-Call.ensures))

pub first_token-token-requires : goal.first_token-token-requires
first_token-token-requires t c =
    let v = bracket-node c.node-node.ensures c.in-Bracket.is c.requires.rooted.holds in
    rooted-child c.requires.rooted v.falls v.holds

pub push-requires-in-Bracket : goal.push-requires-in-Bracket
push-requires-in-Bracket t c =
    let v = bracket-node c.node-node.ensures c.in-Bracket.is c.requires.rooted.holds in
    due-room (due c.requires (v.events _))

pub expression-requires-in-Bracket : goal.expression-requires-in-Bracket
expression-requires-in-Bracket t c =
    let v = bracket-node c.node-node.ensures c.in-Bracket.is c.requires.rooted.holds in
    (omega (arith, v.falls, c.decreases), placed refl c.requires.rooted v.falls v.holds (v.below c.requires.tokens) (omega (arith, v.falls, c.requires.deep)) (due-next _ _ (due c.requires (v.events _)) c.push-in-Bracket.ensures))

pub expression-requires-in-MoreArgs : goal.expression-requires-in-MoreArgs
expression-requires-in-MoreArgs t c =
    let v = more-args-node c.node-node.ensures c.in-MoreArgs.is c.requires.rooted.holds in
    (omega (arith, v.falls, c.decreases), placed refl c.requires.rooted v.falls v.holds (v.below c.requires.tokens) (omega (arith, v.falls, c.requires.deep)) (due-front _ _ (due c.requires (v.events _))))

pub first_token-token-requires-in-MoreArgs : goal.first_token-token-requires-in-MoreArgs
first_token-token-requires-in-MoreArgs t c =
    let v = more-args-node c.node-node.ensures c.in-MoreArgs.is c.requires.rooted.holds in
    rooted-child c.requires.rooted v.falls₂ v.holds₂

pub push-requires-in-MoreArgs : goal.push-requires-in-MoreArgs
push-requires-in-MoreArgs t c =
    let v = more-args-node c.node-node.ensures c.in-MoreArgs.is c.requires.rooted.holds in
    due-room (due-after _ _ (due c.requires (v.events _)) (c.expression-in-MoreArgs.ensures.is v.x v.holds))

pub expression-requires-in-MoreArgs-2 : goal.expression-requires-in-MoreArgs-2
expression-requires-in-MoreArgs-2 t c =
    let v = more-args-node c.node-node.ensures c.in-MoreArgs.is c.requires.rooted.holds in
    (omega (arith, v.falls₂, c.decreases), placed refl c.requires.rooted v.falls₂ v.holds₂ (v.below₂ c.requires.tokens) (omega (arith, v.falls₂, c.requires.deep)) (due-next _ _ (due-after _ _ (due c.requires (v.events _)) (c.expression-in-MoreArgs.ensures.is v.x v.holds)) c.push-in-MoreArgs.ensures))

pub expression-requires-in-Times : goal.expression-requires-in-Times
expression-requires-in-Times t c =
    let w = joint-node (joint c.in-Times.is) c.node-node.ensures c.requires.rooted.holds in
    let v = w.two in
    (omega (arith, v.falls, c.decreases), placed (w.same ∙ c.requires.part) c.requires.rooted v.falls v.holds (v.below c.requires.tokens) (omega (arith, v.falls, c.requires.deep)) (due-front _ _ (due c.requires (v.events _))))

pub expression-requires-in-Times-2 : goal.expression-requires-in-Times-2
expression-requires-in-Times-2 t c =
    let w = joint-node (joint c.in-Times.is) c.node-node.ensures c.requires.rooted.holds in
    let v = w.two in
    (omega (arith, v.falls₂, c.decreases), placed (w.same₂ ∙ c.requires.part) c.requires.rooted v.falls₂ v.holds₂ (v.below₂ c.requires.tokens) (omega (arith, v.falls₂, c.requires.deep)) (due-after _ _ (due c.requires (v.events _)) (c.expression-in-Times.ensures.is v.x v.holds)))

pub returns-in-Name : goal.returns-in-Name
returns-in-Name t c = record { is = λ u h. grown-as _ (name-node _ c.node-node.ensures c.in-Name.is h) c.push.ensures }

pub returns-in-Call : goal.returns-in-Call
returns-in-Call t c = record { is = λ u h. let v = call-node c.node-node.ensures c.in-Call.is h in grown-as _ (v.events _) (grown-then _ _ _ (said _ (ap (λ (x : ℕ). calls c.node-node.result.token x) (c.arity-count.ensures.is v.x v.holds)) c.push-in-Call.ensures) (c.expression.ensures.is v.x v.holds)) }

pub returns-in-Bracket : goal.returns-in-Bracket
returns-in-Bracket t c = record { is = λ u h. let v = bracket-node c.node-node.ensures c.in-Bracket.is h in grown-as _ (v.events _) (grown-then _ _ _ (said _ (ap (λ (x : ℕ). thing (c.args.depth + 1) x) (c.first_token-token.ensures.is v.x v.holds)) c.push-in-Bracket.ensures) (c.expression-in-Bracket.ensures.is v.x v.holds)) }

pub returns-in-MoreArgs : goal.returns-in-MoreArgs
returns-in-MoreArgs t c =
    record {
      is = λ u h.
          let v = more-args-node c.node-node.ensures c.in-MoreArgs.is h in
          let d = c.args.depth in
          grown-as _ (v.events d) (grown-then _ (events_at d v.x) (thing d (first v.y) ∷ events_at d v.y) (c.expression-in-MoreArgs.ensures.is v.x v.holds) (grown-then _ (thing d (first v.y) ∷ []) (events_at d v.y) (said _ (ap (λ (x : ℕ). thing d x) (c.first_token-token-in-MoreArgs.ensures.is v.y v.holds₂)) c.push-in-MoreArgs.ensures) (c.expression-in-MoreArgs-2.ensures.is v.y v.holds₂)));
    }

pub returns-in-Times : goal.returns-in-Times
returns-in-Times t c = record { is = λ u h. let v = (joint-node (joint c.in-Times.is) c.node-node.ensures h).two in grown-as _ (v.events _) (grown-then _ _ _ (c.expression-in-Times.ensures.is v.x v.holds) (c.expression-in-Times-2.ensures.is v.y v.holds₂)) }

pub returns-in_default : goal.returns-in_default
returns-in_default t c =
    let n = c.in_default in
    let S = silent-expression c.requires.part (at-kind _ c.node-node.ensures refl c.requires.rooted.holds) (other n.not-Name) (other n.not-Call) (other n.not-Bracket) (not-joint (other n.not-Times) (other n.not-Plus) (other n.not-Minus) (other n.not-Compare) (other n.not-Both) (other n.not-Either)) (other n.not-MoreArgs) in
    record { is = λ u h. grown-none _ (silent-node _ S c.node-node.ensures h) }
