use mathlib.Core.Path.{refl, ◌∙◌}
use mathlib.Core.Bool.{not}
use mathlib.Core.List.{[], ◌∷◌, ◌++◌}
use native.Mathlib.Omega.{arith}
use Rattle.events.specs.Event.{function, parameter, ends, closing, stops, events_at}
use Rattle.events.proofs.Laws.{grown-none, grown-then, grown-as, said, due, due-room, due-next, due-front, due-after, rooted-child, placed}
use Rattle.events.proofs.Nodes.{at-kind, other, more-params-node, function-node, more-funs-node}
use Rattle.events.proofs.Leaves.{closing-node, ends-said, silent-node, silent-program}
use Rattle.events.proofs.+program.Goals as goal

pub program-requires : goal.program-requires
program-requires t c =
    let v = more-params-node c.node-node.ensures c.in-MoreParams.is c.requires.rooted.holds in
    (omega (arith, v.falls, c.decreases), placed refl c.requires.rooted v.falls v.holds (v.below c.requires.tokens) (omega (arith, v.falls, c.requires.deep)) (due-front _ _ (due c.requires (v.events _))))

pub push-requires : goal.push-requires
push-requires t c =
    let v = more-params-node c.node-node.ensures c.in-MoreParams.is c.requires.rooted.holds in
    due-room (due-after _ _ (due c.requires (v.events _)) (c.program.ensures.is v.x v.holds))

pub push-requires-in-Function : goal.push-requires-in-Function
push-requires-in-Function t c =
    let v = function-node c.node-node.ensures c.in-Function.is c.requires.rooted.holds in
    due-room (due c.requires (v.events _))

pub program-requires-in-Function : goal.program-requires-in-Function
program-requires-in-Function t c =
    let v = function-node c.node-node.ensures c.in-Function.is c.requires.rooted.holds in
    (omega (arith, v.falls, c.decreases), placed refl c.requires.rooted v.falls v.holds (v.below c.requires.tokens) (omega (arith, v.falls, c.requires.deep)) (due-front _ _ (due-next _ _ (due c.requires (v.events _)) c.push-in-Function.ensures)))

pub statement-requires : goal.statement-requires
statement-requires t c =
    let v = function-node c.node-node.ensures c.in-Function.is c.requires.rooted.holds in
    placed refl c.requires.rooted v.falls₂ v.holds₂ (v.below₂ c.requires.tokens) (omega (arith, v.falls₂, c.requires.deep)) (due-front _ _ (due-after _ _ (due-next _ _ (due c.requires (v.events _)) c.push-in-Function.ensures) (c.program-in-Function.ensures.is v.x v.holds)))

pub stops-open-requires : goal.stops-open-requires
stops-open-requires t c =
    let v = function-node c.node-node.ensures c.in-Function.is c.requires.rooted.holds in
    record { sort = _; rooted = rooted-child c.requires.rooted v.falls₂ v.holds₂ }

pub node-token-requires : goal.node-token-requires
node-token-requires t c =
    let v = function-node c.node-node.ensures c.in-Function.is c.requires.rooted.holds in
    omega (arith, v.falls₂, c.requires.rooted.room, c.requires.rooted.few)

pub push-requires-in-Function-2 : goal.push-requires-in-Function-2
push-requires-in-Function-2 t c =
    let v = function-node c.node-node.ensures c.in-Function.is c.requires.rooted.holds in
    due-room (due-after _ _ (due-after _ _ (due-next _ _ (due c.requires (v.events _)) c.push-in-Function.ensures) (c.program-in-Function.ensures.is v.x v.holds)) (c.statement.ensures.is v.y v.holds₂))

pub program-requires-in-MoreFuns : goal.program-requires-in-MoreFuns
program-requires-in-MoreFuns t c =
    let w = more-funs-node c.node-node.ensures c.in-MoreFuns.is c.requires.rooted.holds in
    let v = w.two in
    (omega (arith, v.falls, c.decreases), placed (w.same ∙ c.requires.part) c.requires.rooted v.falls v.holds (v.below c.requires.tokens) (omega (arith, v.falls, c.requires.deep)) (due-front _ _ (due c.requires (v.events _))))

pub program-requires-in-MoreFuns-2 : goal.program-requires-in-MoreFuns-2
program-requires-in-MoreFuns-2 t c =
    let w = more-funs-node c.node-node.ensures c.in-MoreFuns.is c.requires.rooted.holds in
    let v = w.two in
    (omega (arith, v.falls₂, c.decreases), placed (w.same₂ ∙ c.requires.part) c.requires.rooted v.falls₂ v.holds₂ (v.below₂ c.requires.tokens) (omega (arith, v.falls₂, c.requires.deep)) (due-after _ _ (due c.requires (v.events _)) (c.program-in-MoreFuns.ensures.is v.x v.holds)))

pub returns-in-MoreParams : goal.returns-in-MoreParams
returns-in-MoreParams t c =
    record {
      is = λ u h.
          let v = more-params-node c.node-node.ensures c.in-MoreParams.is h in
          grown-as _ (v.events 1) (grown-then _ (events_at 1 v.x) (parameter c.node-node.result.token ∷ []) (c.program.ensures.is v.x v.holds) c.push.ensures);
    }

pub returns-in-Function : goal.returns-in-Function
returns-in-Function t c =
    record {
      is = λ u h.
          let v = function-node c.node-node.ensures c.in-Function.is h in
          let f = function c.node-node.result.token in
          let x = events_at 1 v.x in
          let y = events_at 1 v.y in
          let e = ends (closing v.y) (not (stops v.y)) in
          grown-as _ (v.events 1) (grown-then _ (f ∷ []) (x ++ (y ++ e ∷ [])) c.push-in-Function.ensures (grown-then _ x (y ++ e ∷ []) (c.program-in-Function.ensures.is v.x v.holds) (grown-then _ y (e ∷ []) (c.statement.ensures.is v.y v.holds₂) (said _ (ends-said (closing-node c.node-token.ensures v.holds₂) (c.stops-open.ensures.is v.y v.holds₂)) c.push-in-Function-2.ensures))));
    }

pub returns-in-MoreFuns : goal.returns-in-MoreFuns
returns-in-MoreFuns t c =
    record {
      is = λ u h.
          let v = (more-funs-node c.node-node.ensures c.in-MoreFuns.is h).two in
          grown-as _ (v.events 1) (grown-then _ (events_at 1 v.x) (events_at 1 v.y) (c.program-in-MoreFuns.ensures.is v.x v.holds) (c.program-in-MoreFuns-2.ensures.is v.y v.holds₂));
    }

pub returns-in_default : goal.returns-in_default
returns-in_default t c =
    let n = c.in_default in
    let S = silent-program c.requires.part (at-kind _ c.node-node.ensures refl c.requires.rooted.holds) (other n.not-MoreParams) (other n.not-Function) (other n.not-MoreFuns) in
    record { is = λ u h. grown-none _ (silent-node _ S c.node-node.ensures h) }
