use Prim.Native.Nat.{ℕ, ◌+◌}
use mathlib.Core.Path.{refl, ap, ◌∙◌}
use mathlib.Core.List.{List, [], ◌∷◌, ◌++◌}
use native.Mathlib.Omega.{arith}
use lib.ListN.{length, length-append}
use Rattle.events.specs.Event.{Event, thing, uses, opens, closes, events_at}
use Rattle.events.proofs.Laws.{grown-none, grown-then, grown-as, said, due, due-room, due-next, due-front, due-after, due-arm, due-last-arm, rooted-child, placed}
use Rattle.events.proofs.Nodes.{at-kind, other, assign-node, eval-node, block-node, if-else-node, while-node, return-node, more-stmts-node, braced-node}
use Rattle.events.proofs.Leaves.{plain, plain-node, declaring, declare-node, declare-below, silent-node, silent-statement}
use Rattle.events.proofs.+arm_statement.Goals as goal

-- `arm` and `statement`: for each kind of node, what its calls ask, and that the events of its parts are its events.
pub arm-statement-requires : goal.arm-statement-requires
arm-statement-requires t c =
    (omega (arith, c.decreases), record { sort = c.requires.sort; rooted = c.requires.rooted; part = c.requires.part; tokens = c.requires.tokens; deep = c.requires.deep; space = omega (arith, c.requires.space, ap (λ (x : List Event). length x) c.push.ensures, length-append c.args.events.now (opens ∷ [])) })

pub statement-push-requires : goal.statement-push-requires
statement-push-requires t c = due-room (due c.requires (plain-node _ (plain c.in-Empty.is) c.node-node.ensures c.requires.rooted.holds))

pub statement-push-requires-in-Declare : goal.statement-push-requires-in-Declare
statement-push-requires-in-Declare t c = due-room (due c.requires (declare-node _ (declaring c.in-Declare.is) c.node-node.ensures c.requires.rooted.holds))

pub statement-overflow_add-token : goal.statement-overflow_add-token
statement-overflow_add-token t c = omega (arith, declare-below (declaring c.in-Declare.is) c.node-node.ensures c.requires.rooted.holds c.requires.tokens)

pub statement-push-requires-in-Declare-2 : goal.statement-push-requires-in-Declare-2
statement-push-requires-in-Declare-2 t c = due-room (due-next _ _ (due c.requires (declare-node _ (declaring c.in-Declare.is) c.node-node.ensures c.requires.rooted.holds)) c.push-in-Declare.ensures)

pub statement-push-requires-in-Assign : goal.statement-push-requires-in-Assign
statement-push-requires-in-Assign t c =
    let v = assign-node c.node-node.ensures c.in-Assign.is c.requires.rooted.holds in
    due-room (due c.requires (v.events _))

pub statement-push-requires-in-Assign-2 : goal.statement-push-requires-in-Assign-2
statement-push-requires-in-Assign-2 t c =
    let v = assign-node c.node-node.ensures c.in-Assign.is c.requires.rooted.holds in
    due-room (due-next _ _ (due c.requires (v.events _)) c.push-in-Assign.ensures)

pub statement-expression-requires : goal.statement-expression-requires
statement-expression-requires t c =
    let v = assign-node c.node-node.ensures c.in-Assign.is c.requires.rooted.holds in
    placed refl c.requires.rooted v.falls v.holds (v.below c.requires.tokens) (omega (arith, v.falls, c.requires.deep)) (due-next _ _ (due-next _ _ (due c.requires (v.events _)) c.push-in-Assign.ensures) c.push-in-Assign-2.ensures)

pub statement-first_token-token-requires : goal.statement-first_token-token-requires
statement-first_token-token-requires t c =
    let v = eval-node c.node-node.ensures c.in-Eval.is c.requires.rooted.holds in
    rooted-child c.requires.rooted v.falls v.holds

pub statement-push-requires-in-Eval : goal.statement-push-requires-in-Eval
statement-push-requires-in-Eval t c =
    let v = eval-node c.node-node.ensures c.in-Eval.is c.requires.rooted.holds in
    due-room (due c.requires (v.events _))

pub statement-expression-requires-in-Eval : goal.statement-expression-requires-in-Eval
statement-expression-requires-in-Eval t c =
    let v = eval-node c.node-node.ensures c.in-Eval.is c.requires.rooted.holds in
    placed refl c.requires.rooted v.falls v.holds (v.below c.requires.tokens) (omega (arith, v.falls, c.requires.deep)) (due-next _ _ (due c.requires (v.events _)) c.push-in-Eval.ensures)

pub statement-push-requires-in-Block : goal.statement-push-requires-in-Block
statement-push-requires-in-Block t c =
    let v = block-node c.node-node.ensures c.in-Block.is c.requires.rooted.holds in
    due-room (due c.requires (v.events _))

pub statement-statement-requires : goal.statement-statement-requires
statement-statement-requires t c =
    let v = block-node c.node-node.ensures c.in-Block.is c.requires.rooted.holds in
    (omega (arith, v.falls, c.decreases), placed refl c.requires.rooted v.falls v.holds (v.below c.requires.tokens) (omega (arith, v.falls, c.requires.deep)) (due-next _ _ (due c.requires (v.events _)) c.push-in-Block.ensures))

pub statement-push-requires-in-IfElse : goal.statement-push-requires-in-IfElse
statement-push-requires-in-IfElse t c =
    let v = if-else-node c.node-node.ensures c.in-IfElse.is c.requires.rooted.holds in
    due-room (due c.requires (v.events _))

pub statement-expression-requires-in-IfElse : goal.statement-expression-requires-in-IfElse
statement-expression-requires-in-IfElse t c =
    let v = if-else-node c.node-node.ensures c.in-IfElse.is c.requires.rooted.holds in
    placed refl c.requires.rooted v.falls v.holds (v.below c.requires.tokens) (omega (arith, v.falls, c.requires.deep)) (due-front _ _ (due-next _ _ (due c.requires (v.events _)) c.push-in-IfElse.ensures))

pub statement-arm-requires : goal.statement-arm-requires
statement-arm-requires t c =
    let v = if-else-node c.node-node.ensures c.in-IfElse.is c.requires.rooted.holds in
    (omega (arith, v.falls₂, c.decreases), placed refl c.requires.rooted v.falls₂ v.holds₂ (v.below₂ c.requires.tokens) (omega (arith, v.falls₂, c.requires.deep)) (due-arm _ _ (due-after _ _ (due-next _ _ (due c.requires (v.events _)) c.push-in-IfElse.ensures) (c.expression-in-IfElse.ensures.is v.x v.holds))))

pub statement-arm-requires-in-IfElse : goal.statement-arm-requires-in-IfElse
statement-arm-requires-in-IfElse t c =
    let v = if-else-node c.node-node.ensures c.in-IfElse.is c.requires.rooted.holds in
    (omega (arith, v.falls₃, c.decreases), placed refl c.requires.rooted v.falls₃ v.holds₃ (v.below₃ c.requires.tokens) (omega (arith, v.falls₃, c.requires.deep)) (due-last-arm _ (due-after _ _ (due-after _ _ (due-next _ _ (due c.requires (v.events _)) c.push-in-IfElse.ensures) (c.expression-in-IfElse.ensures.is v.x v.holds)) (c.arm.ensures.is v.y v.holds₂))))

pub statement-push-requires-in-While : goal.statement-push-requires-in-While
statement-push-requires-in-While t c =
    let v = while-node c.node-node.ensures c.in-While.is c.requires.rooted.holds in
    due-room (due c.requires (v.events _))

pub statement-expression-requires-in-While : goal.statement-expression-requires-in-While
statement-expression-requires-in-While t c =
    let v = while-node c.node-node.ensures c.in-While.is c.requires.rooted.holds in
    placed refl c.requires.rooted v.falls v.holds (v.below c.requires.tokens) (omega (arith, v.falls, c.requires.deep)) (due-front _ _ (due-next _ _ (due c.requires (v.events _)) c.push-in-While.ensures))

pub statement-arm-requires-in-While : goal.statement-arm-requires-in-While
statement-arm-requires-in-While t c =
    let v = while-node c.node-node.ensures c.in-While.is c.requires.rooted.holds in
    (omega (arith, v.falls₂, c.decreases), placed refl c.requires.rooted v.falls₂ v.holds₂ (v.below₂ c.requires.tokens) (omega (arith, v.falls₂, c.requires.deep)) (due-last-arm _ (due-after _ _ (due-next _ _ (due c.requires (v.events _)) c.push-in-While.ensures) (c.expression-in-While.ensures.is v.x v.holds))))

pub statement-push-requires-in-Return : goal.statement-push-requires-in-Return
statement-push-requires-in-Return t c =
    let v = return-node c.node-node.ensures c.in-Return.is c.requires.rooted.holds in
    due-room (due c.requires (v.events _))

pub statement-expression-requires-in-Return : goal.statement-expression-requires-in-Return
statement-expression-requires-in-Return t c =
    let v = return-node c.node-node.ensures c.in-Return.is c.requires.rooted.holds in
    placed refl c.requires.rooted v.falls v.holds (v.below c.requires.tokens) (omega (arith, v.falls, c.requires.deep)) (due-next _ _ (due c.requires (v.events _)) c.push-in-Return.ensures)

pub statement-statement-requires-in-MoreStmts : goal.statement-statement-requires-in-MoreStmts
statement-statement-requires-in-MoreStmts t c =
    let w = more-stmts-node c.node-node.ensures c.in-MoreStmts.is c.requires.rooted.holds in
    let v = w.two in
    (omega (arith, v.falls, c.decreases), placed (w.same ∙ c.requires.part) c.requires.rooted v.falls v.holds (v.below c.requires.tokens) (omega (arith, v.falls, c.requires.deep)) (due-front _ _ (due c.requires (v.events _))))

pub statement-statement-requires-in-MoreStmts-2 : goal.statement-statement-requires-in-MoreStmts-2
statement-statement-requires-in-MoreStmts-2 t c =
    let w = more-stmts-node c.node-node.ensures c.in-MoreStmts.is c.requires.rooted.holds in
    let v = w.two in
    (omega (arith, v.falls₂, c.decreases), placed (w.same₂ ∙ c.requires.part) c.requires.rooted v.falls₂ v.holds₂ (v.below₂ c.requires.tokens) (omega (arith, v.falls₂, c.requires.deep)) (due-after _ _ (due c.requires (v.events _)) (c.statement-in-MoreStmts.ensures.is v.x v.holds)))

pub statement-arm-requires-in-Braced : goal.statement-arm-requires-in-Braced
statement-arm-requires-in-Braced t c =
    let v = braced-node c.node-node.ensures c.in-Braced.is c.requires.rooted.holds in
    (omega (arith, v.falls, c.decreases), placed refl c.requires.rooted v.falls v.holds (v.below c.requires.tokens) (omega (arith, v.falls, c.requires.deep)) (due-last-arm _ (due c.requires (v.events _))))

pub statement-returns-in-Empty : goal.statement-returns-in-Empty
statement-returns-in-Empty t c = record { is = λ u h. grown-as _ (plain-node _ (plain c.in-Empty.is) c.node-node.ensures h) c.push.ensures }

pub statement-returns-in-Declare : goal.statement-returns-in-Declare
statement-returns-in-Declare t c = record { is = λ u h. grown-as _ (declare-node _ (declaring c.in-Declare.is) c.node-node.ensures h) (grown-then _ _ _ c.push-in-Declare.ensures c.push-in-Declare-2.ensures) }

pub statement-returns-in-Assign : goal.statement-returns-in-Assign
statement-returns-in-Assign t c =
    record {
      is = λ u h.
          let v = assign-node c.node-node.ensures c.in-Assign.is h in
          let d = c.args.depth in
          let i = c.node-node.result.token in
          grown-as _ (v.events d) (grown-then _ (thing d i ∷ []) (uses i ∷ events_at d v.x) c.push-in-Assign.ensures (grown-then _ (uses i ∷ []) (events_at d v.x) c.push-in-Assign-2.ensures (c.expression.ensures.is v.x v.holds)));
    }

pub statement-returns-in-Eval : goal.statement-returns-in-Eval
statement-returns-in-Eval t c =
    record {
      is = λ u h.
          let v = eval-node c.node-node.ensures c.in-Eval.is h in
          let d = c.args.depth in
          grown-as _ (v.events d) (grown-then _ _ (events_at d v.x) (said _ (ap (λ (x : ℕ). thing d x) (c.first_token-token.ensures.is v.x v.holds)) c.push-in-Eval.ensures) (c.expression-in-Eval.ensures.is v.x v.holds));
    }

pub statement-returns-in-Block : goal.statement-returns-in-Block
statement-returns-in-Block t c =
    record {
      is = λ u h.
          let v = block-node c.node-node.ensures c.in-Block.is h in
          let d = c.args.depth in
          let i = c.node-node.result.token in
          grown-as _ (v.events d) (grown-then _ (thing d i ∷ []) (events_at (d + 1) v.x) c.push-in-Block.ensures (c.statement.ensures.is v.x v.holds));
    }

pub statement-returns-in-IfElse : goal.statement-returns-in-IfElse
statement-returns-in-IfElse t c =
    record {
      is = λ u h.
          let v = if-else-node c.node-node.ensures c.in-IfElse.is h in
          let d = c.args.depth in
          let i = c.node-node.result.token in
          grown-as _ (v.events d) (grown-then _ (thing d i ∷ []) (events_at d v.x ++ ((opens ∷ (events_at (d + 1) v.y ++ closes ∷ [])) ++ (opens ∷ (events_at (d + 1) v.z ++ closes ∷ [])))) c.push-in-IfElse.ensures (grown-then _ (events_at d v.x) ((opens ∷ (events_at (d + 1) v.y ++ closes ∷ [])) ++ (opens ∷ (events_at (d + 1) v.z ++ closes ∷ []))) (c.expression-in-IfElse.ensures.is v.x v.holds) (grown-then _ (opens ∷ (events_at (d + 1) v.y ++ closes ∷ [])) (opens ∷ (events_at (d + 1) v.z ++ closes ∷ [])) (c.arm.ensures.is v.y v.holds₂) (c.arm-in-IfElse.ensures.is v.z v.holds₃))));
    }

pub statement-returns-in-While : goal.statement-returns-in-While
statement-returns-in-While t c =
    record {
      is = λ u h.
          let v = while-node c.node-node.ensures c.in-While.is h in
          let d = c.args.depth in
          let i = c.node-node.result.token in
          grown-as _ (v.events d) (grown-then _ (thing d i ∷ []) (events_at d v.x ++ (opens ∷ (events_at (d + 1) v.y ++ closes ∷ []))) c.push-in-While.ensures (grown-then _ (events_at d v.x) (opens ∷ (events_at (d + 1) v.y ++ closes ∷ [])) (c.expression-in-While.ensures.is v.x v.holds) (c.arm-in-While.ensures.is v.y v.holds₂)));
    }

pub statement-returns-in-Return : goal.statement-returns-in-Return
statement-returns-in-Return t c =
    record {
      is = λ u h.
          let v = return-node c.node-node.ensures c.in-Return.is h in
          let d = c.args.depth in
          let i = c.node-node.result.token in
          grown-as _ (v.events d) (grown-then _ (thing d i ∷ []) (events_at d v.x) c.push-in-Return.ensures (c.expression-in-Return.ensures.is v.x v.holds));
    }

pub statement-returns-in-MoreStmts : goal.statement-returns-in-MoreStmts
statement-returns-in-MoreStmts t c =
    record {
      is = λ u h.
          let v = (more-stmts-node c.node-node.ensures c.in-MoreStmts.is h).two in
          let d = c.args.depth in
          grown-as _ (v.events d) (grown-then _ (events_at d v.x) (events_at d v.y) (c.statement-in-MoreStmts.ensures.is v.x v.holds) (c.statement-in-MoreStmts-2.ensures.is v.y v.holds₂));
    }

pub statement-returns-in-Braced : goal.statement-returns-in-Braced
statement-returns-in-Braced t c = record { is = λ u h. let v = braced-node c.node-node.ensures c.in-Braced.is h in grown-as _ (v.events _) (c.arm-in-Braced.ensures.is v.x v.holds) }

pub statement-returns-in_default : goal.statement-returns-in_default
statement-returns-in_default t c =
    let n = c.in_default in
    let S = silent-statement c.requires.part (at-kind _ c.node-node.ensures refl c.requires.rooted.holds) (other n.not-Empty) (other n.not-Fail) (other n.not-Declare) (other n.not-DeclareFree) (other n.not-DeclareOwn) (other n.not-Assign) (other n.not-Eval) (other n.not-Block) (other n.not-IfElse) (other n.not-While) (other n.not-Return) (other n.not-MoreStmts) (other n.not-Braced) in
    record { is = λ u h. grown-none _ (silent-node _ S c.node-node.ensures h) }
