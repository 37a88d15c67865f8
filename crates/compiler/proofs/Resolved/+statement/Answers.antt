use Rattle.std.proofs.Common.{◌≡◌, ℕ, suc, ◌+◌, ◌-◌, ◌%◌, false, length, refl, ap, subst, ◌<◌, arith}
use Rattle.semantics.specs.Program.{slot}
use Rattle.simulation.specs.Code.{jump, skip, again, begin, ask, store, return, fail, act}
use Rattle.compiler.specs.Coded.{word, coded}
use Rattle.compiler.proofs.Laws.{grown-none, grown-then, grown-as, grown-size, said, aimed, due-as, due-room, due-next, due-front, due-after, room}
use Rattle.compiler.proofs.Statements.{empty-node, fail-node, declare-node, free-node, own-node, assign-node, eval-node, block-node, return-node, braced-node, more-stmts-node, while-node, if-else-node, silent-node}
use Rattle.compiler.proofs.Resolved.+statement.Goals as goal

-- `statement`: for each kind of node, what its calls ask, and that the code of its parts is its code.

pub push-requires : goal.push-requires
push-requires t c =
    let v = empty-node (word c.args.self.now.values) (word c.args.self.now.slots) c.requires.tokens c.node-node.ensures c.in-Empty.is c.requires.rooted.holds in
    due-room (due-as v.code c.requires.due)

pub push-requires-in-Declare : goal.push-requires-in-Declare
push-requires-in-Declare t c =
    let v = declare-node (word c.args.self.now.values) (word c.args.self.now.slots) c.requires.tokens c.node-node.ensures c.in-Declare.is c.requires.rooted.holds in
    due-room (due-as v.code c.requires.due)

pub overflow_add-node : goal.overflow_add-node
overflow_add-node t c =
    let v = free-node (word c.args.self.now.values) (word c.args.self.now.slots) c.requires.tokens c.node-node.ensures c.in-DeclareFree.is c.requires.rooted.holds in
    omega (arith, (v.own c.requires.sound).0, c.requires.within.small)

pub address-requires : goal.address-requires
address-requires t c =
    let v = free-node (word c.args.self.now.values) (word c.args.self.now.slots) c.requires.tokens c.node-node.ensures c.in-DeclareFree.is c.requires.rooted.holds in
    omega (arith, (v.own c.requires.sound).0, c.requires.within.named)

pub push-requires-in-DeclareFree : goal.push-requires-in-DeclareFree
push-requires-in-DeclareFree t c =
    let v = free-node (word c.args.self.now.values) (word c.args.self.now.slots) c.requires.tokens c.node-node.ensures c.in-DeclareFree.is c.requires.rooted.holds in
    due-room (due-as v.code c.requires.due)

pub push-requires-in-Assign : goal.push-requires-in-Assign
push-requires-in-Assign t c =
    let v = assign-node (word c.args.self.now.values) (word c.args.self.now.slots) c.requires.tokens c.node-node.ensures c.in-Assign.is c.requires.rooted.holds in
    due-room (due-as v.code c.requires.due)

pub expression-requires : goal.expression-requires
expression-requires t c =
    let v = assign-node (word c.args.self.now.values) (word c.args.self.now.slots) c.requires.tokens c.node-node.ensures c.in-Assign.is c.requires.rooted.holds in
    room refl c.requires.rooted v.falls v.holds c.requires.within (v.sound c.requires.sound) (due-front _ _ (due-next _ _ (due-as v.code c.requires.due) c.push-in-Assign.ensures.entries))

pub address-requires-in-Assign : goal.address-requires-in-Assign
address-requires-in-Assign t c =
    let v = assign-node (word c.args.self.now.values) (word c.args.self.now.slots) c.requires.tokens c.node-node.ensures c.in-Assign.is c.requires.rooted.holds in
    omega (arith, (v.own c.requires.sound).0, c.requires.within.named)

pub push-requires-in-Assign-2 : goal.push-requires-in-Assign-2
push-requires-in-Assign-2 t c =
    let v = assign-node (word c.args.self.now.values) (word c.args.self.now.slots) c.requires.tokens c.node-node.ensures c.in-Assign.is c.requires.rooted.holds in
    due-room (due-after (due-next _ _ (due-as v.code c.requires.due) c.push-in-Assign.ensures.entries) (c.expression.ensures.is v.x v.holds))

pub push-requires-in-Eval : goal.push-requires-in-Eval
push-requires-in-Eval t c =
    let v = eval-node (word c.args.self.now.values) (word c.args.self.now.slots) c.requires.tokens c.node-node.ensures c.in-Eval.is c.requires.rooted.holds in
    due-room (due-as v.code c.requires.due)

pub expression-requires-in-Eval : goal.expression-requires-in-Eval
expression-requires-in-Eval t c =
    let v = eval-node (word c.args.self.now.values) (word c.args.self.now.slots) c.requires.tokens c.node-node.ensures c.in-Eval.is c.requires.rooted.holds in
    room refl c.requires.rooted v.falls v.holds c.requires.within (v.sound c.requires.sound) (due-next _ _ (due-as v.code c.requires.due) c.push-in-Eval.ensures.entries)

pub push-requires-in-Block : goal.push-requires-in-Block
push-requires-in-Block t c =
    let v = block-node (word c.args.self.now.values) (word c.args.self.now.slots) c.requires.tokens c.node-node.ensures c.in-Block.is c.requires.rooted.holds in
    due-room (due-as v.code c.requires.due)

pub statement-requires : goal.statement-requires
statement-requires t c =
    let v = block-node (word c.args.self.now.values) (word c.args.self.now.slots) c.requires.tokens c.node-node.ensures c.in-Block.is c.requires.rooted.holds in
    (omega (arith, v.falls, c.decreases), room refl c.requires.rooted v.falls v.holds c.requires.within (v.sound c.requires.sound) (due-next _ _ (due-as v.code c.requires.due) c.push-in-Block.ensures.entries))

pub push-requires-in-IfElse : goal.push-requires-in-IfElse
push-requires-in-IfElse t c =
    let v = if-else-node (word c.args.self.now.values) (word c.args.self.now.slots) c.requires.tokens c.node-node.ensures c.in-IfElse.is c.requires.rooted.holds in
    due-room (due-as v.code c.requires.due)

pub expression-requires-in-IfElse : goal.expression-requires-in-IfElse
expression-requires-in-IfElse t c =
    let v = if-else-node (word c.args.self.now.values) (word c.args.self.now.slots) c.requires.tokens c.node-node.ensures c.in-IfElse.is c.requires.rooted.holds in
    room refl c.requires.rooted v.falls v.holds c.requires.within (v.sound c.requires.sound) (due-front _ _ (due-next _ _ (due-as v.code c.requires.due) c.push-in-IfElse.ensures.entries))

pub push-requires-in-IfElse-2 : goal.push-requires-in-IfElse-2
push-requires-in-IfElse-2 t c =
    let v = if-else-node (word c.args.self.now.values) (word c.args.self.now.slots) c.requires.tokens c.node-node.ensures c.in-IfElse.is c.requires.rooted.holds in
    due-room (due-after (due-next _ _ (due-as v.code c.requires.due) c.push-in-IfElse.ensures.entries) (c.expression-in-IfElse.ensures.is v.x v.holds))

pub statement-requires-in-IfElse : goal.statement-requires-in-IfElse
statement-requires-in-IfElse t c =
    let v = if-else-node (word c.args.self.now.values) (word c.args.self.now.slots) c.requires.tokens c.node-node.ensures c.in-IfElse.is c.requires.rooted.holds in
    (omega (arith, v.falls₂, c.decreases), room refl c.requires.rooted v.falls₂ v.holds₂ c.requires.within (v.sound₂ c.requires.sound) (due-front _ _ (due-next _ _ (due-after (due-next _ _ (due-as v.code c.requires.due) c.push-in-IfElse.ensures.entries) (c.expression-in-IfElse.ensures.is v.x v.holds)) c.push-in-IfElse-2.ensures.entries)))

pub push-requires-in-IfElse-3 : goal.push-requires-in-IfElse-3
push-requires-in-IfElse-3 t c =
    let v = if-else-node (word c.args.self.now.values) (word c.args.self.now.slots) c.requires.tokens c.node-node.ensures c.in-IfElse.is c.requires.rooted.holds in
    due-room (due-after (due-next _ _ (due-after (due-next _ _ (due-as v.code c.requires.due) c.push-in-IfElse.ensures.entries) (c.expression-in-IfElse.ensures.is v.x v.holds)) c.push-in-IfElse-2.ensures.entries) (c.statement-in-IfElse.ensures.is v.y v.holds₂))

pub statement-requires-in-IfElse-2 : goal.statement-requires-in-IfElse-2
statement-requires-in-IfElse-2 t c =
    let v = if-else-node (word c.args.self.now.values) (word c.args.self.now.slots) c.requires.tokens c.node-node.ensures c.in-IfElse.is c.requires.rooted.holds in
    (omega (arith, v.falls₃, c.decreases), room refl c.requires.rooted v.falls₃ v.holds₃ c.requires.within (v.sound₃ c.requires.sound) (due-next _ _ (due-after (due-next _ _ (due-after (due-next _ _ (due-as v.code c.requires.due) c.push-in-IfElse.ensures.entries) (c.expression-in-IfElse.ensures.is v.x v.holds)) c.push-in-IfElse-2.ensures.entries) (c.statement-in-IfElse.ensures.is v.y v.holds₂)) c.push-in-IfElse-3.ensures.entries))

pub overflow_sub-over : goal.overflow_sub-over
overflow_sub-over t c =
    let v = if-else-node (word c.args.self.now.values) (word c.args.self.now.slots) c.requires.tokens c.node-node.ensures c.in-IfElse.is c.requires.rooted.holds in
    let q = said c.statement-in-IfElse.new.code c.push-in-IfElse-3.new.self (act (skip 0)) refl c.push-in-IfElse-3.ensures.entries c.push-in-IfElse-3.ensures.starts in
    let z = c.statement-in-IfElse-2.ensures.is v.z v.holds₃ in
    omega (arith, c.len-skip.ensures.value, c.len.ensures.value, grown-size q, grown-size z)

pub set-requires : goal.set-requires
set-requires t c =
    let v = if-else-node (word c.args.self.now.values) (word c.args.self.now.slots) c.requires.tokens c.node-node.ensures c.in-IfElse.is c.requires.rooted.holds in
    let q = said c.statement-in-IfElse.new.code c.push-in-IfElse-3.new.self (act (skip 0)) refl c.push-in-IfElse-3.ensures.entries c.push-in-IfElse-3.ensures.starts in
    let z = c.statement-in-IfElse-2.ensures.is v.z v.holds₃ in
    (omega (arith, c.len-skip.ensures.value, grown-size q, grown-size z), omega (arith, c.len-skip.ensures.few))

pub overflow_sub-past : goal.overflow_sub-past
overflow_sub-past t c =
    let v = if-else-node (word c.args.self.now.values) (word c.args.self.now.slots) c.requires.tokens c.node-node.ensures c.in-IfElse.is c.requires.rooted.holds in
    let p = said c.expression-in-IfElse.new.code c.push-in-IfElse-2.new.self (act (jump false 0)) refl c.push-in-IfElse-2.ensures.entries c.push-in-IfElse-2.ensures.starts in
    let y = c.statement-in-IfElse.ensures.is v.y v.holds₂ in
    omega (arith, c.len-test.ensures.value, c.len-skip.ensures.value, grown-size p, grown-size y)

pub set-requires-in-IfElse : goal.set-requires-in-IfElse
set-requires-in-IfElse t c =
    let v = if-else-node (word c.args.self.now.values) (word c.args.self.now.slots) c.requires.tokens c.node-node.ensures c.in-IfElse.is c.requires.rooted.holds in
    let p = said c.expression-in-IfElse.new.code c.push-in-IfElse-2.new.self (act (jump false 0)) refl c.push-in-IfElse-2.ensures.entries c.push-in-IfElse-2.ensures.starts in
    let y = c.statement-in-IfElse.ensures.is v.y v.holds₂ in
    let q = said c.statement-in-IfElse.new.code c.push-in-IfElse-3.new.self (act (skip 0)) refl c.push-in-IfElse-3.ensures.entries c.push-in-IfElse-3.ensures.starts in
    let z = c.statement-in-IfElse-2.ensures.is v.z v.holds₃ in
    let e : c.len.result - (c.len-skip.result + 1) ≡ length (coded (word c.args.self.now.values) (word c.args.self.now.slots) v.z) = omega (arith, c.len-skip.ensures.value, c.len.ensures.value, grown-size q, grown-size z) in
    let else = aimed (act (skip (length (coded (word c.args.self.now.values) (word c.args.self.now.slots) v.z)))) (ap (λ (n : ℕ). act (skip n)) e) (grown-then q z) c.len-skip.ensures.value c.set.ensures.entries c.set.ensures.starts in
    (omega (arith, c.len-test.ensures.value, grown-size p, grown-size y, grown-size else), omega (arith, c.len-test.ensures.few))

pub push-requires-in-While : goal.push-requires-in-While
push-requires-in-While t c =
    let v = while-node (word c.args.self.now.values) (word c.args.self.now.slots) c.requires.tokens c.node-node.ensures c.in-While.is c.requires.rooted.holds in
    due-room (due-as v.code c.requires.due)

pub expression-requires-in-While : goal.expression-requires-in-While
expression-requires-in-While t c =
    let v = while-node (word c.args.self.now.values) (word c.args.self.now.slots) c.requires.tokens c.node-node.ensures c.in-While.is c.requires.rooted.holds in
    room refl c.requires.rooted v.falls v.holds c.requires.within (v.sound c.requires.sound) (due-front _ _ (due-next _ _ (due-as v.code c.requires.due) c.push-in-While.ensures.entries))

pub push-requires-in-While-2 : goal.push-requires-in-While-2
push-requires-in-While-2 t c =
    let v = while-node (word c.args.self.now.values) (word c.args.self.now.slots) c.requires.tokens c.node-node.ensures c.in-While.is c.requires.rooted.holds in
    due-room (due-after (due-next _ _ (due-as v.code c.requires.due) c.push-in-While.ensures.entries) (c.expression-in-While.ensures.is v.x v.holds))

pub statement-requires-in-While : goal.statement-requires-in-While
statement-requires-in-While t c =
    let v = while-node (word c.args.self.now.values) (word c.args.self.now.slots) c.requires.tokens c.node-node.ensures c.in-While.is c.requires.rooted.holds in
    (omega (arith, v.falls₂, c.decreases), room refl c.requires.rooted v.falls₂ v.holds₂ c.requires.within (v.sound₂ c.requires.sound) (due-front _ _ (due-next _ _ (due-after (due-next _ _ (due-as v.code c.requires.due) c.push-in-While.ensures.entries) (c.expression-in-While.ensures.is v.x v.holds)) c.push-in-While-2.ensures.entries)))

pub push-requires-in-While-3 : goal.push-requires-in-While-3
push-requires-in-While-3 t c =
    let v = while-node (word c.args.self.now.values) (word c.args.self.now.slots) c.requires.tokens c.node-node.ensures c.in-While.is c.requires.rooted.holds in
    due-room (due-after (due-next _ _ (due-after (due-next _ _ (due-as v.code c.requires.due) c.push-in-While.ensures.entries) (c.expression-in-While.ensures.is v.x v.holds)) c.push-in-While-2.ensures.entries) (c.statement-in-While.ensures.is v.y v.holds₂))

pub overflow_sub-back : goal.overflow_sub-back
overflow_sub-back t c =
    let v = while-node (word c.args.self.now.values) (word c.args.self.now.slots) c.requires.tokens c.node-node.ensures c.in-While.is c.requires.rooted.holds in
    let x = c.expression-in-While.ensures.is v.x v.holds in
    let p = said c.expression-in-While.new.code c.push-in-While-2.new.self (act (jump false 0)) refl c.push-in-While-2.ensures.entries c.push-in-While-2.ensures.starts in
    let y = c.statement-in-While.ensures.is v.y v.holds₂ in
    omega (arith, c.len-start.ensures.value, c.len-end.ensures.value, grown-size x, grown-size p, grown-size y)

pub overflow_sub-over-in-While : goal.overflow_sub-over-in-While
overflow_sub-over-in-While t c =
    let v = while-node (word c.args.self.now.values) (word c.args.self.now.slots) c.requires.tokens c.node-node.ensures c.in-While.is c.requires.rooted.holds in
    let p = said c.expression-in-While.new.code c.push-in-While-2.new.self (act (jump false 0)) refl c.push-in-While-2.ensures.entries c.push-in-While-2.ensures.starts in
    let y = c.statement-in-While.ensures.is v.y v.holds₂ in
    omega (arith, c.len-test-in-While.ensures.value, c.len-end.ensures.value, grown-size p, grown-size y)

pub set-requires-in-While : goal.set-requires-in-While
set-requires-in-While t c =
    let v = while-node (word c.args.self.now.values) (word c.args.self.now.slots) c.requires.tokens c.node-node.ensures c.in-While.is c.requires.rooted.holds in
    let x = c.expression-in-While.ensures.is v.x v.holds in
    let p = said c.expression-in-While.new.code c.push-in-While-2.new.self (act (jump false 0)) refl c.push-in-While-2.ensures.entries c.push-in-While-2.ensures.starts in
    let y = c.statement-in-While.ensures.is v.y v.holds₂ in
    let e : c.len-end.result - c.len-start.result ≡ length (coded (word c.args.self.now.values) (word c.args.self.now.slots) v.x) + suc (length (coded (word c.args.self.now.values) (word c.args.self.now.slots) v.y)) = omega (arith, c.len-start.ensures.value, c.len-end.ensures.value, grown-size x, grown-size p, grown-size y) in
    let q = said c.statement-in-While.new.code c.push-in-While-3.new.self (act (again (length (coded (word c.args.self.now.values) (word c.args.self.now.slots) v.x) + suc (length (coded (word c.args.self.now.values) (word c.args.self.now.slots) v.y))))) (ap (λ (n : ℕ). act (again n)) e) c.push-in-While-3.ensures.entries c.push-in-While-3.ensures.starts in
    (omega (arith, c.len-test-in-While.ensures.value, grown-size p, grown-size y, grown-size q), omega (arith, c.len-test-in-While.ensures.few))

pub push-requires-in-Return : goal.push-requires-in-Return
push-requires-in-Return t c =
    let v = return-node (word c.args.self.now.values) (word c.args.self.now.slots) c.requires.tokens c.node-node.ensures c.in-Return.is c.requires.rooted.holds in
    due-room (due-as v.code c.requires.due)

pub expression-requires-in-Return : goal.expression-requires-in-Return
expression-requires-in-Return t c =
    let v = return-node (word c.args.self.now.values) (word c.args.self.now.slots) c.requires.tokens c.node-node.ensures c.in-Return.is c.requires.rooted.holds in
    room refl c.requires.rooted v.falls v.holds c.requires.within (v.sound c.requires.sound) (due-front _ _ (due-next _ _ (due-as v.code c.requires.due) c.push-in-Return.ensures.entries))

pub push-requires-in-Return-2 : goal.push-requires-in-Return-2
push-requires-in-Return-2 t c =
    let v = return-node (word c.args.self.now.values) (word c.args.self.now.slots) c.requires.tokens c.node-node.ensures c.in-Return.is c.requires.rooted.holds in
    due-room (due-after (due-next _ _ (due-as v.code c.requires.due) c.push-in-Return.ensures.entries) (c.expression-in-Return.ensures.is v.x v.holds))

pub push-requires-in-Fail : goal.push-requires-in-Fail
push-requires-in-Fail t c =
    let v = fail-node (word c.args.self.now.values) (word c.args.self.now.slots) c.requires.tokens c.node-node.ensures c.in-Fail.is c.requires.rooted.holds in
    due-room (due-as v.code c.requires.due)

pub push-requires-in-Fail-2 : goal.push-requires-in-Fail-2
push-requires-in-Fail-2 t c =
    let v = fail-node (word c.args.self.now.values) (word c.args.self.now.slots) c.requires.tokens c.node-node.ensures c.in-Fail.is c.requires.rooted.holds in
    due-room (due-next _ _ (due-as v.code c.requires.due) c.push-in-Fail.ensures.entries)

pub statement-requires-in-MoreStmts : goal.statement-requires-in-MoreStmts
statement-requires-in-MoreStmts t c =
    let v = more-stmts-node (word c.args.self.now.values) (word c.args.self.now.slots) c.requires.tokens c.node-node.ensures c.in-MoreStmts.is c.requires.rooted.holds in
    (omega (arith, v.falls, c.decreases), room refl c.requires.rooted v.falls v.holds c.requires.within (v.sound c.requires.sound) (due-front _ _ (due-as v.code c.requires.due)))

pub statement-requires-in-MoreStmts-2 : goal.statement-requires-in-MoreStmts-2
statement-requires-in-MoreStmts-2 t c =
    let v = more-stmts-node (word c.args.self.now.values) (word c.args.self.now.slots) c.requires.tokens c.node-node.ensures c.in-MoreStmts.is c.requires.rooted.holds in
    (omega (arith, v.falls₂, c.decreases), room refl c.requires.rooted v.falls₂ v.holds₂ c.requires.within (v.sound₂ c.requires.sound) (due-after (due-as v.code c.requires.due) (c.statement-in-MoreStmts.ensures.is v.x v.holds)))

pub statement-requires-in-Braced : goal.statement-requires-in-Braced
statement-requires-in-Braced t c =
    let v = braced-node (word c.args.self.now.values) (word c.args.self.now.slots) c.requires.tokens c.node-node.ensures c.in-Braced.is c.requires.rooted.holds in
    (omega (arith, v.falls, c.decreases), room refl c.requires.rooted v.falls v.holds c.requires.within (v.sound c.requires.sound) (due-as v.code c.requires.due))

pub own-requires : goal.own-requires
own-requires t c =
    let v = own-node (word c.args.self.now.values) (word c.args.self.now.slots) c.requires.tokens c.node-node.ensures c.in-DeclareOwn.is c.requires.rooted.holds in
    let w = v.inside c.requires.sound in
    let d = due-as v.code c.requires.due in
    record {
      tokens = omega (arith, w.0, c.requires.within.small, v.first, v.second);
      lower = subst (λ (k : ℕ). word c.args.self.now.values k < 2147483648) (omega (arith, v.first)) w.2;
      higher = subst (λ (k : ℕ). word c.args.self.now.values k < 2147483648) (omega (arith, v.first, v.second)) w.3;
      named = omega (arith, w.0, c.requires.within.named);
      variable = w.1;
      space = omega (arith, d.space);
    }

pub returns-in-Empty : goal.returns-in-Empty
returns-in-Empty t c =
    record {
      is = λ u h.
          let v = empty-node (word c.args.self.now.values) (word c.args.self.now.slots) c.requires.tokens c.node-node.ensures c.in-Empty.is h in
          grown-as v.code (said c.args.code.now c.push.new.self (act begin) refl c.push.ensures.entries c.push.ensures.starts);
    }

pub returns-in-Declare : goal.returns-in-Declare
returns-in-Declare t c =
    record {
      is = λ u h.
          let v = declare-node (word c.args.self.now.values) (word c.args.self.now.slots) c.requires.tokens c.node-node.ensures c.in-Declare.is h in
          grown-as v.code (said c.args.code.now c.push-in-Declare.new.self (act begin) refl c.push-in-Declare.ensures.entries c.push-in-Declare.ensures.starts);
    }

pub returns-in-DeclareFree : goal.returns-in-DeclareFree
returns-in-DeclareFree t c =
    record {
      is = λ u h.
          let v = free-node (word c.args.self.now.values) (word c.args.self.now.slots) c.requires.tokens c.node-node.ensures c.in-DeclareFree.is h in
          let w = free-node (word c.args.self.now.values) (word c.args.self.now.slots) c.requires.tokens c.node-node.ensures c.in-DeclareFree.is c.requires.rooted.holds in
          let e : c.address.result.0 % 16 ≡ word c.args.self.now.slots (c.node-node.result.token + 1) = omega (arith, c.address.ensures, (w.own c.requires.sound).1) in
          grown-as v.code (said c.args.code.now c.push-in-DeclareFree.new.self (act (ask (slot (word c.args.self.now.slots (c.node-node.result.token + 1))))) (ap (λ (n : ℕ). act (ask (slot n))) e) c.push-in-DeclareFree.ensures.entries c.push-in-DeclareFree.ensures.starts);
    }

pub returns-in-Assign : goal.returns-in-Assign
returns-in-Assign t c =
    record {
      is = λ u h.
          let v = assign-node (word c.args.self.now.values) (word c.args.self.now.slots) c.requires.tokens c.node-node.ensures c.in-Assign.is h in
          let w = assign-node (word c.args.self.now.values) (word c.args.self.now.slots) c.requires.tokens c.node-node.ensures c.in-Assign.is c.requires.rooted.holds in
          let e : c.address-in-Assign.result.0 % 16 ≡ word c.args.self.now.slots c.node-node.result.token = omega (arith, c.address-in-Assign.ensures, (w.own c.requires.sound).1) in
          grown-as v.code (grown-then (said c.args.code.now c.push-in-Assign.new.self (act begin) refl c.push-in-Assign.ensures.entries c.push-in-Assign.ensures.starts) (grown-then (c.expression.ensures.is v.x v.holds) (said c.expression.new.code c.push-in-Assign-2.new.self (act (store (slot (word c.args.self.now.slots c.node-node.result.token)))) (ap (λ (n : ℕ). act (store (slot n))) e) c.push-in-Assign-2.ensures.entries c.push-in-Assign-2.ensures.starts)));
    }

pub returns-in-Eval : goal.returns-in-Eval
returns-in-Eval t c =
    record {
      is = λ u h.
          let v = eval-node (word c.args.self.now.values) (word c.args.self.now.slots) c.requires.tokens c.node-node.ensures c.in-Eval.is h in
          grown-as v.code (grown-then (said c.args.code.now c.push-in-Eval.new.self (act begin) refl c.push-in-Eval.ensures.entries c.push-in-Eval.ensures.starts) (c.expression-in-Eval.ensures.is v.x v.holds));
    }

pub returns-in-Block : goal.returns-in-Block
returns-in-Block t c =
    record {
      is = λ u h.
          let v = block-node (word c.args.self.now.values) (word c.args.self.now.slots) c.requires.tokens c.node-node.ensures c.in-Block.is h in
          grown-as v.code (grown-then (said c.args.code.now c.push-in-Block.new.self (act begin) refl c.push-in-Block.ensures.entries c.push-in-Block.ensures.starts) (c.statement.ensures.is v.x v.holds));
    }

pub returns-in-IfElse : goal.returns-in-IfElse
returns-in-IfElse t c =
    record {
      is = λ u h.
          let v = if-else-node (word c.args.self.now.values) (word c.args.self.now.slots) c.requires.tokens c.node-node.ensures c.in-IfElse.is h in
          let p = said c.expression-in-IfElse.new.code c.push-in-IfElse-2.new.self (act (jump false 0)) refl c.push-in-IfElse-2.ensures.entries c.push-in-IfElse-2.ensures.starts in
          let y = c.statement-in-IfElse.ensures.is v.y v.holds₂ in
          let q = said c.statement-in-IfElse.new.code c.push-in-IfElse-3.new.self (act (skip 0)) refl c.push-in-IfElse-3.ensures.entries c.push-in-IfElse-3.ensures.starts in
          let z = c.statement-in-IfElse-2.ensures.is v.z v.holds₃ in
          let e : c.len.result - (c.len-skip.result + 1) ≡ length (coded (word c.args.self.now.values) (word c.args.self.now.slots) v.z) = omega (arith, c.len-skip.ensures.value, c.len.ensures.value, grown-size q, grown-size z) in
          let else = aimed (act (skip (length (coded (word c.args.self.now.values) (word c.args.self.now.slots) v.z)))) (ap (λ (n : ℕ). act (skip n)) e) (grown-then q z) c.len-skip.ensures.value c.set.ensures.entries c.set.ensures.starts in
          let d : c.len-skip.result - c.len-test.result ≡ suc (length (coded (word c.args.self.now.values) (word c.args.self.now.slots) v.y)) = omega (arith, c.len-test.ensures.value, c.len-skip.ensures.value, grown-size p, grown-size y) in
          let arms = aimed (act (jump false (suc (length (coded (word c.args.self.now.values) (word c.args.self.now.slots) v.y))))) (ap (λ (n : ℕ). act (jump false n)) d) (grown-then p (grown-then y else)) c.len-test.ensures.value c.set-in-IfElse.ensures.entries c.set-in-IfElse.ensures.starts in
          grown-as v.code (grown-then (said c.args.code.now c.push-in-IfElse.new.self (act begin) refl c.push-in-IfElse.ensures.entries c.push-in-IfElse.ensures.starts) (grown-then (c.expression-in-IfElse.ensures.is v.x v.holds) arms));
    }

pub returns-in-While : goal.returns-in-While
returns-in-While t c =
    record {
      is = λ u h.
          let v = while-node (word c.args.self.now.values) (word c.args.self.now.slots) c.requires.tokens c.node-node.ensures c.in-While.is h in
          let x = c.expression-in-While.ensures.is v.x v.holds in
          let p = said c.expression-in-While.new.code c.push-in-While-2.new.self (act (jump false 0)) refl c.push-in-While-2.ensures.entries c.push-in-While-2.ensures.starts in
          let y = c.statement-in-While.ensures.is v.y v.holds₂ in
          let e : c.len-end.result - c.len-start.result ≡ length (coded (word c.args.self.now.values) (word c.args.self.now.slots) v.x) + suc (length (coded (word c.args.self.now.values) (word c.args.self.now.slots) v.y)) = omega (arith, c.len-start.ensures.value, c.len-end.ensures.value, grown-size x, grown-size p, grown-size y) in
          let q = said c.statement-in-While.new.code c.push-in-While-3.new.self (act (again (length (coded (word c.args.self.now.values) (word c.args.self.now.slots) v.x) + suc (length (coded (word c.args.self.now.values) (word c.args.self.now.slots) v.y))))) (ap (λ (n : ℕ). act (again n)) e) c.push-in-While-3.ensures.entries c.push-in-While-3.ensures.starts in
          let d : c.len-end.result - c.len-test-in-While.result ≡ suc (length (coded (word c.args.self.now.values) (word c.args.self.now.slots) v.y)) = omega (arith, c.len-test-in-While.ensures.value, c.len-end.ensures.value, grown-size p, grown-size y) in
          let loop = aimed (act (jump false (suc (length (coded (word c.args.self.now.values) (word c.args.self.now.slots) v.y))))) (ap (λ (n : ℕ). act (jump false n)) d) (grown-then p (grown-then y q)) c.len-test-in-While.ensures.value c.set-in-While.ensures.entries c.set-in-While.ensures.starts in
          grown-as v.code (grown-then (said c.args.code.now c.push-in-While.new.self (act begin) refl c.push-in-While.ensures.entries c.push-in-While.ensures.starts) (grown-then x loop));
    }

pub returns-in-Return : goal.returns-in-Return
returns-in-Return t c =
    record {
      is = λ u h.
          let v = return-node (word c.args.self.now.values) (word c.args.self.now.slots) c.requires.tokens c.node-node.ensures c.in-Return.is h in
          grown-as v.code (grown-then (said c.args.code.now c.push-in-Return.new.self (act begin) refl c.push-in-Return.ensures.entries c.push-in-Return.ensures.starts) (grown-then (c.expression-in-Return.ensures.is v.x v.holds) (said c.expression-in-Return.new.code c.push-in-Return-2.new.self (act return) refl c.push-in-Return-2.ensures.entries c.push-in-Return-2.ensures.starts)));
    }

pub returns-in-Fail : goal.returns-in-Fail
returns-in-Fail t c =
    record {
      is = λ u h.
          let v = fail-node (word c.args.self.now.values) (word c.args.self.now.slots) c.requires.tokens c.node-node.ensures c.in-Fail.is h in
          grown-as v.code (grown-then (said c.args.code.now c.push-in-Fail.new.self (act begin) refl c.push-in-Fail.ensures.entries c.push-in-Fail.ensures.starts) (said c.push-in-Fail.new.self c.push-in-Fail-2.new.self (act fail) refl c.push-in-Fail-2.ensures.entries c.push-in-Fail-2.ensures.starts));
    }

pub returns-in-MoreStmts : goal.returns-in-MoreStmts
returns-in-MoreStmts t c =
    record {
      is = λ u h.
          let v = more-stmts-node (word c.args.self.now.values) (word c.args.self.now.slots) c.requires.tokens c.node-node.ensures c.in-MoreStmts.is h in
          grown-as v.code (grown-then (c.statement-in-MoreStmts.ensures.is v.x v.holds) (c.statement-in-MoreStmts-2.ensures.is v.y v.holds₂));
    }

pub returns-in-Braced : goal.returns-in-Braced
returns-in-Braced t c =
    record {
      is = λ u h.
          let v = braced-node (word c.args.self.now.values) (word c.args.self.now.slots) c.requires.tokens c.node-node.ensures c.in-Braced.is h in
          grown-as v.code (c.statement-in-Braced.ensures.is v.x v.holds);
    }

pub returns-in-DeclareOwn : goal.returns-in-DeclareOwn
returns-in-DeclareOwn t c =
    record {
      is = λ u h.
          let v = own-node (word c.args.self.now.values) (word c.args.self.now.slots) c.requires.tokens c.node-node.ensures c.in-DeclareOwn.is h in
          grown-as v.code (c.own.ensures.is v.low v.high v.first v.second);
    }

pub returns-in_default : goal.returns-in_default
returns-in_default t c =
    record { is = λ u h. grown-as (silent-node (word c.args.self.now.values) (word c.args.self.now.slots) c.requires.tokens c.requires.part c.node-node.ensures c.requires.rooted.holds c.in_default.not-Empty c.in_default.not-Declare c.in_default.not-DeclareFree c.in_default.not-Assign c.in_default.not-Eval c.in_default.not-Block c.in_default.not-IfElse c.in_default.not-While c.in_default.not-Return c.in_default.not-Fail c.in_default.not-MoreStmts c.in_default.not-Braced c.in_default.not-DeclareOwn h) (grown-none _) }
