use Rattle.std.proofs.Common.{ℕ, List, [], ◌∷◌, ◌++◌, set, length, sym, refl, ap, ◌∙◌, arith, append-nil, length-append}
use lib.Seq.{sets}
use Rattle.semantics.specs.Program.{Stmts}
use Rattle.text_rules.specs.Resolve.{part}
use Rattle.simulation.specs.Code.{Entry, entries_of, starts_of}
use Rattle.compiler.specs.Coded.{word, coded}
use Rattle.compiler.proofs.Laws.{due-as, due-room, due-front, due-after, due-behind, room}
use Rattle.compiler.proofs.Parts.{starts-length}
use Rattle.compiler.proofs.Programs.{funs-node, none-node, function-node, started, bodied}
use Rattle.events.proofs.Laws.{rooted-child}
use Rattle.compiler.proofs.Resolved.+program.Goals as goal

pub returns-in_default : goal.returns-in_default
unfolding entries_of starts_of
returns-in_default t c =
    record {
      entries = λ p h. sym (ap (λ (bs : List Stmts). c.args.code.now.entries ++ entries_of bs) (none-node (word c.args.self.now.values) (word c.args.self.now.slots) c.requires.tokens c.node-node.ensures c.in_default.not-MoreFuns h) ∙ append-nil c.args.code.now.entries);
      starts = λ p h. sym (ap (λ (bs : List Stmts). sets c.args.code.now.starts 0 (starts_of (length c.args.code.now.entries) bs)) (none-node (word c.args.self.now.values) (word c.args.self.now.slots) c.requires.tokens c.node-node.ensures c.in_default.not-MoreFuns h));
    }

pub program-requires : goal.program-requires
program-requires t c =
    let v = funs-node (word c.args.self.now.values) (word c.args.self.now.slots) c.requires.tokens c.node-node.ensures c.in-MoreFuns.is c.requires.rooted.holds in
    (omega (arith, v.falls, c.decreases), record { rooted = rooted-child c.requires.rooted v.falls v.holds; tokens = c.requires.tokens; within = c.requires.within; sound = v.sound c.requires.sound; due = due-front _ _ (due-as v.code c.requires.due); few = omega (arith, v.many, c.requires.few) })

pub functions-g-requires : goal.functions-g-requires
functions-g-requires t c =
    let v = funs-node (word c.args.self.now.values) (word c.args.self.now.slots) c.requires.tokens c.node-node.ensures c.in-MoreFuns.is c.requires.rooted.holds in
    rooted-child c.requires.rooted v.falls v.holds

pub set_start-requires : goal.set_start-requires
set_start-requires t c =
    let v = funs-node (word c.args.self.now.values) (word c.args.self.now.slots) c.requires.tokens c.node-node.ensures c.in-MoreFuns.is c.requires.rooted.holds in
    omega (arith, c.functions-g.ensures.is (word c.args.self.now.values) (word c.args.self.now.slots) v.x v.holds, v.many, c.requires.few)

pub node-function-requires : goal.node-function-requires
node-function-requires t c =
    let v = funs-node (word c.args.self.now.values) (word c.args.self.now.slots) c.requires.tokens c.node-node.ensures c.in-MoreFuns.is c.requires.rooted.holds in
    omega (arith, v.falls₂, c.requires.rooted.room, c.requires.rooted.few)

pub statement-requires : goal.statement-requires
statement-requires t c =
    let v = funs-node (word c.args.self.now.values) (word c.args.self.now.slots) c.requires.tokens c.node-node.ensures c.in-MoreFuns.is c.requires.rooted.holds in
    let f = function-node (word c.args.self.now.values) (word c.args.self.now.slots) c.requires.tokens c.node-function.ensures v.holds₂ in
    let d = due-behind _ _ (due-as v.code c.requires.due) (c.set_start.ensures.entries ∙ c.program.ensures.entries v.x v.holds) in
    room refl (rooted-child c.requires.rooted v.falls₂ v.holds₂) f.falls f.holds c.requires.within (f.sound (v.sound₂ c.requires.sound)) (due-front _ _ (due-as f.code d))

pub push-requires : goal.push-requires
push-requires t c =
    let v = funs-node (word c.args.self.now.values) (word c.args.self.now.slots) c.requires.tokens c.node-node.ensures c.in-MoreFuns.is c.requires.rooted.holds in
    let f = function-node (word c.args.self.now.values) (word c.args.self.now.slots) c.requires.tokens c.node-function.ensures v.holds₂ in
    let d = due-behind _ _ (due-as v.code c.requires.due) (c.set_start.ensures.entries ∙ c.program.ensures.entries v.x v.holds) in
    due-room (due-after (due-as f.code d) (c.statement.ensures.is f.x f.holds))

pub returns : goal.returns
returns t c =
    record {
      entries = λ p h.
          let v = funs-node (word c.args.self.now.values) (word c.args.self.now.slots) c.requires.tokens c.node-node.ensures c.in-MoreFuns.is h in
          let f = function-node (word c.args.self.now.values) (word c.args.self.now.slots) c.requires.tokens c.node-function.ensures v.holds₂ in
          bodied _ _ _ v.code f.code (c.program.ensures.entries v.x v.holds) c.set_start.ensures.entries (c.statement.ensures.is f.x f.holds).entries c.push.ensures.entries;
      starts = λ p h.
          let v = funs-node (word c.args.self.now.values) (word c.args.self.now.slots) c.requires.tokens c.node-node.ensures c.in-MoreFuns.is h in
          let f = function-node (word c.args.self.now.values) (word c.args.self.now.slots) c.requires.tokens c.node-function.ensures v.holds₂ in
          let n = length c.args.code.now.entries in
          let s = starts_of n (part (word c.args.self.now.values) (word c.args.self.now.slots) v.x []) in
          c.push.ensures.starts ∙ (c.statement.ensures.is f.x f.holds).starts ∙ c.set_start.ensures.starts
          ∙ ap (λ (z : List ℕ). set z c.functions-g.result c.len-at.result) (c.program.ensures.starts v.x v.holds)
          ∙ started c.args.code.now.starts s c.functions-g.result c.len-at.result (c.functions-g.ensures.is (word c.args.self.now.values) (word c.args.self.now.slots) v.x v.holds ∙ sym (starts-length n (part (word c.args.self.now.values) (word c.args.self.now.slots) v.x [])))
          ∙ ap (λ (k : ℕ). sets c.args.code.now.starts 0 (s ++ k ∷ [])) (c.len-at.ensures.value ∙ ap (λ (z : List Entry). length z) (c.program.ensures.entries v.x v.holds) ∙ length-append c.args.code.now.entries (coded (word c.args.self.now.values) (word c.args.self.now.slots) v.x))
          ∙ ap (λ (z : List ℕ). sets c.args.code.now.starts 0 z) (sym (v.starts n));
    }
