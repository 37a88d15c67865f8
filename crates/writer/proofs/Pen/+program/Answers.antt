use Prim.Native.Nat.{ℕ}
use mathlib.Core.Path.{refl, sym}
use mathlib.Core.List.{List, []}
use native.Mathlib.Omega.{arith}
use Rattle.text_rules.specs.Spelling.{spelled_in}
use Rattle.events.proofs.Nodes.{at-kind, other}
use Rattle.events.proofs.Laws.{rooted-child}
use Rattle.printing.proofs.Puts.{put_as}
use Rattle.writer.specs.Parts.{value_in}
use Rattle.writer.proofs.Nodes.{child, parameters-first, parameters-node, function-node, functions-node}
use Rattle.writer.proofs.Leaves.{level-of, none-at}
use Rattle.writer.proofs.Bytes.{puts-then, lays-puts}
use Rattle.writer.proofs.Pen.+program.Goals as goal

-- for needs that ask nothing of names and values
abbrev unspelled : ℕ → List ℕ
unspelled i = []

abbrev unvalued : ℕ → ℕ
unvalued i = 0

pub node-before-requires : goal.node-before-requires
node-before-requires t c =
    let v = parameters-first unspelled unvalued c.node-node.ensures c.in-MoreParams.is c.requires.rooted.holds in
    let R = rooted-child c.requires.rooted v.falls v.holds in
    omega (arith, R.room, R.few)

pub program-requires : goal.program-requires
program-requires t c =
    let v = parameters-first unspelled unvalued c.node-node.ensures c.in-MoreParams.is c.requires.rooted.holds in
    (omega (arith, v.falls, c.decreases), child c.requires refl v.falls v.holds (v.below c.requires.tokens))

pub program-requires-in-Function : goal.program-requires-in-Function
program-requires-in-Function t c =
    let v = function-node unspelled unvalued c.node-node.ensures c.in-Function.is c.requires.rooted.holds in
    (omega (arith, v.falls, c.decreases), child c.requires refl v.falls v.holds (v.below c.requires.tokens))

pub statement-requires : goal.statement-requires
statement-requires t c =
    let v = function-node unspelled unvalued c.node-node.ensures c.in-Function.is c.requires.rooted.holds in
    (child c.requires refl v.falls₂ v.holds₂ (v.below₂ c.requires.tokens), omega (arith, v.falls₂, c.requires.rooted.few))

pub program-requires-in-MoreFuns : goal.program-requires-in-MoreFuns
program-requires-in-MoreFuns t c =
    let v = functions-node unspelled unvalued c.node-node.ensures c.in-MoreFuns.is c.requires.rooted.holds in
    (omega (arith, v.falls, c.decreases), child c.requires refl v.falls v.holds (v.below c.requires.tokens))

pub program-requires-in-MoreFuns-2 : goal.program-requires-in-MoreFuns-2
program-requires-in-MoreFuns-2 t c =
    let v = functions-node unspelled unvalued c.node-node.ensures c.in-MoreFuns.is c.requires.rooted.holds in
    (omega (arith, v.falls₂, c.decreases), child c.requires refl v.falls₂ v.holds₂ (v.below₂ c.requires.tokens))

pub returns-in-MoreParams : goal.returns-in-MoreParams
returns-in-MoreParams t c =
    let S = spelled_in c.args.analysis.now.source in
    let U = value_in c.args.analysis.now.source in
    record { same = cc; is = λ t h. let v = parameters-node S U c.node-node.ensures c.node-before.ensures c.in-MoreParams.is h in put_as (sym (v.is _)) (puts-then (lays-puts c.program.ensures v.x v.holds) (puts-then c.comma.ensures c.typed.ensures)).put }

pub returns-in-Function : goal.returns-in-Function
returns-in-Function t c =
    let S = spelled_in c.args.analysis.now.source in
    let U = value_in c.args.analysis.now.source in
    record { same = cc; is = λ t h. let v = function-node S U c.node-node.ensures c.in-Function.is h in put_as (sym (v.is _)) (puts-then c.typed-in-Function.ensures (puts-then c.byte.ensures (puts-then (lays-puts c.program-in-Function.ensures v.x v.holds) (puts-then c.bytes.ensures ((lays-puts c.statement.ensures v.y v.holds₂)))))).put }

pub returns-in-MoreFuns : goal.returns-in-MoreFuns
returns-in-MoreFuns t c =
    let S = spelled_in c.args.analysis.now.source in
    let U = value_in c.args.analysis.now.source in
    record { same = cc; is = λ t h. let v = functions-node S U c.node-node.ensures c.in-MoreFuns.is h in put_as (sym (v.is _)) (puts-then (lays-puts c.program-in-MoreFuns.ensures v.x v.holds) ((lays-puts c.program-in-MoreFuns-2.ensures v.y v.holds₂))).put }

pub returns-in_default : goal.returns-in_default
returns-in_default t c =
    let n = c.in_default in
    let S = spelled_in c.args.analysis.now.source in
    let U = value_in c.args.analysis.now.source in
    record { same = cc; is = λ t h. put_as (sym (none-at S U (level-of c.node-node.ensures c.requires.rooted.holds c.requires.part h) c.node-node.ensures (at-kind _ c.node-node.ensures refl h) (other n.not-MoreParams) (other n.not-Function) (other n.not-MoreFuns) _)) c.bytes-in_default.ensures.put }
