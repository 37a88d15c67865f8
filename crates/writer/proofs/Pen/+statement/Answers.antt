use Prim.Native.Nat.{ℕ}
use mathlib.Core.Path.{refl, sym}
use mathlib.Core.List.{List, []}
use native.Mathlib.Omega.{arith}
use Rattle.text_rules.specs.Spelling.{spelled_in}
use Rattle.events.proofs.Nodes.{at-kind, token-below, other}
use Rattle.printing.proofs.Puts.{put_as}
use Rattle.writer.specs.Parts.{value_in}
use Rattle.writer.proofs.Nodes.{child, assign-node, eval-node, return-node, block-node, if-node, while-node, statements-node, braced-node}
use Rattle.writer.proofs.Leaves.{level-of, plain_at, own-node}
use Rattle.writer.proofs.Bytes.{puts-then, lays-puts, lines-puts}
use Rattle.writer.proofs.Pen.+statement.Goals as goal

-- for needs that ask nothing of names and values
abbrev unspelled : ℕ → List ℕ
unspelled i = []

abbrev unvalued : ℕ → ℕ
unvalued i = 0

pub declared-requires : goal.declared-requires
declared-requires t c = omega (arith, token-below c.node-node.ensures c.requires.0.rooted.holds c.requires.0.tokens, c.requires.1)

pub overflow_add-node : goal.overflow_add-node
overflow_add-node t c = omega (arith, token-below c.node-node.ensures c.requires.0.rooted.holds c.requires.0.tokens)

pub pair-requires : goal.pair-requires
pair-requires t c = omega (arith, token-below c.node-node.ensures c.requires.0.rooted.holds c.requires.0.tokens, (own-node unspelled unvalued c.node-node.ensures c.in-DeclareOwn.is c.requires.0.rooted.holds).low)

pub line-requires : goal.line-requires
line-requires t c =
    let v = assign-node unspelled unvalued c.node-node.ensures c.in-Assign.is c.requires.0.rooted.holds in
    (child c.requires.0 refl v.falls v.holds (v.below c.requires.0.tokens), omega arith)

pub line-requires-in-Eval : goal.line-requires-in-Eval
line-requires-in-Eval t c =
    let v = eval-node unspelled unvalued c.node-node.ensures c.in-Eval.is c.requires.0.rooted.holds in
    (child c.requires.0 refl v.falls v.holds (v.below c.requires.0.tokens), omega (arith, c.requires.1))

pub line-requires-in-Return : goal.line-requires-in-Return
line-requires-in-Return t c =
    let v = return-node unspelled unvalued c.node-node.ensures c.in-Return.is c.requires.0.rooted.holds in
    (child c.requires.0 refl v.falls v.holds (v.below c.requires.0.tokens), omega (arith, c.requires.1))

pub statement-requires : goal.statement-requires
statement-requires t c =
    let v = block-node unspelled unvalued c.node-node.ensures c.in-Block.is c.requires.0.rooted.holds in
    (omega (arith, v.falls, c.decreases), (child c.requires.0 refl v.falls v.holds (v.below c.requires.0.tokens), omega (arith, v.falls, c.requires.1)))

pub line-requires-in-IfElse : goal.line-requires-in-IfElse
line-requires-in-IfElse t c =
    let v = if-node unspelled unvalued c.node-node.ensures c.in-IfElse.is c.requires.0.rooted.holds in
    (child c.requires.0 refl v.falls v.holds (v.below c.requires.0.tokens), omega (arith, c.requires.1))

pub statement-requires-in-IfElse : goal.statement-requires-in-IfElse
statement-requires-in-IfElse t c =
    let v = if-node unspelled unvalued c.node-node.ensures c.in-IfElse.is c.requires.0.rooted.holds in
    (omega (arith, v.falls₂, c.decreases), (child c.requires.0 refl v.falls₂ v.holds₂ (v.below₂ c.requires.0.tokens), omega (arith, v.falls₂, c.requires.1)))

pub statement-requires-in-IfElse-2 : goal.statement-requires-in-IfElse-2
statement-requires-in-IfElse-2 t c =
    let v = if-node unspelled unvalued c.node-node.ensures c.in-IfElse.is c.requires.0.rooted.holds in
    (omega (arith, v.falls₃, c.decreases), (child c.requires.0 refl v.falls₃ v.holds₃ (v.below₃ c.requires.0.tokens), omega (arith, v.falls₃, c.requires.1)))

pub line-requires-in-While : goal.line-requires-in-While
line-requires-in-While t c =
    let v = while-node unspelled unvalued c.node-node.ensures c.in-While.is c.requires.0.rooted.holds in
    (child c.requires.0 refl v.falls v.holds (v.below c.requires.0.tokens), omega (arith, c.requires.1))

pub statement-requires-in-While : goal.statement-requires-in-While
statement-requires-in-While t c =
    let v = while-node unspelled unvalued c.node-node.ensures c.in-While.is c.requires.0.rooted.holds in
    (omega (arith, v.falls₂, c.decreases), (child c.requires.0 refl v.falls₂ v.holds₂ (v.below₂ c.requires.0.tokens), omega (arith, v.falls₂, c.requires.1)))

pub statement-requires-in-MoreStmts : goal.statement-requires-in-MoreStmts
statement-requires-in-MoreStmts t c =
    let v = statements-node unspelled unvalued c.node-node.ensures c.in-MoreStmts.is c.requires.0.rooted.holds in
    (omega (arith, v.falls, c.decreases), (child c.requires.0 refl v.falls v.holds (v.below c.requires.0.tokens), omega (arith, v.falls, c.requires.1)))

pub statement-requires-in-MoreStmts-2 : goal.statement-requires-in-MoreStmts-2
statement-requires-in-MoreStmts-2 t c =
    let v = statements-node unspelled unvalued c.node-node.ensures c.in-MoreStmts.is c.requires.0.rooted.holds in
    (omega (arith, v.falls₂, c.decreases), (child c.requires.0 refl v.falls₂ v.holds₂ (v.below₂ c.requires.0.tokens), omega (arith, v.falls₂, c.requires.1)))

pub statement-requires-in-Braced : goal.statement-requires-in-Braced
statement-requires-in-Braced t c =
    let v = braced-node unspelled unvalued c.node-node.ensures c.in-Braced.is c.requires.0.rooted.holds in
    (omega (arith, v.falls, c.decreases), (child c.requires.0 refl v.falls v.holds (v.below c.requires.0.tokens), omega (arith, v.falls, c.requires.1)))

pub plain-requires : goal.plain-requires
plain-requires t c = omega (arith, token-below c.node-node.ensures c.requires.0.rooted.holds c.requires.0.tokens, c.requires.1)

pub returns-in-DeclareOwn : goal.returns-in-DeclareOwn
returns-in-DeclareOwn t c =
    let S = spelled_in c.args.analysis.now.source in
    let U = value_in c.args.analysis.now.source in
    record { same = cc; is = λ t h. let v = own-node S U c.node-node.ensures c.in-DeclareOwn.is h in put_as (sym (v.is _)) (puts-then c.declared.ensures c.pair.ensures).put }

pub returns-in-Assign : goal.returns-in-Assign
returns-in-Assign t c =
    let S = spelled_in c.args.analysis.now.source in
    let U = value_in c.args.analysis.now.source in
    record { same = cc; is = λ t h. let v = assign-node S U c.node-node.ensures c.in-Assign.is h in put_as (sym (v.is _)) (puts-then c.margin.ensures (puts-then c.name.ensures ((lines-puts c.line.ensures v.x v.holds)))).put }

pub returns-in-Eval : goal.returns-in-Eval
returns-in-Eval t c =
    let S = spelled_in c.args.analysis.now.source in
    let U = value_in c.args.analysis.now.source in
    record { same = cc; is = λ t h. let v = eval-node S U c.node-node.ensures c.in-Eval.is h in put_as (sym (v.is _)) (lines-puts c.line-in-Eval.ensures v.x v.holds).put }

pub returns-in-Return : goal.returns-in-Return
returns-in-Return t c =
    let S = spelled_in c.args.analysis.now.source in
    let U = value_in c.args.analysis.now.source in
    record { same = cc; is = λ t h. let v = return-node S U c.node-node.ensures c.in-Return.is h in put_as (sym (v.is _)) (lines-puts c.line-in-Return.ensures v.x v.holds).put }

pub returns-in-Block : goal.returns-in-Block
returns-in-Block t c =
    let S = spelled_in c.args.analysis.now.source in
    let U = value_in c.args.analysis.now.source in
    record { same = cc; is = λ t h. let v = block-node S U c.node-node.ensures c.in-Block.is h in put_as (sym (v.is _)) (lays-puts c.statement.ensures v.x v.holds).put }

pub returns-in-IfElse : goal.returns-in-IfElse
returns-in-IfElse t c =
    let S = spelled_in c.args.analysis.now.source in
    let U = value_in c.args.analysis.now.source in
    record { same = cc; is = λ t h. let v = if-node S U c.node-node.ensures c.in-IfElse.is h in put_as (sym (v.is _)) (puts-then (lines-puts c.line-in-IfElse.ensures v.x v.holds) (puts-then (lays-puts c.statement-in-IfElse.ensures v.y v.holds₂) (puts-then c.words.ensures ((lays-puts c.statement-in-IfElse-2.ensures v.z v.holds₃))))).put }

pub returns-in-While : goal.returns-in-While
returns-in-While t c =
    let S = spelled_in c.args.analysis.now.source in
    let U = value_in c.args.analysis.now.source in
    record { same = cc; is = λ t h. let v = while-node S U c.node-node.ensures c.in-While.is h in put_as (sym (v.is _)) (puts-then (lines-puts c.line-in-While.ensures v.x v.holds) ((lays-puts c.statement-in-While.ensures v.y v.holds₂))).put }

pub returns-in-MoreStmts : goal.returns-in-MoreStmts
returns-in-MoreStmts t c =
    let S = spelled_in c.args.analysis.now.source in
    let U = value_in c.args.analysis.now.source in
    record { same = cc; is = λ t h. let v = statements-node S U c.node-node.ensures c.in-MoreStmts.is h in put_as (sym (v.is _)) (puts-then (lays-puts c.statement-in-MoreStmts.ensures v.x v.holds) ((lays-puts c.statement-in-MoreStmts-2.ensures v.y v.holds₂))).put }

pub returns-in-Braced : goal.returns-in-Braced
returns-in-Braced t c =
    let S = spelled_in c.args.analysis.now.source in
    let U = value_in c.args.analysis.now.source in
    record { same = cc; is = λ t h. let v = braced-node S U c.node-node.ensures c.in-Braced.is h in put_as (sym (v.is _)) (puts-then c.words-in-Braced.ensures (puts-then (lays-puts c.statement-in-Braced.ensures v.x v.holds) c.words-in-Braced-2.ensures)).put }

pub returns-in_default : goal.returns-in_default
returns-in_default t c =
    let n = c.in_default in
    let S = spelled_in c.args.analysis.now.source in
    let U = value_in c.args.analysis.now.source in
    record { same = cc; is = λ t h. put_as (sym (plain_at S U (level-of c.node-node.ensures c.requires.0.rooted.holds c.requires.0.part h) c.node-node.ensures (at-kind _ c.node-node.ensures refl h) (other n.not-DeclareOwn) (other n.not-Assign) (other n.not-Eval) (other n.not-Return) (other n.not-Block) (other n.not-IfElse) (other n.not-While) (other n.not-MoreStmts) (other n.not-Braced) _)) c.plain.ensures.put }
