use Prim.Native.Nat.{ℕ}
use mathlib.Core.Path.{refl, sym}
use mathlib.Core.List.{List, []}
use native.Mathlib.Omega.{arith}
use Rattle.text_rules.specs.Spelling.{spelled_in}
use Rattle.events.proofs.Nodes.{at-kind, token-below, other, joint, not-joint}
use Rattle.events.proofs.Laws.{rooted-child}
use Rattle.printing.proofs.Puts.{put_as}
use Rattle.writer.specs.Parts.{value_in}
use Rattle.writer.proofs.Sides.{sides}
use Rattle.writer.proofs.Nodes.{child, call-node, bracket-node, arguments-node, arguments-first}
use Rattle.writer.proofs.Leaves.{level-of, leaf-at}
use Rattle.writer.proofs.Bytes.{puts-then, lays-puts}
use Rattle.writer.proofs.Pen.+expression.Goals as goal

-- for needs that ask nothing of names and values
abbrev unspelled : ℕ → List ℕ
unspelled i = []

abbrev unvalued : ℕ → ℕ
unvalued i = 0

pub expression-requires : goal.expression-requires
expression-requires t c =
    let v = call-node unspelled unvalued c.node-node.ensures c.in-Call.is c.requires.rooted.holds in
    (omega (arith, v.falls, c.decreases), child c.requires refl v.falls v.holds (v.below c.requires.tokens))

pub expression-requires-in-Bracket : goal.expression-requires-in-Bracket
expression-requires-in-Bracket t c =
    let v = bracket-node unspelled unvalued c.node-node.ensures c.in-Bracket.is c.requires.rooted.holds in
    (omega (arith, v.falls, c.decreases), child c.requires refl v.falls v.holds (v.below c.requires.tokens))

pub node-before-requires : goal.node-before-requires
node-before-requires t c =
    let v = arguments-first unspelled unvalued c.node-node.ensures c.in-MoreArgs.is c.requires.rooted.holds in
    let R = rooted-child c.requires.rooted v.falls v.holds in
    omega (arith, R.room, R.few)

pub expression-requires-in-MoreArgs : goal.expression-requires-in-MoreArgs
expression-requires-in-MoreArgs t c =
    let v = arguments-first unspelled unvalued c.node-node.ensures c.in-MoreArgs.is c.requires.rooted.holds in
    (omega (arith, v.falls, c.decreases), child c.requires refl v.falls v.holds (v.below c.requires.tokens))

pub expression-requires-in-MoreArgs-2 : goal.expression-requires-in-MoreArgs-2
expression-requires-in-MoreArgs-2 t c =
    let v = arguments-node unspelled unvalued c.node-node.ensures c.node-before.ensures c.in-MoreArgs.is c.requires.rooted.holds in
    (omega (arith, v.falls₂, c.decreases), child c.requires refl v.falls₂ v.holds₂ (v.below₂ c.requires.tokens))

pub expression-requires-in-Times : goal.expression-requires-in-Times
expression-requires-in-Times t c =
    let v = sides unspelled unvalued (joint c.in-Times.is) c.node-node.ensures c.requires.rooted.holds in
    (omega (arith, v.falls, c.decreases), child c.requires v.part v.falls v.holds (v.below c.requires.tokens))

pub expression-requires-in-Times-2 : goal.expression-requires-in-Times-2
expression-requires-in-Times-2 t c =
    let v = sides unspelled unvalued (joint c.in-Times.is) c.node-node.ensures c.requires.rooted.holds in
    (omega (arith, v.falls₂, c.decreases), child c.requires v.part₂ v.falls₂ v.holds₂ (v.below₂ c.requires.tokens))

pub leaf-requires : goal.leaf-requires
leaf-requires t c = omega (arith, token-below c.node-node.ensures c.requires.rooted.holds c.requires.tokens)

pub returns-in-Call : goal.returns-in-Call
returns-in-Call t c =
    let S = spelled_in c.args.analysis.now.source in
    let U = value_in c.args.analysis.now.source in
    record { same = cc; is = λ t h. let v = call-node S U c.node-node.ensures c.in-Call.is h in put_as (sym (v.is _)) (puts-then c.name.ensures (puts-then c.byte.ensures (puts-then (lays-puts c.expression.ensures v.x v.holds) c.byte-in-Call.ensures))).put }

pub returns-in-Bracket : goal.returns-in-Bracket
returns-in-Bracket t c =
    let S = spelled_in c.args.analysis.now.source in
    let U = value_in c.args.analysis.now.source in
    record { same = cc; is = λ t h. let v = bracket-node S U c.node-node.ensures c.in-Bracket.is h in put_as (sym (v.is _)) (lays-puts c.expression-in-Bracket.ensures v.x v.holds).put }

pub returns-in-MoreArgs : goal.returns-in-MoreArgs
returns-in-MoreArgs t c =
    let S = spelled_in c.args.analysis.now.source in
    let U = value_in c.args.analysis.now.source in
    record { same = cc; is = λ t h. let v = arguments-node S U c.node-node.ensures c.node-before.ensures c.in-MoreArgs.is h in put_as (sym (v.is _)) (puts-then (lays-puts c.expression-in-MoreArgs.ensures v.x v.holds) (puts-then c.comma.ensures ((lays-puts c.expression-in-MoreArgs-2.ensures v.y v.holds₂)))).put }

pub returns-in-Times : goal.returns-in-Times
returns-in-Times t c =
    let S = spelled_in c.args.analysis.now.source in
    let U = value_in c.args.analysis.now.source in
    record {
      same = cc;
      is = λ t h.
          let v = sides S U (joint c.in-Times.is) c.node-node.ensures h in
          put_as (sym (v.is _)) (rw (sym c.is_bracketed-needed.ensures, sym c.left_rank.ensures, sym c.right_rank.ensures) ((puts-then (puts-then (puts-then (puts-then c.mark.ensures (lays-puts c.expression-in-Times.ensures v.x v.holds)) c.sign.ensures) (lays-puts c.expression-in-Times-2.ensures v.y v.holds₂)) c.mark-in-Times.ensures).put));
    }

pub returns-in_default : goal.returns-in_default
returns-in_default t c =
    let n = c.in_default in
    let S = spelled_in c.args.analysis.now.source in
    let U = value_in c.args.analysis.now.source in
    record { same = cc; is = λ t h. put_as (sym (leaf-at S U (level-of c.node-node.ensures c.requires.rooted.holds c.requires.part h) c.node-node.ensures (at-kind _ c.node-node.ensures refl h) (other n.not-Call) (other n.not-Bracket) (other n.not-MoreArgs) (not-joint (other n.not-Times) (other n.not-Plus) (other n.not-Minus) (other n.not-Compare) (other n.not-Both) (other n.not-Either)) _)) c.leaf.ensures.put }
