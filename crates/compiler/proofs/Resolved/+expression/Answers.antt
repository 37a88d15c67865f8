use Rattle.std.proofs.Common.{◌≡◌, ℕ, ◌+◌, ◌-◌, ◌%◌, true, false, length, w32, ℤ, pos, ◌-ℤ◌, refl, ap, ◌∙◌, arith}
use mir.Facts.{to_z-of_z}
use Rattle.syntax.specs.NodeKinds.{node_number}
use Rattle.semantics.specs.Program.{slot}
use Rattle.simulation.specs.Code.{number, name, call, constant, jump, leaf, act}
use Rattle.events.specs.Event.{count}
use Rattle.compiler.specs.Coded.{word, coded}
use Rattle.compiler.specs.Pass.{operation_of, jump_of}
use Rattle.compiler.proofs.Laws.{grown-none, grown-then, grown-as, grown-size, said, aimed, due-as, due-room, due-next, due-front, due-after, room}
use Rattle.compiler.proofs.Nodes.{number-node, negative-node, name-node, no-args-node, always-node, never-node, call-node, bracket-node, junction, junction-node, operation-node, operated-node}
use Rattle.events.proofs.Laws.{rooted-child}
use Rattle.compiler.proofs.Resolved.+expression.Goals as goal

-- `expression`: for each kind of node, what its calls ask, and that the code of its parts is its code.

pub number-requires : goal.number-requires
number-requires t c =
    ((number-node (word c.args.self.now.values) (word c.args.self.now.slots) c.requires.tokens c.node-node.ensures c.in-Number.is c.requires.rooted.holds).own c.requires.sound).1

pub push-requires : goal.push-requires
push-requires t c =
    let v = number-node (word c.args.self.now.values) (word c.args.self.now.slots) c.requires.tokens c.node-node.ensures c.in-Number.is c.requires.rooted.holds in
    due-room (due-as v.code c.requires.due)

pub overflow_add-node : goal.overflow_add-node
overflow_add-node t c =
    let v = negative-node (word c.args.self.now.values) (word c.args.self.now.slots) c.requires.tokens c.node-node.ensures c.in-Negative.is c.requires.rooted.holds in
    omega (arith, (v.own c.requires.sound).0, c.requires.within.small)

pub negated-requires : goal.negated-requires
negated-requires t c =
    let v = negative-node (word c.args.self.now.values) (word c.args.self.now.slots) c.requires.tokens c.node-node.ensures c.in-Negative.is c.requires.rooted.holds in
    (v.own c.requires.sound).1

pub push-requires-in-Negative : goal.push-requires-in-Negative
push-requires-in-Negative t c =
    let v = negative-node (word c.args.self.now.values) (word c.args.self.now.slots) c.requires.tokens c.node-node.ensures c.in-Negative.is c.requires.rooted.holds in
    due-room (due-as v.code c.requires.due)

pub address-requires : goal.address-requires
address-requires t c =
    let v = name-node (word c.args.self.now.values) (word c.args.self.now.slots) c.requires.tokens c.node-node.ensures c.in-Name.is c.requires.rooted.holds in
    omega (arith, (v.own c.requires.sound).0, c.requires.within.named)

pub push-requires-in-Name : goal.push-requires-in-Name
push-requires-in-Name t c =
    let v = name-node (word c.args.self.now.values) (word c.args.self.now.slots) c.requires.tokens c.node-node.ensures c.in-Name.is c.requires.rooted.holds in
    due-room (due-as v.code c.requires.due)

pub expression-requires : goal.expression-requires
expression-requires t c =
    let v = call-node (word c.args.self.now.values) (word c.args.self.now.slots) c.requires.tokens c.node-node.ensures c.in-Call.is c.requires.rooted.holds in
    (omega (arith, v.falls, c.decreases), room refl c.requires.rooted v.falls v.holds c.requires.within (v.sound c.requires.sound) (due-front _ _ (due-as v.code c.requires.due)))

pub arity-count-requires : goal.arity-count-requires
arity-count-requires t c =
    let v = call-node (word c.args.self.now.values) (word c.args.self.now.slots) c.requires.tokens c.node-node.ensures c.in-Call.is c.requires.rooted.holds in
    rooted-child c.requires.rooted v.falls v.holds

pub meaning-function-requires : goal.meaning-function-requires
meaning-function-requires t c =
    let v = call-node (word c.args.self.now.values) (word c.args.self.now.slots) c.requires.tokens c.node-node.ensures c.in-Call.is c.requires.rooted.holds in
    omega (arith, (v.own c.requires.sound).0, c.requires.within.named)

pub push-requires-in-Call : goal.push-requires-in-Call
push-requires-in-Call t c =
    let v = call-node (word c.args.self.now.values) (word c.args.self.now.slots) c.requires.tokens c.node-node.ensures c.in-Call.is c.requires.rooted.holds in
    due-room (due-after (due-as v.code c.requires.due) (c.expression.ensures.is v.x v.holds))

pub expression-requires-in-Bracket : goal.expression-requires-in-Bracket
expression-requires-in-Bracket t c =
    let v = bracket-node (word c.args.self.now.values) (word c.args.self.now.slots) c.requires.tokens c.node-node.ensures c.in-Bracket.is c.requires.rooted.holds in
    (omega (arith, v.falls, c.decreases), room refl c.requires.rooted v.falls v.holds c.requires.within (v.sound c.requires.sound) (due-as v.code c.requires.due))

pub push-requires-in-Always : goal.push-requires-in-Always
push-requires-in-Always t c =
    due-room (due-as (always-node (word c.args.self.now.values) (word c.args.self.now.slots) c.requires.tokens c.node-node.ensures c.in-Always.is c.requires.rooted.holds) c.requires.due)

pub push-requires-in-Never : goal.push-requires-in-Never
push-requires-in-Never t c =
    due-room (due-as (never-node (word c.args.self.now.values) (word c.args.self.now.slots) c.requires.tokens c.node-node.ensures c.in-Never.is c.requires.rooted.holds) c.requires.due)

pub expression-requires-in-Both : goal.expression-requires-in-Both
expression-requires-in-Both t c =
    let v = junction-node (word c.args.self.now.values) (word c.args.self.now.slots) c.requires.tokens (junction (word c.args.self.now.values) (word c.args.self.now.slots) c.requires.tokens c.in-Both.is) c.node-node.ensures c.requires.rooted.holds in
    (omega (arith, v.falls, c.decreases), room refl c.requires.rooted v.falls v.holds c.requires.within (v.sound c.requires.sound) (due-front _ _ (due-as v.code c.requires.due)))

pub push-requires-in-Both : goal.push-requires-in-Both
push-requires-in-Both t c =
    let v = junction-node (word c.args.self.now.values) (word c.args.self.now.slots) c.requires.tokens (junction (word c.args.self.now.values) (word c.args.self.now.slots) c.requires.tokens c.in-Both.is) c.node-node.ensures c.requires.rooted.holds in
    due-room (due-after (due-as v.code c.requires.due) (c.expression-in-Both.ensures.is v.x v.holds))

pub expression-requires-in-Both-2 : goal.expression-requires-in-Both-2
expression-requires-in-Both-2 t c =
    let v = junction-node (word c.args.self.now.values) (word c.args.self.now.slots) c.requires.tokens (junction (word c.args.self.now.values) (word c.args.self.now.slots) c.requires.tokens c.in-Both.is) c.node-node.ensures c.requires.rooted.holds in
    (omega (arith, v.falls₂, c.decreases), room refl c.requires.rooted v.falls₂ v.holds₂ c.requires.within (v.sound₂ c.requires.sound) (due-next _ _ (due-after (due-as v.code c.requires.due) (c.expression-in-Both.ensures.is v.x v.holds)) c.push-in-Both.ensures.entries))

pub overflow_sub-over : goal.overflow_sub-over
overflow_sub-over t c =
    let v = junction-node (word c.args.self.now.values) (word c.args.self.now.slots) c.requires.tokens (junction (word c.args.self.now.values) (word c.args.self.now.slots) c.requires.tokens c.in-Both.is) c.node-node.ensures c.requires.rooted.holds in
    let g = c.expression-in-Both-2.ensures.is v.y v.holds₂ in
    let p = said c.expression-in-Both.new.code c.push-in-Both.new.self (act (jump c.jump_over-flag.result 0)) refl c.push-in-Both.ensures.entries c.push-in-Both.ensures.starts in
    omega (arith, c.len-at.ensures.value, c.len.ensures.value, grown-size p, grown-size g)

pub set-requires : goal.set-requires
set-requires t c =
    let v = junction-node (word c.args.self.now.values) (word c.args.self.now.slots) c.requires.tokens (junction (word c.args.self.now.values) (word c.args.self.now.slots) c.requires.tokens c.in-Both.is) c.node-node.ensures c.requires.rooted.holds in
    let g = c.expression-in-Both-2.ensures.is v.y v.holds₂ in
    let p = said c.expression-in-Both.new.code c.push-in-Both.new.self (act (jump c.jump_over-flag.result 0)) refl c.push-in-Both.ensures.entries c.push-in-Both.ensures.starts in
    (omega (arith, c.len-at.ensures.value, grown-size p, grown-size g), omega (arith, c.len-at.ensures.few))

pub expression-requires-in_default : goal.expression-requires-in_default
expression-requires-in_default t c =
    let w = operated-node (word c.args.self.now.values) (word c.args.self.now.slots) c.requires.tokens (operation-node (word c.args.self.now.values) (word c.args.self.now.slots) c.requires.tokens c.requires.part c.node-node.ensures c.requires.rooted.holds c.in_default.not-Number c.in_default.not-Negative c.in_default.not-Name c.in_default.not-Call c.in_default.not-Bracket c.in_default.not-NoArgs c.in_default.not-Always c.in_default.not-Never c.in_default.not-Both c.in_default.not-Either) c.node-node.ensures c.requires.rooted.holds in
    let v = w.two in
    (omega (arith, v.falls, c.decreases), room w.same c.requires.rooted v.falls v.holds c.requires.within (v.sound c.requires.sound) (due-front _ _ (due-as v.code c.requires.due)))

pub expression-requires-in_default-2 : goal.expression-requires-in_default-2
expression-requires-in_default-2 t c =
    let w = operated-node (word c.args.self.now.values) (word c.args.self.now.slots) c.requires.tokens (operation-node (word c.args.self.now.values) (word c.args.self.now.slots) c.requires.tokens c.requires.part c.node-node.ensures c.requires.rooted.holds c.in_default.not-Number c.in_default.not-Negative c.in_default.not-Name c.in_default.not-Call c.in_default.not-Bracket c.in_default.not-NoArgs c.in_default.not-Always c.in_default.not-Never c.in_default.not-Both c.in_default.not-Either) c.node-node.ensures c.requires.rooted.holds in
    let v = w.two in
    (omega (arith, v.falls₂, c.decreases), room w.same₂ c.requires.rooted v.falls₂ v.holds₂ c.requires.within (v.sound₂ c.requires.sound) (due-front _ _ (due-after (due-as v.code c.requires.due) (c.expression-in_default.ensures.is v.x v.holds))))

pub overflow_sub-over-in_default : goal.overflow_sub-over-in_default
overflow_sub-over-in_default t c =
    let w = operated-node (word c.args.self.now.values) (word c.args.self.now.slots) c.requires.tokens (operation-node (word c.args.self.now.values) (word c.args.self.now.slots) c.requires.tokens c.requires.part c.node-node.ensures c.requires.rooted.holds c.in_default.not-Number c.in_default.not-Negative c.in_default.not-Name c.in_default.not-Call c.in_default.not-Bracket c.in_default.not-NoArgs c.in_default.not-Always c.in_default.not-Never c.in_default.not-Both c.in_default.not-Either) c.node-node.ensures c.requires.rooted.holds in
    let v = w.two in
    omega (arith, c.len-at-in_default.ensures.value, c.len-in_default.ensures.value, grown-size (c.expression-in_default-2.ensures.is v.y v.holds₂))

pub operation-requires : goal.operation-requires
operation-requires t c =
    (operated-node (word c.args.self.now.values) (word c.args.self.now.slots) c.requires.tokens (operation-node (word c.args.self.now.values) (word c.args.self.now.slots) c.requires.tokens c.requires.part c.node-node.ensures c.requires.rooted.holds c.in_default.not-Number c.in_default.not-Negative c.in_default.not-Name c.in_default.not-Call c.in_default.not-Bracket c.in_default.not-NoArgs c.in_default.not-Always c.in_default.not-Never c.in_default.not-Both c.in_default.not-Either) c.node-node.ensures c.requires.rooted.holds).few

pub push-requires-in_default : goal.push-requires-in_default
push-requires-in_default t c =
    let w = operated-node (word c.args.self.now.values) (word c.args.self.now.slots) c.requires.tokens (operation-node (word c.args.self.now.values) (word c.args.self.now.slots) c.requires.tokens c.requires.part c.node-node.ensures c.requires.rooted.holds c.in_default.not-Number c.in_default.not-Negative c.in_default.not-Name c.in_default.not-Call c.in_default.not-Bracket c.in_default.not-NoArgs c.in_default.not-Always c.in_default.not-Never c.in_default.not-Both c.in_default.not-Either) c.node-node.ensures c.requires.rooted.holds in
    let v = w.two in
    due-room (due-after (due-after (due-as v.code c.requires.due) (c.expression-in_default.ensures.is v.x v.holds)) (c.expression-in_default-2.ensures.is v.y v.holds₂))

pub returns-in-Number : goal.returns-in-Number
returns-in-Number t c =
    record {
      is = λ u h.
          let v = number-node (word c.args.self.now.values) (word c.args.self.now.slots) c.requires.tokens c.node-node.ensures c.in-Number.is h in
          grown-as v.code (said c.args.code.now c.push.new.self (leaf (number (pos (word c.args.self.now.values c.node-node.result.token)))) (ap (λ (z : ℤ). leaf (number z)) (to_z-of_z {w = w32} (record { sfits = c.number.type_inv }) ∙ c.number.ensures)) c.push.ensures.entries c.push.ensures.starts);
    }

pub returns-in-Negative : goal.returns-in-Negative
returns-in-Negative t c =
    record {
      is = λ u h.
          let v = negative-node (word c.args.self.now.values) (word c.args.self.now.slots) c.requires.tokens c.node-node.ensures c.in-Negative.is h in
          grown-as v.code (said c.args.code.now c.push-in-Negative.new.self (leaf (number (pos 0 -ℤ pos (word c.args.self.now.values (c.node-node.result.token + 1))))) (ap (λ (z : ℤ). leaf (number z)) (to_z-of_z {w = w32} (record { sfits = c.negated.type_inv }) ∙ c.negated.ensures)) c.push-in-Negative.ensures.entries c.push-in-Negative.ensures.starts);
    }

pub returns-in-Name : goal.returns-in-Name
returns-in-Name t c =
    record {
      is = λ u h.
          let v = name-node (word c.args.self.now.values) (word c.args.self.now.slots) c.requires.tokens c.node-node.ensures c.in-Name.is h in
          let w = name-node (word c.args.self.now.values) (word c.args.self.now.slots) c.requires.tokens c.node-node.ensures c.in-Name.is c.requires.rooted.holds in
          let e : c.address.result.0 % 16 ≡ word c.args.self.now.slots c.node-node.result.token = omega (arith, c.address.ensures, (w.own c.requires.sound).1) in
          grown-as v.code (said c.args.code.now c.push-in-Name.new.self (leaf (name (slot (word c.args.self.now.slots c.node-node.result.token)))) (ap (λ (k : ℕ). leaf (name (slot k))) e) c.push-in-Name.ensures.entries c.push-in-Name.ensures.starts);
    }

pub returns-in-Call : goal.returns-in-Call
returns-in-Call t c =
    record {
      is = λ u h.
          let v = call-node (word c.args.self.now.values) (word c.args.self.now.slots) c.requires.tokens c.node-node.ensures c.in-Call.is h in
          let w = call-node (word c.args.self.now.values) (word c.args.self.now.slots) c.requires.tokens c.node-node.ensures c.in-Call.is c.requires.rooted.holds in
          let e : c.meaning-function.result % 16 ≡ word c.args.self.now.slots c.node-node.result.token = omega (arith, c.meaning-function.ensures, (w.own c.requires.sound).1) in
          grown-as v.code (grown-then (c.expression.ensures.is v.x v.holds) (said c.expression.new.code c.push-in-Call.new.self (act (call (word c.args.self.now.slots c.node-node.result.token) (count v.x))) (rw (e, c.arity-count.ensures.is v.x v.holds)) c.push-in-Call.ensures.entries c.push-in-Call.ensures.starts));
    }

pub returns-in-Bracket : goal.returns-in-Bracket
returns-in-Bracket t c =
    record {
      is = λ u h.
          let v = bracket-node (word c.args.self.now.values) (word c.args.self.now.slots) c.requires.tokens c.node-node.ensures c.in-Bracket.is h in
          grown-as v.code (c.expression-in-Bracket.ensures.is v.x v.holds);
    }

pub returns-in-NoArgs : goal.returns-in-NoArgs
returns-in-NoArgs t c =
    record {
      is = λ u h.
          grown-as (no-args-node (word c.args.self.now.values) (word c.args.self.now.slots) c.requires.tokens c.node-node.ensures c.in-NoArgs.is h) (grown-none _);
    }

pub returns-in-Always : goal.returns-in-Always
returns-in-Always t c =
    record {
      is = λ u h.
          grown-as (always-node (word c.args.self.now.values) (word c.args.self.now.slots) c.requires.tokens c.node-node.ensures c.in-Always.is h) (said c.args.code.now c.push-in-Always.new.self (act (constant true)) refl c.push-in-Always.ensures.entries c.push-in-Always.ensures.starts);
    }

pub returns-in-Never : goal.returns-in-Never
returns-in-Never t c =
    record {
      is = λ u h.
          grown-as (never-node (word c.args.self.now.values) (word c.args.self.now.slots) c.requires.tokens c.node-node.ensures c.in-Never.is h) (said c.args.code.now c.push-in-Never.new.self (act (constant false)) refl c.push-in-Never.ensures.entries c.push-in-Never.ensures.starts);
    }

pub returns-in-Both : goal.returns-in-Both
returns-in-Both t c =
    record {
      is = λ u h.
          let v = junction-node (word c.args.self.now.values) (word c.args.self.now.slots) c.requires.tokens (junction (word c.args.self.now.values) (word c.args.self.now.slots) c.requires.tokens c.in-Both.is) c.node-node.ensures h in
          let g = c.expression-in-Both-2.ensures.is v.y v.holds₂ in
          let p = said c.expression-in-Both.new.code c.push-in-Both.new.self (act (jump c.jump_over-flag.result 0)) refl c.push-in-Both.ensures.entries c.push-in-Both.ensures.starts in
          let e : c.len.result - (c.len-at.result + 1) ≡ length (coded (word c.args.self.now.values) (word c.args.self.now.slots) v.y) = omega (arith, c.len-at.ensures.value, c.len.ensures.value, grown-size p, grown-size g) in
          grown-as v.code (grown-then (c.expression-in-Both.ensures.is v.x v.holds) (aimed (act (jump (jump_of (node_number c.node-node.result.kind)) (length (coded (word c.args.self.now.values) (word c.args.self.now.slots) v.y)))) (rw (c.jump_over-flag.ensures, e)) (grown-then p g) c.len-at.ensures.value c.set.ensures.entries c.set.ensures.starts));
    }

pub returns-in_default : goal.returns-in_default
returns-in_default t c =
    record {
      is = λ u h.
          let v = (operated-node (word c.args.self.now.values) (word c.args.self.now.slots) c.requires.tokens (operation-node (word c.args.self.now.values) (word c.args.self.now.slots) c.requires.tokens c.requires.part c.node-node.ensures c.requires.rooted.holds c.in_default.not-Number c.in_default.not-Negative c.in_default.not-Name c.in_default.not-Call c.in_default.not-Bracket c.in_default.not-NoArgs c.in_default.not-Always c.in_default.not-Never c.in_default.not-Both c.in_default.not-Either) c.node-node.ensures h).two in
          let g = c.expression-in_default-2.ensures.is v.y v.holds₂ in
          let e : c.len-in_default.result - c.len-at-in_default.result ≡ length (coded (word c.args.self.now.values) (word c.args.self.now.slots) v.y) = omega (arith, c.len-at-in_default.ensures.value, c.len-in_default.ensures.value, grown-size g) in
          let k = node_number c.node-node.result.kind in
          grown-as v.code (grown-then (c.expression-in_default.ensures.is v.x v.holds) (grown-then g (said c.expression-in_default-2.new.code c.push-in_default.new.self (operation_of k c.node-node.result.third (length (coded (word c.args.self.now.values) (word c.args.self.now.slots) v.y))) (c.operation.ensures ∙ ap (λ (d : ℕ). operation_of k c.node-node.result.third d) e) c.push-in_default.ensures.entries c.push-in_default.ensures.starts)));
    }
