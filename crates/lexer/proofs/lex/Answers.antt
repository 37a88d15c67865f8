use Prim.Native.Nat.{◌<◌}
use native.Mathlib.Omega.{arith}
use mathlib.Core.Path.{sym}
use lib.ListN.{length, length-map}
use Rattle.std.proofs.lemmas.List.{map-set}
use Rattle.syntax.specs.TokenKinds.{kind_number, kind_numbers}
use Rattle.syntax.specs.declared.token.TokenKind.TheVariants.{End}
use Rattle.lexer.proofs.Turns.{turn-start, too_long, turn-blank, turn-nothing, turn-size, turn-token, turn-large, turn-tokens}
use Rattle.lexer.proofs.lex.Goals as goal

pub returns-then-text-gt-LONGEST : goal.returns-then-text-gt-LONGEST
returns-then-text-gt-LONGEST c =
    too_long c.args.text.now (kind_numbers c.args.kinds.now) c.args.places.now c.args.values.now c.if-text-gt-LONGEST.true

pub loop-at-init : goal.loop-at-init
loop-at-init c =
    turn-start c.args.text.now (kind_numbers c.args.kinds.now) c.args.places.now c.args.values.now c.if-text-gt-LONGEST.false

pub loop-at-preserved-in-Blank : goal.loop-at-preserved-in-Blank
loop-at-preserved-in-Blank c = turn-blank c.loop-at.invariant c.loop-at-test.true (sym (c.in-Blank.ensures))

pub returns-in-Nothing : goal.returns-in-Nothing
returns-in-Nothing c = turn-nothing c.loop-at.invariant c.loop-at-test.true (sym (c.in-Nothing.ensures))

pub overflow_add-at-in-Token : goal.overflow_add-at-in-Token
overflow_add-at-in-Token c =
    let z = turn-size c.loop-at.invariant (kind_number c.in-Token.kind) c.in-Token.size c.in-Token.value c.loop-at-test.true (sym (c.in-Token.ensures)) in
    omega (arith, z.1, c.if-text-gt-LONGEST.false)

pub loop-at-smaller : goal.loop-at-smaller
loop-at-smaller c =
    let z = turn-size c.loop-at.invariant (kind_number c.in-Token.kind) c.in-Token.size c.in-Token.value c.loop-at-test.true (sym (c.in-Token.ensures)) in
    omega (arith, z.0, z.1, c.loop-at-test.true)

pub loop-at-preserved : goal.loop-at-preserved
loop-at-preserved c =
    let h : (c.loop-at.n < length (kind_numbers c.loop-at.kinds)) × (c.loop-at.n < length c.loop-at.places) × (c.loop-at.n < length c.loop-at.values) = simp length-map (omega (arith, c.loop-at-test.true, c.if-text-gt-LONGEST.false, c.loop-at.invariant.few, c.loop-at.auto.kinds, c.loop-at.invariant.places.same_size, c.loop-at.invariant.values.same_size, c.requires.0, c.requires.1, c.requires.2)) in
    rw (map-set kind_number c.loop-at.kinds c.loop-at.n c.in-Token.kind)
    (turn-token c.loop-at.invariant (kind_number c.in-Token.kind) c.in-Token.size c.in-Token.value c.loop-at-test.true (sym c.in-Token.ensures) c.or-large.result h.0 h.1 h.2 cc)

pub returns-in-Some : goal.returns-in-Some
returns-in-Some c =
    rw (map-set kind_number c.loop-at.kinds c.loop-at.n End) (turn-large c.loop-at.invariant c.loop-at-test.false c.in-Some.place c.in-Some.is)

pub returns : goal.returns
returns c =
    let h : (c.loop-at.n < length (kind_numbers c.loop-at.kinds)) × (c.loop-at.n < length c.loop-at.places) × (c.loop-at.n < length c.loop-at.values) = simp length-map (omega (arith, c.if-text-gt-LONGEST.false, c.loop-at.invariant.inside, c.loop-at.invariant.few, c.loop-at.auto.kinds, c.loop-at.invariant.places.same_size, c.loop-at.invariant.values.same_size, c.requires.0, c.requires.1, c.requires.2)) in
    rw (map-set kind_number c.loop-at.kinds c.loop-at.n End) (turn-tokens c.loop-at.invariant c.loop-at-test.false c.in_default.is h.0 h.1 h.2)
