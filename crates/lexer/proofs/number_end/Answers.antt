use native.Mathlib.Omega.{arith}
use mathlib.Core.Path.{◌≡◌, sym, ◌∙◌, ap}
use lib.ListN.{get_or}
use borrow.Author.Tests.{eq-eqb, ne_eqb}
use Rattle.lexer.specs.Parts.{class_number, class_of}
use Rattle.lexer.specs.declared.Class.TheVariants.{Digit, Underscore}
use Rattle.lexer.proofs.Bytes.{class-digit, class-underscore, same-class}
use Rattle.lexer.proofs.Numbers.{end-digit, end-underscore, end-other, end-over}
use Rattle.lexer.proofs.Fronts.{number-start}
use Rattle.lexer.proofs.number_end.Goals.{in-Digit, in-Underscore}
use Rattle.lexer.proofs.number_end.Goals as goal

pub loop-i-init : goal.loop-i-init
loop-i-init c =
    (omega arith, number-start c.args.text.now c.args.at c.requires.0 (omega (arith, c.type_inv.text c.args.at)) c.requires.1)

pub returns-in_default : goal.returns-in_default
returns-in_default c =
    let s = c.type_inv.text c.loop-i.i in
    let d = class-digit (get_or c.args.text.now c.loop-i.i 0) (omega arith) ∙ ne_eqb _ _ (λ e. c.in_default.not-Digit (same-class _ Digit (c.of.ensures ∙ e))) in
    let u = class-underscore (get_or c.args.text.now c.loop-i.i 0) (omega arith) ∙ ne_eqb _ _ (λ e. c.in_default.not-Underscore (same-class _ Underscore (c.of.ensures ∙ e))) in
    (sym (c.loop-i.invariant.1 ∙ end-other c.args.text.now c.loop-i.i c.loop-i.end c.loop-i-test.true d u), omega arith)

pub loop-i-preserved : goal.loop-i-preserved
loop-i-preserved c =
    let s = c.type_inv.text c.loop-i.i in
    elim c.match-of.branch [
      | in-Digit w ↦
          let k : class_of (get_or c.args.text.now c.loop-i.i 0) ≡ 4 = sym c.of.ensures ∙ ap class_number w.in-Digit.is in
          let d = class-digit (get_or c.args.text.now c.loop-i.i 0) (omega arith) ∙ eq-eqb _ _ k in
          rw w.end-is (omega arith, c.loop-i.invariant.1 ∙ end-digit c.args.text.now c.loop-i.i c.loop-i.end c.loop-i-test.true d)
      | in-Underscore w ↦
          let k : class_of (get_or c.args.text.now c.loop-i.i 0) ≡ 2 = sym c.of.ensures ∙ ap class_number w.in-Underscore.is in
          let d = class-digit (get_or c.args.text.now c.loop-i.i 0) (omega arith) ∙ ne_eqb _ _ (λ e. omega arith) in
          let u = class-underscore (get_or c.args.text.now c.loop-i.i 0) (omega arith) ∙ eq-eqb _ _ k in
          rw w.end-is (omega arith, c.loop-i.invariant.1 ∙ end-underscore c.args.text.now c.loop-i.i c.loop-i.end c.loop-i-test.true d u)
    ]

pub returns : goal.returns
returns c =
    (sym (c.loop-i.invariant.1 ∙ end-over c.args.text.now c.loop-i.i c.loop-i.end c.loop-i-test.false), omega arith)
