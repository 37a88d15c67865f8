use mathlib.Core.Path.{sym, ap, ◌∙◌}
use native.Mathlib.Omega.{arith}
use Prim.Native.Nat.{ℕ}
use lib.ListN.{length-map}
use lib.Dec.{eqb}
use borrow.Author.Tests.{eq-eqb, ne_eqb}
use Rattle.text_rules.specs.Answers.{as_head}
use Rattle.remarks.proofs.Writing.{name-told, written-pass, written-add, written-end}
use Rattle.remarks.proofs.write.Goals.{then-word-eq0, else-word-eq0}
use Rattle.remarks.proofs.write.Goals as goal

pub overflow_cast-offsets : goal.overflow_cast-offsets
overflow_cast-offsets c = omega (arith, c.place.ensures, name-told c.args.source.now.places c.args.heads.now c.loop-g.g, c.requires.1 c.loop-g.g (omega (arith, c.loop-g-test.true, length-map c.args.heads.now as_head)))

pub loop-g-preserved : goal.loop-g-preserved
loop-g-preserved c =
    elim c.if-word-eq0.branch [
      | then-word-eq0 w ↦
          rw w.count-is
          (written-add c.loop-g.invariant c.loop-g-test.true (ap (λ (x : ℕ). eqb x 0) (sym c.word.ensures) ∙ eq-eqb _ _ w.if-word-eq0.true)
          (omega (arith, c.loop-g.invariant.few, c.requires.0, c.loop-g-test.true))
          w.place.ensures w.offsets-is)
      | else-word-eq0 w ↦
          rw (w.offsets-is, w.count-is)
          (written-pass c.loop-g.invariant c.loop-g-test.true (ap (λ (x : ℕ). eqb x 0) (sym c.word.ensures) ∙ ne_eqb _ _ w.if-word-eq0.false))
    ]

pub returns : goal.returns
returns c = written-end c.loop-g.invariant c.loop-g-test.false
