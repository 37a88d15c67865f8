use mathlib.Core.Path.{◌≡◌, sym, ◌∙◌}
use mathlib.Core.Bool.{true, false}
use lib.Dec.{ltb}
use lib.ListN.{length}
use lib.Signed.{lt_z}
use mir.Facts.{to_z-of_z}
use Rattle.semantics.specs.Run.{numbers}
use Rattle.semantics.specs.Search.{to}
use Rattle.list.proofs.Grounds.{ground-scratch, ground-window, ground-values, ground-no-steps, ground-steps, ground-none}
use Rattle.list.proofs.refusal.Goals.{then-steps-eq0-via-then-steps-eq0, then-steps-eq0-via-else-steps-eq0+then-steps-gt1000}
use Rattle.list.proofs.refusal.Goals as goal

pub returns-then-words-lt16384 : goal.returns-then-words-lt16384
returns-then-words-lt16384 c = ground-scratch c.args.words c.args.low c.args.high c.args.steps c.if-words-lt16384.true

pub returns-then-high-low : goal.returns-then-high-low
returns-then-high-low c =
    let e : lt_z c.args.high c.args.low ≡ true = rw (to_z-of_z c.ranges.high, to_z-of_z c.ranges.low) at c.if-high-low.true in
    ground-window c.args.words c.args.low c.args.high c.args.steps c.if-words-lt16384.false e

pub returns-then-is_wide : goal.returns-then-is_wide
returns-then-is_wide c =
    let e : lt_z c.args.high c.args.low ≡ false = rw (to_z-of_z c.ranges.high, to_z-of_z c.ranges.low) at c.if-high-low.false in
    let h : c.is_wide.result ≡ ltb 4096 (length (numbers (to c.args.low c.args.high))) = rw (to_z-of_z c.ranges.low, to_z-of_z c.ranges.high) at c.is_wide.ensures in
    ground-values c.args.words c.args.low c.args.high c.args.steps c.if-words-lt16384.false e (sym h ∙ c.if-is_wide.true)

pub returns-then-steps-eq0 : goal.returns-then-steps-eq0
returns-then-steps-eq0 c =
    let e : lt_z c.args.high c.args.low ≡ false = rw (to_z-of_z c.ranges.high, to_z-of_z c.ranges.low) at c.if-high-low.false in
    let h : c.is_wide.result ≡ ltb 4096 (length (numbers (to c.args.low c.args.high))) = rw (to_z-of_z c.ranges.low, to_z-of_z c.ranges.high) at c.is_wide.ensures in
    elim c.then-steps-eq0.branch [
      | then-steps-eq0-via-then-steps-eq0 w ↦ ground-no-steps c.args.words c.args.low c.args.high c.args.steps c.if-words-lt16384.false e (sym h ∙ c.if-is_wide.false) w.if-steps-eq0.true
      | then-steps-eq0-via-else-steps-eq0+then-steps-gt1000 w ↦
          ground-steps c.args.words c.args.low c.args.high c.args.steps c.if-words-lt16384.false e (sym h ∙ c.if-is_wide.false) w.if-steps-eq0.false w.if-steps-gt1000.true
    ]

pub returns : goal.returns
returns c =
    let e : lt_z c.args.high c.args.low ≡ false = rw (to_z-of_z c.ranges.high, to_z-of_z c.ranges.low) at c.if-high-low.false in
    let h : c.is_wide.result ≡ ltb 4096 (length (numbers (to c.args.low c.args.high))) = rw (to_z-of_z c.ranges.low, to_z-of_z c.ranges.high) at c.is_wide.ensures in
    ground-none c.args.words c.args.low c.args.high c.args.steps c.if-words-lt16384.false e (sym h ∙ c.if-is_wide.false) c.if-steps-eq0.false c.if-steps-gt1000.false
