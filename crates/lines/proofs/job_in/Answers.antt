use mathlib.Core.Path.{sym, ◌∙◌}
use borrow.Author.Rules.{rules}
use mir.Syntax.{w32}
use mir.Val.{SFits}
use mir.Facts.{to_z-of_z}
use Rattle.lines.proofs.Words.{another-word, word-job, read-line, no-high, no_third, no_steps, good_steps}
use Rattle.lines.proofs.job_in.Goals as goal

pub returns-then-ne : goal.returns-then-ne
returns-then-ne c = sym (another-word c.args.text c.first_word.result.0.now c.args.line.now c.as_slice.result.now c.first_word.ensures.word c.as_slice.ensures (sym c.ne.ensures ∙ c.if-ne.true))

pub returns-in_err-number : goal.returns-in_err-number
returns-in_err-number c =
    let e = read-line c.args.text c.args.line.now c.first_word.result.1.now c.first_word-2.result.0.now c.first_word-2.result.1.now c.first_word-3.result.0.now c.first_word-3.result.1.now (word-job c.first_word.result.0.now c.args.line.now c.as_slice.result.now c.first_word.ensures.word c.as_slice.ensures (sym c.ne.ensures ∙ c.if-ne.false)) c.first_word.ensures.rest c.first_word-2.ensures.word c.first_word-2.ensures.rest c.first_word-3.ensures.word c.first_word-3.ensures.rest in
    c.from_residual.ensures ∙ sym (e ∙ rw (← c.number.ensures, c.in_err-number.was))

pub returns-in_err-number-2 : goal.returns-in_err-number-2
returns-in_err-number-2 c =
    let e = read-line c.args.text c.args.line.now c.first_word.result.1.now c.first_word-2.result.0.now c.first_word-2.result.1.now c.first_word-3.result.0.now c.first_word-3.result.1.now (word-job c.first_word.result.0.now c.args.line.now c.as_slice.result.now c.first_word.ensures.word c.as_slice.ensures (sym c.ne.ensures ∙ c.if-ne.false)) c.first_word.ensures.rest c.first_word-2.ensures.word c.first_word-2.ensures.rest c.first_word-3.ensures.word c.first_word-3.ensures.rest in
    c.from_residual-in_err-number-2.ensures ∙ sym (e ∙ rw (← c.number-2.ensures, c.in_err-number-2.was) (no-high _ _ _))

pub returns-in_err-number-3 : goal.returns-in_err-number-3
returns-in_err-number-3 c =
    let e = read-line c.args.text c.args.line.now c.first_word.result.1.now c.first_word-2.result.0.now c.first_word-2.result.1.now c.first_word-3.result.0.now c.first_word-3.result.1.now (word-job c.first_word.result.0.now c.args.line.now c.as_slice.result.now c.first_word.ensures.word c.as_slice.ensures (sym c.ne.ensures ∙ c.if-ne.false)) c.first_word.ensures.rest c.first_word-2.ensures.word c.first_word-2.ensures.rest c.first_word-3.ensures.word c.first_word-3.ensures.rest in
    c.from_residual-in_err-number-3.ensures ∙ sym (e ∙ rw (← c.number-3.ensures, c.in_err-number-3.was) (no_third _ _ _))

pub returns-in_err-steps_of : goal.returns-in_err-steps_of
returns-in_err-steps_of c =
    let e = read-line c.args.text c.args.line.now c.first_word.result.1.now c.first_word-2.result.0.now c.first_word-2.result.1.now c.first_word-3.result.0.now c.first_word-3.result.1.now (word-job c.first_word.result.0.now c.args.line.now c.as_slice.result.now c.first_word.ensures.word c.as_slice.ensures (sym c.ne.ensures ∙ c.if-ne.false)) c.first_word.ensures.rest c.first_word-2.ensures.word c.first_word-2.ensures.rest c.first_word-3.ensures.word c.first_word-3.ensures.rest in
    let f : SFits w32 c.in_ok-number-3.field-0 = search rules in
    c.from_residual-in_err-steps_of.ensures ∙ sym (e ∙ rw (← c.number-3.ensures, c.in_ok-number-3.was) (no_steps c.args.text c.in_ok-number-3.field-0 _ (to_z-of_z f) c.steps_of.result c.steps_of.ensures _ _ c.in_err-steps_of.was))

pub returns : goal.returns
returns c =
    let e = read-line c.args.text c.args.line.now c.first_word.result.1.now c.first_word-2.result.0.now c.first_word-2.result.1.now c.first_word-3.result.0.now c.first_word-3.result.1.now (word-job c.first_word.result.0.now c.args.line.now c.as_slice.result.now c.first_word.ensures.word c.as_slice.ensures (sym c.ne.ensures ∙ c.if-ne.false)) c.first_word.ensures.rest c.first_word-2.ensures.word c.first_word-2.ensures.rest c.first_word-3.ensures.word c.first_word-3.ensures.rest in
    let f : SFits w32 c.in_ok-number-3.field-0 = search rules in
    let l : SFits w32 c.in_ok-number.field-0 = search rules in
    let h : SFits w32 c.in_ok-number-2.field-0 = search rules in
    let g = good_steps c.args.text c.in_ok-number-3.field-0 _ (to_z-of_z f) c.steps_of.result c.steps_of.ensures c.in_ok-number.field-0 c.in_ok-number-2.field-0 c.in_ok-steps_of.field-0 c.in_ok-steps_of.was in
    rw (to_z-of_z l, to_z-of_z h) (sym (e ∙ rw (← c.number.ensures, ← c.number-2.ensures, ← c.number-3.ensures, c.in_ok-number.was, c.in_ok-number-2.was, c.in_ok-number-3.was) g))
