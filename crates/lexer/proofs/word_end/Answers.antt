use native.Mathlib.Omega.{arith}
use mathlib.Core.Path.{sym, ◌∙◌, ap}
use lib.ListN.{get_or}
use lib.Dec.{leb}
use Rattle.lexer.specs.Lex.{is_word}
use Rattle.lexer.proofs.Bytes.{word-class, span_more, span-stop, span-end}
use Rattle.lexer.proofs.word_end.Goals as goal

pub returns-then-not-is_word : goal.returns-then-not-is_word
returns-then-not-is_word c =
    let w = word-class (get_or c.args.text.now c.loop-end.end 0) ∙ ap (leb 2) (sym c.of.ensures) ∙ sym c.is_word.ensures ∙ c.if-not-is_word.true in
    let s = span-stop is_word c.args.text.now c.loop-end.end c.loop-end-test.true w in
    (omega (arith, c.loop-end.invariant), omega arith)

pub loop-end-preserved : goal.loop-end-preserved
loop-end-preserved c =
    let w = word-class (get_or c.args.text.now c.loop-end.end 0) ∙ ap (leb 2) (sym c.of.ensures) ∙ sym c.is_word.ensures ∙ c.if-not-is_word.false in
    let s = span_more is_word c.args.text.now c.loop-end.end c.loop-end-test.true w in
    omega (arith, c.loop-end.invariant)

pub returns : goal.returns
returns c =
    let s = span-end is_word c.args.text.now c.loop-end.end c.loop-end-test.false in
    (omega (arith, c.loop-end.invariant), omega arith)
