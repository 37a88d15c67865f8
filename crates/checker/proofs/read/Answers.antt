use Rattle.std.specs.List.{take-map}
use native.Mathlib.Omega.{arith}
use lib.ListN.{length-map}
use Rattle.syntax.specs.TokenKinds.{kind_number}
use Rattle.checker.proofs.Passing.{passed}
use Rattle.checker.proofs.Analysing.{as_long, few-told, told, refused-lexing}
use Rattle.checker.proofs.read.Goals as goal

pub returns-in_err-n : goal.returns-in_err-n
returns-in_err-n c = rw (passed _ c.from_residual.ensures.1) (refused-lexing c.in_err-n.ensures)

pub slice_bounds-new-end : goal.slice_bounds-new-end
slice_bounds-new-end c = as_long _ (omega (arith, few-told c.in_ok-n.ensures, c.lex.auto.kinds, c.requires.0))

pub slice_bounds-new-end-2 : goal.slice_bounds-new-end-2
slice_bounds-new-end-2 c = as_long _ (omega (arith, few-told c.in_ok-n.ensures, c.lex.auto.places, c.requires.1))

pub slice_bounds-new-end-3 : goal.slice_bounds-new-end-3
slice_bounds-new-end-3 c = as_long _ (omega (arith, few-told c.in_ok-n.ensures, c.lex.auto.values, c.requires.2))

pub returns : goal.returns
returns c =
    let f = few-told c.in_ok-n.ensures in
    let k = length-map c.lex.new.kinds kind_number in
    rw (c.new.ensures, ← (take-map kind_number c.in_ok-n.n c.lex.new.kinds))
    (told c.in_ok-n.ensures (omega (arith, f, k, c.lex.auto.kinds, c.requires.0)) (omega (arith, f, c.lex.auto.places, c.requires.1)) (omega (arith, f, c.lex.auto.values, c.requires.2)))
