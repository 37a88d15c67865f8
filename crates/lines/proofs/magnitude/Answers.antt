use native.Mathlib.Omega.{arith}
use mathlib.Core.Path.{◌≡◌, sym, ◌∙◌, ap}
use Prim.Native.Nat.{ℕ, ◌+◌, ◌*◌, ◌≤◌}
use mathlib.Core.Bool.{false}
use borrow.Author.Rules.{rules}
use Rattle.lexer.specs.Lex.{is_digit}
use lib.ListN.{length, drop, get_or}
use Rattle.std.proofs.lemmas.Bool.Decides.{nat_tests}
use Rattle.lines.proofs.Words.{no-digits, many-digits, a-magnitude, valued, valued-more, valued-stop, valued-end, more-digits, digit}
use Rattle.lines.proofs.magnitude.Goals.{then-is_empty-via-then-is_empty, then-is_empty-via-else-is_empty+then-digits-gt10}
use Rattle.lines.proofs.magnitude.Goals as goal

pub returns-then-is_empty-clause-value : goal.returns-then-is_empty-clause-value
returns-then-is_empty-clause-value c = elim c.then-is_empty.branch [
  | then-is_empty-via-then-is_empty w ↦
      let e : length c.args.digits.now ≡ 0 = grind (arith, nat_tests) in
      sym (no-digits c.args.digits.now e)
  | then-is_empty-via-else-is_empty+then-digits-gt10 w ↦ sym (many-digits c.args.digits.now w.if-digits-gt10.true)
]

pub loop-digit-preserved : goal.loop-digit-preserved
loop-digit-preserved c =
    let b : ℕ = get_or c.args.digits.now c.loop-digit.digit-index 0 in
    let f : (48 ≤ b) × (b ≤ 57) = search rules in (
      more-digits c.loop-digit.value c.from.result c.loop-digit.digit-index c.loop-digit.invariant.0 (omega (arith, c.from.ensures, f.1)),
      c.loop-digit.invariant.1 ∙ valued-more c.args.digits.now c.loop-digit.digit-index c.loop-digit.value c.loop-digit-test.true (digit b f.0 f.1) ∙ ap (λ (x : ℕ). valued (10 * c.loop-digit.value + x) (drop (c.loop-digit.digit-index + 1) c.args.digits.now)) (sym c.from.ensures),
    )

pub returns-then-not-is_ascii_digit-clause-value : goal.returns-then-not-is_ascii_digit-clause-value
returns-then-not-is_ascii_digit-clause-value c =
    let g : 1 ≤ length c.args.digits.now = grind (arith, nat_tests) in
    let f : is_digit (get_or c.args.digits.now c.loop-digit.digit-index 0) ≡ false = sym c.is_ascii_digit.ensures.value ∙ c.if-not-is_ascii_digit.true in
    sym (a-magnitude c.args.digits.now g c.if-digits-gt10.false ∙ c.loop-digit.invariant.1 ∙ valued-stop c.args.digits.now c.loop-digit.digit-index c.loop-digit.value c.loop-digit-test.true f)

pub returns-clause-value : goal.returns-clause-value
returns-clause-value c =
    let g : 1 ≤ length c.args.digits.now = grind (arith, nat_tests) in
    sym (a-magnitude c.args.digits.now g c.if-digits-gt10.false ∙ c.loop-digit.invariant.1 ∙ valued-end c.args.digits.now c.loop-digit.digit-index c.loop-digit.value c.loop-digit-test.false)
