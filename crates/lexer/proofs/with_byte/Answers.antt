use Prim.Native.Nat.{ℕ, min}
use native.Mathlib.Omega.{arith}
use mathlib.Core.Path.{sym, ◌∙◌, ap}
use borrow.Author.Tests.{eq-eqb, ne_eqb}
use Rattle.lexer.specs.Parts.{class_number, class_of, limit}
use Rattle.lexer.specs.declared.Class.TheVariants.{Digit}
use Rattle.lexer.proofs.Bytes.{class-digit, same-class}
use Rattle.lexer.proofs.Numbers.{byte-digit, byte-skipped}
use Rattle.lexer.proofs.with_byte.Goals as goal

pub returns-in-Digit : goal.returns-in-Digit
returns-in-Digit c =
    let d = class-digit c.args.b (omega (arith, c.ranges.b)) ∙ eq-eqb (class_of c.args.b) 4 (sym c.of.ensures ∙ ap class_number c.in-Digit.is) in
    c.with_digit.ensures ∙ sym (ap (λ (x : ℕ). min x limit) (byte-digit c.args.value c.args.b d))

pub returns-in_default : goal.returns-in_default
returns-in_default c =
    let d = class-digit c.args.b (omega (arith, c.ranges.b)) ∙ ne_eqb (class_of c.args.b) 4 (λ e. c.in_default.not-Digit (same-class _ Digit (c.of.ensures ∙ e))) in
    omega (arith, byte-skipped c.args.value c.args.b d, c.requires)
