-- The kinds of tokens that the code has, as the numbers of Token.
use Rattle.std.specs.Prelude.{ℕ, List, map}
use Rattle.syntax.specs.Token.{
  k_end,
  k_name,
  k_number,
  k_int,
  k_free,
  k_if,
  k_else,
  k_while,
  k_return,
  k_fail,
  k_true,
  k_false,
  k_open,
  k_close,
  k_lbrace,
  k_rbrace,
  k_semi,
  k_comma,
  k_assign,
  k_less,
  k_less_eq,
  k_greater,
  k_greater_eq,
  k_equal,
  k_unequal,
  k_and,
  k_or,
  k_plus,
  k_minus,
  k_times,
  k_dot_dot,
}
use Rattle.syntax.specs.declared.token.TokenKind.{TokenKind}
use Rattle.syntax.specs.declared.token.TokenKind.TheVariants as kind

-- the number of a kind
abbrev pub kind_number : TokenKind → ℕ
kind_number kind.End = k_end
kind_number kind.Name = k_name
kind_number kind.Number = k_number
kind_number kind.Int = k_int
kind_number kind.Free = k_free
kind_number kind.If = k_if
kind_number kind.Else = k_else
kind_number kind.While = k_while
kind_number kind.Return = k_return
kind_number kind.Fail = k_fail
kind_number kind.True = k_true
kind_number kind.False = k_false
kind_number kind.Open = k_open
kind_number kind.Close = k_close
kind_number kind.Lbrace = k_lbrace
kind_number kind.Rbrace = k_rbrace
kind_number kind.Semi = k_semi
kind_number kind.Comma = k_comma
kind_number kind.Assign = k_assign
kind_number kind.Less = k_less
kind_number kind.LessEq = k_less_eq
kind_number kind.Greater = k_greater
kind_number kind.GreaterEq = k_greater_eq
kind_number kind.Equal = k_equal
kind_number kind.Unequal = k_unequal
kind_number kind.And = k_and
kind_number kind.Or = k_or
kind_number kind.Plus = k_plus
kind_number kind.Minus = k_minus
kind_number kind.Times = k_times
kind_number kind.DotDot = k_dot_dot

abbrev pub kind_numbers : List TokenKind → List ℕ
kind_numbers ks = map kind_number ks
