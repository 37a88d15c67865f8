-- Texts and their tokens, by computation: each limit and one past it, and the traps of longest match.
use Prim.Native.Nat.{ℕ}
use mathlib.Core.Path.{◌≡◌, refl}
use mathlib.Core.List.{List, [], ◌∷◌, map}
use lib.ListN.{replicate}
use Rattle.syntax.specs.Token.{k_end, k_name, k_number, k_int, k_if, k_open, k_close, k_less, k_less_eq, k_assign, k_equal, k_minus, k_dot_dot}
use Rattle.lexer.specs.Lex.{
  bytes,
  all,
  same,
  kind_in,
  grouped,
  kind_of,
  longest_within,
  decimal,
  digits_of,
  value_of,
  Token,
  front,
  scan,
  Lexing,
  tokens,
  refused,
  none_large,
  lexed,
}

abbrev tok : ℕ → ℕ → ℕ → Token
tok k p v = record { kind = k; place = p; value = v }

-- a text and the answer to it
abbrev Vector : Type 0
Vector = List ℕ × Lexing

abbrev vectors : List Vector
vectors =
    -- the empty text is only the end
    ([], tokens (tok k_end 0 0 ∷ []))
    -- blanks before the end; a text of 2,048 bytes and one of 2,049
    ∷ (32 ∷ 9 ∷ 10 ∷ 13 ∷ [], tokens (tok k_end 4 0 ∷ []))
    ∷ (replicate 2048 32, tokens (tok k_end 2048 0 ∷ []))
    ∷ (replicate 2049 32, refused 1 2048)
    ∷ (replicate 2049 33, refused 1 2048)
    -- longest match: 12ab is a number and a name, iff and int_ are names
    ∷ (bytes "12ab", tokens (tok k_number 0 12 ∷ tok k_name 2 2 ∷ tok k_end 4 0 ∷ []))
    ∷ (bytes "iff if", tokens (tok k_name 0 3 ∷ tok k_if 4 2 ∷ tok k_end 6 0 ∷ []))
    ∷ (bytes "int_(int)", tokens (tok k_name 0 4 ∷ tok k_open 4 1 ∷ tok k_int 5 3 ∷ tok k_close 8 1 ∷ tok k_end 9 0 ∷ []))
    ∷ (bytes "a<==b", tokens (tok k_name 0 1 ∷ tok k_less_eq 1 2 ∷ tok k_assign 3 1 ∷ tok k_name 4 1 ∷ tok k_end 5 0 ∷ []))
    ∷ (bytes "===<", tokens (tok k_equal 0 2 ∷ tok k_assign 2 1 ∷ tok k_less 3 1 ∷ tok k_end 4 0 ∷ []))
    ∷ (bytes "--5", tokens (tok k_minus 0 1 ∷ tok k_minus 1 1 ∷ tok k_number 2 5 ∷ tok k_end 3 0 ∷ []))
    -- a byte that begins no token: a lone mark, an underscore, any other
    ∷ (bytes "a !b", refused 2 2)
    ∷ (bytes "a & b", refused 2 2)
    ∷ (bytes "a &&& b", refused 2 4)
    ∷ (bytes "a |", refused 2 2)
    ∷ (bytes "a _b", refused 2 2)
    ∷ (195 ∷ 164 ∷ [], refused 2 0)
    ∷ (0 ∷ [], refused 2 0)
    -- underscores between two digits of a number belong to it, one or several; others begin no token
    ∷ (bytes "1_250_000", tokens (tok k_number 0 1250000 ∷ tok k_end 9 0 ∷ []))
    ∷ (bytes "1__0", tokens (tok k_number 0 10 ∷ tok k_end 4 0 ∷ []))
    ∷ (bytes "0_0", tokens (tok k_number 0 0 ∷ tok k_end 3 0 ∷ []))
    ∷ (bytes "-1_0", tokens (tok k_minus 0 1 ∷ tok k_number 1 10 ∷ tok k_end 4 0 ∷ []))
    ∷ (bytes "1_2a", tokens (tok k_number 0 12 ∷ tok k_name 3 1 ∷ tok k_end 4 0 ∷ []))
    ∷ (bytes "12_;", refused 2 2)
    ∷ (bytes "12_a", refused 2 2)
    ∷ (bytes "1_2__", refused 2 3)
    ∷ (bytes "_1", refused 2 0)
    -- `..` is a token, and needs no blanks; a lone dot begins none
    ∷ (bytes "5..400", tokens (tok k_number 0 5 ∷ tok k_dot_dot 1 2 ∷ tok k_number 3 400 ∷ tok k_end 6 0 ∷ []))
    ∷ (bytes "-5..-1", tokens (tok k_minus 0 1 ∷ tok k_number 1 5 ∷ tok k_dot_dot 2 2 ∷ tok k_minus 4 1 ∷ tok k_number 5 1 ∷ tok k_end 6 0 ∷ []))
    ∷ (bytes "....", tokens (tok k_dot_dot 0 2 ∷ tok k_dot_dot 2 2 ∷ tok k_end 4 0 ∷ []))
    ∷ (bytes "5...6", refused 2 3)
    ∷ (bytes "5.6", refused 2 1)
    ∷ (bytes "5 .", refused 2 2)
    ∷ (bytes "5. .6", refused 2 1)
    -- a name of 16 bytes and of 17, the largest number and the next one, with zeros before it or not
    ∷ (bytes "abcdefghijklmnop", tokens (tok k_name 0 16 ∷ tok k_end 16 0 ∷ []))
    ∷ (bytes " abcdefghijklmnopq", refused 3 1)
    ∷ (bytes "2147483647", tokens (tok k_number 0 2147483647 ∷ tok k_end 10 0 ∷ []))
    ∷ (bytes "-2147483648", refused 3 1)
    ∷ (bytes "00000000000002147483647", tokens (tok k_number 0 2147483647 ∷ tok k_end 23 0 ∷ []))
    ∷ (bytes "00000000000002147483648", refused 3 0)
    -- number 3 goes by the value, whatever the length
    ∷ (bytes "2_147_483_647", tokens (tok k_number 0 2147483647 ∷ tok k_end 13 0 ∷ []))
    ∷ (bytes " 2_147_483_648", refused 3 1)
    ∷ (bytes "0__000_000_000_007", tokens (tok k_number 0 7 ∷ tok k_end 18 0 ∷ []))
    -- the first of two; number 2 goes before number 3
    ∷ (bytes "1 99999999999 abcdefghijklmnopq", refused 3 2)
    ∷ (bytes "99999999999 ?", refused 2 12)
    ∷ []

pub examples : map (λ (v : Vector). lexed v.0) vectors ≡ map (λ (v : Vector). v.1) vectors
unfolding lexed scan front kind_of kind_in same all grouped longest_within decimal digits_of value_of none_large
examples = refl
