-- The kinds of tokens, as numbers (document 01, "The text"). The grammar sees only these; a tree names a token by its number in the token list.
use Rattle.std.specs.Prelude.{ℕ}

-- the end of the text, which is a token at the text's length
abbrev pub k_end : ℕ
k_end = 0

-- a name
abbrev pub k_name : ℕ
k_name = 1

-- a decimal number
abbrev pub k_number : ℕ
k_number = 2

-- int
abbrev pub k_int : ℕ
k_int = 3

-- free
abbrev pub k_free : ℕ
k_free = 4

-- if
abbrev pub k_if : ℕ
k_if = 5

-- else
abbrev pub k_else : ℕ
k_else = 6

-- while
abbrev pub k_while : ℕ
k_while = 7

-- return
abbrev pub k_return : ℕ
k_return = 8

-- fail
abbrev pub k_fail : ℕ
k_fail = 9

-- true
abbrev pub k_true : ℕ
k_true = 10

-- false
abbrev pub k_false : ℕ
k_false = 11

-- (
abbrev pub k_open : ℕ
k_open = 12

-- )
abbrev pub k_close : ℕ
k_close = 13

-- {
abbrev pub k_lbrace : ℕ
k_lbrace = 14

-- }
abbrev pub k_rbrace : ℕ
k_rbrace = 15

-- ;
abbrev pub k_semi : ℕ
k_semi = 16

-- ,
abbrev pub k_comma : ℕ
k_comma = 17

-- =
abbrev pub k_assign : ℕ
k_assign = 18

-- <
abbrev pub k_less : ℕ
k_less = 19

-- <=
abbrev pub k_less_eq : ℕ
k_less_eq = 20

-- >
abbrev pub k_greater : ℕ
k_greater = 21

-- >=
abbrev pub k_greater_eq : ℕ
k_greater_eq = 22

-- ==
abbrev pub k_equal : ℕ
k_equal = 23

-- !=
abbrev pub k_unequal : ℕ
k_unequal = 24

-- &&
abbrev pub k_and : ℕ
k_and = 25

-- ||
abbrev pub k_or : ℕ
k_or = 26

-- +
abbrev pub k_plus : ℕ
k_plus = 27

-- -
abbrev pub k_minus : ℕ
k_minus = 28

-- *
abbrev pub k_times : ℕ
k_times = 29

-- ..
abbrev pub k_dot_dot : ℕ
k_dot_dot = 30
