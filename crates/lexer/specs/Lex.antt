-- From bytes to tokens: document 01, "The text", and "Check", numbers 1 to 3, with the slips 2 and 5 of document 02. A text is the list of its bytes.
use Rattle.std.specs.Prelude.{ℕ, zero, suc, ◌+◌, ◌-◌, ◌*◌, Bool, true, false, ◌&&◌, ◌||◌, List, [], ◌∷◌, length, take, eqb, leb, ltb}
use Prim.Native.Char.{code}
use Prim.Native.String as S
use Prim.Native.String.{String}
use Rattle.syntax.specs.Token.{
  k_end,
  k_name,
  k_number,
  k_int,
  k_free,
  k_if,
  k_else,
  k_while,
  k_return,
  k_fail,
  k_true,
  k_false,
  k_open,
  k_close,
  k_lbrace,
  k_rbrace,
  k_semi,
  k_comma,
  k_assign,
  k_less,
  k_less_eq,
  k_greater,
  k_greater_eq,
  k_equal,
  k_unequal,
  k_and,
  k_or,
  k_plus,
  k_minus,
  k_times,
  k_dot_dot,
}

-- "Bytes: letters, digits, underscore, blank, tab, LF, CR and the marks .."
abbrev between : ℕ → ℕ → ℕ → Bool
between a z b = leb a b && leb b z

-- 0 to 9
abbrev pub is_digit : ℕ → Bool
is_digit b = between 48 57 b

-- A to Z, a to z
abbrev pub is_letter : ℕ → Bool
is_letter b = between 65 90 b || between 97 122 b

-- _
abbrev pub is_underscore : ℕ → Bool
is_underscore b = eqb b 95

-- a byte of a name after its first: a letter, a digit or an underscore
abbrev pub is_word : ℕ → Bool
is_word b = is_digit b || is_letter b || is_underscore b

-- blank, tab, LF, CR
abbrev pub is_blank : ℕ → Bool
is_blank b = eqb b 32 || eqb b 9 || eqb b 10 || eqb b 13

-- every byte has p
unfoldable pub all : (ℕ → Bool) → List ℕ → Bool
all p [] = true
all p (b ∷ bs) = elim (p b) [ true ↦ all p bs | false ↦ false ]

-- two lists of bytes are the same
unfoldable pub same : List ℕ → List ℕ → Bool
same [] [] = true
same [] (y ∷ ys) = false
same (x ∷ xs) [] = false
same (x ∷ xs) (y ∷ ys) = eqb x y && same xs ys

-- the bytes of a text in quotes
abbrev pub bytes : String → List ℕ
bytes S.[] = []
bytes (S.◌∷◌ c cs) = code c ∷ bytes cs

-- "Reserved: int free if else while return fail true false."
abbrev pub words : List (List ℕ × ℕ)
words =
    (bytes "int", k_int)
    ∷ (bytes "free", k_free)
    ∷ (bytes "if", k_if)
    ∷ (bytes "else", k_else)
    ∷ (bytes "while", k_while)
    ∷ (bytes "return", k_return)
    ∷ (bytes "fail", k_fail)
    ∷ (bytes "true", k_true)
    ∷ (bytes "false", k_false)
    ∷ []

-- "the marks `( ) { } ; , = < > ! & | + - *`", "single marks, `<= >= == != && ||`", "A lone `!`, `&` or `|` begins no token." Slip 5: "`..` becomes a token, and a lone dot begins none."
abbrev pub marks : List (List ℕ × ℕ)
marks =
    (bytes "(", k_open)
    ∷ (bytes ")", k_close)
    ∷ (bytes "{", k_lbrace)
    ∷ (bytes "}", k_rbrace)
    ∷ (bytes ";", k_semi)
    ∷ (bytes ",", k_comma)
    ∷ (bytes "=", k_assign)
    ∷ (bytes "<", k_less)
    ∷ (bytes ">", k_greater)
    ∷ (bytes "+", k_plus)
    ∷ (bytes "-", k_minus)
    ∷ (bytes "*", k_times)
    ∷ (bytes "<=", k_less_eq)
    ∷ (bytes ">=", k_greater_eq)
    ∷ (bytes "==", k_equal)
    ∷ (bytes "!=", k_unequal)
    ∷ (bytes "&&", k_and)
    ∷ (bytes "||", k_or)
    ∷ (bytes "..", k_dot_dot)
    ∷ []

-- the kind of these bytes in a table, or another
unfoldable pub kind_in : List (List ℕ × ℕ) → ℕ → List ℕ → ℕ
kind_in [] other bytes = other
kind_in (w ∷ ws) other bytes = elim (same bytes w.0) [ true ↦ w.1 | false ↦ kind_in ws other bytes ]

-- Slip 2, "As in JLS 3.10.1, underscores may stand between two digits of a number": one or several in a row.
-- These bytes may follow in a number, after a digit (true) or an underscore (false): digits and underscores, and an underscore is not the last.
unfoldable pub grouped : Bool → List ℕ → Bool
grouped digit [] = digit
grouped digit (b ∷ bs) =
    elim (is_digit b) [
      | true ↦ grouped true bs
      | false ↦ elim (is_underscore b) [ true ↦ grouped false bs | false ↦ false ]
    ]

-- The kind of the token that these bytes are; kEnd if they are none.
-- "names (a letter, then letters, digits, underscores), decimal numbers, single marks, `<= >= == != && ||`"
unfoldable pub kind_of : List ℕ → ℕ
kind_of [] = k_end
kind_of (b ∷ bs) =
    elim (is_letter b) [
      | true ↦ elim (all is_word bs) [ true ↦ kind_in words k_name (b ∷ bs) | false ↦ k_end ]
      | false ↦ elim (is_digit b) [
        | true ↦ elim (grouped true bs) [ true ↦ k_number | false ↦ k_end ]
        | false ↦ kind_in marks k_end (b ∷ bs)
      ]
    ]

-- "Tokens by longest match": the size of the longest token that l begins with, of at most n bytes; 0 if it begins with none
unfoldable pub longest_within : ℕ → List ℕ → ℕ
longest_within zero l = zero
longest_within (suc n) l = elim (eqb (kind_of (take (suc n) l)) k_end) [ true ↦ longest_within n l | false ↦ suc n ]

abbrev pub longest : List ℕ → ℕ
longest l = longest_within (length l) l

-- the decimal value of digits, after digits of the value v
unfoldable pub decimal : ℕ → List ℕ → ℕ
decimal v [] = v
decimal v (b ∷ bs) = decimal (10 * v + (b - 48)) bs

-- the digits of a number, its underscores dropped
unfoldable pub digits_of : List ℕ → List ℕ
digits_of [] = []
digits_of (b ∷ bs) = elim (is_digit b) [ true ↦ b ∷ digits_of bs | false ↦ digits_of bs ]

-- a token's value: of a number the decimal value of its digits, of any other its size in bytes
unfoldable pub value_of : List ℕ → ℕ
value_of bytes = elim (eqb (kind_of bytes) k_number) [ true ↦ decimal 0 (digits_of bytes) | false ↦ length bytes ]

-- a token: its kind, its place ("a token's place being its first byte") and its value
pub record Token : Type 0 where
  pub kind : ℕ
  pub place : ℕ
  pub value : ℕ

-- what stands at the front of some bytes: a blank byte, a byte that begins no token, or a token
pub data Front : Type 0 where
  blank nothing : Front
  token : (kind size value : ℕ) → Front

unfoldable pub front : List ℕ → Front
front [] = nothing
front (b ∷ bs) =
    elim (is_blank b) [
      | true ↦ blank
      | false ↦ elim (longest (b ∷ bs)) [
        | zero ↦ nothing
        | suc n ↦ token (kind_of (take (suc n) (b ∷ bs))) (suc n) (value_of (take (suc n) (b ∷ bs)))
      ]
    ]

-- the tokens found to the end, or those before the first byte that begins none, and its place
pub data Scanned : Type 0 where
  found : List Token → Scanned
  stray : List Token → ℕ → Scanned

abbrev pub before : Token → Scanned → Scanned
before t (found ts) = found (t ∷ ts)
before t (stray ts p) = stray (t ∷ ts) p

-- The tokens of the bytes from place p on, of which the first k belong to a token that has begun before.
-- "the end being a token at the text's length"
unfoldable pub scan : ℕ → ℕ → List ℕ → Scanned
scan p k [] = found (record { kind = k_end; place = p; value = 0 } ∷ [])
scan p (suc k) (b ∷ bs) = scan (suc p) k bs
scan p zero (b ∷ bs) =
    elim (front (b ∷ bs)) [
      | blank ↦ scan (suc p) zero bs
      | nothing ↦ stray [] p
      | token k n v ↦ before (record { kind = k; place = p; value = v }) (scan (suc p) (n - 1) bs)
    ]

-- "3 a name over 16 bytes or a number above 2,147,483,647"; slip 2: "The limit of number 3 concerns the value, at the number's first digit."
abbrev pub is_large : Token → Bool
is_large t = eqb t.kind k_name && ltb 16 t.value || eqb t.kind k_number && ltb 2147483647 t.value

-- the tokens of a text, or a refusal: its number and its place
pub data Lexing : Type 0 where
  tokens : List Token → Lexing
  refused : (number place : ℕ) → Lexing

-- number 3 at the first large one of the tokens ts, else all the tokens (their places ascend, so the first is the smallest place)
unfoldable pub none_large : List Token → List Token → Lexing
none_large every [] = tokens every
none_large every (t ∷ ts) = elim (is_large t) [ true ↦ refused 3 t.place | false ↦ none_large every ts ]

-- "each over the whole text before the next": 1 over 2,048 bytes (place 2,048); 2 a byte that begins no token; 3
unfoldable pub lexed : List ℕ → Lexing
lexed text =
    elim (ltb 2048 (length text)) [
      | true ↦ refused 1 2048
      | false ↦ elim (scan 0 0 text) [ stray ts p ↦ refused 2 p | found ts ↦ none_large ts ts ]
    ]
