-- What the lexer and the functions inside it answer, and what the answers of the code mean, in the words of Lex.
use Rattle.std.specs.Prelude.{ℕ, zero, suc, min, Bool, true, false, ◌≡◌, List, [], ◌∷◌, ◌++◌, map, length, get_or, eqb, ltb, Option, None, Some, Result, Ok, Err}
use Rattle.std.proofs.lemmas.List.Edits.{sets}
use Rattle.syntax.specs.Token.{k_end, k_number}
use Rattle.syntax.specs.TokenKinds.{kind_number}
use Rattle.syntax.specs.Refusals.{number_of}
use Rattle.syntax.specs.declared.token.TokenKind.{TokenKind}
use Rattle.syntax.specs.declared.refusal.Refusal.{Refusal}
use Rattle.lexer.specs.Lex.{is_digit, is_letter, is_underscore, is_blank, marks, kind_in, Token, is_large, Front, blank, nothing, token, Scanned, found, stray, scan, Lexing, tokens, refused, lexed}
use Rattle.lexer.specs.declared.Class.{Class}
use Rattle.lexer.specs.declared.Class.TheVariants as class
use Rattle.lexer.specs.declared.Piece.{Piece}
use Rattle.lexer.specs.declared.Piece.TheVariants as piece

-- the class of a byte: 4 a digit, 3 a letter, 2 an underscore, 1 a blank, 0 any other; a byte of a name has at least 2
abbrev pub class_of : ℕ → ℕ
class_of b =
    elim (is_digit b) [
      | true ↦ 4
      | false ↦ elim (is_letter b) [
        | true ↦ 3
        | false ↦ elim (is_underscore b) [ true ↦ 2 | false ↦ elim (is_blank b) [ true ↦ 1 | false ↦ 0 ] ]
      ]
    ]

-- the number of a class that the code has
abbrev pub class_number : Class → ℕ
class_number class.Blank = 1
class_number class.Underscore = 2
class_number class.Letter = 3
class_number class.Digit = 4
class_number class.Other = 0

-- what the code answers of these bytes is their kind in the table of marks, which is never the end; None if they are none
abbrev pub MarkIs : List ℕ → Option TokenKind → Type 0
MarkIs bytes None = kind_in marks k_end bytes ≡ k_end
MarkIs bytes (Some k) = (kind_number k ≡ kind_in marks k_end bytes) × (¬ (kind_number k ≡ k_end))

-- how many bytes at the front have p
unfoldable pub span : (ℕ → Bool) → List ℕ → ℕ
span p [] = zero
span p (b ∷ bs) = elim (p b) [ true ↦ suc (span p bs) | false ↦ zero ]

-- what the code holds of a value: a number's only up to the first that is too large
abbrev pub limit : ℕ
limit = 2147483648

unfoldable pub held : ℕ → ℕ → ℕ
held kind value = elim (eqb kind k_number) [ true ↦ min value limit | false ↦ value ]

abbrev pub held_front : Front → Front
held_front blank = blank
held_front nothing = nothing
held_front (token k n v) = token k n (held k v)

-- what a piece of the code stands for
abbrev pub front_of : Piece → Front
front_of piece.Blank = blank
front_of piece.Nothing = nothing
front_of (piece.Token k n v) = token (kind_number k) n v

-- a token of this kind and value is large
abbrev pub large_as : ℕ → ℕ → Bool
large_as k v = is_large (record { kind = k; place = 0; value = v })

-- the first n tokens of the three slices
unfoldable pub stored : ℕ → List ℕ → List ℕ → List ℕ → List Token
stored zero ks ps vs = []
stored (suc n) ks ps vs = stored n ks ps vs ++ (record { kind = get_or ks n 0; place = get_or ps n 0; value = get_or vs n 0 } ∷ [])

-- what the lexer's answer means: the first n tokens of the three slices, or a refusal's number and place
abbrev pub answer_of : List ℕ → List ℕ → List ℕ → Result ℕ Refusal → Lexing
answer_of ks ps vs (Ok n) = tokens (stored n ks ps vs)
answer_of ks ps vs (Err r) = refused (number_of r.reason) r.place

-- the tokens that the lexer writes: all, or those before a byte that begins none; of a text that is too long, none
abbrev pub passed : Scanned → List Token
passed (found ts) = ts
passed (stray ts p) = ts

unfoldable pub written : List ℕ → List Token
written text = elim (ltb 2048 (length text)) [ true ↦ [] | false ↦ passed (scan 0 0 text) ]

abbrev pub kinds_of : List Token → List ℕ
kinds_of ts = map (λ (t : Token). t.kind) ts

abbrev pub places_of : List Token → List ℕ
places_of ts = map (λ (t : Token). t.place) ts

abbrev pub values_of : List Token → List ℕ
values_of ts = map (λ (t : Token). held t.kind t.value) ts

-- What the lexer does: its answer r, and the words of the three slices as they were and are.
-- `sets l 0 ws` is the list l with the words ws in its first places.
pub record Lexes (text ks ps vs ks' ps' vs' : List ℕ) (r : Result ℕ Refusal) : Type 0 where
  pub answer : lexed text ≡ answer_of ks' ps' vs' r
  pub kinds : ks' ≡ sets ks 0 (kinds_of (written text))
  pub places : ps' ≡ sets ps 0 (places_of (written text))
  pub values : vs' ≡ sets vs 0 (values_of (written text))
