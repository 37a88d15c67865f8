-- How the tokens of a text are spelled. A token is given by its number, and the slices of the tokens' places and values (of a name, its size).
use Rattle.std.specs.Prelude.{ℕ, Bool, List, get_or, take, drop}
use Rattle.syntax.specs.Source.{Source}
use Rattle.lexer.specs.Lex.{same, bytes}

module _ (text places values : List ℕ) where
  abbrev pub spelled : ℕ → List ℕ
  spelled i = take (get_or values i 0) (drop (get_or places i 0) text)

  abbrev pub same_name : ℕ → ℕ → Bool
  same_name i j = same (spelled i) (spelled j)

  abbrev pub is_main : ℕ → Bool
  is_main i = same (spelled i) (bytes "main")

-- the bytes of a token of a text; two tokens of it spell the same name; a token spells main
abbrev pub spelled_in : Source → ℕ → List ℕ
spelled_in s = spelled s.text s.places s.values

abbrev pub same_in : Source → ℕ → ℕ → Bool
same_in s = same_name s.text s.places s.values

abbrev pub main_in : Source → ℕ → Bool
main_in s = is_main s.text s.places s.values
