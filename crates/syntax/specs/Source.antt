-- A text with the kinds, places and values of its tokens, of which the last is the end.
use Rattle.std.specs.Prelude.{ℕ, List}

-- a token is given by its number; the value of a name is its size
pub record Source : Type 0 where
  pub text : List ℕ
  pub kinds : List ℕ
  pub places : List ℕ
  pub values : List ℕ

abbrev pub source : (text kinds places values : List ℕ) → Source
source text ks ps vs = record { text = text; kinds = ks; places = ps; values = vs }
