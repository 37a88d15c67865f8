-- What a refusal says of a text (document 01, "Check"), number by number, without the readers of the grammar. That check refuses exactly so is proved in proofs/Refusals.
use Rattle.std.specs.Prelude.{ℕ, ◌≤◌, ◌<◌, ◌≡◌, List, [], ◌∷◌, ◌++◌, length, get_or}
use Rattle.lexer.specs.Lex as L
use Rattle.lexer.specs.Lex.{Token, lexed, found, stray}
use Rattle.lexer.specs.Tokens.{Scans, FirstLarge}
use Rattle.syntax.specs.Tree.{Tree, prog}
use Rattle.syntax.specs.Abstract.{ast}
use Rattle.grammar.specs.Text as G
use Rattle.grammar.specs.Text.{First-bad}
use Rattle.semantics.specs.Demand.{◌∈◌}
use Rattle.checker.specs.Check.{Rule, source_of, rules_of, kinds, places}

-- "the smallest place within a number winning, a token's place being its first byte": of the tokens `is`, one stands at p, and none before p. All are tokens of the text
pub record Smallest (ts : List Token) (is : List ℕ) (p : ℕ) : Type 0 where
  pub token : ℕ
  pub breaks : token ∈ is
  pub stands : p ≡ get_or (places ts) token 0
  pub inside : (j : ℕ) → j ∈ is → j < length ts
  pub smallest : (j : ℕ) → j ∈ is → p ≤ get_or (places ts) j 0

-- "each over the whole text before the next": of these rules, in their order, one with the number n is broken, and none before it
pub record Breaks (ts : List Token) (rs : List Rule) (n p : ℕ) : Type 0 where
  pub before : List Rule
  pub broken : Rule
  pub after : List Rule
  pub order : rs ≡ before ++ broken ∷ after
  pub kept : (r : Rule) → r ∈ before → r.broken ≡ []
  pub number : n ≡ broken.number
  pub place : Smallest ts broken.broken p

pub data Refusal (text : List ℕ) : (number place : ℕ) → Type 0 where
  -- "1 over 2,048 bytes (place 2,048)"
  too_long : 2048 < length text → Refusal text 1 2048
  -- "2 a byte that begins no token": blanks and tokens by longest match up to it, and it begins none
  no-token : {ts : List Token} {p : ℕ} → length text ≤ 2048 → Scans text 0 (stray ts p) → Refusal text 2 p
  -- "3 a name over 16 bytes or a number above 2,147,483,647": the text is blanks and tokens, of which the first that is large stands at p
  too_large : {ts : List Token} {p : ℕ} → length text ≤ 2048 → Scans text 0 (found ts) → FirstLarge ts p → Refusal text 3 p
  -- "4 the first token that no program could have there, the end being a token at the text's length"
  no_program : {ts : List Token} {m : ℕ} → lexed text ≡ L.tokens ts → First-bad (kinds ts) m → Refusal text 4 (get_or (places ts) m 0)
  -- the numbers of the table, 5 to 10 and 17 to 19: the text keeps the grammar, its tokens being those of a tree, which breaks one of the rules
  breaks-rule : {ts : List Token} {t : Tree prog} {n p : ℕ} → lexed text ≡ L.tokens ts → G.KeepsGrammar (kinds ts) t
      → Breaks ts (rules_of (source_of text ts) (ast t)) n p
      → Refusal text n p
