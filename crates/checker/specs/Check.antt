-- Check (document 01, "The three operations and the program"): what it answers for every text, and the program of a text that the grammar accepts.
use Rattle.std.specs.Prelude.{ℕ, ◌-◌, List, [], ◌∷◌, map, length, get_or, Option, None, Some}
use Rattle.lexer.specs.Lex as L
use Rattle.lexer.specs.Lex.{Token, lexed}
use Rattle.syntax.specs.Tree.{Tree, prog}
use Rattle.syntax.specs.Ast as A
use Rattle.syntax.specs.Ast.{Ast}
use Rattle.syntax.specs.Abstract.{ast}
use Rattle.grammar.specs.Parse.{parsed, ok, bad}
use Rattle.events.specs.Event.{events}
use Rattle.text_rules.specs.Scan.{least}
use Rattle.text_rules.specs.Rules.{heads, too_deep, miscalls, mainless, open_ends, too_many}
use Rattle.text_rules.specs.Names.{bad_names, meanings, meant}
use Rattle.text_rules.specs.Assigned.{unassigned}
use Rattle.text_rules.specs.Own.{reversed, too_wide}
use Rattle.text_rules.specs.Resolve.{resolved}
use Rattle.semantics.specs.Program.{Program}
-- a text with the kinds, places and values of its tokens, of which the last is the end
pub use Rattle.syntax.specs.Source.{Source, source}
-- two tokens of a text spell the same name; a token spells main
pub use Rattle.text_rules.specs.Spelling.{same_in, main_in}

-- "It answers accepted, or number and place, a byte offset from 0."
pub data Verdict : Type 0 where
  accepted : Verdict
  refused : (number place : ℕ) → Verdict

-- the kinds, places and values of tokens
abbrev pub kinds : List Token → List ℕ
kinds ts = map (λ t. t.kind) ts

abbrev pub places : List Token → List ℕ
places ts = map (λ t. t.place) ts

abbrev pub values : List Token → List ℕ
values ts = map (λ t. t.value) ts

abbrev pub source_of : List ℕ → List Token → Source
source_of text ts = source text (kinds ts) (places ts) (values ts)

-- the number of the end's token, which stands at the text's length
abbrev pub end_of : Source → ℕ
end_of s = length s.kinds - 1

-- the value of a token
abbrev pub value_in : Source → ℕ → ℕ
value_in s i = get_or s.values i 0

-- what the name at a token means, in a text with the tree p: the slot of a variable, or the number of a function
abbrev pub means_in : Source → Ast A.prog → ℕ → ℕ
means_in s p = meant (λ i. 0) (meanings (same_in s) p)

-- a rule's number, and the tokens that break it
pub record Rule : Type 0 where
  pub number : ℕ
  pub broken : List ℕ

abbrev pub rule : ℕ → List ℕ → Rule
rule n is = record { number = n; broken = is }

-- the table: the rules of a text with the tree p, in the order of checking, which goes on from the numbers 1 to 4
unfoldable pub rules_of : Source → Ast A.prog → List Rule
rules_of s p =
    let es = events p in
    rule 5 (too_deep es)
    ∷ rule 6 (bad_names (same_in s) p)
    ∷ rule 7 (miscalls (same_in s) es)
    ∷ rule 8 (mainless (main_in s) (end_of s) es)
    ∷ rule 9 (open_ends es)
    ∷ rule 17 (unassigned (means_in s p) p)
    ∷ rule 10 (too_many es)
    ∷ rule 18 (reversed (value_in s) p)
    ∷ rule 19 (too_wide (value_in s) p)
    ∷ []

-- a rule that is broken: its number, and the first token that breaks it
pub record Fault : Type 0 where
  pub number : ℕ
  pub token : ℕ

abbrev pub fault : ℕ → ℕ → Fault
fault n i = record { number = n; token = i }

abbrev pub or_else : ℕ → Option ℕ → Option Fault → Option Fault
or_else n None later = later
or_else n (Some i) later = Some (fault n i)

-- "each over the whole text before the next, the smallest place within a number winning": the places of tokens ascend with their numbers
unfoldable pub first_broken : List Rule → Option Fault
first_broken [] = None
first_broken (r ∷ rs) = or_else r.number (least r.broken) (first_broken rs)

abbrev pub verdict : List ℕ → Option Fault → Verdict
verdict ps None = accepted
verdict ps (Some f) = refused f.number (get_or ps f.token 0)

-- "4 the first token that no program could have there", and then the other rules
unfoldable pub checked_tokens : Source → Verdict
checked_tokens s = elim (parsed s.kinds) [ bad m ↦ refused 4 (get_or s.places m 0) | ok t m ↦ verdict s.places (first_broken (rules_of s (ast t))) ]

-- numbers 1 to 3 are the lexer's
unfoldable pub checked : List ℕ → Verdict
checked text = elim (lexed text) [ L.refused n p ↦ refused n p | L.tokens ts ↦ checked_tokens (source_of text ts) ]

-- ---- the program of a text

-- the tree with names resolved, of tokens that the grammar accepts
unfoldable pub program_of : List ℕ → List Token → Tree prog → Program
program_of text ts t =
    let s = source_of text ts in
    resolved (value_in s) (means_in s (ast t)) (main_in s) (heads (events (ast t))) (ast t)
