-- One event, as the code takes it.
use Rattle.std.specs.Prelude.{ℕ, ◌<◌, ◌≡◌, Bool, Option, None, List, [], ◌∷◌, ◌++◌, length, get_or, set}
use Rattle.events.specs.Event.{Event}
use Rattle.text_rules.specs.Scan as S
use Rattle.text_rules.specs.Answers.{least_with}
use Rattle.text_rules.specs.Rules.{Head, function_of}
use Rattle.text_rules.specs.Names.{Declared, sought, if_found, unless_found, uncalled, Meaning, meaning, as_found, meant}
use Rattle.text_rules.specs.Scopes.{Scope, entered, nowhere, misnamed_at, bad_names_in, named_at, meanings_in}

-- the tokens at which an event breaks rule 6, but for the repeated names of functions
abbrev pub wrong : (ℕ → ℕ → Bool) → List Head → Scope → Event → List ℕ
wrong same hs s e = misnamed_at same s e ++ uncalled same hs e

-- meanings, written at their tokens; a token past the end is passed over
unfoldable pub noted : List ℕ → List Meaning → List ℕ
noted l [] = l
noted l (m ∷ ms) = noted (set l m.token m.means) ms

-- tokens that break the rule and meanings have been seen: the least token so far, and the words of the meanings, before and after
pub record Seen (tokens : List ℕ) (meanings : List Meaning) (best : Option ℕ) (slots : List ℕ) (best' : Option ℕ) (slots' : List ℕ) : Type 0 where
  pub least : best' ≡ least_with tokens best
  pub written : slots' ≡ noted slots meanings

-- a name is declared, as number n; a variable is read or assigned; a function is called
abbrev pub SeenDeclaration : (ℕ → ℕ → Bool) → List (List Declared) → ℕ → ℕ → Option ℕ → List ℕ → Option ℕ → List ℕ → Type 0
SeenDeclaration same bs n i p l p' l' = Seen (if_found (sought same bs i) i) (meaning i n ∷ []) p l p' l'

abbrev pub SeenVariable : (ℕ → ℕ → Bool) → List (List Declared) → ℕ → Option ℕ → List ℕ → Option ℕ → List ℕ → Type 0
SeenVariable same bs i p l p' l' = Seen (unless_found (sought same bs i) i) (as_found (sought same bs i) i) p l p' l'

abbrev pub SeenCall : (ℕ → ℕ → Bool) → List Head → ℕ → Option ℕ → List ℕ → Option ℕ → List ℕ → Type 0
SeenCall same hs i p l p' l' = Seen (unless_found (function_of same hs i) i) (as_found (function_of same hs i) i) p l p' l'

-- an event in a scope; all events
abbrev pub SeenEvent : (ℕ → ℕ → Bool) → List Head → Scope → Event → Option ℕ → List ℕ → Option ℕ → List ℕ → Type 0
SeenEvent same hs s e p l p' l' = Seen (wrong same hs s e) (named_at same hs s e) p l p' l'

abbrev pub SeenEvents : (ℕ → ℕ → Bool) → List Head → List Event → List ℕ → Option ℕ → List ℕ → Type 0
SeenEvents same hs es l p' l' = Seen (S.scan entered (wrong same hs) nowhere es) (S.scan entered (named_at same hs) nowhere es) None l p' l'

-- rule 6 is judged over the events es, and what each name means is written at its token
pub record Named (same : ℕ → ℕ → Bool) (es : List Event) (slots : List ℕ) (best : Option ℕ) (slots' : List ℕ) : Type 0 where
  pub least : best ≡ S.least (bad_names_in same es)
  pub means : (i : ℕ) → i < length slots → get_or slots' i 0 ≡ meant (λ j. get_or slots j 0) (meanings_in same es) i
  pub kept : length slots' ≡ length slots
