-- What the code of the rules answers, in the words of Check.
use Rattle.std.specs.Prelude.{ℕ, ◌<◌, ◌≡◌, List, get_or, take, drop, Option, None, Result, Ok, Err}
use Rattle.syntax.specs.Ast as A
use Rattle.syntax.specs.Ast.{Ast}
use Rattle.syntax.specs.Refusals.{number_of}
use Rattle.syntax.specs.declared.refusal.Refusal.{Refusal}
use Rattle.events.specs.Event.{Event, events}
use Rattle.events.specs.Walk.{Below}
use Rattle.syntax.specs.Table.{Holds}
use Rattle.text_rules.specs.Rules as R
use Rattle.text_rules.specs.Rules.{Head}
use Rattle.text_rules.specs.Assigned.{unassigned}
use Rattle.text_rules.specs.Own.{owns}
use Rattle.text_rules.specs.Answers.{owns_from}
use Rattle.checker.specs.Check.{Verdict, accepted, refused, Source, means_in, Rule, rules_of, or_else, first_broken, verdict}
use Rattle.checker.specs.Sizes.{TOKENS}

-- the table in two parts: the five rules 5 to 9, of which all but the first two speak of functions, and the rules after them
abbrev pub first_rules : Source → Ast A.prog → List Rule
first_rules s p = take 5 (rules_of s p)

abbrev pub function_rules : Source → Ast A.prog → List Rule
function_rules s p = drop 2 (first_rules s p)

abbrev pub last_rules : Source → Ast A.prog → List Rule
last_rules s p = drop 5 (rules_of s p)

-- check's answer, in document 01's words: accepted, or number and place
abbrev pub verdict_of : Result (Unit {0}) Refusal → Verdict
verdict_of (Ok u) = accepted
verdict_of (Err r) = refused (number_of r.reason) r.place

-- what the rule with the number n says, where `first` is the first token that breaks it, if one does
pub record Keeps (s : Source) (n : ℕ) (first : Option ℕ) (r : Result (Unit {0}) Refusal) : Type 0 where
  pub said : verdict_of r ≡ verdict s.places (or_else n first None)

-- the words say what each name of a text means
abbrev pub Meant : Source → Ast A.prog → List ℕ → Type 0
Meant s p slots = (i : ℕ) → i < TOKENS → get_or slots i 0 ≡ means_in s p i

-- where no rule is broken: the functions of p stand in `heads`, and each token's meaning in `slots`
abbrev pub Understands : Source → Ast A.prog → (slots : List ℕ) (heads : List Head) → Result (Unit {0}) Refusal → Type 0
Understands s p slots heads (Err r) = Unit {0}
Understands s p slots heads (Ok u) = (heads ≡ R.heads (events p)) × Meant s p slots

-- the declarations with their own pair that the tokens show are those of a program p
abbrev pub Shown : List ℕ → Ast A.prog → Type 0
Shown kinds p = owns_from 0 kinds ≡ owns p

-- what is known of a program p: its events are these
abbrev pub Listed : List Event → Ast A.prog → Type 0
Listed es p = es ≡ events p

-- it stands at node `root`, and its tokens are among those of a text
pub record Standing (kinds nodes : List ℕ) (root : ℕ) (es : List Event) (p : Ast A.prog) : Type 0 where
  pub holds : Holds nodes root p
  pub below : Below TOKENS p
  pub shown : Shown kinds p
  pub listed : Listed es p

-- it stands at node `root`, and rule 17 finds the same whether these words or the definition say what its names mean
pub record Readable (s : Source) (nodes : List ℕ) (root : ℕ) (slots : List ℕ) (es : List Event) (p : Ast A.prog) : Type 0 where
  pub holds : Holds nodes root p
  pub means : unassigned (λ i. get_or slots i 0) p ≡ unassigned (means_in s p) p
  pub shown : Shown s.kinds p
  pub listed : Listed es p

-- what the rules `of` say of every program of which this is known, in a text with these tokens
pub record JudgesPart (Of : Ast A.prog → Type 0) (s : Source) (of : Ast A.prog → List Rule) (r : Result (Unit {0}) Refusal) : Type 0 where
  pub is : (p : Ast A.prog) → Of p → verdict_of r ≡ verdict s.places (first_broken (of p))

-- the same, with what is understood of the text
pub record Judges (Of : Ast A.prog → Type 0) (s : Source) (of : Ast A.prog → List Rule) (slots : List ℕ) (heads : List Head) (r : Result (Unit {0}) Refusal) : Type 0 where
  pub said : (p : Ast A.prog) → Of p → verdict_of r ≡ verdict s.places (first_broken (of p))
  pub known : (p : Ast A.prog) → Of p → Understands s p slots heads r
