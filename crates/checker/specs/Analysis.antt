-- What the analysis of a text answers, and what the answer means.
use Rattle.std.specs.Prelude.{ℕ, ◌+◌, ◌*◌, ◌≤◌, ◌<◌, ◌≡◌, List, length, None, Result, Ok, Err}
use Rattle.syntax.specs.Tree.{Tree, prog}
use Rattle.syntax.specs.Ast as A
use Rattle.syntax.specs.Ast.{Ast}
use Rattle.syntax.specs.Abstract.{ast}
use Rattle.syntax.specs.Table.{Holds}
use Rattle.syntax.specs.Refusals.{number_of}
use Rattle.syntax.specs.declared.refusal.Refusal.{Refusal}
use Rattle.lexer.specs.Lex as L
use Rattle.lexer.specs.Lex.{Token, Lexing, lexed}
use Rattle.grammar.specs.Parse.{parsed, ok}
use Rattle.events.specs.Event as E
use Rattle.events.specs.Event.{Event}
use Rattle.events.specs.Walk.{Below}
use Rattle.text_rules.specs.Rules as R
use Rattle.text_rules.specs.Rules.{Head}
use Rattle.checker.specs.Check.{Verdict, accepted, refused, Source, source_of, rules_of, first_broken, verdict}
use Rattle.checker.specs.Judge.{Meant, Shown}
use Rattle.checker.specs.Sizes.{TOKENS}
use Rattle.checker.specs.declared.Analysis.{Analysis}
pub use Rattle.checker.specs.Judge.{verdict_of}

-- what is known of the program p where the rules are kept
pub record Kept' (s : Source) (events : List Event) (heads : List Head) (slots : List ℕ) (p : Ast A.prog) : Type 0 where
  pub listed : events ≡ E.events p
  pub functions : heads ≡ R.heads (E.events p)
  pub means : Meant s p slots

-- an accepted text with its tokens: its tree stands at node `root`, and these are its events, its functions and each token's meaning
pub record Known (s : Source) (nodes : List ℕ) (root : ℕ) (events : List Event) (heads : List Head) (slots : List ℕ) : Type 0 where
  pub tree : Tree prog
  pub after : ℕ
  pub parses : parsed s.kinds ≡ ok tree after
  pub holds : Holds nodes root (ast tree)
  pub room : 5 * root + 5 ≤ length nodes
  pub few : root < 65536
  pub named : length slots ≡ TOKENS
  pub kept : Kept' s events heads slots (ast tree)
  pub unbroken : first_broken (rules_of s (ast tree)) ≡ None

-- a text is refused as check refuses it, or what is answered is its tokens and what is known of it
pub data Analyses (text : List ℕ) : Result Analysis Refusal → Verdict → Type 0 where
  rejects : {r : Refusal} → Analyses text (Err r) (refused (number_of r.reason) r.place)
  has : {a : Analysis} {ts : List Token} → lexed text ≡ L.tokens ts → a.source ≡ source_of text ts → Known a.source a.nodes.now a.root a.events.now a.heads.now a.slots.now
      → Analyses text (Ok a) accepted

-- ---- the steps of the analysis

-- a text is refused as the lexer refuses it, or what is answered is its tokens
pub data Reads (text : List ℕ) : Result Source Refusal → Lexing → Type 0 where
  refuses : {r : Refusal} → Reads text (Err r) (L.refused (number_of r.reason) r.place)
  has : {ts : List Token} → Reads text (Ok (source_of text ts)) (L.tokens ts)

-- tokens are refused by number 4 or a later one, or the tables hold what is known
pub data Settles (s : Source) (nodes : List ℕ) (events : List Event) (heads : List Head) (slots : List ℕ) : Result ℕ Refusal → Verdict → Type 0 where
  refuses : {r : Refusal} → Settles s nodes events heads slots (Err r) (refused (number_of r.reason) r.place)
  accepts : {root : ℕ} → Known s nodes root events heads slots → Settles s nodes events heads slots (Ok root) accepted

pub data Inspects (s : Source) (events : List Event) (heads : List Head) (slots : List ℕ) (p : Ast A.prog) : Result (Unit {0}) Refusal → Verdict → Type 0 where
  refuses : {r : Refusal} → Inspects s events heads slots p (Err r) (refused (number_of r.reason) r.place)
  accepts : {u : Unit {0}} → first_broken (rules_of s p) ≡ None → Kept' s events heads slots p → Inspects s events heads slots p (Ok u) accepted

pub record Inspected (s : Source) (nodes : List ℕ) (root : ℕ) (events : List Event) (heads : List Head) (slots : List ℕ) (r : Result (Unit {0}) Refusal) : Type 0 where
  pub inspects : (p : Ast A.prog) → Holds nodes root p → Below TOKENS p → Shown s.kinds p → Inspects s events heads slots p r (verdict s.places (first_broken (rules_of s p)))
