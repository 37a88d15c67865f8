-- What it means that a text keeps every rule, said of its tokens, which `lexed` gives with their kinds, places and values, and of a tree that has them.
-- No reader of the grammar stands in it, and no refusal. That check accepts exactly these texts is proved in proofs/Exactly.
use Rattle.std.specs.Prelude.{ℕ, ◌-◌, ◌≡◌, List, [], length}
use Rattle.lexer.specs.Lex as L
use Rattle.lexer.specs.Lex.{Token, lexed}
use Rattle.syntax.specs.Tree.{Tree, prog}
use Rattle.syntax.specs.Abstract.{ast}
use Rattle.grammar.specs.Text as G
use Rattle.events.specs.Event.{events}
use Rattle.text_rules.specs.Spelling.{same_name, is_main}
use Rattle.text_rules.specs.Rules.{too_deep, miscalls, mainless, open_ends, too_many}
use Rattle.text_rules.specs.Names.{bad_names}
use Rattle.text_rules.specs.Assigned.{unassigned}
use Rattle.text_rules.specs.Own.{reversed, too_wide}
use Rattle.checker.specs.Check.{kinds, places, values, source_of, value_in, means_in}

-- "a text is accepted exactly if it keeps the grammar and every other rule": it has tokens, they are the tokens of a tree, and nothing in the tree breaks a rule
pub record KeepsRules (text : List ℕ) : Type 0 where
  pub tokens : List Token
  pub tree : Tree prog
  pub lexes : lexed text ≡ L.tokens tokens
  -- it keeps the grammar: its tokens are those of the tree, and then the end
  pub grammar : G.KeepsGrammar (kinds tokens) tree
  pub depth : too_deep (events (ast tree)) ≡ []
  pub names : bad_names (same_name text (places tokens) (values tokens)) (ast tree) ≡ []
  pub calls : miscalls (same_name text (places tokens) (values tokens)) (events (ast tree)) ≡ []
  pub main : mainless (is_main text (places tokens) (values tokens)) (length (kinds tokens) - 1) (events (ast tree)) ≡ []
  pub ends : open_ends (events (ast tree)) ≡ []
  pub assigned : unassigned (means_in (source_of text tokens) (ast tree)) (ast tree) ≡ []
  pub counts : too_many (events (ast tree)) ≡ []
  pub upward : reversed (value_in (source_of text tokens)) (ast tree) ≡ []
  pub narrow : too_wide (value_in (source_of text tokens)) (ast tree) ≡ []
