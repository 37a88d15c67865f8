-- "Reading .. by the grammar" (document 02, slip 7): the program tree of a text that is tokens and keeps the grammar, whatever its length and the size of its names and numbers; none of any other text.
use Rattle.std.specs.Prelude.{ℕ, List, [], get_or}
use Rattle.std.proofs.Math.Option.{Option, none, some}
use Rattle.lexer.specs.Lex.{Token, scan, found, stray}
use Rattle.syntax.specs.Ast.{prog}
use Rattle.syntax.specs.Abstract.{ast}
use Rattle.syntax.specs.Tree as T
use Rattle.syntax.specs.Tree.{Tree}
use Rattle.grammar.specs.Parse.{parsed, ok, bad}
use Rattle.text_rules.specs.Spelling.{spelled}
use Rattle.checker.specs.Check.{kinds, places, values}
use Rattle.house_style.specs.Named.{Named, strip}
use Rattle.house_style.specs.House.{house}

-- the program tree of a text with the tokens ts and the syntax tree t
abbrev pub tree_of : List ℕ → List Token → Tree T.prog → Named prog
tree_of text ts t = strip (spelled text (places ts) (values ts)) (λ i. get_or (values ts) i 0) (ast t)

unfoldable pub read_tokens : List ℕ → List Token → Option (Named prog)
read_tokens text ts = elim (parsed (kinds ts)) [ bad m ↦ none | ok t m ↦ some (tree_of text ts t) ]

unfoldable pub read : List ℕ → Option (Named prog)
read text = elim (scan 0 0 text) [ stray ts p ↦ none | found ts ↦ read_tokens text ts ]

-- what is written for a text: the house style of its tree
unfoldable pub written : List ℕ → List ℕ
written text = elim (read text) [ none ↦ [] | some n ↦ house n ]
