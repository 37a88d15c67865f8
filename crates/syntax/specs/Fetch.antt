-- What reading a node gives, and the words that nodes stand for.
use Rattle.std.specs.Prelude.{ℕ, ◌+◌, ◌*◌, ◌≡◌, List, [], ◌∷◌, get_or}
use Rattle.syntax.specs.Table.{node_words, node_token, node_first, node_second, node_third}
use Rattle.syntax.specs.NodeKinds.{node_number}
use Rattle.syntax.specs.declared.node.Node.{Node}

-- the five words of each node
unfoldable pub words_of : List Node → List ℕ
words_of [] = []
words_of (n ∷ ns) = node_number n.kind ∷ n.token ∷ n.first ∷ n.second ∷ n.third ∷ words_of ns

-- the five words of node i
pub record Fetched (l : List ℕ) (i : ℕ) (n : Node) : Type 0 where
  pub kind : node_number n.kind ≡ get_or l (node_words * i) 0
  pub token : n.token ≡ get_or l (node_words * i + node_token) 0
  pub first : n.first ≡ get_or l (node_words * i + node_first) 0
  pub second : n.second ≡ get_or l (node_words * i + node_second) 0
  pub third : n.third ≡ get_or l (node_words * i + node_third) 0
