-- How large the tables of an analysis are: enough for every text of at most 2,048 bytes. src/tables.rt has the same number.
use Rattle.std.specs.Prelude.{ℕ, ◌*◌, ◌≡◌, length, replicate}
use Rattle.syntax.specs.Table.{node_words}
use Rattle.checker.specs.declared.tables.Tables.{Tables}

-- kinds, places, values and meanings: one for each token. There are at most as many tokens as bytes, and the end
abbrev pub TOKENS : ℕ
TOKENS = 2049

-- tables for a text: there is room for its tree, two nodes for each token, and no name means anything yet
pub record Fresh (t : Tables) : Type 0 where
  pub table : length t.nodes ≡ node_words * 4098
  pub blank : t.slots ≡ replicate TOKENS 0
