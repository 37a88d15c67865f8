-- What `parse` asks and answers.
use Rattle.std.specs.Prelude.{ℕ, suc, ◌+◌, ◌*◌, ◌≤◌, ◌<◌, ◌≡◌, List, length, get_or, Result, Ok, Err}
use Rattle.syntax.specs.Tree.{Tree, prog}
use Rattle.syntax.specs.Ast as A
use Rattle.syntax.specs.Abstract.{ast}
use Rattle.syntax.specs.Table.{At}
use Rattle.grammar.specs.Parse.{Res, ok, bad}

-- the token list ks, whose last token is the end, and a table with ten words for each token
pub record Tabled (ks l : List ℕ) : Type 0 where
  pub filled : 0 < length ks
  pub few : length ks ≤ 4096
  pub room : 10 * length ks ≤ length l
  pub ends : (a : ℕ) → suc a ≡ length ks → get_or ks a 0 ≡ 0

-- the answer by what `parsed` gives: its tree stands in the table, at the root's node; or the number of the token that does not fit
pub data Parses (l : List ℕ) : Result ℕ ℕ → Res prog → Type 0 where
  tree : {t : Tree prog} {m root k : ℕ} → 5 * root + 5 ≤ length l → At l A.prog root k (ast t) → Parses l (Ok root) (ok t m)
  none : {m : ℕ} → Parses l (Err m) (bad m)
