-- What the compiler asks and answers.
use Rattle.std.specs.Prelude.{◌≡◌, ℕ, ◌<◌, ◌≤◌, List, [], length}
use Rattle.semantics.specs.Does.{frame}
use Rattle.syntax.specs.Ast.{Ast, prog}
use Rattle.syntax.specs.Table.{Holds}
use Rattle.events.specs.Walk.{Rooted}
use Rattle.text_rules.specs.Resolve.{part}
use Rattle.simulation.specs.Code.{Code, code_of}
use Rattle.compiler.specs.Coded.{word, program}
use Rattle.compiler.specs.Sound.{Sound}

-- the first words of both slices are those of the tokens
pub record Tokens (m : ℕ) (values slots : List ℕ) : Type 0 where
  pub valued : m ≤ length values
  pub named : m ≤ length slots
  pub small : m ≤ 65536

-- an accepted program stands at node i, and a code has room for its entries
pub record Ready (l : List ℕ) (i : ℕ) (values slots : List ℕ) (g : ℕ) : Type 0 where
  pub rooted : Rooted prog l i
  pub tokens : ℕ
  pub within : Tokens tokens values slots
  pub sound : Sound tokens (word values) (word slots) rooted.tree
  pub functions : length (part (word values) (word slots) rooted.tree []) ≤ 16
  pub main : g < 16
  pub space : length (code_of (program values slots g rooted.tree)).entries ≤ 2052

-- the code has the entries of the program's code, and says where each of its functions begins; where there are fewer than 16 functions, the places left over lead to 2, where a run fails
pub record Compiled (l : List ℕ) (i : ℕ) (values slots : List ℕ) (main : ℕ) (code : Code) : Type 0 where
  pub entries : (p : Ast prog) → Holds l i p → code.entries ≡ (code_of (program values slots main p)).entries
  pub starts : (p : Ast prog) → Holds l i p → code.starts ≡ frame 2 16 (code_of (program values slots main p)).starts
