-- A text of at most 2,048 tokens can be walked.
use Prim.Native.Nat.{ℕ, ◌+◌, ◌*◌, ◌≤◌, ◌<◌}
use mathlib.Core.List.{List}
use native.Mathlib.Omega.{arith}
use lib.ListN.{length}
use Rattle.syntax.specs.Tree.{Tree, width, numbered}
use Rattle.syntax.specs.Tree as T
use Rattle.syntax.specs.Abstract.{ast}
use Rattle.syntax.specs.Table.{node_words, Holds}
use Rattle.events.specs.Walk.{Ready}
use Rattle.events.proofs.Widths.{width-numbered}
use Rattle.events.proofs.Capacity.{program-fits}
use Rattle.events.proofs.Tokens.{numbered_below}

-- t is the tree of the text, with its tokens' numbers from 0 on
pub ready : {l : List ℕ} {i : ℕ} (t : Tree T.prog) → width t ≤ 2048 → Holds l i (ast (numbered 0 t)) → node_words * i + node_words ≤ length l → i < 65536 → Ready l i
ready t h at room few = record {
  rooted = record { tree = ast (numbered 0 t); holds = at; room = room; few = few };
  tokens = numbered_below 0 65536 t (omega (arith, h));
  space = program-fits (numbered 0 t) (omega (arith, h, width-numbered 0 t));
}
