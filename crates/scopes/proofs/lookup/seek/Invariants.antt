use mathlib.Core.Path.{◌≡◌}
use Rattle.std.specs.Prelude.{None}
use Rattle.text_rules.specs.Spelling.{same_in}
use Rattle.scopes.proofs.Seeking.{Outer, Inner}
use Rattle.scopes.proofs.lookup.seek.Given as goal

abbrev pub invariant-loop-k : goal.invariant-loop-k
invariant-loop-k l = Inner (same_in l.source) l.declarations l.starts l.i l.block l.start l.compared l.k × (l.found ≡ None)

abbrev pub invariant-blocks-2 : goal.invariant-blocks-2
invariant-blocks-2 l = Outer (same_in l.source) l.declarations l.starts l.i l.compared l.block l.end × (l.found ≡ None)
