use Rattle.std.proofs.Common.{refl, sym, ◌∙◌}
use native.Mathlib.Omega.{arith}
use Rattle.scopes.proofs.Blocks.{declaration}
use Rattle.scopes.proofs.Seeking.{begins, ends, misses, hits, leaves}
use Rattle.scopes.proofs.lookup.seek.Goals as goal

pub loop-k-init : goal.loop-k-init
loop-k-init c = (begins _ _ _ _ c.blocks-2.invariant.0 c.blocks-2-test.true refl, c.blocks-2.invariant.1)

pub loop-k-preserved : goal.loop-k-preserved
loop-k-preserved c = (misses _ _ _ _ c.loop-k.invariant.0 c.loop-k-test.true (declaration 0 0) (rw (c.spelling.ensures, c.spelling-sought.ensures) at (sym c.same_bytes.ensures ∙ c.if-same_bytes.false)), c.loop-k.invariant.1)

pub blocks-2-preserved : goal.blocks-2-preserved
blocks-2-preserved c = (ends _ _ _ _ c.loop-k.invariant.0 c.loop-k-test.false, c.loop-k.invariant.1)

pub returns-then-same_bytes-clause-found : goal.returns-then-same_bytes-clause-found
returns-then-same_bytes-clause-found c = (hits _ _ _ _ c.loop-k.invariant.0 c.loop-k-test.true (declaration 0 0) (rw (c.spelling.ensures, c.spelling-sought.ensures) at (sym c.same_bytes.ensures ∙ c.if-same_bytes.true))).finds

pub returns-then-same_bytes-clause-compared : goal.returns-then-same_bytes-clause-compared
returns-then-same_bytes-clause-compared c = (hits _ _ _ _ c.loop-k.invariant.0 c.loop-k-test.true (declaration 0 0) (rw (c.spelling.ensures, c.spelling-sought.ensures) at (sym c.same_bytes.ensures ∙ c.if-same_bytes.true))).counts

pub returns-after-blocks-2-clause-found : goal.returns-after-blocks-2-clause-found
returns-after-blocks-2-clause-found c = rw c.blocks-2.invariant.1 (leaves _ _ _ _ c.blocks-2.invariant.0 c.blocks-2-test.false).finds

pub returns-after-blocks-2-clause-compared : goal.returns-after-blocks-2-clause-compared
returns-after-blocks-2-clause-compared c = (leaves _ _ _ _ c.blocks-2.invariant.0 c.blocks-2-test.false).counts

pub returns-after-blocks-2-clause-small : goal.returns-after-blocks-2-clause-small
returns-after-blocks-2-clause-small c = rw c.blocks-2.invariant.1 (omega arith)
