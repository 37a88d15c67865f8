use Rattle.text_rules.proofs.Collects.{Gathered}
use Rattle.text_rules.proofs.heads.collect_heads.Given as goal

-- The functions of the events so far are collected.
abbrev pub invariant-loop-i : goal.invariant-loop-i
invariant-loop-i l = Gathered l.list l.i l.heads
