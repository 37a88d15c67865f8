use Rattle.text_rules.specs.Spelling.{same_in}
use Rattle.remarks.specs.Steps.{calls_in}
use Rattle.remarks.proofs.Marking.{Marking, zeros}
use Rattle.remarks.proofs.reach.Given as goal

-- A mark more at each turn, on a function that calls lead to; at the end none is left to follow.
abbrev pub invariant-loop-g : goal.invariant-loop-g
invariant-loop-g l = Marking (calls_in (same_in l.analysis.source) l.analysis.events.now l.analysis.heads.now) l.main l.initial.reached l.reached

abbrev pub decreases-loop-g : goal.decreases-loop-g
decreases-loop-g l = zeros l.reached
