use borrow.Author.Rules.{rules}
use Rattle.lines.specs.Print.{ending}
use Rattle.lines.proofs.ending_word.Goals as goal

pub returns-in-Whole : goal.returns-in-Whole
unfolding ending
returns-in-Whole c = search rules

pub returns-in-Cuts : goal.returns-in-Cuts
unfolding ending
returns-in-Cuts c = search rules

pub returns-in-Full : goal.returns-in-Full
unfolding ending
returns-in-Full c = search rules

pub returns-in-Spent : goal.returns-in-Spent
unfolding ending
returns-in-Spent c = search rules
