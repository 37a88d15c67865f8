use Rattle.std.proofs.Common.{inl, inr}
use Rattle.text_rules.specs.Scopes.{entered}
use Rattle.scopes.proofs.Blocks.{stays}
use Rattle.scopes.proofs.scope.Scopes.enter.Goals as goal

pub returns-in-Function : goal.returns-in-Function
unfolding entered
returns-in-Function g c = rw c.in-Function.is c.begin_function.ensures

pub returns-in-Opens : goal.returns-in-Opens
unfolding entered
returns-in-Opens g c = rw c.in-Opens.is c.open_block.ensures

pub returns-in-Closes : goal.returns-in-Closes
unfolding entered
returns-in-Closes g c = rw c.in-Closes.is c.close_block.ensures

pub returns-in_default : goal.returns-in_default
returns-in_default g c = stays _ _ c.in_default.not-Function c.in_default.not-Parameter c.in_default.not-Declares c.in_default.not-Opens c.in_default.not-Closes

pub returns-in-Parameter : goal.returns-in-Parameter
unfolding entered
returns-in-Parameter g c = elim c.in-Parameter.is [ inl e ↦ rw e c.declare.ensures | inr e ↦ rw e c.declare.ensures ]
