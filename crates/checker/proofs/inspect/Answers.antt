use Rattle.checker.proofs.Inspecting.{inspected}
use Rattle.checker.proofs.inspect.Goals as goal

pub returns : goal.returns
returns c = inspected _ _ _ _ _ _ _ c.walk.ensures c.judge.ensures
