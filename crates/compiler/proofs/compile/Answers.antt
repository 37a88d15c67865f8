use Rattle.std.proofs.Common.{◌∙◌}
use Rattle.compiler.proofs.Whole.{opened, begun, whole}
use Rattle.compiler.proofs.compile.Goals as goal

pub program-requires : goal.program-requires
program-requires c = rw c.new.ensures (begun c.requires c.push-3.new.self (opened c.args.main c.requires.main c.clear.ensures.entries c.push.ensures.entries c.push-2.ensures.entries c.push-3.ensures.entries))

pub returns : goal.returns
returns c = whole c.requires c.push-3.new.self (opened c.args.main c.requires.main c.clear.ensures.entries c.push.ensures.entries c.push-2.ensures.entries c.push-3.ensures.entries) (c.push-3.ensures.starts ∙ c.push-2.ensures.starts ∙ c.push.ensures.starts ∙ c.clear.ensures.starts) (rw c.new.ensures at c.program.ensures)
