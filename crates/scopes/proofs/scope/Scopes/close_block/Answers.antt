use Rattle.std.proofs.Common.{◌≡◌, [], sym}
use Rattle.text_rules.specs.Scopes.{outer}
use Rattle.scopes.specs.Memory.{blocks_of}
use Rattle.scopes.proofs.Blocks.{closed, none-of}
use Rattle.scopes.proofs.scope.Scopes.close_block.Goals as goal

pub returns-in-Some : goal.returns-in-Some
returns-in-Some g c = rw (sym c.self.view_is, c.truncate.ensures.items, c.in-Some.ensures.items) (closed c.self.inside.declarations.items c.pop.new.self.items c.in-Some.start c.self.inside.next)

pub returns-in_default : goal.returns-in_default
unfolding blocks_of outer
returns-in_default g c =
    let e : c.self.inside.starts.items ≡ [] = none-of c.self.inside.starts.items (λ lt. let x = c.in_default.ensures.variant.1 lt in cc) in
    rw (sym c.self.view_is, c.in_default.ensures.empty, e)
