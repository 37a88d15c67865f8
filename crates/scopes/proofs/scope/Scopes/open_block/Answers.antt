use Rattle.std.proofs.Common.{◌≡◌, ◌<◌, length, map, reverse, sym, ap, ◌∙◌, arith}
use Rattle.std.proofs.lemmas.List.{length-reverse}
use Rattle.text_rules.specs.Scopes.{Scope}
use Rattle.scopes.specs.Memory.{as_declared}
use Rattle.scopes.proofs.Blocks.{length-blocks, opened}
use Rattle.scopes.proofs.scope.Scopes.open_block.Goals as goal

pub push-requires : goal.push-requires
push-requires g c =
    let I = c.self.inside in
    let e : length c.args.self.now.blocks ≡ length I.starts.items = ap (λ (s : Scope). length s.blocks) (sym c.self.view_is) ∙ length-blocks (map as_declared I.declarations.items) (reverse I.starts.items) ∙ length-reverse I.starts.items in
    let h : length I.starts.items < g.row.ROOM = omega (arith, e, c.requires) in
    (omega arith, h)

pub returns : goal.returns
returns g c = rw (sym c.self.view_is, c.push.ensures.items, c.len.ensures.value) (opened c.self.inside.declarations.items c.self.inside.starts.items c.self.inside.next)
