use Rattle.std.proofs.Common.{◌≡◌, ◌<◌, length, map, reverse, sym, ap, ◌∙◌, arith}
use borrow.Author.Tests.{eqb-true, eqb-false}
use Rattle.std.proofs.lemmas.List.{length-map}
use Rattle.text_rules.specs.Names.{seen}
use Rattle.text_rules.specs.Scopes.{Scope}
use Rattle.scopes.specs.Memory.{as_declared}
use Rattle.scopes.specs.declared.scope.Scopes.TheInside.{Inside}
use Rattle.scopes.proofs.Blocks.{length-seen, none-of, declares-first, declares, ordered-first, ordered-later}
use Rattle.scopes.proofs.scope.Scopes.declare.Goals.{then-is_empty, else-is_empty}
use Rattle.scopes.proofs.scope.Scopes.declare.Goals as goal

pub push-requires-2 : goal.push-requires-2
push-requires-2 g c =
    let I = c.self.inside in
    let e : length (seen c.args.self.now.blocks) ≡ length I.declarations.items = ap (λ (s : Scope). length (seen s.blocks)) (sym c.self.view_is) ∙ length-seen (map as_declared I.declarations.items) (reverse I.starts.items) (rw (length-map I.declarations.items as_declared) c.self.invariant) ∙ length-map I.declarations.items as_declared in
    let h : length I.declarations.items < g.row.ROOM = omega (arith, e, c.requires.seen) in
    elim c.if-is_empty.branch [ then-is_empty w ↦ (omega arith, rw w.self-inside-is h) | else-is_empty w ↦ (omega arith, rw w.self-inside-is h) ]

pub invariant_of-self : goal.invariant_of-self
invariant_of-self g c = elim c.if-is_empty.branch [
  | then-is_empty w ↦
      let z = eqb-true _ _ (sym w.if-is_empty.ensures) in
      ordered-first _ 0 _ _ _ _ _ _ _ (ap (λ (x : Inside g.row.ROOM). x.declarations.items) w.self-inside-is) w.len.ensures.value (ap (λ (x : Inside g.row.ROOM). x.starts.items) w.self-inside-is ∙ w.push.ensures.items) (none-of _ (λ lt. omega (arith, lt, z))) c.self.invariant c.push-2.ensures.items
  | else-is_empty w ↦
      let z = eqb-false _ _ (sym w.if-is_empty.ensures) in
      ordered-later _ 0 _ _ _ _ _ _ (ap (λ (x : Inside g.row.ROOM). x.declarations.items) w.self-inside-is) (ap (λ (x : Inside g.row.ROOM). x.starts.items) w.self-inside-is) c.self.invariant (omega (arith, z)) c.push-2.ensures.items
]

pub returns : goal.returns
returns g c = rw (sym c.self.view_is) (elim c.if-is_empty.branch [
  | then-is_empty w ↦
      let z = eqb-true _ _ (sym w.if-is_empty.ensures) in
      declares-first _ _ _ _ _ _ _ _ _ (ap (λ (x : Inside g.row.ROOM). x.declarations.items) w.self-inside-is) (ap (λ (x : Inside g.row.ROOM). x.next) w.self-inside-is) w.len.ensures.value (ap (λ (x : Inside g.row.ROOM). x.starts.items) w.self-inside-is ∙ w.push.ensures.items) (none-of _ (λ lt. omega (arith, lt, z))) c.self.invariant c.push-2.ensures.items
  | else-is_empty w ↦
      let z = eqb-false _ _ (sym w.if-is_empty.ensures) in
      declares _ _ _ _ _ _ _ _ (ap (λ (x : Inside g.row.ROOM). x.declarations.items) w.self-inside-is) (ap (λ (x : Inside g.row.ROOM). x.next) w.self-inside-is) (ap (λ (x : Inside g.row.ROOM). x.starts.items) w.self-inside-is) c.self.invariant (omega (arith, z)) c.push-2.ensures.items
])
