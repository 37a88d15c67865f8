-- What holds of each name and each number of a program tree.
use Prim.Native.Nat.{ℕ}
use mathlib.Core.List.{List}
use Rattle.syntax.specs.Ast.{Sort}
use Rattle.house_style.specs.Named as N
use Rattle.house_style.specs.Named.{Named}

module _ (P : List ℕ → Type 0) (Q : ℕ → Type 0) where
  unfoldable pub Leaves : {s : Sort} → Named s → Type 0
  Leaves (N.number v) = Q v
  Leaves (N.negative v) = Q v
  Leaves (N.name x) = P x
  Leaves (N.call f a) = P f × Leaves a
  Leaves (N.times o a b) = Leaves a × Leaves b
  Leaves (N.plus a b) = Leaves a × Leaves b
  Leaves (N.minus a b) = Leaves a × Leaves b
  Leaves N.no_args = Unit {0}
  Leaves (N.more_args l e) = Leaves l × Leaves e
  Leaves (N.cmp_mark o) = Unit {0}
  Leaves N.always = Unit {0}
  Leaves N.never = Unit {0}
  Leaves (N.compare a o b) = Leaves a × Leaves b
  Leaves (N.both a b) = Leaves a × Leaves b
  Leaves (N.either a b) = Leaves a × Leaves b
  Leaves N.empty = Unit {0}
  Leaves (N.declare x) = P x
  Leaves (N.declare_free x) = P x
  Leaves (N.declare_own x a v b w) = P x × (Q v × Q w)
  Leaves (N.assign x e) = P x × Leaves e
  Leaves (N.eval e) = Leaves e
  Leaves (N.block b) = Leaves b
  Leaves (N.if_else c s t) = Leaves c × (Leaves s × Leaves t)
  Leaves (N.while c s) = Leaves c × Leaves s
  Leaves (N.return e) = Leaves e
  Leaves N.fail = Unit {0}
  Leaves N.no_stmts = Unit {0}
  Leaves (N.more_stmts l s) = Leaves l × Leaves s
  Leaves (N.braced l) = Leaves l
  Leaves N.no_params = Unit {0}
  Leaves (N.more_params l x) = Leaves l × P x
  Leaves (N.function f q b) = P f × (Leaves q × Leaves b)
  Leaves N.no_funs = Unit {0}
  Leaves (N.more_funs p f) = Leaves p × Leaves f
