-- The own pairs of a text's program: what holds of each that the text gives holds of each of the program.
use Prim.Native.Nat.{ℕ, zero, suc}
use mathlib.Core.List.{List, [], ◌∷◌, ◌++◌}
use lib.ListN.{get_or}
use Rattle.syntax.specs.Ast.{Sort, Ast, prog}
use Rattle.syntax.specs.Ast as A
use Rattle.semantics.specs.Program.{Window, Stmts}
use Rattle.semantics.proofs.Own.{PairsS, PairsSs}
use Rattle.text_rules.specs.Own.{Own, owns, pair_at}
use Rattle.text_rules.specs.Resolve.{Part, part}

module _ (P : Window → Type 0) where
  abbrev pub Bodies : List Stmts → Type 0
  Bodies bs = (g : ℕ) → PairsSs P (get_or bs g Stmts.end)

  bodies-none : Bodies []
  unfolding PairsS
  bodies-none g = tt

  bodies-more : (b : Stmts) (bs : List Stmts) → PairsSs P b → Bodies bs → Bodies (b ∷ bs)
  bodies-more b bs h k zero = h
  bodies-more b bs h k (suc g) = k g

  abbrev PairsAs : (s : Sort) → Part s → Type 0
  PairsAs A.expr e = Unit {0}
  PairsAs A.args f = Unit {0}
  PairsAs A.mark o = Unit {0}
  PairsAs A.cond c = Unit {0}
  PairsAs A.stmt s = PairsS P s
  PairsAs A.stmts f = (ss : Stmts) → PairsSs P ss → PairsSs P (f ss)
  PairsAs A.body ss = PairsSs P ss
  PairsAs A.params n = Unit {0}
  PairsAs A.fun b = PairsSs P b
  PairsAs A.prog f = (bs : List Stmts) → Bodies bs → Bodies (f bs)

  module _ (value : ℕ → ℕ) where
    -- of each of these declarations' pairs
    unfoldable pub Each : List Own → Type 0
    Each [] = Unit {0}
    Each (o ∷ os) = P (pair_at value o.token o.low o.high) × Each os

    pub each-front : (xs ys : List Own) → Each (xs ++ ys) → Each xs
    unfolding Each
    each-front [] ys h = tt
    each-front (o ∷ xs) ys h = (h.0, each-front xs ys h.1)

    pub each_back : (xs ys : List Own) → Each (xs ++ ys) → Each ys
    unfolding Each
    each_back [] ys h = h
    each_back (o ∷ xs) ys h = each_back xs ys h.1

    module _ (means : ℕ → ℕ) where
      part-pairs : {s : Sort} (t : Ast s) → Each (owns t) → PairsAs s (part value means t)
      unfolding part PairsS owns Each
      part-pairs (A.number i) h = tt
      part-pairs (A.negative i) h = tt
      part-pairs (A.name i) h = tt
      part-pairs (A.call i a) h = tt
      part-pairs (A.bracket i e) h = tt
      part-pairs (A.times o a b) h = tt
      part-pairs (A.plus a b) h = tt
      part-pairs (A.minus a b) h = tt
      part-pairs A.no_args h = tt
      part-pairs (A.more_args l e) h = tt
      part-pairs (A.cmp_mark o) h = tt
      part-pairs A.always h = tt
      part-pairs A.never h = tt
      part-pairs (A.compare a o b) h = tt
      part-pairs (A.both a b) h = tt
      part-pairs (A.either a b) h = tt
      part-pairs (A.empty i) h = tt
      part-pairs (A.declare i) h = tt
      part-pairs (A.declare_free i) h = tt
      part-pairs (A.declare_own i a b) h = h.0
      part-pairs (A.assign i e) h = tt
      part-pairs (A.eval e) h = tt
      part-pairs (A.block i b) h = part-pairs b h
      part-pairs (A.if_else i c s t) h = (part-pairs s (each-front (owns s) (owns t) h), part-pairs t (each_back (owns s) (owns t) h))
      part-pairs (A.while i c s) h = part-pairs s h
      part-pairs (A.return i e) h = tt
      part-pairs (A.fail i) h = tt
      part-pairs A.no_stmts h = λ ss k. k
      part-pairs (A.more_stmts l s) h = λ ss k. part-pairs l (each-front (owns l) (owns s) h) (Stmts.next (part value means s) ss) (part-pairs s (each_back (owns l) (owns s) h), k)
      part-pairs (A.braced l j) h = part-pairs l h Stmts.end tt
      part-pairs A.no_params h = tt
      part-pairs (A.more_params l i) h = tt
      part-pairs (A.function i p b) h = part-pairs b h
      part-pairs A.no_funs h = λ bs k. k
      part-pairs (A.more_funs l f) h = λ bs k. part-pairs l (each-front (owns l) (owns f) h) (part value means f ∷ bs) (bodies-more (part value means f) bs (part-pairs f (each_back (owns l) (owns f) h)) k)

      pub resolved-pairs : (t : Ast prog) → Each (owns t) → Bodies (part value means t [])
      resolved-pairs t h = part-pairs t h [] bodies-none
