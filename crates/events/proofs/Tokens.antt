-- The tokens that a tree names are its own.
use Prim.Native.Nat.{ℕ, suc, ◌+◌, ◌≤◌, ◌<◌}
use mathlib.Core.Path.{◌≡◌, refl}
use mathlib.Core.Bool.{true, false}
use mathlib.Core.List.{List, [], ◌∷◌, ◌++◌}
use native.Mathlib.Omega.{arith}
use Rattle.syntax.specs.Token.{k_minus, k_name, k_close, k_comma, k_plus, k_and, k_or, k_semi, k_int, k_lbrace, k_rbrace, k_else}
use Rattle.syntax.specs.Tree.{Cat, Tree, onto, width, numbered}
use Rattle.syntax.specs.Tree as T
use Rattle.syntax.specs.Ast.{Sort, Ast}
use Rattle.syntax.specs.Ast as A
use Rattle.syntax.specs.Abstract.{ast}
use Rattle.events.specs.Event.{Event, function, parameter, thing, opens, closes, declares, uses, calls, ends, closing, events_at}
use Rattle.events.specs.Walk.{Below}
use Rattle.events.proofs.Widths.{onto-length}
use Rattle.events.proofs.Nodes.{first_below}

-- ---- of the tokens of a text

pub mark-width : (o : Tree T.cmp) → width o ≡ 1
unfolding onto
mark-width (T.cmp_mark o) = refl

-- a tree whose first token is token p names tokens from p on, as many as it has
pub numbered_below : {c : Cat} (p m : ℕ) (t : Tree c) → p + width t ≤ m → Below m (ast (numbered p t))
unfolding onto numbered ast Below
numbered_below p m (T.number i) h = omega arith
numbered_below p m (T.negative i) h = omega arith
numbered_below p m (T.name i) h = omega arith
numbered_below p m (T.call i a) h = (omega (arith, h, onto-length a []), numbered_below (p + 2) m a (omega (arith, h, onto-length a [])))
numbered_below p m (T.bracket i e) h = (omega (arith, h, onto-length e (k_close ∷ [])), numbered_below (p + 1) m e (omega (arith, h, onto-length e (k_close ∷ []))))
numbered_below p m T.no_args h = tt
numbered_below p m (T.some_args l) h = numbered_below p m l (omega (arith, h, onto-length l (k_close ∷ [])))
numbered_below p m (T.first_arg e) h = (tt, numbered_below p m e (omega (arith, h, onto-length e [])))
numbered_below p m (T.next_arg l e) h = (numbered_below p m l (omega (arith, h, onto-length l (k_comma ∷ onto e []), onto-length e [])), numbered_below (p + width l + 1) m e (omega (arith, h, onto-length l (k_comma ∷ onto e []), onto-length e [])))
numbered_below p m (T.factor o) h = numbered_below p m o (omega (arith, h, onto-length o []))
numbered_below p m (T.times u t o) h = (numbered_below p m t (omega (arith, h, onto-length t (T.mul_kind u ∷ onto o []), onto-length o [])), numbered_below (p + width t + 1) m o (omega (arith, h, onto-length t (T.mul_kind u ∷ onto o []), onto-length o [])))
numbered_below p m (T.addend t) h = numbered_below p m t (omega (arith, h, onto-length t []))
numbered_below p m (T.plus s t) h = (numbered_below p m s (omega (arith, h, onto-length s (k_plus ∷ onto t []), onto-length t [])), numbered_below (p + width s + 1) m t (omega (arith, h, onto-length s (k_plus ∷ onto t []), onto-length t [])))
numbered_below p m (T.minus s t) h = (numbered_below p m s (omega (arith, h, onto-length s (k_minus ∷ onto t []), onto-length t [])), numbered_below (p + width s + 1) m t (omega (arith, h, onto-length s (k_minus ∷ onto t []), onto-length t [])))
numbered_below p m (T.cmp_mark o) h = tt
numbered_below p m T.always h = tt
numbered_below p m T.never h = tt
numbered_below p m (T.compare a o b) h = (numbered_below p m a (omega (arith, h, onto-length a (onto o (onto b [])), onto-length o (onto b []), onto-length b [], mark-width o)), numbered_below (p + width a + 1) m b (omega (arith, h, onto-length a (onto o (onto b [])), onto-length o (onto b []), onto-length b [], mark-width o)))
numbered_below p m (T.one_atom a) h = numbered_below p m a (omega (arith, h, onto-length a []))
numbered_below p m (T.both c a) h = (numbered_below p m c (omega (arith, h, onto-length c (k_and ∷ onto a []), onto-length a [])), numbered_below (p + width c + 1) m a (omega (arith, h, onto-length c (k_and ∷ onto a []), onto-length a [])))
numbered_below p m (T.one_conj c) h = numbered_below p m c (omega (arith, h, onto-length c []))
numbered_below p m (T.either b c) h = (numbered_below p m b (omega (arith, h, onto-length b (k_or ∷ onto c []), onto-length c [])), numbered_below (p + width b + 1) m c (omega (arith, h, onto-length b (k_or ∷ onto c []), onto-length c [])))
numbered_below p m (T.empty i) h = omega arith
numbered_below p m (T.declare i) h = omega arith
numbered_below p m (T.declare_free i) h = omega arith
numbered_below p m (T.declare_own i true true) h = omega arith
numbered_below p m (T.declare_own i true false) h = omega arith
numbered_below p m (T.declare_own i false true) h = omega arith
numbered_below p m (T.declare_own i false false) h = omega arith
numbered_below p m (T.assign i e) h = (omega (arith, h, onto-length e (k_semi ∷ [])), numbered_below (p + 2) m e (omega (arith, h, onto-length e (k_semi ∷ []))))
numbered_below p m (T.eval e) h = numbered_below p m e (omega (arith, h, onto-length e (k_semi ∷ [])))
numbered_below p m (T.block i b) h = (omega (arith, h, onto-length b []), numbered_below (p + 1) m b (omega (arith, h, onto-length b [])))
numbered_below p m (T.if_else i c s t) h = (omega (arith, h, onto-length c (k_close ∷ onto s (k_else ∷ onto t [])), onto-length s (k_else ∷ onto t []), onto-length t []), (numbered_below (p + 2) m c (omega (arith, h, onto-length c (k_close ∷ onto s (k_else ∷ onto t [])), onto-length s (k_else ∷ onto t []), onto-length t [])), (numbered_below (p + 2 + width c + 1) m s (omega (arith, h, onto-length c (k_close ∷ onto s (k_else ∷ onto t [])), onto-length s (k_else ∷ onto t []), onto-length t [])), numbered_below (p + 2 + width c + 1 + width s + 1) m t (omega (arith, h, onto-length c (k_close ∷ onto s (k_else ∷ onto t [])), onto-length s (k_else ∷ onto t []), onto-length t [])))))
numbered_below p m (T.while i c s) h = (omega (arith, h, onto-length c (k_close ∷ onto s []), onto-length s []), (numbered_below (p + 2) m c (omega (arith, h, onto-length c (k_close ∷ onto s []), onto-length s [])), numbered_below (p + 2 + width c + 1) m s (omega (arith, h, onto-length c (k_close ∷ onto s []), onto-length s []))))
numbered_below p m (T.return i e) h = (omega (arith, h, onto-length e (k_semi ∷ [])), numbered_below (p + 1) m e (omega (arith, h, onto-length e (k_semi ∷ []))))
numbered_below p m (T.fail i) h = omega arith
numbered_below p m T.no_stmts h = tt
numbered_below p m (T.more_stmts l s) h = (numbered_below p m l (omega (arith, h, onto-length l (onto s []), onto-length s [])), numbered_below (p + width l) m s (omega (arith, h, onto-length l (onto s []), onto-length s [])))
numbered_below p m (T.braced l i) h = (numbered_below p m l (omega (arith, h, onto-length l (k_rbrace ∷ []))), omega (arith, h, onto-length l (k_rbrace ∷ [])))
numbered_below p m T.no_params h = tt
numbered_below p m (T.some_params l) h = numbered_below p m l (omega (arith, h, onto-length l (k_close ∷ [])))
numbered_below p m (T.first_param i) h = (tt, omega arith)
numbered_below p m (T.next_param l i) h = (numbered_below p m l (omega (arith, h, onto-length l (k_comma ∷ k_int ∷ k_name ∷ []))), omega (arith, h, onto-length l (k_comma ∷ k_int ∷ k_name ∷ [])))
numbered_below p m (T.function i q b) h = (omega (arith, h, onto-length q (k_lbrace ∷ onto b []), onto-length b []), (numbered_below (p + 3) m q (omega (arith, h, onto-length q (k_lbrace ∷ onto b []), onto-length b [])), numbered_below (p + 3 + width q + 1) m b (omega (arith, h, onto-length q (k_lbrace ∷ onto b []), onto-length b []))))
numbered_below p m T.no_funs h = tt
numbered_below p m (T.more_funs l f) h = (numbered_below p m l (omega (arith, h, onto-length l (onto f []), onto-length f [])), numbered_below (p + width l) m f (omega (arith, h, onto-length l (onto f []), onto-length f [])))

-- ---- of events

-- the token that an event names is below m
unfoldable pub Within : ℕ → Event → Type 0
Within m (function i) = i < m
Within m (parameter i) = i < m
Within m (thing d i) = i < m
Within m opens = Unit
Within m closes = Unit
Within m (declares i) = i < m
Within m (uses i) = i < m
Within m (calls i n) = i < m
Within m (ends i b) = i < m

pub data Each (m : ℕ) : List Event → Type 0 where
  none : Each m []
  more : {e : Event} {es : List Event} → Within m e → Each m es → Each m (e ∷ es)

each_append : {m : ℕ} {es fs : List Event} → Each m es → Each m fs → Each m (es ++ fs)
each_append none q = q
each_append (more h p) q = more h (each_append p q)

closing-below : (m : ℕ) (b : Ast A.body) → Below m b → closing b < m
unfolding Below
closing-below m (A.braced l j) b = b.1

pub events-within : {s : Sort} (m d : ℕ) (t : Ast s) → Below m t → Each m (events_at d t)
unfolding events_at Below Within
events-within m d (A.number i) b = none
events-within m d (A.negative i) b = none
events-within m d (A.name i) b = more b none
events-within m d (A.call i a) b = more b.0 (events-within m (suc d) a b.1)
events-within m d (A.bracket i e) b = more (first_below m e b.1) (events-within m (suc d) e b.1)
events-within m d (A.times o x y) b = each_append (events-within m d x b.0) (events-within m d y b.1)
events-within m d (A.plus x y) b = each_append (events-within m d x b.0) (events-within m d y b.1)
events-within m d (A.minus x y) b = each_append (events-within m d x b.0) (events-within m d y b.1)
events-within m d A.no_args b = none
events-within m d (A.more_args l e) b = each_append (events-within m d l b.0) (more (first_below m e b.1) (events-within m d e b.1))
events-within m d (A.cmp_mark o) b = none
events-within m d A.always b = none
events-within m d A.never b = none
events-within m d (A.compare x o y) b = each_append (events-within m d x b.0) (events-within m d y b.1)
events-within m d (A.both x y) b = each_append (events-within m d x b.0) (events-within m d y b.1)
events-within m d (A.either x y) b = each_append (events-within m d x b.0) (events-within m d y b.1)
events-within m d (A.empty i) b = more b none
events-within m d (A.declare i) b = more {e = thing d i} (omega arith) (more b none)
events-within m d (A.declare_free i) b = more {e = thing d i} (omega arith) (more b none)
events-within m d (A.declare_own i x y) b = more {e = thing d i} (omega arith) (more {e = declares (i + 1)} (omega arith) none)
events-within m d (A.assign i e) b = more b.0 (more b.0 (events-within m d e b.1))
events-within m d (A.eval e) b = more (first_below m e b) (events-within m d e b)
events-within m d (A.block i x) b = more b.0 (events-within m (suc d) x b.1)
events-within m d (A.if_else i c s t) b = each_append (each_append (each_append (more b.0 (events-within m d c b.1.0)) (more tt (events-within m (suc d) s b.1.1.0))) (more tt (more tt (events-within m (suc d) t b.1.1.1)))) (more tt none)
events-within m d (A.while i c s) b = each_append (each_append (more b.0 (events-within m d c b.1.0)) (more tt (events-within m (suc d) s b.1.1))) (more tt none)
events-within m d (A.return i e) b = more b.0 (events-within m d e b.1)
events-within m d (A.fail i) b = more b none
events-within m d A.no_stmts b = none
events-within m d (A.more_stmts x y) b = each_append (events-within m d x b.0) (events-within m d y b.1)
events-within m d (A.braced l j) b = each_append (more tt (events-within m d l b.0)) (more tt none)
events-within m d A.no_params b = none
events-within m d (A.more_params l i) b = each_append (events-within m d l b.0) (more b.1 none)
events-within m d (A.function i p x) b = each_append (each_append (more b.0 (events-within m d p b.1.0)) (events-within m d x b.1.1)) (more (closing-below m x b.1.1) none)
events-within m d A.no_funs b = none
events-within m d (A.more_funs x y) b = each_append (events-within m d x b.0) (events-within m d y b.1)
