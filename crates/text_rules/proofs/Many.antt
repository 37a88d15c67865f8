-- How many declarations stand in a part, by the tree: rule 10 counts as many in its events.
use Prim.Native.Nat.{ℕ, suc, ◌+◌}
use mathlib.Core.Path.{◌≡◌, refl, ap, ◌∙◌}
use mathlib.Core.List.{List, [], ◌∷◌, ◌++◌}
use native.Mathlib.Omega.{arith}
use Rattle.syntax.specs.Ast.{Sort, Ast, stmt, stmts, body}
use Rattle.syntax.specs.Ast as A
use Rattle.events.specs.Event.{Event, thing, opens, closes, events_at}
use Rattle.text_rules.specs.Rules.{Tally, tally, counted}
use Rattle.text_rules.specs.Names.{tallied, many}

unfoldable pub stands : {s : Sort} → Ast s → ℕ
stands (A.declare i) = 1
stands (A.declare_free i) = 1
stands (A.declare_own i x y) = 1
stands (A.empty i) = 0
stands (A.assign i e) = 0
stands (A.eval e) = 0
stands (A.block i b) = stands b
stands (A.if_else i c s t) = stands s + stands t
stands (A.while i c s) = stands s
stands (A.return i e) = 0
stands (A.fail i) = 0
stands A.no_stmts = 0
stands (A.more_stmts l s) = stands l + stands s
stands (A.braced l j) = stands l
stands (A.number i) = 0
stands (A.negative i) = 0
stands (A.name i) = 0
stands (A.call i a) = 0
stands (A.bracket i e) = 0
stands (A.times o x y) = 0
stands (A.plus x y) = 0
stands (A.minus x y) = 0
stands A.no_args = 0
stands (A.more_args l e) = 0
stands (A.cmp_mark o) = 0
stands A.always = 0
stands A.never = 0
stands (A.compare x o y) = 0
stands (A.both c d) = 0
stands (A.either c d) = 0
stands A.no_params = 0
stands (A.more_params l i) = 0
stands (A.function i p b) = 0
stands A.no_funs = 0
stands (A.more_funs p f) = 0

-- ---- by events

abbrev plus : Tally → ℕ → Tally
plus c m = tally c.functions c.parameters (c.declarations + m)

with-declarations : (c : Tally) {n m : ℕ} → n ≡ m → tally c.functions c.parameters n ≡ tally c.functions c.parameters m
with-declarations c e = ap (λ (k : ℕ). tally c.functions c.parameters k) e

none : (c : Tally) → c ≡ plus c 0
none c = with-declarations c {n = c.declarations} (omega arith)

both : (c : Tally) (m n : ℕ) → plus (plus c m) n ≡ plus c (m + n)
both c m n = with-declarations c {n = c.declarations + m + n} (omega arith)

then : (c : Tally) (xs ys : List Event) → tallied c (xs ++ ys) ≡ tallied (tallied c xs) ys
unfolding tallied
then c [] ys = refl
then c (x ∷ xs) ys = then (counted c x) xs ys

-- from where some events lead
to : (c : Tally) {m : Tally} (xs ys : List Event) → tallied c xs ≡ m → tallied c (xs ++ ys) ≡ tallied m ys
to c xs ys e = then c xs ys ∙ ap (λ (r : Tally). tallied r ys) e

abbrev Counts : (k : Sort) → ℕ → Ast k → Tally → Type 0
Counts A.expr d t c = tallied c (events_at d t) ≡ c
Counts A.args d t c = tallied c (events_at d t) ≡ c
Counts A.mark d t c = Unit {0}
Counts A.cond d t c = tallied c (events_at d t) ≡ c
Counts A.stmt d t c = tallied c (events_at d t) ≡ plus c (stands t)
Counts A.stmts d t c = tallied c (events_at d t) ≡ plus c (stands t)
Counts A.body d t c = tallied c (events_at d t) ≡ plus c (stands t)
Counts A.params d t c = Unit {0}
Counts A.fun d t c = Unit {0}
Counts A.prog d t c = Unit {0}

counts : {k : Sort} (d : ℕ) (t : Ast k) (c : Tally) → Counts k d t c
unfolding events_at tallied counted stands
counts d (A.number i) c = refl
counts d (A.negative i) c = refl
counts d (A.name i) c = refl
counts d (A.call i a) c = counts (suc d) a c
counts d (A.bracket i e) c = counts (suc d) e c
counts d (A.times o x y) c = to c (events_at d x) (events_at d y) (counts d x c) ∙ counts d y c
counts d (A.plus x y) c = to c (events_at d x) (events_at d y) (counts d x c) ∙ counts d y c
counts d (A.minus x y) c = to c (events_at d x) (events_at d y) (counts d x c) ∙ counts d y c
counts d A.no_args c = refl
counts d (A.more_args l e) c = to c (events_at d l) _ (counts d l c) ∙ counts d e c
counts d (A.cmp_mark o) c = tt
counts d A.always c = refl
counts d A.never c = refl
counts d (A.compare x o y) c = to c (events_at d x) (events_at d y) (counts d x c) ∙ counts d y c
counts d (A.both x y) c = to c (events_at d x) (events_at d y) (counts d x c) ∙ counts d y c
counts d (A.either x y) c = to c (events_at d x) (events_at d y) (counts d x c) ∙ counts d y c
counts d (A.empty i) c = none c
counts d (A.declare i) c = with-declarations c (omega arith)
counts d (A.declare_free i) c = with-declarations c (omega arith)
counts d (A.declare_own i x y) c = with-declarations c (omega arith)
counts d (A.assign i e) c = counts d e c ∙ none c
counts d (A.eval e) c = counts d e c ∙ none c
counts d (A.block i l) c = counts (suc d) l c
counts d (A.if_else i x s t) c =
    let xs = thing d i ∷ events_at d x in
    let ys = opens ∷ events_at (suc d) s in
    let zs = closes ∷ opens ∷ events_at (suc d) t in
    to c (xs ++ ys ++ zs) (closes ∷ [])
    (to c (xs ++ ys) zs
    (to c xs ys (counts d x c) ∙ counts (suc d) s c)
    ∙ counts (suc d) t (plus c (stands s)))
    ∙ both c (stands s) (stands t)
counts d (A.while i x s) c =
    let xs = thing d i ∷ events_at d x in
    let ys = opens ∷ events_at (suc d) s in
    to c (xs ++ ys) (closes ∷ []) (to c xs ys (counts d x c) ∙ counts (suc d) s c)
counts d (A.return i e) c = counts d e c ∙ none c
counts d (A.fail i) c = none c
counts d A.no_stmts c = none c
counts d (A.more_stmts l s) c = to c (events_at d l) (events_at d s) (counts d l c) ∙ counts d s (plus c (stands l)) ∙ both c (stands l) (stands s)
counts d (A.braced l j) c = to c (opens ∷ events_at d l) (closes ∷ []) (counts d l c)
counts d A.no_params c = tt
counts d (A.more_params l i) c = tt
counts d (A.function i p l) c = tt
counts d A.no_funs c = tt
counts d (A.more_funs p f) c = tt

-- ---- statements

from-none : {c : Tally} {m : ℕ} → c ≡ plus (tally 0 0 0) m → c.declarations ≡ m
from-none {m = m} e = ap (λ (r : Tally). r.declarations) e ∙ omega arith

pub many-one : (s : Ast stmt) → many s ≡ stands s
unfolding many
many-one s = from-none (counts 1 s (tally 0 0 0))

pub many-all : (l : Ast stmts) → many l ≡ stands l
unfolding many
many-all l = from-none (counts 1 l (tally 0 0 0))
