-- The events of two trees that are alike: but for the marks of depth they stand in the same order, with names that are alike, the same counts and the same ends.
use Prim.Native.Nat.{ℕ, suc, ◌+◌}
use mathlib.Core.Path.{◌≡◌, refl, sym, ap, ap₂, ◌∙◌}
use mathlib.Core.Bool.{Bool, false, not, ◌&&◌}
use mathlib.Core.List.{List, [], ◌∷◌, ◌++◌, append_assoc}
use Rattle.syntax.specs.Ast.{Sort, Ast, expr, args, mark, params}
use Rattle.syntax.specs.Ast as A
use Rattle.events.specs.Event.{Event, function, parameter, thing, opens, closes, declares, uses, calls, ends, first, count, stops, closing, events_at}
use Rattle.text_rules.specs.Assigned.{parameter_count}
use Rattle.house_style.proofs.Like.{Like}
use Rattle.house_style.proofs.Like as L

-- ---- events without the marks of depth

unfoldable pub unmarked : List Event → List Event
unmarked [] = []
unmarked (function i ∷ es) = function i ∷ unmarked es
unmarked (parameter i ∷ es) = parameter i ∷ unmarked es
unmarked (thing d i ∷ es) = unmarked es
unmarked (opens ∷ es) = opens ∷ unmarked es
unmarked (closes ∷ es) = closes ∷ unmarked es
unmarked (declares i ∷ es) = declares i ∷ unmarked es
unmarked (uses i ∷ es) = uses i ∷ unmarked es
unmarked (calls i n ∷ es) = calls i n ∷ unmarked es
unmarked (ends i b ∷ es) = ends i b ∷ unmarked es

unmarked-append : (xs ys : List Event) → unmarked (xs ++ ys) ≡ unmarked xs ++ unmarked ys
unfolding unmarked
unmarked-append [] ys = refl
unmarked-append (function i ∷ xs) ys = ap (function i ∷◌) (unmarked-append xs ys)
unmarked-append (parameter i ∷ xs) ys = ap (parameter i ∷◌) (unmarked-append xs ys)
unmarked-append (thing d i ∷ xs) ys = unmarked-append xs ys
unmarked-append (opens ∷ xs) ys = ap (opens ∷◌) (unmarked-append xs ys)
unmarked-append (closes ∷ xs) ys = ap (closes ∷◌) (unmarked-append xs ys)
unmarked-append (declares i ∷ xs) ys = ap (declares i ∷◌) (unmarked-append xs ys)
unmarked-append (uses i ∷ xs) ys = ap (uses i ∷◌) (unmarked-append xs ys)
unmarked-append (calls i n ∷ xs) ys = ap (calls i n ∷◌) (unmarked-append xs ys)
unmarked-append (ends i b ∷ xs) ys = ap (ends i b ∷◌) (unmarked-append xs ys)

-- the events of a tree without the marks of depth, followed by es
unfoldable pub seen : {s : Sort} → Ast s → List Event → List Event
seen (A.number i) es = es
seen (A.negative i) es = es
seen (A.name i) es = uses i ∷ es
seen (A.call i a) es = calls i (count a) ∷ seen a es
seen (A.bracket i e) es = seen e es
seen (A.times o a b) es = seen a (seen b es)
seen (A.plus a b) es = seen a (seen b es)
seen (A.minus a b) es = seen a (seen b es)
seen A.no_args es = es
seen (A.more_args l e) es = seen l (seen e es)
seen (A.cmp_mark o) es = es
seen A.always es = es
seen A.never es = es
seen (A.compare a o b) es = seen a (seen b es)
seen (A.both a b) es = seen a (seen b es)
seen (A.either a b) es = seen a (seen b es)
seen (A.empty i) es = es
seen (A.declare i) es = declares (i + 1) ∷ es
seen (A.declare_free i) es = declares (i + 1) ∷ es
seen (A.declare_own i a b) es = declares (i + 1) ∷ es
seen (A.assign i e) es = uses i ∷ seen e es
seen (A.eval e) es = seen e es
seen (A.block i b) es = seen b es
seen (A.if_else i c s t) es = seen c (opens ∷ seen s (closes ∷ opens ∷ seen t (closes ∷ es)))
seen (A.while i c s) es = seen c (opens ∷ seen s (closes ∷ es))
seen (A.return i e) es = seen e es
seen (A.fail i) es = es
seen A.no_stmts es = es
seen (A.more_stmts l s) es = seen l (seen s es)
seen (A.braced l j) es = opens ∷ seen l (closes ∷ es)
seen A.no_params es = es
seen (A.more_params l i) es = seen l (parameter i ∷ es)
seen (A.function i p b) es = function i ∷ seen p (seen b (ends (closing b) (not (stops b)) ∷ es))
seen A.no_funs es = es
seen (A.more_funs p f) es = seen p (seen f es)

-- one part's events, then another's
then : (xs ys vs : List Event) {ws : List Event} (f : List Event → List Event) → ((es : List Event) → unmarked (xs ++ es) ≡ f (unmarked es)) → unmarked (ys ++ vs) ≡ ws → unmarked ((xs ++ ys) ++ vs) ≡ f ws
then xs ys vs f h e = ap unmarked (append_assoc xs ys vs) ∙ h (ys ++ vs) ∙ ap f e

pub unmarked-is : {s : Sort} (d : ℕ) (x : Ast s) (es : List Event) → unmarked (events_at d x ++ es) ≡ seen x (unmarked es)
unfolding events_at seen unmarked
unmarked-is d (A.number i) es = refl
unmarked-is d (A.negative i) es = refl
unmarked-is d (A.name i) es = refl
unmarked-is d (A.call i a) es = ap (calls i (count a) ∷◌) (unmarked-is (suc d) a es)
unmarked-is d (A.bracket i e) es = unmarked-is (suc d) e es
unmarked-is d (A.times o a b) es = then (events_at d a) (events_at d b) es (seen a) (unmarked-is d a) (unmarked-is d b es)
unmarked-is d (A.plus a b) es = then (events_at d a) (events_at d b) es (seen a) (unmarked-is d a) (unmarked-is d b es)
unmarked-is d (A.minus a b) es = then (events_at d a) (events_at d b) es (seen a) (unmarked-is d a) (unmarked-is d b es)
unmarked-is d A.no_args es = refl
unmarked-is d (A.more_args l e) es = then (events_at d l) (thing d (first e) ∷ events_at d e) es (seen l) (unmarked-is d l) (unmarked-is d e es)
unmarked-is d (A.cmp_mark o) es = refl
unmarked-is d A.always es = refl
unmarked-is d A.never es = refl
unmarked-is d (A.compare a o b) es = then (events_at d a) (events_at d b) es (seen a) (unmarked-is d a) (unmarked-is d b es)
unmarked-is d (A.both a b) es = then (events_at d a) (events_at d b) es (seen a) (unmarked-is d a) (unmarked-is d b es)
unmarked-is d (A.either a b) es = then (events_at d a) (events_at d b) es (seen a) (unmarked-is d a) (unmarked-is d b es)
unmarked-is d (A.empty i) es = refl
unmarked-is d (A.declare i) es = refl
unmarked-is d (A.declare_free i) es = refl
unmarked-is d (A.declare_own i a b) es = refl
unmarked-is d (A.assign i e) es = ap (uses i ∷◌) (unmarked-is d e es)
unmarked-is d (A.eval e) es = unmarked-is d e es
unmarked-is d (A.block i b) es = unmarked-is (suc d) b es
unmarked-is d (A.if_else i c s t) es =
    let xs = thing d i ∷ events_at d c in let ys = xs ++ opens ∷ events_at (suc d) s in let zs = ys ++ closes ∷ opens ∷ events_at (suc d) t in
    then zs (closes ∷ []) es (λ l. seen c (opens ∷ seen s (closes ∷ opens ∷ seen t l)))
    (λ l. then ys (closes ∷ opens ∷ events_at (suc d) t) l (λ l. seen c (opens ∷ seen s l)) (λ l. then xs (opens ∷ events_at (suc d) s) l (seen c) (unmarked-is d c) (ap (opens ∷◌) (unmarked-is (suc d) s l)))
    (ap (λ (l : List Event). closes ∷ opens ∷ l) (unmarked-is (suc d) t l))) refl
unmarked-is d (A.while i c s) es =
    let xs = thing d i ∷ events_at d c in
    then (xs ++ opens ∷ events_at (suc d) s) (closes ∷ []) es (λ l. seen c (opens ∷ seen s l)) (λ l. then xs (opens ∷ events_at (suc d) s) l (seen c) (unmarked-is d c) (ap (opens ∷◌) (unmarked-is (suc d) s l))) refl
unmarked-is d (A.return i e) es = unmarked-is d e es
unmarked-is d (A.fail i) es = refl
unmarked-is d A.no_stmts es = refl
unmarked-is d (A.more_stmts l s) es = then (events_at d l) (events_at d s) es (seen l) (unmarked-is d l) (unmarked-is d s es)
unmarked-is d (A.braced l j) es = then (opens ∷ events_at d l) (closes ∷ []) es (λ k. opens ∷ seen l k) (λ k. ap (opens ∷◌) (unmarked-is d l k)) refl
unmarked-is d A.no_params es = refl
unmarked-is d (A.more_params l i) es = then (events_at d l) (parameter i ∷ []) es (seen l) (unmarked-is d l) refl
unmarked-is d (A.function i p b) es =
    let xs = function i ∷ events_at d p in
    then (xs ++ events_at d b) (ends (closing b) (not (stops b)) ∷ []) es (λ l. function i ∷ seen p (seen b l)) (λ l. then xs (events_at d b) l (λ l. function i ∷ seen p l) (λ l. ap (function i ∷◌) (unmarked-is d p l)) (unmarked-is d b l)) refl
unmarked-is d A.no_funs es = refl
unmarked-is d (A.more_funs p f) es = then (events_at d p) (events_at d f) es (seen p) (unmarked-is d p) (unmarked-is d f es)

-- ---- two lists of events

-- F of two functions' names, R of two variables' names
pub data Pair (F R : ℕ → ℕ → Type 0) : Event → Event → Type 0 where
  begun : {i j : ℕ} → F i j → Pair F R (function i) (function j)
  given : {i j : ℕ} → R i j → Pair F R (parameter i) (parameter j)
  opened : Pair F R opens opens
  closed : Pair F R closes closes
  declared : {i j : ℕ} → R i j → Pair F R (declares i) (declares j)
  used : {i j : ℕ} → R i j → Pair F R (uses i) (uses j)
  called : {i j m n : ℕ} → F i j → m ≡ n → Pair F R (calls i m) (calls j n)
  ended : {i j : ℕ} {a b : Bool} → a ≡ b → Pair F R (ends i a) (ends j b)

pub data Pairs (F R : ℕ → ℕ → Type 0) : List Event → List Event → Type 0 where
  none : Pairs F R [] []
  more : {e f : Event} {es fs : List Event} → Pair F R e f → Pairs F R es fs → Pairs F R (e ∷ es) (f ∷ fs)

expr-stops : (x : Ast expr) → stops x ≡ false
unfolding stops
expr-stops (A.number i) = refl
expr-stops (A.negative i) = refl
expr-stops (A.name i) = refl
expr-stops (A.call i a) = refl
expr-stops (A.bracket i e) = refl
expr-stops (A.times o a b) = refl
expr-stops (A.plus a b) = refl
expr-stops (A.minus a b) = refl

module _ {F R : ℕ → ℕ → Type 0} where
  pub first-pair : {e f : Event} {es fs : List Event} → Pairs F R (e ∷ es) (f ∷ fs) → Pair F R e f
  first-pair (more p ps) = p

  pub other-pairs : {e f : Event} {es fs : List Event} → Pairs F R (e ∷ es) (f ∷ fs) → Pairs F R es fs
  other-pairs (more p ps) = ps

  function-pair : {i j : ℕ} → Pair F R (function i) (function j) → F i j
  function-pair (begun h) = h

  parameter-pair : {i j : ℕ} → Pair F R (parameter i) (parameter j) → R i j
  parameter-pair (given h) = h

  declares-pair : {i j : ℕ} → Pair F R (declares i) (declares j) → R i j
  declares-pair (declared h) = h

  uses-pair : {i j : ℕ} → Pair F R (uses i) (uses j) → R i j
  uses-pair (used h) = h

  calls-pair : {i j m n : ℕ} → Pair F R (calls i m) (calls j n) → F i j
  calls-pair (called h e) = h

module _ {F R G : ℕ → ℕ → Type 0} where
  pub same_count : {l m : Ast args} → Like F R G args l m → count l ≡ count m
  unfolding count
  same_count L.no_args = refl
  same_count (L.more_args l e) = ap suc (same_count l)

  pub same-parameters : {p q : Ast params} → Like F R G params p q → parameter_count p ≡ parameter_count q
  unfolding parameter_count
  same-parameters L.no_params = refl
  same-parameters (L.more_params l h) = ap suc (same-parameters l)

  pub same-stops : {s : Sort} {x y : Ast s} → Like F R G s x y → stops x ≡ stops y
  unfolding stops
  same-stops (L.number v) = refl
  same-stops (L.negative v) = refl
  same-stops (L.name e) = refl
  same-stops (L.call e a) = refl
  same-stops (L.left {y = y} a) = sym (expr-stops y)
  same-stops (L.right {x = x} a) = expr-stops x
  same-stops (L.times a b) = refl
  same-stops (L.plus a b) = refl
  same-stops (L.minus a b) = refl
  same-stops L.no_args = refl
  same-stops (L.more_args l e) = refl
  same-stops L.cmp_mark = refl
  same-stops L.always = refl
  same-stops L.never = refl
  same-stops (L.compare a o b) = refl
  same-stops (L.both a b) = refl
  same-stops (L.either a b) = refl
  same-stops L.empty = refl
  same-stops (L.declare e) = refl
  same-stops (L.declare_free e) = refl
  same-stops (L.declare_own e v w) = refl
  same-stops (L.assign e a) = refl
  same-stops (L.eval a) = refl
  same-stops (L.block b) = same-stops b
  same-stops (L.if_else c s t) = ap₂ ◌&&◌ (same-stops s) (same-stops t)
  same-stops (L.while c s) = refl
  same-stops (L.return a) = refl
  same-stops L.fail = refl
  same-stops L.no_stmts = refl
  same-stops (L.more_stmts l s) = same-stops s
  same-stops (L.braced l) = same-stops l
  same-stops L.no_params = refl
  same-stops (L.more_params l e) = refl
  same-stops (L.function e p b) = refl
  same-stops L.no_funs = refl
  same-stops (L.more_funs p f) = refl

  -- the events of trees that are alike are pairs
  pub give : {s : Sort} {x y : Ast s} {es fs : List Event} → Like F R G s x y → Pairs F R es fs → Pairs F R (seen x es) (seen y fs)
  unfolding seen
  give (L.number v) ps = ps
  give (L.negative v) ps = ps
  give (L.name e) ps = more (used e) ps
  give (L.call e a) ps = more (called e (same_count a)) (give a ps)
  give (L.left a) ps = give a ps
  give (L.right a) ps = give a ps
  give (L.times a b) ps = give a (give b ps)
  give (L.plus a b) ps = give a (give b ps)
  give (L.minus a b) ps = give a (give b ps)
  give L.no_args ps = ps
  give (L.more_args l e) ps = give l (give e ps)
  give L.cmp_mark ps = ps
  give L.always ps = ps
  give L.never ps = ps
  give (L.compare a o b) ps = give a (give b ps)
  give (L.both a b) ps = give a (give b ps)
  give (L.either a b) ps = give a (give b ps)
  give L.empty ps = ps
  give (L.declare e) ps = more (declared e) ps
  give (L.declare_free e) ps = more (declared e) ps
  give (L.declare_own e v w) ps = more (declared e) ps
  give (L.assign e a) ps = more (used e) (give a ps)
  give (L.eval a) ps = give a ps
  give (L.block b) ps = give b ps
  give (L.if_else c s t) ps = give c (more opened (give s (more closed (more opened (give t (more closed ps))))))
  give (L.while c s) ps = give c (more opened (give s (more closed ps)))
  give (L.return a) ps = give a ps
  give L.fail ps = ps
  give L.no_stmts ps = ps
  give (L.more_stmts l s) ps = give l (give s ps)
  give (L.braced l) ps = more opened (give l (more closed ps))
  give L.no_params ps = ps
  give (L.more_params l e) ps = give l (more (given e) ps)
  give (L.function e p b) ps = more (begun e) (give p (give b (more (ended (ap not (same-stops b))) ps)))
  give L.no_funs ps = ps
  give (L.more_funs p f) ps = give p (give f ps)

-- and pairs of which more is known say more of the trees
module _ {F R G P Q : ℕ → ℕ → Type 0} where
  marks : {o q : Ast mark} → Like F R G mark o q → Like P Q G mark o q
  marks L.cmp_mark = L.cmp_mark

  pub take : {s : Sort} {x y : Ast s} {es fs : List Event} → Like F R G s x y → Pairs P Q (seen x es) (seen y fs) → Like P Q G s x y × Pairs P Q es fs
  unfolding seen
  take (L.number v) ps = (L.number v, ps)
  take (L.negative v) ps = (L.negative v, ps)
  take (L.name e) ps = (L.name (uses-pair (first-pair ps)), other-pairs ps)
  take (L.call e a) ps = let x = take a (other-pairs ps) in (L.call (calls-pair (first-pair ps)) x.0, x.1)
  take (L.left a) ps = let x = take a ps in (L.left x.0, x.1)
  take (L.right a) ps = let x = take a ps in (L.right x.0, x.1)
  take (L.times a b) ps = let x = take a ps in let y = take b x.1 in (L.times x.0 y.0, y.1)
  take (L.plus a b) ps = let x = take a ps in let y = take b x.1 in (L.plus x.0 y.0, y.1)
  take (L.minus a b) ps = let x = take a ps in let y = take b x.1 in (L.minus x.0 y.0, y.1)
  take L.no_args ps = (L.no_args, ps)
  take (L.more_args l e) ps = let x = take l ps in let y = take e x.1 in (L.more_args x.0 y.0, y.1)
  take L.cmp_mark ps = (L.cmp_mark, ps)
  take L.always ps = (L.always, ps)
  take L.never ps = (L.never, ps)
  take (L.compare a o b) ps = let x = take a ps in let y = take b x.1 in (L.compare x.0 (marks o) y.0, y.1)
  take (L.both a b) ps = let x = take a ps in let y = take b x.1 in (L.both x.0 y.0, y.1)
  take (L.either a b) ps = let x = take a ps in let y = take b x.1 in (L.either x.0 y.0, y.1)
  take L.empty ps = (L.empty, ps)
  take (L.declare e) ps = (L.declare (declares-pair (first-pair ps)), other-pairs ps)
  take (L.declare_free e) ps = (L.declare_free (declares-pair (first-pair ps)), other-pairs ps)
  take (L.declare_own e v w) ps = (L.declare_own (declares-pair (first-pair ps)) v w, other-pairs ps)
  take (L.assign e a) ps = let x = take a (other-pairs ps) in (L.assign (uses-pair (first-pair ps)) x.0, x.1)
  take (L.eval a) ps = let x = take a ps in (L.eval x.0, x.1)
  take (L.block b) ps = let x = take b ps in (L.block x.0, x.1)
  take (L.if_else c s t) ps = let x = take c ps in let y = take s (other-pairs x.1) in let z = take t (other-pairs (other-pairs y.1)) in (L.if_else x.0 y.0 z.0, other-pairs z.1)
  take (L.while c s) ps = let x = take c ps in let y = take s (other-pairs x.1) in (L.while x.0 y.0, other-pairs y.1)
  take (L.return a) ps = let x = take a ps in (L.return x.0, x.1)
  take L.fail ps = (L.fail, ps)
  take L.no_stmts ps = (L.no_stmts, ps)
  take (L.more_stmts l s) ps = let x = take l ps in let y = take s x.1 in (L.more_stmts x.0 y.0, y.1)
  take (L.braced l) ps = let x = take l (other-pairs ps) in (L.braced x.0, other-pairs x.1)
  take L.no_params ps = (L.no_params, ps)
  take (L.more_params l e) ps = let x = take l ps in (L.more_params x.0 (parameter-pair (first-pair x.1)), other-pairs x.1)
  take (L.function e p b) ps = let x = take p (other-pairs ps) in let y = take b x.1 in (L.function (function-pair (first-pair ps)) x.0 y.0, other-pairs y.1)
  take L.no_funs ps = (L.no_funs, ps)
  take (L.more_funs p f) ps = let x = take p ps in let y = take f x.1 in (L.more_funs x.0 y.0, y.1)
