-- Rule 5: what is not too deep in a text is not too deep in its house style. Only brackets go, and what stands in them comes no deeper.
use Prim.Native.Nat.{ℕ, suc, ◌+◌, ◌≤◌}
use mathlib.Core.Path.{◌≡◌, refl, ap}
use mathlib.Core.Bool.{Bool, true, false, not}
use mathlib.Core.List.{List, [], ◌∷◌, ◌++◌}
use native.Mathlib.Omega.{arith}
use borrow.Author.Tests.{ltb-false, le-ltb}
use lib.Dec.{ltb}
use lib.ListN.{length}
use Rattle.syntax.specs.Tree as T
use Rattle.syntax.specs.Tree.{Cat, Tree, width, numbered}
use Rattle.syntax.specs.Abstract.{ast}
use Rattle.events.specs.Event.{Event, function, parameter, thing, opens, closes, declares, uses, calls, ends, first, closing, stops, events_at}
use Rattle.text_rules.specs.Scan.{on, when}
use Rattle.text_rules.specs.Rules.{most_depth, deep}
use Rattle.house_style.proofs.Rules.{empty-rest}
use Rattle.house_style.proofs.Tidy.{Rank, sums, terms, operands, ast_at, from_sum, from_term, from_operand, tidy}

-- nothing among these events is deeper than m
module _ (m : ℕ) where
  unfoldable pub Low : List Event → Type 0
  Low [] = Unit {0}
  Low (function i ∷ es) = Low es
  Low (parameter i ∷ es) = Low es
  Low (thing d i ∷ es) = (d ≤ m) × Low es
  Low (opens ∷ es) = Low es
  Low (closes ∷ es) = Low es
  Low (declares i ∷ es) = Low es
  Low (uses i ∷ es) = Low es
  Low (calls i n ∷ es) = Low es
  Low (ends i b ∷ es) = Low es

  low-join : (xs ys : List Event) → Low xs → Low ys → Low (xs ++ ys)
  unfolding Low
  low-join [] ys a b = b
  low-join (function i ∷ xs) ys a b = low-join xs ys a b
  low-join (parameter i ∷ xs) ys a b = low-join xs ys a b
  low-join (thing d i ∷ xs) ys a b = (a.0, low-join xs ys a.1 b)
  low-join (opens ∷ xs) ys a b = low-join xs ys a b
  low-join (closes ∷ xs) ys a b = low-join xs ys a b
  low-join (declares i ∷ xs) ys a b = low-join xs ys a b
  low-join (uses i ∷ xs) ys a b = low-join xs ys a b
  low-join (calls i n ∷ xs) ys a b = low-join xs ys a b
  low-join (ends i c ∷ xs) ys a b = low-join xs ys a b

  pub low-left : (xs ys : List Event) → Low (xs ++ ys) → Low xs
  unfolding Low
  low-left [] ys a = tt
  low-left (function i ∷ xs) ys a = low-left xs ys a
  low-left (parameter i ∷ xs) ys a = low-left xs ys a
  low-left (thing d i ∷ xs) ys a = (a.0, low-left xs ys a.1)
  low-left (opens ∷ xs) ys a = low-left xs ys a
  low-left (closes ∷ xs) ys a = low-left xs ys a
  low-left (declares i ∷ xs) ys a = low-left xs ys a
  low-left (uses i ∷ xs) ys a = low-left xs ys a
  low-left (calls i n ∷ xs) ys a = low-left xs ys a
  low-left (ends i c ∷ xs) ys a = low-left xs ys a

  pub low-right : (xs ys : List Event) → Low (xs ++ ys) → Low ys
  unfolding Low
  low-right [] ys a = a
  low-right (function i ∷ xs) ys a = low-right xs ys a
  low-right (parameter i ∷ xs) ys a = low-right xs ys a
  low-right (thing d i ∷ xs) ys a = low-right xs ys a.1
  low-right (opens ∷ xs) ys a = low-right xs ys a
  low-right (closes ∷ xs) ys a = low-right xs ys a
  low-right (declares i ∷ xs) ys a = low-right xs ys a
  low-right (uses i ∷ xs) ys a = low-right xs ys a
  low-right (calls i n ∷ xs) ys a = low-right xs ys a
  low-right (ends i c ∷ xs) ys a = low-right xs ys a

  -- two parts, each no deeper than it was
  low-two : (xs ys us vs : List Event) → (Low xs → Low us) → (Low ys → Low vs) → Low (xs ++ ys) → Low (us ++ vs)
  low-two xs ys us vs f g a = low-join us vs (f (low-left xs ys a)) (g (low-right xs ys a))

  -- brackets that are needed make an expression one deeper
  abbrev gap : Cat → Rank → ℕ
  gap T.operand r = 0
  gap T.term sums = 0
  gap T.term terms = 0
  gap T.term operands = 1
  gap T.sum sums = 0
  gap T.sum terms = 1
  gap T.sum operands = 1
  gap T.args r = 0
  gap T.arg_list r = 0
  gap T.cmp r = 0
  gap T.atom r = 0
  gap T.conj r = 0
  gap T.cond r = 0
  gap T.stmt r = 0
  gap T.stmts r = 0
  gap T.body r = 0
  gap T.params r = 0
  gap T.param_list r = 0
  gap T.fun r = 0
  gap T.prog r = 0

  gap-few : (r : Rank) → gap T.sum r ≤ 1
  gap-few sums = omega arith
  gap-few terms = omega arith
  gap-few operands = omega arith

  gap-less : (r : Rank) → gap T.term r ≤ gap T.sum r
  gap-less sums = omega arith
  gap-less terms = omega arith
  gap-less operands = omega arith

  abbrev Kept : (c : Cat) → Tree c → Type 0
  Kept T.operand t = (r : Rank) (p d k : ℕ) → d ≤ m → k + gap T.operand r ≤ d → Low (events_at d (ast t)) → Low (events_at k (ast_at r (numbered p (tidy t r))))
  Kept T.term t = (r : Rank) (p d k : ℕ) → d ≤ m → k + gap T.term r ≤ d → Low (events_at d (ast t)) → Low (events_at k (ast_at r (numbered p (tidy t r))))
  Kept T.sum t = (r : Rank) (p d k : ℕ) → d ≤ m → k + gap T.sum r ≤ d → Low (events_at d (ast t)) → Low (events_at k (ast_at r (numbered p (tidy t r))))
  Kept T.args t = (p d k : ℕ) → k ≤ d → Low (events_at d (ast t)) → Low (events_at k (ast (numbered p (tidy t))))
  Kept T.arg_list t = (p d k : ℕ) → k ≤ d → Low (events_at d (ast t)) → Low (events_at k (ast (numbered p (tidy t))))
  Kept T.cmp t = (p d k : ℕ) → Low (events_at k (ast (numbered p (tidy t))))
  Kept T.atom t = (p d : ℕ) → d ≤ m → Low (events_at d (ast t)) → Low (events_at d (ast (numbered p (tidy t))))
  Kept T.conj t = (p d : ℕ) → d ≤ m → Low (events_at d (ast t)) → Low (events_at d (ast (numbered p (tidy t))))
  Kept T.cond t = (p d : ℕ) → d ≤ m → Low (events_at d (ast t)) → Low (events_at d (ast (numbered p (tidy t))))
  Kept T.stmt t = (p d : ℕ) → Low (events_at d (ast t)) → Low (events_at d (ast (numbered p (tidy t))))
  Kept T.stmts t = (p d : ℕ) → Low (events_at d (ast t)) → Low (events_at d (ast (numbered p (tidy t))))
  Kept T.body t = (p d : ℕ) → Low (events_at d (ast t)) → Low (events_at d (ast (numbered p (tidy t))))
  Kept T.params t = (p d : ℕ) → Low (events_at d (ast (numbered p (tidy t))))
  Kept T.param_list t = (p d : ℕ) → Low (events_at d (ast (numbered p (tidy t))))
  Kept T.fun t = (p d : ℕ) → Low (events_at d (ast t)) → Low (events_at d (ast (numbered p (tidy t))))
  Kept T.prog t = (p d : ℕ) → Low (events_at d (ast t)) → Low (events_at d (ast (numbered p (tidy t))))

  -- an operand, a product or a sum at each place
  operand-kept : (o : Tree T.operand) (r : Rank) (p k : ℕ) → Low (events_at k (ast (numbered p o))) → Low (events_at k (ast_at r (numbered p (from_operand r o))))
  unfolding ast numbered
  operand-kept o sums p k h = h
  operand-kept o terms p k h = h
  operand-kept o operands p k h = h

  sum_kept : (s : Tree T.sum) (r : Rank) (p d k : ℕ) → d ≤ m → k + gap T.sum r ≤ d → ((p k : ℕ) → k ≤ d → Low (events_at k (ast (numbered p s)))) → Low (events_at k (ast_at r (numbered p (from_sum r s))))
  unfolding ast numbered events_at Low
  sum_kept s sums p d k b h f = f p k (omega arith)
  sum_kept s terms p d k b h f = (omega arith, f (p + 1) (suc k) (omega arith))
  sum_kept s operands p d k b h f = (omega arith, f (p + 1) (suc k) (omega arith))

  term-kept : (t : Tree T.term) (r : Rank) (p d k : ℕ) → d ≤ m → k + gap T.term r ≤ d → ((p k : ℕ) → k ≤ d → Low (events_at k (ast (numbered p t)))) → Low (events_at k (ast_at r (numbered p (from_term r t))))
  unfolding ast numbered events_at Low
  term-kept t sums p d k b h f = f p k (omega arith)
  term-kept t terms p d k b h f = f p k (omega arith)
  term-kept t operands p d k b h f = (omega arith, f (p + 1) (suc k) (omega arith))

  pub kept_low : {c : Cat} (t : Tree c) → Kept c t
  unfolding ast numbered tidy events_at Low
  kept_low (T.number i) = λ r p d k b h a. operand-kept (T.number i) r p k tt
  kept_low (T.negative i) = λ r p d k b h a. operand-kept (T.negative i) r p k tt
  kept_low (T.name i) = λ r p d k b h a. operand-kept (T.name i) r p k tt
  kept_low (T.call i l) = λ r p d k b h a. operand-kept (T.call i (tidy l)) r p k (kept_low l (p + 2) (suc d) (suc k) (omega arith) a)
  kept_low (T.bracket i e) = λ r p d k b h a. kept_low e r p (suc d) k a.0 (omega (arith, gap-few r)) a.1
  kept_low T.no_args = λ p d k h a. tt
  kept_low (T.some_args l) = kept_low l
  kept_low (T.first_arg e) = λ p d k h a. (omega (arith, a.0), kept_low e sums p d k a.0 (omega arith) a.1)
  kept_low (T.next_arg l e) = λ p d k h a.
      let x = low-right (events_at d (ast l)) (thing d (first (ast e)) ∷ events_at d (ast e)) a in
      let y = ast (numbered (p + width (tidy l) + 1) (tidy e sums)) in
      low-join (events_at k (ast (numbered p (tidy l)))) (thing k (first y) ∷ events_at k y) (kept_low l p d k h (low-left (events_at d (ast l)) (thing d (first (ast e)) ∷ events_at d (ast e)) a)) (omega (arith, x.0), kept_low e sums (p + width (tidy l) + 1) d k x.0 (omega arith) x.1)
  kept_low (T.factor o) = λ r p d k b h a. kept_low o r p d k b (omega arith) a
  kept_low (T.times o x y) = λ r p d k b h a. term-kept (T.times o (tidy x terms) (tidy y operands)) r p d k b h
      (λ p k h. low-two (events_at d (ast x)) (events_at d (ast y)) (events_at k (ast (numbered p (tidy x terms)))) (events_at k (ast (numbered (p + width (tidy x terms) + 1) (tidy y operands)))) (kept_low x terms p d k b (omega arith)) (kept_low y operands (p + width (tidy x terms) + 1) d k b (omega arith)) a)
  kept_low (T.addend t) = λ r p d k b h a. kept_low t r p d k b (omega (arith, gap-less r)) a
  kept_low (T.plus x y) = λ r p d k b h a. sum_kept (T.plus (tidy x sums) (tidy y terms)) r p d k b h
      (λ p k h. low-two (events_at d (ast x)) (events_at d (ast y)) (events_at k (ast (numbered p (tidy x sums)))) (events_at k (ast (numbered (p + width (tidy x sums) + 1) (tidy y terms)))) (kept_low x sums p d k b (omega arith)) (kept_low y terms (p + width (tidy x sums) + 1) d k b (omega arith)) a)
  kept_low (T.minus x y) = λ r p d k b h a. sum_kept (T.minus (tidy x sums) (tidy y terms)) r p d k b h
      (λ p k h. low-two (events_at d (ast x)) (events_at d (ast y)) (events_at k (ast (numbered p (tidy x sums)))) (events_at k (ast (numbered (p + width (tidy x sums) + 1) (tidy y terms)))) (kept_low x sums p d k b (omega arith)) (kept_low y terms (p + width (tidy x sums) + 1) d k b (omega arith)) a)
  kept_low (T.cmp_mark o) = λ p d k. tt
  kept_low T.always = λ p d b a. tt
  kept_low T.never = λ p d b a. tt
  kept_low (T.compare x (T.cmp_mark o) y) = λ p d b a. low-two (events_at d (ast x)) (events_at d (ast y)) (events_at d (ast (numbered p (tidy x sums)))) (events_at d (ast (numbered (p + width (tidy x sums) + 1) (tidy y sums)))) (kept_low x sums p d d b (omega arith)) (kept_low y sums (p + width (tidy x sums) + 1) d d b (omega arith)) a
  kept_low (T.one_atom x) = kept_low x
  kept_low (T.both x y) = λ p d b a. low-two (events_at d (ast x)) (events_at d (ast y)) (events_at d (ast (numbered p (tidy x)))) (events_at d (ast (numbered (p + width (tidy x) + 1) (tidy y)))) (kept_low x p d b) (kept_low y (p + width (tidy x) + 1) d b) a
  kept_low (T.one_conj x) = kept_low x
  kept_low (T.either x y) = λ p d b a. low-two (events_at d (ast x)) (events_at d (ast y)) (events_at d (ast (numbered p (tidy x)))) (events_at d (ast (numbered (p + width (tidy x) + 1) (tidy y)))) (kept_low x p d b) (kept_low y (p + width (tidy x) + 1) d b) a
  kept_low (T.empty i) = λ p d a. a
  kept_low (T.declare i) = λ p d a. a
  kept_low (T.declare_free i) = λ p d a. a
  kept_low (T.declare_own i x y) = λ p d a. a
  kept_low (T.assign i e) = λ p d a. (a.0, kept_low e sums (p + 2) d d a.0 (omega arith) a.1)
  kept_low (T.eval e) = λ p d a. (a.0, kept_low e sums p d d a.0 (omega arith) a.1)
  kept_low (T.block i b) = λ p d a. (a.0, kept_low b (p + 1) (suc d) a.1)
  kept_low (T.if_else i c s t) = λ p d a.
      let xs = thing d i ∷ events_at d (ast c) in let ys = opens ∷ events_at (suc d) (ast s) in let zs = closes ∷ opens ∷ events_at (suc d) (ast t) in
      let us = thing d p ∷ events_at d (ast (numbered (p + 2) (tidy c))) in let vs = opens ∷ events_at (suc d) (ast (numbered (p + 2 + width (tidy c) + 1) (tidy s))) in
      let ws = closes ∷ opens ∷ events_at (suc d) (ast (numbered (p + 2 + width (tidy c) + 1 + width (tidy s) + 1) (tidy t))) in
      low-two ((xs ++ ys) ++ zs) (closes ∷ []) ((us ++ vs) ++ ws) (closes ∷ []) (low-two (xs ++ ys) zs (us ++ vs) ws (low-two xs ys us vs (λ a. (a.0, kept_low c (p + 2) d a.0 a.1)) (kept_low s (p + 2 + width (tidy c) + 1) (suc d))) (kept_low t (p + 2 + width (tidy c) + 1 + width (tidy s) + 1) (suc d))) (λ a. a) a
  kept_low (T.while i c s) = λ p d a.
      let xs = thing d i ∷ events_at d (ast c) in let ys = opens ∷ events_at (suc d) (ast s) in
      let us = thing d p ∷ events_at d (ast (numbered (p + 2) (tidy c))) in let vs = opens ∷ events_at (suc d) (ast (numbered (p + 2 + width (tidy c) + 1) (tidy s))) in
      low-two (xs ++ ys) (closes ∷ []) (us ++ vs) (closes ∷ []) (low-two xs ys us vs (λ a. (a.0, kept_low c (p + 2) d a.0 a.1)) (kept_low s (p + 2 + width (tidy c) + 1) (suc d))) (λ a. a) a
  kept_low (T.return i e) = λ p d a. (a.0, kept_low e sums (p + 1) d d a.0 (omega arith) a.1)
  kept_low (T.fail i) = λ p d a. a
  kept_low T.no_stmts = λ p d a. a
  kept_low (T.more_stmts l s) = λ p d a. low-two (events_at d (ast l)) (events_at d (ast s)) (events_at d (ast (numbered p (tidy l)))) (events_at d (ast (numbered (p + width (tidy l)) (tidy s)))) (kept_low l p d) (kept_low s (p + width (tidy l)) d) a
  kept_low (T.braced l i) = λ p d a. low-two (opens ∷ events_at d (ast l)) (closes ∷ []) (opens ∷ events_at d (ast (numbered p (tidy l)))) (closes ∷ []) (kept_low l p d) (λ a. a) a
  kept_low T.no_params = λ p d. tt
  kept_low (T.some_params l) = kept_low l
  kept_low (T.first_param i) = λ p d. tt
  kept_low (T.next_param l i) = λ p d. low-join (events_at d (ast (numbered p (tidy l)))) (parameter (p + width (tidy l) + 2) ∷ []) (kept_low l p d) tt
  kept_low (T.function i q b) = λ p d a.
      let xs = function i ∷ events_at d (ast q) in let ys = events_at d (ast b) in
      let us = function (p + 1) ∷ events_at d (ast (numbered (p + 3) (tidy q))) in let c = ast (numbered (p + 3 + width (tidy q) + 1) (tidy b)) in
      low-join (us ++ events_at d c) (ends (closing c) (not (stops c)) ∷ []) (low-join us (events_at d c) (kept_low q (p + 3) d) (kept_low b (p + 3 + width (tidy q) + 1) d (low-right xs ys (low-left (xs ++ ys) (ends (closing (ast b)) (not (stops (ast b))) ∷ []) a)))) tt
  kept_low T.no_funs = λ p d a. a
  kept_low (T.more_funs l f) = λ p d a. low-two (events_at d (ast l)) (events_at d (ast f)) (events_at d (ast (numbered p (tidy l)))) (events_at d (ast (numbered (p + width (tidy l)) (tidy f)))) (kept_low l p d) (kept_low f (p + width (tidy l)) d) a

-- ---- rule 5 says just that

when-none : (b : Bool) (i : ℕ) (l : List ℕ) → when b i ++ l ≡ [] → b ≡ false
when-none true i l e = let z : suc (length l) ≡ 0 = ap length e in absurd (omega arith)
when-none false i l e = refl

pub to_low : (es : List Event) → on deep es ≡ [] → Low most_depth es
unfolding on deep Low
to_low [] e = tt
to_low (function i ∷ es) e = to_low es e
to_low (parameter i ∷ es) e = to_low es e
to_low (thing d i ∷ es) e = (ltb-false most_depth d (when-none (ltb most_depth d) i (on deep es) e), to_low es (empty-rest (deep (thing d i)) (on deep es) e))
to_low (opens ∷ es) e = to_low es e
to_low (closes ∷ es) e = to_low es e
to_low (declares i ∷ es) e = to_low es e
to_low (uses i ∷ es) e = to_low es e
to_low (calls i n ∷ es) e = to_low es e
to_low (ends i b ∷ es) e = to_low es e

pub from_low : (es : List Event) → Low most_depth es → on deep es ≡ []
unfolding on deep Low
from_low [] a = refl
from_low (function i ∷ es) a = from_low es a
from_low (parameter i ∷ es) a = from_low es a
from_low (thing d i ∷ es) a = rw (le-ltb most_depth d a.0) (from_low es a.1)
from_low (opens ∷ es) a = from_low es a
from_low (closes ∷ es) a = from_low es a
from_low (declares i ∷ es) a = from_low es a
from_low (uses i ∷ es) a = from_low es a
from_low (calls i n ∷ es) a = from_low es a
from_low (ends i b ∷ es) a = from_low es a
