-- From the groups to the whole: the names of a group are those that the definition finds, and each variable is in one group.
use Prim.Native.Nat.{ℕ, ◌+◌, ◌<◌}
use mathlib.Core.Path.{◌≡◌, refl, sym, ap, ap₂, ◌∙◌, fun_ext}
use mathlib.Core.Bool.{Bool, true, false, cond, ◌&&◌, or-true}
use mathlib.Core.List.{List, [], ◌∷◌, ◌++◌}
use Rattle.std.proofs.Common.{None}
use native.Mathlib.Omega.{arith}
use lib.Dec.{eqb, ltb}
use borrow.Author.Tests.{ltb-true, ltb-false, lt-ltb, le-ltb}
use Rattle.syntax.specs.Ast.{Sort, Ast}
use Rattle.syntax.specs.Ast as A
use Rattle.events.specs.Visit.{level}
use Rattle.text_rules.specs.Scan.{lesser, least}
use Rattle.text_rules.specs.Answers.{least_with}
use Rattle.text_rules.specs.Assigned.{at_end, after, unset}
use Rattle.text_rules.proofs.Scans.{lesser-with}
use Rattle.assignment.specs.Group.{group_size, among, within, of_group}
use Rattle.assignment.proofs.Groups.{by-group, in_group, below-group, above-group}

-- ---- what is assigned stays assigned

end-set : (c : Ast A.cond) (end : Bool) → at_end c end true ≡ true
unfolding at_end
end-set A.always true = refl
end-set A.always false = refl
end-set A.never true = refl
end-set A.never false = refl
end-set (A.compare x o y) end = refl
end-set (A.both c d) true = ap (at_end d true) (end-set c true) ∙ end-set d true
end-set (A.both c d) false = ap₂ ◌&&◌ (end-set c false) (ap (at_end d false) (end-set c true) ∙ end-set d false)
end-set (A.either c d) true = ap₂ ◌&&◌ (end-set c true) (ap (at_end d true) (end-set c false) ∙ end-set d true)
end-set (A.either c d) false = ap (at_end d false) (end-set c false) ∙ end-set d false

module _ (means : ℕ → ℕ) where
  after-set : {s : Sort} (v : ℕ) (t : Ast s) → after means v t true ≡ true
  unfolding after
  after-set v (A.number i) = refl
  after-set v (A.negative i) = refl
  after-set v (A.name i) = refl
  after-set v (A.call i a) = refl
  after-set v (A.bracket i e) = refl
  after-set v (A.times o x y) = refl
  after-set v (A.plus x y) = refl
  after-set v (A.minus x y) = refl
  after-set v A.no_args = refl
  after-set v (A.more_args l e) = refl
  after-set v (A.cmp_mark o) = refl
  after-set v A.always = refl
  after-set v A.never = refl
  after-set v (A.compare x o y) = refl
  after-set v (A.both c d) = refl
  after-set v (A.either c d) = refl
  after-set v (A.empty i) = refl
  after-set v (A.declare i) = refl
  after-set v (A.declare_free i) = or-true (eqb (means (i + 1)) v)
  after-set v (A.declare_own i a b) = or-true (eqb (means (i + 1)) v)
  after-set v (A.assign i e) = or-true (eqb (means i) v)
  after-set v (A.eval e) = refl
  after-set v (A.block i l) = after-set v l
  after-set v (A.if_else i c s t) = ap₂ ◌&&◌ (ap (after means v s) (end-set c true) ∙ after-set v s) (ap (after means v t) (end-set c false) ∙ after-set v t)
  after-set v (A.while i c s) = end-set c false
  after-set v (A.return i e) = refl
  after-set v (A.fail i) = refl
  after-set v A.no_stmts = refl
  after-set v (A.more_stmts l s) = ap (after means v s) (after-set v l) ∙ after-set v s
  after-set v (A.braced l j) = after-set v l
  after-set v A.no_params = refl
  after-set v (A.more_params l i) = refl
  after-set v (A.function i p l) = refl
  after-set v A.no_funs = refl
  after-set v (A.more_funs p f) = refl

  -- ---- the names of a group

  pub of-append : (base : ℕ) (xs ys : List ℕ) → of_group means base (xs ++ ys) ≡ of_group means base xs ++ of_group means base ys
  unfolding of_group
  of-append base [] ys = refl
  of-append base (i ∷ xs) ys = go (among base (means i)) (of-append base xs ys)
    where
      go : (b : Bool) → of_group means base (xs ++ ys) ≡ of_group means base xs ++ of_group means base ys
          → cond b (i ∷ of_group means base (xs ++ ys)) (of_group means base (xs ++ ys)) ≡ cond b (i ∷ of_group means base xs) (of_group means base xs) ++ of_group means base ys
      go true e = ap (λ (l : List ℕ). i ∷ l) e
      go false e = e

  module _ (base : ℕ) where
    joined : {xs ys : List ℕ} (us vs : List ℕ) → xs ≡ of_group means base us → ys ≡ of_group means base vs → xs ++ ys ≡ of_group means base (us ++ vs)
    joined us vs e f = ap₂ ◌++◌ e f ∙ sym (of-append base us vs)

    -- what comes later starts from g, which keeps what is assigned
    later : {s : Sort} (t : Ast s) (f : ℕ → Bool) (g : ℕ → Bool → Bool) → ((v : ℕ) → g v true ≡ true)
        → unset means t (within base (λ v. g v (f v))) ≡ of_group means base (unset means t (λ v. g v (f v)))
        → unset means t (λ v. g v (within base f v)) ≡ of_group means base (unset means t (λ v. g v (f v)))
    unfolding within
    later t f g k e = ap (unset means t) (fun_ext λ v. by-group base v (λ x. g v (cond x (f v) true) ≡ cond x (g v (f v)) true) (λ lo hi. refl) (k v)) ∙ e

    one : (i : ℕ) (f : ℕ → Bool) → cond (within base f (means i)) [] (i ∷ []) ≡ of_group means base (cond (f (means i)) [] (i ∷ []))
    unfolding within of_group
    one i f = go (among base (means i)) (f (means i)) refl
      where
        go : (x y : Bool) → among base (means i) ≡ x → cond (cond x y true) [] (i ∷ []) ≡ of_group means base (cond y [] (i ∷ []))
        go true true e = refl
        go true false e = rw e
        go false true e = refl
        go false false e = rw e

    -- the walk with the variables outside the group assigned finds the names of the group
    pub group-unset : {s : Sort} (t : Ast s) → level s < 2 → (f : ℕ → Bool) → unset means t (within base f) ≡ of_group means base (unset means t f)
    unfolding unset of_group
    group-unset (A.number i) h f = refl
    group-unset (A.negative i) h f = refl
    group-unset (A.name i) h f = one i f
    group-unset (A.call i a) h f = group-unset a (omega arith) f
    group-unset (A.bracket i e) h f = group-unset e (omega arith) f
    group-unset (A.times o x y) h f = joined (unset means x f) (unset means y f) (group-unset x (omega arith) f) (group-unset y (omega arith) f)
    group-unset (A.plus x y) h f = joined (unset means x f) (unset means y f) (group-unset x (omega arith) f) (group-unset y (omega arith) f)
    group-unset (A.minus x y) h f = joined (unset means x f) (unset means y f) (group-unset x (omega arith) f) (group-unset y (omega arith) f)
    group-unset A.no_args h f = refl
    group-unset (A.more_args l e) h f = joined (unset means l f) (unset means e f) (group-unset l (omega arith) f) (group-unset e (omega arith) f)
    group-unset (A.cmp_mark o) h f = refl
    group-unset A.always h f = refl
    group-unset A.never h f = refl
    group-unset (A.compare x o y) h f = joined (unset means x f) (unset means y f) (group-unset x (omega arith) f) (group-unset y (omega arith) f)
    group-unset (A.both c d) h f = joined (unset means c f) (unset means d (λ v. at_end c true (f v))) (group-unset c (omega arith) f)
        (later d f (λ v. at_end c true) (λ v. end-set c true) (group-unset d (omega arith) (λ v. at_end c true (f v))))
    group-unset (A.either c d) h f = joined (unset means c f) (unset means d (λ v. at_end c false (f v))) (group-unset c (omega arith) f)
        (later d f (λ v. at_end c false) (λ v. end-set c false) (group-unset d (omega arith) (λ v. at_end c false (f v))))
    group-unset (A.empty i) h f = refl
    group-unset (A.declare i) h f = refl
    group-unset (A.declare_free i) h f = refl
    group-unset (A.declare_own i a b) h f = refl
    group-unset (A.assign i e) h f = group-unset e (omega arith) f
    group-unset (A.eval e) h f = group-unset e (omega arith) f
    group-unset (A.block i l) h f = group-unset l (omega arith) f
    group-unset (A.if_else i c s t) h f = joined (unset means c f ++ unset means s (λ v. at_end c true (f v))) (unset means t (λ v. at_end c false (f v)))
        (joined (unset means c f) (unset means s (λ v. at_end c true (f v))) (group-unset c (omega arith) f)
        (later s f (λ v. at_end c true) (λ v. end-set c true) (group-unset s (omega arith) (λ v. at_end c true (f v)))))
        (later t f (λ v. at_end c false) (λ v. end-set c false) (group-unset t (omega arith) (λ v. at_end c false (f v))))
    group-unset (A.while i c s) h f = joined (unset means c f) (unset means s (λ v. at_end c true (f v))) (group-unset c (omega arith) f)
        (later s f (λ v. at_end c true) (λ v. end-set c true) (group-unset s (omega arith) (λ v. at_end c true (f v))))
    group-unset (A.return i e) h f = group-unset e (omega arith) f
    group-unset (A.fail i) h f = refl
    group-unset A.no_stmts h f = refl
    group-unset (A.more_stmts l s) h f = joined (unset means l f) (unset means s (λ v. after means v l (f v))) (group-unset l (omega arith) f)
        (later s f (λ v. after means v l) (λ v. after-set v l) (group-unset s (omega arith) (λ v. after means v l (f v))))
    group-unset (A.braced l j) h f = group-unset l (omega arith) f
    group-unset A.no_params h f = refl
    group-unset (A.more_params l i) h f = refl
    group-unset (A.function i p l) h f = absurd (omega arith)
    group-unset A.no_funs h f = refl
    group-unset (A.more_funs p g) h f = absurd (omega arith)

  -- ---- every variable is in one group

  -- the tokens of a list whose variable is below m
  unfoldable pub up_to : ℕ → List ℕ → List ℕ
  up_to m [] = []
  up_to m (i ∷ is) = cond (ltb (means i) m) (i ∷ up_to m is) (up_to m is)

  up_none : (l : List ℕ) → up_to 0 l ≡ []
  unfolding up_to
  up_none [] = refl
  up_none (i ∷ l) = rw (le-ltb (means i) 0 (omega arith)) (up_none l)

  pub up-all : (m : ℕ) → ((i : ℕ) → means i < m) → (l : List ℕ) → up_to m l ≡ l
  unfolding up_to
  up-all m h [] = refl
  up-all m h (i ∷ l) = rw (lt-ltb (means i) m (h i)) (ap (λ (k : List ℕ). i ∷ k) (up-all m h l))

  -- no group yet
  pub up_start : (l : List ℕ) → None ≡ least (up_to 0 l)
  unfolding least
  up_start l = sym (ap least (up_none l))

  -- a variable is before the group, in it, or after it
  by_place : (base v : ℕ) (P : Bool → Bool → Bool → Type 0) → P true false true → P false true true → P false false false → P (ltb v base) (among base v) (ltb v (base + group_size))
  by_place base v P x y z = go (ltb v base) (ltb v (base + group_size)) refl refl
    where
      go : (a b : Bool) → ltb v base ≡ a → ltb v (base + group_size) ≡ b → P a (among base v) b
      go true true e f = rw (below-group base v (ltb-true v base e)) x
      go true false e f = absurd (omega (arith, ltb-true v base e, ltb-false v (base + group_size) f))
      go false true e f = rw (in_group base v (ltb-false v base e) (ltb-true v (base + group_size) f)) y
      go false false e f = rw (above-group base v (ltb-false v (base + group_size) f)) z

  -- one group more
  pub up_more : (base : ℕ) (l : List ℕ) → least_with (of_group means base l) (least (up_to base l)) ≡ least (up_to (base + group_size) l)
  unfolding of_group up_to least_with least
  up_more base [] = refl
  up_more base (i ∷ l) =
      let e = up_more base l in
      by_place base (means i)
      (λ a b c. least_with (cond b (i ∷ of_group means base l) (of_group means base l)) (least (cond a (i ∷ up_to base l) (up_to base l))) ≡ least
      (cond c (i ∷ up_to (base + group_size) l) (up_to (base + group_size) l)))
      (sym (lesser-with i (of_group means base l) (least (up_to base l))) ∙ ap (lesser i) e)
      (ap (lesser i) e)
      e
