-- The plan list is what the demand says, and no other list is: each choice whose run returns has its row once and nothing else is there; of two rows, the earlier one's tests say true at the first difference, or are equal and its values are smaller at theirs.
use Prim.Native.Nat.{ℕ, suc}
use mathlib.Core.Path.{◌≡◌, refl, sym, ap, ◌∙◌, subst}
use mathlib.Core.Bool.{Bool, true, false, not}
use mathlib.Core.Option.{Option, some}
use mathlib.Core.Logic.{inl, inr, ◌↔◌}
use mathlib.Core.List.Memᴰ.{head as here}
use mathlib.Core.List.Memᴰ.{not-nil as nowhere}
use mathlib.Core.List.Memᴰ.{tail as there}
use mathlib.Core.List.{List, [], ◌∷◌, ◌++◌, map}
use native.Mathlib.Omega.{arith}
use lib.ListN.{length}
use lib.IntN.{ℤ}
use lib.Dec.{T, eqb→eq}
use lib.Signed.{lt_z}
use Rattle.semantics.specs.Does.{Does, returned, failed, cut, stuck, step, free, test}
use Rattle.semantics.specs.Program.{Window}
use Rattle.semantics.specs.Run.{Ending, returns, fails, cuts, Ran, run, pair_of, Choice, Row, Job, meaning}
use Rattle.semantics.specs.Plans.{noted, sorted, rows_with, rows_of, choices, plans, some_cut}
use Rattle.semantics.specs.Search.{Value, unknown, all32, openly}
use Rattle.semantics.specs.Demand.{◌∈◌, Belongs, Sooner, Lower, Before, RowOf, Earlier, PlanList, SomeCut}
use Rattle.semantics.proofs.Order.{up, down, lt_z→, →ltZ}
use Rattle.semantics.proofs.Sound.{passes}
use Rattle.semantics.proofs.Keep.{All, anil, acons, all_of, all-mapped, keep, keep-if, Ordered, onil, ocons, ordered-keep, ordered-append, ordered-map}
use Rattle.semantics.proofs.Ends.{leaf, started, sized, opens, ends, Less, shorter, lower, alike, Rising}
use Rattle.semantics.proofs.Settings.{rising-lists}
use Rattle.semantics.proofs.Members.{all-member, member-all, member-split, split-member, choices-has, choices-only, sorted-has, sorted-only, rows-has, rows-only, cut_has, cut-only}
use Rattle.semantics.proofs.Complete.{Small, sorted-choices}
use Rattle.semantics.proofs.Walked.{rising-choices}

-- ---- the choices of a job

belongs-only : (j : Job) (c : Choice) → c ∈ choices j → Belongs j c
unfolding choices
belongs-only j c m = let g = choices-only j.window (meaning j) c m in record { inside = g.inside; runs = g.runs }

belongs-has : (j : Job) (c : Choice) → Belongs j c → c ∈ choices j
unfolding choices
belongs-has j c b = choices-has j.window (meaning j) c (record { inside = b.inside; runs = b.runs })

-- the choices of a job are exactly those that belong to it
pub belongs : (j : Job) (c : Choice) → (c ∈ choices j) ↔ Belongs j c
belongs j c = (belongs-only j c, belongs-has j c)

-- the plan list says rightly whether some choice is cut
pub some-cut : (j : Job) → T (some_cut (choices j)) ↔ SomeCut j
some-cut j = (
  λ t. let p = cut-only (choices j) t in record { choice = p.0; belongs = belongs-only j p.0 p.1.0; cut = p.1.1 },
  λ s. cut_has (choices j) s.choice (belongs-has j s.choice s.belongs) s.cut,
)

-- ---- the leaves of the tree stand in the order

less-lower : {s u : List ℤ} → Less s u → length s ≡ length u → Lower s u
less-lower shorter e = absurd (omega arith)
less-lower (lower {v} {w} {s} {u} h) e = record { common = []; left = s; right = u; v = v; w = w; one = refl; other = refl; less = →ltZ v w h }
less-lower (alike {v} h) e =
    let p = less-lower h (omega arith) in
    record { common = v ∷ p.common; left = p.left; right = p.right; v = p.v; w = p.w; one = ap (λ l. v ∷ l) p.one; other = ap (λ l. v ∷ l) p.other; less = p.less }

before-noted : (o : Bool) (a b : Choice) → Before a b → Before (noted o a) (noted o b)
before-noted o a b (inl s) = inl (record { common = o ∷ s.common; left = s.left; right = s.right; one = ap (λ l. o ∷ l) s.one; other = ap (λ l. o ∷ l) s.other })
before-noted o a b (inr p) = inr (ap (λ l. o ∷ l) p.0, p.1)

noted-before : (o : Bool) {cs : List Choice} → Ordered Before cs → Ordered Before (map (noted o) cs)
noted-before o {cs} r = ordered-map {P = λ c. Unit {0}} (noted o) (λ a b p q h. before-noted o a b h) (all_of (λ c. tt) cs) r

true-first : (a b : Choice) → Before (noted true a) (noted false b)
true-first a b = inl (record { common = []; left = a.ran.tests; right = b.ran.tests; one = refl; other = refl })

leaves-before : (e : List ℤ → Ending) (n : ℕ) {ss : List (List ℤ)} → Rising ss → Ordered Before (map (leaf e) (keep (sized n) ss))
leaves-before e n {ss} r =
    ordered-map (leaf e) (λ s u p q h. inr (refl, less-lower h (omega (arith, eqb→eq (length s) n p, eqb→eq (length u) n q))))
    (keep-if {P = λ s. T (sized n s)} (sized n) (all_of (λ s t. t) ss)) (ordered-keep (sized n) r)

started-before : (o : Option Window) {cs : List Choice} → Ordered Before cs → Ordered Before (map (started o) cs)
started-before o {cs} r = ordered-map {P = λ c. Unit {0}} (started o) (λ a b p q h. before-started a b h) (all_of (λ c. tt) cs) r
  where
    before-started : (a b : Choice) → Before a b → Before (started o a) (started o b)
    before-started a b (inl h) = inl h
    before-started a b (inr h) = inr h

ends-before : (job : Window) (n : ℕ) (t : Does Value) {ss : List (List ℤ)} → Rising ss → Ordered Before (ends job n t ss)
unfolding ends
ends-before job n (returned v) r = leaves-before _ n r
ends-before job n failed r = leaves-before _ n r
ends-before job n cut r = leaves-before _ n r
ends-before job n stuck r = onil
ends-before job n (step t) r = ends-before job n t r
ends-before job n (free o k) r = started-before o (ends-before job (suc n) (k (unknown n)) (ordered-keep (opens (pair_of job o) n) r))
ends-before job n (test c a b k) {ss} r =
    let l = ends job n (k true) (keep (passes c a b) ss) in
    let m = ends job n (k false) (keep (λ s. not (passes c a b s)) ss) in
    ordered-append (noted-before true (ends-before job n (k true) (ordered-keep (passes c a b) r))) (noted-before false (ends-before job n (k false) (ordered-keep (λ s. not (passes c a b s)) r)))
    (all-mapped (noted true) (all_of (λ x. all-mapped (noted false) (all_of (λ y. true-first x y) m)) l))

sorted_before : (j : Job) → Small j → Ordered Before (sorted (choices j))
sorted_before j h = rw (sorted-choices j h) (ends-before j.window 0 (openly j) (rising-lists all32 8))

-- ---- and so do the rows

row_before : (j : Job) (c : Choice) (r : Row) → RowOf j c r → {cs : List Choice} → All (Belongs j) cs → All (Before c) cs → All (Earlier j r) (rows_of cs)
unfolding rows_of
row_before j c r p anil anil = anil
row_before j c r p (acons {x = d} {xs = cs} b bs) (acons h hs) = go d.ran.ending refl (row_before j c r p bs hs)
  where
    go : (e : Ending) → d.ran.ending ≡ e → All (Earlier j r) (rows_of cs) → All (Earlier j r) (rows_with e d.values (rows_of cs))
    go (returns z) e k = acons (record { first = c; second = d; row₁ = p; row₂ = record { belongs = b; values = refl; returned = e }; before = h }) k
    go fails e k = k
    go cuts e k = k

rows_before : (j : Job) {cs : List Choice} → All (Belongs j) cs → Ordered Before cs → Ordered (Earlier j) (rows_of cs)
unfolding rows_of
rows_before j anil onil = onil
rows_before j (acons {x = d} {xs = cs} b bs) (ocons h r) = go d.ran.ending refl (rows_before j bs r)
  where
    go : (e : Ending) → d.ran.ending ≡ e → Ordered (Earlier j) (rows_of cs) → Ordered (Earlier j) (rows_with e d.values (rows_of cs))
    go (returns z) e k = ocons (row_before j d (record { result = z; values = d.values }) (record { belongs = b; values = refl; returned = e }) bs h) k
    go fails e k = k
    go cuts e k = k

plans-before : (j : Job) → Small j → Ordered (Earlier j) (plans j)
unfolding plans
plans-before j h = rows_before j (member-all (sorted (choices j)) (λ c m. belongs-only j c (sorted-only c (choices j) m))) (sorted_before j h)

-- ---- two rows never stand each before the other

zero_one : ◌≡◌ {A = ℕ} 0 1 → ⊥
zero_one z = omega arith

sooner-apart : (p q a b c d : List Bool) → p ++ true ∷ a ≡ q ++ false ∷ d → p ++ false ∷ b ≡ q ++ true ∷ c → ⊥
sooner-apart [] [] a b c d e f = zero_one (cc)
sooner-apart [] (y ∷ q) a b c d e f = let g : true ≡ false = cc in zero_one (cc)
sooner-apart (x ∷ p) [] a b c d e f = let g : true ≡ false = cc in zero_one (cc)
sooner-apart (x ∷ p) (y ∷ q) a b c d e f = sooner-apart p q a b c d (cc) (cc)

sooner-asym : (s t : List Bool) → Sooner s t → Sooner t s → ⊥
sooner-asym s t h k = sooner-apart h.common k.common h.left h.right k.left k.right (sym h.one ∙ k.other) (sym h.other ∙ k.one)

lower-apart : (p q a b c d : List ℤ) (v w x y : ℤ) → T (lt_z v w) → T (lt_z x y) → p ++ v ∷ a ≡ q ++ y ∷ d → p ++ w ∷ b ≡ q ++ x ∷ c → ⊥
lower-apart [] [] a b c d v w x y h k e f = let g : v ≡ y = cc in let i : w ≡ x = cc in omega (arith, lt_z→ v w h, lt_z→ x y k, ap up g, ap down g, ap up i, ap down i)
lower-apart [] (z ∷ q) a b c d v w x y h k e f = let g : v ≡ w = cc in omega (arith, lt_z→ v w h, ap up g, ap down g)
lower-apart (z ∷ p) [] a b c d v w x y h k e f = let g : x ≡ y = cc in omega (arith, lt_z→ x y k, ap up g, ap down g)
lower-apart (z ∷ p) (u ∷ q) a b c d v w x y h k e f = lower-apart p q a b c d v w x y h k (cc) (cc)

lower-asym : (s t : List ℤ) → Lower s t → Lower t s → ⊥
lower-asym s t h k = lower-apart h.common k.common h.left h.right k.left k.right h.v h.w k.v k.w h.less k.less (sym h.one ∙ k.other) (sym h.other ∙ k.one)

before-asym : (a b : Choice) → Before a b → Before b a → ⊥
before-asym a b (inl h) (inl k) = sooner-asym a.ran.tests b.ran.tests h k
before-asym a b (inl h) (inr k) = let g = subst (Sooner a.ran.tests) k.0 h in sooner-asym a.ran.tests a.ran.tests g g
before-asym a b (inr h) (inl k) = let g = subst (Sooner b.ran.tests) h.0 k in sooner-asym b.ran.tests b.ran.tests g g
before-asym a b (inr h) (inr k) = lower-asym a.values b.values h.1 k.1

-- a row has one choice behind it
one_choice : (j : Job) (a b : Choice) (r : Row) → RowOf j a r → RowOf j b r → a ≡ b
one_choice j a b r p q = λ i. record { ran = ran i; values = same i }
  where
    same : a.values ≡ b.values
    same = p.values ∙ sym q.values

    ran : a.ran ≡ b.ran
    ran = some-path (sym p.belongs.runs ∙ ap (run (meaning j)) same ∙ q.belongs.runs)
      where
        some-path : {x y : Ran} → ◌≡◌ {A = Option Ran} (some x) (some y) → x ≡ y
        some-path e = cc

earlier-asym : (j : Job) (r q : Row) → Earlier j r q → Earlier j q r → ⊥
earlier-asym j r q h k =
    before-asym h.first h.second h.before
    (subst (λ c. Before c h.first) (one_choice j k.first h.second q k.row₁ h.row₂) (subst (λ c. Before k.first c) (one_choice j k.second h.first r k.row₂ h.row₁) k.before))

-- ---- lists in an order of which no two elements stand each before the other

module _ {A : Type 0} {R : A → A → Type 0} where
  -- of two elements, the earlier stands in R to the later
  ordered-split : {l : List A} → Ordered R l → (x y z : List A) (a b : A) → l ≡ x ++ a ∷ (y ++ b ∷ z) → R a b
  ordered-split onil x y z a b e = absurd (empty x e)
    where
      empty : (x : List A) → [] ≡ x ++ a ∷ (y ++ b ∷ z) → ⊥
      empty [] e = let g : ◌≡◌ {A = ℕ} 0 1 = cc in zero_one g
      empty (c ∷ x) e = let g : ◌≡◌ {A = ℕ} 0 1 = cc in zero_one g
  ordered-split (ocons {x = c} {xs = l} h r) [] y z a b e =
      let g : c ≡ a = cc in
      let f : l ≡ y ++ b ∷ z = cc in
      subst (λ c. R c b) g (all-member h b (subst (λ l. b ∈ l) (sym f) (split-member b y z)))
  ordered-split (ocons {x = c} {xs = l} h r) (d ∷ x) y z a b e = ordered-split r x y z a b (cc)

  split-ordered : (l : List A) → ((x y z : List A) (a b : A) → l ≡ x ++ a ∷ (y ++ b ∷ z) → R a b) → Ordered R l
  split-ordered [] f = onil
  split-ordered (a ∷ l) f = ocons (member-all l (λ b m. let p = member-split b l m in f [] p.front p.rest a b (ap (λ l. a ∷ l) p.split))) (split-ordered l (λ x y z b c e. f (a ∷ x) y z b c (ap (λ l. a ∷ l) e)))

  module _ (asym : (a b : A) → R a b → R b a → ⊥) where
    -- the first of two such lists is the same
    first-same : (a b : A) (l m : List A) → All (R a) l → All (R b) m → a ∈ b ∷ m → b ∈ a ∷ l → a ≡ b
    first-same a b l m h k (here e) n = e
    first-same a b l m h k (there p) (here e) = sym e
    first-same a b l m h k (there p) (there q) = absurd (asym b a (all-member k a p) (all-member h b q))

    -- and the rest has the same elements
    rest-same : (a b : A) (l m : List A) → a ≡ b → All (R a) l → (c : A) → c ∈ l → c ∈ b ∷ m → c ∈ m
    rest-same a b l m e h c p (here f) = let g = subst (R a) (f ∙ sym e) (all-member h c p) in absurd (asym a a g g)
    rest-same a b l m e h c p (there q) = q

    same-list : {l m : List A} → Ordered R l → Ordered R m → ((a : A) → a ∈ l → a ∈ m) → ((a : A) → a ∈ m → a ∈ l) → l ≡ m
    same-list onil onil f g = refl
    same-list onil (ocons {x = b} h r) f g = absurd (nowhere (g b (here refl)))
    same-list (ocons {x = a} h r) onil f g = absurd (nowhere (f a (here refl)))
    same-list (ocons {x = a} {xs = l} h r) (ocons {x = b} {xs = m} k s) f g =
        let e = first-same a b l m h k (f a (here refl)) (g b (here refl)) in
        ap₂' e (same-list r s (λ c p. rest-same a b l m e h c p (f c (there p))) (λ c p. rest-same b a m l (sym e) k c p (g c (there p))))
      where
        ap₂' : a ≡ b → l ≡ m → a ∷ l ≡ b ∷ m
        ap₂' p q = λ i. p i ∷ q i

-- ---- the theorem

less-apart : {s u : List ℤ} → Less s u → s ≡ u → ⊥
less-apart shorter e = zero_one (cc)
less-apart (lower {v} {w} h) e = let g : v ≡ w = cc in omega (arith, h, ap up g, ap down g)
less-apart (alike h) e = less-apart h (cc)

pub choices-once : (j : Job) (x y z : List Choice) (c : Choice) → choices j ≡ x ++ c ∷ (y ++ c ∷ z) → ⊥
unfolding choices
choices-once j x y z c e = less-apart (ordered-split (rising-choices j.window (meaning j)) x y z c c e) refl

-- the choice behind a row
pub row-choice : (j : Job) (r : Row) → r ∈ plans j → (c : Choice) × RowOf j c r
unfolding plans
row-choice j r m =
    let b = rows-only (sorted (choices j)) r m in
    (b.choice, record { belongs = belongs-only j b.choice (sorted-only b.choice (choices j) b.member); values = b.same; returned = b.result })

pub plan-list : (j : Job) → Small j → PlanList j (plans j)
unfolding plans
plan-list j s = record {
  all = λ c r p. rows-has (sorted (choices j)) c r (sorted-has c (choices j) (belongs-has j c p.belongs)) p.values p.returned;
  only = row-choice j;
  once = λ x y z r e. let h = ordered-split (plans-before j s) x y z r r e in earlier-asym j r r h h;
  order = λ x y z r q e. ordered-split (plans-before j s) x y z r q e;
}

pub plan-list-unique : (j : Job) → Small j → (rows : List Row) → PlanList j rows → rows ≡ plans j
plan-list-unique j s rows p =
    same-list (earlier-asym j) (split-ordered rows p.order) (plans-before j s)
    (λ r m. let b = p.only r m in (plan-list j s).all b.0 r b.1)
    (λ r m. let b = (plan-list j s).only r m in p.all b.0 r b.1)
