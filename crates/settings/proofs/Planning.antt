-- The plan: what it rests on stays while settings are tried, and the nodes before its end are enough for the tests.
use mathlib.Core.Path.{◌≡◌, refl, sym, ap, ap₂, ◌∙◌, subst}
use mathlib.Core.Bool.{true, false}
use mathlib.Core.List.{List, [], ◌∷◌}
use mathlib.Core.Logic.{⊎_elim}
use Prim.Native.Nat.{ℕ, zero, suc, ◌≤◌, ◌<◌}
use native.Mathlib.Nat.{eq-or-lt_of_le}
use native.Mathlib.Omega.{arith}
use lib.Dec.{T}
use lib.ListN.{length}
use Rattle.semantics.specs.Search.{Test, as_test}
use Rattle.simulation.specs.Nodes.{Cell, Known, Open, unknown, meaning, test_of, Within, Noted}
use Rattle.simulation.proofs.Nodes.{meaning-grows}
use Rattle.machine.specs.Memory.{cell_read_as, node_by, node_at, nodes_in, test_at, tests_in}
use Rattle.settings.specs.Table.{Steady}
use Rattle.settings.specs.Plan.{Decides, NotFree, Off, Clear, FreeNode, FirstBehind, Apart, Rests, Front}
use Rattle.settings.specs.Tries.{tests}
use Rattle.settings.proofs.Entries.{up_to-length, nodes-is}
use Rattle.settings.proofs.Renumbered.{node-steady}

-- ---- what a node's words say

pub free-is : (r x i : ℕ) (a b : Cell) → r ≡ 0 → x ≡ i → node_by r x a b ≡ unknown i
free-is r x i a b e q = ap₂ (λ (r x : ℕ). node_by r x a b) e q

pub free-not : (r x i : ℕ) (a b : Cell) → r ≡ 0 → (x ≡ i → ⊥) → NotFree i (node_by r x a b)
free-not zero x i a b e h = h
free-not (suc n) x i a b e h = tt

pub works-not : (r x i : ℕ) (a b : Cell) → (r ≡ 0 → ⊥) → NotFree i (node_by r x a b)
works-not zero x i a b h = absurd (h refl)
works-not (suc n) x i a b h = tt

pub works-clear : (r x c : ℕ) (a b : Cell) → (r ≡ 0 → ⊥) → Off c a → Off c b → Clear c (node_by r x a b)
works-clear zero x c a b h p q = absurd (h refl)
works-clear (suc n) x c a b h p q = (p, q)

pub off-known : (o x c : ℕ) → o ≡ 0 → Off c (cell_read_as o x)
off-known zero x c e = tt
off-known (suc n) x c e = absurd (omega arith)

pub off-open : (o x c : ℕ) → (x ≡ c → ⊥) → Off c (cell_read_as o x)
off-open zero x c h = tt
off-open (suc n) x c h = h

pub within-known : (o x n : ℕ) → o ≡ 0 → Within n (cell_read_as o x)
within-known zero x n e = tt
within-known (suc o) x n e = absurd (omega arith)

pub within-open : (o x n : ℕ) → x < n → Within n (cell_read_as o x)
within-open zero x n l = tt
within-open (suc o) x n l = l

pub within_more : (v : Cell) (r n : ℕ) → r ≤ n → Within r v → Within n v
within_more (Known z) r n l w = tt
within_more (Open j) r n l w = omega arith

pub rests-more : (t : Noted) (r n : ℕ) → r ≤ n → Rests r t → Rests n t
rests-more t r n l p = record { left = within_more t.left r n l p.left; right = within_more t.right r n l p.right }

-- ---- the plan

pub apart_of : (m : List ℕ) (i n a first : ℕ) → FreeNode m i n a → FirstBehind m a n first → Apart m i a first
apart_of m i n a first p q = record {
  is = λ l. p.is (omega (arith, q.within));
  before = λ j l u. p.before j l;
  clear = q.clear;
}

pub apart-steady : (m m' : List ℕ) (i a first : ℕ) → Steady m m' → Apart m i a first → Apart m' i a first
apart-steady m m' i a first s p = record {
  is = λ l. node-steady m m' s a ∙ p.is l;
  before = λ j l u. subst (NotFree i) (sym (node-steady m m' s j)) (p.before j l u);
  clear = λ j l u. subst (Clear a) (sym (node-steady m m' s j)) (p.clear j l u);
}

-- ---- the tests, on fewer nodes

nodes-length : (m : List ℕ) (n : ℕ) → length (nodes_in m n) ≡ n
nodes-length m n = ap length (nodes-is m n) ∙ up_to-length (node_at m) n

meaning-front : (m : List ℕ) (n r : ℕ) (v : Cell) → r ≤ n → Within r v → meaning (nodes_in m r) v ≡ meaning (nodes_in m n) v
unfolding nodes_in
meaning-front m zero r v l w = ap (λ (j : ℕ). meaning (nodes_in m j) v) {x = r} {y = zero} (omega arith)
meaning-front m (suc n) r v l w = ⊎_elim
    (λ e. ap (λ (j : ℕ). meaning (nodes_in m j) v) {x = r} {y = suc n} e)
    (λ g. meaning-front m n r v (omega arith) w ∙ sym (meaning-grows (nodes_in m n) (node_at m n ∷ []) v (within_more v r (length (nodes_in m n)) (omega (arith, nodes-length m n)) w)))
    (eq-or-lt_of_le {n = r} {m = suc n} l)

rests-front : (m : List ℕ) (n r : ℕ) (t : Noted) → r ≤ n → Rests r t → test_of (nodes_in m r) t ≡ test_of (nodes_in m n) t
rests-front m n r t l p = ap₂ (as_test t.compare) (meaning-front m n r t.left l p.left) (meaning-front m n r t.right l p.right)

tests-rest : (m : List ℕ) (n r c : ℕ) → r ≤ n → ((t : ℕ) → t < c → Rests r (test_at m t)) → tests m r c ≡ tests m n c
unfolding tests_in
tests-rest m n r zero l h = refl
tests-rest m n r (suc c) l h = ap₂ (λ (x : Test) (ts : List Test). x ∷ ts) (rests-front m n r (test_at m c) l (h c (omega arith))) (tests-rest m n r c l (λ t u. h t (omega arith)))

pub front-tests : (m : List ℕ) (n c r : ℕ) → Front m n c r → tests m r c ≡ tests m n c
front-tests m n c r p = ⊎_elim
    (λ e. ap (λ (j : ℕ). tests m j c) {x = r} {y = n} e)
    (λ l. tests-rest m n r c p.within (p.rests l))
    (eq-or-lt_of_le {n = r} {m = n} p.within)

-- ---- answers

pub decides-yes : {A B : Type 0} → A → Decides true A B
decides-yes a = record { yes = λ e. a; no = λ e. absurd (subst T e tt) }

pub decides-no : {A B : Type 0} → B → Decides false A B
decides-no b = record { yes = λ e. absurd (subst T (sym e) tt); no = λ e. b }

pub never : {A : Type 0} → true ≡ false → A
never e = absurd (subst T e tt)
