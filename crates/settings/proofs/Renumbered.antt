-- What a setting tried reads of the memory: tests, results and the setting itself.
use mathlib.Core.Path.{◌≡◌, refl, sym, ap, ap₂, ◌∙◌}
use mathlib.Core.List.{List, ◌∷◌, map}
use Prim.Native.Nat.{ℕ, zero, suc, ◌≤◌, ◌<◌}
use native.Mathlib.Omega.{arith}
use lib.ListN.{length, get_or}
use lib.IntN.{ℤ}
use Rattle.semantics.specs.Search as search
use Rattle.semantics.specs.Search.{under}
use Rattle.simulation.specs.Nodes.{Cell, Node, Noted, meaning, test_of, number_in, meets_in}
use Rattle.simulation.proofs.Nodes.{number_ok, meets-ok}
use Rattle.machine.specs.Layout.{window_low, window_high, setting_place, value_place, number_place, test_place, test_left, test_right, test_end}
use Rattle.machine.specs.Memory.{node_at, nodes_in, setting_in, numbers_in, tests_in, windows_in, test_at}
use Rattle.machine.specs.Terms.{Other}
use Rattle.settings.specs.Table.{window_at, Wrote, Worked, Renumbered, Steady, Holding}
use Rattle.settings.specs.Tries.{tests}
use Rattle.settings.proofs.Pass.{setting_same, node-same, nodes-same, worked-is}
use Rattle.settings.proofs.Turns.{tab-same, windows-tab}

-- the words of a test stay
abbrev Tests : List ℕ → List ℕ → Type 0
Tests m m' = (i j : ℕ) → test_place j ≤ i → i < test_end j → get_or m' i 0 ≡ get_or m i 0

test-same : (m m' : List ℕ) → Tests m m' → (j : ℕ) → test_at m' j ≡ test_at m j
test-same m m' h j = rw (h (test_place j) j (omega arith) (omega arith), h (test_left j) j (omega arith) (omega arith), h (test_right j) j (omega arith) (omega arith))

tests_same : (m m' : List ℕ) → Tests m m' → (t : ℕ) → tests_in m' t ≡ tests_in m t
unfolding tests_in
tests_same m m' h zero = refl
tests_same m m' h (suc t) = ap₂ (λ (x : Noted) (l : List Noted). x ∷ l) (test-same m m' h t) (tests_same m m' h t)

pub renumbered-none : (m : List ℕ) → Renumbered m m
renumbered-none m = record { other = λ i h. refl }

pub setting-stays : (m m' : List ℕ) (k : ℕ) → k ≤ 8 → Renumbered m m' → setting_in m' k ≡ setting_in m k
setting-stays m m' k h p = setting_same m m' k (λ i l. p.other (value_place i) (λ j e. omega arith))

pub nodes-renumbered : (m m' : List ℕ) → Renumbered m m' → (n : ℕ) → nodes_in m' n ≡ nodes_in m n
nodes-renumbered m m' p n = nodes-same m m' (λ i j l u. p.other i (λ q e. omega arith)) n

pub renumbered-more : (m m₁ m₂ : List ℕ) → Renumbered m m₁ → Renumbered m₁ m₂ → Renumbered m m₂
renumbered-more m m₁ m₂ a b = record { other = λ i h. b.other i h ∙ a.other i h }

pub renumbered-one : (m m' : List ℕ) (j : ℕ) {z : ℤ} → Wrote m m' (number_place j) z → Renumbered m m'
renumbered-one m m' j w = record { other = λ i h. w.other.outside i (λ a b. h j (omega arith)) }

-- ---- where the nodes have their numbers

module _ (m : List ℕ) (n k : ℕ) (p : Worked m n k) where
  pub meets-is : (t : ℕ) → meets_in (numbers_in m n) (tests_in m t) ≡ search.meets (tests m n t) (setting_in m k)
  meets-is t = ap (λ (zs : List ℤ). meets_in zs (tests_in m t)) (worked-is m n k p) ∙ meets-ok (setting_in m k) (nodes_in m n) (tests_in m t)

  pub result-is : (v : Cell) → number_in (numbers_in m n) v ≡ under (setting_in m k) (meaning (nodes_in m n) v)
  result-is v = ap (λ (zs : List ℤ). number_in zs v) (worked-is m n k p) ∙ number_ok (setting_in m k) (nodes_in m n) v

-- ---- while settings are tried

module _ (m m' : List ℕ) (s : Steady m m') where
  pub nodes-steady : (n : ℕ) → nodes_in m' n ≡ nodes_in m n
  nodes-steady n = nodes-same m m' (λ i j l u. s.other i (λ a b. omega arith) (λ q e. omega arith)) n

  pub node-steady : (j : ℕ) → node_at m' j ≡ node_at m j
  node-steady j = node-same m m' (λ i q l u. s.other i (λ a b. omega arith) (λ r e. omega arith)) j

  pub tests-steady : (n t : ℕ) → tests m' n t ≡ tests m n t
  tests-steady n t = ap₂ (λ (ns : List Node) (ts : List Noted). map (test_of ns) ts) (nodes-steady n) (tests_same m m' (λ i j l u. s.other i (λ a b. omega arith) (λ q e. omega arith)) t)

  pub windows-steady : (k : ℕ) → k ≤ 8 → windows_in m' k ≡ windows_in m k
  windows-steady k h =
      windows-tab m' k h
      ∙ tab-same (window_at m') (window_at m) 0 k (λ j l u. rw (s.other (window_low j) (λ a b. omega arith) (λ q e. omega arith), s.other (window_high j) (λ a b. omega arith) (λ q e. omega arith)))
      ∙ sym (windows-tab m k h)

pub steady-none : (m : List ℕ) → Steady m m
steady-none m = record { other = λ i h g. refl }

pub steady-more : (m m₁ m₂ : List ℕ) → Steady m m₁ → Steady m₁ m₂ → Steady m m₂
steady-more m m₁ m₂ a b = record { other = λ i h g. b.other i h g ∙ a.other i h g }

pub steady-numbers : (m m₁ m₂ : List ℕ) → Steady m m₁ → Renumbered m₁ m₂ → Steady m m₂
steady-numbers m m₁ m₂ s r = record { other = λ i h g. r.other i g ∙ s.other i h g }

pub steady-setting : (m m₁ m₂ : List ℕ) (k : ℕ) → k ≤ 8 → Steady m m₁ → Other m₁ m₂ setting_place (value_place k) → Steady m m₂
steady-setting m m₁ m₂ k l s o = record { other = λ i h g. o.outside i (λ a b. h a (omega arith)) ∙ s.other i h g }

pub holding-same : (m m' : List ℕ) (n t k : ℕ) → length m' ≡ length m → Holding m n t k → Holding m' n t k
holding-same m m' n t k e h = record {
  few = h.few;
  nodes = record { words = omega (arith, h.nodes.words); small = h.nodes.small };
  tests = record { words = omega (arith, h.tests.words); small = h.tests.small };
}

pub holding-less : (m : List ℕ) (n r t k : ℕ) → r ≤ n → Holding m n t k → Holding m r t k
holding-less m n r t k l h = record {
  few = h.few;
  nodes = record { words = omega (arith, h.nodes.words); small = omega (arith, h.nodes.small) };
  tests = h.tests;
}
