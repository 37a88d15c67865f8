-- The last free variable goes up, and nothing is worked anew that does not depend on it.
use mathlib.Core.Path.{◌≡◌, refl, sym, ap, ap₂, ◌∙◌, subst}
use mathlib.Core.Option.{some}
use mathlib.Core.List.{List}
use mathlib.Core.Logic.{◌⊎◌, inl, inr, ⊎_elim}
use Prim.Native.Nat.{ℕ, zero, suc, ◌+◌, ◌-◌, ◌≤◌, ◌<◌}
use native.Mathlib.Nat.{eq-or-lt_of_le}
use native.Mathlib.Omega.{arith}
use lib.ListN.{get_or}
use lib.IntN.{ℤ, pos, suc_ℤ}
use mir.Syntax.{w32}
use mir.Val.{to_z}
use Rattle.semantics.specs.Int as int
use Rattle.simulation.specs.Nodes.{Cell, Known, Open, Node, unknown, operation, cell, node}
use Rattle.simulation.specs.Odometer.{after}
use Rattle.machine.specs.Layout.{value_place, number_place}
use Rattle.machine.specs.Memory.{node_at, windows_in, setting_in, numbers_in}
use Rattle.settings.specs.Table.{value_at, number_at, Wrote, Worked, Anew}
use Rattle.settings.specs.Plan.{NotFree, Off, Clear, Apart}
use Rattle.settings.specs.Seek.{Rising, Rose}
use Rattle.settings.proofs.Entries.{number_word, setting-at, setting-none, word-there, word_none}
use Rattle.settings.proofs.Pass.{setting_same, numbers-same, Nodes, node-same, anew-none}
use Rattle.settings.proofs.Turns.{follows-some}

below_or_not : (x n : ℕ) → (x < n) ⊎ (n ≤ x)
below_or_not x zero = inr (omega arith)
below_or_not zero (suc n) = inl (omega arith)
below_or_not (suc x) (suc n) = ⊎_elim (λ l. inl (omega arith)) (λ g. inr (omega arith)) (below_or_not x n)

-- ---- from memory to memory: free variable i, which node a is, differs, and no other number does before `first`

module _ (m m' : List ℕ) (k i a : ℕ) (values : (x : ℕ) → x < k → (x ≡ i → ⊥) → get_or m' (value_place x) 0 ≡ get_or m (value_place x) 0)
    (words : (j : ℕ) → (j ≡ a → ⊥) → get_or m' (number_place j) 0 ≡ get_or m (number_place j) 0) (nodes : Nodes m m') where
  free-same : (x : ℕ) → (x ≡ i → ⊥) → get_or (setting_in m' k) x (pos 0) ≡ get_or (setting_in m k) x (pos 0)
  free-same x h = ⊎_elim
      (λ l. sym (setting-at m' k x l) ∙ ap (to_z w32) (values x l h) ∙ setting-at m k x l)
      (λ g. sym (setting-none m' k x g) ∙ setting-none m k x g)
      (below_or_not x k)

  word_same : (j q : ℕ) → (q ≡ a → ⊥) → get_or (numbers_in m' j) q (pos 0) ≡ get_or (numbers_in m j) q (pos 0)
  word_same j q h = ⊎_elim
      (λ l. sym (word-there m' j q l) ∙ ap (to_z w32) (words q h) ∙ word-there m j q l)
      (λ g. sym (word_none m' j q g) ∙ word_none m j q g)
      (below_or_not q j)

  -- a node before node a
  early : (n : Node) (zs : List ℤ) → NotFree i n → node (λ z. z) (λ x. get_or (setting_in m k) x (pos 0)) int.arith zs n ≡ node (λ z. z) (λ x. get_or (setting_in m' k) x (pos 0)) int.arith zs n
  early (unknown x) zs h = sym (free-same x h)
  early (operation o l r) zs h = refl

  -- a node behind it that is clear of it
  cell_same : (j : ℕ) (v : Cell) → Off a v
      → cell (λ z. z) (λ x. get_or (setting_in m k) x (pos 0)) int.arith (numbers_in m j) v ≡ cell (λ z. z) (λ x. get_or (setting_in m' k) x (pos 0)) int.arith (numbers_in m' j) v
  cell_same j (Known z) h = refl
  cell_same j (Open q) h = sym (word_same j q h)

  late : (j : ℕ) (n : Node) → Clear a n
      → node (λ z. z) (λ x. get_or (setting_in m k) x (pos 0)) int.arith (numbers_in m j) n ≡ node (λ z. z) (λ x. get_or (setting_in m' k) x (pos 0)) int.arith (numbers_in m' j) n
  late j (unknown x) h = absurd h
  late j (operation o l r) h = ap₂ (int.arith o) (cell_same j l h.0) (cell_same j r h.1)

  module _ (first : ℕ) (here : i < k) (p : Apart m i a first) (moved : a < first → number_word m' a ≡ value_at m' i) (w : Worked m first k) where
    at-node : (j : ℕ) → number_at m k j ≡ node (λ z. z) (λ x. get_or (setting_in m' k) x (pos 0)) int.arith (numbers_in m' j) (node_at m j) → number_at m k j ≡ number_at m' k j
    at-node j e = e ∙ ap (λ (n : Node). node (λ z. z) (λ x. get_or (setting_in m' k) x (pos 0)) int.arith (numbers_in m' j) n) (sym (node-same m m' nodes j))

    before : (j : ℕ) → j < a → j < first → number_word m' j ≡ number_at m' k j
    before j l u =
        ap (to_z w32) (words j (λ e. omega arith)) ∙ w.right j u
        ∙ at-node j (early (node_at m j) (numbers_in m j) (p.before j l u)
        ∙ ap (λ (zs : List ℤ). node (λ z. z) (λ x. get_or (setting_in m' k) x (pos 0)) int.arith zs (node_at m j)) (sym (numbers-same m m' j (λ q g. words q (λ e. omega arith)))))

    behind : (j : ℕ) → a < j → j < first → number_word m' j ≡ number_at m' k j
    behind j l u = ap (to_z w32) (words j (λ e. omega arith)) ∙ w.right j u ∙ at-node j (late j (node_at m j) (p.clear j l u))

    itself : a < first → number_word m' a ≡ number_at m' k a
    itself l =
        moved l ∙ setting-at m' k i here
        ∙ sym (ap (λ (n : Node). node (λ z. z) (λ x. get_or (setting_in m' k) x (pos 0)) int.arith (numbers_in m' a) n) (node-same m m' nodes a ∙ p.is l))

    pub worked-apart : Worked m' first k
    worked-apart = record {
      right = λ j u. ⊎_elim
          (λ l. before j l u)
          (λ g. ⊎_elim
          (λ e. subst (λ (j : ℕ). number_word m' j ≡ number_at m' k j) e (itself (omega arith)))
          (λ l. behind j l u)
          (eq-or-lt_of_le {n = a} {m = j} g))
          (below_or_not j a);
    }

-- ---- the last free variable goes up

module _ (m m₁ m₂ : List ℕ) (a first k : ℕ) (p : Rising m a first k) (u : Wrote m m₁ (value_place (k - 1)) (suc_ℤ (value_at m (k - 1)))) where
  anew : Anew m₁ m₁ ((k - 1) + 1) k
  anew = subst (λ (i : ℕ). Anew m₁ m₁ i k) {x = k} {y = (k - 1) + 1} (omega (arith, p.some)) (anew-none m₁ k)

  raised : after (windows_in m k) (setting_in m k) ≡ some (setting_in m₁ k)
  raised = (follows-some m m₁ m₁ (k - 1) k p.few (omega (arith, p.some)) p.below (λ j l g. absurd (omega arith)) u anew).is

  module _ (words : (i : ℕ) → (a < first → i ≡ number_place a → ⊥) → get_or m₂ i 0 ≡ get_or m₁ i 0) (moved : a < first → number_word m₂ a ≡ value_at m₁ (k - 1)) where
    stays : (i : ℕ) → (i ≡ value_place (k - 1) → ⊥) → (i ≡ number_place a → ⊥) → get_or m₂ i 0 ≡ get_or m i 0
    stays i h g = words i (λ l e. g e) ∙ u.other.outside i (λ x y. h (omega arith))

    values : (x : ℕ) → x < k → get_or m₂ (value_place x) 0 ≡ get_or m₁ (value_place x) 0
    values x l = words (value_place x) (λ g e. omega (arith, p.few))

    pub rose : Rose m m₂ first k
    rose = record {
      is = raised ∙ ap some (sym (setting_same m₁ m₂ k values));
      worked = worked-apart m m₂ k (k - 1) a
          (λ x l h. stays (value_place x) (λ e. h (omega arith)) (λ e. omega (arith, p.few)))
          (λ j h. stays (number_place j) (λ e. omega (arith, p.few)) (λ e. h (omega arith)))
          (λ i j l g. stays i (λ e. omega (arith, p.few)) (λ e. omega arith))
          first (omega (arith, p.some)) p.apart (λ l. moved l ∙ ap (to_z w32) (sym (values (k - 1) (omega (arith, p.some))))) p.worked;
      steady = record { other = λ i h g. stays i (λ e. h (omega arith) (omega (arith, p.few, p.some))) (λ e. g a e) };
    }
