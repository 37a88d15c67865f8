-- One pass over the nodes, one over the tests, and free variables that start anew.
use mathlib.Core.Path.{◌≡◌, refl, sym, ap, ap₂, ◌∙◌}
use mathlib.Core.Bool.{Bool, true, false, not, ◌&&◌}
use mathlib.Core.List.{List, [], ◌∷◌, ◌++◌}
use mathlib.Core.Logic.{⊎_elim}
use Prim.Native.Nat.{ℕ, zero, suc, ◌+◌, ◌-◌, ◌≤◌, ◌<◌}
use native.Mathlib.Nat.{eq-or-lt_of_le}
use native.Mathlib.Omega.{arith}
use lib.ListN.{length, get_or, set}
use lib.Seq.{get_or-set_same, get_or-set_other}
use lib.IntN.{ℤ, pos}
use mir.Syntax.{w32}
use mir.Val.{to_z}
use Rattle.semantics.specs.Int as int
use Rattle.simulation.specs.Nodes.{Node, node, pass, numbers, meets_in}
use Rattle.simulation.proofs.Nodes.{numbers-last}
use Rattle.machine.specs.Layout.{window_low, value_place, tables_place, node_place, node_left, node_right, node_end, number_place}
use Rattle.machine.specs.Memory.{node_at, nodes_in, setting_in, numbers_in, tests_in}
use Rattle.settings.specs.Table.{window_at, value_at, number_at, holds_at, Wrote, Worked, Anew}
use Rattle.settings.proofs.Entries.{up_to-same, number_word, setting-is, numbers-is, nodes-is}

-- ---- what stays where words stay

pub setting_same : (m m' : List ℕ) (k : ℕ) → ((i : ℕ) → i < k → get_or m' (value_place i) 0 ≡ get_or m (value_place i) 0) → setting_in m' k ≡ setting_in m k
setting_same m m' k h = setting-is m' k ∙ up_to-same (value_at m') (value_at m) k (λ j l. ap (to_z w32) (h j l)) ∙ sym (setting-is m k)

pub numbers-same : (m m' : List ℕ) (n : ℕ) → ((j : ℕ) → j < n → get_or m' (number_place j) 0 ≡ get_or m (number_place j) 0) → numbers_in m' n ≡ numbers_in m n
numbers-same m m' n h = numbers-is m' n ∙ up_to-same (number_word m') (number_word m) n (λ j l. ap (to_z w32) (h j l)) ∙ sym (numbers-is m n)

-- the words of a node stay
abbrev pub Nodes : List ℕ → List ℕ → Type 0
Nodes m m' = (i j : ℕ) → node_place j ≤ i → i < node_end j → get_or m' i 0 ≡ get_or m i 0

pub node-same : (m m' : List ℕ) → Nodes m m' → (j : ℕ) → node_at m' j ≡ node_at m j
node-same m m' h j = rw (h (node_place j) j (omega arith) (omega arith), h (node_left j) j (omega arith) (omega arith), h (node_right j) j (omega arith) (omega arith))

pub nodes-same : (m m' : List ℕ) → Nodes m m' → (n : ℕ) → nodes_in m' n ≡ nodes_in m n
nodes-same m m' h n = nodes-is m' n ∙ up_to-same (node_at m') (node_at m) n (λ j l. node-same m m' h j) ∙ sym (nodes-is m n)

-- ---- numbers

pub worked-none : (m : List ℕ) (k : ℕ) → Worked m 0 k
worked-none m k = record { right = λ j l. absurd (omega arith) }

pub worked-less : (m : List ℕ) (n i k : ℕ) → i ≤ n → Worked m n k → Worked m i k
worked-less m n i k l w = record { right = λ j u. w.right j (omega arith) }

-- the numbers that are each what those before give are those of one pass
pub worked-is : (m : List ℕ) (n k : ℕ) → Worked m n k → numbers_in m n ≡ numbers (setting_in m k) (nodes_in m n)
unfolding numbers_in nodes_in numbers pass
worked-is m zero k w = refl
worked-is m (suc n) k w =
    let e = worked-is m n k (worked-less m (suc n) n k (omega arith) w) in
    ap₂ (λ (zs : List ℤ) (z : ℤ). zs ++ z ∷ []) e
    (w.right n (omega arith) ∙ ap (λ (zs : List ℤ). node (λ z. z) (λ i. get_or (setting_in m k) i (pos 0)) int.arith zs (node_at m n)) e)
    ∙ sym (numbers-last (setting_in m k) (nodes_in m n) (node_at m n))

module _ (m m' : List ℕ) (j k : ℕ) (small : k ≤ 8) (w : Worked m j k) (p : Wrote m m' (number_place j) (number_at m k j)) where
  stays : (i : ℕ) → i ≤ j → number_at m k i ≡ number_at m' k i
  stays i l =
      let a = setting_same m m' k (λ q g. p.other.outside (value_place q) (λ x y. omega arith)) in
      let b = numbers-same m m' i (λ q g. p.other.outside (number_place q) (λ x y. omega arith)) in
      let c = node-same m m' (λ q h x y. p.other.outside q (λ u v. omega arith)) i in
      sym (ap (λ (s : List ℤ). node (λ z. z) (λ i. get_or s i (pos 0)) int.arith (numbers_in m' i) (node_at m' i)) a
      ∙ ap₂ (λ (zs : List ℤ) (x : Node). node (λ z. z) (λ i. get_or (setting_in m k) i (pos 0)) int.arith zs x) b c)

  pub worked-more : Worked m' (j + 1) k
  worked-more = record {
    right = λ i l. ⊎_elim
        (λ e. ap (number_word m') e ∙ p.is ∙ stays j (omega arith) ∙ ap (number_at m' k) (sym e))
        (λ g. ap (to_z w32) (p.other.outside (number_place i) (λ x y. omega arith)) ∙ w.right i g ∙ stays i (omega arith))
        (eq-or-lt_of_le {n = i} {m = j} (omega arith));
  }

-- ---- tests

pub not-true : (b : Bool) → not b ≡ true → b ≡ false
not-true true e = sym e
not-true false e = refl

pub not-false : (b : Bool) → not b ≡ false → b ≡ true
not-false true e = refl
not-false false e = sym e

pub meets-none : (zs : List ℤ) (m : List ℕ) (j : ℕ) → j ≡ 0 → meets_in zs (tests_in m j) ≡ true
unfolding meets_in tests_in
meets-none zs m j e = ap (λ (n : ℕ). meets_in zs (tests_in m n)) e

pub meets-one : (m : List ℕ) (n j : ℕ) (b : Bool) → 0 < j → holds_at m n (j - 1) ≡ b → meets_in (numbers_in m n) (tests_in m j) ≡ b && meets_in (numbers_in m n) (tests_in m (j - 1))
unfolding meets_in tests_in
meets-one m n zero b h e = absurd (omega arith)
meets-one m n (suc j) b h e =
    let q : suc j - 1 ≡ j = omega arith in
    ap (λ (x : Bool). x && meets_in (numbers_in m n) (tests_in m j)) (ap (holds_at m n) (sym q) ∙ e) ∙ ap (λ (i : ℕ). b && meets_in (numbers_in m n) (tests_in m i)) (sym q)

-- ---- free variables that start anew

pub anew-none : (m : List ℕ) (i : ℕ) → Anew m m i i
anew-none m i = record { other = record { outside = λ k h. refl }; low = λ j l u. absurd (omega arith) }

pub anew-more : (m₀ m : List ℕ) (i j : ℕ) → i ≤ j → j < 8 → tables_place ≤ length m → Anew m₀ m i j → Anew m₀ (set m (value_place j) (get_or m (window_low j) 0)) i (j + 1)
anew-more m₀ m i j l u s a = record {
  other = record { outside = λ k h. get_or-set_other m (value_place j) k (get_or m (window_low j) 0) 0 (λ e. h (omega arith) (omega arith)) ∙ a.other.outside k (λ p q. h p (omega arith)) };
  low = λ q p r. ⊎_elim
      (λ e. ap (λ (n : ℕ). to_z w32 (get_or (set m (value_place j) (get_or m (window_low j) 0)) (value_place n) 0)) e
      ∙ ap (to_z w32) (get_or-set_same m (value_place j) (get_or m (window_low j) 0) 0 (omega arith) ∙ a.other.outside (window_low j) (λ x y. omega arith))
      ∙ ap (λ (n : ℕ). (window_at m₀ n).low) (sym e))
      (λ g. ap (to_z w32) (get_or-set_other m (value_place j) (value_place q) (get_or m (window_low j) 0) 0 (λ e. omega arith)) ∙ a.low q p g)
      (eq-or-lt_of_le {n = q} {m = j} (omega arith));
}
