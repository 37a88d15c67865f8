-- The words of nodes in a list: reading one, and writing one.
use Prim.Native.Nat.{ℕ, zero, suc, ◌+◌, ◌*◌, ◌<◌}
use mathlib.Core.Path.{◌≡◌, refl, sym, ◌∙◌}
use mathlib.Core.List.{List, [], ◌∷◌}
use native.Mathlib.Omega.{arith}
use lib.ListN.{length, get_or, set}
use Rattle.syntax.specs.Table.{node_words, node_token, node_first, node_second, node_third, row}
use Rattle.syntax.specs.NodeKinds.{node_number}
use Rattle.syntax.specs.Fetch.{Fetched, words_of}
use Rattle.syntax.specs.declared.node.Node.{Node}

pub length-words : (ns : List Node) → length (words_of ns) ≡ node_words * length ns
unfolding words_of
length-words [] = refl
length-words (n ∷ ns) = omega (arith, length-words ns)

module _ (a b c d e : ℕ) (l : List ℕ) where
  -- a word behind the five of a node
  behind : (k j : ℕ) → k ≡ node_words + j → get_or (a ∷ b ∷ c ∷ d ∷ e ∷ l) k 0 ≡ get_or l j 0
  behind k j h =
      let q : k ≡ suc (suc (suc (suc (suc j)))) = omega arith in
      rw q

  set_behind : (k j v : ℕ) → k ≡ node_words + j → set (a ∷ b ∷ c ∷ d ∷ e ∷ l) k v ≡ a ∷ b ∷ c ∷ d ∷ e ∷ set l j v
  set_behind k j v h =
      let q : k ≡ suc (suc (suc (suc (suc j)))) = omega arith in
      rw q

-- node i of the list is what its words say
pub fetched : (ns : List Node) (i : ℕ) (n : Node) → i < length ns → Fetched (words_of ns) i (get_or ns i n)
unfolding words_of
fetched [] i n h = absurd (omega arith)
fetched (m ∷ ns) zero n h = record { kind = refl; token = refl; first = refl; second = refl; third = refl }
fetched (m ∷ ns) (suc i) n h =
    let f = fetched ns i n (omega arith) in
    record {
      kind = f.kind ∙ sym (behind _ _ _ _ _ (words_of ns) (node_words * suc i) (node_words * i) (omega arith));
      token = f.token ∙ sym (behind _ _ _ _ _ (words_of ns) (node_words * suc i + node_token) (node_words * i + node_token) (omega arith));
      first = f.first ∙ sym (behind _ _ _ _ _ (words_of ns) (node_words * suc i + node_first) (node_words * i + node_first) (omega arith));
      second = f.second ∙ sym (behind _ _ _ _ _ (words_of ns) (node_words * suc i + node_second) (node_words * i + node_second) (omega arith));
      third = f.third ∙ sym (behind _ _ _ _ _ (words_of ns) (node_words * suc i + node_third) (node_words * i + node_third) (omega arith));
    }

-- a node written into the list is its words written
pub written : (ns : List Node) (i : ℕ) (n : Node) → i < length ns → words_of (set ns i n) ≡ row (words_of ns) i (node_number n.kind) n.token n.first n.second n.third
unfolding words_of
written [] i n h = absurd (omega arith)
written (m ∷ ns) zero n h = refl
written (m ∷ ns) (suc i) n h = rw (written ns i n (omega arith)) (sym (pushed (words_of ns) i n))
  where
    pushed : (l : List ℕ) (i : ℕ) (n : Node) → row (node_number m.kind ∷ m.token ∷ m.first ∷ m.second ∷ m.third ∷ l) (suc i) (node_number n.kind) n.token n.first n.second n.third ≡ node_number m.kind ∷ m.token ∷ m.first ∷ m.second ∷ m.third ∷ row l i (node_number n.kind) n.token n.first n.second n.third
    pushed l i n =
        let k = node_number n.kind in
        let p = set_behind (node_number m.kind) m.token m.first m.second m.third in
        let l₁ = set l (node_words * i) k in
        let l₂ = set l₁ (node_words * i + node_token) n.token in
        let l₃ = set l₂ (node_words * i + node_first) n.first in
        let l₄ = set l₃ (node_words * i + node_second) n.second in
        rw (p l (node_words * suc i) (node_words * i) k (omega arith), p l₁ (node_words * suc i + node_token) (node_words * i + node_token) n.token (omega arith), p l₂ (node_words * suc i + node_first) (node_words * i + node_first) n.first (omega arith), p l₃ (node_words * suc i + node_second) (node_words * i + node_second) n.second (omega arith), p l₄ (node_words * suc i + node_third) (node_words * i + node_third) n.third (omega arith))
