-- What remarks tells (document 01, with slip 4 of document 02), in words: no way to find it stands here. That `remarks_of` (Remarks) is this, and nothing else, is proved in proofs/Exactly.
use Rattle.std.specs.Prelude.{ℕ, suc, ◌≤◌, ◌<◌, ◌≡◌, List, ◌++◌, map, length, get_or, drop}
use Rattle.events.specs.Event.{events}
use Rattle.syntax.specs.Abstract.{ast}
use Rattle.semantics.specs.Demand.{◌∈◌}
use Rattle.text_rules.specs.Rules.{Head, heads}
use Rattle.text_rules.specs.Resolve.{main_of}
use Rattle.checker.specs.Check.{places, source_of, same_in, main_in}
use Rattle.checker.specs.Accepted.{KeepsRules}
use Rattle.checker.specs.Refusal.{Refusal}
use Rattle.remarks.specs.Remarks.{Call, calls_of, Reply, refused, counted}

-- a chain of calls leads from the function f to another
pub data Leads (cs : List Call) (f : ℕ) : ℕ → Type 0 where
  here : Leads cs f f
  further : {c : Call} → Leads cs f c.caller → c ∈ cs → Leads cs f c.callee

-- the function g of n functions is but main, and no chain of calls leads to it from main
pub record Unreached (cs : List Call) (n main g : ℕ) : Type 0 where
  pub function : g < n
  pub other : g ≡ main → ⊥
  pub never : Leads cs main g → ⊥

-- the place of the name of function g; ps are the places of the tokens
abbrev pub name_offset : List ℕ → List Head → ℕ → ℕ
name_offset ps hs g = get_or ps (get_or (map (λ (h : Head). h.name) hs) g 0) 0

-- in a text that keeps the rules, o is "the name offset of" a "function but main that no chain of calls in the text leads to from main"
pub record Remarkable {text : List ℕ} (k : KeepsRules text) (o : ℕ) : Type 0 where
  pub number : ℕ
  pub unreached : Unreached
      (calls_of (same_in (source_of text k.tokens)) (events (ast k.tree)))
      (length (heads (events (ast k.tree))))
      (main_of (main_in (source_of text k.tokens)) (heads (events (ast k.tree))))
      number
  pub stands : o ≡ name_offset (places k.tokens) (heads (events (ast k.tree))) number

-- a list of each offset that belongs, and of no other, in which "the offsets ascend": each is below the next
pub record InOrder (Belongs : ℕ → Type 0) (os : List ℕ) : Type 0 where
  pub all : (o : ℕ) → Belongs o → o ∈ os
  pub only : (o : ℕ) → o ∈ os → Belongs o
  pub ascends : (i : ℕ) → suc i < length os → get_or os i 0 < get_or os (suc i) 0

-- what is answered, and what the lent slice, which held `before`, holds after it
pub data Says (text before after : List ℕ) : Reply → Type 0 where
  -- "Remarks refuses 15 if the lent u16 slice has under 16 places (place 0)"; a refusal writes nothing
  too_short : length before < 16 → after ≡ before → Says text before after (refused 15 0)
  -- "then as check"
  as-check : {n p : ℕ} → 16 ≤ length before → Refusal text n p → after ≡ before → Says text before after (refused n p)
  -- "Else it writes" the offsets "into the first places, and answers the count. Other places keep their words."
  writes : {os : List ℕ} → 16 ≤ length before → (k : KeepsRules text) → InOrder (Remarkable k) os → after ≡ os ++ drop (length os) before → Says text before after (counted (length os))
