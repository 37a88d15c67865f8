-- The program of an accepted text has its names resolved: each body's declarations are numbered in the order of the text,
-- its names mean slots that are given and can be seen, and its calls fit the functions that they mean. And no name can be seen twice.
use Prim.Native.Nat.{ℕ}
use mathlib.Core.Path.{◌≡◌}
use mathlib.Core.Bool.{Bool}
use mathlib.Core.List.{List, [], map, reverse}
use lib.ListN.{get_or}
use Rattle.syntax.specs.Abstract.{ast}
use Rattle.events.specs.Event.{events}
use Rattle.events.proofs.Rising.{text-rises}
use Rattle.text_rules.specs.Spelling.{same_name, is_main}
use Rattle.semantics.specs.Demand.{◌∈◌}
use Rattle.text_rules.specs.Names.{Declared, Name, used, names_of, sought, bad_variables, bad_functions, meanings, meant}
use Rattle.text_rules.proofs.Counts.{nil-left}
use Rattle.text_rules.proofs.SeenOnce.{Apart, all-at, seen-once, same-found}
use Rattle.text_rules.proofs.Programs.{Resolves, program-resolves}
use Rattle.checker.specs.Check.{places, values, program_of}
use Rattle.checker.specs.Accepted.{KeepsRules}

module _ (text : List ℕ) (k : KeepsRules text) where
  -- the value of a number's token, and what a name's token means
  abbrev pub value : ℕ → ℕ
  value i = get_or (values k.tokens) i 0

  abbrev pub means : ℕ → ℕ
  means = meant (λ i. 0) (meanings (same_name text (places k.tokens) (values k.tokens)) (ast k.tree))

  pub accepted-resolves : Resolves value means (ast k.tree) (program_of text k.tokens k.tree)
  unfolding program_of
  accepted-resolves =
      let ps = places k.tokens in
      let vs = values k.tokens in
      program-resolves value (same_name text ps vs) (is_main text ps vs) _ (λ i. 0) (ast k.tree) (text-rises k.tree k.grammar.numbers) k.names k.calls k.main k.counts

  -- ---- what can be seen at its names

  abbrev same : ℕ → ℕ → Bool
  same = same_name text (places k.tokens) (values k.tokens)

  variables-kept : bad_variables same (ast k.tree) ≡ []
  variables-kept = nil-left (bad_variables same (ast k.tree)) (bad_functions same (events (ast k.tree))) k.names

  -- no two declarations that can be seen at one of its names have one name
  pub accepted-once : (x : Name) → x ∈ names_of (ast k.tree) → Apart same x
  accepted-once x m = all-at same (seen-once same (ast k.tree) variables-kept) x m

  -- what is found for one of its names does not hang on the order in which a block is compared: slip 6 has changed no meaning
  pub accepted-found : (i : ℕ) (bs : List (List Declared)) → used i bs ∈ names_of (ast k.tree) → sought same (map reverse bs) i ≡ sought same bs i
  accepted-found i bs m = same-found text (places k.tokens) (values k.tokens) (ast k.tree) variables-kept i bs m
