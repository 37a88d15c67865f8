-- Inner: the names of a text by its events, as the code goes through them, with the blocks that are open. They are the names of the tree (proofs/Seen).
use Rattle.std.specs.Prelude.{ℕ, suc, Bool, List, [], ◌∷◌, ◌++◌}
use Rattle.events.specs.Event.{Event, function, parameter, thing, opens, closes, declares, uses, calls, ends}
use Rattle.text_rules.specs.Scan.{scan}
use Rattle.text_rules.specs.Rules.{Head, heads}
use Rattle.text_rules.specs.Names.{Declared, variable, Name, declared, used, called, misnamed, bad_functions, Meaning, named}

-- the blocks that are open, the innermost first, with the declarations of each so far, the newest first; and the number of the next declaration
pub record Scope : Type 0 where
  pub blocks : List (List Declared)
  pub next : ℕ

abbrev pub scope : List (List Declared) → ℕ → Scope
scope bs n = record { blocks = bs; next = n }

unfoldable pub added : ℕ → ℕ → List (List Declared) → List (List Declared)
added i n [] = (variable i n ∷ []) ∷ []
added i n (b ∷ bs) = (variable i n ∷ b) ∷ bs

unfoldable pub outer : List (List Declared) → List (List Declared)
outer [] = []
outer (b ∷ bs) = bs

-- a function begins with the block of its parameters
unfoldable pub entered : Scope → Event → Scope
entered s (function i) = scope ([] ∷ []) 0
entered s (parameter i) = scope (added i s.next s.blocks) (suc s.next)
entered s (thing d i) = s
entered s opens = scope ([] ∷ s.blocks) s.next
entered s closes = scope (outer s.blocks) s.next
entered s (declares i) = scope (added i s.next s.blocks) (suc s.next)
entered s (uses i) = s
entered s (calls i n) = s
entered s (ends i b) = s

abbrev pub nowhere : Scope
nowhere = scope [] 0

-- what the name of an event gives, where it has one, with the blocks that are open: what is looked up there, and among what
unfoldable pub on_name : {X : Type 0} → (Name → List X) → Scope → Event → List X
on_name f s (function i) = []
on_name f s (parameter i) = f (declared i s.next s.blocks)
on_name f s (thing d i) = []
on_name f s opens = []
on_name f s closes = []
on_name f s (declares i) = f (declared i s.next s.blocks)
on_name f s (uses i) = f (used i s.blocks)
on_name f s (calls i n) = f (called i)
on_name f s (ends i b) = []

-- the name itself
abbrev pub name_at : Scope → Event → List Name
name_at s e = on_name (λ (x : Name). x ∷ []) s e

-- `same i j`: the tokens i and j spell the same name
module _ (same : ℕ → ℕ → Bool) where
  -- where an event breaks rule 6 for variables, and what its name means
  abbrev pub misnamed_at : Scope → Event → List ℕ
  misnamed_at s e = on_name (misnamed same) s e

  abbrev pub named_at : List Head → Scope → Event → List Meaning
  named_at hs s e = on_name (named same hs) s e

  -- rule 6 over all events, and what their names mean
  abbrev pub bad_variables_in : List Event → List ℕ
  bad_variables_in es = scan entered misnamed_at nowhere es

  abbrev pub bad_names_in : List Event → List ℕ
  bad_names_in es = bad_variables_in es ++ bad_functions same es

  abbrev pub meanings_in : List Event → List Meaning
  meanings_in es = scan entered (named_at (heads es)) nowhere es
