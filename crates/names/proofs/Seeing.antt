-- What is seen at one name.
use Prim.Native.Nat.{ℕ}
use mathlib.Core.Path.{◌≡◌, sym, subst}
use mathlib.Core.List.{List, [], ◌∷◌, ◌++◌, append-nil}
use Rattle.std.specs.Prelude.{Option, None, Some}
use lib.ListN.{set}
use Rattle.text_rules.specs.Scan.{lesser}
use Rattle.text_rules.specs.Answers.{least_with}
use Rattle.text_rules.specs.Names.{if_found, unless_found, Meaning, meaning, as_found}
use Rattle.names.specs.Steps.{noted, Seen}

module _ {o p : Option ℕ} (i : ℕ) {slots : List ℕ} where
  -- a declaration of a name that can't be seen, and of one that can
  pub new : {n : ℕ} {slots' : List ℕ} → None ≡ o → slots' ≡ set slots i n → Seen (if_found o i) (meaning i n ∷ []) p slots p slots'
  unfolding least_with noted
  new e w = record { least = rw (sym e); written = w }

  pub again :
      {m n : ℕ} {q : Option ℕ} {slots' : List ℕ} → Some m ≡ o → slots' ≡ set slots i n → q ≡ lesser i p
      → Seen (if_found o i) (meaning i n ∷ []) p slots q slots'
  unfolding least_with noted
  again e w l = record { least = rw (sym e) l; written = w }

  -- a name that means nothing, and one that means n
  pub unknown : {q : Option ℕ} → None ≡ o → q ≡ lesser i p → Seen (unless_found o i) (as_found o i) p slots q slots
  unfolding least_with noted
  unknown e l = record { least = rw (sym e) l; written = rw (sym e) }

  pub known : {n : ℕ} {slots' : List ℕ} → Some n ≡ o → slots' ≡ set slots i n → Seen (unless_found o i) (as_found o i) p slots p slots'
  unfolding least_with noted
  known e w = record { least = rw (sym e); written = rw (sym e) w }

-- nothing more is seen
pub with_nothing : {a : List ℕ} {ms : List Meaning} {p q : Option ℕ} {slots slots' : List ℕ} → Seen a ms p slots q slots' → Seen (a ++ []) ms p slots q slots'
with_nothing {a} {ms} {p} {q} s = record { least = subst (λ (x : List ℕ). q ≡ least_with x p) (sym (append-nil a)) s.least; written = s.written }

pub nothing : {a : List ℕ} {ms : List Meaning} {p : Option ℕ} {slots : List ℕ} → a ≡ [] → ms ≡ [] → Seen a ms p slots p slots
unfolding least_with noted
nothing e f = record { least = rw e; written = rw f }

-- a list that ends in nothing
pub ruleset ends = append-nil
