-- What breaks a rule, found by going through the events in order with what has been seen so far.
use Rattle.std.specs.Prelude.{ℕ, Bool, cond, List, [], ◌∷◌, ◌++◌, leb}
use Rattle.std.specs.Prelude.{Option, None, Some}
use Rattle.events.specs.Event.{Event}

-- what each event gives, by what has been seen before it
unfoldable pub scan : {S A : Type 0} → (S → Event → S) → (S → Event → List A) → S → List Event → List A
scan step gives s [] = []
scan step gives s (e ∷ es) = gives s e ++ scan step gives (step s e) es

-- where nothing has to be remembered
unfoldable pub on : {A : Type 0} → (Event → List A) → List Event → List A
on gives [] = []
on gives (e ∷ es) = gives e ++ on gives es

-- i, if b
abbrev pub when : Bool → ℕ → List ℕ
when b i = cond b (i ∷ []) []

-- the least number of a list
unfoldable pub lesser : ℕ → Option ℕ → Option ℕ
lesser i None = Some i
lesser i (Some j) = Some (cond (leb i j) i j)

unfoldable pub least : List ℕ → Option ℕ
least [] = None
least (i ∷ is) = lesser i (least is)
