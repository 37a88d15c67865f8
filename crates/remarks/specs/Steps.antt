-- What the functions inside remarks ask and answer.
use Rattle.std.specs.Prelude.{ℕ, ◌<◌, ◌≤◌, ◌≡◌, Bool, true, false, not, List, [], ◌∷◌, ◌++◌, length, get_or, drop, eqb, Option, None, Some}
use Rattle.events.specs.Event.{Event}
use Rattle.text_rules.specs.Scan.{scan}
use Rattle.text_rules.specs.Rules.{Head}
use Rattle.text_rules.specs.Resolve.{main_of}
use Rattle.checker.specs.Check.{Source, same_in, main_in}
use Rattle.remarks.specs.Remarks.{Call, begun, called_by, chained, offsets_from}
use Rattle.remarks.specs.Words.{Leads, name_offset}

-- a function is marked by a word that is not 0
abbrev pub unmarked : List ℕ → ℕ → Bool
unmarked l g = eqb (get_or l g 0) 0

-- the first function that one that is marked calls, and that is not marked
unfoldable pub fresh : List ℕ → List Call → Option ℕ
fresh l [] = None
fresh l (c ∷ cs) = elim (unmarked l c.caller) [ true ↦ fresh l cs | false ↦ elim (unmarked l c.callee) [ true ↦ Some c.callee | false ↦ fresh l cs ] ]

-- the calls in the events es with the functions hs
abbrev pub calls_in : (same : ℕ → ℕ → Bool) → List Event → List Head → List Call
calls_in same es hs = scan begun (called_by same hs) 0 es

-- just the functions that a chain of calls leads to from main are marked
pub record Marks (cs : List Call) (main : ℕ) (l : List ℕ) : Type 0 where
  pub led : (g : ℕ) → unmarked l g ≡ false → Leads cs main g
  pub every : (g : ℕ) → Leads cs main g → unmarked l g ≡ false

-- the names of the functions hs have places that fit two bytes
abbrev pub Fits : (ps : List ℕ) → List Head → Type 0
Fits ps hs = (g : ℕ) → g < length hs → name_offset ps hs g < 65536

-- what holds of the functions of an accepted text
pub record Fair (s : Source) (hs : List Head) : Type 0 where
  pub few : length hs ≤ 16
  pub main : main_of (main_in s) hs < length hs
  pub fits : Fits s.places hs

-- the offsets os are written into the first places, and counted
pub record WroteOffsets (os before after : List ℕ) (count : ℕ) : Type 0 where
  pub counts : count ≡ length os
  pub words : after ≡ os ++ drop (length os) before

-- the offsets of a text with the events es, of which hs are the functions
abbrev pub offsets_by : Source → List Event → List Head → List ℕ
offsets_by s es hs = offsets_from (λ g. not (chained (calls_in (same_in s) es hs) (length hs) (main_of (main_in s) hs) g)) s.places 0 hs
