-- What the moves of a search find, and what the choices of a job have: rows, and whether a run is cut.
use Prim.Native.Nat.{ℕ, suc}
use mathlib.Core.Path.{◌≡◌, refl, sym, ap, ap₂, ◌∙◌}
use mathlib.Core.Bool.{Bool, true, false, cond, ◌||◌, or-false, or_assoc}
use mathlib.Core.Option.{Option}
use mathlib.Core.List.{List, [], ◌∷◌, ◌++◌, map, append-nil, append_assoc}
use lib.IntN.{ℤ}
use Rattle.semantics.specs.Does.{Does, returned, failed, cut, stuck, step, free, test}
use Rattle.semantics.specs.Program.{Window}
use Rattle.semantics.specs.Run.{Ending, returns, fails, cuts, Choice, Row}
use Rattle.semantics.specs.Plans.{noted}
use Rattle.semantics.specs.Search.{Value, unknown, under, Test, meets, Move, plain, found, probe, missed, tried, probed}
use Rattle.semantics.proofs.Keep.{keep}
use Rattle.semantics.proofs.Ends.{leaf, started, ends}

-- ---- what is found: rows, and whether a cut run is

pub record Seen : Type 0 where
  pub rows : List Row
  pub cut : Bool

abbrev pub nothing : Seen
nothing = record { rows = []; cut = false }

abbrev pub join : Seen → Seen → Seen
join a b = record { rows = a.rows ++ b.rows; cut = a.cut || b.cut }

abbrev pub seen_move : Move → Seen
seen_move (plain k) = nothing
seen_move (found r) = record { rows = r ∷ []; cut = false }
seen_move (probe o) = record { rows = []; cut = o }

abbrev pub seen_end : Ending → List ℤ → Seen
seen_end (returns z) s = record { rows = record { result = z; values = s } ∷ []; cut = false }
seen_end fails s = nothing
seen_end cuts s = record { rows = []; cut = true }

unfoldable pub seen_in : List Move → Seen
seen_in [] = nothing
seen_in (m ∷ ms) = join (seen_move m) (seen_in ms)

unfoldable pub seen_of : List Choice → Seen
seen_of [] = nothing
seen_of (c ∷ cs) = join (seen_end c.ran.ending c.values) (seen_of cs)

seen-path : {a b : Seen} → a.rows ≡ b.rows → a.cut ≡ b.cut → a ≡ b
seen-path p q = λ i. record { rows = p i; cut = q i }

join-assoc : (a b c : Seen) → join (join a b) c ≡ join a (join b c)
join-assoc a b c = seen-path (append_assoc a.rows b.rows c.rows) (or_assoc a.cut b.cut c.cut)

pub join-nothing : (a : Seen) → join a nothing ≡ a
join-nothing a = seen-path (append-nil a.rows) (or-false a.cut)

pub seen_in-append : (l m : List Move) → seen_in (l ++ m) ≡ join (seen_in l) (seen_in m)
unfolding seen_in
seen_in-append [] m = refl
seen_in-append (x ∷ l) m = ap (join (seen_move x)) (seen_in-append l m) ∙ sym (join-assoc (seen_move x) (seen_in l) (seen_in m))

seen_of-append : (l m : List Choice) → seen_of (l ++ m) ≡ join (seen_of l) (seen_of m)
unfolding seen_of
seen_of-append [] m = refl
seen_of-append (x ∷ l) m = ap (join (seen_end x.ran.ending x.values)) (seen_of-append l m) ∙ sym (join-assoc (seen_end x.ran.ending x.values) (seen_of l) (seen_of m))

seen_of-noted : (o : Bool) (l : List Choice) → seen_of (map (noted o) l) ≡ seen_of l
unfolding seen_of
seen_of-noted o [] = refl
seen_of-noted o (x ∷ l) = ap (join (seen_end x.ran.ending x.values)) (seen_of-noted o l)

pub seen-started : (o : Option Window) (l : List Choice) → seen_of (map (started o) l) ≡ seen_of l
unfolding seen_of
seen-started o [] = refl
seen-started o (x ∷ l) = ap (join (seen_end x.ran.ending x.values)) (seen-started o l)

-- ---- leaves

pub seen-tried : (v : Value) (ts : List Test) (ss : List (List ℤ)) → seen_in (tried v ts ss) ≡ seen_of (map (leaf (λ s. returns (under s v))) (keep (meets ts) ss))
unfolding seen_in seen_of tried keep
seen-tried v ts [] = refl
seen-tried v ts (s ∷ ss) = go (meets ts s) (tried v ts ss) (keep (meets ts) ss) (seen-tried v ts ss)
  where
    go : (b : Bool) (l : List Move) (m : List (List ℤ)) → seen_in l ≡ seen_of (map (leaf (λ s. returns (under s v))) m)
        → join (seen_move (cond b (found (record { result = under s v; values = s })) (plain missed))) (seen_in l) ≡ seen_of (map (leaf (λ s. returns (under s v))) (cond b (s ∷ m) m))
    go true l m h = ap (join (record { rows = record { result = under s v; values = s } ∷ []; cut = false })) h
    go false l m h = h

cut-rows : (ss : List (List ℤ)) → (seen_of (map (leaf (λ s. cuts)) ss)).rows ≡ []
unfolding seen_of
cut-rows [] = refl
cut-rows (s ∷ ss) = cut-rows ss

pub seen-probed : (ts : List Test) (ss : List (List ℤ)) → seen_in (probed ts ss) ≡ seen_of (map (leaf (λ s. cuts)) (keep (meets ts) ss))
unfolding seen_in seen_of probed keep
seen-probed ts [] = refl
seen-probed ts (s ∷ ss) = go (meets ts s) (probed ts ss) (keep (meets ts) ss) (seen-probed ts ss)
  where
    go : (b : Bool) (l : List Move) (m : List (List ℤ)) → seen_in l ≡ seen_of (map (leaf (λ s. cuts)) m)
        → seen_in (cond b (probe true ∷ []) (probe false ∷ l)) ≡ seen_of (map (leaf (λ s. cuts)) (cond b (s ∷ m) m))
    go true l m h = seen-path (sym (cut-rows m)) refl
    go false l m h = h

pub seen-failed : (ss : List (List ℤ)) → nothing ≡ seen_of (map (leaf (λ s. fails)) ss)
unfolding seen_of
seen-failed [] = refl
seen-failed (s ∷ ss) = seen-failed ss

pub ends-nil : (job : Window) (n : ℕ) (t : Does Value) → ends job n t [] ≡ []
unfolding ends keep
ends-nil job n (returned v) = refl
ends-nil job n failed = refl
ends-nil job n cut = refl
ends-nil job n stuck = refl
ends-nil job n (step t) = ends-nil job n t
ends-nil job n (free o k) = ap (map (started o)) (ends-nil job (suc n) (k (unknown n)))
ends-nil job n (test c a b k) = ap₂ (λ l m. map (noted true) l ++ map (noted false) m) (ends-nil job n (k true)) (ends-nil job n (k false))

pub seen-split : (l m : List Choice) → seen_of (map (noted true) l ++ map (noted false) m) ≡ join (seen_of l) (seen_of m)
seen-split l m = seen_of-append (map (noted true) l) (map (noted false) m) ∙ ap₂ join (seen_of-noted true l) (seen_of-noted false m)
