-- List keeps the third demand, for every text; a refusal leaves both slices as they were; what the slices held changes no answer.
use Prim.Native.Nat.{ℕ, ◌/◌}
use mathlib.Core.Path.{◌≡◌, refl, sym, subst, ap, ap₂, ◌∙◌}
use mathlib.Core.List.{List}
use Rattle.std.specs.Prelude.{Option, None, Some}
use lib.ListN.{length}
use lib.IntN.{ℤ, pos, negsuc}
use lib.Dec.{T, le→leb}
use lib.Signed.{le_z}
use native.Mathlib.Omega.{arith}
use mir.Syntax.{w32}
use mir.Val.{SFits}
use Rattle.checker.specs.Check as C
use Rattle.checker.specs.Check.{Verdict, checked}
use Rattle.semantics.specs.Run.{Row}
use Rattle.semantics.specs.Plans.{plans}
use Rattle.semantics.specs.Search as S
use Rattle.semantics.specs.Search.{known, work, to, in_use}
use Rattle.semantics.specs.Demand.{In32}
use Rattle.semantics.specs.Promise.{Promised}
use Rattle.semantics.proofs.Theorems.{Job32, plan-list, plan-list-unique, promise, promise-unique, in_use-sound}
use Rattle.simulation.specs.Code.{code_of}
use Rattle.simulation.proofs.Placed.{placed}
use Rattle.simulation.specs.Measure.{most_turns}
use Rattle.simulation.proofs.Listing.{placed-lists}
use Rattle.simulation.proofs.First.{taken_back}
use Rattle.list.specs.List.{program, job_of, places, Answer, refused, listed, Left, ground, refuses, lists, answering, list}
use Rattle.list.specs.Promise.{answer_with, Keeps}
use Rattle.list.proofs.Sure.{never_stuck, pairs-32, pairs-upward}

-- ---- a window of 32 bits

pub in-32 : (low high : ℤ) → SFits w32 low → SFits w32 high → In32 (to low high)
in-32 low high f g = (least low f, most high g)
  where
    least : (z : ℤ) → SFits w32 z → T (le_z (negsuc 2147483647) z)
    least (pos n) h = tt
    least (negsuc n) h = le→leb n 2147483647 (omega (arith, h.sfits))

    most : (z : ℤ) → SFits w32 z → T (le_z z (pos 2147483647))
    most (pos n) h = le→leb n 2147483647 (omega (arith, h.sfits))
    most (negsuc n) h = tt

-- ---- list

abbrev number_in : Answer → ℕ
number_in (refused n p) = n
number_in (listed r m c) = 0

abbrev place_in : Answer → ℕ
place_in (refused n p) = p
place_in (listed r m c) = 0

abbrev Refusal : Answer → Type 0
Refusal (refused n p) = Unit {0}
Refusal (listed r m c) = ⊥

-- a record by its parts
left-path : {k l : Left} → k.answer ≡ l.answer → k.rows ≡ l.rows → k.scratch ≡ l.scratch → k ≡ l
left-path p q r = λ i. record { answer = p i; rows = q i; scratch = r i }

module _ (text : List ℕ) (low high : ℤ) (steps skip budget : ℕ) (rows : List ℤ) (scratch : List ℕ) where
  abbrev found : S.Answer
  found = S.listed in_use (job_of text low high steps) skip (places rows) budget

  unfolds : (g : Option ℕ) (v : Verdict) → ground (length scratch) low high steps ≡ g → checked text ≡ v → list text low high steps skip budget rows scratch ≡ answering rows scratch found g v
  unfolding list
  unfolds g v e f = ap (λ (g : Option ℕ). answering rows scratch found g (checked text)) e ∙ ap (answering rows scratch found g) f

  -- the third demand, for every job that is not refused; low and high are of 32 bits, as list takes them
  module _ (f : SFits w32 low) (h : SFits w32 high) (g : ground (length scratch) low high steps ≡ None) (v : checked text ≡ C.accepted) where
    small : Job32 (job_of text low high steps)
    small = record { window = in-32 low high f h; pairs = pairs-32 text v }

    pub keeps : Keeps text low high steps skip budget rows scratch (list text low high steps skip budget rows scratch)
    keeps =
        let e = unfolds None C.accepted g v in
        let j = job_of text low high steps in
        record {
          plans = plans j;
          fixed = plan-list j small;
          alone = plan-list-unique j small;
          written = found.rows;
          moves = found.moves;
          ending = found.close;
          answered = ap (λ (l : Left). l.answer) e;
          slice = ap (λ (l : Left). l.rows) e;
          cleared = ap (λ (l : Left). l.scratch) e;
          closes = promise in_use in_use-sound j small skip (places rows) budget;
          code = code_of (program text);
          coded = placed (program text) (pairs-upward text v);
          searches = λ c p. record {
            enough = most_turns c steps;
            gives = λ k n l m. placed-lists in_use j c p (never_stuck text v known work steps) skip (places rows) budget k n l m;
            back = λ earlier p q w. taken_back in_use (to low high) c steps w;
          };
        }

    -- and nothing else keeps it: what keeps the demand is what list answers and leaves
    pub keeps-only : (left : Left) → Keeps text low high steps skip budget rows scratch left → left ≡ list text low high steps skip budget rows scratch
    keeps-only left k =
        let j = job_of text low high steps in
        let a : answer_with k.written k.moves k.ending ≡ found =
        promise-unique in_use in_use-sound j small skip (places rows) budget _ (subst (λ (l : List Row). Promised in_use j l skip (places rows) budget (answer_with k.written k.moves k.ending)) (plan-list-unique j small k.plans k.fixed) k.closes) in
        left-path k.answered k.slice k.cleared ∙ ap (lists rows scratch) a ∙ sym (unfolds None C.accepted g v)

  -- a refusal leaves both slices as they were
  untouched-by : (g : Option ℕ) (v : Verdict) (n p : ℕ) → (answering rows scratch found g v).answer ≡ refused n p → answering rows scratch found g v ≡ refuses rows scratch n p
  untouched-by (Some m) v n p e = ap₂ (refuses rows scratch) (ap number_in e) (ap place_in e)
  untouched-by None (C.refused m q) n p e = ap₂ (refuses rows scratch) (ap number_in e) (ap place_in e)
  untouched-by None C.accepted n p e = absurd (subst Refusal (sym e) tt)

  pub untouched : (n p : ℕ) → (list text low high steps skip budget rows scratch).answer ≡ refused n p → list text low high steps skip budget rows scratch ≡ refuses rows scratch n p
  unfolding list
  untouched n p e = untouched-by (ground (length scratch) low high steps) (checked text) n p e

-- ---- whatever the slices held

abbrev answer_by : Option ℕ → Verdict → S.Answer → Answer
answer_by (Some n) v a = refused n 0
answer_by None (C.refused n p) a = refused n p
answer_by None C.accepted a = listed (length a.rows) a.moves a.close

same_by : (rows : List ℤ) (scratch : List ℕ) (a : S.Answer) (g : Option ℕ) (v : Verdict) → (answering rows scratch a g v).answer ≡ answer_by g v a
same_by rows scratch a (Some n) v = refl
same_by rows scratch a None (C.refused n p) = refl
same_by rows scratch a None C.accepted = refl

module _ (text : List ℕ) (low high : ℤ) (steps skip budget : ℕ) where
  -- the answer is the same for slices of the same lengths
  pub same : (rows held : List ℤ) (scratch dirty : List ℕ) → length rows ≡ length held → length scratch ≡ length dirty → (list text low high steps skip budget rows scratch).answer ≡ (list text low high steps skip budget held dirty).answer
  unfolding list
  same rows held scratch dirty e f =
      same_by rows scratch _ (ground (length scratch) low high steps) (checked text)
      ∙ ap₂ (λ (n m : ℕ). answer_by (ground n low high steps) (checked text) (S.listed in_use (job_of text low high steps) skip (m / 10) budget)) f e
      ∙ sym (same_by held dirty _ (ground (length dirty) low high steps) (checked text))
