-- One turn: what an entry did that makes no node is a turn of the path, within the limits.
use Rattle.std.specs.Prelude.{Some, None}
use mathlib.Core.Path.{◌≡◌, refl, sym, subst}
use mathlib.Core.Bool.{Bool, false}
use mathlib.Core.List.{List}
use Prim.Native.Nat.{ℕ, ◌+◌, ◌-◌, ◌≤◌}
use native.Mathlib.Omega.{arith}
use lib.Dec.{eqb}
use lib.IntN.{ℤ}
use lib.ListN.{length}
use Rattle.semantics.specs.Int.{holds}
use Rattle.semantics.specs.Program.{Window}
use Rattle.semantics.specs.Search.{Value, known, work, all32, in_use}
use Rattle.simulation.specs.Code.{Code}
use Rattle.simulation.specs.Machine.{Doing, advance}
use Rattle.simulation.specs.Path.{turn}
use Rattle.ints.specs.Meaning.{of_comparison}
use Rattle.ints.specs.declared.Comparison.{Comparison}
use Rattle.machine.specs.Memory.{machine_at}
use Rattle.machine.specs.Terms.{Goes, Tested, flagged}
use Rattle.machine.specs.declared.Value.TheVariants.{Known}
use Rattle.machine.specs.declared.Run.{Run}
use Rattle.paths.specs.declared.Point.{Point}
use Rattle.paths.specs.declared.Turned.TheVariants.{On}
use Rattle.paths.specs.Choice.{Tables}
use Rattle.paths.specs.Point.{state_at, Standing, Going, Compared, running}
use Rattle.paths.specs.Turn.{Grown, Onward, spending}
use Rattle.paths.proofs.Stays.{stays-none, stays-kept}
use Rattle.paths.proofs.Comparing.{compared-so}
use Rattle.paths.proofs.Turning.{step-on, spent-standing, test_on}
use Rattle.paths.proofs.Keeping.{standing-kept, growing-kept, silent-on, onwards, turned, test-turned}
use Rattle.known_steps.specs.Turns.{silent, step, Made, OneOrTwo, once, One, one, no}
use Rattle.known_steps.proofs.Decided.{decided-known}

module _ (c : Code) (m : List ℕ) (p : Point) (g : Going m p) where
  abbrev did : Doing Value
  did = advance known work c (machine_at m p.run)

  -- an entry without a step
  pub silent-made : (m' : List ℕ) (r : Run) → length m' ≡ length m → Goes Doing.silent 0 did m p.run.nodes m' r → Made c m m' p (running p r)
  silent-made m' r len h = record {
    move = false;
    is = λ job. silent-on m p job c g.standing m' r (running p r) len h refl;
    going = onwards all32 c m m' p (On false (running p r)) g len (silent-on m p all32 c g.standing m' r (running p r) len h refl);
    stays = stays-kept p.choices h.kept;
    len = len;
    paces = silent refl refl;
    forced = refl;
  }

  -- an entry with a step
  module _ (l : 1 ≤ p.steps) where
    spent-once : p.steps - 1 + 1 ≡ p.steps
    spent-once = omega arith

    module _ (m' : List ℕ) (r : Run) (len : length m' ≡ length m) (h : Goes Doing.step 1 did m p.run.nodes m' r) (same : r.nodes ≡ p.run.nodes) where
      stood : Standing m' p
      stood = standing-kept p h.kept len g.standing

      grown : Grown m' m' p.windows p.run.nodes r.nodes
      grown = record { other = record { outside = λ k l. refl }; tables = subst (Tables m' p.windows) (sym same) stood.tables }

      stepped : (job : Window) → Onward (turn in_use job c (machine_at m p.run) (state_at m p)) m' p (eqb p.forced 0) (spending p r) × Going m' (spending p r)
      stepped job = turned m p job c g m' m' (On (eqb p.forced 0) (spending p r)) (Doing.step (machine_at m' r)) h.kept len h.is
          (step-on m' p m' r (spending p r) stood h.ready (growing-kept h) l refl grown refl job)

      pub step-made : Made c m m' p (spending p r)
      step-made = record {
        move = eqb p.forced 0;
        is = λ job. (stepped job).0;
        going = (stepped all32).1;
        stays = stays-kept p.choices h.kept;
        len = len;
        paces = step refl spent-once;
        forced = refl;
      }

    -- a comparison of two numbers
    module _ (o : Comparison) (x y : ℤ) (r : Run) (t : Tested did m p.run.nodes m o (Known x) (Known y) r) where
      abbrev outcome : Bool
      outcome = holds (of_comparison o) x y

      abbrev after : Point
      after = spending p (flagged r outcome)

      compared : Compared m m (spending p r) (of_comparison o) (Known x) (Known y) after
      compared = compared-so m (spending p r) (of_comparison o) (Known x) (Known y) (spent-standing m p r (spending p r) t.nodes g.standing refl) t.ready outcome after
          (sym (decided-known (of_comparison o) x y)) refl

      tested : (job : Window) → Onward (turn in_use job c (machine_at m p.run) (state_at m p)) m p (eqb p.forced 0) after × Going m after
      tested job = test-turned m p job c g m m (On (eqb p.forced 0) after) o (Known x) (Known y) r refl t
          (test_on m p m r (of_comparison o) (Known x) (Known y) (spending p r) after t.nodes l refl compared job)

      pub test-made : Made c m m p after
      test-made = record {
        move = eqb p.forced 0;
        is = λ job. (tested job).0;
        going = (tested all32).1;
        stays = stays-none;
        len = refl;
        paces = step refl spent-once;
        forced = refl;
      }

-- ---- what one turn answers

pub one-both : (c : Code) (m m' : List ℕ) (p : Point) (floor : ℕ) (r q : Point) → r ≡ q → OneOrTwo c m m' p q → floor ≤ q.steps → One c m m' p floor (Some r)
one-both c m m' p floor r q e h l = subst (λ (q : Point). One c m m' p floor (Some q)) (sym e) (one h l)

pub one-made : (c : Code) (m m' : List ℕ) (p : Point) (floor : ℕ) (r q : Point) → r ≡ q → Made c m m' p q → floor ≤ q.steps → One c m m' p floor (Some r)
one-made c m m' p floor r q e h l = one-both c m m' p floor r q e (once h) l

-- there is none
pub no_turn : {c : Code} {m : List ℕ} {p : Point} {floor : ℕ} → One c m m p floor None
no_turn = no refl
