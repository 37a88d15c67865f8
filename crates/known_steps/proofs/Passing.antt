-- Turn after turn.
use Rattle.std.specs.Prelude.{Option, Some, None}
use mathlib.Core.Path.{◌≡◌, refl, sym, ap, ap₂, ◌∙◌, subst}
use mathlib.Core.Bool.{Bool}
use mathlib.Core.List.{List}
use Prim.Native.Nat.{ℕ, zero, suc, ◌-◌, ◌≤◌, ◌<◌}
use native.Mathlib.Omega.{arith}
use Rattle.semantics.specs.Search.{all32}
use Rattle.simulation.specs.Code.{Code}
use Rattle.simulation.specs.Measure.{turns_left}
use Rattle.machine.specs.Memory.{machine_at}
use Rattle.paths.specs.declared.Point.{Point}
use Rattle.paths.specs.Point.{state_at, Going}
use Rattle.paths.proofs.Keeping.{nearer-of}
use Rattle.known_steps.specs.Turns.{Paces, silent, step, Made, Turns, none, more, OneOrTwo, once, twice, One, one, no, moves}

-- ---- one turn

module _ (c : Code) (m m' : List ℕ) (p : Point) (floor : ℕ) where
  one-is : {q : Point} → One c m m' p floor (Some q) → OneOrTwo c m m' p q × (floor ≤ q.steps)
  one-is (one h l) = (h, l)

  pub one-yes : {r : Option Point} → One c m m' p floor r → (q : Point) → r ≡ Some q → OneOrTwo c m m' p q × (floor ≤ q.steps)
  one-yes h q e = one-is (subst (One c m m' p floor) e h)

  no-is : One c m m' p floor None → m' ≡ m
  no-is (no h) = h

  pub one-nothing : {r : Option Point} → One c m m' p floor r → r ≡ None → m' ≡ m
  one-nothing h e = no-is (subst (One c m m' p floor) e h)

-- after a turn the end is nearer
pub nearer : (c : Code) (m m' : List ℕ) (p q : Point) → Going m p → Made c m m' p q → turns_left c (machine_at m' q.run) (state_at m' q) < turns_left c (machine_at m p.run) (state_at m p)
nearer c m m' p q g h = (nearer-of all32 c m m' p q h.move g.ready (h.is all32).is).nearer

pub both-nearer : (c : Code) (m m' : List ℕ) (p q : Point) → Going m p → OneOrTwo c m m' p q → turns_left c (machine_at m' q.run) (state_at m' q) < turns_left c (machine_at m p.run) (state_at m p)
both-nearer c m m' p q g (once h) = nearer c m m' p q g h
both-nearer c m m' p q g (twice m₁ p₁ h k) = omega (arith, nearer c m m₁ p p₁ g h, nearer c m₁ m' p₁ q h.going k)

pub both-going : (c : Code) (m m' : List ℕ) (p q : Point) → OneOrTwo c m m' p q → Going m' q
both-going c m m' p q (once h) = h.going
both-going c m m' p q (twice m₁ p₁ h k) = k.going

pub both-on : (c : Code) (m₀ m m' : List ℕ) (p₀ p q : Point) → Turns c m₀ p₀ m p → OneOrTwo c m m' p q → Turns c m₀ p₀ m' q
both-on c m₀ m m' p₀ p q ts (once h) = more m p ts h
both-on c m₀ m m' p₀ p q ts (twice m₁ p₁ h k) = more m₁ p₁ (more m p ts h) k

-- ---- all turns

pub paced : (p q : Point) (o : Bool) → Paces p o q → q.steps ≤ p.steps
paced p q o (silent e f) = omega arith
paced p q o (step e f) = omega arith

module _ (c : Code) (m : List ℕ) (p : Point) (g : Going m p) where
  pub turns-going : (m' : List ℕ) (q : Point) → Turns c m p m' q → Going m' q
  turns-going m' q (none e f) = subst (λ (l : List ℕ). Going l q) (sym e) (subst (Going m) (sym f) g)
  turns-going m' q (more m₁ p₁ ts h) = h.going

  pub turns-fewer : (m' : List ℕ) (q : Point) → Turns c m p m' q → q.steps ≤ p.steps
  turns-fewer m' q (none e f) = omega (arith, ap (λ (q : Point). q.steps) f)
  turns-fewer m' q (more m₁ p₁ ts h) = omega (arith, turns-fewer m₁ p₁ ts, paced p₁ q h.move h.paces)

  pub turns-forced : (m' : List ℕ) (q : Point) → Turns c m p m' q → q.forced ≡ p.forced
  turns-forced m' q (none e f) = ap (λ (q : Point). q.forced) f
  turns-forced m' q (more m₁ p₁ ts h) = h.forced ∙ turns-forced m₁ p₁ ts

  pub turns-nearer : (m' : List ℕ) (q : Point) → Turns c m p m' q → turns_left c (machine_at m' q.run) (state_at m' q) ≤ turns_left c (machine_at m p.run) (state_at m p)
  turns-nearer m' q (none e f) =
      let z : turns_left c (machine_at m' q.run) (state_at m' q) ≡ turns_left c (machine_at m p.run) (state_at m p) = ap₂ (λ (l : List ℕ) (q : Point). turns_left c (machine_at l q.run) (state_at l q)) e f in
      omega arith
  turns-nearer m' q (more m₁ p₁ ts h) = omega (arith, turns-nearer m₁ p₁ ts, nearer c m₁ m' p₁ q (turns-going m₁ p₁ ts) h)

-- ---- what the moves cost

pub moves-less : (f a b n : ℕ) → b ≤ n → moves f (a - n) ≤ moves f (a - b)
moves-less zero a b n l = omega arith
moves-less (suc f) a b n l = omega arith

pub moves-none : (f a n : ℕ) → n ≡ a → moves f (a - n) ≡ 0
moves-none zero a n e = omega arith
moves-none (suc f) a n e = refl

-- where an outcome is forced, no step is a move
pub forced-none : (f n left : ℕ) → (f ≡ 0 → ⊥) → moves f n ≤ left
forced-none zero n left h = absurd (h refl)
forced-none (suc f) n left h = omega arith

pub forced-all : (f n left : ℕ) → (f ≡ 0 → ⊥) → left ≡ left - moves f n
forced-all zero n left h = absurd (h refl)
forced-all (suc f) n left h = omega arith
