-- The first nodes, tests and outcomes and the words of the checkpoints stay.
use mathlib.Core.Path.{◌≡◌, refl, sym, ap, ◌∙◌, subst}
use mathlib.Core.List.{List}
use Prim.Native.Nat.{ℕ, ◌≤◌}
use native.Mathlib.Omega.{arith}
use Rattle.machine.specs.Layout.{range_low, range_end}
use Rattle.machine.specs.Terms.{Other, Kept}
use Rattle.paths.specs.Choice.{PairsOnly}
use Rattle.machine.specs.declared.Run.{Run}
use Rattle.paths.specs.declared.Point.{Point}
use Rattle.paths.specs.Point.{Stays}
use Rattle.paths.specs.Turn.{spending}

pub stays-none : {m : List ℕ} {n t : ℕ} → Stays m m n t
stays-none = record { nodes = λ k j l a b. refl; tests = λ k j l a b. refl; marks = λ k j a b. refl }

pub stays_same : {m m' : List ℕ} {n t : ℕ} → m' ≡ m → Stays m m' n t
stays_same {m} {m'} {n} {t} e = subst (λ (l : List ℕ). Stays m l n t) (sym e) stays-none

pub stays_then : {m m₁ m₂ : List ℕ} {n t : ℕ} → Stays m m₁ n t → Stays m₁ m₂ n t → Stays m m₂ n t
stays_then a b = record {
  nodes = λ k j l x y. b.nodes k j l x y ∙ a.nodes k j l x y;
  tests = λ k j l x y. b.tests k j l x y ∙ a.tests k j l x y;
  marks = λ k j x y. b.marks k j x y ∙ a.marks k j x y;
}

-- fewer of them
pub stays-less : {m m' : List ℕ} {n t : ℕ} (i c : ℕ) → i ≤ n → c ≤ t → Stays m m' n t → Stays m m' i c
stays-less i c l g s = record { nodes = λ k j h x y. s.nodes k j (omega arith) x y; tests = λ k j h x y. s.tests k j (omega arith) x y; marks = s.marks }

-- where an entry was worked, a range written, or windows
pub stays-kept : {m m' : List ℕ} {n : ℕ} (t : ℕ) → Kept m m' n → Stays m m' n t
stays-kept t s = record { nodes = λ k j l x y. s.noded k j l x y; tests = λ k j l x y. s.tables k j (omega arith) (omega arith); marks = λ k j x y. s.tables k j (omega arith) (omega arith) }

pub stays-range : {m m' : List ℕ} (i n t : ℕ) → Other m m' (range_low i) (range_end i) → Stays m m' n t
stays-range i n t o = record {
  nodes = λ k j l x y. o.outside k (λ u v. omega arith);
  tests = λ k j l x y. o.outside k (λ u v. omega arith);
  marks = λ k j x y. o.outside k (λ u v. omega arith);
}

pub stays-pairs : {m m' : List ℕ} (n t : ℕ) → PairsOnly m m' → Stays m m' n t
stays-pairs n t o = record {
  nodes = λ k j l x y. o.outside k (λ u v. omega arith) (λ u v. omega arith);
  tests = λ k j l x y. o.outside k (λ u v. omega arith) (λ u v. omega arith);
  marks = λ k j x y. o.outside k (λ u v. omega arith) (λ u v. omega arith);
}

-- those of a point with a step less
pub spent-stays : (m m' : List ℕ) (p : Point) (run : Run) (q : Point) → run.nodes ≡ p.run.nodes → q ≡ spending p run → Stays m m' q.run.nodes q.choices → Stays m m' p.run.nodes p.choices
spent-stays m m' p run q one e s = stays-less p.run.nodes p.choices (omega (arith, ap (λ (x : Point). x.run.nodes) e, one)) (omega (arith, ap (λ (x : Point). x.choices) e)) s
