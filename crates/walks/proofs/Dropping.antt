-- The newest checkpoint, and those that are left when the newer ones are dropped.
use mathlib.Core.Path.{◌≡◌, refl, sym, ap, ◌∙◌, subst}
use mathlib.Core.List.{List}
use Prim.Native.Nat.{ℕ, ◌+◌, ◌-◌, ◌*◌, ◌≤◌, ◌<◌}
use native.Mathlib.Omega.{arith}
use Rattle.semantics.specs.Program.{Window}
use Rattle.simulation.specs.Code.{Code}
use Rattle.paths.specs.declared.Point.{Point}
use Rattle.checkpoints.specs.Live.{size_of, number_count}
use Rattle.checkpoints.specs.Words.{point_at}
use Rattle.walks.specs.declared.Stack.{Stack}
use Rattle.walks.specs.Checkpoints.{Checkpoint, Checkpoints, none, more, Dropped}

module _ (c : Code) (job : Window) (limit cells : ℕ) (m : List ℕ) (upto : ℕ) where
  -- the newest of the checkpoints up to mark w; its numbers are the last
  pub record Newest (n t u w : ℕ) : Type 0 where
    pub point : Point
    pub start : ℕ
    pub older : Checkpoints c job limit cells m upto point.run.nodes point.choices point.windows start
    pub is : Checkpoint c job limit cells m upto point start
    pub nodes : point.run.nodes ≤ n
    pub choices : point.choices ≤ t
    pub windows : point.windows ≤ u
    pub fits : 3 * w + 2 * point.steps ≤ 3 * limit
    pub size : w ≡ start + size_of cells point
    pub reads : point_at m (w - number_count) ≡ point

  pub newest : {n t u w : ℕ} → number_count ≤ w → Checkpoints c job limit cells m upto n t u w → Newest n t u w
  newest l (none e) = absurd (omega arith)
  newest {w = w} l (more p v ms k a b g fit e) = record {
    point = p;
    start = v;
    older = ms;
    is = k;
    nodes = a;
    choices = b;
    windows = g;
    fits = fit;
    size = e;
    reads = ap (point_at m) {x = w - number_count} {y = v + size_of cells p - number_count} (omega arith) ∙ k.saved.numbers;
  }

  -- where there is none
  pub empty : {n t u w : ℕ} → w < number_count → Checkpoints c job limit cells m upto n t u w → w ≡ 0
  empty l (none e) = e
  empty l (more p v ms k a b g fit e) = absurd (omega arith)

  -- the bounds may be higher
  pub raised : {n t u w : ℕ} (n' t' u' : ℕ) → n ≤ n' → t ≤ t' → u ≤ u' → Checkpoints c job limit cells m upto n t u w → Checkpoints c job limit cells m upto n' t' u' w
  raised n' t' u' l g f (none e) = none e
  raised n' t' u' l g f (more p v ms k a b z fit e) = more {n = n'} {t = t'} {u = u'} p v ms k (omega arith) (omega arith) (omega arith) fit e

-- ---- one by one

-- the checkpoints up to mark w are among those of the stack
pub record Left (m : List ℕ) (s : Stack) (w : ℕ) : Type 0 where
  pub is : (c : Code) (job : Window) (upto n t u : ℕ) → Checkpoints c job s.limit s.cells m upto n t u s.height → Checkpoints c job s.limit s.cells m upto n t u w
  pub fewer : w ≤ s.height

pub left-all : (m : List ℕ) (s : Stack) → Left m s s.height
left-all m s = record { is = λ c job upto n t u h. h; fewer = omega arith }

pub left_less : (m : List ℕ) (s : Stack) (w : ℕ) (p : Point) → number_count ≤ w → p ≡ point_at m (w - number_count) → Left m s w → Left m s (w - size_of s.cells p)
left_less m s w p l e h = record {
  is = λ c job upto n t u k.
      let o = newest c job s.limit s.cells m upto l (h.is c job upto n t u k) in
      let q : p ≡ o.point = e ∙ o.reads in
      subst (Checkpoints c job s.limit s.cells m upto n t u) {x = o.start} {y = w - size_of s.cells p} (omega (arith, o.size, ap (size_of s.cells) q))
      (raised c job s.limit s.cells m upto n t u o.nodes o.choices o.windows o.older);
  fewer = omega (arith, h.fewer);
}

pub dropped-here : (m : List ℕ) (s : Stack) (w : ℕ) (p : Point) (i : ℕ) (r : Stack) → number_count ≤ w → p ≡ point_at m (w - number_count) → p.choices ≤ i → Left m s w
    → r ≡ record { height = w; limit = s.limit; cells = s.cells } → Dropped m s i r
dropped-here m s w p i r l e f h g = subst (Dropped m s i) (sym g) (record {
  is = λ c job upto n t u k.
      let o = newest c job s.limit s.cells m upto l (h.is c job upto n t u k) in
      let q : p ≡ o.point = e ∙ o.reads in
      more {n = n} {t = i} {u = u} o.point o.start o.older o.is o.nodes (omega (arith, ap (λ (p : Point). p.choices) q)) o.windows o.fits o.size;
  limit = refl;
  cells = refl;
  fewer = h.fewer;
})

pub dropped-all : (m : List ℕ) (s : Stack) (w i : ℕ) (r : Stack) → w < number_count → Left m s w → r ≡ record { height = 0; limit = s.limit; cells = s.cells } → Dropped m s i r
dropped-all m s w i r l h g = subst (Dropped m s i) (sym g) (record { is = λ c job upto n t u k. none refl; limit = refl; cells = refl; fewer = omega arith })
