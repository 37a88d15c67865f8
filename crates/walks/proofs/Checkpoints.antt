-- The checkpoints of a search: they are paid for, and they stay where what they rest on does; one more is added.
use mathlib.Core.Path.{◌≡◌, refl, sym, ap, ◌∙◌, subst}
use mathlib.Core.List.{List}
use Prim.Native.Nat.{ℕ, ◌≤◌, ◌<◌}
use native.Mathlib.Omega.{arith}
use lib.ListN.{length, get_or}
use Rattle.semantics.specs.Program.{Window}
use Rattle.semantics.specs.Search.{Value, in_use}
use Rattle.simulation.specs.Code.{Code}
use Rattle.simulation.specs.Machine.{Machine}
use Rattle.simulation.specs.Resume.{Comes}
use Rattle.machine.specs.Layout.{node_place, node_end, test_place, outcome_end, mark_place, index_end}
use Rattle.machine.specs.Memory.{machine_at, starts_in}
use Rattle.machine.proofs.Tables.{room-same}
use Rattle.paths.specs.declared.Point.{Point}
use Rattle.paths.specs.Point.{state_at, Going, Stays}
use Rattle.paths.proofs.Machinery.{machine-stays}
use Rattle.paths.proofs.Table.{starts-same}
use Rattle.checkpoints.specs.Live.{size_of, Small}
use Rattle.checkpoints.specs.Words.{WordSized}
use Rattle.checkpoints.proofs.Beside.{off, machinery-is, state-is, going-is, saved-stays}
use Rattle.walks.specs.declared.Stack.{Stack}
use Rattle.walks.specs.Checkpoints.{ComesTo, Checkpoints, none, more, added, Keeping, passed, kept}
use Rattle.walks.specs.Walk.{Stands}

-- the numbers of a point fit into words
pub small-so : {m : List ℕ} {p : Point} → Going m p → Small p
small-so g = record { depth = omega (arith, g.ready.deep); top = g.ready.tops.small; windows = omega (arith, g.standing.tables.count) }

pub sized-so : {m : List ℕ} {p : Point} → Going m p → p.run.pc < 65536 → WordSized p
sized-so g l = record {
  pc = omega arith;
  base = omega (arith, g.ready.low, g.ready.tops.small);
  nodes = g.ready.few.small;
  steps = omega (arith, g.nodes.small);
  choices = omega (arith, g.choices.small);
  small = small-so g;
}

-- the marks up to w, the first n nodes, the first d tests and outcomes, and the first u starting pairs are as they were
pub record Alike (m m' : List ℕ) (n d u w : ℕ) : Type 0 where
  pub marks : (i x : ℕ) → i < w → mark_place i ≤ x → x < index_end i → get_or m' x 0 ≡ get_or m x 0
  pub nodes : (k j : ℕ) → j < n → node_place j ≤ k → k < node_end j → get_or m' k 0 ≡ get_or m k 0
  pub tests : (k j : ℕ) → j < d → test_place j ≤ k → k < outcome_end j → get_or m' k 0 ≡ get_or m k 0
  pub starts : (k : ℕ) → k ≤ u → starts_in m' k ≡ starts_in m k
  pub len : length m' ≡ length m

pub alike-stays : {m m' : List ℕ} {n d : ℕ} (u w : ℕ) → length m' ≡ length m → ((k : ℕ) → k ≤ u → starts_in m' k ≡ starts_in m k) → Stays m m' n d → Alike m m' n d u w
alike-stays u w e h s = record { marks = λ i x l a b. s.marks x i a b; nodes = s.nodes; tests = s.tests; starts = h; len = e }

module _ (c : Code) (job : Window) (limit cells : ℕ) where
  pub checkpoints-fit : {m : List ℕ} {upto n t u w : ℕ} → Checkpoints c job limit cells m upto n t u w → w ≤ limit
  checkpoints-fit (none a) = omega arith
  checkpoints-fit (more p v ms k a b g fit e) = omega (arith, fit)

  -- of the checkpoints with at most upto' choices, what stood there stood still, and d tests and outcomes have stayed
  pub checkpoints-stay : (m m' : List ℕ) (upto upto' d : ℕ) {n t u w : ℕ} (n' t' u' : ℕ) → ((x : ℕ) → x ≤ t → x ≤ upto' → (x ≤ upto) × (x ≤ d)) → Alike m m' n d u w → n ≤ n' → t ≤ t' → u ≤ u'
      → Checkpoints c job limit cells m upto n t u w → Checkpoints c job limit cells m' upto' n' t' u' w
  checkpoints-stay m m' upto upto' d n' t' u' h a l g f (none e) = none e
  checkpoints-stay m m' upto upto' d n' t' u' h a l g f (more p v ms k x y z fit e) =
      more {n = n'} {t = t'} {u = u'} p v
      (checkpoints-stay m m' upto upto' d p.run.nodes p.choices p.windows (λ i q r. h i (omega arith) r)
      (record { marks = λ i b q. a.marks i b (omega arith); nodes = λ b j i. a.nodes b j (omega arith); tests = a.tests; starts = λ b q. a.starts b (omega arith); len = a.len }) (omega arith) (omega arith) (omega arith) ms)
      (record {
        before = k.before;
        saved = saved-stays cells m m' k.before p v (λ i b q r. a.marks i b (omega arith)) a.len k.saved;
        comes = k.comes;
        few = k.few;
        agrees = λ q.
            let b = h p.choices y q in
            let o = k.agrees b.0 in
            record {
              nodes = λ z j i r s. a.nodes z j (omega arith) r s ∙ o.nodes z j i r s;
              tests = λ z j i r s. a.tests z j (omega (arith, b.1)) r s ∙ o.tests z j i r s;
              starts = a.starts p.windows z ∙ o.starts;
            };
      })
      (omega arith) (omega arith) (omega arith) fit e

-- ---- one more, if it is due

module _ (c : Code) (m m' : List ℕ) (p : Point) (deep : p.run.depth ≤ 32) where
  pub kept-machine : (s r : Stack) → Keeping c m m' p s r → machine_at m' p.run ≡ machine_at m p.run
  kept-machine s r (passed n e f) = ap (λ (l : List ℕ). machine_at l p.run) e
  kept-machine s r (kept due saved k f) = machine-stays (machinery-is m m' s.height (size_of s.cells p) k) p.run deep

  pub kept-state : (s r : Stack) → Keeping c m m' p s r → state_at m' p ≡ state_at m p
  kept-state s r (passed n e f) = ap (λ (l : List ℕ). state_at l p) e
  kept-state s r (kept due saved k f) = state-is m m' s.height (size_of s.cells p) k p

  pub kept-limit : (s r : Stack) → Keeping c m m' p s r → r.limit ≡ s.limit
  kept-limit s r (passed n e f) = ap (λ (s : Stack). s.limit) f
  kept-limit s r (kept due saved k f) = ap (λ (s : Stack). s.limit) f

pub kept-stands : (c : Code) (job : Window) (m m' : List ℕ) (p : Point) (s r : Stack) → length m' ≡ length m → Stands c job m p s → Keeping c m m' p s r → Stands c job m' p r
kept-stands c job m m' p s r len h (passed n e f) = subst (λ (l : List ℕ). Stands c job l p r) (sym e) (subst (Stands c job m p) (sym f) h)
kept-stands c job m m' p s r len h (kept due saved k f) = subst (Stands c job m' p) (sym f) (record {
  going = going-is m m' s.height (size_of s.cells p) k p len h.going;
  few = h.few;
  comes = comes-same;
  stacked = record {
    checkpoints = more p s.height
        (checkpoints-stay c job s.limit s.cells m m' p.choices p.choices p.choices p.run.nodes p.choices p.windows (λ x l g. (l, l)) alike (omega arith) (omega arith) (omega arith) h.stacked.checkpoints)
        (record {
          before = m;
          saved = saved;
          comes = h.comes;
          few = h.few;
          agrees = λ l. record {
            nodes = λ x j i a b. off m m' s.height (size_of s.cells p) k x (λ q u v. omega arith);
            tests = λ x j i a b. off m m' s.height (size_of s.cells p) k x (λ q u v. omega arith);
            starts = starts-are p.windows;
          };
        })
        (omega arith) (omega arith) (omega arith) due.fits refl;
    room = room-same len h.stacked.room;
    uses = h.stacked.uses;
    cells = h.stacked.cells;
  };
})
  where
    starts-are : (i : ℕ) → starts_in m' i ≡ starts_in m i
    starts-are i = starts-same m m' i (λ x a b. off m m' s.height (size_of s.cells p) k x (λ q u v. omega arith))

    alike : Alike m m' p.run.nodes p.choices p.windows s.height
    alike = record {
      marks = λ i x l a b. k.other x (λ j u v f g. omega arith);
      nodes = λ x j i a b. off m m' s.height (size_of s.cells p) k x (λ q u v. omega arith);
      tests = λ x j i a b. off m m' s.height (size_of s.cells p) k x (λ q u v. omega arith);
      starts = λ i l. starts-are i;
      len = len;
    }

    comes-same : ComesTo c job s.limit m' p
    comes-same = subst (λ (x : Machine Value). Comes in_use job c s.limit x (state_at m' p)) (sym (kept-machine c m m' p h.going.ready.deep s (added s p) (kept due saved k refl)))
        (subst (Comes in_use job c s.limit (machine_at m p.run)) (sym (kept-state c m m' p h.going.ready.deep s (added s p) (kept due saved k refl))) h.comes)
