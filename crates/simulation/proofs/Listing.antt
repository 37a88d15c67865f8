-- The search that the machine makes, path after path, gives the answer that the definitions give: for every job, skip, room and budget.
use Prim.Native.Nat.{ℕ, zero, suc, ◌+◌, ◌≤◌, ◌<◌}
use mathlib.Core.Path.{◌≡◌, refl, sym, ap, ◌∙◌, subst}
use mathlib.Core.Bool.{Bool, true, false, cond}
use mathlib.Core.Option.{Option, none, some}
use mathlib.Core.List.{List, [], ◌∷◌, ◌++◌, append_assoc, append-nil}
use native.Mathlib.Omega.{arith}
use native.Mathlib.Nat.{le_of_suc-le-suc, lt_of_lt_of_le}
use lib.IntN.{ℤ}
use Rattle.semantics.specs.Program.{Window, Program}
use Rattle.semantics.specs.Does.{does, within, Sure}
use Rattle.semantics.specs.Run.{Row, Job}
use Rattle.semantics.specs.Search as search
use Rattle.semantics.specs.Search.{Value, known, work, under, Solver, Test, meets, settings, Kind, missed, Move, plain, found, tried, probed, Paths, paths, moves, probed_once, Close, Answer, answer, listed}
use Rattle.simulation.specs.Code.{Code}
use Rattle.simulation.specs.Machine.{Machine, start}
use Rattle.simulation.specs.Path.{State, begins, End, returned, failed, cut, Went, on, ended, turn}
use Rattle.simulation.specs.Lister.{Tally, tally, Next, go, over, then, closed, closing, charge, charged, place, trial, trials, probe, probes, finish, next, Start, back, path, searching, opening}
use Rattle.simulation.proofs.Replay.{Has, ahead, replayed, one-path, take_back, onwards, has_chosen, HasSome, has-next, chosen}
use Rattle.simulation.proofs.Route.{Route, of, route-of}
use Rattle.simulation.specs.Placed.{Placed}
use Rattle.simulation.proofs.Spending.{Fewer, path-fewer}
use Rattle.simulation.specs.Measure.{turns_left, most_turns}
use Rattle.simulation.proofs.Drive.{last, moving, Goes, GoesOn, turn-keeps, goes-start, Kept, Nears, turn-nears, kept-start, turns-le}

-- what is answered where a search has counted t and the answer to what is ahead of it is a
abbrev pub onto : Tally → Answer → Answer
onto t a = record { rows = t.rows ++ a.rows; moves = t.moves + a.moves; close = a.close }

-- what is answered where these moves are ahead
abbrev pub outlook : Tally → List Move → Answer
outlook t ms = onto t (answer (closing t.cut) (probed_once t.cut ms) t.skip t.room t.budget)

-- the answer is a, where the moves ms are ahead of what goes on
abbrev pub Gives : Answer → List Move → Next Tally → Type 0
Gives a ms (go t) = outlook t ms ≡ a
Gives a ms (over r) = r ≡ a

-- then something else is done
gives_then : (a : Answer) (ms ns : List Move) (x : Next Tally) (f : Tally → Next Tally) → Gives a ms x → ((t : Tally) → outlook t ms ≡ a → Gives a ns (f t)) → Gives a ns (then x f)
gives_then a ms ns (go t) f h g = g t h
gives_then a ms ns (over r) f h g = h

answer_eq : {rs rs₂ : List Row} {n n₂ : ℕ} {c : Close} → rs ≡ rs₂ → n ≡ n₂ → ◌≡◌ {A = Answer} (record { rows = rs; moves = n; close = c }) (record { rows = rs₂; moves = n₂; close = c })
answer_eq {c} p q = λ i. record { rows = p i; moves = q i; close = c }

-- the paths of a program's search
abbrev pub tree_of : Solver → Window → ℕ → Program → Paths
tree_of solver job most p = paths solver job (within most 8 (does known work most p)) [] []

module _ (a : Answer) where
  -- ---- a move

  charge-at : (k : Kind) (b s r : ℕ) (rs : List Row) (n : ℕ) (h : Bool) (ms : List Move) → outlook (tally b s r rs n h) (plain k ∷ ms) ≡ a → Gives a ms (charge (tally b s r rs n h))
  unfolding charge answer probed_once
  charge-at k zero s r rs n h ms e = answer_eq (sym (append-nil rs)) (omega arith) ∙ e
  charge-at k (suc b) s r rs n h ms e = answer_eq refl (omega arith) ∙ e

  charge-ok : (k : Kind) (t : Tally) (ms : List Move) → outlook t (plain k ∷ ms) ≡ a → Gives a ms (charge t)
  charge-ok k t ms e = charge-at k t.budget t.skip t.room t.rows t.moves t.cut ms e

  -- ---- settings tried at a return

  place_at : (x : Row) (b s r : ℕ) (rs : List Row) (n : ℕ) (h : Bool) (ms : List Move) → outlook (tally b s r rs n h) (found x ∷ ms) ≡ a → Gives a ms (then (charge (tally b s r rs n h)) (place x))
  unfolding charge place answer probed_once
  place_at x zero s r rs n h ms e = answer_eq (sym (append-nil rs)) (omega arith) ∙ e
  place_at x (suc b) (suc s) r rs n h ms e = answer_eq refl (omega arith) ∙ e
  place_at x (suc b) zero zero rs n h ms e = answer_eq (sym (append-nil rs)) (omega arith) ∙ e
  place_at x (suc b) zero (suc r) rs n h ms e = answer_eq (append_assoc rs (x ∷ []) _) (omega arith) ∙ e

  trial-at : (o : Bool) (x : Row) (t : Tally) (ms : List Move) → outlook t (cond o (found x) (plain missed) ∷ ms) ≡ a
      → Gives a ms (then (charge t) λ u. elim o as (λ o. Next Tally) [ true ↦ place x u | false ↦ go u ])
  trial-at true x t ms e = place_at x t.budget t.skip t.room t.rows t.moves t.cut ms e
  trial-at false x t ms e = gives_then a ms ms (charge t) go (charge-ok missed t ms e) (λ u h. h)

  trial-ok : (v : Value) (ts : List Test) (s : List ℤ) (t : Tally) (ms : List Move)
      → outlook t (cond (meets ts s) (found (record { result = under s v; values = s })) (plain missed) ∷ ms) ≡ a → Gives a ms (trial v ts s t)
  unfolding trial
  trial-ok v ts s t ms e = trial-at (meets ts s) _ t ms e

  trials-ok : (v : Value) (ts : List Test) (ss : List (List ℤ)) (t : Tally) (ms : List Move) → outlook t (tried v ts ss ++ ms) ≡ a → Gives a ms (trials v ts ss t)
  unfolding trials tried
  trials-ok v ts [] t ms e = e
  trials-ok v ts (s ∷ ss) t ms e = gives_then a (tried v ts ss ++ ms) ms (trial v ts s t) (trials v ts ss) (trial-ok v ts s t (tried v ts ss ++ ms) e) (λ u h. trials-ok v ts ss u ms h)

  -- ---- settings tried at a cut

  -- once a cut run was found, no probe is a move
  settled-true : (ts : List Test) (ss : List (List ℤ)) (ms : List Move) → probed_once true (probed ts ss ++ ms) ≡ probed_once true ms
  unfolding probed_once probed
  settled-true ts [] ms = refl
  settled-true ts (s ∷ ss) ms = by (meets ts s) (settled-true ts ss ms)
    where
      by : (o : Bool) → probed_once true (probed ts ss ++ ms) ≡ probed_once true ms → probed_once true (cond o (search.probe true ∷ []) (search.probe false ∷ probed ts ss) ++ ms) ≡ probed_once true ms
      by true h = refl
      by false h = h

  probe-at : (o : Bool) (b s r : ℕ) (rs : List Row) (n : ℕ) (ms ns : List Move) → outlook (tally b s r rs n false) (search.probe o ∷ ms) ≡ a → probed_once o ms ≡ probed_once o ns
      → Gives a ns (then (charge (tally b s r rs n false)) λ u. go (tally u.budget u.skip u.room u.rows u.moves o))
  unfolding charge answer probed_once
  probe-at o zero s r rs n ms ns e q = answer_eq (sym (append-nil rs)) (omega arith) ∙ e
  probe-at true (suc b) s r rs n ms ns e q = ap (λ l. onto (tally b s r rs (suc n) true) (answer (closing true) l s r b)) (sym q) ∙ answer_eq refl (omega arith) ∙ e
  probe-at false (suc b) s r rs n ms ns e q = ap (λ l. onto (tally b s r rs (suc n) false) (answer (closing false) l s r b)) (sym q) ∙ answer_eq refl (omega arith) ∙ e

  probe-ok : (ts : List Test) (s : List ℤ) (ss : List (List ℤ)) (b k r : ℕ) (rs : List Row) (n : ℕ) (ms : List Move) → outlook (tally b k r rs n false) (probed ts (s ∷ ss) ++ ms) ≡ a
      → Gives a (probed ts ss ++ ms) (probe ts s (tally b k r rs n false))
  unfolding probe probed
  probe-ok ts s ss b k r rs n ms e = by (meets ts s) e
    where
      by : (o : Bool) → outlook (tally b k r rs n false) (cond o (search.probe true ∷ []) (search.probe false ∷ probed ts ss) ++ ms) ≡ a
          → Gives a (probed ts ss ++ ms) (then (charge (tally b k r rs n false)) λ u. go (tally u.budget u.skip u.room u.rows u.moves o))
      by true e = probe-at true b k r rs n ms (probed ts ss ++ ms) e (sym (settled-true ts ss ms))
      by false e = probe-at false b k r rs n (probed ts ss ++ ms) (probed ts ss ++ ms) e refl

  probes-at : (h : Bool) (ts : List Test) (s : List ℤ) (ss : List (List ℤ)) (b k r : ℕ) (rs : List Row) (n : ℕ) (ms : List Move)
      → ((t : Tally) → outlook t (probed ts ss ++ ms) ≡ a → Gives a ms (probes ts ss t)) → outlook (tally b k r rs n h) (probed ts (s ∷ ss) ++ ms) ≡ a
      → Gives a ms (elim h as (λ h. Next Tally) [ true ↦ go (tally b k r rs n h) | false ↦ then (probe ts s (tally b k r rs n h)) (probes ts ss) ])
  probes-at true ts s ss b k r rs n ms g e = ap (λ l. onto (tally b k r rs n true) (answer (closing true) l k r b)) (sym (settled-true ts (s ∷ ss) ms)) ∙ e
  probes-at false ts s ss b k r rs n ms g e = gives_then a (probed ts ss ++ ms) ms (probe ts s (tally b k r rs n false)) (probes ts ss) (probe-ok ts s ss b k r rs n ms e) g

  probes-ok : (ts : List Test) (ss : List (List ℤ)) (t : Tally) (ms : List Move) → outlook t (probed ts ss ++ ms) ≡ a → Gives a ms (probes ts ss t)
  unfolding probes probed
  probes-ok ts [] t ms e = e
  probes-ok ts (s ∷ ss) t ms e = probes-at t.cut ts s ss t.budget t.skip t.room t.rows t.moves ms (λ u h. probes-ok ts ss u ms h) e

  -- ---- a path's end, and what follows it

  finish-ok : (e : End) (s : State) (t : Tally) (ms : List Move) → outlook t (last e s ++ ms) ≡ a → Gives a ms (finish e s t)
  unfolding finish last
  finish-ok (returned v) s t ms h = trials-ok v s.tests (settings s.windows) t ms h
  finish-ok failed s t ms h = h
  finish-ok cut s t ms h = probes-ok s.tests (settings s.windows) t ms h

  module _ (tree : Paths) where
    -- the answer is a, where a path starts so
    pub record Opens (b : Start) : Type 0 where
      pub has : Has tree b.forced
      pub gives : outlook b.tally (ahead tree b.forced) ≡ a

    abbrev pub OpensNext : Next Start → Type 0
    OpensNext (go b) = Opens b
    OpensNext (over r) = r ≡ a

    back_at : (x : Option (List Bool)) (t : Tally) → HasSome tree x → outlook t (onwards tree x) ≡ a
        → OpensNext (elim x as (λ x. Next Start) [ none ↦ over (closed (closing t.cut) t) | some q ↦ then (charge t) λ u. go (record { forced = q; tally = u }) ])
    unfolding answer probed_once
    back_at none t h e = answer_eq (sym (append-nil t.rows)) (omega arith) ∙ e
    back_at (some q) t h e = charged (charge t) (charge-ok search.back t (ahead tree q) e)
      where
        charged : (x : Next Tally) → Gives a (ahead tree q) x → OpensNext (then x λ u. go (record { forced = q; tally = u }))
        charged (go u) e = record { has = h; gives = e }
        charged (over r) e = e

    -- the newest true choice is taken back, or the search has ended
    back-ok : (h : List Bool) (t : Tally) → Has tree h → outlook t (onwards tree (next h)) ≡ a → OpensNext (back h t)
    unfolding back
    back-ok h t x e = back_at (next h) t (has-next tree h x) e

    -- the answer is a, where a path has ended so
    pub record Ends (e : End) (s : State) (t : Tally) : Type 0 where
      pub has : Has tree s.chosen
      pub gives : outlook t (last e s ++ onwards tree (next s.chosen)) ≡ a

    ends-ok : (e : End) (s : State) (t : Tally) → Ends e s t → OpensNext (then (finish e s t) (back s.chosen))
    ends-ok e s t h = by (finish e s t) (finish-ok e s t _ h.gives)
      where
        by : (x : Next Tally) → Gives a (onwards tree (next s.chosen)) x → OpensNext (then x (back s.chosen))
        by (go u) g = back-ok s.chosen u h.has g
        by (over r) g = g

    module _ (solver : Solver) (job : Window) (c : Code) where
      -- the answer is a, where the machine is on a path
      pub record Leads (m : Machine Value) (s : State) (t : Tally) : Type 0 where
        pub route : Route
        pub goes : Goes solver job c route m s
        pub has : Has tree route.choices
        pub gives : outlook t (route.moves ++ onwards tree (next route.choices)) ≡ a

      abbrev pub LeadsOn : Went → Tally → Type 0
      LeadsOn (on m s) t = Leads m s t
      LeadsOn (ended e s) t = Ends e s t

      abbrev pub LeadsNext : Went → Next Tally → Type 0
      LeadsNext w (go t) = LeadsOn w t
      LeadsNext w (over r) = r ≡ a

      leads-on : (r : Route) (w : Went) → GoesOn solver job c r w → Has tree r.choices → (t : Tally) → outlook t (r.moves ++ onwards tree (next r.choices)) ≡ a → LeadsOn w t
      leads-on r (on m s) g k t e = record { route = r; goes = g; has = k; gives = e }
      leads-on r (ended x s) g k t e = record {
        has = subst (λ r. Has tree r.choices) (sym g) k;
        gives = subst (λ r. outlook t (r.moves ++ onwards tree (next r.choices)) ≡ a) (sym g) e;
      }

      -- a turn is paid for, if it is a move
      leads-paid : (o : Bool) (r : Route) (w : Went) → GoesOn solver job c r w → Has tree (moving o r).choices → (t : Tally) → outlook t ((moving o r).moves ++ onwards tree (next (moving o r).choices)) ≡ a → LeadsNext w (charged o t)
      leads-paid false r w g k t e = leads-on r w g k t e
      leads-paid true r w g k t e = by (charge t) (charge-ok search.stepped t (r.moves ++ onwards tree (next r.choices)) e)
        where
          by : (x : Next Tally) → Gives a (r.moves ++ onwards tree (next r.choices)) x → LeadsNext w x
          by (go u) e = leads-on r w g k u e
          by (over q) e = e

      -- after a turn the answer is still a
      turn-leads : (m : Machine Value) (s : State) (t : Tally) → Leads m s t → LeadsNext (turn solver job c m s).went (charged (turn solver job c m s).move t)
      turn-leads m s t h =
          let k = turn-keeps solver job c h.route m s h.goes in
          leads-paid (turn solver job c m s).move k.rest (turn solver job c m s).went k.goes (subst (λ r. Has tree r.choices) (sym k.first) h.has) t
          (subst (λ r. outlook t (r.moves ++ onwards tree (next r.choices)) ≡ a) (sym k.first) h.gives)

      -- ---- one path

      pub path-ok : (most n : ℕ) (m : Machine Value) (s : State) (t : Tally) → Leads m s t → Kept c most m s → turns_left c m s < n → OpensNext (path solver job c most n m s t)
      unfolding path
      path-ok most zero m s t h k l = absurd (omega arith)
      path-ok most (suc n) m s t h k l = paid (path-ok most n) (charged (turn solver job c m s).move t) (turn-leads m s t h)
        where
          by : ((m : Machine Value) (s : State) (t : Tally) → Leads m s t → Kept c most m s → turns_left c m s < n → OpensNext (path solver job c most n m s t))
              → (w : Went) (u : Tally) → LeadsOn w u → Nears c most (turns_left c m s) w
              → OpensNext (elim w as (λ w. Next Start) [ on m₂ s₂ ↦ path solver job c most n m₂ s₂ u | ended e s₂ ↦ then (finish e s₂ u) (back s₂.chosen) ])
          by g (on m₂ s₂) u x y = g m₂ s₂ u x y.kept (lt_of_lt_of_le y.nearer (le_of_suc-le-suc l))
          by g (ended e s₂) u x y = ends-ok e s₂ u x

          paid : ((m : Machine Value) (s : State) (t : Tally) → Leads m s t → Kept c most m s → turns_left c m s < n → OpensNext (path solver job c most n m s t)) → (z : Next Tally) → LeadsNext (turn solver job c m s).went z
              → OpensNext (then z λ u. elim (turn solver job c m s).went as (λ w. Next Start) [ on m₂ s₂ ↦ path solver job c most n m₂ s₂ u | ended e s₂ ↦ then (finish e s₂ u) (back s₂.chosen) ])
          paid g (go u) x = by g (turn solver job c m s).went u x (turn-nears c solver job most m s k)
          paid g (over r) x = x

  -- ---- all paths

  module _ (solver : Solver) (job : Window) (c : Code) (most : ℕ) (p : Program) (placing : Placed c p) (sure : Sure (does known work most p)) where
    -- a path starts on its route
    pub leads-start : (b : Start) → Opens (tree_of solver job most p) b → Leads (tree_of solver job most p) solver job c (start known work c) (begins most b.forced) b.tally
    leads-start b o =
        let t = tree_of solver job most p in
        record {
          route = of t b.forced;
          goes = subst (λ r. Goes solver job c r (start known work c) (begins most b.forced)) (route-of solver job (does known work most p) most 8 [] [] b.forced o.has) (goes-start solver job c most p placing sure b.forced);
          has = has_chosen t b.forced o.has;
          gives = ap (outlook b.tally) (sym (one-path t b.forced o.has ∙ ap (λ l. replayed t b.forced ++ l) (take_back t (chosen t b.forced) (has_chosen t b.forced o.has)))) ∙ o.gives;
        }

    searching-ok : (k n : ℕ) → most_turns c most ≤ n → (b : Start) → Opens (tree_of solver job most p) b → b.tally.budget < k → searching solver job c most k n b ≡ a
    unfolding searching
    searching-ok zero n l b o g = absurd (omega arith)
    searching-ok (suc k) n l b o g =
        by (searching-ok k n l) (path solver job c most n (start known work c) (begins most b.forced) b.tally)
        (path-ok (tree_of solver job most p) solver job c most n _ _ _ (leads-start b o) (kept-start c most b.forced) (lt_of_lt_of_le (turns-le c most _ _ (kept-start c most b.forced)) l))
        (path-fewer solver job c most n _ _ b.tally)
      where
        by : ((b : Start) → Opens (tree_of solver job most p) b → b.tally.budget < k → searching solver job c most k n b ≡ a) → (x : Next Start) → OpensNext (tree_of solver job most p) x → Fewer b.tally.budget x
            → elim x as (λ x. Answer) [ go b₂ ↦ searching solver job c most k n b₂ | over r ↦ r ] ≡ a
        by f (go b₂) y z = f b₂ y (lt_of_lt_of_le z (le_of_suc-le-suc g))
        by f (over r) y z = y

-- where the search starts, the answer is the one that the definitions give
pub opens-start : (solver : Solver) (j : Job) (skip room budget : ℕ) → Opens (listed solver j skip room budget) (tree_of solver j.window j.steps j.program) (opening skip room budget)
unfolding listed search.search search.openly ahead Has
opens-start solver j skip room budget = record { has = tt; gives = answer_eq refl (omega arith) }

-- The search that the machine makes on a program's code answers what the definitions say, for every solver, job, skip, room and budget:
-- where k allows more paths than the budget has moves, and n as many turns as a path can have.
pub placed-lists : (solver : Solver) (j : Job) (c : Code) → Placed c j.program → Sure (does known work j.steps j.program) → (skip room budget : ℕ) (k n : ℕ) → budget < k
    → most_turns c j.steps ≤ n
    → searching solver j.window c j.steps k n (opening skip room budget) ≡ listed solver j skip room budget
placed-lists solver j c h u skip room budget k n g l =
    searching-ok (listed solver j skip room budget) solver j.window c j.steps j.program h u k n l (opening skip room budget) (opens-start solver j skip room budget) g
