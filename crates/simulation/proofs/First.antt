-- Each choice taken back, anywhere in a search, leaves variables, windows and tests as they were when it was made: on the path on which it was new.
use Prim.Native.Nat.{ℕ}
use mathlib.Core.Path.{◌≡◌, refl, sym, ap, ap₂, ◌∙◌, subst}
use mathlib.Core.Bool.{Bool, true, false}
use mathlib.Core.Option.{some}
use mathlib.Core.List.Memᴰ
use mathlib.Core.List.{List, [], ◌∷◌, ◌++◌}
use Rattle.semantics.specs.Program.{Window}
use Rattle.semantics.specs.Search.{Value, known, work, Solver}
use Rattle.semantics.specs.Demand.{◌∈◌}
use Rattle.simulation.specs.Code.{Code}
use Rattle.simulation.specs.Machine.{Machine, start}
use Rattle.simulation.specs.Path.{State, begins, outcome, later, End, ended, turn}
use Rattle.simulation.specs.Lister.{next}
use Rattle.simulation.specs.Back.{Passes, ChoiceAt, Searched, opens, follows, TakenBack}
use Rattle.simulation.specs.Resume.{forcing}
use Rattle.simulation.proofs.Back.{Newest, Flips, flips, Some, first, others, some-append, Trace, nothing, plain, chose, Traced, traced, trace-chosen, trace-none, replay, Found, came-to, same-choice}

-- ---- lists of outcomes

-- where q is front and one more, and begins with x and has more, then x is followed by something in front and u and rest too
record Splits (x l : List Bool) : Type 0 where
  next : Bool
  rest : List Bool
  split : l ≡ x ++ next ∷ rest

splits : (x f front rest : List Bool) (o z u : Bool) → x ++ o ∷ f ≡ front ++ z ∷ [] → Splits x (front ++ u ∷ rest)
splits [] f [] rest o z u e = record { next = u; rest = rest; split = refl }
splits [] f (a ∷ front) rest o z u e = record { next = a; rest = front ++ u ∷ rest; split = refl }
splits (b ∷ x) f [] rest o z u e = absurd (subst Some (ap others e) (some-append x f o))
splits (b ∷ x) f (a ∷ front) rest o z u e =
    let s = splits x f front rest o z u (ap others e) in
    record { next = s.next; rest = s.rest; split = ap₂ (λ (c : Bool) (l : List Bool). c ∷ l) (sym (ap first e)) s.split }

-- ---- the paths of a search

module _ (solver : Solver) (job : Window) (c : Code) where
  -- while outcomes are forced, they are those that were forced at the start, less those made since
  trace-forced : {m m₂ : Machine Value} {s s₂ : State} {d : List Bool} → Trace solver job c m s d m₂ s₂ → Some s₂.forced → s.forced ≡ d ++ s₂.forced
  trace-forced nothing h = refl
  trace-forced (plain e p t) h = sym p.forced ∙ trace-forced t h
  trace-forced (chose {s = s} {s₃ = s₃} {d = d} e p t) h = by s.forced (sym p.forced ∙ trace-forced t h)
    where
      by : (f : List Bool) → later f ≡ d ++ s₃.forced → f ≡ outcome f ∷ (d ++ s₃.forced)
      by [] e = absurd (some_of d e)
        where
          some_of : (d : List Bool) → [] ≡ d ++ s₃.forced → ⊥
          some_of [] e = subst Some (sym e) h
          some_of (o ∷ d) e = subst Some (sym e) tt
      by (o ∷ f) e = ap (λ (l : List Bool). o ∷ l) e

  module _ (most : ℕ) where
    -- a choice with the outcomes g before it was made on one of the paths, not forced
    record Made (paths : List (List Bool)) (g : List Bool) : Type 0 where
      path : List Bool
      among : path ∈ paths
      machine : Machine Value
      state : State
      passes : Passes solver job c (start known work c) (begins most path) machine state
      choice : ChoiceAt solver job c machine state
      before : state.chosen ≡ g
      new : state.forced ≡ []

    among-more : {paths : List (List Bool)} {g : List Bool} (q : List Bool) → Made paths g → Made (q ∷ paths) g
    among-more q m = record { path = m.path; among = Memᴰ.tail m.among; machine = m.machine; state = m.state; passes = m.passes; choice = m.choice; before = m.before; new = m.new }

    here-made : {earlier : List (List Bool)} {p : List Bool} {m : Machine Value} {s : State} → Passes solver job c (start known work c) (begins most p) m s → ChoiceAt solver job c m s → s.forced ≡ [] → Made (p ∷ earlier) s.chosen
    here-made {earlier} {p} {m} {s} r k e = record { path = p; among = Memᴰ.head refl; machine = m; state = s; passes = r; choice = k; before = refl; new = e }

    -- a point of a path at which a choice with the outcomes g before it stands
    record Met (p g : List Bool) : Type 0 where
      machine : Machine Value
      state : State
      passes : Passes solver job c (start known work c) (begins most p) machine state
      choice : ChoiceAt solver job c machine state
      before : state.chosen ≡ g

    met_of : {p g : List Bool} {o : Bool} → Found solver job c (start known work c) (begins most p) g o → Met p g
    met_of u = record { machine = u.machine; state = u.state; passes = u.passes; choice = u.choice; before = trace-chosen solver job c u.trace ∙ u.is }

    -- where the next path comes to a choice with an outcome still forced, the path before it came to that choice too
    module _ {p₁ q : List Bool} {m₁ m : Machine Value} {s₁ s₂ s : State} {e₁ : End} (r₁ : Passes solver job c (start known work c) (begins most p₁) m₁ s₁) (x : (turn solver job c m₁ s₁).went ≡ ended e₁ s₂) where
      met_by : (t : Traced solver job c (start known work c) (begins most q) m s) (b : Newest s₂.chosen q) (o : Bool) (f : List Bool) → s.forced ≡ o ∷ f → Splits t.outcomes (b.front ++ true ∷ b.rest)
      met_by t b o f e = splits t.outcomes f b.front b.rest o false true (sym (trace-forced t.trace (subst Some (sym e) tt) ∙ ap (λ (l : List Bool). t.outcomes ++ l) e) ∙ b.flipped)

      met_at : (t : Traced solver job c (start known work c) (begins most q) m s) (b : Newest s₂.chosen q) → Splits t.outcomes (b.front ++ true ∷ b.rest) → Met p₁ s.chosen
      met_at t b z = subst (Met p₁) (sym (trace-chosen solver job c t.trace)) (met_of (came-to solver job c most p₁ r₁ x t.outcomes z.rest z.next (b.split ∙ z.split)))

      met-before : next s₂.chosen ≡ some q → Passes solver job c (start known work c) (begins most q) m s → (o : Bool) (f : List Bool) → s.forced ≡ o ∷ f → Met p₁ s.chosen
      met-before n r o f e = met_at (traced solver job c r) b (met_by (traced solver job c r) b o f e)
        where
          b : Newest s₂.chosen q
          b = subst (Flips s₂.chosen) n (flips s₂.chosen)

    -- each choice that a path comes to was made on it or on an earlier one
    first_made : {earlier : List (List Bool)} {p : List Bool} → Searched solver job c most earlier p → {m : Machine Value} {s : State} → Passes solver job c (start known work c) (begins most p) m s → ChoiceAt solver job c m s → Made (p ∷ earlier) s.chosen
    first_made opens r k = here-made r k (trace-none solver job c (traced solver job c r).trace refl)
    first_made (follows {earlier} {p = p₁} {q} w r₁ x n) {m} {s} r k = by s.forced refl (λ u. subst (Made (p₁ ∷ earlier)) u.before (first_made w u.passes u.choice))
      where
        by : (f : List Bool) → s.forced ≡ f → (Met p₁ s.chosen → Made (p₁ ∷ earlier) s.chosen) → Made (q ∷ (p₁ ∷ earlier)) s.chosen
        by [] e made = here-made r k e
        by (o ∷ f) e made = among-more q (made (met-before r₁ x n r o f e))

    -- Whenever a path has ended and a choice is taken back for the next one, what stands where that one comes to the choice is what stood when the choice was made.
    pub taken_back : {earlier : List (List Bool)} {p q : List Bool} → Searched solver job c most (p ∷ earlier) q → TakenBack solver job c most (p ∷ earlier) q
    taken_back {earlier} {p} {q} (follows {s₂ = s₂} w r x n) =
        let b : Newest s₂.chosen q = subst (Flips s₂.chosen) n (flips s₂.chosen) in
        let u = came-to solver job c most p r x b.front b.rest true b.split in
        let h = first_made w u.passes u.choice in
        let chosen : u.state.chosen ≡ b.front = trace-chosen solver job c u.trace ∙ u.is in
        record {
          path = h.path;
          before = h.among;
          machine = h.machine;
          state = h.state;
          made = h.passes;
          choice = h.choice;
          new = h.new;
          place = b.flipped ∙ ap (λ (l : List Bool). l ++ false ∷ []) (sym (h.before ∙ chosen));
          machine₂ = u.machine;
          state₂ = forcing (false ∷ []) u.state;
          again = subst (λ (l : List Bool). Passes solver job c (start known work c) (begins most l) u.machine (forcing (false ∷ []) u.state)) (ap (λ (l : List Bool). l ++ false ∷ []) u.is ∙ sym b.flipped) (replay solver job c u.trace (false ∷ []));
          goes = refl;
          same = same-choice solver job c most p h.path u.machine h.machine u.state h.state u.passes u.choice h.passes h.choice (sym h.before);
        }
