-- The newest true choice; a path worked again with its outcomes forced; where a path made a choice; and that what stands at a choice depends on the outcomes before it alone.
use Prim.Native.Nat.{ℕ, zero, suc}
use mathlib.Core.Path.{◌≡◌, refl, sym, ap, ◌∙◌, subst}
use mathlib.Core.Bool.{Bool, true, false}
use mathlib.Core.Option.{Option, none, some}
use mathlib.Core.List.{List, [], ◌∷◌, ◌++◌, append_assoc, append-nil}
use Rattle.semantics.specs.Int.{Cmp}
use Rattle.semantics.specs.Program.{Window}
use Rattle.semantics.specs.Search.{Value, known, work, Solver, Test}
use Rattle.simulation.specs.Code.{Code}
use Rattle.simulation.specs.Machine.{Machine, Doing, advance, start}
use Rattle.simulation.specs.Path.{State, state, begins, outcome, later, holding, End, Went, on, ended, stepped, siding, choosing, comparing, turning, turn}
use Rattle.simulation.specs.Lister.{following, next}
use Rattle.simulation.specs.Back.{standing, Passes, here, turned, ChoiceAt}
use Rattle.simulation.specs.Resume.{forcing}

-- ---- the newest true choice

abbrev pub AllFalse : List Bool → Type 0
AllFalse [] = Unit {0}
AllFalse (true ∷ l) = ⊥
AllFalse (false ∷ l) = AllFalse l

-- q is h with its newest true outcome false, and nothing after it
pub record Newest (h q : List Bool) : Type 0 where
  pub front : List Bool
  pub rest : List Bool
  pub split : h ≡ front ++ true ∷ rest
  pub dropped : AllFalse rest
  pub flipped : q ≡ front ++ false ∷ []

abbrev pub Flips : List Bool → Option (List Bool) → Type 0
Flips h none = AllFalse h
Flips h (some q) = Newest h q

-- the next path's outcomes are those with the newest true one false; there is no next path where none is true
pub flips : (h : List Bool) → Flips h (next h)
unfolding next
flips [] = tt
flips (o ∷ p) = by o (next p) (flips p)
  where
    by : (o : Bool) (x : Option (List Bool)) → Flips p x → Flips (o ∷ p) (following o x)
    by true none f = record { front = []; rest = p; split = refl; dropped = f; flipped = refl }
    by false none f = f
    by true (some q) f = record { front = true ∷ f.front; rest = f.rest; split = ap (λ l. true ∷ l) f.split; dropped = f.dropped; flipped = ap (λ l. true ∷ l) f.flipped }
    by false (some q) f = record { front = false ∷ f.front; rest = f.rest; split = ap (λ l. false ∷ l) f.split; dropped = f.dropped; flipped = ap (λ l. false ∷ l) f.flipped }

-- and so they are found: from the end, past the false ones, to the newest true one
pub next-none : (h : List Bool) → AllFalse h → next h ≡ none
unfolding next
next-none [] f = refl
next-none (true ∷ h) f = absurd f
next-none (false ∷ h) f = ap (following false) (next-none h f)

pub next-newest : (g r : List Bool) → AllFalse r → next (g ++ true ∷ r) ≡ some (g ++ false ∷ [])
unfolding next
next-newest [] r f = ap (following true) (next-none r f)
next-newest (o ∷ g) r f = ap (following o) (next-newest g r f)

-- ---- lists of outcomes

abbrev pub Some : List Bool → Type 0
Some [] = ⊥
Some (o ∷ l) = Unit {0}

abbrev pub first : List Bool → Bool
first [] = true
first (o ∷ l) = o

abbrev pub others : List Bool → List Bool
others [] = []
others (o ∷ l) = l

pub some-append : (g r : List Bool) (o : Bool) → Some (g ++ o ∷ r)
some-append [] r o = tt
some-append (x ∷ g) r o = tt

pub data Either (A B : Type 0) : Type 0 where
  one : A → Either A B
  two : B → Either A B

record Inside (d g : List Bool) (o : Bool) : Type 0 where
  rest : List Bool
  split : d ≡ g ++ o ∷ rest

record Last (d g : List Bool) (x o : Bool) : Type 0 where
  all : g ≡ d
  is : x ≡ o

-- an outcome of d and then x is the last one, or one of d
where-is : (d g r : List Bool) (x o : Bool) → d ++ x ∷ [] ≡ g ++ o ∷ r → Either (Last d g x o) (Inside d g o)
where-is [] [] r x o e = one (record { all = refl; is = ap first e })
where-is [] (y ∷ g) r x o e = absurd (subst Some (sym (ap others e)) (some-append g r o))
where-is (z ∷ d) [] r x o e = two (record { rest = d; split = ap (λ b. b ∷ d) (ap first e) })
where-is (z ∷ d) (y ∷ g) r x o e = by (where-is d g r x o (ap others e))
  where
    by : Either (Last d g x o) (Inside d g o) → Either (Last (z ∷ d) (y ∷ g) x o) (Inside (z ∷ d) (y ∷ g) o)
    by (one l) = one (record { all = ap (λ b. b ∷ g) (sym (ap first e)) ∙ ap (λ l. z ∷ l) l.all; is = l.is })
    by (two i) = two (record { rest = i.rest; split = ap (λ b. b ∷ d) (ap first e) ∙ ap (λ l. y ∷ l) i.split })

-- ---- what a turn does, whatever is forced

module _ (solver : Solver) (job : Window) (c : Code) where
  -- a turn without a choice, and a turn with one; each is made again with other outcomes forced after it
  pub record Plain (m : Machine Value) (s : State) (m₂ : Machine Value) (s₂ : State) : Type 0 where
    pub chosen : s₂.chosen ≡ s.chosen
    pub forced : s₂.forced ≡ s.forced
    pub again : (q : List Bool) → (turn solver job c m (forcing q s)).went ≡ on m₂ (forcing q s₂)

  pub record Chosen (m : Machine Value) (s : State) (m₂ : Machine Value) (s₂ : State) : Type 0 where
    pub choice : ChoiceAt solver job c m s
    pub chosen : s₂.chosen ≡ s.chosen ++ outcome s.forced ∷ []
    pub forced : s₂.forced ≡ later s.forced
    pub again : (q : List Bool) → (turn solver job c m (forcing (outcome s.forced ∷ q) s)).went ≡ on m₂ (forcing q s₂)

  -- a path that ends at a choice, at a side that is closed
  pub record Closed (m : Machine Value) (s : State) (s₂ : State) : Type 0 where
    pub choice : ChoiceAt solver job c m s
    pub chosen : s₂.chosen ≡ s.chosen ++ outcome s.forced ∷ []

  abbrev pub Shape : Machine Value → State → Went → Type 0
  Shape m s (on m₂ s₂) = Either (Plain m s m₂ s₂) (Chosen m s m₂ s₂)
  Shape m s (ended e s₂) = Either (s₂.chosen ≡ s.chosen) (Closed m s s₂)

  module _ (m : Machine Value) where
    -- the same again, by what the machine does
    by-doing : (s : State) {d : Doing Value} {w : Went} → advance known work c m ≡ d → (turning solver job d s).went ≡ w → (turn solver job c m s).went ≡ w
    unfolding turn
    by-doing s e f = ap (λ d. (turning solver job d s).went) e ∙ f

    shape-step : (l f : ℕ) (ws ps : List Window) (ts : List Test) (p h : List Bool) (j : Machine Value) → advance known work c m ≡ Doing.step j → Shape m (state l f ws ps ts p h) (turning solver job (Doing.step j) (state l f ws ps ts p h)).went
    unfolding turning
    shape-step zero f ws ps ts p h j e = one refl
    shape-step (suc l) f ws ps ts p h j e = one (record { chosen = refl; forced = refl; again = λ q. by-doing _ e refl })

    shape_free : (l f : ℕ) (ws ps : List Window) (ts : List Test) (p h : List Bool) (x : Option Window) (k : Value → Machine Value) → advance known work c m ≡ Doing.free x k → Shape m (state l f ws ps ts p h) (turning solver job (Doing.free x k) (state l f ws ps ts p h)).went
    unfolding turning
    shape_free zero f ws ps ts p h x k e = one refl
    shape_free (suc l) zero ws ps ts p h x k e = one refl
    shape_free (suc l) (suc f) ws ps ts p h x k e = one (record { chosen = refl; forced = refl; again = λ q. by-doing _ e refl })

    module _ (l f : ℕ) (ws ps : List Window) (ts : List Test) (h : List Bool) (o : Cmp) (a b : Value) (k : Bool → Machine Value) (e : advance known work c m ≡ Doing.test o a b k) where
      -- a test that the solver decides, or not
      test-decided : (r : Bool) → solver.decide o a b ws ≡ some r → (q : List Bool) → (turn solver job c m (state (suc l) f ws ps ts q h)).went ≡ on (k r) (state l f ws ps ts q h)
      unfolding turning comparing
      test-decided r d q = by-doing _ e (ap (λ x. elim x as (λ x. Went) [ some r ↦ on (k r) (state l f ws ps ts q h) | none ↦ choosing solver job o a b k (state l f ws ps ts q h) (outcome q) ]) d)

      test_chosen : solver.decide o a b ws ≡ none → (q : List Bool) → (turn solver job c m (state (suc l) f ws ps ts q h)).went ≡ choosing solver job o a b k (state l f ws ps ts q h) (outcome q)
      unfolding turning comparing
      test_chosen d q = by-doing _ e (ap (λ x. elim x as (λ x. Went) [ some r ↦ on (k r) (state l f ws ps ts q h) | none ↦ choosing solver job o a b k (state l f ws ps ts q h) (outcome q) ]) d)

      choice-at : solver.decide o a b ws ≡ none → (p : List Bool) → ChoiceAt solver job c m (state (suc l) f ws ps ts p h)
      choice-at d p = record { compare = o; left = a; right = b; after = k; steps = l; works = e; within = refl; undecided = d }

      shape-side : solver.decide o a b ws ≡ none → (p : List Bool) (y : Option (List Window)) → solver.narrow (holding (outcome p) o) a b ws ≡ y
          → Shape m (state (suc l) f ws ps ts p h) (siding o a b (k (outcome p)) (state l f ws ps ts p h) (outcome p) y)
      unfolding choosing
      shape-side d p none n = two (record { choice = choice-at d p; chosen = refl })
      shape-side d p (some us) n = two (record {
        choice = choice-at d p;
        chosen = refl;
        forced = refl;
        again = λ q. test_chosen d (outcome p ∷ q) ∙ ap (siding o a b (k (outcome p)) (state l f ws ps ts (outcome p ∷ q) h) (outcome p)) n;
      })

      shape-choice : (p : List Bool) (x : Option Bool) → solver.decide o a b ws ≡ x
          → Shape m (state (suc l) f ws ps ts p h) (elim x as (λ x. Went) [ some r ↦ on (k r) (state l f ws ps ts p h) | none ↦ choosing solver job o a b k (state l f ws ps ts p h) (outcome p) ])
      unfolding choosing
      shape-choice p (some r) d = one (record { chosen = refl; forced = refl; again = test-decided r d })
      shape-choice p none d = shape-side d p (solver.narrow (holding (outcome p) o) a b ws) refl

    shape-test : (l f : ℕ) (ws ps : List Window) (ts : List Test) (p h : List Bool) (o : Cmp) (a b : Value) (k : Bool → Machine Value) → advance known work c m ≡ Doing.test o a b k
        → Shape m (state l f ws ps ts p h) (turning solver job (Doing.test o a b k) (state l f ws ps ts p h)).went
    unfolding turning comparing
    shape-test zero f ws ps ts p h o a b k e = one refl
    shape-test (suc l) f ws ps ts p h o a b k e = shape-choice l f ws ps ts h o a b k e p (solver.decide o a b ws) refl

    shape_of : (s : State) (d : Doing Value) → advance known work c m ≡ d → Shape m s (turning solver job d s).went
    unfolding turning
    shape_of s (Doing.silent j) e = one (record { chosen = refl; forced = refl; again = λ q. by-doing _ e refl })
    shape_of s (Doing.step j) e = shape-step s.steps s.frees s.windows s.starts s.tests s.forced s.chosen j e
    shape_of s (Doing.free x k) e = shape_free s.steps s.frees s.windows s.starts s.tests s.forced s.chosen x k e
    shape_of s (Doing.test o a b k) e = shape-test s.steps s.frees s.windows s.starts s.tests s.forced s.chosen o a b k e
    shape_of s (Doing.returned v) e = one refl
    shape_of s Doing.failed e = one refl
    shape_of s Doing.cut e = one refl

    pub shape : (s : State) → Shape m s (turn solver job c m s).went
    unfolding turn
    shape s = shape_of s (advance known work c m) refl

  -- ---- a path with the outcomes of its choices

  pub data Trace : Machine Value → State → List Bool → Machine Value → State → Type 0 where
    nothing : {m : Machine Value} {s : State} → Trace m s [] m s
    plain : {m m₂ m₃ : Machine Value} {s s₂ s₃ : State} {d : List Bool} → (turn solver job c m s).went ≡ on m₂ s₂ → Plain m s m₂ s₂ → Trace m₂ s₂ d m₃ s₃ → Trace m s d m₃ s₃
    chose : {m m₂ m₃ : Machine Value} {s s₂ s₃ : State} {d : List Bool} → (turn solver job c m s).went ≡ on m₂ s₂ → Chosen m s m₂ s₂ → Trace m₂ s₂ d m₃ s₃ → Trace m s (outcome s.forced ∷ d) m₃ s₃

  pub record Traced (m : Machine Value) (s : State) (m₂ : Machine Value) (s₂ : State) : Type 0 where
    pub outcomes : List Bool
    pub trace : Trace m s outcomes m₂ s₂

  pub traced : {m m₂ : Machine Value} {s s₂ : State} → Passes solver job c m s m₂ s₂ → Traced m s m₂ s₂
  traced here = record { outcomes = []; trace = nothing }
  traced (turned {m} {m₂} {m₃} {s} {s₂} {s₃} e r) = by (subst (Shape m s) e (shape m s)) (traced r)
    where
      by : Either (Plain m s m₂ s₂) (Chosen m s m₂ s₂) → Traced m₂ s₂ m₃ s₃ → Traced m s m₃ s₃
      by (one p) t = record { outcomes = t.outcomes; trace = plain e p t.trace }
      by (two q) t = record { outcomes = outcome s.forced ∷ t.outcomes; trace = chose e q t.trace }

  pub trace-chosen : {m m₂ : Machine Value} {s s₂ : State} {d : List Bool} → Trace m s d m₂ s₂ → s₂.chosen ≡ s.chosen ++ d
  trace-chosen (nothing {s = s}) = sym (append-nil s.chosen)
  trace-chosen (plain {d = d} e p t) = trace-chosen t ∙ ap (λ h. h ++ d) p.chosen
  trace-chosen (chose {s = s} {d = d} e q t) = trace-chosen t ∙ ap (λ h. h ++ d) q.chosen ∙ append_assoc s.chosen (outcome s.forced ∷ []) d

  -- the same path again, with the outcomes forced that it had
  pub replay : {m m₂ : Machine Value} {s s₂ : State} {d : List Bool} → Trace m s d m₂ s₂ → (q : List Bool) → Passes solver job c m (forcing (d ++ q) s) m₂ (forcing q s₂)
  replay nothing q = here
  replay (plain {d = d} e p t) q = turned (p.again (d ++ q)) (replay t q)
  replay (chose {d = d} e p t) q = turned (p.again (d ++ q)) (replay t q)

  -- the point of a path at which a choice was made, with the outcomes g before it
  pub record Found (m : Machine Value) (s : State) (g : List Bool) (o : Bool) : Type 0 where
    pub machine : Machine Value
    pub state : State
    pub passes : Passes solver job c m s machine state
    pub front : List Bool
    pub trace : Trace m s front machine state
    pub is : front ≡ g
    pub choice : ChoiceAt solver job c machine state
    pub went : outcome state.forced ≡ o

  find : {m m₂ : Machine Value} {s s₂ : State} {d : List Bool} → Trace m s d m₂ s₂ → (g : List Bool) (o : Bool) → Inside d g o → Found m s g o
  find nothing g o i = absurd (subst Some (sym i.split) (some-append g i.rest o))
  find (plain {m} {m₂} {s = s} {s₂} e p t) g o i = by (find t g o i)
    where
      by : Found m₂ s₂ g o → Found m s g o
      by f = record { machine = f.machine; state = f.state; passes = turned e f.passes; front = f.front; trace = plain e p f.trace; is = f.is; choice = f.choice; went = f.went }
  find (chose {m} {s = s} e p t) [] o i = record { machine = m; state = s; passes = here; front = []; trace = nothing; is = refl; choice = p.choice; went = ap first i.split }
  find (chose {m} {m₂} {s = s} {s₂} e p t) (x ∷ g) o i = by (find t g o (record { rest = i.rest; split = ap others i.split }))
    where
      by : Found m₂ s₂ g o → Found m s (x ∷ g) o
      by f = record {
        machine = f.machine;
        state = f.state;
        passes = turned e f.passes;
        front = outcome s.forced ∷ f.front;
        trace = chose e p f.trace;
        is = ap (λ l. outcome s.forced ∷ l) f.is ∙ ap (λ b. b ∷ g) (ap first i.split);
        choice = f.choice;
        went = f.went;
      }

  -- a path that has ended has come to each of its choices
  module _ (most : ℕ) (p : List Bool) where
    pub came-to : {m : Machine Value} {s s₂ : State} {e : End} → Passes solver job c (start known work c) (begins most p) m s → (turn solver job c m s).went ≡ ended e s₂
        → (g rest : List Bool) (o : Bool) → s₂.chosen ≡ g ++ o ∷ rest → Found (start known work c) (begins most p) g o
    came-to {m} {s} {s₂} r x g rest o w = by (traced r) (subst (Shape m s) x (shape m s))
      where
        at-end : (t : Traced (start known work c) (begins most p) m s) → ChoiceAt solver job c m s → Either (Last t.outcomes g (outcome s.forced) o) (Inside t.outcomes g o) → Found (start known work c) (begins most p) g o
        at-end t k (one l) = record { machine = m; state = s; passes = r; front = t.outcomes; trace = t.trace; is = sym l.all; choice = k; went = l.is }
        at-end t k (two i) = find t.trace g o i

        by : Traced (start known work c) (begins most p) m s → Either (s₂.chosen ≡ s.chosen) (Closed m s s₂) → Found (start known work c) (begins most p) g o
        by t (one k) = find t.trace g o (record { rest = rest; split = sym (trace-chosen t.trace) ∙ sym k ∙ w })
        by t (two k) = at-end t k.choice (where-is t.outcomes g rest (outcome s.forced) o (ap (λ h. h ++ outcome s.forced ∷ []) (sym (trace-chosen t.trace)) ∙ sym k.chosen ∙ w))

  -- ---- both sides go on from what stands there: only the outcome, the narrowed windows and the test made differ

  side-at : (l f : ℕ) (ws ps : List Window) (ts : List Test) (p h : List Bool) (m : Machine Value) (k : ChoiceAt solver job c m (state l f ws ps ts p h))
      → (turn solver job c m (state l f ws ps ts p h)).went ≡ siding k.compare k.left k.right (k.after (outcome p)) (state k.steps f ws ps ts p h) (outcome p) (solver.narrow (holding (outcome p) k.compare) k.left k.right ws)
  unfolding choosing
  side-at l f ws ps ts p h m k =
      ap (λ n. (turn solver job c m (state n f ws ps ts p h)).went) k.within
      ∙ test_chosen m k.steps f ws ps ts h k.compare k.left k.right k.after k.works k.undecided p

  pub both-sides : (m : Machine Value) (s : State) (k : ChoiceAt solver job c m s)
      → (turn solver job c m s).went
      ≡ siding k.compare k.left k.right (k.after (outcome s.forced)) (stepped k.steps s) (outcome s.forced) (solver.narrow (holding (outcome s.forced) k.compare) k.left k.right s.windows)
  both-sides m s k = side-at s.steps s.frees s.windows s.starts s.tests s.forced s.chosen m k

  -- ---- what stands at a choice depends on the outcomes before it alone

  -- at a choice that is forced, whatever else is forced
  forced-choice : (m : Machine Value) (s : State) → ChoiceAt solver job c m s → (q : List Bool) → ChoiceAt solver job c m (forcing q s)
  forced-choice m s k q = record { compare = k.compare; left = k.left; right = k.right; after = k.after; steps = k.steps; works = k.works; within = k.within; undecided = k.undecided }

  -- of two points of one path, one comes first
  abbrev machine_in : Machine Value → Went → Machine Value
  machine_in d (on m s) = m
  machine_in d (ended e s) = d

  abbrev state_in : State → Went → State
  state_in d (on m s) = s
  state_in d (ended e s) = d

  in-line : {m m₁ m₂ : Machine Value} {s s₁ s₂ : State} → Passes solver job c m s m₁ s₁ → Passes solver job c m s m₂ s₂ → Either (Passes solver job c m₁ s₁ m₂ s₂) (Passes solver job c m₂ s₂ m₁ s₁)
  in-line here r = one r
  in-line (turned e p) here = two (turned e p)
  in-line (turned {m₂ = a} {s₂ = b} e p) (turned {m₂ = a₂} {m₃ = m₂} {s₂ = b₂} {s₃ = s₂} e₂ p₂) =
      in-line p (subst (λ x. Passes solver job c x b m₂ s₂) (ap (machine_in a) (sym e₂ ∙ e)) (subst (λ x. Passes solver job c a₂ x m₂ s₂) (ap (state_in b) (sym e₂ ∙ e)) p₂))

  -- no outcome is forced that was not
  pub trace-none : {m m₂ : Machine Value} {s s₂ : State} {d : List Bool} → Trace m s d m₂ s₂ → s.forced ≡ [] → s₂.forced ≡ []
  trace-none nothing h = h
  trace-none (plain e p t) h = trace-none t (p.forced ∙ h)
  trace-none (chose e p t) h = trace-none t (p.forced ∙ ap later h)

  abbrev Without : Went → Type 0
  Without (on m s) = s.forced ≡ []
  Without (ended e s) = Unit {0}

  siding-without : (o : Cmp) (a b : Value) (m : Machine Value) (s : State) (r : Bool) (x : Option (List Window)) → later s.forced ≡ [] → Without (siding o a b m s r x)
  siding-without o a b m s r none h = tt
  siding-without o a b m s r (some us) h = h

  choice-without : (m : Machine Value) (s : State) → ChoiceAt solver job c m s → later s.forced ≡ [] → Without (turn solver job c m s).went
  choice-without m s k h =
      let o = outcome s.forced in
      subst Without (sym (both-sides m s k)) (siding-without k.compare k.left k.right (k.after o) (stepped k.steps s) o (solver.narrow (holding o k.compare) k.left k.right s.windows) h)

  -- where one outcome is left to force, and it is forced at a choice here, then no point after this one has it left
  only_here : {m m₂ : Machine Value} {s s₂ : State} → Passes solver job c m s m₂ s₂ → ChoiceAt solver job c m s → later s.forced ≡ [] → Some s₂.forced → standing m s ≡ standing m₂ s₂
  only_here here k h g = refl
  only_here (turned {m} {s = s} e p) k h g = absurd (subst Some (trace-none (traced p).trace (subst Without e (choice-without m s k h))) g)

  pub same-choice : (most : ℕ) (p₁ p₂ : List Bool) (m₁ m₂ : Machine Value) (s₁ s₂ : State) → Passes solver job c (start known work c) (begins most p₁) m₁ s₁ → ChoiceAt solver job c m₁ s₁
      → Passes solver job c (start known work c) (begins most p₂) m₂ s₂ → ChoiceAt solver job c m₂ s₂ → s₁.chosen ≡ s₂.chosen → standing m₁ s₁ ≡ standing m₂ s₂
  same-choice most p₁ p₂ m₁ m₂ s₁ s₂ r₁ k₁ r₂ k₂ e = by (in-line (again p₁ m₁ s₁ r₁) (subst (λ h. Passes solver job c (start known work c) (begins most (h ++ true ∷ [])) m₂ (forcing (true ∷ []) s₂)) (sym e) (again p₂ m₂ s₂ r₂)))
    where
      again : (p : List Bool) (m : Machine Value) (s : State) → Passes solver job c (start known work c) (begins most p) m s → Passes solver job c (start known work c) (begins most (s.chosen ++ true ∷ [])) m (forcing (true ∷ []) s)
      again p m s r =
          let t = traced r in
          subst (λ h. Passes solver job c (start known work c) (begins most (h ++ true ∷ [])) m (forcing (true ∷ []) s)) (sym (trace-chosen t.trace)) (replay t.trace (true ∷ []))

      by : Either (Passes solver job c m₁ (forcing (true ∷ []) s₁) m₂ (forcing (true ∷ []) s₂)) (Passes solver job c m₂ (forcing (true ∷ []) s₂) m₁ (forcing (true ∷ []) s₁)) → standing m₁ s₁ ≡ standing m₂ s₂
      by (one p) = only_here p (forced-choice m₁ s₁ k₁ (true ∷ [])) refl tt
      by (two p) = sym (only_here p (forced-choice m₂ s₂ k₂ (true ∷ [])) refl tt)
