-- The machine on a program's code does what the program does, up to any number of steps that the turns of its whiles suffice for.
use Prim.Native.Nat.{ℕ, zero, suc, ◌-◌, ◌≤◌, ◌<◌}
use mathlib.Core.Path.{◌≡◌, refl, sym, ap, ap₂, ◌∙◌, subst}
use mathlib.Core.Bool.{Bool, true, false, cond}
use mathlib.Core.Option.{Option, none, some}
use mathlib.Core.List.{List, [], ◌∷◌, ◌++◌, append-nil}
use native.Mathlib.Omega.{arith}
use native.Mathlib.Nat.{lt_of_lt_of_le, le_of_lt, le_trans, le_of_suc-le-suc}
use lib.ListN.{get_or}
use lib.IntN.{ℤ, pos}
use lib.Dec.{T}
use lib.Signed.{le_z}
use Rattle.semantics.specs.Int.{Op, Cmp}
use Rattle.semantics.specs.Does
use Rattle.semantics.specs.Program.{Window, Expr, Exprs, Cond, Stmt, Stmts, Program}
use Rattle.semantics.specs.Does.{Does, Frame, fetch, store, expr, exprs, loop, stmt, stmts, enter, does}
use Rattle.semantics.specs.Search.{to, max_z}
use Rattle.simulation.specs.Code.{number, Act, Entry, leaf, argument, act, Code, count}
use Rattle.simulation.specs.Machine.{Caller, Machine, Doing, machine, entry_at, leaf_number, own_pair_of, reading, taken, two, gather, entering, leaving, working, advance, start}
use Rattle.simulation.specs.Placed.{InE, InEs, InC, InS, InSs, InB, Placed}
use Rattle.simulation.proofs.Agrees.{Has, nothing, same, Agrees, agrees-frame, agrees-fetch, agrees-store, agrees-declare}

module _ {X : Type 0} (num : ℤ → X) (work : Op → X → X → X) (c : Code) where
  -- For n steps, the machine does what the tree does, and what it does next is what the tree does. Where the tree is stuck, nothing is said of the machine.
  mutual
    pub data Runs : ℕ → Machine X → Does X → Type 0 where
      runs : {n : ℕ} {m : Machine X} {t : Does X} → Makes n (advance num work c m) t → Runs n m t

    pub data Makes : ℕ → Doing X → Does X → Type 0 where
      silent : {n : ℕ} {m : Machine X} {t : Does X} → Runs n m t → Makes n (Doing.silent m) t
      step : {n : ℕ} {m : Machine X} {t : Does X} → ((k : ℕ) → k < n → Runs k m t) → Makes n (Doing.step m) (Does.step t)
      free : {n : ℕ} {x : Option Window} {j : X → Machine X} {k : X → Does X} → ((i : ℕ) → i < n → (v : X) → Runs i (j v) (k v)) → Makes n (Doing.free x j) (Does.free x k)
      test : {n : ℕ} {o : Cmp} {a b : X} {j : Bool → Machine X} {k : Bool → Does X} → ((i : ℕ) → i < n → (r : Bool) → Runs i (j r) (k r)) → Makes n (Doing.test o a b j) (Does.step (Does.test o a b k))
      returned : {n : ℕ} {v : X} → Makes n (Doing.returned v) (Does.returned v)
      failed : {n : ℕ} → Makes n Doing.failed Does.failed
      cut : {n : ℕ} → Makes n Doing.cut Does.cut
      stuck : {n : ℕ} {d : Doing X} → Makes n d Does.stuck

  mutual
    fewer : {n : ℕ} {m : Machine X} {t : Does X} → Runs n m t → (k : ℕ) → k ≤ n → Runs k m t
    fewer (runs r) k h = runs (makes-fewer r k h)

    makes-fewer : {n : ℕ} {d : Doing X} {t : Does X} → Makes n d t → (k : ℕ) → k ≤ n → Makes k d t
    makes-fewer (silent r) k h = silent (fewer r k h)
    makes-fewer (step r) k h = step (λ j l. r j (lt_of_lt_of_le l h))
    makes-fewer (free r) k h = free (λ j l. r j (lt_of_lt_of_le l h))
    makes-fewer (test r) k h = test (λ j l. r j (lt_of_lt_of_le l h))
    makes-fewer returned k h = returned
    makes-fewer failed k h = failed
    makes-fewer cut k h = cut
    makes-fewer stuck k h = stuck

  -- what the entry at i makes, where it is known
  by : {n i : ℕ} {b : Bool} {ts f : List X} {cs : List (Caller X)} {d : ℕ} {t : Does X} (x : Entry) → entry_at c i ≡ x → Makes n (working num work c i b ts f cs d x) t → Runs n (machine i b ts f cs d) t
  unfolding advance
  by {n} {i} {b} {ts} {f} {cs} {d} {t} x e r = runs (subst (λ y. Makes n (working num work c i b ts f cs d y) t) (sym e) r)

  steps : {n : ℕ} {m : Machine X} {t : Does X} → Runs n m t → Makes n (Doing.step m) (Does.step t)
  steps r = step (λ k l. fewer r k (le_of_lt l))

  -- a variable read, if the tree's place holds something
  reads : {n : ℕ} {m : Machine X} {o : Option X} {x : X} (k : X → Does X) → Has o x → Runs n m (k x) → Runs n m (elim o as (λ o. Does X) [ none ↦ Does.stuck | some v ↦ k v ])
  reads k nothing r = runs stuck
  reads k same r = r

  -- the own pair of a declaration, from the two entries before it
  own_pair : (w : Window) (i : ℕ) → entry_at c i ≡ leaf (number w.low) → entry_at c (suc i) ≡ leaf (number w.high) → T (le_z w.low w.high) → own_pair_of c (suc (suc i)) ≡ w
  unfolding max_z
  own_pair w i e₁ e₂ t =
      ap₂ (λ p q. to (leaf_number (entry_at c p)) (cond (le_z (leaf_number (entry_at c p)) (leaf_number (entry_at c q))) (leaf_number (entry_at c q)) (leaf_number (entry_at c p)))) (low i) (high i)
      ∙ ap₂ (λ x y. to (leaf_number x) (cond (le_z (leaf_number x) (leaf_number y)) (leaf_number y) (leaf_number x))) e₁ e₂
      ∙ ap (λ b. to w.low (cond b w.high w.low)) (true_of (le_z w.low w.high) t)
    where
      low : (i : ℕ) → suc (suc i) - 2 ≡ i
      low i = omega arith

      high : (i : ℕ) → suc (suc i) - 1 ≡ suc i
      high i = omega arith

      true_of : (b : Bool) → T b → b ≡ true
      true_of true t = refl
      true_of false t = absurd t

  -- ---- operands

  -- the operand that ends before entry j is v, and ts are the temporaries below it
  record Takes (f ts₁ : List X) (j : ℕ) (v : X) (ts : List X) : Type 0 where
    takes : taken num work c f ts₁ j ≡ record { value = v; rest = ts }

  takes_at : {f ts₁ : List X} {i : ℕ} (x : Entry) → entry_at c i ≡ x → Takes f ts₁ (suc i) (reading num work c f ts₁ x).value (reading num work c f ts₁ x).rest
  takes_at {f} {ts₁} x e = record { takes = ap (reading num work c f ts₁) e }

  two_ok : {f ts₂ ts₁ ts : List X} {v w : X} {j m : ℕ} (d : ℕ) → Takes f ts₂ j w ts₁ → j - d ≡ m → Takes f ts₁ m v ts → two num work c f ts₂ j d ≡ record { first = v; second = w; rest = ts }
  two_ok {f} {ts₁ = ts₁} {w = w} {j = j} d p q r =
      ap (λ t. let u = taken num work c f t.rest (j - d) in record { first = u.value; second = t.value; rest = u.rest }) p.takes
      ∙ ap (λ u. record { first = u.value; second = w; rest = u.rest }) (ap (taken num work c f ts₁) q ∙ r.takes)

  -- the arguments from i up to j are vs, taken in front of others, and ts are the temporaries below them
  record Gathers (es : Exprs) (f ts₁ : List X) (i j : ℕ) (vs ts : List X) : Type 0 where
    gathers : (n : ℕ) (us : List X) → gather num work c f ts₁ (count es n) j us ≡ gather num work c f ts n i (vs ++ us)

  gathers-none : {f ts : List X} {i : ℕ} → Gathers Exprs.none f ts i i [] ts
  unfolding count
  gathers-none = record { gathers = λ n us. refl }

  gathers-more : {e : Expr} {es : Exprs} {f ts₂ ts₁ ts vs : List X} {v : X} {i j m d : ℕ} → entry_at c m ≡ argument d → m - d ≡ i → Takes f ts₁ m v ts
      → Gathers es f ts₂ (suc m) j vs ts₁ → Gathers (Exprs.more e es) f ts₂ i j (v ∷ vs) ts
  unfolding gather count
  gathers-more {e} {es} {f} {ts₂} {ts₁} {ts} {vs} {v} {i} {j} {m} {d} p q r h =
      record { gathers = λ n us. h.gathers (suc n) us ∙ rw (p, q, r.takes) }

  gathers-all : {es : Exprs} {f ts₁ vs ts : List X} {i j : ℕ} → Gathers es f ts₁ i j vs ts → gather num work c f ts₁ (count es 0) j [] ≡ record { values = vs; rest = ts }
  unfolding gather
  gathers-all {vs = vs} {ts = ts} h = h.gathers 0 [] ∙ ap (λ l. record { values = l; rest = ts }) (append-nil vs)

  -- ---- expressions and conditions

  module _ (most d : ℕ) (call : ℕ → List X → (X → Does X) → Does X)
      (calls : (n : ℕ) → n ≤ most → (g : ℕ) (vs ts f : List X) (cs : List (Caller X)) (i : ℕ) (b : Bool) (k : X → Does X)
      → ((v : X) (b : Bool) → Runs n (machine (suc i) b (v ∷ ts) f cs d) (k v))
      → Makes n (entering num work c d g (record { values = vs; rest = ts }) i b f cs) (call g vs k)) where
    mutual
      unfolding expr

      expr_runs : {e : Expr} {i j : ℕ} → InE c.entries e i j → (n : ℕ) → n ≤ most → (b : Bool) (ts : List X) {F : Frame X} {f : List X} → Agrees F f → (cs : List (Caller X)) (k : X → Does X)
          → ((v : X) (ts₁ : List X) (b : Bool) → Takes f ts₁ j v ts → Runs n (machine j b ts₁ f cs d) (k v))
          → Runs n (machine i b ts f cs d) (expr num work call e F k)
      expr_runs (InE.number {z} e) n l b ts u cs k h = by _ e (silent (h (num z) ts b (takes_at _ e)))
      expr_runs (InE.name {a} e) n l b ts {f} u cs k h = reads k (agrees-fetch (num (pos 0)) a u) (by _ e (silent (h (fetch (num (pos 0)) f a) ts b (takes_at _ e))))
      expr_runs (InE.op {o} {n = j} {d = r} x y e q) n l b ts {f} u cs k h =
          expr_runs x n l b ts u cs _ λ v ts₁ b p. expr_runs y n l b ts₁ u cs _ λ w ts₂ b p₂.
          by _ e (subst (λ t. Makes n (Doing.step (machine (suc j) b (work o t.first t.second ∷ t.rest) f cs d)) (Does.step (k (work o v w)))) (sym (two_ok r p₂ q p))
          (steps (h (work o v w) (work o v w ∷ ts) b (takes_at _ e))))
      expr_runs (InE.call {g} {es} {n = j} x e) n l b ts {f} u cs k h =
          exprs-runs x n l b ts u cs _ λ vs ts₁ b p.
          by _ e (subst (λ a. Makes n (entering num work c d g a j b f cs) (call g vs k)) (sym (gathers-all p))
          (calls n l g vs ts f cs j b k (λ v b. h v (v ∷ ts) b (takes_at _ e))))

      exprs-runs : {es : Exprs} {i j : ℕ} → InEs c.entries es i j → (n : ℕ) → n ≤ most → (b : Bool) (ts : List X) {F : Frame X} {f : List X} → Agrees F f
          → (cs : List (Caller X)) (k : List X → Does X)
          → ((vs ts₁ : List X) (b : Bool) → Gathers es f ts₁ i j vs ts → Runs n (machine j b ts₁ f cs d) (k vs))
          → Runs n (machine i b ts f cs d) (exprs num work call es F k)
      exprs-runs InEs.none n l b ts u cs k h = h [] ts b gathers-none
      exprs-runs (InEs.more x e q y) n l b ts u cs k h =
          expr_runs x n l b ts u cs _ λ v ts₁ b p. by _ e (silent (exprs-runs y n l b ts₁ u cs _ λ vs ts₂ b r. h (v ∷ vs) ts₂ b (gathers-more e q p r)))

    cond-runs : {q : Cond} {i j : ℕ} → InC c.entries q i j → (n : ℕ) → n ≤ most → (b : Bool) (ts : List X) {F : Frame X} {f : List X} → Agrees F f → (cs : List (Caller X)) (k : Bool → Does X)
        → ((b : Bool) → Runs n (machine j b ts f cs d) (k b))
        → Runs n (machine i b ts f cs d) (Does.cond num work call q F k)
    unfolding Does.cond
    cond-runs (InC.const {b = o} e) n l b ts u cs k h = by _ e (silent (h o))
    cond-runs (InC.compare {c = o} {n = j} {d = r} x y e q) n l b ts {f} u cs k h =
        expr_runs x n l b ts u cs _ λ v ts₁ b p. expr_runs y n l b ts₁ u cs _ λ w ts₂ b p₂.
        by _ e (subst (λ t. Makes n (Doing.test o t.first t.second (λ z. machine (suc j) z t.rest f cs d)) (Does.step (Does.test o v w k))) (sym (two_ok r p₂ q p))
        (test (λ i m z. fewer (h z) i (le_of_lt m))))
    cond-runs (InC.and x e y q) n l b ts {f} u cs k h = cond-runs x n l b ts u cs _ (elim [
      | true ↦ by _ e (silent (cond-runs y n l true ts u cs k h))
      | false ↦ by _ e (silent (subst (λ z. Runs n (machine z false ts f cs d) (k false)) (sym q) (h false)))
    ])
    cond-runs (InC.or x e y q) n l b ts {f} u cs k h = cond-runs x n l b ts u cs _ (elim [
      | true ↦ by _ e (silent (subst (λ z. Runs n (machine z true ts f cs d) (k true)) (sym q) (h true)))
      | false ↦ by _ e (silent (cond-runs y n l false ts u cs k h))
    ])

    -- ---- statements

    -- what follows a statement, and what its function's return does
    abbrev Follows : ℕ → ℕ → List (Caller X) → (Frame X → Does X) → Type 0
    Follows n j cs k = (F : Frame X) (f : List X) → Agrees F f → (ts : List X) (b : Bool) → Runs n (machine j b ts f cs d) (k F)

    abbrev Leaves : ℕ → List (Caller X) → (X → Does X) → Type 0
    Leaves n cs r = (v : X) (b : Bool) → Makes n (leaving num work c cs v b d) (r v)

    -- a while has more turns left than the steps that count
    loop-runs : (j : ℕ) {top bottom e : ℕ} → entry_at c bottom ≡ act (Act.again e) → bottom - e ≡ top → (cs : List (Caller X)) (turn : Frame X → (Frame X → Does X) → Does X) (n : ℕ) → n < j
        → ((i : ℕ) → i ≤ n → (a : Frame X → Does X) → Follows i bottom cs a → Follows i top cs (λ F. turn F a))
        → Follows n top cs (loop num work call j turn)
    unfolding loop
    loop-runs zero p q cs turn n l h F f u ts b = absurd (omega arith)
    loop-runs (suc j) p q cs turn n l h F f u ts b = h n (omega arith) _ (λ F f u ts b. by _ p
        (subst (λ w. Makes n (Doing.step (machine w b ts f cs d)) (Does.step (loop num work call j turn F))) (sym q)
        (step (λ i m. loop-runs j p q cs turn i (lt_of_lt_of_le m (le_of_suc-le-suc l)) (λ i' m'. h i' (le_trans m' (le_of_lt m))) F f u ts b)))) F f u ts b

    mutual
      unfolding stmt

      stmt-runs : {s : Stmt} {i j : ℕ} → InS c.entries s i j → (n : ℕ) → n ≤ most → (b : Bool) (ts : List X) {F : Frame X} {f : List X} → Agrees F f
          → (cs : List (Caller X)) (k : Frame X → Does X) (r : X → Does X)
          → Follows n j cs k → Leaves n cs r → Runs n (machine i b ts f cs d) (stmt num work call most s F k r)
      stmt-runs (InS.empty e) n l b ts u cs k r h g = by _ e (steps (h _ _ u ts b))
      stmt-runs (InS.declare {a} e) n l b ts u cs k r h g = by _ e (steps (h _ _ (agrees-declare a u) ts b))
      stmt-runs (InS.unknown {a} e) n l b ts u cs k r h g = by _ e (free (λ i m v. fewer (h _ _ (agrees-store a v u) ts b) i (le_of_lt m)))
      stmt-runs (InS.own {a} {w} {i = j} e₁ e₂ e₃ q) n l b ts {F} {f} u cs k r h g =
          by _ e₁ (silent (by _ e₂ (silent (by _ e₃
          (subst (λ x. Makes n (Doing.free (some x) (λ v. machine (suc (suc (suc j))) b ts (store f a v) cs d)) (Does.free (some w) (λ v. k (store F a (some v))))) (sym (own_pair w j e₁ e₂ q))
          (free (λ i m v. fewer (h _ _ (agrees-store a v u) ts b) i (le_of_lt m))))))))
      stmt-runs (InS.assign {a} {n = j} e x e₂) n l b ts {F} {f} u cs k r h g =
          by _ e (steps (expr_runs x n l b ts u cs _ λ v ts₁ b p. by _ e₂
          (subst (λ t. Makes n (Doing.silent (machine (suc j) b t.rest (store f a t.value) cs d)) (k (store F a (some v)))) (sym p.takes) (silent (h _ _ (agrees-store a v u) ts b)))))
      stmt-runs (InS.eval e x) n l b ts u cs k r h g = by _ e (steps (expr_runs x n l b ts u cs _ λ v ts₁ b p. h _ _ u ts₁ b))
      stmt-runs (InS.block e x) n l b ts u cs k r h g = by _ e (steps (stmts-runs x n l b ts u cs k r h g))
      stmt-runs (InS.if {t} e x e₂ y e₃ z q q₂) n l b ts {F} {f} u cs k r h g = by _ e (steps (cond-runs x n l b ts u cs _ (elim [
        | true ↦ by _ e₂ (silent (stmt-runs y n l true ts u cs k r (λ F f u ts b. by _ e₃ (silent (subst (λ z. Runs n (machine z b ts f cs d) (k F)) (sym q₂) (h F f u ts b)))) g))
        | false ↦ by _ e₂ (silent (subst (λ w. Runs n (machine w false ts f cs d) (stmt num work call most t F k r)) (sym q) (stmt-runs z n l false ts u cs k r h g)))
      ])))
      stmt-runs (InS.while e x e₂ y e₃ q q₂) n l b ts u cs k r h g =
          by _ e (step (λ i m. loop-runs most e₃ q₂ cs _ i (lt_of_lt_of_le m l) (λ i' m' a h₂ F f u ts b. cond-runs x i' (le_trans m' (le_trans (le_of_lt m) l)) b ts u cs _ (elim [
            | true ↦ by _ e₂ (silent (stmt-runs y i' (le_trans m' (le_trans (le_of_lt m) l)) true ts u cs a r h₂ (λ v b. makes-fewer (g v b) i' (le_trans m' (le_of_lt m)))))
            | false ↦ by _ e₂ (silent (subst (λ w. Runs i' (machine w false ts f cs d) (k F)) (sym q) (fewer (h F f u ts false) i' (le_trans m' (le_of_lt m)))))
          ])) _ _ u ts b))
      stmt-runs (InS.return e x e₂) n l b ts u cs k r h g =
          by _ e (steps (expr_runs x n l b ts u cs _ λ v ts₁ b p. by _ e₂ (subst (λ t. Makes n (leaving num work c cs t.value b d) (r v)) (sym p.takes) (g v b))))
      stmt-runs (InS.fail e e₂) n l b ts u cs k r h g = by _ e (steps (by _ e₂ failed))

      stmts-runs : {ss : Stmts} {i j : ℕ} → InSs c.entries ss i j → (n : ℕ) → n ≤ most → (b : Bool) (ts : List X) {F : Frame X} {f : List X} → Agrees F f
          → (cs : List (Caller X)) (k : Frame X → Does X) (r : X → Does X)
          → Follows n j cs k → Leaves n cs r → Runs n (machine i b ts f cs d) (stmts num work call most ss F k r)
      stmts-runs InSs.end n l b ts u cs k r h g = h _ _ u ts b
      stmts-runs (InSs.next x y) n l b ts u cs k r h g = stmt-runs x n l b ts u cs _ r (λ F f u ts b. stmts-runs y n l b ts u cs k r h g) g

  -- ---- calls

  module _ (most : ℕ) (p : List Stmts) (bodies : (g : ℕ) → InB c.entries (get_or p g Stmts.end) (get_or c.starts g 2)) where
    enter-runs : (d n : ℕ) → n ≤ most → (g : ℕ) (vs ts f : List X) (cs : List (Caller X)) (i : ℕ) (b : Bool) (k : X → Does X)
        → ((v : X) (b : Bool) → Runs n (machine (suc i) b (v ∷ ts) f cs d) (k v))
        → Makes n (entering num work c d g (record { values = vs; rest = ts }) i b f cs) (enter num work most p d g vs k)
    unfolding enter
    enter-runs zero n l g vs ts f cs i b k h = cut
    enter-runs (suc d) n l g vs ts f cs i b k h =
        steps (stmts-runs most d (enter num work most p d) (enter-runs d) (bodies g).body n l b [] (agrees-frame (num (pos 0)) 16 vs) _ _ k
        (λ F f u ts b. by _ (bodies g).last failed) (λ v b. silent (h v b)))

  -- for n steps the machine does what the program does
  pub does-runs : (most : ℕ) (p : Program) → Placed c p → (n : ℕ) → n ≤ most → Runs n (start num work c) (does num work most p)
  unfolding does gather
  does-runs most p h n l = by _ h.first (enter-runs most p.bodies h.bodies 32 n l p.main [] [] _ [] 0 false Does.returned (λ v b. by _ h.second (rw h.first returned)))
