-- What a program does over open values, under a setting, is what it does over numbers with the setting's values: the rules of the language are the same at every kind of value.
use Prim.Native.Nat.{ℕ, zero, suc, ◌≤◌, ◌<◌}
use mathlib.Core.Path.{◌≡◌, refl, sym, ap, ◌∙◌, subst}
use mathlib.Core.Bool.{Bool, true, false, not, cond, ◌&&◌}
use mathlib.Core.Option
use mathlib.Core.Option.{Option, none, some}
use mathlib.Core.List.{List, [], ◌∷◌, map}
use native.Mathlib.Omega.{arith}
use native.Mathlib.Nat.{le_of_suc-le-suc}
use lib.ListN.{length, get_or, drop, set, get_or-map, drop_of_length-le}
use lib.Seq.{drop-cons}
use lib.IntN.{ℤ, pos}
use lib.Dec.{T, ltb→lt, nltb→le, eqb-suc-zero, eqb-suc-suc}
use Rattle.semantics.specs.Int.{Op, arith as work32, Cmp, holds}
use Rattle.semantics.specs.Does
use Rattle.semantics.specs.Program.{Window, Address, slot, Expr, Exprs, Cond, const, compare, and, or, number, name, op, call, more, Stmt, Stmts, Program}
use Rattle.semantics.specs.Does.{Does, returned, failed, cut, stuck, step, free, test, within, Frame, frame, expr, exprs, loop, stmt, stmts, enter, does, fetch, store}
use Rattle.semantics.specs.Run.{Ending, returns, fails, cuts, Ran, exactly, noting, starting, pair_of}
use Rattle.semantics.specs.Search.{Value, known, unknown, open', work, under}
use Rattle.semantics.proofs.Ends.{runs, sized, longer, inside}
use Rattle.semantics.proofs.Sound.{passes}

-- the run with these values, if each lies in the pair of its declaration
unfoldable pub own_run : Window → Does ℤ → List ℤ → Option Ran
own_run job (returned z) vs = exactly (returns z) vs
own_run job failed vs = exactly fails vs
own_run job cut vs = exactly cuts vs
own_run job stuck vs = none
own_run job (step t) vs = own_run job t vs
own_run job (free o k) [] = none
own_run job (free o k) (v ∷ vs) = cond (inside (pair_of job o) v) (Option.map (starting o) (own_run job (k v) vs)) none
own_run job (test c a b k) vs = Option.map (noting (holds c a b)) (own_run job (k (holds c a b)) vs)

-- a leaf is reached with all values used
exactly-drop : (e : Ending) (n : ℕ) (s : List ℤ) → n ≤ length s → exactly e (drop n s) ≡ cond (sized n s) (some (record { tests = []; starts = []; ending = e })) none
unfolding exactly
exactly-drop e zero [] h = refl
exactly-drop e zero (v ∷ s) h = rw eqb-suc-zero
exactly-drop e (suc n) [] h = absurd (omega arith)
exactly-drop e (suc n) (v ∷ s) h = rw eqb-suc-suc (exactly-drop e n s (le_of_suc-le-suc h))

work-under : (s : List ℤ) (o : Op) (a b : Value) → under s (work o a b) ≡ work32 o (under s a) (under s b)
unfolding work under
work-under s o (known a) (known b) = refl
work-under s o (known a) (unknown i) = refl
work-under s o (known a) (open' p x y) = refl
work-under s o (unknown i) b = refl
work-under s o (open' p x y) b = refl

set-map : {A B : Type 0} (g : A → B) (f : List A) (i : ℕ) (v : A) → map g (set f i v) ≡ set (map g f) i (g v)
set-map g [] i v = refl
set-map g (x ∷ f) zero v = refl
set-map g (x ∷ f) (suc i) v = ap (λ l. g x ∷ l) (set-map g f i v)

-- a frame under a setting
abbrev setting : List ℤ → Frame Value → Frame ℤ
setting s f = map (Option.map (under s)) f

frame-map : {A B : Type 0} (g : A → B) (d : A) (n : ℕ) (vs : List A) → map g (frame d n vs) ≡ frame (g d) n (map g vs)
unfolding frame
frame-map g d zero vs = refl
frame-map g d (suc n) [] = ap (λ l. g d ∷ l) (frame-map g d n [])
frame-map g d (suc n) (v ∷ vs) = ap (λ l. g v ∷ l) (frame-map g d n vs)

setting-some : (s : List ℤ) (vs : List Value) → setting s (map some vs) ≡ map some (map (under s) vs)
setting-some s [] = refl
setting-some s (v ∷ vs) = ap (λ l. some (under s v) ∷ l) (setting-some s vs)

setting-frame : (s : List ℤ) (n : ℕ) (vs : List Value) → setting s (frame none n (map some vs)) ≡ frame none n (map some (map (under s) vs))
setting-frame s n vs = frame-map (Option.map (under s)) none n (map some vs) ∙ ap (frame none n) (setting-some s vs)

-- two trees run alike under the setting, within any limits, from wherever they start in it
pub record Same (job : Window) (s : List ℤ) (t : Does Value) (u : Does ℤ) : Type 0 where
  pub same : (l f n : ℕ) → n ≤ length s → runs job n (within l f t) s ≡ own_run job (within l f u) (drop n s)

module _ (job : Window) (s : List ℤ) where
  same-cut : Same job s cut cut
  unfolding runs own_run within
  same-cut = record { same = λ l f n h. sym (exactly-drop cuts n s h) }

  same-failed : Same job s failed failed
  unfolding runs own_run within
  same-failed = record { same = λ l f n h. sym (exactly-drop fails n s h) }

  same-stuck : Same job s stuck stuck
  unfolding runs own_run within
  same-stuck = record { same = λ l f n h. refl }

  same-returned : (v : Value) → Same job s (returned v) (returned (under s v))
  unfolding runs own_run within
  same-returned v = record { same = λ l f n h. sym (exactly-drop (returns (under s v)) n s h) }

  same_step : {t : Does Value} {u : Does ℤ} → Same job s t u → Same job s (step t) (step u)
  unfolding runs own_run within
  same_step {t} {u} p = record { same = go }
    where
      go : (l f n : ℕ) → n ≤ length s → runs job n (within l f (step t)) s ≡ own_run job (within l f (step u)) (drop n s)
      go zero f n h = sym (exactly-drop cuts n s h)
      go (suc l) f n h = p.same l f n h

  same-free : {o : Option Window} {k : Value → Does Value} {m : ℤ → Does ℤ} → ((i : ℕ) → Same job s (k (unknown i)) (m (get_or s i (pos 0)))) → Same job s (free o k) (free o m)
  unfolding runs own_run within
  same-free {o} {k} {m} p = record { same = go }
    where
      go : (l f n : ℕ) → n ≤ length s → runs job n (within l f (free o k)) s ≡ own_run job (within l f (free o m)) (drop n s)
      go zero f n h = sym (exactly-drop cuts n s h)
      go (suc l) zero n h = sym (exactly-drop cuts n s h)
      go (suc l) (suc f) n h = by (longer n s) (ltb→lt n (length s)) (nltb→le n (length s))
        where
          by : (b : Bool) → (T b → n < length s) → (T (not b) → length s ≤ n)
              → cond (b && inside (pair_of job o) (get_or s n (pos 0))) (Option.map (starting o) (runs job (suc n) (within l f (k (unknown n))) s)) none ≡ own_run job (free o (λ v. within l f (m v))) (drop n s)
          by true t e = let q = t tt in rw (drop-cons s n (pos 0) q) (ap (λ r. cond (inside (pair_of job o) (get_or s n (pos 0))) (Option.map (starting o) r) none) ((p n).same l f (suc n) q))
          by false t e = rw (drop_of_length-le s {i = n} (e tt))

  same_test : {c : Cmp} {a b : Value} {k : Bool → Does Value} {m : Bool → Does ℤ} → ((o : Bool) → Same job s (k o) (m o)) → Same job s (test c a b k) (test c (under s a) (under s b) m)
  unfolding runs own_run within
  same_test {c} {a} {b} p = record { same = λ l f n h. ap (Option.map (noting (passes c a b s))) ((p (passes c a b s)).same l f n h) }

  fetched : (f : Frame Value) (a : Address) → Option.map (under s) (fetch none f a) ≡ fetch none (setting s f) a
  fetched f (slot i) = sym (get_or-map (Option.map (under s)) f i none)

  stored : (f : Frame Value) (a : Address) (v : Option Value) → setting s (store f a v) ≡ store (setting s f) a (Option.map (under s) v)
  stored f (slot i) v = set-map (Option.map (under s)) f i v

  -- what is done with a value, a list of values, or an outcome
  abbrev Alike : (Value → Does Value) → (ℤ → Does ℤ) → Type 0
  Alike k m = (v : Value) → Same job s (k v) (m (under s v))

  abbrev Alikes : (List Value → Does Value) → (List ℤ → Does ℤ) → Type 0
  Alikes k m = (vs : List Value) → Same job s (k vs) (m (map (under s) vs))

  abbrev Onward : (Frame Value → Does Value) → (Frame ℤ → Does ℤ) → Type 0
  Onward k m = (f : Frame Value) → Same job s (k f) (m (setting s f))

  -- what a place holds, if it holds something
  same-held : (o : Option Value) {p : Option ℤ} (k : Value → Does Value) (m : ℤ → Does ℤ) → Option.map (under s) o ≡ p → Alike k m
      → Same job s (elim o as (λ o. Does Value) [ none ↦ stuck | some v ↦ k v ]) (elim p as (λ p. Does ℤ) [ none ↦ stuck | some v ↦ m v ])
  same-held none k m e h = subst (λ p. Same job s stuck (elim p as (λ p. Does ℤ) [ none ↦ stuck | some v ↦ m v ])) e same-stuck
  same-held (some v) k m e h = subst (λ p. Same job s (k v) (elim p as (λ p. Does ℤ) [ none ↦ stuck | some v ↦ m v ])) e (h v)

  module _ (call₁ : ℕ → List Value → (Value → Does Value) → Does Value) (call₂ : ℕ → List ℤ → (ℤ → Does ℤ) → Does ℤ)
      (calls : (g : ℕ) (vs : List Value) (k : Value → Does Value) (m : ℤ → Does ℤ) → Alike k m → Same job s (call₁ g vs k) (call₂ g (map (under s) vs) m)) where
    mutual
      unfolding expr under

      expr-same : (e : Expr) (f : Frame Value) (k : Value → Does Value) (m : ℤ → Does ℤ) → Alike k m → Same job s (expr known work call₁ e f k) (expr (λ z. z) work32 call₂ e (setting s f) m)
      expr-same (number z) f k m h = h (known z)
      expr-same (name a) f k m h = same-held (fetch none f a) k m (fetched f a) h
      expr-same (op o a b) f k m h =
          expr-same a f _ _ λ x. expr-same b f _ _ λ y. same_step (subst (λ z. Same job s (k (work o x y)) (m z)) (work-under s o x y) (h (work o x y)))
      expr-same (call g es) f k m h = exprs-same es f _ _ λ vs. calls g vs k m h

      exprs-same : (es : Exprs) (f : Frame Value) (k : List Value → Does Value) (m : List ℤ → Does ℤ) → Alikes k m
          → Same job s (exprs known work call₁ es f k) (exprs (λ z. z) work32 call₂ es (setting s f) m)
      exprs-same Exprs.none f k m h = h []
      exprs-same (more e es) f k m h = expr-same e f _ _ λ v. exprs-same es f _ _ λ vs. h (v ∷ vs)

    cond_same : (c : Cond) (f : Frame Value) (k : Bool → Does Value) (m : Bool → Does ℤ) → ((o : Bool) → Same job s (k o) (m o))
        → Same job s (Does.cond known work call₁ c f k) (Does.cond (λ z. z) work32 call₂ c (setting s f) m)
    unfolding Does.cond
    cond_same (const b) f k m h = h b
    cond_same (compare c a b) f k m h = expr-same a f _ _ λ x. expr-same b f _ _ λ y. same_step (same_test h)
    cond_same (and a b) f k m h = cond_same a f _ _ (elim [ true ↦ cond_same b f k m h | false ↦ h false ])
    cond_same (or a b) f k m h = cond_same a f _ _ (elim [ true ↦ h true | false ↦ cond_same b f k m h ])

    abbrev Turns : (Frame Value → (Frame Value → Does Value) → Does Value) → (Frame ℤ → (Frame ℤ → Does ℤ) → Does ℤ) → Type 0
    Turns turn turn' = (f : Frame Value) (k : Frame Value → Does Value) (m : Frame ℤ → Does ℤ) → Onward k m → Same job s (turn f k) (turn' (setting s f) m)

    loop-same : (n : ℕ) (turn : Frame Value → (Frame Value → Does Value) → Does Value) (turn' : Frame ℤ → (Frame ℤ → Does ℤ) → Does ℤ) → Turns turn turn'
        → (f : Frame Value) → Same job s (loop known work call₁ n turn f) (loop (λ z. z) work32 call₂ n turn' (setting s f))
    unfolding loop
    loop-same zero turn turn' h f = same-cut
    loop-same (suc n) turn turn' h f = h f _ _ λ g. same_step (loop-same n turn turn' h g)

    module _ (most : ℕ) where
      put : (f : Frame Value) (a : Address) (v : Option Value) (k : Frame Value → Does Value) (m : Frame ℤ → Does ℤ) → Onward k m
          → Same job s (k (store f a v)) (m (store (setting s f) a (Option.map (under s) v)))
      put f a v k m h = subst (λ g. Same job s (k (store f a v)) (m g)) (stored f a v) (h (store f a v))

      mutual
        unfolding stmt under

        stmt-same : (t : Stmt) (f : Frame Value) (k : Frame Value → Does Value) (m : Frame ℤ → Does ℤ) (r : Value → Does Value) (q : ℤ → Does ℤ) → Onward k m → Alike r q
            → Same job s (stmt known work call₁ most t f k r) (stmt (λ z. z) work32 call₂ most t (setting s f) m q)
        stmt-same Stmt.empty f k m r q h i = same_step (h f)
        stmt-same (Stmt.declare a) f k m r q h i = same_step (put f a _ k m h)
        stmt-same (Stmt.unknown a o) f k m r q h i = same-free λ j. put f a (some (unknown j)) k m h
        stmt-same (Stmt.assign a e) f k m r q h i = same_step (expr-same e f _ _ λ v. put f a (some v) k m h)
        stmt-same (Stmt.eval e) f k m r q h i = same_step (expr-same e f _ _ λ v. h f)
        stmt-same (Stmt.block ss) f k m r q h i = same_step (stmts-same ss f k m r q h i)
        stmt-same (Stmt.if c t u) f k m r q h i = same_step (cond_same c f _ _ (elim [ true ↦ stmt-same t f k m r q h i | false ↦ stmt-same u f k m r q h i ]))
        stmt-same (Stmt.while c t) f k m r q h i =
            same_step (loop-same most _ _ (λ g a b p. cond_same c g _ _ (elim [ true ↦ stmt-same t g a b r q p i | false ↦ h g ])) f)
        stmt-same (Stmt.return e) f k m r q h i = same_step (expr-same e f r q i)
        stmt-same Stmt.fail f k m r q h i = same_step same-failed

        stmts-same : (ss : Stmts) (f : Frame Value) (k : Frame Value → Does Value) (m : Frame ℤ → Does ℤ) (r : Value → Does Value) (q : ℤ → Does ℤ) → Onward k m → Alike r q
            → Same job s (stmts known work call₁ most ss f k r) (stmts (λ z. z) work32 call₂ most ss (setting s f) m q)
        stmts-same Stmts.end f k m r q h i = h f
        stmts-same (Stmts.next t ss) f k m r q h i = stmt-same t f _ _ r q (λ g. stmts-same ss g k m r q h i) i

  enter-same : (most : ℕ) (p : List Stmts) (d g : ℕ) (vs : List Value) (k : Value → Does Value) (m : ℤ → Does ℤ) → Alike k m → Same job s (enter known work most p d g vs k) (enter (λ z. z) work32 most p d g (map (under s) vs) m)
  unfolding enter
  enter-same most p zero g vs k m h = same-cut
  enter-same most p (suc d) g vs k m h =
      same_step (subst (λ f. Same job s (stmts known work (enter known work most p d) most (get_or p g Stmts.end) (frame none 16 (map some vs)) (λ f. failed) k) (stmts (λ z. z) work32 (enter (λ z. z) work32 most p d) most (get_or p g Stmts.end) f (λ f. failed) m))
      (setting-frame s 16 vs)
      (stmts-same (enter known work most p d) (enter (λ z. z) work32 most p d) (enter-same most p d) most (get_or p g Stmts.end) (frame none 16 (map some vs)) _ _ k m (λ f. same-failed) h))

  does-same : (most : ℕ) (p : Program) → Same job s (does known work most p) (does (λ z. z) work32 most p)
  unfolding does
  does-same most p = enter-same most p.bodies 32 p.main [] _ _ same-returned

-- the run over open values under a setting is the run with its values
pub natural : (job : Window) (l most : ℕ) (p : Program) (s : List ℤ) → runs job 0 (within l 8 (does known work most p)) s ≡ own_run job (within l 8 (does (λ z. z) work32 most p)) s
natural job l most p s = (does-same job s most p).same l 8 0 (omega arith)
