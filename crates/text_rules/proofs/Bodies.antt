-- The body of a function whose events fit has its names resolved.
use Prim.Native.Nat.{ℕ, zero, suc, ◌+◌, ◌≤◌}
use mathlib.Core.Path.{◌≡◌, refl, sym, ap, ◌∙◌, subst, subst₂}
use mathlib.Core.Bool.{not}
use mathlib.Core.List.{List, [], ◌∷◌, ◌++◌}
use native.Mathlib.Omega.{arith}
use Rattle.syntax.specs.Ast.{Sort, Ast, expr, args, mark, cond, stmt, stmts, body, params, fun, prog}
use Rattle.syntax.specs.Ast as A
use Rattle.events.specs.Event.{Event, function, parameter, thing, opens, closes, declares, ends, first, closing, stops, events_at}
use Rattle.text_rules.specs.Assigned.{parameter_count}
use Rattle.text_rules.specs.Rules.{most_declarations}
use Rattle.text_rules.specs.Names.{Declared}
use Rattle.text_rules.specs.Scopes.{Scope, scope, added, outer, entered}
use Rattle.text_rules.proofs.OneMeaning.{Each, done, also}
use Rattle.text_rules.proofs.Resolving.{shown, shown-added, Fits, next-few}
use Rattle.text_rules.proofs.Seen.{after, after-to}
use Rattle.text_rules.proofs.Slots.{Reads, Slots}
use Rattle.text_rules.proofs.Slots as S

module _ {P : Scope → Event → Type 0} where
  pub front : (s : Scope) (xs ys : List Event) → Each P s (xs ++ ys) → Each P s xs
  front s [] ys w = done
  front s (x ∷ xs) ys (also h w) = also h (front (entered s x) xs ys w)

  back : (s : Scope) (xs ys : List Event) → Each P s (xs ++ ys) → Each P (after s xs) ys
  unfolding after
  back s [] ys w = w
  back s (x ∷ xs) ys (also h w) = back (entered s x) xs ys w

  pub back_to : (s : Scope) (xs ys : List Event) {m : Scope} → after s xs ≡ m → Each P s (xs ++ ys) → Each P m ys
  back_to s xs ys e w = subst (λ (r : Scope). Each P r ys) e (back s xs ys w)

  head : {s : Scope} {e : Event} {es : List Event} → Each P s (e ∷ es) → P s e
  head (also h w) = h

  tail : {s : Scope} {e : Event} {es : List Event} → Each P s (e ∷ es) → Each P (entered s e) es
  tail (also h w) = w

-- ---- blocks

abbrev opened : Scope → Scope
opened s = scope ([] ∷ s.blocks) s.next

outer-added : (i n : ℕ) (bs : List (List Declared)) → outer (added i n bs) ≡ outer bs
unfolding outer added
outer-added i n [] = refl
outer-added i n (b ∷ bs) = refl

-- the innermost block of m is left, and what was open around it is open
leave : (m : Scope) {bs : List (List Declared)} → outer m.blocks ≡ bs → entered m closes ≡ scope bs m.next
unfolding entered
leave m e = ap (λ (r : List (List Declared)). scope r m.next) e

module _ (counts : List ℕ) (means : ℕ → ℕ) where
  abbrev All : Scope → List Event → Type 0
  All s es = Each (Fits counts means) s es

  -- an expression, arguments or a condition: its events leave the scope as it is, and it has R
  record Calm (s : Scope) (es : List Event) (R : Type 0) : Type 0 where
    still : after s es ≡ s
    reads : R

  -- statements: their events lead to a scope with the same blocks around the innermost one
  record Step (s : Scope) (es : List Event) {k : Sort} (t : Ast k) : Type 0 where
    end : Scope
    leads : after s es ≡ end
    around : outer end.blocks ≡ outer s.blocks
    slots : Slots counts means k (shown s.blocks) s.next t (shown end.blocks) end.next

  -- a block: all blocks are as before
  record Shut (s : Scope) (es : List Event) {k : Sort} (t : Ast k) : Type 0 where
    reached : ℕ
    leads : after s es ≡ scope s.blocks reached
    slots : Slots counts means k (shown s.blocks) s.next t (shown s.blocks) reached

  abbrev Resolved : (k : Sort) → Scope → List Event → Ast k → Type 0
  Resolved A.expr s es t = Calm s es (Reads counts means (shown s.blocks) s.next expr t)
  Resolved A.args s es t = Calm s es (Reads counts means (shown s.blocks) s.next args t)
  Resolved A.mark s es t = Unit {0}
  Resolved A.cond s es t = Calm s es (Reads counts means (shown s.blocks) s.next cond t)
  Resolved A.stmt s es t = Step s es t
  Resolved A.stmts s es t = Step s es t
  Resolved A.body s es t = Shut s es t
  Resolved A.params s es t = Unit {0}
  Resolved A.fun s es t = Unit {0}
  Resolved A.prog s es t = Unit {0}

  -- two parts, one after the other
  two : (s : Scope) (xs ys : List Event) {Q R T : Type 0} → (Q → R → T) → (All s xs → Calm s xs Q) → (All s ys → Calm s ys R) → All s (xs ++ ys) → Calm s (xs ++ ys) T
  two s xs ys make f g w =
      let a = f (front s xs ys w) in
      let b = g (back_to s xs ys a.still w) in
      record { still = after-to s xs ys a.still ∙ b.still; reads = make a.reads b.reads }

  -- a statement that leaves the scope as it is
  quiet : {s : Scope} {es : List Event} {t : Ast stmt} → after s es ≡ s → Slots counts means stmt (shown s.blocks) s.next t (shown s.blocks) s.next → Step s es t
  quiet {s} e h = record { end = s; leads = e; around = refl; slots = h }

  -- a declaration
  declares-one : (d i j : ℕ) (s : Scope) {t : Ast stmt} → Slots counts means stmt (shown s.blocks) s.next t (s.next ∷ shown s.blocks) (suc s.next) → Step s (thing d i ∷ declares j ∷ []) t
  unfolding after entered
  declares-one d i j s {t} h = record {
    end = scope (added j s.next s.blocks) (suc s.next);
    leads = refl;
    around = outer-added j s.next s.blocks;
    slots = subst (λ (ns : List ℕ). Slots counts means stmt (shown s.blocks) s.next t ns (suc s.next)) (sym (shown-added j s.next s.blocks)) h;
  }

  -- the mark of a statement or an argument before it
  said : {d i : ℕ} {s : Scope} {es : List Event} {R : Type 0} → Calm s es R → Calm s (thing d i ∷ es) R
  unfolding after entered
  said c = record { still = c.still; reads = c.reads }

  -- a condition xs and the statement ys in a block of its own, which is still open
  record Arm (s : Scope) (es : List Event) (c : Ast cond) (x : Ast stmt) : Type 0 where
    reads : Reads counts means (shown s.blocks) s.next cond c
    end : Scope
    leads : after s es ≡ end
    around : outer end.blocks ≡ s.blocks
    slots : Slots counts means stmt (shown s.blocks) s.next x (shown end.blocks) end.next

  arm : (s : Scope) (xs ys : List Event) {c : Ast cond} {x : Ast stmt} → (All s xs → Resolved cond s xs c) → (All (opened s) ys → Step (opened s) ys x)
      → All s (xs ++ opens ∷ ys) → Arm s (xs ++ opens ∷ ys) c x
  unfolding after entered outer shown
  arm s xs ys f g w =
      let q = f (front s xs (opens ∷ ys) w) in
      let a = g (tail (back_to s xs (opens ∷ ys) q.still w)) in
      record { reads = q.reads; end = a.end; leads = after-to s xs (opens ∷ ys) q.still ∙ a.leads; around = a.around; slots = a.slots }

  loops : (s : Scope) (es : List Event) {i : ℕ} {c : Ast cond} {x : Ast stmt} → (All s es → Arm s es c x) → All s (es ++ closes ∷ []) → Step s (es ++ closes ∷ []) (A.while i c x)
  unfolding after
  loops s es f w =
      let a = f (front s es (closes ∷ []) w) in
      record { end = scope s.blocks a.end.next; leads = after-to s es (closes ∷ []) a.leads ∙ leave a.end a.around; around = refl; slots = S.while a.reads a.slots }

  -- after the first arm the second one, zs
  branches : (s : Scope) (es zs : List Event) {i : ℕ} {c : Ast cond} {x y : Ast stmt} → (All s es → Arm s es c x) → ((n : ℕ) → All (scope ([] ∷ s.blocks) n) zs → Step (scope ([] ∷ s.blocks) n) zs y)
      → All s (es ++ closes ∷ opens ∷ zs ++ closes ∷ []) → Step s (es ++ closes ∷ opens ∷ zs ++ closes ∷ []) (A.if_else i c x y)
  unfolding after entered outer shown
  branches s es zs f g w =
      let v = front s (es ++ closes ∷ opens ∷ zs) (closes ∷ []) w in
      let a = f (front s es (closes ∷ opens ∷ zs) v) in
      let m : entered a.end closes ≡ scope s.blocks a.end.next = leave a.end a.around in
      let b = g a.end.next (tail (subst (λ (r : Scope). All r (opens ∷ zs)) m (tail (back_to s es (closes ∷ opens ∷ zs) a.leads v)))) in
      let k : after s (es ++ closes ∷ opens ∷ zs) ≡ b.end = after-to s es (closes ∷ opens ∷ zs) a.leads ∙ ap (λ (r : Scope). after r (opens ∷ zs)) m ∙ b.leads in
      record {
        end = scope s.blocks b.end.next;
        leads = after-to s (es ++ closes ∷ opens ∷ zs) (closes ∷ []) k ∙ leave b.end b.around;
        around = refl;
        slots = S.if_else a.reads a.slots b.slots;
      }

  resolve : {k : Sort} (d : ℕ) (s : Scope) (t : Ast k) → All s (events_at d t) → Resolved k s (events_at d t) t
  unfolding events_at after entered Fits shown outer
  resolve d s (A.number i) w = record { still = refl; reads = S.number }
  resolve d s (A.negative i) w = record { still = refl; reads = S.negative }
  resolve d s (A.name i) w = record { still = refl; reads = S.name (head w).0 (head w).1 }
  resolve d s (A.call i a) w =
      let r = resolve (suc d) s a (tail w) in
      record { still = r.still; reads = S.call (head w).0 (head w).1 r.reads }
  resolve d s (A.bracket i e) w =
      let r = resolve (suc d) s e (tail w) in
      record { still = r.still; reads = S.bracket r.reads }
  resolve d s (A.times o a b) w = two s (events_at d a) (events_at d b) S.times (resolve d s a) (resolve d s b) w
  resolve d s (A.plus a b) w = two s (events_at d a) (events_at d b) S.plus (resolve d s a) (resolve d s b) w
  resolve d s (A.minus a b) w = two s (events_at d a) (events_at d b) S.minus (resolve d s a) (resolve d s b) w
  resolve d s A.no_args w = record { still = refl; reads = S.no_args }
  resolve d s (A.more_args l e) w = two s (events_at d l) (thing d (first e) ∷ events_at d e) S.more_args (resolve d s l) (λ u. said (resolve d s e (tail u))) w
  resolve d s (A.cmp_mark o) w = tt
  resolve d s A.always w = record { still = refl; reads = S.always }
  resolve d s A.never w = record { still = refl; reads = S.never }
  resolve d s (A.compare a o b) w = two s (events_at d a) (events_at d b) S.compare (resolve d s a) (resolve d s b) w
  resolve d s (A.both a b) w = two s (events_at d a) (events_at d b) S.both (resolve d s a) (resolve d s b) w
  resolve d s (A.either a b) w = two s (events_at d a) (events_at d b) S.either (resolve d s a) (resolve d s b) w
  resolve d s (A.empty i) w = quiet refl S.empty
  resolve d s (A.declare i) w = declares-one d i (i + 1) s (S.declare (head (tail w)).0)
  resolve d s (A.declare_free i) w = declares-one d i (i + 1) s (S.declare_free (head (tail w)).0)
  resolve d s (A.declare_own i a b) w = declares-one d i (i + 1) s (S.declare_own (head (tail w)).0)
  resolve d s (A.assign i e) w =
      let r = resolve d s e (tail (tail w)) in
      quiet r.still (S.assign (head (tail w)).0 (head (tail w)).1 r.reads)
  resolve d s (A.eval e) w =
      let r = resolve d s e (tail w) in
      quiet r.still (S.eval r.reads)
  resolve d s (A.block i b) w =
      let r = resolve (suc d) s b (tail w) in
      record { end = scope s.blocks r.reached; leads = r.leads; around = refl; slots = S.block r.slots }
  resolve d s (A.if_else i c x y) w =
      let xs = thing d i ∷ events_at d c in
      let ys = events_at (suc d) x in
      branches s (xs ++ opens ∷ ys) (events_at (suc d) y) (arm s xs ys (λ u. said (resolve d s c (tail u))) (resolve (suc d) (opened s) x)) (λ n. resolve (suc d) (scope ([] ∷ s.blocks) n) y) w
  resolve d s (A.while i c x) w =
      let xs = thing d i ∷ events_at d c in
      let ys = events_at (suc d) x in
      loops s (xs ++ opens ∷ ys) (arm s xs ys (λ u. said (resolve d s c (tail u))) (resolve (suc d) (opened s) x)) w
  resolve d s (A.return i e) w =
      let r = resolve d s e (tail w) in
      quiet r.still (S.return r.reads)
  resolve d s (A.fail i) w = quiet refl S.fail
  resolve d s A.no_stmts w = record { end = s; leads = refl; around = refl; slots = S.no_stmts }
  resolve d s (A.more_stmts l x) w =
      let a = resolve d s l (front s (events_at d l) (events_at d x) w) in
      let b = resolve d a.end x (back_to s (events_at d l) (events_at d x) a.leads w) in
      record { end = b.end; leads = after-to s (events_at d l) (events_at d x) a.leads ∙ b.leads; around = b.around ∙ a.around; slots = S.more_stmts a.slots b.slots }
  resolve d s (A.braced l j) w =
      let xs = opens ∷ events_at d l in
      let a = resolve d (opened s) l (tail (front s xs (closes ∷ []) w)) in
      record { reached = a.end.next; leads = after-to s xs (closes ∷ []) a.leads ∙ leave a.end a.around; slots = S.braced a.slots }
  resolve d s A.no_params w = tt
  resolve d s (A.more_params l i) w = tt
  resolve d s (A.function i p b) w = tt
  resolve d s A.no_funs w = tt
  resolve d s (A.more_funs l f) w = tt

  -- ---- a function

  few-slots : (s : Scope) {es : List Event} → s.next ≤ most_declarations → All s es → (after s es).next ≤ most_declarations
  unfolding after
  few-slots s h done = h
  few-slots s h (also {e = e} f w) = few-slots (entered s e) (next-few counts means s e h f) w

-- the first n slots, the newest first
unfoldable pub first_slots : ℕ → List ℕ
first_slots zero = []
first_slots (suc n) = n ∷ first_slots n

abbrev start : Scope
start = scope ([] ∷ []) 0

record Started (es : List Event) (q : Ast params) : Type 0 where
  end : Scope
  leads : after start es ≡ end
  seen : shown end.blocks ≡ first_slots (parameter_count q)
  next : end.next ≡ parameter_count q

started : (d : ℕ) (q : Ast params) → Started (events_at d q) q
unfolding events_at after entered shown parameter_count first_slots
started d A.no_params = record { end = start; leads = refl; seen = refl; next = refl }
started d (A.more_params l i) =
    let r = started d l in
    record {
      end = scope (added i r.end.next r.end.blocks) (suc r.end.next);
      leads = after-to start (events_at d l) (parameter i ∷ []) r.leads;
      seen = shown-added i r.end.next r.end.blocks ∙ rw (r.next, r.seen);
      next = ap suc r.next;
    }

-- a function's body: its parameters have the first slots, its declarations the next ones, up to the limit
pub record ResolvedBody (counts : List ℕ) (means : ℕ → ℕ) (q : Ast params) (b : Ast body) : Type 0 where
  pub reached : ℕ
  pub slots : Slots counts means body (first_slots (parameter_count q)) (parameter_count q) b (first_slots (parameter_count q)) reached
  pub few : reached ≤ most_declarations

pub body-resolved : (counts : List ℕ) (means : ℕ → ℕ) (d i : ℕ) (q : Ast params) (b : Ast body) (s : Scope) → Each (Fits counts means) s (events_at d (A.function i q b)) → ResolvedBody counts means q b
unfolding events_at after entered
body-resolved counts means d i q b s w =
    let xs = events_at d q in
    let ys = events_at d b in
    let v = tail (front s (function i ∷ (xs ++ ys)) (ends (closing b) (not (stops b)) ∷ []) w) in
    let r = started d q in
    let x = resolve counts means d r.end b (back_to start xs ys r.leads v) in
    let e : (after start (xs ++ ys)).next ≡ x.reached = ap (λ (m : Scope). m.next) (after-to start xs ys r.leads ∙ x.leads) in
    let f = few-slots counts means start (omega arith) v in
    record {
      reached = x.reached;
      slots = subst₂ (λ (ns : List ℕ) (n : ℕ). Slots counts means body ns n b ns x.reached) r.seen r.next x.slots;
      few = omega (arith, e, f);
    }
