-- The functions of a tree, by their numbers: the heads of its events and the bodies of its program are theirs, and where the events fit, each body has its names resolved.
use Prim.Native.Nat.{ℕ, zero, suc, ◌+◌, ◌<◌}
use mathlib.Core.Path.{◌≡◌, refl, sym, ap, ◌∙◌, subst}
use mathlib.Core.Bool.{Bool, not}
use mathlib.Core.List.{List, [], ◌∷◌, ◌++◌, map, map-append, append-nil, append_assoc}
use mathlib.Core.List.Memᴰ.{append_cases}
use mathlib.Core.List.Memᴰ.{eq_of_singleton}
use mathlib.Core.List.Memᴰ.{head as here}
use mathlib.Core.List.Memᴰ.{not-nil}
use mathlib.Core.List.Memᴰ.{tail as there}
use mathlib.Core.Logic.{◌⊎◌, inl, inr}
use native.Mathlib.Omega.{arith}
use lib.ListN.{length, get_or, length-map, get_or-map}
use Rattle.syntax.specs.Ast.{Sort, Ast, params, body, fun, prog}
use Rattle.syntax.specs.Ast as A
use Rattle.events.specs.Event.{Event, parameter, thing, opens, closes, ends, first, closing, stops, events_at, events}
use Rattle.events.proofs.Rising.{Rising}
use Rattle.semantics.specs.Demand.{◌∈◌}
use Rattle.semantics.specs.Program.{Stmts, Program}
use Rattle.semantics.specs.Program as P
use Rattle.text_rules.specs.Rules.{Head, parameters, heads, miscalls, mainless, too_many}
use Rattle.text_rules.specs.Names.{Meaning, meant, meanings, bad_names}
use Rattle.text_rules.specs.Scopes.{Scope, nowhere}
use Rattle.text_rules.specs.Assigned.{parameter_count}
use Rattle.text_rules.specs.Resolve.{part, resolved}
use Rattle.text_rules.specs.Answers.{head}
use Rattle.text_rules.proofs.Counts.{arities, main-lt, main-bare}
use Rattle.text_rules.proofs.OneMeaning.{Each}
use Rattle.text_rules.proofs.Resolving.{Fits, names-fit}
use Rattle.text_rules.proofs.Seen.{after, bad-names, meanings-are}
use Rattle.text_rules.proofs.Bodies.{front, back_to, ResolvedBody, body-resolved}

-- ---- the functions of a tree, in the order of the text

unfoldable pub functions : Ast prog → List (Ast fun)
functions A.no_funs = []
functions (A.more_funs l f) = functions l ++ f ∷ []

abbrev pub head_of : Ast fun → Head
head_of (A.function i q b) = head i (parameter_count q)

-- ---- their heads

-- events among which no function begins
abbrev Passes : List Event → Type 0
Passes xs = (zs : List Event) → heads (xs ++ zs) ≡ heads zs

both : (xs ys : List Event) → Passes xs → Passes ys → Passes (xs ++ ys)
both xs ys f g zs = ap heads (append_assoc xs ys zs) ∙ f (ys ++ zs) ∙ g zs

abbrev Inside : Sort → List Event → Type 0
Inside A.expr xs = Passes xs
Inside A.args xs = Passes xs
Inside A.mark xs = Passes xs
Inside A.cond xs = Passes xs
Inside A.stmt xs = Passes xs
Inside A.stmts xs = Passes xs
Inside A.body xs = Passes xs
Inside A.params xs = Passes xs
Inside A.fun xs = Unit {0}
Inside A.prog xs = Unit {0}

inside : {k : Sort} (d : ℕ) (t : Ast k) → Inside k (events_at d t)
unfolding events_at heads
inside d (A.number i) = λ zs. refl
inside d (A.negative i) = λ zs. refl
inside d (A.name i) = λ zs. refl
inside d (A.call i a) = inside (suc d) a
inside d (A.bracket i e) = inside (suc d) e
inside d (A.times o a b) = both (events_at d a) (events_at d b) (inside d a) (inside d b)
inside d (A.plus a b) = both (events_at d a) (events_at d b) (inside d a) (inside d b)
inside d (A.minus a b) = both (events_at d a) (events_at d b) (inside d a) (inside d b)
inside d A.no_args = λ zs. refl
inside d (A.more_args l e) = both (events_at d l) (thing d (first e) ∷ events_at d e) (inside d l) (inside d e)
inside d (A.cmp_mark o) = λ zs. refl
inside d A.always = λ zs. refl
inside d A.never = λ zs. refl
inside d (A.compare a o b) = both (events_at d a) (events_at d b) (inside d a) (inside d b)
inside d (A.both a b) = both (events_at d a) (events_at d b) (inside d a) (inside d b)
inside d (A.either a b) = both (events_at d a) (events_at d b) (inside d a) (inside d b)
inside d (A.empty i) = λ zs. refl
inside d (A.declare i) = λ zs. refl
inside d (A.declare_free i) = λ zs. refl
inside d (A.declare_own i a b) = λ zs. refl
inside d (A.assign i e) = inside d e
inside d (A.eval e) = inside d e
inside d (A.block i b) = inside (suc d) b
inside d (A.if_else i c s t) =
    let xs = thing d i ∷ events_at d c in
    let ys = opens ∷ events_at (suc d) s in
    let zs = closes ∷ opens ∷ events_at (suc d) t in
    both ((xs ++ ys) ++ zs) (closes ∷ []) (both (xs ++ ys) zs (both xs ys (inside d c) (inside (suc d) s)) (inside (suc d) t)) (λ us. refl)
inside d (A.while i c s) =
    let xs = thing d i ∷ events_at d c in
    let ys = opens ∷ events_at (suc d) s in
    both (xs ++ ys) (closes ∷ []) (both xs ys (inside d c) (inside (suc d) s)) (λ us. refl)
inside d (A.return i e) = inside d e
inside d (A.fail i) = λ zs. refl
inside d A.no_stmts = λ zs. refl
inside d (A.more_stmts l s) = both (events_at d l) (events_at d s) (inside d l) (inside d s)
inside d (A.braced l j) = both (opens ∷ events_at d l) (closes ∷ []) (inside d l) (λ us. refl)
inside d A.no_params = λ zs. refl
inside d (A.more_params l i) = both (events_at d l) (parameter i ∷ []) (inside d l) (λ us. refl)
inside d (A.function i q b) = tt
inside d A.no_funs = tt
inside d (A.more_funs l f) = tt

-- the parameters that a function's events begin with are its own
counts-parameters : (d : ℕ) (q : Ast params) (zs : List Event) → parameters (events_at d q ++ zs) ≡ parameter_count q + parameters zs
unfolding events_at parameters parameter_count
counts-parameters d A.no_params zs = omega arith
counts-parameters d (A.more_params l i) zs = ap parameters (append_assoc (events_at d l) (parameter i ∷ []) zs) ∙ omega (arith, counts-parameters d l (parameter i ∷ zs))

no-parameters : (d : ℕ) (b : Ast body) (zs : List Event) → parameters (events_at d b ++ zs) ≡ 0
unfolding events_at parameters
no-parameters d (A.braced l j) zs = refl

function-head : (d : ℕ) (f : Ast fun) (zs : List Event) → heads (events_at d f ++ zs) ≡ head_of f ∷ heads zs
unfolding events_at heads parameters
function-head d (A.function i q b) zs =
    let e = ends (closing b) (not (stops b)) in
    let us = events_at d b ++ e ∷ zs in
    let vs = ((events_at d q ++ events_at d b) ++ e ∷ []) ++ zs in
    let h : vs ≡ events_at d q ++ us = append_assoc (events_at d q ++ events_at d b) (e ∷ []) zs ∙ append_assoc (events_at d q) (events_at d b) (e ∷ zs) in
    let n : parameters vs ≡ parameter_count q = ap parameters h ∙ omega (arith, counts-parameters d q us, no-parameters d b (e ∷ zs)) in
    let r : heads vs ≡ heads zs = ap heads h ∙ inside d q us ∙ inside d b (e ∷ zs) in
    ap (λ (k : ℕ). head i k ∷ heads vs) n ∙ ap (λ (hs : List Head). head i (parameter_count q) ∷ hs) r

tree-heads : (d : ℕ) (p : Ast prog) (zs : List Event) → heads (events_at d p ++ zs) ≡ map head_of (functions p) ++ heads zs
unfolding events_at functions
tree-heads d A.no_funs zs = refl
tree-heads d (A.more_funs l f) zs =
    ap heads (append_assoc (events_at d l) (events_at d f) zs)
    ∙ tree-heads d l (events_at d f ++ zs)
    ∙ ap (λ (hs : List Head). map head_of (functions l) ++ hs) (function-head d f zs)
    ∙ sym (append_assoc (map head_of (functions l)) (head_of f ∷ []) (heads zs))
    ∙ ap (λ (hs : List Head). hs ++ heads zs) (sym (map-append head_of (functions l) (f ∷ [])))

-- head g has the name and the count of parameters of the tree's function g
pub heads-are : (p : Ast prog) → heads (events p) ≡ map head_of (functions p)
unfolding events heads
heads-are p = ap heads (sym (append-nil (events_at 1 p))) ∙ tree-heads 1 p [] ∙ append-nil (map head_of (functions p))

-- ---- their bodies

module _ (value means : ℕ → ℕ) where
  bodies-before : (p : Ast prog) (bs : List Stmts) → part value means p bs ≡ map (part value means) (functions p) ++ bs
  unfolding part functions
  bodies-before A.no_funs bs = refl
  bodies-before (A.more_funs l f) bs =
      let x = part value means f in
      bodies-before l (x ∷ bs)
      ∙ sym (append_assoc (map (part value means) (functions l)) (x ∷ []) bs)
      ∙ ap (λ (cs : List Stmts). cs ++ bs) (sym (map-append (part value means) (functions l) (f ∷ [])))

  -- body g of the program is that of the tree's function g
  pub bodies-are : (p : Ast prog) → part value means p [] ≡ map (part value means) (functions p)
  bodies-are p = bodies-before p [] ∙ append-nil (map (part value means) (functions p))

-- ---- names

module _ (counts : List ℕ) (means : ℕ → ℕ) where
  bodies-resolved : (d : ℕ) (p : Ast prog) (s : Scope) → Each (Fits counts means) s (events_at d p)
      → (i : ℕ) (q : Ast params) (b : Ast body) → A.function i q b ∈ functions p → ResolvedBody counts means q b
  unfolding events_at functions
  bodies-resolved d A.no_funs s w i q b m = absurd (not-nil m)
  bodies-resolved d (A.more_funs l f) s w i q b m = go (append_cases (functions l) m) (bodies-resolved d l s (front s (events_at d l) (events_at d f) w) i q b)
    where
      go : (A.function i q b ∈ functions l) ⊎ (A.function i q b ∈ (f ∷ [])) → (A.function i q b ∈ functions l → ResolvedBody counts means q b) → ResolvedBody counts means q b
      go (inl k) g = g k
      go (inr k) g =
          let r = after s (events_at d l) in
          body-resolved counts means d i q b r (subst (λ (x : Ast fun). Each (Fits counts means) r (events_at d x)) (sym (eq_of_singleton k)) (back_to s (events_at d l) (events_at d f) refl w))

-- ---- function g

-- an element by its place
module _ {A : Type 0} where
  item : (l : List A) (g : ℕ) → g < length l → A
  item [] g h = absurd (omega arith)
  item (x ∷ l) zero h = x
  item (x ∷ l) (suc g) h = item l g (omega arith)

  item_in : (l : List A) (g : ℕ) (h : g < length l) → item l g h ∈ l
  unfolding item
  item_in [] g h = absurd (omega arith)
  item_in (x ∷ l) zero h = here refl
  item_in (x ∷ l) (suc g) h = there (item_in l g (omega arith))

  item-map : {B : Type 0} (f : A → B) (d : B) (l : List A) (g : ℕ) (h : g < length l) → get_or (map f l) g d ≡ f (item l g h)
  unfolding item
  item-map f d [] g h = absurd (omega arith)
  item-map f d (x ∷ l) zero h = refl
  item-map f d (x ∷ l) (suc g) h = item-map f d l g (omega arith)

-- what stands in the tree p as function g, its head and its body, and that its names are resolved
pub record Function (value means : ℕ → ℕ) (p : Ast prog) (g : ℕ) : Type 0 where
  pub name : ℕ
  pub parameters : Ast params
  pub body : Ast A.body
  pub stands : A.function name parameters body ∈ functions p
  pub head-is : get_or (heads (events p)) g (head 0 0) ≡ head name (parameter_count parameters)
  pub arity-is : get_or (arities (heads (events p))) g 0 ≡ parameter_count parameters
  pub body_is : get_or (part value means p []) g P.end ≡ part value means body
  pub resolved : ResolvedBody (arities (heads (events p))) means parameters body

-- of a text that keeps the rules 6, 7 and 10, whatever its tokens meant before: its names are those of its events
pub text-fits : (same : ℕ → ℕ → Bool) (f : ℕ → ℕ) (p : Ast prog) {lo hi : ℕ} → Rising lo (events p) hi
    → bad_names same p ≡ [] → miscalls same (events p) ≡ [] → too_many (events p) ≡ []
    → Each (Fits (arities (heads (events p))) (meant f (meanings same p))) nowhere (events p)
text-fits same f p r six seven ten =
    subst (λ (ms : List Meaning). Each (Fits (arities (heads (events p))) (meant f ms)) nowhere (events p)) (meanings-are same p)
    (names-fit same f r (bad-names same p ∙ six) seven ten)

pub functions-resolved : (value : ℕ → ℕ) (same : ℕ → ℕ → Bool) (f : ℕ → ℕ) (p : Ast prog) {lo hi : ℕ} → Rising lo (events p) hi
    → bad_names same p ≡ [] → miscalls same (events p) ≡ [] → too_many (events p) ≡ []
    → (g : ℕ) → g < length (heads (events p)) → Function value (meant f (meanings same p)) p g
unfolding events part
functions-resolved value same f p r six seven ten g h =
    go (item (functions p) g k) (item_in (functions p) g k)
    (ap (λ (hs : List Head). get_or hs g (head 0 0)) (heads-are p) ∙ item-map head_of (head 0 0) (functions p) g k)
    (ap (λ (bs : List Stmts). get_or bs g P.end) (bodies-are value means p) ∙ item-map (part value means) P.end (functions p) g k)
  where
    means : ℕ → ℕ
    means = meant f (meanings same p)

    k : g < length (functions p)
    k = omega (arith, ap length (heads-are p), length-map (functions p) head_of)

    go : (x : Ast fun) → x ∈ functions p → get_or (heads (events p)) g (head 0 0) ≡ head_of x → get_or (part value means p []) g P.end ≡ part value means x → Function value means p g
    go (A.function i q b) m e u = record {
      name = i;
      parameters = q;
      body = b;
      stands = m;
      head-is = e;
      arity-is = get_or-map (λ (x : Head). x.arity) (heads (events p)) g (head 0 0) ∙ ap (λ (x : Head). x.arity) e;
      body_is = u;
      resolved = bodies-resolved (arities (heads (events p))) means 1 p nowhere (text-fits same f p r six seven ten) i q b m;
    }

-- ---- the program

-- the program r of the tree p: its bodies are those of the tree's functions, whose names are resolved, and its main is one of them, without parameters
pub record Resolves (value means : ℕ → ℕ) (p : Ast prog) (r : Program) : Type 0 where
  pub bodies : r.bodies ≡ part value means p []
  pub main : r.main < length (heads (events p))
  pub bare : get_or (arities (heads (events p))) r.main 0 ≡ 0
  pub function : (g : ℕ) → g < length (heads (events p)) → Function value means p g

-- where rule 8 is kept too
pub program-resolves : (value : ℕ → ℕ) (same : ℕ → ℕ → Bool) (is_main : ℕ → Bool) (end : ℕ) (f : ℕ → ℕ) (p : Ast prog) {lo hi : ℕ} → Rising lo (events p) hi
    → bad_names same p ≡ [] → miscalls same (events p) ≡ [] → mainless is_main end (events p) ≡ [] → too_many (events p) ≡ []
    → Resolves value (meant f (meanings same p)) p (resolved value (meant f (meanings same p)) is_main (heads (events p)) p)
program-resolves value same is_main end f p r six seven eight ten = record {
  bodies = refl;
  main = main-lt is_main end (heads (events p)) eight;
  bare = main-bare is_main end (heads (events p)) eight;
  function = functions-resolved value same f p r six seven ten;
}
