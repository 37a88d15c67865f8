-- Rule 17 sees two trees alike in which names at the same places mean the same variables.
use Prim.Native.Nat.{ℕ}
use mathlib.Core.Path.{◌≡◌, refl, sym, ap, ap₂, ◌∙◌}
use mathlib.Core.Bool.{Bool, true, false, cond, ◌&&◌, ◌||◌}
use mathlib.Core.List.{List, [], ◌∷◌, ◌++◌}
use Rattle.std.specs.Prelude.{Option, None, Some}
use native.Mathlib.Omega.{arith}
use lib.Dec.{eqb, ltb}
use lib.ListN.{length}
use Rattle.syntax.specs.Ast.{Sort, Ast}
use Rattle.syntax.specs.Ast as A
use Rattle.events.specs.Event.{Event, function, parameter, thing, opens, closes, declares, uses, calls, ends}
use Rattle.text_rules.specs.Scan.{scan}
use Rattle.text_rules.specs.Rules.{Head}
use Rattle.text_rules.specs.Names.{sought, unless_found, misnamed}
use Rattle.text_rules.specs.Scopes.{Scope, entered, on_name, misnamed_at}
use Rattle.text_rules.specs.Assigned.{at_end, after, unset}
use Rattle.text_rules.proofs.OneMeaning.{Each, done, also, Says}
use Rattle.house_style.proofs.Events as E
use Rattle.house_style.proofs.Events.{unmarked, Pair, Pairs, same-parameters}
use Rattle.house_style.proofs.Like.{Like, Alike}
use Rattle.house_style.proofs.Like as L
use Rattle.house_style.proofs.Rules.{empty-first, empty-rest, joined, sm, sm', Scopes, sought-alike, enters}

-- ---- what names mean

each-unmarked : {P : Scope → Event → Type 0} (s : Scope) (es : List Event) → Each P s es → Each P s (unmarked es)
unfolding unmarked entered
each-unmarked s [] w = done
each-unmarked s (function i ∷ es) (also h w) = also h (each-unmarked (entered s (function i)) es w)
each-unmarked s (parameter i ∷ es) (also h w) = also h (each-unmarked (entered s (parameter i)) es w)
each-unmarked s (thing d i ∷ es) (also h w) = each-unmarked s es w
each-unmarked s (opens ∷ es) (also h w) = also h (each-unmarked (entered s opens) es w)
each-unmarked s (closes ∷ es) (also h w) = also h (each-unmarked (entered s closes) es w)
each-unmarked s (declares i ∷ es) (also h w) = also h (each-unmarked (entered s (declares i)) es w)
each-unmarked s (uses i ∷ es) (also h w) = also h (each-unmarked (entered s (uses i)) es w)
each-unmarked s (calls i n ∷ es) (also h w) = also h (each-unmarked (entered s (calls i n)) es w)
each-unmarked s (ends i b ∷ es) (also h w) = also h (each-unmarked (entered s (ends i b)) es w)

abbrev pub Known : ℕ → ℕ → Type 0
Known i j = Unit {0}

abbrev pub Same : (means means' : ℕ → ℕ) → ℕ → ℕ → Type 0
Same means means' i j = means i ≡ means' j

module _ (spell spell' : ℕ → List ℕ) (hs ks : List Head) (means means' : ℕ → ℕ) where
  abbrev Al : ℕ → ℕ → Type 0
  Al = Alike spell spell'

  pair-means : (s t : Scope) (e f : Event) → Scopes spell spell' s t → Pair Al Al e f → Says (sm spell spell') hs means s e → Says (sm' spell spell') ks means' t f → misnamed_at (sm spell spell') s e ≡ [] → Pair Known (Same means means') e f
  unfolding Says on_name misnamed
  pair-means s t e f a (E.begun h) x y m = E.begun tt
  pair-means s t e f a (E.given h) x y m = E.given (x ∙ a.next ∙ sym y)
  pair-means s t e f a E.opened x y m = E.opened
  pair-means s t e f a E.closed x y m = E.closed
  pair-means s t e f a (E.declared h) x y m = E.declared (x ∙ a.next ∙ sym y)
  pair-means s t e f a (E.used {i = i} {j = j} h) x y m = E.used (found (sought (sm spell spell') s.blocks i) refl m)
    where
      found : (o : Option ℕ) → sought (sm spell spell') s.blocks i ≡ o → unless_found o i ≡ [] → means i ≡ means' j
      found None q m = absurd (let z : ◌≡◌ {A = ℕ} 0 1 = cc in omega arith)
      found (Some n) q m = x n q ∙ sym (y n (sym (sought-alike spell spell' h a.blocks) ∙ q))
  pair-means s t e f a (E.called h q) x y m = E.called tt q
  pair-means s t e f a (E.ended q) x y m = E.ended q

  pairs-mean : (s t : Scope) {es fs : List Event} → Scopes spell spell' s t → Pairs Al Al es fs → Each (Says (sm spell spell') hs means) s es → Each (Says (sm' spell spell') ks means') t fs
      → scan entered (misnamed_at (sm spell spell')) s es ≡ [] → Pairs Known (Same means means') es fs
  unfolding scan
  pairs-mean s t a E.none w x m = E.none
  pairs-mean s t a (E.more {e = e} {f = f} p ps) (also h w) (also k x) m =
      E.more (pair-means s t e f a p h k (empty-first (misnamed_at (sm spell spell') s e) _ m)) (pairs-mean (entered s e) (entered t f) (enters spell spell' s t e f a p) ps w x (empty-rest (misnamed_at (sm spell spell') s e) _ m))

  -- THEOREM. Where names are spelled alike, each is found and means what its event says, they mean the same.
  pub mean-alike : (s t : Scope) (es fs : List Event) → Scopes spell spell' s t → Pairs Al Al (unmarked es) (unmarked fs) → Each (Says (sm spell spell') hs means) s es → Each (Says (sm' spell spell') ks means') t fs
      → scan entered (misnamed_at (sm spell spell')) s (unmarked es) ≡ [] → Pairs Known (Same means means') (unmarked es) (unmarked fs)
  mean-alike s t es fs a ps w x m = pairs-mean s t a ps (each-unmarked s es w) (each-unmarked t fs x) m

-- ---- rule 17

read_alike : (i j : ℕ) {b c : Bool} → b ≡ c → length (cond b [] (i ∷ [])) ≡ length (cond c [] (j ∷ []))
read_alike i j {b} {c} e = ap (λ (x : Bool). length (cond x [] (i ∷ []))) e ∙ go c
  where
    go : (c : Bool) → length (cond c [] (i ∷ [])) ≡ length (cond c [] (j ∷ []))
    go true = refl
    go false = refl

-- an expression assigns nothing
expr-after : (names : ℕ → ℕ) (v : ℕ) (e : Ast A.expr) (b : Bool) → after names v e b ≡ b
unfolding after
expr-after names v (A.number i) b = refl
expr-after names v (A.negative i) b = refl
expr-after names v (A.name i) b = refl
expr-after names v (A.call i a) b = refl
expr-after names v (A.bracket i e) b = refl
expr-after names v (A.times o x y) b = refl
expr-after names v (A.plus x y) b = refl
expr-after names v (A.minus x y) b = refl

module _ {F G : ℕ → ℕ → Type 0} (means means' : ℕ → ℕ) where
  at-end : {c d : Ast A.cond} (end b : Bool) → Like F (Same means means') G A.cond c d → at_end c end b ≡ at_end d end b
  unfolding at_end
  at-end true b L.always = refl
  at-end false b L.always = refl
  at-end true b L.never = refl
  at-end false b L.never = refl
  at-end end b (L.compare x o y) = refl
  at-end true b (L.both {a = a} {d = d} x y) = at-end true (at_end a true b) y ∙ ap (at_end d true) (at-end true b x)
  at-end false b (L.both {a = a} {d = d} x y) = ap₂ ◌&&◌ (at-end false b x) (at-end false (at_end a true b) y ∙ ap (at_end d false) (at-end true b x))
  at-end true b (L.either {a = a} {d = d} x y) = ap₂ ◌&&◌ (at-end true b x) (at-end true (at_end a false b) y ∙ ap (at_end d true) (at-end false b x))
  at-end false b (L.either {a = a} {d = d} x y) = at-end false (at_end a false b) y ∙ ap (at_end d false) (at-end false b x)

  ends_as : {c d : Ast A.cond} (end : Bool) {a b : Bool} → a ≡ b → Like F (Same means means') G A.cond c d → at_end c end a ≡ at_end d end b
  ends_as {c} end {b = b} q x = ap (at_end c end) q ∙ at-end end b x

  after-like : {s : Sort} {x y : Ast s} (v : ℕ) {a b : Bool} → a ≡ b → Like F (Same means means') G s x y → after means v x a ≡ after means' v y b
  unfolding after
  after-like v q (L.number h) = q
  after-like v q (L.negative h) = q
  after-like v q (L.name h) = q
  after-like v q (L.call h a) = q
  after-like v {b = b} q (L.left {y = y} a) = q ∙ sym (expr-after means' v y b)
  after-like v {a = b} q (L.right {x = x} a) = expr-after means v x b ∙ q
  after-like v q (L.times a b) = q
  after-like v q (L.plus a b) = q
  after-like v q (L.minus a b) = q
  after-like v q L.no_args = q
  after-like v q (L.more_args l e) = q
  after-like v q L.cmp_mark = q
  after-like v q L.always = q
  after-like v q L.never = q
  after-like v q (L.compare a o b) = q
  after-like v q (L.both a b) = q
  after-like v q (L.either a b) = q
  after-like v q L.empty = q
  after-like v q (L.declare h) = q
  after-like v q (L.declare_free h) = ap₂ (λ (n : ℕ) (z : Bool). eqb n v || z) h q
  after-like v q (L.declare_own h x y) = ap₂ (λ (n : ℕ) (z : Bool). eqb n v || z) h q
  after-like v q (L.assign h a) = ap₂ (λ (n : ℕ) (z : Bool). eqb n v || z) h q
  after-like v q (L.eval a) = q
  after-like v q (L.block l) = after-like v q l
  after-like v q (L.if_else {c = c} {d = d} x s t) = ap₂ ◌&&◌ (after-like v (ends_as true q x) s) (after-like v (ends_as false q x) t)
  after-like v q (L.while {c = c} {d = d} x s) = ends_as false q x
  after-like v q (L.return a) = refl
  after-like v q L.fail = refl
  after-like v q L.no_stmts = q
  after-like v q (L.more_stmts l s) = after-like v (after-like v q l) s
  after-like v q (L.braced l) = after-like v q l
  after-like v q L.no_params = q
  after-like v q (L.more_params l h) = q
  after-like v q (L.function h p l) = q
  after-like v q L.no_funs = q
  after-like v q (L.more_funs p f) = q

  pub unset-like : {s : Sort} {x y : Ast s} {f g : ℕ → Bool} → ((v : ℕ) → f v ≡ g v) → Like F (Same means means') G s x y → length (unset means x f) ≡ length (unset means' y g)
  unfolding unset
  unset-like q (L.number v) = refl
  unset-like q (L.negative v) = refl
  unset-like {f = f} q (L.name {i = i} {j = j} h) = read_alike i j (ap f h ∙ q (means' j))
  unset-like q (L.call h a) = unset-like q a
  unset-like q (L.left a) = unset-like q a
  unset-like q (L.right a) = unset-like q a
  unset-like {f = f} {g = g} q (L.times {a = a₁} {b = b₁} {c = c₁} {d = d₁} a b) = joined (unset means a₁ f) (unset means b₁ f) (unset means' c₁ g) (unset means' d₁ g) (unset-like q a) (unset-like q b)
  unset-like {f = f} {g = g} q (L.plus {a = a₁} {b = b₁} {c = c₁} {d = d₁} a b) = joined (unset means a₁ f) (unset means b₁ f) (unset means' c₁ g) (unset means' d₁ g) (unset-like q a) (unset-like q b)
  unset-like {f = f} {g = g} q (L.minus {a = a₁} {b = b₁} {c = c₁} {d = d₁} a b) = joined (unset means a₁ f) (unset means b₁ f) (unset means' c₁ g) (unset means' d₁ g) (unset-like q a) (unset-like q b)
  unset-like q L.no_args = refl
  unset-like {f = f} {g = g} q (L.more_args {l = l₁} {m = m₁} {x = x₁} {y = y₁} l e) = joined (unset means l₁ f) (unset means x₁ f) (unset means' m₁ g) (unset means' y₁ g) (unset-like q l) (unset-like q e)
  unset-like q L.cmp_mark = refl
  unset-like q L.always = refl
  unset-like q L.never = refl
  unset-like {f = f} {g = g} q (L.compare {a = a₁} {b = b₁} {c = c₁} {d = d₁} a o b) = joined (unset means a₁ f) (unset means b₁ f) (unset means' c₁ g) (unset means' d₁ g) (unset-like q a) (unset-like q b)
  unset-like {f = f} {g = g} q (L.both {a = a₁} {b = b₁} {c = c₁} {d = d₁} a b) = joined (unset means a₁ f) (unset means b₁ (λ v. at_end a₁ true (f v))) (unset means' c₁ g) (unset means' d₁ (λ v. at_end c₁ true (g v))) (unset-like q a) (unset-like (λ v. ends_as true (q v) a) b)
  unset-like {f = f} {g = g} q (L.either {a = a₁} {b = b₁} {c = c₁} {d = d₁} a b) = joined (unset means a₁ f) (unset means b₁ (λ v. at_end a₁ false (f v))) (unset means' c₁ g) (unset means' d₁ (λ v. at_end c₁ false (g v))) (unset-like q a) (unset-like (λ v. ends_as false (q v) a) b)
  unset-like q L.empty = refl
  unset-like q (L.declare h) = refl
  unset-like q (L.declare_free h) = refl
  unset-like q (L.declare_own h x y) = refl
  unset-like q (L.assign h a) = unset-like q a
  unset-like q (L.eval a) = unset-like q a
  unset-like q (L.block l) = unset-like q l
  unset-like {f = f} {g = g} q (L.if_else {c = c₁} {d = d₁} {s = s₁} {t = t₁} {u = u₁} {v = v₁} x s t) = joined ((unset means c₁ f) ++ (unset means s₁ (λ v. at_end c₁ true (f v)))) (unset means t₁ (λ v. at_end c₁ false (f v))) ((unset means' d₁ g) ++ (unset means' u₁ (λ v. at_end d₁ true (g v)))) (unset means' v₁ (λ v. at_end d₁ false (g v)))
      (joined (unset means c₁ f) (unset means s₁ (λ v. at_end c₁ true (f v))) (unset means' d₁ g) (unset means' u₁ (λ v. at_end d₁ true (g v))) (unset-like q x) (unset-like (λ v. ends_as true (q v) x) s)) (unset-like (λ v. ends_as false (q v) x) t)
  unset-like {f = f} {g = g} q (L.while {c = c₁} {d = d₁} {s = s₁} {u = u₁} x s) = joined (unset means c₁ f) (unset means s₁ (λ v. at_end c₁ true (f v))) (unset means' d₁ g) (unset means' u₁ (λ v. at_end d₁ true (g v))) (unset-like q x) (unset-like (λ v. ends_as true (q v) x) s)
  unset-like q (L.return a) = unset-like q a
  unset-like q L.fail = refl
  unset-like q L.no_stmts = refl
  unset-like {f = f} {g = g} q (L.more_stmts {l = l₁} {m = m₁} {s = s₁} {t = t₁} l s) = joined (unset means l₁ f) (unset means s₁ (λ v. after means v l₁ (f v))) (unset means' m₁ g) (unset means' t₁ (λ v. after means' v m₁ (g v))) (unset-like q l) (unset-like (λ v. after-like v (q v) l) s)
  unset-like q (L.braced l) = unset-like q l
  unset-like q L.no_params = refl
  unset-like q (L.more_params l h) = refl
  unset-like q (L.function h p l) = unset-like (λ v. ap (ltb v) (same-parameters p)) l
  unset-like q L.no_funs = refl
  unset-like {f = f} {g = g} q (L.more_funs {p = p₁} {q = q₁} {f = f₁} {g = g₁} p h) = joined (unset means p₁ f) (unset means f₁ f) (unset means' q₁ g) (unset means' g₁ g) (unset-like q p) (unset-like q h)
