-- The names of a text by its events are the names of its tree: what the lookup is handed at a name is just what can be seen there.
use Prim.Native.Nat.{ℕ, suc, ◌+◌}
use mathlib.Core.Path.{◌≡◌, refl, sym, ap, ap₂, ◌∙◌, subst}
use mathlib.Core.Bool.{Bool}
use mathlib.Core.List.{List, [], ◌∷◌, ◌++◌, append_assoc, append-nil}
use native.Mathlib.Omega.{arith}
use Rattle.syntax.specs.Ast.{Sort, Ast, expr, args, mark, cond, stmt, stmts, body, params, fun, prog}
use Rattle.syntax.specs.Ast as A
use Rattle.events.specs.Event.{Event, thing, opens, closes, declares, events_at, events}
use Rattle.text_rules.specs.Scan.{scan}
use Rattle.text_rules.specs.Rules.{heads}
use Rattle.text_rules.specs.Assigned.{parameter_count}
use Rattle.text_rules.specs.Names.{Declared, variable, many, declared_by, earlier, parameters_of, Name, declared, names, names_of, for_names, misnamed, bad_names, bad_functions, named, meanings}
use Rattle.text_rules.proofs.Many.{stands, many-one, many-all}
use Rattle.text_rules.specs.Scopes.{Scope, scope, added, outer, entered, nowhere, on_name, name_at, bad_names_in, meanings_in}

-- ---- the scope after some events

unfoldable pub after : Scope → List Event → Scope
after s [] = s
after s (e ∷ es) = after (entered s e) es

after-append : (s : Scope) (xs ys : List Event) → after s (xs ++ ys) ≡ after (after s xs) ys
unfolding after
after-append s [] ys = refl
after-append s (x ∷ xs) ys = after-append (entered s x) xs ys

-- from where some events lead
pub after-to : (s : Scope) (xs ys : List Event) {m : Scope} → after s xs ≡ m → after s (xs ++ ys) ≡ after m ys
after-to s xs ys e = after-append s xs ys ∙ ap (λ (r : Scope). after r ys) e

-- ---- lists of names

module _ {X : Type 0} (of : Name → List X) where
  pub for-append : (xs ys : List Name) → for_names of (xs ++ ys) ≡ for_names of xs ++ for_names of ys
  unfolding for_names
  for-append [] ys = refl
  for-append (x ∷ xs) ys = ap (λ (l : List X). of x ++ l) (for-append xs ys) ∙ sym (append_assoc (of x) (for_names of xs) (for_names of ys))

  scan-append : (s : Scope) (xs ys : List Event) → scan entered (on_name of) s (xs ++ ys) ≡ scan entered (on_name of) s xs ++ scan entered (on_name of) (after s xs) ys
  unfolding scan after
  scan-append s [] ys = refl
  scan-append s (x ∷ xs) ys =
      ap (λ (l : List X). on_name of s x ++ l) (scan-append (entered s x) xs ys)
      ∙ sym (append_assoc (on_name of s x) (scan entered (on_name of) (entered s x) xs) (scan entered (on_name of) (after (entered s x) xs) ys))

  -- events from s on lead to s' and have the names ns
  record Part (s : Scope) (es : List Event) (ns : List Name) (s' : Scope) : Type 0 where
    leads : after s es ≡ s'
    gives : scan entered (on_name of) s es ≡ for_names of ns

  nothing : {s : Scope} → Part s [] [] s
  unfolding after scan for_names
  nothing = record { leads = refl; gives = refl }

  -- two parts, one after the other
  then : {s m s' : Scope} {xs ys : List Event} {ns ms : List Name} → Part s xs ns m → Part m ys ms s' → Part s (xs ++ ys) (ns ++ ms) s'
  then {s} {m} {s'} {xs} {ys} {ns} {ms} p q = record {
    leads = after-to s xs ys p.leads ∙ q.leads;
    gives =
        scan-append s xs ys
        ∙ ap₂ (λ (u v : List X). u ++ v) p.gives (ap (λ (r : Scope). scan entered (on_name of) r ys) p.leads ∙ q.gives)
        ∙ sym (for-append ns ms);
  }

  -- an event without a name, and one that has one, before a part
  plain : {s s' : Scope} {e : Event} {es : List Event} {ns : List Name} → on_name of s e ≡ [] → Part (entered s e) es ns s' → Part s (e ∷ es) ns s'
  unfolding after scan
  plain {s} {e = e} {es = es} h p = record { leads = p.leads; gives = ap (λ (l : List X). l ++ scan entered (on_name of) (entered s e) es) h ∙ p.gives }

  names-one : {s s' : Scope} {e : Event} {es : List Event} {x : Name} {ns : List Name} → on_name of s e ≡ of x → Part (entered s e) es ns s' → Part s (e ∷ es) (x ∷ ns) s'
  unfolding after scan for_names
  names-one h p = record { leads = p.leads; gives = ap₂ (λ (u v : List X). u ++ v) h p.gives }

  -- to a scope that is the same
  to : {s m s' : Scope} {es : List Event} {ns : List Name} → m ≡ s' → Part s es ns m → Part s es ns s'
  to {s} {es = es} {ns = ns} e p = subst (λ (r : Scope). Part s es ns r) e p

  -- no name more at the end
  ending : {s s' : Scope} {es : List Event} {ns : List Name} → Part s es (ns ++ []) s' → Part s es ns s'
  ending {s} {s'} {es} {ns} p = subst (λ (l : List Name). Part s es l s') (append-nil ns) p

  -- ---- scopes

  same_next : (bs : List (List Declared)) {n m : ℕ} → n ≡ m → scope bs n ≡ scope bs m
  same_next bs e = ap (λ (k : ℕ). scope bs k) e

  still : {s : Scope} {es : List Event} {ns : List Name} {bs : List (List Declared)} {n : ℕ} → Part s es ns (scope bs n) → Part s es ns (scope bs (n + 0))
  still {bs = bs} {n = n} p = to (same_next bs (omega arith)) p

  -- ---- by the tree

  -- what holds of a part in the block b, with the blocks bs around and n declarations before it
  abbrev Gives : (k : Sort) → ℕ → List Declared → List (List Declared) → ℕ → Ast k → Type 0
  Gives A.expr d b bs n t = Part (scope (b ∷ bs) n) (events_at d t) (names b bs n t) (scope (b ∷ bs) n)
  Gives A.args d b bs n t = Part (scope (b ∷ bs) n) (events_at d t) (names b bs n t) (scope (b ∷ bs) n)
  Gives A.mark d b bs n t = Unit {0}
  Gives A.cond d b bs n t = Part (scope (b ∷ bs) n) (events_at d t) (names b bs n t) (scope (b ∷ bs) n)
  Gives A.stmt d b bs n t = Part (scope (b ∷ bs) n) (events_at d t) (names b bs n t) (scope ((declared_by n t ++ b) ∷ bs) (n + stands t))
  Gives A.stmts d b bs n t = Part (scope (b ∷ bs) n) (events_at d t) (names b bs n t) (scope ((earlier n t ++ b) ∷ bs) (n + stands t))
  Gives A.body d b bs n t = Part (scope (b ∷ bs) n) (events_at d t) (names b bs n t) (scope (b ∷ bs) (n + stands t))
  Gives A.params d b bs n t = Unit {0}
  Gives A.fun d b bs n t = Unit {0}
  Gives A.prog d b bs n t = Unit {0}

  -- a declaration
  declares-one : (d i j : ℕ) (b : List Declared) (bs : List (List Declared)) (n : ℕ)
      → Part (scope (b ∷ bs) n) (thing d i ∷ declares j ∷ []) (declared j n (b ∷ bs) ∷ []) (scope ((variable j n ∷ b) ∷ bs) (n + 1))
  unfolding on_name entered added
  declares-one d i j b bs n = plain refl (names-one refl (to (same_next _ (omega arith)) nothing))

  -- a block begins, and ends
  open_block : {b : List Declared} {bs : List (List Declared)} {n : ℕ} {s' : Scope} {es : List Event} {ns : List Name}
      → Part (scope ([] ∷ b ∷ bs) n) es ns s' → Part (scope (b ∷ bs) n) (opens ∷ es) ns s'
  unfolding on_name entered
  open_block p = plain refl p

  close_block : {s : Scope} {b c : List Declared} {bs : List (List Declared)} {n : ℕ} {es : List Event} {ns : List Name}
      → Part s es ns (scope (c ∷ b ∷ bs) n) → Part s (es ++ closes ∷ []) ns (scope (b ∷ bs) n)
  unfolding on_name entered outer
  close_block p = ending (then p (plain refl nothing))

  -- a block ends, and another begins
  next-block : {s s' : Scope} {b c : List Declared} {bs : List (List Declared)} {n : ℕ} {es fs : List Event} {ns ms : List Name}
      → Part s es ns (scope (c ∷ b ∷ bs) n) → Part (scope ([] ∷ b ∷ bs) n) fs ms s' → Part s (es ++ closes ∷ opens ∷ fs) (ns ++ ms) s'
  unfolding on_name entered outer
  next-block p q = then p (plain refl (open_block q))

  gives : {k : Sort} (d : ℕ) (b : List Declared) (bs : List (List Declared)) (n : ℕ) (t : Ast k) → Gives k d b bs n t
  unfolding on_name events_at names entered declared_by earlier stands outer
  gives d b bs n (A.number i) = nothing
  gives d b bs n (A.negative i) = nothing
  gives d b bs n (A.name i) = names-one refl nothing
  gives d b bs n (A.call i a) = names-one refl (gives (suc d) b bs n a)
  gives d b bs n (A.bracket i e) = plain refl (gives (suc d) b bs n e)
  gives d b bs n (A.times o x y) = then (gives d b bs n x) (gives d b bs n y)
  gives d b bs n (A.plus x y) = then (gives d b bs n x) (gives d b bs n y)
  gives d b bs n (A.minus x y) = then (gives d b bs n x) (gives d b bs n y)
  gives d b bs n A.no_args = nothing
  gives d b bs n (A.more_args l e) = then (gives d b bs n l) (plain refl (gives d b bs n e))
  gives d b bs n (A.cmp_mark o) = tt
  gives d b bs n A.always = nothing
  gives d b bs n A.never = nothing
  gives d b bs n (A.compare x o y) = then (gives d b bs n x) (gives d b bs n y)
  gives d b bs n (A.both x y) = then (gives d b bs n x) (gives d b bs n y)
  gives d b bs n (A.either x y) = then (gives d b bs n x) (gives d b bs n y)
  gives d b bs n (A.empty i) = still (plain refl nothing)
  gives d b bs n (A.declare i) = declares-one d i (i + 1) b bs n
  gives d b bs n (A.declare_free i) = declares-one d i (i + 1) b bs n
  gives d b bs n (A.declare_own i x y) = declares-one d i (i + 1) b bs n
  gives d b bs n (A.assign i e) = still (plain refl (names-one refl (gives d b bs n e)))
  gives d b bs n (A.eval e) = still (plain refl (gives d b bs n e))
  gives d b bs n (A.block i l) = plain refl (gives (suc d) b bs n l)
  gives d b bs n (A.if_else i c s t) =
      to (same_next (b ∷ bs) (omega (arith, many-one s)))
      (close_block
      (next-block
      (to (same_next _ (omega (arith, many-one s))) (then (plain refl (gives d b bs n c)) (open_block (gives (suc d) [] (b ∷ bs) n s))))
      (gives (suc d) [] (b ∷ bs) (n + many s) t)))
  gives d b bs n (A.while i c s) = close_block (then (plain refl (gives d b bs n c)) (open_block (gives (suc d) [] (b ∷ bs) n s)))
  gives d b bs n (A.return i e) = still (plain refl (gives d b bs n e))
  gives d b bs n (A.fail i) = still (plain refl nothing)
  gives d b bs n A.no_stmts = still nothing
  gives d b bs n (A.more_stmts l s) =
      to (ap₂ (λ (x : List Declared) (m : ℕ). scope (x ∷ bs) m) (sym (append_assoc (declared_by (n + many l) s) (earlier n l) b)) (omega (arith, many-all l)))
      (then (to (same_next _ (omega (arith, many-all l))) (gives d b bs n l)) (gives d (earlier n l ++ b) bs (n + many l) s))
  gives d b bs n (A.braced l j) = close_block (open_block (gives d [] (b ∷ bs) n l))
  gives d b bs n A.no_params = tt
  gives d b bs n (A.more_params l i) = tt
  gives d b bs n (A.function i p l) = tt
  gives d b bs n A.no_funs = tt
  gives d b bs n (A.more_funs p f) = tt

  -- ---- a function, and a program

  starts : (d : ℕ) (b : List Declared) (bs : List (List Declared)) (n : ℕ) (q : Ast params) → Part (scope ([] ∷ []) 0) (events_at d q) (names b bs n q) (scope (parameters_of q ∷ []) (parameter_count q))
  unfolding on_name events_at names entered added parameters_of parameter_count
  starts d b bs n A.no_params = nothing
  starts d b bs n (A.more_params l i) = then (starts d b bs n l) (names-one refl nothing)

  function-gives : (d : ℕ) (s : Scope) (f : Ast fun) → scan entered (on_name of) s (events_at d f) ≡ for_names of (names [] [] 0 f)
  unfolding on_name events_at names entered
  function-gives d s (A.function i q l) =
      (ending
      (then
      (then (plain refl (starts d [] [] 0 q)) (gives d (parameters_of q) [] (parameter_count q) l))
      (plain refl nothing))
      ).gives

  program-gives : (d : ℕ) (s : Scope) (p : Ast prog) → scan entered (on_name of) s (events_at d p) ≡ for_names of (names [] [] 0 p)
  unfolding events_at names scan for_names
  program-gives d s A.no_funs = refl
  program-gives d s (A.more_funs p f) =
      scan-append s (events_at d p) (events_at d f)
      ∙ ap₂ (λ (u v : List X). u ++ v) (program-gives d s p) (function-gives d (after s (events_at d p)) f)
      ∙ sym (for-append (names [] [] 0 p) (names [] [] 0 f))

  pub text-gives : (p : Ast prog) → scan entered (on_name of) nowhere (events p) ≡ for_names of (names_of p)
  unfolding events
  text-gives p = program-gives 1 nowhere p

-- ---- what the lookup is handed

for-itself : (xs : List Name) → for_names (λ (x : Name). x ∷ []) xs ≡ xs
unfolding for_names
for-itself [] = refl
for-itself (x ∷ xs) = ap (λ (l : List Name). x ∷ l) (for-itself xs)

-- at each name of a text, in its order, the blocks that are open are those that hold the name, with the declarations that stand earlier in them
pub handed : (p : Ast prog) → scan entered name_at nowhere (events p) ≡ names_of p
handed p = text-gives (λ (x : Name). x ∷ []) p ∙ for-itself (names_of p)

-- ---- rule 6, and what names mean

module _ (same : ℕ → ℕ → Bool) where
  pub bad-names : (p : Ast prog) → bad_names_in same (events p) ≡ bad_names same p
  bad-names p = ap (λ (l : List ℕ). l ++ bad_functions same (events p)) (text-gives (misnamed same) p)

  pub meanings-are : (p : Ast prog) → meanings_in same (events p) ≡ meanings same p
  meanings-are p = text-gives (named same (heads (events p))) p
