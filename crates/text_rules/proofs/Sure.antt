-- No run of a program whose names are resolved and whose tree keeps rule 17 reads a variable that holds nothing.
use Prim.Native.Nat.{ℕ, ◌≤◌}
use mathlib.Core.Path.{◌≡◌, refl, ap, ◌∙◌}
use mathlib.Core.Bool.{Bool, true, false}
use mathlib.Core.List.{List, [], ◌∷◌}
use mathlib.Core.List.Memᴰ.{append_cases}
use mathlib.Core.List.Memᴰ.{eq_of_singleton}
use mathlib.Core.List.Memᴰ.{not-nil}
use mathlib.Core.Logic.{◌⊎◌, inl, inr}
use native.Mathlib.Omega.{arith}
use lib.ListN.{length, get_or, length-map, get_or-eq_default}
use lib.Dec.{ltb}
use lib.IntN.{ℤ}
use borrow.Author.Tests.{ltb-true, ltb-false}
use Rattle.syntax.specs.Ast.{Ast, params, body, fun, prog}
use Rattle.syntax.specs.Ast as A
use Rattle.events.specs.Event.{events}
use Rattle.semantics.specs.Demand.{◌∈◌}
use Rattle.semantics.specs.Int.{Op}
use Rattle.semantics.specs.Program.{Program}
use Rattle.semantics.specs.Program as P
use Rattle.semantics.specs.Does.{does, Sure}
use Rattle.semantics.proofs.Assigned.{KeepsSs, parameters, assigned-sure}
use Rattle.text_rules.specs.Assigned.{parameter_count, unset, unassigned}
use Rattle.text_rules.specs.Rules.{heads, most_declarations}
use Rattle.text_rules.specs.Resolve.{part}
use Rattle.text_rules.proofs.Counts.{arities, nil-left, nil-right}
use Rattle.text_rules.proofs.Keeping.{arity_in, parameters-few, body-keeps}
use Rattle.text_rules.proofs.Programs.{Function, Resolves, functions, head_of, heads-are, bodies-are}

-- where a program keeps the rule, each of its functions does
function-unset : (means : ℕ → ℕ) (p : Ast prog) (set : ℕ → Bool) → unset means p set ≡ []
    → (i : ℕ) (q : Ast params) (b : Ast body) → A.function i q b ∈ functions p → unset means b (λ v. ltb v (parameter_count q)) ≡ []
unfolding unset functions
function-unset means A.no_funs set u i q b m = absurd (not-nil m)
function-unset means (A.more_funs l f) set u i q b m = go (append_cases (functions l) m) (function-unset means l set (nil-left _ _ u) i q b)
  where
    go : (A.function i q b ∈ functions l) ⊎ (A.function i q b ∈ (f ∷ [])) → (A.function i q b ∈ functions l → unset means b (λ v. ltb v (parameter_count q)) ≡ [])
        → unset means b (λ v. ltb v (parameter_count q)) ≡ []
    go (inl k) g = g k
    go (inr k) g = ap (λ (x : Ast fun). unset means x set) (eq_of_singleton k) ∙ nil-right (unset means l set) _ u

module _ (value means : ℕ → ℕ) (p : Ast prog) (r : Program) (h : Resolves value means p r) (u : unassigned means p ≡ []) where
  abbrev counts : List ℕ
  counts = arities (heads (events p))

  -- function g, if there is one
  known : (g : ℕ) {Q : Type 0} → (Function value means p g → Q) → (length (heads (events p)) ≤ g → Q) → Q
  known g {Q} f k = go (ltb g (length (heads (events p)))) refl
    where
      go : (b : Bool) → ltb g (length (heads (events p))) ≡ b → Q
      go true e = f (h.function g (ltb-true _ _ e))
      go false e = k (ltb-false _ _ e)

  few : (g : ℕ) → arity_in counts g ≤ most_declarations
  few g = known g
      (λ f. omega (arith, f.arity-is, parameters-few value counts means f.resolved))
      (λ l. omega (arith, get_or-eq_default counts 0 {n = g} (omega (arith, length-map (heads (events p)) (λ x. x.arity)))))

  bodies-end : (g : ℕ) → length (heads (events p)) ≤ g → get_or (part value means p []) g P.end ≡ P.end
  bodies-end g l = get_or-eq_default (part value means p []) P.end
      (omega (arith, ap length (heads-are p), ap length (bodies-are value means p), length-map (functions p) head_of, length-map (functions p) (part value means)))

  keeps : (g : ℕ) → KeepsSs (arity_in counts) (get_or r.bodies g P.end) (parameters (arity_in counts g))
  unfolding KeepsSs
  keeps g = rw h.bodies (known g
      (λ f. rw (f.body_is, f.arity-is) (body-keeps value counts means f.resolved (function-unset means p _ u f.name f.parameters f.body f.stands)))
      (λ l. rw (bodies-end g l) tt))

  pub program-sure : {X : Type 0} (num : ℤ → X) (work : Op → X → X → X) (most : ℕ) → Sure (does num work most r)
  program-sure num work most = assigned-sure num work (arity_in counts) most r few h.bare keeps
