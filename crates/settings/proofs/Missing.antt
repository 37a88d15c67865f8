-- Settings that do not meet the tests are passed over: each is a move, and nothing else is counted.
use Rattle.std.specs.Prelude.{Ok, Err}
use mathlib.Core.Path.{◌≡◌, refl, sym, ap, ap₂, ◌∙◌, subst}
use mathlib.Core.Bool.{Bool, true, false}
use mathlib.Core.Option.{none}
use mathlib.Core.List.{List}
use Prim.Native.Nat.{ℕ, suc, ◌+◌, ◌-◌, ◌≤◌, ◌<◌}
use native.Mathlib.Omega.{arith}
use lib.IntN.{ℤ}
use Rattle.semantics.specs.Program.{Window}
use Rattle.semantics.specs.Search.{Value, Test, meets}
use Rattle.simulation.specs.Odometer.{after}
use Rattle.simulation.specs.Lister as lister
use Rattle.settings.specs.Tries.{tally_of, spending, leaving, cutting, Charged, Counted, Placing}
use Rattle.settings.specs.Seek.{Missed, none_yet, one_more}
use Rattle.settings.specs.declared.Tally.{Tally}
use Rattle.settings.specs.declared.Stopped.TheVariants.{Spent}
use Rattle.settings.proofs.Counting.{trying-missed, trying-over, probed-go, probed-over}
use Rattle.settings.proofs.Going.{whole, Tries, tries-next, tries-last, tries-over, probing, Probes, probes-next, probes-last, probes-over, probes-done}

-- ---- moves left

abbrev counted : Tally → ℕ → ℕ → Bool → Tally
counted t b m h = record { budget = b; skip = t.skip; room = t.room; written = t.written; moves = m; cut = h }

leaving-all : (t : Tally) (n : ℕ) → n ≡ t.budget → leaving t n ≡ t
leaving-all t n e = ap₂ (λ (b m : ℕ). counted t b m t.cut) {x = n} {y = t.budget} {u = t.moves + (t.budget - n)} {v = t.moves} e (omega arith)

pub leaving-one : (t : Tally) (n : ℕ) → 0 < n → n ≤ t.budget → leaving t (n - 1) ≡ spending (leaving t n)
leaving-one t n p l = ap (λ (m : ℕ). counted t (n - 1) m t.cut) {x = t.moves + (t.budget - (n - 1))} {y = t.moves + (t.budget - n) + 1} (omega arith)

-- ---- at a return

module _ (v : Value) (ts : List Test) (ws : List Window) (rows₀ : List ℤ) (t₀ : Tally) {rows : List ℤ} {t : Tally} where
  pub tries-missed : {s s' : List ℤ} {j : ℕ} → Tries v ts ws rows₀ t₀ s rows t → Missed ws ts s j s' → j ≤ t.budget → (n : ℕ) → j + n ≡ t.budget → Tries v ts ws rows₀ t₀ s' rows (leaving t n)
  tries-missed {s} p none_yet l n e = subst (Tries v ts ws rows₀ t₀ s rows) (sym (leaving-all t n (omega arith))) p
  tries-missed {s} {s'} p (one_more {j} {s₁} {s₂} q f g) l n e =
      subst (Tries v ts ws rows₀ t₀ s₂ rows) (sym (leaving-one t (suc n) (omega arith) (omega arith)) ∙ ap (leaving t) {x = suc n - 1} {y = n} (omega arith))
      (tries-next v ts ws rows₀ t₀ (tries-missed p q (omega arith) (suc n) (omega arith)) (trying-missed v ts s₁ rows (leaving t (suc n)) (λ z. omega arith) f) s₂ g)

  -- the last setting does not meet them
  pub tries-end : {s s₁ : List ℤ} {j : ℕ} → Tries v ts ws rows₀ t₀ s rows t → Missed ws ts s j s₁ → (n : ℕ) → suc j + n ≡ t.budget → meets ts s₁ ≡ false → after ws s₁ ≡ none
      → Placing rows₀ rows t₀ (whole v ts ws rows₀ t₀) (Ok (leaving t n))
  tries-end {s} {s₁} p q n e f g =
      subst (λ (u : Tally). Placing rows₀ rows t₀ (whole v ts ws rows₀ t₀) (Ok u)) (sym (leaving-one t (suc n) (omega arith) (omega arith)) ∙ ap (leaving t) {x = suc n - 1} {y = n} (omega arith))
      (tries-last v ts ws rows₀ t₀ (tries-missed p q (omega arith) (suc n) (omega arith)) (trying-missed v ts s₁ rows (leaving t (suc n)) (λ z. omega arith) f) g)

  -- no move is left
  pub tries-spent : {s s₁ : List ℤ} → Tries v ts ws rows₀ t₀ s rows t → Missed ws ts s t.budget s₁ → Placing rows₀ rows t₀ (whole v ts ws rows₀ t₀) (Err (Spent (leaving t 0)))
  tries-spent {s} {s₁} p q = tries-over v ts ws rows₀ t₀ (tries-missed p q (omega arith) 0 (omega arith)) (trying-over v ts s₁ rows (leaving t 0) refl) refl

-- ---- at a cut

module _ (ts : List Test) (ws : List Window) (t₀ t : Tally) (miss : t.cut ≡ false) where
  one : (s : List ℤ) (n : ℕ) (b : Bool) → 0 < n → n ≤ t.budget → meets ts s ≡ b → Charged (leaving t n) (λ rows. lister.probe ts s (tally_of rows (leaving t n))) (Ok (cutting (leaving t (n - 1)) b))
  one s n b p l f = probed-go ts s (leaving t n) (leaving t (n - 1)) b (λ z. omega arith) (leaving-one t n p l) (sym f)

  same : (n : ℕ) → cutting (leaving t (suc n - 1)) false ≡ leaving t n
  same n = ap₂ (λ (i : ℕ) (b : Bool). counted t i (t.moves + (t.budget - i)) b) {x = suc n - 1} {y = n} (omega arith) (sym miss)

  pub probes-missed : {s s' : List ℤ} {j : ℕ} → Probes ts ws t₀ s t → Missed ws ts s j s' → (n : ℕ) → j + n ≡ t.budget → Probes ts ws t₀ s' (leaving t n)
  probes-missed {s} p none_yet n e = subst (Probes ts ws t₀ s) (sym (leaving-all t n (omega arith))) p
  probes-missed p (one_more {j} {s₁} {s₂} q f g) n e =
      subst (Probes ts ws t₀ s₂) (same n) (probes-next ts ws t₀ (probes-missed p q (suc n) (omega arith)) miss (one s₁ (suc n) false (omega arith) (omega arith) f) s₂ g)

  -- this setting meets them
  pub probes-met : {s s₁ : List ℤ} {j : ℕ} → Probes ts ws t₀ s t → Missed ws ts s j s₁ → (n : ℕ) → j + n ≡ t.budget → 0 < n → meets ts s₁ ≡ true → Counted t₀ (probing ts ws t₀) (Ok (cutting (leaving t (n - 1)) true))
  probes-met {s} {s₁} p q n e l f = probes-done ts ws t₀ (probes-missed p q n e) miss (one s₁ n true l (omega arith) f) refl

  -- the last one does not
  pub probes-end : {s s₁ : List ℤ} {j : ℕ} → Probes ts ws t₀ s t → Missed ws ts s j s₁ → (n : ℕ) → suc j + n ≡ t.budget → meets ts s₁ ≡ false → after ws s₁ ≡ none → Counted t₀ (probing ts ws t₀) (Ok (leaving t n))
  probes-end {s} {s₁} p q n e f g =
      subst (λ (u : Tally). Counted t₀ (probing ts ws t₀) (Ok u)) (same n)
      (probes-last ts ws t₀ (probes-missed p q (suc n) (omega arith)) miss (one s₁ (suc n) false (omega arith) (omega arith) f) g)

  -- no move is left
  pub probes-spent : {s s₁ : List ℤ} → Probes ts ws t₀ s t → Missed ws ts s t.budget s₁ → Counted t₀ (probing ts ws t₀) (Err (Spent (leaving t 0)))
  probes-spent {s} {s₁} p q = probes-over ts ws t₀ (probes-missed p q 0 (omega arith)) miss (probed-over ts s₁ (leaving t 0) refl) _ (λ rows. refl)
