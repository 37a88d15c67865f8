-- The loops that seek a setting: where they stand, in memory.
use mathlib.Core.Path.{◌≡◌, refl, sym, ap, ◌∙◌, subst}
use mathlib.Core.Bool.{Bool, true, false}
use mathlib.Core.Option.{Option}
use mathlib.Core.List.{List}
use Prim.Native.Nat.{ℕ, suc, ◌+◌, ◌-◌, ◌≤◌, ◌<◌}
use native.Mathlib.Omega.{arith}
use lib.ListN.{length}
use lib.IntN.{ℤ}
use Rattle.semantics.specs.Program.{Window}
use Rattle.semantics.specs.Search.{Test, meets}
use Rattle.simulation.specs.Nodes.{meets_in}
use Rattle.simulation.specs.Odometer.{after}
use Rattle.machine.specs.Memory.{windows_in, setting_in, numbers_in, tests_in}
use Rattle.settings.specs.Table.{Worked, Follows, Renumbered, Steady}
use Rattle.settings.specs.Tries.{tests}
use Rattle.settings.specs.Seek.{Rose, Missed, none_yet, one_more, Sweeps, here, top, short, Sweeping, met, over, out, Seeking}
use Rattle.settings.specs.declared.Swept.{Swept}
use Rattle.settings.specs.declared.Swept.TheVariants.{Here, Top, Short}
use Rattle.settings.specs.declared.Sought.TheVariants.{Met, Over, Out}
use Rattle.settings.proofs.Pass.{worked-none}
use Rattle.settings.proofs.Renumbered.{setting-stays, meets-is, tests-steady, windows-steady, steady-none, steady-numbers, steady-setting, steady-more}

-- with so many moves left the settings before the present one do not meet the tests, and the nodes before `from` have their numbers
pub record Sees (m₀ : List ℕ) (n c k most : ℕ) (m : List ℕ) (from left : ℕ) : Type 0 where
  pub size : length m ≡ length m₀
  pub steady : Steady m₀ m
  pub worked : Worked m from k
  pub rest : left ≤ most
  pub missed : Missed (windows_in m₀ k) (tests m₀ n c) (setting_in m₀ k) (most - left) (setting_in m k)

abbrev Misses : List ℕ → ℕ → ℕ → ℕ → ℕ → List ℤ → Type 0
Misses m₀ n c k j s = Missed (windows_in m₀ k) (tests m₀ n c) (setting_in m₀ k) j s

pub sees-first : (m : List ℕ) (n c k most from : ℕ) → Worked m from k → Sees m n c k most m from most
sees-first m n c k most from w = record {
  size = refl;
  steady = steady-none m;
  worked = w;
  rest = omega arith;
  missed = subst (λ (j : ℕ). Misses m n c k j (setting_in m k)) {x = 0} {y = most - most} (omega arith) none_yet;
}

none_left : {m₀ : List ℕ} {n c k most : ℕ} {m : List ℕ} {from left : ℕ} → Sees m₀ n c k most m from left → left ≡ 0 → Misses m₀ n c k most (setting_in m k)
none_left {m₀} {n} {c} {k} {most} {m} {from} {left} p e = subst (λ (j : ℕ). Misses m₀ n c k j (setting_in m k)) {x = most - left} {y = most} (omega arith) p.missed

-- ---- as the last free variable goes up

module _ {m₀ : List ℕ} {n c k most : ℕ} {m : List ℕ} {from left : ℕ} (p : Sees m₀ n c k most m from left) where
  pub sees-short : left ≡ 0 → Sweeping m₀ m n c k most Short × Steady m₀ m
  sees-short e = (short (none_left p e), p.steady)

  module _ (few : k ≤ 8) (l : 0 < left) (m₁ : List ℕ) (w : Worked m₁ n k) (r : Renumbered m m₁) where
    pub sees-steady : Steady m₀ m₁
    sees-steady = steady-numbers m₀ m m₁ p.steady r

    so_far : Misses m₀ n c k (most - left) (setting_in m₁ k)
    so_far = subst (λ (s : List ℤ). Misses m₀ n c k (most - left) s) (sym (setting-stays m m₁ k few r)) p.missed

    tested : (a b : Bool) → a ≡ meets_in (numbers_in m₁ n) (tests_in m₁ c) → a ≡ b → meets (tests m₀ n c) (setting_in m₁ k) ≡ b
    tested a b e q = ap (λ (ts : List Test). meets ts (setting_in m₁ k)) (sym (tests-steady m₀ m₁ sees-steady n c)) ∙ sym (e ∙ meets-is m₁ n k w c) ∙ q

    -- the present setting meets the tests
    pub sees-here : (a : Bool) → a ≡ meets_in (numbers_in m₁ n) (tests_in m₁ c) → a ≡ true → Sweeping m₀ m₁ n c k most (Here (left - 1 + 1)) × Steady m₀ m₁
    sees-here a e q = (here {left = left - 1 + 1} so_far (omega (arith, p.rest)) (omega arith) (tested a true e q) w, sees-steady)

    -- it does not
    module _ (a : Bool) (e : a ≡ meets_in (numbers_in m₁ n) (tests_in m₁ c)) (q : a ≡ false) where
      pub sees-top : Sweeping m₀ m₁ n c k most (Top (left - 1)) × Steady m₀ m₁
      sees-top = (top {left = left - 1} so_far (omega (arith, p.rest)) (tested a false e q), sees-steady)

      pub sees-rose : (m₂ : List ℕ) (first : ℕ) → Rose m₁ m₂ first k → length m₂ ≡ length m → Sees m₀ n c k most m₂ first (left - 1)
      sees-rose m₂ first g z = record {
        size = z ∙ p.size;
        steady = steady-more m₀ m₁ m₂ sees-steady g.steady;
        worked = g.worked;
        rest = omega (arith, p.rest);
        missed = subst (λ (j : ℕ). Misses m₀ n c k j (setting_in m₂ k)) {x = suc (most - left)} {y = most - (left - 1)} (omega (arith, p.rest))
            (one_more so_far (tested a false e q) (ap (λ (ws : List Window). after ws (setting_in m₁ k)) (sym (windows-steady m₀ m₁ sees-steady k few)) ∙ g.is));
      }

-- ---- from sweep to sweep

missed_more : {ws : List Window} {ts : List Test} {s₀ s s' : List ℤ} {i j : ℕ} → Missed ws ts s₀ i s → Missed ws ts s j s' → (n : ℕ) → i + j ≡ n → Missed ws ts s₀ n s'
missed_more {ws} {ts} {s₀} {s} {s'} {i} p none_yet n e = subst (λ (n : ℕ). Missed ws ts s₀ n s) {x = i} {y = n} (omega arith) p
missed_more {ws} {ts} {s₀} {s} {s'} {i} p (one_more {j} {s₁} {s₂} q f g) n e = subst (λ (n : ℕ). Missed ws ts s₀ n s₂) {x = suc (i + j)} {y = n} (omega arith) (one_more (missed_more p q (i + j) refl) f g)

top_left : {ws : List Window} {ts : List Test} {s : List ℤ} {most : ℕ} {m : List ℕ} {n k left : ℕ} → Sweeps ws ts s most m n k (Top left) → left < most
top_left (top a b d) = omega arith

module _ {m₀ : List ℕ} {n c k most : ℕ} {m : List ℕ} {from left : ℕ} (p : Sees m₀ n c k most m from left) (few : k ≤ 8) (m₁ : List ℕ) (w : Renumbered m m₁) (m₂ : List ℕ) (r : Swept)
    (g : Sweeping m₁ m₂ n c k left r) (s : Steady m₁ m₂) where
  begun : Steady m₀ m₁
  begun = steady-numbers m₀ m m₁ p.steady w

  all : Steady m₀ m₂
  all = steady-more m₀ m₁ m₂ begun s

  -- said of the first memory
  swept : (u : Swept) → r ≡ u → Sweeps (windows_in m₀ k) (tests m₀ n c) (setting_in m k) left m₂ n k u
  swept u e = subst (λ (x : List ℤ). Sweeps (windows_in m₀ k) (tests m₀ n c) x left m₂ n k u) (setting-stays m m₁ k few w)
      (subst (λ (ts : List Test). Sweeps (windows_in m₀ k) ts (setting_in m₁ k) left m₂ n k u) (tests-steady m₀ m₁ begun n c)
      (subst (λ (ws : List Window). Sweeps ws (tests m₁ n c) (setting_in m₁ k) left m₂ n k u) (windows-steady m₀ m₁ begun k few)
      (subst (λ (u : Swept). Sweeping m₁ m₂ n c k left u) e g)))

  is-met : {i : ℕ} → Sweeps (windows_in m₀ k) (tests m₀ n c) (setting_in m k) left m₂ n k (Here i) → Seeking m₀ m₂ n c k most (Met i)
  is-met {i} (here {j} a b d e f) = met {left = i} (missed_more p.missed a (most - left + j) refl) (omega (arith, p.rest)) d e f

  pub sees-met : (i : ℕ) → r ≡ Here i → Seeking m₀ m₂ n c k most (Met i) × Steady m₀ m₂
  sees-met i e = (is-met (swept (Here i) e), all)

  is-out : Sweeps (windows_in m₀ k) (tests m₀ n c) (setting_in m k) left m₂ n k Short → Seeking m₀ m₂ n c k most Out
  is-out (short a) = out (missed_more p.missed a most (omega (arith, p.rest)))

  pub sees-none : r ≡ Short → Seeking m₀ m₂ n c k most Out × Steady m₀ m₂
  sees-none e = (is-out (swept Short e), all)

  pub sees_less : (i : ℕ) → r ≡ Top i → i < left
  sees_less i e = top_left (swept (Top i) e)

  module _ (m₃ : List ℕ) where
    there : {x : Option (List ℤ)} → after (windows_in m₂ k) (setting_in m₂ k) ≡ x → after (windows_in m₀ k) (setting_in m₂ k) ≡ x
    there h = ap (λ (ws : List Window). after ws (setting_in m₂ k)) (sym (windows-steady m₀ m₂ all k few)) ∙ h

    goes : {b : Bool} → Follows m₂ m₃ k b → Steady m₀ m₃
    goes f = steady-setting m₀ m₂ m₃ k few all f.other

    is-over : {i : ℕ} → Sweeps (windows_in m₀ k) (tests m₀ n c) (setting_in m k) left m₂ n k (Top i) → Follows m₂ m₃ k false → Seeking m₀ m₃ n c k most (Over i)
    is-over {i} (top {j} a b d) f = over {left = i} (missed_more p.missed a (most - left + j) refl) (omega (arith, p.rest)) d (there f.is)

    pub sees-over : (i : ℕ) → r ≡ Top i → Follows m₂ m₃ k false → Seeking m₀ m₃ n c k most (Over i) × Steady m₀ m₃
    sees-over i e f = (is-over (swept (Top i) e) f, goes f)

    is-next : {i : ℕ} → Sweeps (windows_in m₀ k) (tests m₀ n c) (setting_in m k) left m₂ n k (Top i) → Follows m₂ m₃ k true → length m₃ ≡ length m → Sees m₀ n c k most m₃ 0 i
    is-next {i} (top {j} a b d) f z = record {
      size = z ∙ p.size;
      steady = goes f;
      worked = worked-none m₃ k;
      rest = omega (arith, p.rest);
      missed = subst (λ (x : ℕ). Misses m₀ n c k x (setting_in m₃ k)) {x = suc (most - left + j)} {y = most - i} (omega (arith, p.rest))
          (one_more (missed_more p.missed a (most - left + j) refl) d (there f.is));
    }

    pub sees-next : (i : ℕ) → r ≡ Top i → Follows m₂ m₃ k true → length m₃ ≡ length m → Sees m₀ n c k most m₃ 0 i
    sees-next i e f z = is-next (swept (Top i) e) f z

module _ {m₀ : List ℕ} {n c k most : ℕ} {m : List ℕ} {from left : ℕ} (p : Sees m₀ n c k most m from left) where
  pub sees-out : left ≡ 0 → Seeking m₀ m n c k most Out × Steady m₀ m
  sees-out e = (out (none_left p e), p.steady)
