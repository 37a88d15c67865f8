-- Chains of calls, as they are computed: just those that there are.
use Prim.Native.Nat.{ℕ, zero, suc, ◌<◌}
use mathlib.Core.Path.{◌≡◌, refl, sym, ap, subst}
use mathlib.Core.Bool.{Bool, true, false, not, ◌&&◌, ◌||◌}
use mathlib.Core.List.Memᴰ.{head as first}
use mathlib.Core.List.Memᴰ.{not-nil as nowhere}
use mathlib.Core.List.Memᴰ.{tail as later}
use mathlib.Core.List.{List, [], ◌∷◌}
use mathlib.Core.Logic.{◌⊎◌, inl, inr, ◌↔◌}
use native.Mathlib.Omega.{arith}
use native.Mathlib.Decide.{dec_lt}
use lib.Dec.{eqb}
use borrow.Author.Tests.{eq-eqb, eqb-true}
use Rattle.semantics.specs.Demand.{◌∈◌}
use Rattle.remarks.specs.Remarks.{Call, is_call, chained}
use Rattle.remarks.specs.Words.{Leads, here, further}
use Rattle.remarks.specs.Steps.{unmarked, Marks}
use Rattle.remarks.proofs.Marking.{clash}

-- ---- tests that hold

or_left : (a b : Bool) → a ≡ true → (a || b) ≡ true
or_left true b e = refl
or_left false b e = absurd (clash e refl)

or_right : (a b : Bool) → b ≡ true → (a || b) ≡ true
or_right true b e = refl
or_right false b e = e

or_cases : (a b : Bool) → (a || b) ≡ true → (a ≡ true) ⊎ (b ≡ true)
or_cases true b e = inl refl
or_cases false b e = inr e

both_hold : (a b : Bool) → a ≡ true → b ≡ true → (a && b) ≡ true
both_hold true b e f = f
both_hold false b e f = absurd (clash e refl)

each_holds : (a b : Bool) → (a && b) ≡ true → (a ≡ true) × (b ≡ true)
each_holds true b e = (refl, e)
each_holds false b e = absurd (clash e refl)

-- ---- one call

pub record CallOf (cs : List Call) (f g : ℕ) : Type 0 where
  pub call : Call
  pub among : call ∈ cs
  pub from : call.caller ≡ f
  pub to : call.callee ≡ g

call-of : (cs : List Call) (f g : ℕ) → is_call cs f g ≡ true → CallOf cs f g
unfolding is_call
call-of [] f g e = absurd (clash e refl)
call-of (c ∷ cs) f g e = go (or_cases (eqb c.caller f && eqb c.callee g) (is_call cs f g) e) (call-of cs f g)
  where
    go : ((eqb c.caller f && eqb c.callee g) ≡ true) ⊎ (is_call cs f g ≡ true) → (is_call cs f g ≡ true → CallOf cs f g) → CallOf (c ∷ cs) f g
    go (inl p) r = let q = each_holds (eqb c.caller f) (eqb c.callee g) p in record { call = c; among = first refl; from = eqb-true c.caller f q.0; to = eqb-true c.callee g q.1 }
    go (inr p) r = let q = r p in record { call = q.call; among = later q.among; from = q.from; to = q.to }

is-call : (cs : List Call) (c : Call) → c ∈ cs → is_call cs c.caller c.callee ≡ true
unfolding is_call
is-call [] c m = absurd (nowhere m)
is-call (d ∷ cs) c (first e) =
    or_left (eqb d.caller c.caller && eqb d.callee c.callee) (is_call cs c.caller c.callee)
    (both_hold (eqb d.caller c.caller) (eqb d.callee c.callee) (eq-eqb d.caller c.caller (ap (λ (x : Call). x.caller) (sym e))) (eq-eqb d.callee c.callee (ap (λ (x : Call). x.callee) (sym e))))
is-call (d ∷ cs) c (later m) = or_right (eqb d.caller c.caller && eqb d.callee c.callee) (is_call cs c.caller c.callee) (is-call cs c m)

-- ---- chains

pub leads-on : {cs : List Call} {f a g : ℕ} → Leads cs f a → Leads cs a g → Leads cs f g
leads-on p here = p
leads-on p (further q m) = further (leads-on p q) m

module _ (cs : List Call) where
  -- what a chain through functions below k + 1 is
  more : (k f g : ℕ) → chained cs k f g ≡ true → chained cs (suc k) f g ≡ true
  unfolding chained
  more k f g e = or_left (chained cs k f g) (chained cs k f k && chained cs k k g) e

  by_way_of : (k f g : ℕ) → chained cs k f k ≡ true → chained cs k k g ≡ true → chained cs (suc k) f g ≡ true
  unfolding chained
  by_way_of k f g p q = or_right (chained cs k f g) (chained cs k f k && chained cs k k g) (both_hold (chained cs k f k) (chained cs k k g) p q)

  split : (k f g : ℕ) → chained cs (suc k) f g ≡ true → (chained cs k f g ≡ true) ⊎ ((chained cs k f k ≡ true) × (chained cs k k g ≡ true))
  unfolding chained
  split k f g e = go (or_cases (chained cs k f g) (chained cs k f k && chained cs k k g) e)
    where
      go : (chained cs k f g ≡ true) ⊎ ((chained cs k f k && chained cs k k g) ≡ true) → (chained cs k f g ≡ true) ⊎ ((chained cs k f k ≡ true) × (chained cs k k g ≡ true))
      go (inl p) = inl p
      go (inr p) = inr (each_holds (chained cs k f k) (chained cs k k g) p)

  -- there is one
  chain-leads : (k f g : ℕ) → chained cs k f g ≡ true → Leads cs f g
  unfolding chained
  chain-leads zero f g e = go (or_cases (eqb f g) (is_call cs f g) e)
    where
      go : (eqb f g ≡ true) ⊎ (is_call cs f g ≡ true) → Leads cs f g
      go (inl p) = subst (λ (x : ℕ). Leads cs f x) (eqb-true f g p) here
      go (inr p) =
          let c = call-of cs f g p in
          subst (λ (x : ℕ). Leads cs f x) c.to (further (subst (λ (x : ℕ). Leads cs f x) (sym c.from) here) c.among)
  chain-leads (suc k) f g e = go (split k f g e) (chain-leads k f g) (chain-leads k f k) (chain-leads k k g)
    where
      go : (chained cs k f g ≡ true) ⊎ ((chained cs k f k ≡ true) × (chained cs k k g ≡ true))
          → (chained cs k f g ≡ true → Leads cs f g) → (chained cs k f k ≡ true → Leads cs f k) → (chained cs k k g ≡ true → Leads cs k g) → Leads cs f g
      go (inl p) x y z = x p
      go (inr p) x y z = leads-on (y p.0) (z p.1)

  -- two that meet in a function below k are one
  joined : (k m f g : ℕ) → m < k → chained cs k f m ≡ true → chained cs k m g ≡ true → chained cs k f g ≡ true
  joined zero m f g h p q = absurd (omega (arith, h))
  joined (suc k) m f g h p q = go (λ x y. joined k m x y) (dec_lt m k) (split k f m p) (split k m g q)
    where
      go : ((x y : ℕ) → m < k → chained cs k x m ≡ true → chained cs k m y ≡ true → chained cs k x y ≡ true) → Dec (m < k) → (chained cs k f m ≡ true) ⊎ ((chained cs k f k ≡ true) × (chained cs k k m ≡ true))
          → (chained cs k m g ≡ true) ⊎ ((chained cs k m k ≡ true) × (chained cs k k g ≡ true)) → chained cs (suc k) f g ≡ true
      go r (yes l) (inl a) (inl b) = more k f g (r f g l a b)
      go r (yes l) (inl a) (inr b) = by_way_of k f g (r f k l a b.0) b.1
      go r (yes l) (inr a) (inl b) = by_way_of k f g a.0 (r k g l a.1 b)
      go r (yes l) (inr a) (inr b) = by_way_of k f g a.0 b.1
      go r (no l) a b = let z : m ≡ k = omega (arith, h, l) in by_way_of k f g (to a z) (from b z)
        where
          to : (chained cs k f m ≡ true) ⊎ ((chained cs k f k ≡ true) × (chained cs k k m ≡ true)) → m ≡ k → chained cs k f k ≡ true
          to (inl a) z = subst (λ (x : ℕ). chained cs k f x ≡ true) z a
          to (inr a) z = a.0

          from : (chained cs k m g ≡ true) ⊎ ((chained cs k m k ≡ true) × (chained cs k k g ≡ true)) → m ≡ k → chained cs k k g ≡ true
          from (inl b) z = subst (λ (x : ℕ). chained cs k x g ≡ true) z b
          from (inr b) z = b.1

  starts : (k f : ℕ) → chained cs k f f ≡ true
  unfolding chained
  starts zero f = or_left (eqb f f) (is_call cs f f) (eq-eqb f f refl)
  starts (suc k) f = more k f f (starts k f)

  calls-so : (k : ℕ) (c : Call) → c ∈ cs → chained cs k c.caller c.callee ≡ true
  unfolding chained
  calls-so zero c m = or_right (eqb c.caller c.callee) (is_call cs c.caller c.callee) (is-call cs c m)
  calls-so (suc k) c m = more k c.caller c.callee (calls-so k c m)

  -- each is found, where the functions have numbers below n
  module _ (n main : ℕ) (below : (c : Call) → c ∈ cs → c.callee < n) (begins : main < n) where
    led-below : (g : ℕ) → Leads cs main g → g < n
    led-below g here = begins
    led-below g (further {c = c} p m) = below c m

    leads-chain : (g : ℕ) → Leads cs main g → chained cs n main g ≡ true
    leads-chain g here = starts n main
    leads-chain g (further {c = c} p m) = joined n c.caller main c.callee (led-below c.caller p) (leads-chain c.caller p) (calls-so n c m)

    -- THEOREM. A chain of calls that is computed is one that there is.
    pub chain-exact : (g : ℕ) → (chained cs n main g ≡ true) ↔ Leads cs main g
    chain-exact g = (chain-leads n main g, leads-chain g)

    -- the functions that are not marked
    pub unmarked-so : (l : List ℕ) → Marks cs main l → (g : ℕ) → unmarked l g ≡ not (chained cs n main g)
    unmarked-so l w g = go (unmarked l g) refl (chained cs n main g) refl
      where
        go : (a : Bool) → unmarked l g ≡ a → (b : Bool) → chained cs n main g ≡ b → a ≡ not b
        go true p true q = absurd (clash p (w.every g (chain-leads n main g q)))
        go true p false q = refl
        go false p true q = refl
        go false p false q = absurd (clash (leads-chain g (w.led g p)) q)
