-- What a good job line holds: numbers of 32 bits, and a text that begins within the input and within its first 40 bytes.
use Prim.Native.Nat.{ℕ, zero, suc, ◌+◌, ◌≤◌}
use native.Mathlib.Omega.{arith}
use mathlib.Core.Path.{◌≡◌, refl, sym, ◌∙◌, ap, subst}
use mathlib.Core.Bool.{Bool, true, false, ◌&&◌}
use Rattle.std.specs.Prelude.{Option, None, Some}
use mathlib.Core.List.{List, [], ◌∷◌}
use lib.ListN.{length}
use lib.Dec.{eqb, leb, ltb}
use lib.IntN.{ℤ, pos, negsuc, neg_ℤ}
use mir.Syntax.{w32}
use mir.Val.{SFits}
use borrow.Author.Tests.{ltb-true, ltb-false, leb-true}
use Rattle.lexer.specs.Lex.{decimal, same, bytes}
use Rattle.lines.specs.declared.Job.{Job}
use Rattle.lines.specs.JobLine.{is_natural, plain, minus, number_of, place, before, blank, job_with, job_in, line_job}
use Rattle.lines.proofs.Words.{place-le, no-job, a-job, no_line, a-line}
use Rattle.lines.proofs.Reach.{no-early-end}

-- ---- a number has 32 bits

nothing : {z : ℤ} → None ≡ Some z → ⊥
nothing {z} e = let q : ◌≡◌ {A = ℕ} 0 1 = cc in omega arith

plain_fits : (l : List ℕ) (z : ℤ) → plain l ≡ Some z → SFits w32 z
unfolding plain
plain_fits l z = go (is_natural l) (decimal 0 l) (leb (decimal 0 l) 2147483647) refl
  where
    go : (t : Bool) (d : ℕ) (u : Bool) → leb d 2147483647 ≡ u → elim (t && u) [ true ↦ Some (pos d) | false ↦ None ] ≡ Some z → SFits w32 z
    go true d true q e =
        let p : pos d ≡ z = cc in
        subst (SFits w32) p (record { sfits = omega (arith, leb-true d 2147483647 q) })
    go true d false q e = absurd (nothing e)
    go false d u q e = absurd (nothing e)

minus-fits : (l : List ℕ) (z : ℤ) → minus l ≡ Some z → SFits w32 z
unfolding minus
minus-fits l z = go (is_natural l) (decimal 0 l) (leb (decimal 0 l) 2147483648) refl
  where
    down : (d : ℕ) → d ≤ 2147483648 → SFits w32 (neg_ℤ (pos d))
    down zero h = record { sfits = omega arith }
    down (suc d) h = record { sfits = omega arith }

    go : (t : Bool) (d : ℕ) (u : Bool) → leb d 2147483648 ≡ u → elim (t && u) [ true ↦ Some (neg_ℤ (pos d)) | false ↦ None ] ≡ Some z → SFits w32 z
    go true d true q e =
        let p : neg_ℤ (pos d) ≡ z = cc in
        subst (SFits w32) p (down d (leb-true d 2147483648 q))
    go true d false q e = absurd (nothing e)
    go false d u q e = absurd (nothing e)

number_fits : (l : List ℕ) (z : ℤ) → number_of l ≡ Some z → SFits w32 z
unfolding number_of
number_fits [] z e = absurd (nothing e)
number_fits (b ∷ bs) z e = go (eqb b 45) e
  where
    go : (t : Bool) → elim t [ true ↦ minus bs | false ↦ plain (b ∷ bs) ] ≡ Some z → SFits w32 z
    go true e = minus-fits bs z e
    go false e = plain_fits (b ∷ bs) z e

-- ---- the line

bad-good : {j : Job} → None ≡ Some j → ⊥
bad-good {j} e = let q : ◌≡◌ {A = ℕ} 0 1 = cc in omega arith

abbrev the : Job → Option Job → Job
the d None = d
the d (Some j) = j

with-good : (t : ℕ) (x y s : Option ℤ) (j : Job) → job_with t x y s ≡ Some j → (x ≡ Some j.low) × (y ≡ Some j.high) × (t ≡ j.text)
with-good t None y s j e = absurd (bad-good e)
with-good t (Some a) None s j e = absurd (bad-good e)
with-good t (Some a) (Some b) None j e = absurd (bad-good e)
with-good t (Some a) (Some b) (Some (negsuc n)) j e = absurd (bad-good e)
with-good t (Some a) (Some b) (Some (pos n)) j e =
    let k = ap (the j) e in
    (ap (λ (i : Job). Some i.low) k, ap (λ (i : Job). Some i.high) k, ap (λ (i : Job). i.text) k)

pub record Holds (input : List ℕ) (j : Job) : Type 0 where
  pub low : SFits w32 j.low
  pub high : SFits w32 j.high
  pub inside : j.text ≤ length input
  pub near : j.text ≤ 40

in-good : (t : ℕ) (l : List ℕ) (j : Job) → job_in t l ≡ Some j → SFits w32 j.low × SFits w32 j.high × (t ≡ j.text)
in-good t l j = go (same (before blank l) (bytes "job")) refl
  where
    go : (b : Bool) → same (before blank l) (bytes "job") ≡ b → job_in t l ≡ Some j → SFits w32 j.low × SFits w32 j.high × (t ≡ j.text)
    go false q e = absurd (bad-good (sym (no-job t l q) ∙ e))
    go true q e =
        let p = with-good t _ _ _ j (sym (a-job t l q) ∙ e) in
        (number_fits _ j.low p.0, number_fits _ j.high p.1, p.2)

pub good-holds : (input : List ℕ) (j : Job) → line_job input ≡ Some j → Holds input j
good-holds l j e = go (ltb (place 10 l) (length l)) refl (ltb (place 10 l) 40) refl
  where
    go : (b : Bool) → ltb (place 10 l) (length l) ≡ b → (d : Bool) → ltb (place 10 l) 40 ≡ d → Holds l j
    go false q d r = absurd (bad-good (sym (no_line l (omega (arith, place-le 10 l, ltb-false (place 10 l) (length l) q))) ∙ e))
    go true q false r = absurd (bad-good (sym (no-early-end l (ltb-false (place 10 l) 40 r)) ∙ e))
    go true q true r =
        let p = in-good (place 10 l + 1) (before 10 l) j (sym (a-line l (ltb-true (place 10 l) (length l) q)) ∙ e) in
        record { low = p.0; high = p.1; inside = omega (arith, p.2, ltb-true (place 10 l) (length l) q); near = omega (arith, p.2, ltb-true (place 10 l) 40 r) }
