-- How much of the input the job line needs: a good one has at most 40 bytes, its LF included.
use Prim.Native.Nat.{ℕ, zero, suc, ◌+◌, ◌≤◌, ◌<◌}
use native.Mathlib.Omega.{arith}
use mathlib.Core.Path.{◌≡◌, refl, sym, ◌∙◌, ap}
use mathlib.Core.Bool.{Bool, true, false, ◌||◌}
use Rattle.std.specs.Prelude.{Option, None}
use mathlib.Core.List.{List, [], ◌∷◌, ◌++◌}
use lib.ListN.{length, take, length-drop, length-append}
use lib.Seq.{length-take-le, take-append-le}
use lib.Dec.{eqb, leb, ltb}
use lib.IntN.{ℤ}
use borrow.Author.Tests.{lt-leb, leb-true, ltb-true, ltb-false}
use Rattle.lexer.specs.Lex.{is_digit, all, same, bytes}
use Rattle.lexer.proofs.Bytes.{and-false, same-eq}
use Rattle.lines.specs.JobLine.{plain, minus, number_of, place, before, after, blank, job_with, job_in, line_job, line_settled}
use Rattle.lines.proofs.Words.{place-le, no-job, a-job, no-high, no_third, no_line, a-line}

plain-long : (l : List ℕ) → 10 < length l → plain l ≡ None
unfolding plain
plain-long l h = rw (lt-leb (length l) 10 h, and-false (leb 1 (length l)), and-false (all is_digit l), plain)

minus-long : (l : List ℕ) → 10 < length l → minus l ≡ None
unfolding minus
minus-long l h = rw (lt-leb (length l) 10 h, and-false (leb 1 (length l)), and-false (all is_digit l), minus)

number-long : (l : List ℕ) → 11 < length l → number_of l ≡ None
unfolding number_of
number-long [] h = refl
number-long (b ∷ bs) h = go (eqb b 45)
  where
    go : (t : Bool) → ◌≡◌ {A = Option ℤ} (elim t [ true ↦ minus bs | false ↦ plain (b ∷ bs) ]) None
    go true = minus-long bs (omega arith)
    go false = plain-long (b ∷ bs) (omega arith)

long-line : (t : ℕ) (l : List ℕ) → 39 < length l → job_in t l ≡ None
long-line t l h = go (same (before blank l) (bytes "job")) refl
  where
    go : (b : Bool) → same (before blank l) (bytes "job") ≡ b → job_in t l ≡ None
    go false e = no-job t l e
    go true e =
        let three : place blank l ≡ 3 = sym (length-take-le (place blank l) l (place-le blank l)) ∙ ap length (same-eq (before blank l) (bytes "job") e) in
        let rest : 35 < length (after blank l) = omega (arith, length-drop (place blank l + 1) l) in
        a-job t l e ∙ low (ltb 11 (place blank (after blank l))) refl rest
      where
        size : (m : List ℕ) → length (before blank m) ≡ place blank m
        size m = length-take-le (place blank m) m (place-le blank m)

        third : (b : Bool) → ltb 11 (place blank (after blank (after blank l))) ≡ b → 23 < length (after blank (after blank l))
            → job_with t (number_of (before blank (after blank l))) (number_of (before blank (after blank (after blank l)))) (number_of (after blank (after blank (after blank l)))) ≡ None
        third true q k = ap (λ (o : Option ℤ). job_with t (number_of (before blank (after blank l))) o (number_of (after blank (after blank (after blank l))))) (number-long (before blank (after blank (after blank l))) (omega (arith, size (after blank (after blank l)), ltb-true 11 (place blank (after blank (after blank l))) q))) ∙ no-high t (number_of (before blank (after blank l))) (number_of (after blank (after blank (after blank l))))
        third false q k = ap (λ (o : Option ℤ). job_with t (number_of (before blank (after blank l))) (number_of (before blank (after blank (after blank l)))) o) (number-long (after blank (after blank (after blank l))) (omega (arith, length-drop (place blank (after blank (after blank l)) + 1) (after blank (after blank l)), ltb-false 11 (place blank (after blank (after blank l))) q))) ∙ no_third t (number_of (before blank (after blank l))) (number_of (before blank (after blank (after blank l))))

        low : (b : Bool) → ltb 11 (place blank (after blank l)) ≡ b → 35 < length (after blank l)
            → job_with t (number_of (before blank (after blank l))) (number_of (before blank (after blank (after blank l)))) (number_of (after blank (after blank (after blank l)))) ≡ None
        low true q k = ap (λ (o : Option ℤ). job_with t o (number_of (before blank (after blank (after blank l)))) (number_of (after blank (after blank (after blank l))))) (number-long (before blank (after blank l)) (omega (arith, size (after blank l), ltb-true 11 (place blank (after blank l)) q)))
        low false q k = third (ltb 11 (place blank (after blank (after blank l)))) refl (omega (arith, length-drop (place blank (after blank l) + 1) (after blank l), ltb-false 11 (place blank (after blank l)) q))

place_in : (b : ℕ) (l r : List ℕ) → place b l < length l → place b (l ++ r) ≡ place b l
unfolding place
place_in b [] r h = absurd (omega arith)
place_in b (x ∷ l) r h = go (eqb x b) h (place_in b l r)
  where
    go : (t : Bool) → elim t [ true ↦ zero | false ↦ suc (place b l) ] < suc (length l) → (place b l < length l → place b (l ++ r) ≡ place b l)
        → ◌≡◌ {A = ℕ} (elim t [ true ↦ zero | false ↦ suc (place b (l ++ r)) ]) (elim t [ true ↦ zero | false ↦ suc (place b l) ])
    go true k f = refl
    go false k f = ap suc (f (omega arith))

place_out : (b : ℕ) (l r : List ℕ) → length l ≤ place b l → length l ≤ place b (l ++ r)
unfolding place
place_out b [] r h = omega arith
place_out b (x ∷ l) r h = go (eqb x b) h (place_out b l r)
  where
    go : (t : Bool) → suc (length l) ≤ elim t [ true ↦ zero | false ↦ suc (place b l) ] → (length l ≤ place b l → length l ≤ place b (l ++ r))
        → suc (length l) ≤ elim t [ true ↦ zero | false ↦ suc (place b (l ++ r)) ]
    go true k f = absurd (omega arith)
    go false k f = omega (arith, f (omega arith))

pub no-early-end : (l : List ℕ) → 40 ≤ place 10 l → line_job l ≡ None
no-early-end l h = go (ltb (place 10 l) (length l)) refl
  where
    go : (b : Bool) → ltb (place 10 l) (length l) ≡ b → line_job l ≡ None
    go true q = a-line l (ltb-true (place 10 l) (length l) q) ∙ long-line (place 10 l + 1) (before 10 l) (omega (arith, length-take-le (place 10 l) l (place-le 10 l)))
    go false q = no_line l (omega (arith, place-le 10 l, ltb-false (place 10 l) (length l) q))

-- a line that has ended is settled, whatever stands after it
ended-line : (l r : List ℕ) → place 10 l < length l → line_job (l ++ r) ≡ line_job l
ended-line l r k =
    let e : place 10 (l ++ r) ≡ place 10 l = place_in 10 l r k in
    a-line (l ++ r) (omega (arith, length-append l r))
    ∙ ap (λ (n : ℕ). job_in (n + 1) (take n (l ++ r))) e
    ∙ ap (λ (m : List ℕ). job_in (place 10 l + 1) m) (take-append-le (place 10 l) l r (omega arith))
    ∙ sym (a-line l k)

-- of input that never ends 40 bytes settle the job line, whatever stands after them
long-settled : (l r : List ℕ) → 40 ≤ length l → line_job (l ++ r) ≡ line_job l
long-settled l r h = go (ltb (place 10 l) (length l)) refl
  where
    go : (b : Bool) → ltb (place 10 l) (length l) ≡ b → line_job (l ++ r) ≡ line_job l
    go true q = ended-line l r (ltb-true (place 10 l) (length l) q)
    go false q =
        let k : length l ≤ place 10 l = ltb-false (place 10 l) (length l) q in
        no-early-end (l ++ r) (omega (arith, place_out 10 l r k)) ∙ sym (no-early-end l (omega arith))

pub line-settled : (l r : List ℕ) → line_settled l ≡ true → line_job (l ++ r) ≡ line_job l
line-settled l r h = go (leb 40 (length l)) (ltb (place 10 l) (length l)) refl refl h
  where
    go : (a b : Bool) → leb 40 (length l) ≡ a → ltb (place 10 l) (length l) ≡ b → a || b ≡ true → line_job (l ++ r) ≡ line_job l
    go true b p q e = long-settled l r (leb-true 40 (length l) p)
    go false true p q e = ended-line l r (ltb-true (place 10 l) (length l) q)
    go false false p q e = absurd (let z : ◌≡◌ {A = ℕ} 0 1 = cc in omega arith)
