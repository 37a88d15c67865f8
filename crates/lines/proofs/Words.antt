-- Places, digits and numbers of the job line.
use Prim.Native.Nat.{ℕ, zero, suc, ◌+◌, ◌-◌, ◌*◌, ◌^◌, ◌≤◌, ◌<◌}
use native.Mathlib.Omega.{arith}
use native.Mathlib.Numerals.{add-one}
use native.Mathlib.Nat.{pow-suc, pow-le-pow_right}
use mathlib.Core.Path.{◌≡◌, refl, sym, ◌∙◌, ap, subst}
use mathlib.Core.Bool.{Bool, true, false, ◌&&◌}
use mathlib.Core.List.{List, [], ◌∷◌}
use Rattle.std.specs.Prelude.{Option, None, Some, Result, Ok, Err, SomeIff, not, cond, unwrap_or}
use Rattle.std.specs.Result.{OkIff, result_ok}
use Rattle.std.specs.List.{position_or_len, position}
use lib.IntN.{ℤ, pos, negsuc, neg_ℤ, nat_abs}
use Rattle.std.specs.Int.{IsNonNegative}
use mir.Syntax.{w32}
use mir.Val.{SFits}
use lib.ListN.{length, take, drop, get_or, drop_of_length-le, length-drop}
use lib.Seq.{drop-cons, take_all}
use lib.Dec.{eqb, leb, ltb}
use lib.Pointwise.{pointwise}
use borrow.Author.Tests.{eq-eqb, ne_eqb, le-leb, lt-leb, le-ltb, lt-ltb, ltb-true, ltb-false, leb-true, leb-false}
use Rattle.lexer.specs.Lex.{is_digit, all, decimal, same, bytes}
use Rattle.lines.specs.JobLine.{place, before, after, blank, is_natural, plain, minus, number_of, job_with, job_in, line_job, line_settled}
use Rattle.lines.specs.Parts.{magnitude_of}

-- the place of a byte is the first at which the test for it passes
pub place_is : (b : ℕ) (l : List ℕ) → position_or_len (λ (x : ℕ). eqb x b) l ≡ place b l
unfolding place
place_is b [] = refl
place_is b (x ∷ l) = go (eqb x b) (place_is b l)
  where
    go : (t : Bool) → position_or_len (λ (x : ℕ). eqb x b) l ≡ place b l
        → cond (not t) (1 + position_or_len (λ (x : ℕ). eqb x b) l) 0 ≡ elim t [ true ↦ zero | false ↦ suc (place b l) ]
    go true h = refl
    go false h = omega (arith, h)

pub place-le : (b : ℕ) (l : List ℕ) → place b l ≤ length l
unfolding place
place-le b [] = omega arith
place-le b (x ∷ l) = go (eqb x b) (place-le b l)
  where
    go : (t : Bool) → place b l ≤ length l → elim t [ true ↦ zero | false ↦ suc (place b l) ] ≤ suc (length l)
    go true h = omega arith
    go false h = omega arith

-- found, or not
position-is : (b : ℕ) (l : List ℕ) → position (λ (x : ℕ). eqb x b) l ≡ cond (ltb (place b l) (length l)) (Some (place b l)) None
position-is b l = ap (λ (n : ℕ). cond (ltb n (length l)) (Some n) None) (place_is b l)

some_of : (t : Bool) (m n : ℕ) → cond t (Some m) None ≡ Some n → (t ≡ true) × (n ≡ m)
some_of true m n e = (refl, cc)
some_of false m n e = absurd (let z : ◌≡◌ {A = ℕ} 0 1 = cc in omega arith)

none_of : (t : Bool) (m : ℕ) → cond t (Some m) None ≡ None → t ≡ false
none_of true m e = absurd (let z : ◌≡◌ {A = ℕ} 0 1 = cc in omega arith)
none_of false m e = refl

pub found-place : (b : ℕ) (l : List ℕ) (n : ℕ) → position (λ (x : ℕ). eqb x b) l ≡ Some n → (n ≡ place b l) × (n < length l)
found-place b l n e =
    let f = some_of (ltb (place b l) (length l)) (place b l) n (sym (position-is b l) ∙ e) in
    (f.1, omega (arith, f.1, ltb-true (place b l) (length l) f.0))

pub no_place : (b : ℕ) (l : List ℕ) → position (λ (x : ℕ). eqb x b) l ≡ None → place b l ≡ length l
no_place b l e = omega (arith, place-le b l, ltb-false (place b l) (length l) (none_of (ltb (place b l) (length l)) (place b l) (sym (position-is b l) ∙ e)))

pub or-length : (b : ℕ) (l : List ℕ) → unwrap_or (position (λ (x : ℕ). eqb x b) l) (length l) ≡ place b l
or-length b l = ap (λ (o : Option ℕ). unwrap_or o (length l)) (position-is b l) ∙ go (ltb (place b l) (length l)) refl
  where
    go : (t : Bool) → ltb (place b l) (length l) ≡ t → unwrap_or (cond t (Some (place b l)) None) (length l) ≡ place b l
    go true h = refl
    go false h = omega (arith, place-le b l, ltb-false (place b l) (length l) h)

-- ---- digits

pub digit : (b : ℕ) → 48 ≤ b → b ≤ 57 → is_digit b ≡ true
digit b h k = rw (le-leb 48 b h, le-leb b 57 k)

pub no-digit-low : (b : ℕ) → b < 48 → is_digit b ≡ false
no-digit-low b h = rw (lt-leb 48 b h)

pub no-digit-high : (b : ℕ) → 57 < b → is_digit b ≡ false
no-digit-high b h = rw (le-leb 48 b (omega arith), lt-leb b 57 h)

-- digits after digits of the value v
unfoldable pub valued : ℕ → List ℕ → Option ℕ
valued v l = elim (all is_digit l) [ true ↦ Some (decimal v l) | false ↦ None ]

module _ (l : List ℕ) (i v : ℕ) (h : i < length l) where
  pub valued-more : is_digit (get_or l i 0) ≡ true → valued v (drop i l) ≡ valued (10 * v + (get_or l i 0 - 48)) (drop (i + 1) l)
  unfolding valued all decimal
  valued-more e = rw (drop-cons l i 0 h, add-one) (rw (e, valued, all))

  pub valued-stop : is_digit (get_or l i 0) ≡ false → valued v (drop i l) ≡ None
  unfolding valued all
  valued-stop e = rw (drop-cons l i 0 h) (rw (e, valued, all))

pub valued-end : (l : List ℕ) (i v : ℕ) → length l ≤ i → valued v (drop i l) ≡ Some v
unfolding valued all decimal
valued-end l i v h = rw (drop_of_length-le l {i = i} h)

-- one more digit
pub more-digits : (v d i : ℕ) → v < 10 ^ i → d ≤ 9 → 10 * v + d < 10 ^ (i + 1)
more-digits v d i h k = rw (add-one i, pow-suc 10 i) (omega arith)

pub ten-digits : (v i : ℕ) → i ≤ 10 → v < 10 ^ i → v < 10000000000
ten-digits v i h k = omega (arith, pow-le-pow_right {n = 10} (omega arith) h)

-- ---- one to ten digits

pub no-digits : (l : List ℕ) → length l ≡ 0 → magnitude_of l ≡ None
unfolding magnitude_of all
no-digits [] e = refl
no-digits (x ∷ l) e = absurd (omega arith)

by_size : (t u : Bool) (v : ℕ) → ◌≡◌ {A = Option ℕ} (elim (t && u) [ true ↦ Some v | false ↦ None ]) (elim u [ true ↦ elim t [ true ↦ Some v | false ↦ None ] | false ↦ None ])
by_size true true v = refl
by_size true false v = refl
by_size false true v = refl
by_size false false v = refl

pub many-digits : (l : List ℕ) → 10 < length l → magnitude_of l ≡ None
unfolding magnitude_of
many-digits l h = by_size (all is_digit l) (leb 1 (length l) && leb (length l) 10) (decimal 0 l) ∙ rw (le-leb 1 (length l) (omega arith), lt-leb (length l) 10 h)

pub a-magnitude : (l : List ℕ) → 1 ≤ length l → length l ≤ 10 → magnitude_of l ≡ valued 0 l
unfolding magnitude_of valued
a-magnitude l g h = by_size (all is_digit l) (leb 1 (length l) && leb (length l) 10) (decimal 0 l) ∙ rw (le-leb 1 (length l) g, le-leb (length l) 10 h)

-- ---- their number, with and without a minus

none-some : {A : Type 0} {x : A} → None ≡ Some x → ⊥
none-some e = let z : ◌≡◌ {A = ℕ} 0 1 = cc in omega arith

module _ (l : List ℕ) where
  pub no_plain : magnitude_of l ≡ None → plain l ≡ None
  unfolding magnitude_of plain
  no_plain = go (is_natural l) (decimal 0 l)
    where
      go : (t : Bool) (d : ℕ) → ◌≡◌ {A = Option ℕ} (elim t [ true ↦ Some d | false ↦ None ]) None → ◌≡◌ {A = Option ℤ} (elim (t && leb d 2147483647) [ true ↦ Some (pos d) | false ↦ None ]) None
      go true d e = absurd (none-some (sym e))
      go false d e = refl

  pub no_minus : magnitude_of l ≡ None → minus l ≡ None
  unfolding magnitude_of minus
  no_minus = go (is_natural l) (decimal 0 l)
    where
      go : (t : Bool) (d : ℕ) → ◌≡◌ {A = Option ℕ} (elim t [ true ↦ Some d | false ↦ None ]) None → ◌≡◌ {A = Option ℤ} (elim (t && leb d 2147483648) [ true ↦ Some (neg_ℤ (pos d)) | false ↦ None ]) None
      go true d e = absurd (none-some (sym e))
      go false d e = refl

  pub a-plain : (m : ℕ) → magnitude_of l ≡ Some m → elim (leb m 2147483647) [ true ↦ Some (pos m) | false ↦ None ] ≡ plain l
  unfolding magnitude_of plain
  a-plain m = go (is_natural l) (decimal 0 l)
    where
      go : (t : Bool) (d : ℕ) → ◌≡◌ {A = Option ℕ} (elim t [ true ↦ Some d | false ↦ None ]) (Some m)
          → ◌≡◌ {A = Option ℤ} (elim (leb m 2147483647) [ true ↦ Some (pos m) | false ↦ None ]) (elim (t && leb d 2147483647) [ true ↦ Some (pos d) | false ↦ None ])
      go true d e =
          let q : m ≡ d = cc in
          ap (λ (n : ℕ). elim (leb n 2147483647) as (λ t. Option ℤ) [ true ↦ Some (pos n) | false ↦ None ]) q
      go false d e = absurd (none-some e)

  pub a-minus : (m : ℕ) → magnitude_of l ≡ Some m → elim (leb m 2147483648) [ true ↦ Some (neg_ℤ (pos m)) | false ↦ None ] ≡ minus l
  unfolding magnitude_of minus
  a-minus m = go (is_natural l) (decimal 0 l)
    where
      go : (t : Bool) (d : ℕ) → ◌≡◌ {A = Option ℕ} (elim t [ true ↦ Some d | false ↦ None ]) (Some m)
          → ◌≡◌ {A = Option ℤ} (elim (leb m 2147483648) [ true ↦ Some (neg_ℤ (pos m)) | false ↦ None ]) (elim (t && leb d 2147483648) [ true ↦ Some (neg_ℤ (pos d)) | false ↦ None ])
      go true d e =
          let q : m ≡ d = cc in
          ap (λ (n : ℕ). elim (leb n 2147483648) as (λ t. Option ℤ) [ true ↦ Some (neg_ℤ (pos n)) | false ↦ None ]) q
      go false d e = absurd (none-some e)

-- what a conversion to 32 bits makes of it
module _ {E : Type 0} (l : List ℕ) (m : ℕ) (e : magnitude_of l ≡ Some m) where
  pub plain-converted : (r : Result ℤ E) → OkIff r (SFits w32 (pos m)) (pos m) → result_ok r ≡ plain l
  plain-converted r h = go r h (leb m 2147483647) refl ∙ a-plain l m e
    where
      go : (r : Result ℤ E) → OkIff r (SFits w32 (pos m)) (pos m) → (t : Bool) → leb m 2147483647 ≡ t → ◌≡◌ {A = Option ℤ} (result_ok r) (elim (leb m 2147483647) [ true ↦ Some (pos m) | false ↦ None ])
      go (Ok x) h true q = rw q (ap Some h.1)
      go (Ok x) h false q = absurd (omega (arith, h.0.sfits, leb-false m 2147483647 q))
      go (Err d) h true q = absurd (h (record { sfits = omega (arith, leb-true m 2147483647 q) }))
      go (Err d) h false q = rw q

  pub minus-converted : (z : ℤ) (r : Result ℤ E) → z ≡ neg_ℤ (pos m) → OkIff r (SFits w32 z) z → result_ok r ≡ minus l
  minus-converted z r f h = go r h (leb m 2147483648) refl ∙ a-minus l m e
    where
      down : (m : ℕ) → m ≤ 2147483648 → SFits w32 (neg_ℤ (pos m))
      down zero h = record { sfits = omega arith }
      down (suc m) h = record { sfits = omega arith }

      limit : (m : ℕ) → SFits w32 (neg_ℤ (pos m)) → m ≤ 2147483648
      limit zero h = omega arith
      limit (suc m) h = omega (arith, h.sfits)

      go : (r : Result ℤ E) → OkIff r (SFits w32 z) z → (t : Bool) → leb m 2147483648 ≡ t → ◌≡◌ {A = Option ℤ} (result_ok r) (elim (leb m 2147483648) [ true ↦ Some (neg_ℤ (pos m)) | false ↦ None ])
      go (Ok x) h true q = rw q (ap Some (h.1 ∙ f))
      go (Ok x) h false q = absurd (omega (arith, limit m (subst (SFits w32) f h.0), leb-false m 2147483648 q))
      go (Err d) h true q = absurd (h (subst (SFits w32) (sym f) (down m (leb-true m 2147483648 q))))
      go (Err d) h false q = rw q

-- ---- with and without a minus

pub with-minus : (l : List ℕ) → ¬ (length l ≡ 0) → get_or l 0 0 ≡ 45 → minus (drop 1 l) ≡ number_of l
unfolding number_of
with-minus [] n e = absurd (n refl)
with-minus (b ∷ bs) n e = rw (eq-eqb b 45 e, number_of)

pub no_number : (l : List ℕ) → length l ≡ 0 → plain l ≡ number_of l
unfolding number_of plain all
no_number [] e = refl
no_number (b ∷ bs) e = absurd (omega arith)

pub without-minus : (l : List ℕ) → ¬ (get_or l 0 0 ≡ 45) → plain l ≡ number_of l
unfolding number_of
without-minus [] e = no_number [] refl
without-minus (b ∷ bs) e = rw (ne_eqb b 45 e, number_of)

-- ---- the line

pub whole-rest : {A : Type 0} (l : List A) (k : ℕ) → take (length l - k) (drop k l) ≡ drop k l
whole-rest l k = take_all (length l - k) (drop k l) (omega (arith, length-drop k l))

pub no-job : (t : ℕ) (l : List ℕ) → same (before blank l) (bytes "job") ≡ false → job_in t l ≡ None
unfolding job_in
no-job t l e = rw (e, job_in)

pub a-job : (t : ℕ) (l : List ℕ) → same (before blank l) (bytes "job") ≡ true
    → job_in t l ≡ job_with t (number_of (before blank (after blank l))) (number_of (before blank (after blank (after blank l)))) (number_of (after blank (after blank (after blank l))))
unfolding job_in
a-job t l e = rw (e, job_in)

pub no_line : (l : List ℕ) → place 10 l ≡ length l → line_job l ≡ None
unfolding line_job
no_line l e = rw (le-ltb (place 10 l) (length l) (omega arith), line_job)

pub a-line : (l : List ℕ) → place 10 l < length l → line_job l ≡ job_in (place 10 l + 1) (before 10 l)
unfolding line_job
a-line l h = rw (lt-ltb (place 10 l) (length l) h, line_job)

-- what settles a job line: 40 bytes, or its end
pub settled_long : (l : List ℕ) → 40 ≤ length l → line_settled l ≡ true
settled_long l h = rw (le-leb 40 (length l) h)

pub settled_short : (l : List ℕ) → length l < 40 → line_settled l ≡ ltb (place 10 l) (length l)
settled_short l h = rw (lt-leb 40 (length l) h)

-- ---- the three numbers of a line

pub no-high : (t : ℕ) (x s : Option ℤ) → job_with t x None s ≡ None
no-high t None s = refl
no-high t (Some l) s = refl

pub no_third : (t : ℕ) (x y : Option ℤ) → job_with t x y None ≡ None
no_third t None y = refl
no_third t (Some a) None = refl
no_third t (Some a) (Some b) = refl

-- STEPS, where it has no sign
module _ (t : ℕ) (z w : ℤ) (f : w ≡ z) (r : Option ℕ) (h : SomeIff r (IsNonNegative w) (nat_abs w)) where
  pub no_steps : (x y : Option ℤ) → r ≡ None → job_with t x y (Some z) ≡ None
  no_steps x y e = go r z x y (subst (λ (v : ℤ). SomeIff r (IsNonNegative v) (nat_abs v)) f h) e
    where
      go : (r : Option ℕ) (z : ℤ) (x y : Option ℤ) → SomeIff r (IsNonNegative z) (nat_abs z) → r ≡ None → job_with t x y (Some z) ≡ None
      go (Some n) z x y h e = absurd (none-some (sym e))
      go None (pos n) x y h e = absurd (h tt)
      go None (negsuc n) None y h e = refl
      go None (negsuc n) (Some a) None h e = refl
      go None (negsuc n) (Some a) (Some b) h e = refl

  pub good_steps : (a b : ℤ) (n : ℕ) → r ≡ Some n → job_with t (Some a) (Some b) (Some z) ≡ Some (record { low = a; high = b; steps = n; text = t })
  good_steps a b n e = go r z (subst (λ (v : ℤ). SomeIff r (IsNonNegative v) (nat_abs v)) f h) e
    where
      go : (r : Option ℕ) (z : ℤ) → SomeIff r (IsNonNegative z) (nat_abs z) → r ≡ Some n → job_with t (Some a) (Some b) (Some z) ≡ Some (record { low = a; high = b; steps = n; text = t })
      go (Some m) (pos k) h e =
          let q : k ≡ n = sym h.1 ∙ cc in
          ap (λ (s : ℕ). Some (record { low = a; high = b; steps = s; text = t })) q
      go (Some m) (negsuc k) h e = absurd (h.0)
      go None z h e = absurd (none-some e)

-- the first word, compared
pointwise_is : (a b : List ℕ) → pointwise eqb a b ≡ same a b
unfolding same
pointwise_is [] [] = refl
pointwise_is [] (y ∷ b) = refl
pointwise_is (x ∷ a) [] = refl
pointwise_is (x ∷ a) (y ∷ b) = ap (λ (t : Bool). eqb x y && t) (pointwise_is a b)

compared : (w l j : List ℕ) → w ≡ before blank l → j ≡ bytes "job" → pointwise eqb w j ≡ same (before blank l) (bytes "job")
compared w l j p q = pointwise_is w j ∙ rw (p, q)

pub another-word : (t : ℕ) (w l j : List ℕ) → w ≡ before blank l → j ≡ bytes "job" → not (pointwise eqb w j) ≡ true → job_in t l ≡ None
another-word t w l j p q e = no-job t l (sym (compared w l j p q) ∙ go (pointwise eqb w j) e)
  where
    go : (t : Bool) → not t ≡ true → t ≡ false
    go true e = absurd (let z : ◌≡◌ {A = ℕ} 0 1 = cc in omega arith)
    go false e = refl

pub word-job : (w l j : List ℕ) → w ≡ before blank l → j ≡ bytes "job" → not (pointwise eqb w j) ≡ false → same (before blank l) (bytes "job") ≡ true
word-job w l j p q e = sym (compared w l j p q) ∙ go (pointwise eqb w j) e
  where
    go : (t : Bool) → not t ≡ false → t ≡ true
    go true e = refl
    go false e = absurd (let z : ◌≡◌ {A = ℕ} 0 1 = cc in omega arith)

-- a line that is read word by word
pub read-line : (t : ℕ) (l r₁ w₁ r₂ w₂ w₃ : List ℕ) → same (before blank l) (bytes "job") ≡ true
    → r₁ ≡ after blank l → w₁ ≡ before blank r₁ → r₂ ≡ after blank r₁ → w₂ ≡ before blank r₂ → w₃ ≡ after blank r₂
    → job_in t l ≡ job_with t (number_of w₁) (number_of w₂) (number_of w₃)
read-line t l r₁ w₁ r₂ w₂ w₃ e p₁ q₁ p₂ q₂ q₃ =
    let s₂ : r₂ ≡ after blank (after blank l) = p₂ ∙ ap (λ (k : List ℕ). after blank k) p₁ in
    let a : number_of w₁ ≡ number_of (before blank (after blank l)) = ap number_of (q₁ ∙ ap (λ (k : List ℕ). before blank k) p₁) in
    let b : number_of w₂ ≡ number_of (before blank (after blank (after blank l))) = ap number_of (q₂ ∙ ap (λ (k : List ℕ). before blank k) s₂) in
    let d : number_of w₃ ≡ number_of (after blank (after blank (after blank l))) = ap number_of (q₃ ∙ ap (λ (k : List ℕ). after blank k) s₂) in
    a-job t l e ∙ rw (← a, ← b, ← d)
