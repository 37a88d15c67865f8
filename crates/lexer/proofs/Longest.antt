-- The longest token at the front, by the kind of its first byte.
use Prim.Native.Nat.{ℕ, zero, suc, ◌+◌, ◌-◌, ◌≤◌, ◌<◌}
use mathlib.Core.Path.{◌≡◌, refl, sym, ap, subst, ◌∙◌}
use mathlib.Core.Bool.{Bool, true, false}
use mathlib.Core.List.{List, [], ◌∷◌}
use native.Mathlib.Omega.{arith}
use native.Mathlib.Nat.{add-zero, add-suc}
use lib.ListN.{length, take}
use lib.Dec.{T, eqb}
use Rattle.syntax.specs.Token.{k_end, k_name, k_number}
use Rattle.lexer.specs.Lex.{is_word, is_digit, is_letter, all, same, words, marks, kind_in, grouped, kind_of, longest_within, longest}
use Rattle.lexer.specs.Parts.{span}
use Rattle.lexer.proofs.Bytes.{span-le, all-span, all_past, and-false, kind_in-has, kind_in-chain}
use Rattle.lexer.proofs.Numbers.{more, more-le, grouped-more, grouped-past}

-- the kind of bytes, by the first one
pub name-kind : (b : ℕ) (bs : List ℕ) → is_letter b ≡ true → all is_word bs ≡ true → kind_of (b ∷ bs) ≡ kind_in words k_name (b ∷ bs)
unfolding kind_of
name-kind b bs e f = rw (e, kind_of) (rw f)

pub no_name : (b : ℕ) (bs : List ℕ) → is_letter b ≡ true → all is_word bs ≡ false → kind_of (b ∷ bs) ≡ k_end
unfolding kind_of
no_name b bs e f = rw (e, kind_of) (rw f)

pub number-kind : (b : ℕ) (bs : List ℕ) → is_letter b ≡ false → is_digit b ≡ true → grouped true bs ≡ true → kind_of (b ∷ bs) ≡ k_number
unfolding kind_of
number-kind b bs e f g = rw (e, kind_of) (rw f (rw g))

pub no_number : (b : ℕ) (bs : List ℕ) → is_letter b ≡ false → is_digit b ≡ true → grouped true bs ≡ false → kind_of (b ∷ bs) ≡ k_end
unfolding kind_of
no_number b bs e f g = rw (e, kind_of) (rw f (rw g))

pub mark-kind : (b : ℕ) (bs : List ℕ) → is_letter b ≡ false → is_digit b ≡ false → kind_of (b ∷ bs) ≡ kind_in marks k_end (b ∷ bs)
unfolding kind_of
mark-kind b bs e f = rw (e, kind_of) (rw f)

-- a word is a token and no number; a mark is no number
abbrev is_no : ℕ → ℕ → Bool
is_no m k = elim (eqb k m) [ true ↦ false | false ↦ true ]

is-no : (m k : ℕ) → is_no m k ≡ true → eqb k m ≡ false
is-no m k e = go (eqb k m) e
  where
    go : (t : Bool) → elim t [ true ↦ false | false ↦ true ] ≡ true → t ≡ false
    go true f = sym f
    go false f = refl

pub word-token : (l : List ℕ) → eqb (kind_in words k_name l) k_end ≡ false
word-token l = is-no k_end (kind_in words k_name l) (kind_in-has (is_no k_end) words k_name l refl refl)

pub word-no-number : (l : List ℕ) → eqb (kind_in words k_name l) k_number ≡ false
word-no-number l = is-no k_number (kind_in words k_name l) (kind_in-has (is_no k_number) words k_name l refl refl)

pub mark-no-number : (l : List ℕ) → eqb (kind_in marks k_end l) k_number ≡ false
mark-no-number l = is-no k_number (kind_in marks k_end l) (kind_in-has (is_no k_number) marks k_end l refl refl)

-- no mark has three bytes
pub long-mark : (a b c : ℕ) (l : List ℕ) → kind_in marks k_end (a ∷ b ∷ c ∷ l) ≡ k_end
unfolding same
long-mark a b c l = kind_in-chain marks k_end (a ∷ b ∷ c ∷ l) ∙ simp and-false

-- the longest is not longer than m bytes, if nothing longer is a token
past : (l : List ℕ) (m d : ℕ) → ((n : ℕ) → m < n → n ≤ m + d → kind_of (take n l) ≡ k_end) → longest_within (m + d) l ≡ longest_within m l
unfolding longest_within
past l m zero h = rw add-zero
past l m (suc d) h = rw add-suc (rw (h (suc (m + d)) (omega arith) (omega arith), longest_within) (past l m d (λ n a b. h n a (omega arith))))

hit : (l : List ℕ) (m : ℕ) → eqb (kind_of (take (suc m) l)) k_end ≡ false → longest_within (suc m) l ≡ suc m
unfolding longest_within
hit l m e = rw (e, longest_within)

miss : (l : List ℕ) (m : ℕ) → kind_of (take (suc m) l) ≡ k_end → longest_within (suc m) l ≡ longest_within m l
unfolding longest_within
miss l m e = rw (e, longest_within)

-- a first byte and n more are a token, and no longer ones are
module _ (b : ℕ) (bs : List ℕ) (n : ℕ) (fits : n ≤ length bs) (right : eqb (kind_of (b ∷ take n bs)) k_end ≡ false) (wrong : (m : ℕ) → n < m → m ≤ length bs → kind_of (b ∷ take m bs) ≡ k_end) where
  run-longest : longest (b ∷ bs) ≡ suc n
  run-longest =
      let e : suc (length bs) ≡ suc n + (length bs - n) = omega arith in
      ap (λ (m : ℕ). longest_within m (b ∷ bs)) e ∙ past (b ∷ bs) (suc n) (length bs - n) over ∙ hit (b ∷ bs) n right
    where
      over : (m : ℕ) → suc n < m → m ≤ suc n + (length bs - n) → kind_of (take m (b ∷ bs)) ≡ k_end
      over zero h k = absurd (omega arith)
      over (suc m) h k = wrong m (omega arith) (omega arith)

pub name-longest : (b : ℕ) (bs : List ℕ) → is_letter b ≡ true → longest (b ∷ bs) ≡ suc (span is_word bs)
name-longest b bs e = run-longest b bs (span is_word bs) (span-le is_word bs)
    (rw (name-kind b (take (span is_word bs) bs) e (all-span is_word bs)) (word-token (b ∷ take (span is_word bs) bs)))
    (λ m h k. no_name b (take m bs) e (all_past is_word bs m h k))

pub number-longest : (b : ℕ) (bs : List ℕ) → is_letter b ≡ false → is_digit b ≡ true → longest (b ∷ bs) ≡ suc (more bs)
number-longest b bs e f = run-longest b bs (more bs) (more-le bs)
    (rw (number-kind b (take (more bs) bs) e f (grouped-more bs)))
    (λ m h k. no_number b (take m bs) e f (grouped-past true bs m h k))

-- the kind of a mark of two bytes at the front, if there are two
unfoldable pub pair_of : ℕ → List ℕ → ℕ
pair_of b [] = k_end
pair_of b (c ∷ cs) = kind_in marks k_end (b ∷ c ∷ [])

module _ (b : ℕ) (e : is_letter b ≡ false) (f : is_digit b ≡ false) where
  -- of two bytes and more, only the first two can be a mark of two
  within-two : (c : ℕ) (cs : List ℕ) → longest (b ∷ c ∷ cs) ≡ longest_within 2 (b ∷ c ∷ cs)
  within-two c cs = ap (λ (n : ℕ). longest_within n (b ∷ c ∷ cs)) (omega arith) ∙ past (b ∷ c ∷ cs) 2 (length cs) (over cs)
    where
      over : (cs : List ℕ) (n : ℕ) → 2 < n → n ≤ 2 + length cs → kind_of (take n (b ∷ c ∷ cs)) ≡ k_end
      over cs zero h k = absurd (omega arith)
      over cs (suc zero) h k = absurd (omega arith)
      over cs (suc (suc zero)) h k = absurd (omega arith)
      over [] (suc (suc (suc n))) h k = absurd (omega arith)
      over (d ∷ ds) (suc (suc (suc n))) h k = mark-kind b (c ∷ d ∷ take n ds) e f ∙ long-mark b c d (take n ds)

  pub pair-longest : (bs : List ℕ) → eqb (pair_of b bs) k_end ≡ false → (longest (b ∷ bs) ≡ 2) × (kind_of (take 2 (b ∷ bs)) ≡ pair_of b bs)
  unfolding pair_of
  pair-longest [] g = absurd (subst (λ (t : Bool). T t) g tt)
  pair-longest (c ∷ cs) g = (within-two c cs ∙ hit (b ∷ c ∷ cs) 1 (rw (mark-kind b (c ∷ []) e f) g), mark-kind b (c ∷ []) e f)

  one_left : (bs : List ℕ) → pair_of b bs ≡ k_end → longest (b ∷ bs) ≡ longest_within 1 (b ∷ bs)
  unfolding pair_of
  one_left [] g = refl
  one_left (c ∷ cs) g = within-two c cs ∙ miss (b ∷ c ∷ cs) 1 (mark-kind b (c ∷ []) e f ∙ g)

  pub single-longest : (bs : List ℕ) → pair_of b bs ≡ k_end → eqb (kind_in marks k_end (b ∷ [])) k_end ≡ false → longest (b ∷ bs) ≡ 1
  single-longest bs g h = one_left bs g ∙ hit (b ∷ bs) 0 (rw (mark-kind b [] e f) h)

  pub nothing-longest : (bs : List ℕ) → pair_of b bs ≡ k_end → kind_in marks k_end (b ∷ []) ≡ k_end → longest (b ∷ bs) ≡ 0
  unfolding longest_within
  nothing-longest bs g h = one_left bs g ∙ miss (b ∷ bs) 0 (mark-kind b [] e f ∙ h)
