-- A page number on line 1: all of its digits up to 99,999, and of a greater one the last five.
use Prim.Native.Nat.{ℕ, ◌+◌, ◌-◌, ◌/◌, ◌%◌, ◌≤◌}
use native.Mathlib.Omega.{arith}
use mathlib.Core.Path.{◌≡◌, refl, sym, ◌∙◌, ap}
use mathlib.Core.List.{List, [], ◌∷◌, ◌++◌, append_assoc}
use lib.ListN.{length, drop, length-append}
use lib.Seq.{drop_at}
use Rattle.printing.specs.Decimal.{natural}
use Rattle.printing.proofs.Numbers.{natural-more, few-digits}
use Rattle.pages.specs.Pages.{last_five}
use Rattle.pages.proofs.Lines.{five-few}

pub number-whole : (n : ℕ) → n ≤ 99999 → last_five (natural n) ≡ natural n
number-whole n h = sym (five-few (natural n) (few-digits 4 n (omega arith)))

abbrev five-of : ℕ → List ℕ
five-of n = (48 + n / 10 / 10 / 10 / 10 % 10) ∷ (48 + n / 10 / 10 / 10 % 10) ∷ (48 + n / 10 / 10 % 10) ∷ (48 + n / 10 % 10) ∷ (48 + n % 10) ∷ []

-- the digits of ten-thousands, thousands, hundreds, tens and ones, zeros among them
pub number-last : (n : ℕ) → 100000 ≤ n → last_five (natural n) ≡ (48 + n / 10 / 10 / 10 / 10 % 10) ∷ (48 + n / 10 / 10 / 10 % 10) ∷ (48 + n / 10 / 10 % 10) ∷ (48 + n / 10 % 10) ∷ (48 + n % 10) ∷ []
unfolding last_five
number-last n h =
    let front = natural (n / 10 / 10 / 10 / 10 / 10) in
    let e : natural n ≡ front ++ five-of n =
    natural-more n (omega arith)
    ∙ ap (λ (l : List ℕ). l ++ (48 + n % 10) ∷ []) (natural-more (n / 10) (omega arith)
    ∙ ap (λ (l : List ℕ). l ++ (48 + n / 10 % 10) ∷ []) (natural-more (n / 10 / 10) (omega arith)
    ∙ ap (λ (l : List ℕ). l ++ (48 + n / 10 / 10 % 10) ∷ []) (natural-more (n / 10 / 10 / 10) (omega arith)
    ∙ ap (λ (l : List ℕ). l ++ (48 + n / 10 / 10 / 10 % 10) ∷ []) (natural-more (n / 10 / 10 / 10 / 10) (omega arith)))))
    ∙ simp append_assoc in
    let k : length (natural n) - 5 ≡ length front = omega (arith, ap length e, length-append front (five-of n)) in
    ap (λ (i : ℕ). drop i (natural n)) k ∙ ap (drop (length front)) e ∙ drop_at front (five-of n) (length front) refl
