-- The first broken rule of any list of rules, and the order of the table.
use Prim.Native.Nat.{ℕ}
use mathlib.Core.Path.{◌≡◌, refl, ap, ◌∙◌}
use mathlib.Core.Bool.{Bool, true, false, cond}
use mathlib.Core.List.Memᴰ.{head as here}
use mathlib.Core.List.Memᴰ.{not-nil as nowhere}
use mathlib.Core.List.Memᴰ.{tail as there}
use mathlib.Core.List.{List, [], ◌∷◌, ◌++◌, map}
use mathlib.Core.Logic.{◌↔◌}
use Rattle.std.specs.Prelude.{Option, None, Some}
use native.Mathlib.Omega.{arith}
use lib.Dec.{eqb}
use Rattle.syntax.specs.Ast as A
use Rattle.syntax.specs.Ast.{Ast}
use Rattle.text_rules.specs.Scan.{least, lesser}
use Rattle.semantics.specs.Demand.{◌∈◌}
use Rattle.checker.specs.Check.{accepted, Source, Rule, rules_of, Fault, or_else, first_broken, verdict}

-- THEOREM. The order of checking: two rules that change places fail here.
pub rule-numbers : (s : Source) (p : Ast A.prog) → map (λ r. r.number) (rules_of s p) ≡ 5 ∷ 6 ∷ 7 ∷ 8 ∷ 9 ∷ 17 ∷ 10 ∷ 18 ∷ 19 ∷ []
unfolding rules_of
rule-numbers s p = refl

-- ---- the rules of a list are kept: no token breaks one of them

abbrev pub AllKept : List Rule → Type 0
AllKept rs = (r : Rule) → r ∈ rs → r.broken ≡ []

pub none_kept : AllKept []
none_kept r m = absurd (nowhere m)

pub also_kept : {r : Rule} {rs : List Rule} → r.broken ≡ [] → AllKept rs → AllKept (r ∷ rs)
also_kept e k q (here f) = ap (λ (x : Rule). x.broken) f ∙ e
also_kept e k q (there m) = k q m

pub least-none : (is : List ℕ) → least is ≡ None → is ≡ []
unfolding least lesser
least-none [] e = refl
least-none (i ∷ is) e = absurd (go (least is) e)
  where
    go : (o : Option ℕ) → lesser i o ≡ None → ⊥
    go None q = let z : ◌≡◌ {A = ℕ} 0 1 = cc in omega arith
    go (Some j) q = let z : ◌≡◌ {A = ℕ} 0 1 = cc in omega arith

all-kept : (rs : List Rule) → first_broken rs ≡ None → AllKept rs
unfolding first_broken
all-kept [] e = none_kept
all-kept (r ∷ rs) e = go (least r.broken) refl e (all-kept rs)
  where
    go : (o : Option ℕ) → least r.broken ≡ o → or_else r.number o (first_broken rs) ≡ None → (first_broken rs ≡ None → AllKept rs) → AllKept (r ∷ rs)
    go None q f k = also_kept (least-none r.broken q) (k f)
    go (Some i) q f k = let z : ◌≡◌ {A = ℕ} 0 1 = cc in absurd (omega arith)

none-broken : (rs : List Rule) → AllKept rs → first_broken rs ≡ None
unfolding first_broken least
none-broken [] k = refl
none-broken (r ∷ rs) k = rw (k r (here refl), first_broken) (none-broken rs (λ q m. k q (there m)))

pub kept-exactly : (rs : List Rule) → (first_broken rs ≡ None) ↔ AllKept rs
kept-exactly rs = (all-kept rs, none-broken rs)

-- ---- a rule by its number

-- the tokens that break the first rule with the number n
abbrev pub broken_by : ℕ → List Rule → List ℕ
broken_by n [] = []
broken_by n (r ∷ rs) = cond (eqb r.number n) r.broken (broken_by n rs)

number-kept : (rs : List Rule) → AllKept rs → (n : ℕ) → broken_by n rs ≡ []
number-kept [] k n = refl
number-kept (r ∷ rs) k n = go (eqb r.number n) (number-kept rs (λ q m. k q (there m)) n)
  where
    go : (b : Bool) → broken_by n rs ≡ [] → cond b r.broken (broken_by n rs) ≡ []
    go true e = k r (here refl)
    go false e = e

-- where no rule is broken, none breaks the one with this number
pub unbroken : (rs : List Rule) → first_broken rs ≡ None → (n : ℕ) → broken_by n rs ≡ []
unbroken rs e = number-kept rs (all-kept rs e)

-- ---- what is said of a broken rule

pub is-accepted : (ps : List ℕ) (o : Option Fault) → verdict ps o ≡ accepted → o ≡ None
is-accepted ps None e = refl
is-accepted ps (Some f) e = let z : ◌≡◌ {A = ℕ} 0 1 = cc in absurd (omega arith)

-- ---- one list after another

abbrev pub or_later : Option Fault → Option Fault → Option Fault
or_later None later = later
or_later (Some f) later = Some f

pub first-append : (xs ys : List Rule) → first_broken (xs ++ ys) ≡ or_later (first_broken xs) (first_broken ys)
unfolding first_broken
first-append [] ys = refl
first-append (r ∷ xs) ys = ap (or_else r.number (least r.broken)) (first-append xs ys) ∙ go (least r.broken) (first_broken xs)
  where
    go : (o : Option ℕ) (f : Option Fault) → or_else r.number o (or_later f (first_broken ys)) ≡ or_later (or_else r.number o f) (first_broken ys)
    go None f = refl
    go (Some i) f = refl
