-- Meanings, written one after the other, are what each token means at the end.
use Prim.Native.Nat.{ℕ, ◌<◌}
use mathlib.Core.Path.{◌≡◌, refl, sym, ap, ◌∙◌}
use mathlib.Core.Bool.{Bool, true, false, cond}
use mathlib.Core.List.{List, [], ◌∷◌, ◌++◌}
use lib.ListN.{length, get_or, set, length-set}
use lib.Seq.{get_or-set_same, get_or-set_other}
use lib.Dec.{eqb}
use borrow.Author.Tests.{eqb-true, eqb-false}
use Rattle.text_rules.specs.Names.{Meaning, meant}
use Rattle.names.specs.Steps.{noted}

pub noted-append : (l : List ℕ) (a b : List Meaning) → noted l (a ++ b) ≡ noted (noted l a) b
unfolding noted
noted-append l [] b = refl
noted-append l (m ∷ a) b = noted-append (set l m.token m.means) a b

pub length-noted : (l : List ℕ) (ms : List Meaning) → length (noted l ms) ≡ length l
unfolding noted
length-noted l [] = refl
length-noted l (m ∷ ms) = length-noted (set l m.token m.means) ms ∙ length-set l m.token m.means

-- what token i means depends on what it meant before, and not on other tokens
pub meant-at : (f g : ℕ → ℕ) (ms : List Meaning) (i : ℕ) → f i ≡ g i → meant f ms i ≡ meant g ms i
unfolding meant
meant-at f g [] i e = e
meant-at f g (m ∷ ms) i e =
    meant-at (λ j. cond (eqb m.token j) m.means (f j)) (λ j. cond (eqb m.token j) m.means (g j)) ms i
    (ap (λ x. cond (eqb m.token i) m.means x) e)

set-read : (l : List ℕ) (t v i : ℕ) → i < length l → get_or (set l t v) i 0 ≡ cond (eqb t i) v (get_or l i 0)
set-read l t v i h = go (eqb t i) refl
  where
    go : (b : Bool) → eqb t i ≡ b → get_or (set l t v) i 0 ≡ cond b v (get_or l i 0)
    go true e =
        let p : t ≡ i = eqb-true t i e in
        rw p (get_or-set_same l i v 0 h)
    go false e = get_or-set_other l t i v 0 (λ p. eqb-false t i e (sym p))

pub noted-meant : (l : List ℕ) (ms : List Meaning) (i : ℕ) → i < length l → get_or (noted l ms) i 0 ≡ meant (λ j. get_or l j 0) ms i
unfolding noted meant
noted-meant l [] i h = refl
noted-meant l (m ∷ ms) i h =
    noted-meant (set l m.token m.means) ms i (rw (length-set l m.token m.means) h)
    ∙ meant-at (λ j. get_or (set l m.token m.means) j 0) (λ j. cond (eqb m.token j) m.means (get_or l j 0)) ms i
    (set-read l m.token m.means i h)
