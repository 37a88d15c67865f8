-- The readers decide the grammar, for every token list whose last token, and no other, is the end.
--   parsed-back  every program is read back from its tokens, each token with its number
--   only-tree    two programs with the same tokens are the same, up to the numbers in them
--   accepts      a list that is the tokens of some program is accepted, and kept: one that is accepted is the tokens of the tree that is read
--   first-bad    a list that is refused is refused at the first token that no program could have there, and refuses: one that has such a token is refused at it
use Prim.Native.Nat.{ℕ, zero, suc, ◌+◌, ◌-◌, ◌*◌, ◌<◌}
use mathlib.Core.Path.{◌≡◌, refl, sym, ap, ◌∙◌, subst}
use mathlib.Core.List.{List, [], ◌∷◌, ◌++◌, append_assoc}
use native.Mathlib.Omega.{arith}
use native.Mathlib.Decide.{dec_lt}
use lib.ListN.{length, get_or, take, drop, take-append-drop}
use lib.Seq.{drop-cons}
use Rattle.syntax.specs.Token.{k_end}
use Rattle.syntax.specs.Tree.{Tree, prog, onto, width, numbered}
use Rattle.grammar.specs.Parse.{Res, ok, bad, parsed}
use Rattle.grammar.specs.Text.{Tokens, KeepsGrammar, First-bad}
use Rattle.grammar.proofs.Place as P
use Rattle.grammar.proofs.Back.{read_back}

pub parsed-back : (t : Tree prog) → parsed (onto t (k_end ∷ [])) ≡ ok (numbered 0 t) (width t)
parsed-back t = read_back (onto t (k_end ∷ [])) t refl (8 * length (onto t (k_end ∷ [])) + 8) (omega arith)

pub only-tree : (s t : Tree prog) → onto s (k_end ∷ []) ≡ onto t (k_end ∷ []) → numbered 0 s ≡ numbered 0 t
only-tree s t e = same (sym (parsed-back s) ∙ ap parsed e ∙ parsed-back t)
  where
    same : {a b : Tree prog} {m n : ℕ} → ok a m ≡ ok b n → a ≡ b
    same q = cc

pub accepts : (ks : List ℕ) (t : Tree prog) → ks ≡ onto t (k_end ∷ []) → parsed ks ≡ ok (numbered 0 t) (width t)
accepts ks t e = ap parsed e ∙ parsed-back t

-- the first n tokens, token m among them: those before it, itself, those after it
split : (ks : List ℕ) (m n d : ℕ) → n ≡ suc (m + d) → m < length ks → take n ks ≡ take m ks ++ get_or ks m k_end ∷ take d (drop (suc m) ks)
split [] m n d e h = absurd (omega arith)
split (k ∷ ks) m zero d e h = absurd (omega arith)
split (k ∷ ks) zero (suc n) d e h = let z : n ≡ d = omega arith in ap (λ (x : ℕ). k ∷ take x ks) z
split (k ∷ ks) (suc m) (suc n) d e h = ap (λ (l : List ℕ). k ∷ l) (split ks m n d (omega arith) (omega arith))

-- no token after the first that does not fit is the first: a program begins with all the tokens before it
none-later : (ks : List ℕ) (m n : ℕ) → First-bad ks m → First-bad ks n → m < n → ⊥
none-later ks m n a b h =
    a.none b.program (take (n - suc m) (drop (suc m) ks) ++ b.rest)
    (b.begins ∙ ap (λ (l : List ℕ). l ++ b.rest) (split ks m n (n - suc m) (omega arith) a.inside) ∙ append_assoc (take m ks) (get_or ks m k_end ∷ take (n - suc m) (drop (suc m) ks)) b.rest)

only-first : (ks : List ℕ) (m n : ℕ) → First-bad ks m → First-bad ks n → m ≡ n
only-first ks m n a b = go (dec_lt m n) (dec_lt n m)
  where
    go : Dec (m < n) → Dec (n < m) → m ≡ n
    go (yes h) k = absurd (none-later ks m n a b h)
    go (no h) (yes k) = absurd (none-later ks n m b a k)
    go (no h) (no k) = omega (arith, h, k)

module _ (ks : List ℕ) (h : Tokens ks) where
  text : P.Text ks (parsed ks)
  text = P.text-right ks h.ends h.only h.filled (8 * length ks + 8) (omega arith)

  pub kept : {t : Tree prog} {m : ℕ} → parsed ks ≡ ok t m → KeepsGrammar ks t
  kept {t} {m} e = go (subst (λ (v : Res prog). P.Text ks v) e text)
    where
      go : P.Text ks (ok t m) → KeepsGrammar ks t
      go (P.kept q) = let z : ok t m ≡ ok (numbered 0 t) (width t) = sym e ∙ accepts ks t q in record { tokens = q; numbers = cc }

  pub first-bad : {m : ℕ} → parsed ks ≡ bad m → First-bad ks m
  first-bad {m} e = go (subst (λ (v : Res prog). P.Text ks v) e text)
    where
      go : P.Text ks (bad m) → First-bad ks m
      go (P.broken b) = b

  pub refuses : {m : ℕ} → First-bad ks m → parsed ks ≡ bad m
  refuses {m} b = go (parsed ks) refl
    where
      go : (r : Res prog) → parsed ks ≡ r → r ≡ bad m
      go (ok t j) e = absurd (b.none t (drop (suc m) ks) (sym (kept e).tokens ∙ sym (take-append-drop m ks) ∙ ap (λ (l : List ℕ). take m ks ++ l) (drop-cons ks m k_end b.inside)))
      go (bad j) e = ap bad (only-first ks j m (first-bad e) b)
