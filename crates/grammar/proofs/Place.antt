-- What the parser says of a whole text: a tree of exactly these tokens, or the place of the first token that no text could have there.
use Prim.Native.Nat.{ℕ, suc, ◌+◌, ◌*◌, ◌≤◌, ◌<◌}
use mathlib.Core.Path.{◌≡◌, refl, sym, ap, ◌∙◌}
use mathlib.Core.Bool.{Bool, true, false}
use mathlib.Core.List.{List, [], ◌∷◌, ◌++◌}
use mathlib.Core.Option.{Option, none, some}
use native.Mathlib.Omega.{arith}
use lib.ListN.{length, get_or, take, drop, length-append, take-append-drop, drop_of_length-le}
use lib.Dec.{eqb}
use borrow.Author.Tests.{eqb-true}
use Rattle.syntax.specs.Token.{k_end}
use Rattle.syntax.specs.Tree.{Tree, onto, prog, no_funs}
use Rattle.grammar.proofs.Machine.{Stack, Out, fine, stuck, step, run, go_on, tok, s_funs}
use Rattle.grammar.specs.Text.{First-bad}
use Rattle.grammar.specs.Parse.{Res, ok, bad, and_then, peek, more_prog, read_text}
use Rattle.grammar.proofs.Right.{upto, Reads, good, wrong, Ok, head}
use Rattle.grammar.proofs.Statements.{prog-right}
use Rattle.grammar.proofs.Accept.{accept}

rest_of : Out → ℕ
rest_of fine = 0
rest_of (stuck l) = length l

-- what is left at a stop is no longer than what there was
shorter : (l : List ℕ) (ss : Stack) → rest_of (run ss l) ≤ length l
unfolding run rest_of
shorter [] ss = omega arith
shorter (k ∷ l) ss = go (step k ss) (shorter l)
  where
    go : (o : Option Stack) → ((s : Stack) → rest_of (run s l) ≤ length l) → rest_of (go_on o (stuck (k ∷ l)) (λ s. run s l)) ≤ length (k ∷ l)
    go none f = omega arith
    go (some s) f = omega (arith, f s)

-- where a run is stuck depends on the tokens up to there alone
local : (p : List ℕ) (ss : Stack) (k : ℕ) (x y : List ℕ) → run ss (p ++ k ∷ x) ≡ stuck (k ∷ x) → run ss (p ++ k ∷ y) ≡ stuck (k ∷ y)
unfolding run rest_of
local [] ss k x y = go (step k ss)
  where
    go : (o : Option Stack) → go_on o (stuck (k ∷ x)) (λ s. run s x) ≡ stuck (k ∷ x) → go_on o (stuck (k ∷ y)) (λ s. run s y) ≡ stuck (k ∷ y)
    go none e = refl
    go (some s) e = absurd (omega (arith, shorter x s, ap rest_of e))
local (j ∷ p) ss k x y = go (step j ss) (λ s. local p s k x y)
  where
    go : (o : Option Stack) → ((s : Stack) → run s (p ++ k ∷ x) ≡ stuck (k ∷ x) → run s (p ++ k ∷ y) ≡ stuck (k ∷ y)) → go_on o (stuck (j ∷ p ++ k ∷ x)) (λ s. run s (p ++ k ∷ x)) ≡ stuck (k ∷ x) → go_on o (stuck (j ∷ p ++ k ∷ y)) (λ s. run s (p ++ k ∷ y)) ≡ stuck (k ∷ y)
    go none f e = absurd (omega (arith, ap rest_of e, length-append p (k ∷ x)))
    go (some s) f e = f s e

-- what the answer of the parser says of the whole text
pub data Text (ks : List ℕ) : Res prog → Type 0 where
  kept : {t : Tree prog} {m : ℕ} → ks ≡ onto t (k_end ∷ []) → Text ks (ok t m)
  broken : {m : ℕ} → First-bad ks m → Text ks (bad m)

module _ (ks : List ℕ) (ends : (a : ℕ) → suc a ≡ length ks → get_or ks a 0 ≡ 0) (only : (a : ℕ) → a < length ks → get_or ks a 0 ≡ 0 → suc a ≡ length ks) (some : 0 < length ks) where
  abbrev S₀ : Stack
  S₀ = s_funs ∷ tok k_end ∷ []

  no_text : (m : ℕ) → m < length ks → run S₀ ks ≡ stuck (drop m ks) → (t : Tree prog) (more : List ℕ) → onto t (k_end ∷ []) ≡ upto ks ends m (peek ks m ∷ more) → ⊥
  unfolding run step rest_of
  no_text m i e t more q =
      let h = head ks ends m i in
      let e₁ : run S₀ (take m ks ++ peek ks m ∷ drop (m + 1) ks) ≡ stuck (peek ks m ∷ drop (m + 1) ks) = ap (run S₀) (ap (λ l. take m ks ++ l) (sym h) ∙ take-append-drop m ks) ∙ e ∙ ap stuck h in
      let e₂ : run S₀ (onto t (k_end ∷ [])) ≡ stuck (peek ks m ∷ more) = ap (run S₀) q ∙ local (take m ks) S₀ (peek ks m) _ more e₁ in
      let e₃ : run S₀ (onto t (k_end ∷ [])) ≡ fine = accept t (tok k_end ∷ []) k_end [] tt in
      absurd (omega (arith, ap rest_of (sym e₂ ∙ e₃)))

  last : (m : ℕ) → eqb (peek ks m) k_end ≡ true → m < length ks → peek ks m ∷ drop (m + 1) ks ≡ k_end ∷ []
  last m e i = let q = eqb-true (peek ks m) k_end e in cc (q, drop_of_length-le ks {i = m + 1} (omega (arith, only m i q)))

  stops : (m : ℕ) → eqb (peek ks m) k_end ≡ false → m < length ks → run (tok k_end ∷ []) (drop m ks) ≡ stuck (drop m ks)
  unfolding run step
  stops m e i = rw (head ks ends m i, e)

  start : (r : List ℕ) → upto ks ends 0 r ≡ upto ks ends 0 (onto no_funs r)
  unfolding onto
  start r = refl

  pub text-right : (d : ℕ) → 8 * length ks + 2 ≤ d → Text ks (read_text ks d)
  unfolding read_text
  text-right d f = go (more_prog ks d no_funs 0) (prog-right ks ends d no_funs 0 0 some (start) (omega arith))
    where
      close : (t : Tree prog) (m : ℕ) (b : Bool) → eqb (peek ks m) k_end ≡ b → Ok ks ends 0 (λ ss. s_funs ∷ ss) 0 t m → Text ks (elim b [ true ↦ ok t m | false ↦ bad m ])
      close t m true e h = kept (sym (take-append-drop m ks) ∙ ap (λ l. take m ks ++ l) (head ks ends m h.inside ∙ last m e h.inside) ∙ h.read (k_end ∷ []))
      close t m false e h = broken (record { inside = h.inside; program = t; rest = k_end ∷ []; begins = sym (h.read (k_end ∷ [])); none = no_text m h.inside (h.ran (tok k_end ∷ []) ∙ stops m e h.inside) })

      go : (r : Res prog) → Reads ks ends 0 (λ ss. s_funs ∷ ss) 0 r → Text ks (and_then r (λ c m. elim (eqb (peek ks m) k_end) [ true ↦ ok c m | false ↦ bad m ]))
      go (ok t m) (good h) = close t m (eqb (peek ks m) k_end) refl h
      go (bad m) (wrong h) = broken (record { inside = h.inside; program = h.whole; rest = h.rest (k_end ∷ []); begins = sym (h.read (k_end ∷ [])); none = no_text m h.inside (h.ran (tok k_end ∷ [])) })
