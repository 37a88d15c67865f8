-- The value of every token of a text is below 2 ^ 31.
use Prim.Native.Nat.{ℕ, zero, suc, ◌≤◌, ◌<◌}
use mathlib.Core.Path.{◌≡◌, refl, sym, ap, ◌∙◌}
use mathlib.Core.Bool.{Bool, true, false, ◌&&◌, ◌||◌}
use mathlib.Core.List.{List}
use native.Mathlib.Omega.{arith}
use lib.ListN.{length, get_or, take, drop, length-drop, length-take}
use lib.Dec.{eqb, ltb}
use borrow.Author.Tests.{ltb-false}
use Rattle.syntax.specs.Token.{k_name, k_number}
use Rattle.lexer.specs.Lex.{Token, is_large, found, lexed, tokens}
use Rattle.lexer.specs.Tokens.{Longest, Scans, ended, next}
use Rattle.lexer.proofs.Fronts.{size-value}
use Rattle.lexer.proofs.Theorems.{Small, one, lexed-tokens}
use Rattle.checker.specs.Check.{values}

pub neither : (a b : Bool) → a || b ≡ false → b ≡ false
neither true b e = absurd (let z : ◌≡◌ {A = ℕ} 0 1 = cc in omega arith)
neither false b e = e

module _ (text : List ℕ) (short : length text ≤ 2048) where
  token-small : (t : Token) (size : ℕ) → Longest (drop t.place text) t.kind size t.value → is_large t ≡ false → t.value < 2147483648
  token-small t size f e = go (eqb t.kind k_number) refl
    where
      go : (b : Bool) → eqb t.kind k_number ≡ b → t.value < 2147483648
      go true q =
          let n = neither (eqb t.kind k_name && ltb 16 t.value) (eqb t.kind k_number && ltb 2147483647 t.value) e in
          let m : ltb 2147483647 t.value ≡ false = sym (ap (λ (b : Bool). b && ltb 2147483647 t.value) q) ∙ n in
          omega (arith, ltb-false 2147483647 t.value m)
      go false q =
          let l = take size (drop t.place text) in
          let v : t.value ≡ length l = f.value-of ∙ size-value l (sym (ap (λ (k : ℕ). eqb k k_number) f.kind-of) ∙ q) in
          omega (arith, v, length-take size (drop t.place text), length-drop t.place text, short)

  small-from : {p : ℕ} {ts : List Token} → Scans text p (found ts) → Small ts → (j : ℕ) → get_or (values ts) j 0 < 2147483648
  small-from (ended b) s zero = omega arith
  small-from (ended b) s (suc j) = omega arith
  small-from (next {t = t} size b f c) (one e s) zero = token-small t size f e
  small-from (next size b f c) (one e s) (suc j) = small-from c s j

pub small-values : (text : List ℕ) (ts : List Token) → lexed text ≡ tokens ts → (j : ℕ) → get_or (values ts) j 0 < 2147483648
small-values text ts e j = let l = lexed-tokens text ts e in small-from text l.0 l.1 l.2 j
