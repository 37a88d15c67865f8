-- THEOREMS of slip 7 (document 02), over texts, in the slip's words.
use Prim.Native.Nat.{ℕ, ◌*◌, ◌≤◌}
use mathlib.Core.Path.{◌≡◌, sym, ap, ◌∙◌, subst}
use mathlib.Core.List.{List, []}
use mathlib.Core.Logic.{◌↔◌}
use mathlib.Core.Option.{Option, none, some}
use lib.ListN.{length}
use Rattle.syntax.specs.Ast.{prog}
use Rattle.lexer.specs.Lex.{Token, found, scan}
use Rattle.checker.specs.Check.{accepted, checked}
use Rattle.house_style.specs.Named.{Named}
use Rattle.house_style.specs.House.{house}
use Rattle.house_style.specs.Read.{read, written}
use Rattle.house_style.proofs.Readback.{reads-back}
use Rattle.house_style.proofs.Accept.{accepted-read, again}
use Rattle.house_style.proofs.Fewest.{fewest}
use Rattle.house_style.proofs.Fits.{fits}

is-house : (text : List ℕ) (n : Named prog) → read text ≡ some n → written text ≡ house n
unfolding written
is-house text n e = rw (e, written)

same-written : (t u : List ℕ) → read t ≡ read u → written t ≡ written u
unfolding written
same-written t u e = ap (λ (o : Option (Named prog)). elim o [ none ↦ [] | some n ↦ house n ]) e

module _ (text : List ℕ) (a : checked text ≡ accepted) where
  -- "Reading its output by the grammar gives the same program tree (brackets not counted)", whatever its length
  pub writes-back : read (written text) ≡ read text
  writes-back = let r = accepted-read text a in ap read (is-house text r.0 r.1) ∙ reads-back text r.0 r.1 ∙ sym r.1

  -- "Output past 2,048 bytes is still written whole; up to that length, writing once more alters nothing": it is accepted, and what is written for it is itself
  pub writes_again : length (written text) ≤ 2048 → (checked (written text) ≡ accepted) × (written (written text) ≡ written text)
  writes_again h =
      let r = accepted-read text a in
      let e = is-house text r.0 r.1 in
      (subst (λ (l : List ℕ). checked l ≡ accepted) (sym e) (again text r.0 a r.1 (subst (λ (l : List ℕ). length l ≤ 2048) e h)), same-written (written text) text writes-back)

  -- "brackets only where the grammar needs them": no text of this tree has fewer tokens
  pub writes-fewest : (u : List ℕ) → read u ≡ read text → (ts us : List Token) → scan 0 0 (written text) ≡ found ts → scan 0 0 u ≡ found us → length ts ≤ length us
  writes-fewest u e ts us f g =
      let r = accepted-read text a in
      fewest u r.0 (e ∙ r.1) ts us (ap (scan 0 0) (sym (is-house text r.0 r.1)) ∙ f) g

  -- so long a slice is never too short: 131,072 bytes for any text
  pub writes-within : length (written text) ≤ 64 * length text
  writes-within = let r = accepted-read text a in subst (λ (l : List ℕ). length l ≤ 64 * length text) (sym (is-house text r.0 r.1)) (fits text r.0 a r.1)

-- "two trees have the same output exactly if they are equal"
pub writes-alike : (t u : List ℕ) → checked t ≡ accepted → checked u ≡ accepted → (written t ≡ written u) ↔ (read t ≡ read u)
writes-alike t u a b = (λ h. sym (writes-back t a) ∙ ap read h ∙ writes-back u b, same-written t u)
