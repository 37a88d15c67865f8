-- Rule 6 by the events of a text, and what names mean, written where nothing was written before.
use Prim.Native.Nat.{ℕ, ◌<◌}
use native.Mathlib.Omega.{arith}
use mathlib.Core.Path.{◌≡◌, sym, ap, ◌∙◌}
use mathlib.Core.List.{List}
use Rattle.std.specs.Prelude.{Option}
use lib.ListN.{length, get_or, replicate, get_or-replicate, length-replicate, get_or-eq_default}
use native.Mathlib.Decide.{dec_lt}
use Rattle.syntax.specs.Ast as A
use Rattle.syntax.specs.Ast.{Ast}
use Rattle.events.specs.Event.{Event, events}
use Rattle.text_rules.specs.Scan.{least}
use Rattle.text_rules.specs.Names.{Meaning, meant, bad_names}
use Rattle.text_rules.specs.Scopes.{bad_names_in, meanings_in}
use Rattle.text_rules.proofs.Seen.{bad-names, meanings-are}
use Rattle.names.specs.Steps.{Named}
use Rattle.names.proofs.Meanings.{meant-at}
use Rattle.checker.specs.Check.{Source, same_in}
use Rattle.checker.specs.Judge.{Meant}
use Rattle.checker.specs.Sizes.{TOKENS}

no-meaning : (j : ℕ) → get_or {A = ℕ} (replicate TOKENS 0) j 0 ≡ 0
no-meaning j = go (dec_lt j TOKENS)
  where
    go : Dec (j < TOKENS) → get_or {A = ℕ} (replicate TOKENS 0) j 0 ≡ 0
    go (yes h) = get_or-replicate TOKENS j 0 0 h
    go (no h) = get_or-eq_default {A = ℕ} (replicate TOKENS 0) 0 {n = j} (omega (arith, h, length-replicate {A = ℕ} TOKENS 0))

pub meant-so : (s : Source) (p : Ast A.prog) {es : List Event} {slots slots' : List ℕ} {best : Option ℕ} → Named (same_in s) es slots best slots' → es ≡ events p → slots ≡ replicate TOKENS 0
    → Meant s p slots'
meant-so s p {es} {slots} k l e i h =
    k.means i (omega (arith, h, ap length e, length-replicate {A = ℕ} TOKENS 0))
    ∙ meant-at (λ j. get_or slots j 0) (λ j. 0) (meanings_in (same_in s) es) i (ap (λ (z : List ℕ). get_or z i 0) e ∙ no-meaning i)
    ∙ ap (λ (ms : List Meaning). meant (λ j. 0) ms i) (ap (meanings_in (same_in s)) l ∙ meanings-are (same_in s) p)

-- rule 6 over the events of a tree is rule 6 of the tree
pub bad-so : (s : Source) (p : Ast A.prog) {es : List Event} {o : Option ℕ} → es ≡ events p → least (bad_names_in (same_in s) es) ≡ o → least (bad_names (same_in s) p) ≡ o
bad-so s p e h = ap least (sym (ap (bad_names_in (same_in s)) e ∙ bad-names (same_in s) p)) ∙ h
