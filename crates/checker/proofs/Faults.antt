-- The first broken rule, from what each rule says.
use Rattle.std.specs.Prelude.{Option, None, Some, Result, Ok, Err}
use Prim.Native.Nat.{ℕ}
use mathlib.Core.Path.{◌≡◌, refl, sym, ap, ◌∙◌, subst}
use mathlib.Core.List.{List}
use mathlib.Core.Bool.{true, false}
use native.Mathlib.Omega.{arith}
use lib.ListN.{get_or, take-append-drop}
use Rattle.syntax.specs.Ast as A
use Rattle.syntax.specs.Ast.{Ast}
use Rattle.syntax.specs.Refusals.{number_of}
use Rattle.syntax.specs.declared.refusal.Refusal.{Refusal}
use Rattle.events.specs.Event.{Event}
use Rattle.text_rules.specs.Scan.{least}
use Rattle.text_rules.specs.Rules.{Head}
use Rattle.text_rules.specs.Own.{Own, breaching, is_reversed, is_wide, reversed, too_wide}
use Rattle.breaches.specs.Pairs.{breaches_from}
use Rattle.text_rules.proofs.SameNames.{same-unassigned}
use Rattle.checker.specs.Check.{accepted, refused, Source, Rule, rules_of, Fault, or_else, first_broken, verdict}
use Rattle.checker.specs.Judge.{first_rules, last_rules, Keeps, Understands, Shown, Listed, Standing, Readable, Judges, JudgesPart}
use Rattle.checker.specs.Sizes.{TOKENS}
use Rattle.checker.proofs.Table.{is-accepted, or_later, first-append}

-- a rule is broken, first at this token, which is said
pub record Broken (s : Source) (n : ℕ) (o : Option ℕ) (r : Refusal) : Type 0 where
  pub token : ℕ
  pub breaks : o ≡ Some token
  pub said : refused (number_of r.reason) r.place ≡ refused n (get_or s.places token 0)

module _ {s : Source} {n : ℕ} where
  pub at : {x o : Option ℕ} {r : Refusal} → x ≡ o → Keeps s n x (Err r) → Broken s n o r
  at {x} {o} {r} e k = subst (λ (y : Option ℕ). Broken s n y r) e (go x k.said)
    where
      go : (y : Option ℕ) → refused (number_of r.reason) r.place ≡ verdict s.places (or_else n y None) → Broken s n y r
      go None h = let z : ◌≡◌ {A = ℕ} 0 1 = cc in absurd (omega arith)
      go (Some i) h = record { token = i; breaks = refl; said = h }

  -- or nowhere
  pub nowhere : {x o : Option ℕ} {u : Unit {0}} → x ≡ o → Keeps s n x (Ok u) → o ≡ None
  nowhere {x} e k = sym e ∙ go x k.said
    where
      go : (y : Option ℕ) → accepted ≡ verdict s.places (or_else n y None) → y ≡ None
      go None h = refl
      go (Some i) h = let z : ◌≡◌ {A = ℕ} 0 1 = cc in absurd (omega arith)

-- the pairs that the tokens show are those of the tree
module _ (ks vs : List ℕ) (p : Ast A.prog) (e : Shown ks p) where
  pub reversed-so : least (breaches_from ks vs false 0) ≡ least (reversed (λ i. get_or vs i 0) p)
  reversed-so = ap (λ (os : List Own). least (breaching (λ i. get_or vs i 0) is_reversed os)) e

  pub wide-so : least (breaches_from ks vs true 0) ≡ least (too_wide (λ i. get_or vs i 0) p)
  wide-so = ap (λ (os : List Own). least (breaching (λ i. get_or vs i 0) is_wide os)) e

-- ---- the two parts of the table

by_parts : (s : Source) (p : Ast A.prog) → first_broken (rules_of s p) ≡ or_later (first_broken (first_rules s p)) (first_broken (last_rules s p))
by_parts s p = ap first_broken (sym (take-append-drop 5 (rules_of s p))) ∙ first-append (first_rules s p) (last_rules s p)

refused-first : (ps : List ℕ) {c q : ℕ} (o later : Option Fault) → refused c q ≡ verdict ps o → refused c q ≡ verdict ps (or_later o later)
refused-first ps None later h = let z : ◌≡◌ {A = ℕ} 0 1 = cc in absurd (omega arith)
refused-first ps (Some f) later h = h

understood : (s : Source) (p : Ast A.prog) (slots : List ℕ) (heads : List Head) (r : Result (Unit {0}) Refusal) → Understands s p slots heads (Ok tt) → Understands s p slots heads r
understood s p slots heads (Ok u) k = k
understood s p slots heads (Err r) k = tt

module _ {s : Source} {slots : List ℕ} {heads : List Head} where
  -- where the rules before are kept, the answer of all is that of the later ones
  pub goes_on : {Of : Ast A.prog → Type 0} {of later : Ast A.prog → List Rule} {r : Result (Unit {0}) Refusal} → JudgesPart Of s later r
      → ((p : Ast A.prog) → Of p → first_broken (of p) ≡ first_broken (later p))
      → ((p : Ast A.prog) → Of p → Understands s p slots heads (Ok tt))
      → Judges Of s of slots heads r
  goes_on {r = r} j f k = record { said = λ p e. j.is p e ∙ ap (verdict s.places) (sym (f p e)); known = λ p e. understood s p slots heads r (k p e) }

  module _ {nodes : List ℕ} {root : ℕ} {es : List Event} where
    -- one of the first rules is broken
    pub first-broken : {r : Refusal} → Judges (Listed es) s (first_rules s) slots heads (Err r) → Judges (Standing s.kinds nodes root es) s (rules_of s) slots heads (Err r)
    first-broken j = record {
      said = λ p e. refused-first s.places (first_broken (first_rules s p)) (first_broken (last_rules s p)) (j.said p e.listed) ∙ ap (verdict s.places) (sym (by_parts s p));
      known = λ p e. tt;
    }

    -- they are kept, and then the last rules, which read what the names mean
    pub first-kept : {u : Unit {0}} {r : Result (Unit {0}) Refusal} → Judges (Listed es) s (first_rules s) slots heads (Ok u) → JudgesPart (Readable s nodes root slots es) s (last_rules s) r
        → Judges (Standing s.kinds nodes root es) s (rules_of s) slots heads r
    first-kept j l =
        goes_on (record { is = λ p e. l.is p (record { holds = e.holds; means = same-unassigned _ _ TOKENS (j.known p e.listed).1 p e.below; shown = e.shown; listed = e.listed }) })
        (λ p e. by_parts s p ∙ ap (λ (o : Option Fault). or_later o (first_broken (last_rules s p))) (is-accepted s.places (first_broken (first_rules s p)) (sym (j.said p e.listed))))
        (λ p e. j.known p e.listed)
