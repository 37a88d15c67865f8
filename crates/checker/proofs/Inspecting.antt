-- The rules of a tree, from what the walk and the rules answer.
use Rattle.std.specs.Prelude.{Result, Ok, Err}
use Prim.Native.Nat.{ℕ}
use mathlib.Core.Path.{◌≡◌, sym, subst}
use mathlib.Core.List.{List}
use Rattle.syntax.specs.Ast as A
use Rattle.syntax.specs.Ast.{Ast}
use Rattle.syntax.specs.declared.refusal.Refusal.{Refusal}
use Rattle.events.specs.Event as E
use Rattle.events.specs.Event.{Event}
use Rattle.events.specs.Walk.{Walked}
use Rattle.text_rules.specs.Rules.{Head}
use Rattle.checker.specs.Check.{Verdict, Source, rules_of, first_broken, verdict}
use Rattle.checker.specs.Judge.{verdict_of, Understands, Standing, Judges}
use Rattle.checker.specs.Analysis.{Inspects, Inspected}
use Rattle.checker.proofs.Table.{is-accepted}

module _ (s : Source) (nodes : List ℕ) (root : ℕ) (events : List Event) (heads : List Head) (slots : List ℕ) where
  by_cases : (p : Ast A.prog) → events ≡ E.events p → (r : Result (Unit {0}) Refusal)
      → verdict_of r ≡ verdict s.places (first_broken (rules_of s p))
      → Understands s p slots heads r
      → Inspects s events heads slots p r (verdict s.places (first_broken (rules_of s p)))
  by_cases p l (Err x) f k = subst (λ (v : Verdict). Inspects s events heads slots p (Err x) v) f Inspects.refuses
  by_cases p l (Ok u) f k =
      subst (λ (v : Verdict). Inspects s events heads slots p (Ok u) v) f
      (Inspects.accepts (is-accepted s.places (first_broken (rules_of s p)) (sym f)) (record { listed = l; functions = k.0; means = k.1 }))

  pub inspected : (r : Result (Unit {0}) Refusal) → Walked nodes root events
      → Judges (Standing s.kinds nodes root events) s (rules_of s) slots heads r
      → Inspected s nodes root events heads slots r
  inspected r w g = record { inspects = λ p h b o. let k : Standing s.kinds nodes root events p = record { holds = h; below = b; shown = o; listed = w.holds p h } in by_cases p (w.holds p h) r (g.said p k) (g.known p k) }
