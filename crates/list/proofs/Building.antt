-- What the analysis of an accepted text answers is what the compiler asks, and the code that it leaves is that of the text's program.
use Rattle.std.specs.Prelude.{Ok, Err}
use Prim.Native.Nat.{ℕ, ◌+◌, ◌≤◌, ◌<◌}
use mathlib.Core.Path.{◌≡◌, refl, sym, ap, ◌∙◌, subst}
use mathlib.Core.List.{List, [], ◌∷◌}
use native.Mathlib.Omega.{arith}
use lib.ListN.{length, length-map, get_or}
use Rattle.syntax.specs.Token.{k_end}
use Rattle.syntax.specs.Tree.{Tree, prog, width}
use Rattle.syntax.specs.Abstract.{ast}
use Rattle.syntax.specs.declared.refusal.Refusal.{Refusal}
use Rattle.lexer.specs.Lex as L
use Rattle.lexer.specs.Lex.{Token, lexed}
use Rattle.grammar.proofs.Grammar.{kept}
use Rattle.events.specs.Event as E
use Rattle.events.specs.Event.{Event}
use Rattle.events.proofs.Widths.{onto-length}
use Rattle.text_rules.specs.Rules as R
use Rattle.text_rules.specs.Rules.{Head}
use Rattle.text_rules.specs.Names.{meant, meanings}
use Rattle.text_rules.specs.Own.{owns}
use Rattle.text_rules.proofs.OwnRules.{each-rises}
use Rattle.text_rules.specs.Resolve.{main_of, resolved}
use Rattle.checker.specs.Check.{Verdict, kinds, values, Source, source_of, same_in, main_in, end_of, rules_of, program_of}
use Rattle.checker.specs.Analysis.{Known, Analyses}
use Rattle.checker.specs.Analysis as N
use Rattle.checker.specs.declared.Analysis.{Analysis}
use Rattle.checker.proofs.Analysing.{few-tokens, token-list}
use Rattle.checker.proofs.Table.{broken_by, unbroken}
use Rattle.semantics.specs.Program.{Program}
use Rattle.simulation.specs.Code.{Code}
use Rattle.simulation.specs.Placed.{Placed}
use Rattle.compiler.specs.Coded.{word}
use Rattle.compiler.specs.Compile.{Ready, Compiled}
use Rattle.compiler.proofs.Fitting.{Keeps, Given, accepted-ready, accepted-placed, accepted-main}
use Rattle.list.specs.List.{program}
use Rattle.list.specs.Code.{Codes, Translates, refuses, has}
use Rattle.list.proofs.Values.{small-values}

-- ---- an accepted text

module _ {text : List ℕ} {ts : List Token} (t : lexed text ≡ L.tokens ts) {nodes : List ℕ} {root : ℕ} {es : List Event} {hs : List Head} {slots : List ℕ} (k : Known (source_of text ts) nodes root es hs slots) where
  abbrev s : Source
  s = source_of text ts

  abbrev vs : List ℕ
  vs = values ts

  abbrev tree : Tree prog
  tree = k.tree

  many : length vs ≡ width tree + 1
  many =
      length-map ts (λ t. t.value) ∙ sym (length-map ts (λ t. t.kind))
      ∙ ap length (kept (kinds ts) (token-list text ts t) k.parses).tokens ∙ onto-length tree (k_end ∷ [])

  most : length vs ≤ 2049
  most = omega (arith, few-tokens text ts t, length-map ts (λ (t : Token). t.value))

  -- the text keeps the rules 6, 7, 8, 10 and 18
  rules : (r : ℕ) → broken_by r (rules_of s (ast tree)) ≡ []
  rules = unbroken _ k.unbroken

  keeps-so : Keeps (same_in s) tree (λ i. 0) (word vs)
  unfolding rules_of
  keeps-so = record { six = rules 6; seven = rules 7; ten = rules 10; eighteen = each-rises (word vs) (owns (ast tree)) (rules 18) }

  main-kept : R.mainless (main_in s) (end_of s) (E.events (ast tree)) ≡ []
  unfolding rules_of
  main-kept = rules 8

  means-so : (j : ℕ) → j < length vs → get_or slots j 0 ≡ meant (λ i. 0) (meanings (same_in s) (ast tree)) j
  means-so j l = k.kept.means j (omega (arith, l, most))

  module _ (g : ℕ) (main : g ≡ main_of (main_in s) hs) where
    main-so : g ≡ main_of (main_in s) (R.heads (E.events (ast tree)))
    main-so = main ∙ ap (main_of (main_in s)) k.kept.functions

    given_so : Given (same_in s) tree (λ i. 0) nodes root vs slots g (length vs)
    given_so = record {
      holds = k.holds;
      room = k.room;
      few = k.few;
      tokens = record { valued = omega arith; named = omega (arith, most, k.named); small = omega (arith, most) };
      numbers = (kept (kinds ts) (token-list text ts t) k.parses).numbers;
      wide = omega (arith, many);
      small = λ j l. small-values text ts t j;
      agree = means-so;
      main = omega (arith, main-so, accepted-main (same_in s) tree (λ i. 0) (main_in s) (end_of s) main-kept keeps-so.ten);
      space = omega (arith, many, most);
    }

    ready-tokens : Ready nodes root vs slots g
    ready-tokens = accepted-ready (same_in s) tree (λ i. 0) given_so keeps-so

    program-is : program text ≡ resolved (λ i. get_or vs i 0) (λ i. meant (λ j. 0) (meanings (same_in s) (ast tree)) i) (main_in s) (R.heads (E.events (ast tree))) (ast tree)
    unfolding program program_of
    program-is = rw (t, program) (rw (k.parses, program))

    codes-tokens : {code : Code} → Compiled nodes root vs slots g code → Codes text code
    codes-tokens {code} c = record { placed = subst (λ (p : Program). Placed code p) (sym program-is) (accepted-placed (same_in s) tree (λ i. 0) given_so keeps-so c (λ i. get_or vs i 0) (λ j l. refl) (main_in s) main-so) }

-- ---- from the analysis

pub refused-so : {text : List ℕ} {code : Code} {r : Refusal} {v : Verdict} → Analyses text (Err r) v → Translates text code (Err r) v
refused-so N.Analyses.rejects = refuses

module _ {text : List ℕ} {a : Analysis} where
  pub ready-so : {v : Verdict} → Analyses text (Ok a) v → (g : ℕ) → g ≡ main_of (main_in a.source) a.heads.now → Ready a.nodes.now a.root a.source.values a.slots.now g
  ready-so (N.Analyses.has {ts = ts} t e k) g =
      subst (λ (s : Source). Known s a.nodes.now a.root a.events.now a.heads.now a.slots.now → g ≡ main_of (main_in s) a.heads.now → Ready a.nodes.now a.root s.values a.slots.now g)
      (sym e) (λ k. ready-tokens t k g) k

  pub translated : {v : Verdict} → Analyses text (Ok a) v → (g : ℕ) → g ≡ main_of (main_in a.source) a.heads.now → {code : Code} → Compiled a.nodes.now a.root a.source.values a.slots.now g code → Translates text code (Ok tt) v
  translated (N.Analyses.has {ts = ts} t e k) g m {code} c =
      has
      (subst (λ (s : Source). Known s a.nodes.now a.root a.events.now a.heads.now a.slots.now → g ≡ main_of (main_in s) a.heads.now → Compiled a.nodes.now a.root s.values a.slots.now g code → Codes text code)
      (sym e) (λ k m. codes-tokens t k g m) k m c)
