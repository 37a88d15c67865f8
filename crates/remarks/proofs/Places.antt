-- The functions of an accepted text: their names, the places of these, and what the analysis gives for writing them.
use Prim.Native.Nat.{ℕ, ◌+◌, ◌≤◌, ◌<◌}
use mathlib.Core.Path.{◌≡◌, sym, ap, subst, ◌∙◌}
use mathlib.Core.List.{List, [], ◌∷◌, map}
use native.Mathlib.Omega.{arith}
use lib.ListN.{length, get_or, length-map, get_or-map}
use Rattle.syntax.specs.Tree.{Tree, prog, width}
use Rattle.syntax.specs.Token.{k_end}
use Rattle.syntax.specs.Abstract.{ast}
use Rattle.lexer.specs.Lex.{Token, lexed, tokens}
use Rattle.lexer.proofs.Theorems.{inside, lexed-tokens}
use Rattle.grammar.specs.Text as G
use Rattle.grammar.proofs.Grammar as Q
use Rattle.events.specs.Event as E
use Rattle.events.specs.Event.{Event}
use Rattle.events.proofs.Widths.{onto-length}
use Rattle.text_rules.specs.Rules as R
use Rattle.text_rules.specs.Rules.{Head}
use Rattle.text_rules.proofs.Counts.{few-functions, main-lt}
use Rattle.checker.specs.Check.{places, Source, source_of, main_in, end_of, rules_of}
use Rattle.checker.specs.Analysis.{Known}
use Rattle.checker.proofs.Table.{broken_by, unbroken}
use Rattle.checker.proofs.Analysing.{Lexed, token-list}
use Rattle.remarks.specs.Steps.{Fair}
use Rattle.remarks.proofs.Rising.{names, below_at, names-rise}

-- the place of a token is at most 2,048
pub low-place : (text : List ℕ) (ts : List Token) → lexed text ≡ tokens ts → (i : ℕ) → i < length ts → get_or (places ts) i 0 ≤ 2048
low-place text ts e i h =
    let nothing : Token = record { kind = 0; place = 0; value = 0 } in
    let t = lexed-tokens text ts e in
    omega (arith, t.0, inside t.1 i nothing h, get_or-map (λ (x : Token). x.place) ts i nothing)

-- a text has as many tokens as its tree, and the end
pub wide : (ks : List ℕ) (t : Tree prog) → G.KeepsGrammar ks t → length ks ≡ width t + 1
wide ks t k = ap length k.tokens ∙ onto-length t (k_end ∷ [])

-- ---- what the analysis of an accepted text gives

module _ {text : List ℕ} {ts : List Token} (l : lexed text ≡ tokens ts) {nodes : List ℕ} {root : ℕ} {es : List Event} {hs : List Head} {slots : List ℕ} (k : Known (source_of text ts) nodes root es hs slots) where
  abbrev ks : List ℕ
  ks = map (λ (t : Token). t.kind) ts

  grammar : G.KeepsGrammar ks k.tree
  grammar = Q.kept ks (token-list text ts l) k.parses

  -- a function's name is a token
  name_below : (g : ℕ) → g < length hs → get_or (names hs) g 0 < length ts
  name_below g p =
      let fs = R.heads (E.events (ast k.tree)) in
      let h : length hs ≡ length fs = ap length k.kept.functions in
      let n : get_or (names hs) g 0 ≡ get_or (names fs) g 0 = ap (λ (z : List Head). get_or (names z) g 0) k.kept.functions in
      omega (arith, n, below_at (names-rise k.tree grammar.numbers) g (omega (arith, p, h, length-map fs (λ (y : Head). y.name))), wide ks k.tree grammar, length-map ts (λ (t : Token). t.kind))

  -- the text keeps the rules 8 and 10
  rules : (r : ℕ) → broken_by r (rules_of (source_of text ts) (ast k.tree)) ≡ []
  rules = unbroken _ k.unbroken

  main-kept : R.mainless (main_in (source_of text ts)) (end_of (source_of text ts)) (E.events (ast k.tree)) ≡ []
  unfolding rules_of
  main-kept = rules 8

  counts-kept : R.too_many (E.events (ast k.tree)) ≡ []
  unfolding rules_of
  counts-kept = rules 10

  fair-tokens : Fair (source_of text ts) hs
  fair-tokens = record {
    few = omega (arith, ap length k.kept.functions, few-functions (E.events (ast k.tree)) counts-kept);
    main = main-lt (main_in (source_of text ts)) (end_of (source_of text ts)) hs (rw k.kept.functions main-kept);
    fits = λ g p. omega (arith, low-place text ts l (get_or (names hs) g 0) (name_below g p));
  }

pub fair : {text : List ℕ} {s : Source} (x : Lexed text s) {nodes : List ℕ} {root : ℕ} {es : List Event} {hs : List Head} {slots : List ℕ} → Known s nodes root es hs slots → Fair s hs
fair {text} x {nodes} {root} {es} {hs} {slots} k = subst (λ (s : Source). Known s nodes root es hs slots → Fair s hs) (sym x.is) (fair-tokens x.lexes) k
