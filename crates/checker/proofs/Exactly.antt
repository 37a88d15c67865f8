-- Check accepts a text exactly if it keeps every rule.
use Prim.Native.Nat.{ℕ}
use mathlib.Core.Path.{◌≡◌, refl, sym, ap, ◌∙◌}
use mathlib.Core.List.{List}
use mathlib.Core.Logic.{◌↔◌}
use Rattle.std.specs.Prelude.{None}
use native.Mathlib.Omega.{arith}
use lib.ListN.{get_or}
use Rattle.lexer.specs.Lex as L
use Rattle.lexer.specs.Lex.{Token, lexed}
use Rattle.syntax.specs.Tree.{Tree, prog, width}
use Rattle.syntax.specs.Abstract.{ast}
use Rattle.grammar.specs.Parse.{Res, parsed, ok, bad}
use Rattle.grammar.specs.Text as G
use Rattle.grammar.specs.Text.{Tokens}
use Rattle.grammar.proofs.Grammar as Q
use Rattle.checker.specs.Check.{accepted, refused, kinds, places, source_of, rules_of, first_broken, verdict, checked_tokens, checked}
use Rattle.checker.specs.Accepted.{KeepsRules}
use Rattle.checker.proofs.Table.{AllKept, none_kept, also_kept, kept-exactly, unbroken, is-accepted}
use Rattle.checker.proofs.Analysing.{token-list}

-- the tokens of a tree are read back as this tree
pub read-so : (ks : List ℕ) (t : Tree prog) → G.KeepsGrammar ks t → parsed ks ≡ ok t (width t)
read-so ks t k = Q.accepts ks t k.tokens ∙ ap (λ (x : Tree prog). ok x (width t)) (sym k.numbers)

module _ (text : List ℕ) where
  kept : (ts : List Token) → lexed text ≡ L.tokens ts → (t : Tree prog) (m : ℕ) → parsed (kinds ts) ≡ ok t m → first_broken (rules_of (source_of text ts) (ast t)) ≡ None → KeepsRules text
  unfolding rules_of
  kept ts l t m p f =
      let k = unbroken (rules_of (source_of text ts) (ast t)) f in
      record { tokens = ts; tree = t; lexes = l; grammar = Q.kept (kinds ts) (token-list text ts l) p; depth = k 5; names = k 6; calls = k 7; main = k 8; ends = k 9; assigned = k 17; counts = k 10; upward = k 18; narrow = k 19 }

  to : checked text ≡ accepted → KeepsRules text
  unfolding checked checked_tokens
  to e = go (lexed text) refl e
    where
      read : (ts : List Token) → lexed text ≡ L.tokens ts → (r : Res prog) → parsed (kinds ts) ≡ r
          → elim r [ bad m ↦ refused 4 (get_or (places ts) m 0) | ok t m ↦ verdict (places ts) (first_broken (rules_of (source_of text ts) (ast t))) ] ≡ accepted → KeepsRules text
      read ts l (bad m) p q = let z : ◌≡◌ {A = ℕ} 0 1 = cc in absurd (omega arith)
      read ts l (ok t m) p q = kept ts l t m p (is-accepted (places ts) (first_broken (rules_of (source_of text ts) (ast t))) q)

      go : (a : L.Lexing) → lexed text ≡ a → elim a [ L.refused n p ↦ refused n p | L.tokens ts ↦ checked_tokens (source_of text ts) ] ≡ accepted → KeepsRules text
      go (L.refused n p) l q = let z : ◌≡◌ {A = ℕ} 0 1 = cc in absurd (omega arith)
      go (L.tokens ts) l q = read ts l (parsed (kinds ts)) refl q

  kept-all : (k : KeepsRules text) → AllKept (rules_of (source_of text k.tokens) (ast k.tree))
  unfolding rules_of
  kept-all k = also_kept k.depth (also_kept k.names (also_kept k.calls (also_kept k.main (also_kept k.ends (also_kept k.assigned (also_kept k.counts (also_kept k.upward (also_kept k.narrow none_kept))))))))

  from : KeepsRules text → checked text ≡ accepted
  unfolding checked checked_tokens
  from k = rw (k.lexes, checked) (rw (read-so (kinds k.tokens) k.tree k.grammar, checked_tokens) (rw ((kept-exactly (rules_of (source_of text k.tokens) (ast k.tree))).1 (kept-all k))))

  pub exactly : (checked text ≡ accepted) ↔ KeepsRules text
  exactly = (to, from)
