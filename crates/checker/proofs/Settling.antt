-- The tokens of a text, from what the parser and the rules of the tree answer.
use Rattle.std.specs.Prelude.{Ok, Err}
use Prim.Native.Nat.{ℕ, ◌+◌, ◌*◌, ◌≤◌}
use mathlib.Core.Path.{◌≡◌, refl, sym, ap, ◌∙◌, subst}
use mathlib.Core.List.{List, [], ◌∷◌}
use native.Mathlib.Omega.{arith}
use lib.ListN.{length, get_or}
use Rattle.syntax.specs.Tree as T
use Rattle.syntax.specs.Tree.{Tree, width}
use Rattle.syntax.specs.Token.{k_end}
use Rattle.syntax.specs.Abstract.{ast}
use Rattle.syntax.specs.declared.refusal.Refusal.{Refusal}
use Rattle.syntax.specs.declared.refusal.Reason.TheVariants as reason
use Rattle.syntax.specs.Table.{Holds}
use Rattle.grammar.specs.Parse.{Res, ok, bad, parsed}
use Rattle.grammar.specs.Text.{Tokens}
use Rattle.grammar.specs.Answer as G
use Rattle.grammar.proofs.Grammar.{kept}
use Rattle.events.specs.Event.{Event}
use Rattle.events.specs.Walk.{Ready, Below}
use Rattle.events.proofs.Widths.{onto-length}
use Rattle.events.proofs.Enough.{ready}
use Rattle.events.proofs.Tokens.{numbered_below}
use Rattle.checker.specs.Check.{Verdict, Source, checked_tokens}
use Rattle.text_rules.specs.Rules.{Head}
use Rattle.text_rules.specs.Own.{owns}
use Rattle.text_rules.specs.Answers.{owns_from}
use Rattle.text_rules.proofs.OwnTokens.{text-owns}
use Rattle.checker.specs.Sizes.{TOKENS}
use Rattle.checker.specs.Judge.{Shown}
use Rattle.checker.specs.Analysis.{Inspects, Inspected, Settles}
use Rattle.checker.specs.Analysis as N

-- number 4
pub is-bad : {l : List ℕ} {m : ℕ} {v : Res T.prog} → G.Parses l (Err m) v → v ≡ bad m
is-bad G.none = refl

-- a tree
pub record Read (l : List ℕ) (root : ℕ) (v : Res T.prog) : Type 0 where
  pub tree : Tree T.prog
  pub after : ℕ
  pub is : v ≡ ok tree after
  pub holds : Holds l root (ast tree)
  pub room : 5 * root + 5 ≤ length l

pub is-tree : {l : List ℕ} {root : ℕ} {v : Res T.prog} → G.Parses l (Ok root) v → Read l root v
is-tree (G.tree {t = t} {m = m} {k = k} p a) = record { tree = t; after = m; is = refl; holds = record { kind = k; at = a }; room = p }

module _ {ks l : List ℕ} {root : ℕ} (t : Tokens ks) (f : length ks ≤ TOKENS) (r : Read l root (parsed ks)) where
  tokens-wide : length ks ≡ width r.tree + 1
  tokens-wide = ap length (kept ks t r.is).tokens ∙ onto-length r.tree (k_end ∷ [])

  -- the tree can be walked
  pub can-walk : length l ≡ 20490 → Ready l root
  can-walk e = ready r.tree (omega (arith, tokens-wide, f)) (subst (λ (t : Tree T.prog). Holds l root (ast t)) (kept ks t r.is).numbers r.holds) r.room (omega (arith, r.room, e))

  -- its tokens are those of the text
  pub few-tokens : Below TOKENS (ast r.tree)
  few-tokens = subst (λ (t : Tree T.prog). Below TOKENS (ast t)) (sym (kept ks t r.is).numbers) (numbered_below 0 TOKENS r.tree (omega (arith, tokens-wide, f)))

  -- the own pairs that these show are its own
  pub own-tokens : Shown ks (ast r.tree)
  own-tokens = ap (owns_from 0) (kept ks t r.is).tokens ∙ text-owns r.tree ∙ ap (λ (t : Tree T.prog). owns (ast t)) (sym (kept ks t r.is).numbers)

module _ (s : Source) (nodes : List ℕ) (events : List Event) (heads : List Head) (slots : List ℕ) where
  pub settles-bad : {m : ℕ} → parsed s.kinds ≡ bad m → Settles s nodes events heads slots (Err (record { reason = reason.Misplaced; place = get_or s.places m 0 })) (checked_tokens s)
  unfolding checked_tokens
  settles-bad e = rw (e, checked_tokens) N.Settles.refuses

  -- what the rules say of the tree that is read
  module _ {root : ℕ} (h : Read nodes root (parsed s.kinds)) (b : Below TOKENS (ast h.tree)) (o : Shown s.kinds (ast h.tree)) where
    pub settles-refused : {x : Refusal} → Inspected s nodes root events heads slots (Err x) → Settles s nodes events heads slots (Err x) (checked_tokens s)
    unfolding checked_tokens
    settles-refused {x} g = rw (h.is, checked_tokens) (go (g.inspects (ast h.tree) h.holds b o))
      where
        go : {v : Verdict} → Inspects s events heads slots (ast h.tree) (Err x) v → Settles s nodes events heads slots (Err x) v
        go N.Inspects.refuses = N.Settles.refuses

    pub settles-tree : {u : Unit {0}} → length nodes ≡ 20490 → length slots ≡ TOKENS → Inspected s nodes root events heads slots (Ok u) → Settles s nodes events heads slots (Ok root) (checked_tokens s)
    unfolding checked_tokens
    settles-tree {u} f l g = rw (h.is, checked_tokens) (go (g.inspects (ast h.tree) h.holds b o))
      where
        go : {v : Verdict} → Inspects s events heads slots (ast h.tree) (Ok u) v → Settles s nodes events heads slots (Ok root) v
        go (N.Inspects.accepts u k) = N.Settles.accepts (record { tree = h.tree; after = h.after; parses = h.is; holds = h.holds; room = h.room; few = omega (arith, h.room, f); named = l; kept = k; unbroken = u })
