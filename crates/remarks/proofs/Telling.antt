-- The answer, from what the analysis and the writing say.
use Rattle.std.specs.Prelude.{Ok, Err}
use Prim.Native.Nat.{ℕ, ◌≤◌, ◌<◌}
use mathlib.Core.Path.{◌≡◌, refl, sym, ap, subst, ◌∙◌}
use mathlib.Core.Bool.{Bool, cond}
use mathlib.Core.List.{List, ◌++◌}
use lib.ListN.{length, drop}
use borrow.Author.Tests.{lt-ltb, le-ltb}
use Rattle.syntax.specs.Tree.{Tree, prog}
use Rattle.syntax.specs.Abstract.{ast}
use Rattle.syntax.specs.declared.refusal.Refusal.{Refusal}
use Rattle.syntax.specs.declared.refusal.Reason.TheVariants as reason
use Rattle.lexer.specs.Lex.{Token, lexed, tokens}
use Rattle.grammar.specs.Parse.{parsed, ok}
use Rattle.events.specs.Event as E
use Rattle.events.specs.Event.{Event}
use Rattle.text_rules.specs.Rules.{Head}
use Rattle.checker.specs.Check as C
use Rattle.checker.specs.Check.{Verdict, accepted, kinds, Source, source_of, checked}
use Rattle.checker.specs.Analysis.{Known, Analyses}
use Rattle.checker.specs.Analysis as N
use Rattle.checker.specs.declared.Analysis.{Analysis}
use Rattle.remarks.specs.Remarks.{offsets_in, offsets_of, counted, left, answering, remarks_of, leaves}
use Rattle.remarks.specs.Steps.{Fair, WroteOffsets, offsets_by}
use Rattle.remarks.proofs.Places.{fair}

-- the offsets of a text with these tokens and this tree
pub offsets_are : (text : List ℕ) (ts : List Token) (t : Tree prog) {m : ℕ} → lexed text ≡ tokens ts → parsed (kinds ts) ≡ ok t m → offsets_of text ≡ offsets_in (source_of text ts) (ast t)
unfolding offsets_of
offsets_are text ts t l p = rw (l, offsets_of) (rw p)

-- as they are found
module _ {text : List ℕ} {ts : List Token} (l : lexed text ≡ tokens ts) {nodes : List ℕ} {root : ℕ} {es : List Event} {hs : List Head} {slots : List ℕ} (k : Known (source_of text ts) nodes root es hs slots) where
  same-offsets : offsets_by (source_of text ts) es hs ≡ offsets_of text
  unfolding offsets_in
  same-offsets =
      ap (λ (z : List Event). offsets_by (source_of text ts) z hs) k.kept.listed
      ∙ ap (λ (z : List Head). offsets_by (source_of text ts) (E.events (ast k.tree)) z) k.kept.functions
      ∙ sym (offsets_are text ts k.tree l k.parses)

-- ---- from the analysis

left_so : (os before after : List ℕ) (count : ℕ) → WroteOffsets os before after count → left (counted count) after ≡ left (counted (length os)) (os ++ drop (length os) before)
left_so os before after count w = ap (λ (i : ℕ). left (counted i) after) w.counts ∙ ap (left (counted (length os))) w.words

module _ {text : List ℕ} where
  pub refused-so : {r : Refusal} {v : Verdict} {b : List ℕ} → Analyses text (Err r) v → leaves (Err r) b ≡ answering (offsets_of text) b v
  refused-so N.Analyses.rejects = refl

  pub fair-so : {a : Analysis} {v : Verdict} → Analyses text (Ok a) v → Fair a.source a.heads.now
  fair-so (N.Analyses.has {ts = ts} l e k) = fair (record { tokens = ts; lexes = l; is = e }) k

  pub counted-so : {a : Analysis} {v : Verdict} {b w : List ℕ} {c : ℕ} → Analyses text (Ok a) v → WroteOffsets (offsets_by a.source a.events.now a.heads.now) b w c → leaves (Ok c) w ≡ answering (offsets_of text) b v
  counted-so {a} {b = b} {w = w} {c = c} (N.Analyses.has {ts = ts} l e k) o =
      let s = subst (λ (s : Source). Known s a.nodes.now a.root a.events.now a.heads.now a.slots.now) e k in
      let q = subst (λ (s : Source). WroteOffsets (offsets_by s a.events.now a.heads.now) b w c) e o in
      left_so _ b w c q ∙ ap (λ (os : List ℕ). left (counted (length os)) (os ++ drop (length os) b)) (same-offsets l s)

-- ---- 15, or as check

pub fifteen : (text b : List ℕ) → length b < 16 → leaves (Err (record { reason = reason.ShortOffsets; place = 0 })) b ≡ remarks_of text b
unfolding remarks_of
fifteen text b h = sym (ap (λ (t : Bool). answering (offsets_of text) b (cond t (C.refused 15 0) (checked text))) (lt-ltb (length b) 16 h))

pub enough : (text b : List ℕ) → 16 ≤ length b → answering (offsets_of text) b (checked text) ≡ remarks_of text b
unfolding remarks_of
enough text b h = sym (ap (λ (t : Bool). answering (offsets_of text) b (cond t (C.refused 15 0) (checked text))) (le-ltb (length b) 16 h))
