-- The answer of the writer, from what the analysis and the measuring say.
use Prim.Native.Nat.{ℕ, ◌+◌, ◌≤◌, ◌<◌}
use mathlib.Core.Path.{◌≡◌, refl, sym, ap, ap₂, ◌∙◌, subst}
use mathlib.Core.List.{List, [], ◌∷◌}
use Rattle.std.specs.Prelude.{Result, Ok, Err, IsErr, IsErrAnd}
use native.Mathlib.Omega.{arith}
use lib.ListN.{length, length-map}
use lib.Seq.{sets}
use borrow.Author.Tests.{lt-ltb, le-ltb}
use Rattle.syntax.specs.Token.{k_end}
use Rattle.syntax.specs.Source.{Source}
use Rattle.syntax.specs.declared.refusal.Refusal.{Refusal}
use Rattle.syntax.specs.Tree as T
use Rattle.syntax.specs.Tree.{Tree, width}
use Rattle.syntax.specs.Ast.{Ast, prog}
use Rattle.syntax.specs.Abstract.{ast}
use Rattle.syntax.specs.Table.{Holds}
use Rattle.lexer.specs.Lex.{Token, lexed, tokens}
use Rattle.lexer.proofs.Theorems.{lexed-tokens, scans-only}
use Rattle.grammar.specs.Parse.{parsed, ok}
use Rattle.grammar.proofs.Grammar.{kept}
use Rattle.events.specs.Event.{Event}
use Rattle.events.specs.Walk.{Below}
use Rattle.events.proofs.Tokens.{numbered_below}
use Rattle.events.proofs.Widths.{onto-length}
use Rattle.text_rules.specs.Rules.{Head}
use Rattle.checker.specs.Check.{Verdict, kinds, source_of, checked}
use Rattle.checker.specs.Analysis.{Known, Analyses}
use Rattle.checker.specs.Analysis as N
use Rattle.checker.specs.declared.Analysis.{Analysis}
use Rattle.checker.proofs.Analysing.{token-list, few-tokens}
use Rattle.printing.specs.Written.{most}
use Rattle.house_style.specs.House.{flat, laid, house}
use Rattle.house_style.specs.Read.{tree_of, read_tokens, read, written}
use Rattle.house_style.proofs.Theorems.{writes-within}
use Rattle.writer.specs.Write.{Answer, refused, length-of, left, into, answering, answer_of}
use Rattle.writer.specs.Parts.{Part, Lays, Fills, shown_in}
use Rattle.writer.specs.declared.Pen.{Pen}

-- ---- measured, then put

module _ (bs before : List ℕ) where
  too_short : length before < length bs → left (refused 20 0) before ≡ into bs before
  too_short h = rw (lt-ltb (length before) (length bs) h)

  long-enough : length bs ≤ length before → left (length-of (length bs)) (sets before 0 bs) ≡ into bs before
  long-enough h = rw (le-ltb (length before) (length bs) h)

module _ {s : Source} {l : List ℕ} {i : ℕ} where
  measured : {o m : Pen} (t : Ast prog) → Holds l i t → length (shown_in s 0 t) < most → o.at ≡ 0 → Lays s l i 0 o m → m.at ≡ length (shown_in s 0 t)
  measured t h k z p = omega (arith, (p.is t h).past, k, z)

  pub refuses-short : {o m : Pen} {before : List ℕ} → o.at ≡ 0 → Lays s l i 0 o m → length before < m.at → Fills s l i before (refused 20 0) before
  refuses-short {before = before} z p g = record { is = λ t h k. too_short (shown_in s 0 t) before (omega (arith, g, measured t h k z p)) }

  pub puts_whole : {o m a w : Pen} {after : List ℕ} → o.at ≡ 0 → Lays s l i 0 o m → m.at ≤ length a.out.now → a.at ≡ 0 → Lays s l i 0 a w → after ≡ w.out.now → Fills s l i a.out.now (length-of w.at) after
  puts_whole {a = a} {w} {after} z p g y q e = record {
    is = λ t h k.
        let bs = shown_in s 0 t in
        ap₂ (λ (n : ℕ) (x : List ℕ). left (length-of n) x) (measured t h k y q) (e ∙ (q.is t h).kept ∙ ap (λ (n : ℕ). sets a.out.now n bs) y) ∙ long-enough bs a.out.now (omega (arith, g, measured t h k z p));
  }

-- ---- what is written for an accepted text

read-so : (text : List ℕ) (ts : List Token) (t : Tree T.prog) {m : ℕ} → lexed text ≡ tokens ts → parsed (kinds ts) ≡ ok t m → written text ≡ flat (laid 0 (tree_of text ts t) [])
unfolding written read read_tokens house
read-so text ts t l p = rw (scans-only (lexed-tokens text ts l).1, read, written) (rw (p, read_tokens))

module _ {text nodes slots : List ℕ} {ts : List Token} {s : Source} {root : ℕ} {events : List Event} {heads : List Head} (l : lexed text ≡ tokens ts) (e : s ≡ source_of text ts) (k : Known s nodes root events heads slots) where
  parses : parsed (kinds ts) ≡ ok k.tree k.after
  parses = ap (λ (z : Source). parsed z.kinds) (sym e) ∙ k.parses

  written-so : written text ≡ shown_in s 0 (ast k.tree)
  written-so = read-so text ts k.tree l parses ∙ ap (λ (z : Source). shown_in z 0 (ast k.tree)) (sym e)

  few-below : Below 65536 (ast k.tree)
  few-below =
      let g = kept (kinds ts) (token-list text ts l) parses in
      let w : length (kinds ts) ≡ width k.tree + 1 = ap length g.tokens ∙ onto-length k.tree (k_end ∷ []) in
      let m : length (kinds ts) ≡ length ts = length-map ts (λ (t : Token). t.kind) in
      subst (λ (t : Tree T.prog). Below 65536 (ast t)) (sym g.numbers) (numbered_below 0 65536 k.tree (omega (arith, w, m, few-tokens text ts l)))

  part-so : Part 2 nodes root
  part-so = record { sort = prog; rooted = record { tree = ast k.tree; holds = k.holds; room = k.room; few = k.few }; part = refl; tokens = few-below }

-- ---- from the analysis

passed : {r : Result ℕ Refusal} (p : Refusal) → IsErr r × IsErrAnd r (λ q. q ≡ p) → r ≡ Err p
passed {r = Ok x} p h = let e = h.0 in cc
passed {r = Err q} p h = ap Err h.1

pub refused-so : {text b : List ℕ} {v : Verdict} {p : Refusal} (r : Result ℕ Refusal) → Analyses text (Err p) v → IsErr r × IsErrAnd r (λ q. q ≡ p) → left (answer_of r) b ≡ answering (written text) b v
refused-so {b = b} {p = p} r N.rejects h = ap (λ (o : Result ℕ Refusal). left (answer_of o) b) (passed p h)

pub part_of : {text : List ℕ} {v : Verdict} {a : Analysis} → Analyses text (Ok a) v → Part 2 a.nodes.now a.root
part_of (N.has l e k) = part-so l e k

pub filled-so : {text b m : List ℕ} {v : Verdict} {a : Analysis} {w : Answer} → checked text ≡ v → Analyses text (Ok a) v → Fills a.source a.nodes.now a.root b w m → left w m ≡ answering (written text) b v
filled-so {text} {b} {a = a} c (N.has {ts = ts} l e k) f =
    let o = written-so l e k in
    let x = writes-within text c in
    let z = (lexed-tokens text ts l).0 in
    f.is (ast k.tree) k.holds (omega (arith, ap length o, x, z)) ∙ ap (λ (bs : List ℕ). into bs b) (sym o)
