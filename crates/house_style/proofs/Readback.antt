-- THEOREMS of slip 7 on reading: "Reading its output by the grammar gives the same program tree (brackets not counted), and two trees have the same output exactly if they are equal."
use Prim.Native.Nat.{ℕ}
use mathlib.Core.Path.{◌≡◌, refl, sym, ap, ◌∙◌, subst}
use mathlib.Core.List.{List, [], ◌∷◌, ◌++◌}
use mathlib.Core.Logic.{◌↔◌}
use mathlib.Core.Option.{none, some}
use native.Mathlib.Omega.{arith}
use lib.ListN.{get_or}
use Rattle.syntax.specs.Token.{k_end}
use Rattle.syntax.specs.Tree as T
use Rattle.syntax.specs.Tree.{Tree, onto, numbered}
use Rattle.syntax.specs.Ast.{prog}
use Rattle.syntax.specs.Abstract.{ast}
use Rattle.lexer.specs.Lex.{Token, Scanned, found, stray, scan}
use Rattle.grammar.specs.Parse.{Res, parsed, ok, bad}
use Rattle.grammar.specs.Text.{KeepsGrammar}
use Rattle.grammar.proofs.Grammar.{accepts, kept, only-tree}
use Rattle.grammar.proofs.Lengths.{onto-append}
use Rattle.events.proofs.Widths.{onto-numbered}
use Rattle.text_rules.specs.Spelling.{spelled}
use Rattle.checker.specs.Check.{kinds, places, values}
use Rattle.checker.proofs.Analysing.{ends-in}
use Rattle.house_style.specs.Named.{Named, strip}
use Rattle.house_style.specs.House.{Piece, flat, laid, house}
use Rattle.house_style.specs.Read.{tree_of, read_tokens, read}
use Rattle.house_style.proofs.Lexing.{Apart, done, tokens_from, scanned, kinds_of, kinds-from, spelt, spell_of, value_in}
use Rattle.house_style.proofs.Leaves.{Leaves}
use Rattle.house_style.proofs.Separate.{IsName, Any, apart}
use Rattle.house_style.proofs.Tidy.{tidy, laid-kinds}
use Rattle.house_style.proofs.Like.{Like, Alike, Equal, same-tree}
use Rattle.house_style.proofs.Again.{reads}
use Rattle.house_style.proofs.Sources.{real, real-ended, real-name, Stand, stands, leaves}

-- ---- a text that can be read

pub record Readable (text : List ℕ) (n : Named prog) : Type 0 where
  pub tokens : List Token
  pub tree : Tree T.prog
  pub scans : scan 0 0 text ≡ found tokens
  pub grammar : KeepsGrammar (kinds tokens) tree
  pub is : tree_of text tokens tree ≡ n

pub readable : (text : List ℕ) (n : Named prog) → read text ≡ some n → Readable text n
unfolding read read_tokens
readable text n e = go (scan 0 0 text) refl e
  where
    with-tree : (ts : List Token) → scan 0 0 text ≡ found ts → (r : Res T.prog) → parsed (kinds ts) ≡ r → elim r [ bad m ↦ none | ok t m ↦ some (tree_of text ts t) ] ≡ some n → Readable text n
    with-tree ts s (bad m) p e = absurd (let z : ◌≡◌ {A = ℕ} 0 1 = cc in omega arith)
    with-tree ts s (ok t m) p e = record { tokens = ts; tree = t; scans = s; grammar = kept (kinds ts) (ends-in (real-ended (real text ts s))) p; is = cc }

    go : (s : Scanned) → scan 0 0 text ≡ s → elim s [ stray ts p ↦ none | found ts ↦ read_tokens text ts ] ≡ some n → Readable text n
    go (stray ts p) s e = absurd (let z : ◌≡◌ {A = ℕ} 0 1 = cc in omega arith)
    go (found ts) s e = with-tree ts s (parsed (kinds ts)) refl e

pub reads_as : (text : List ℕ) (n : Named prog) → Readable text n → read text ≡ some n
unfolding read read_tokens
reads_as text n r = rw (r.scans, read) (rw (accepts (kinds r.tokens) r.tree r.grammar.tokens, read_tokens) (ap (λ (t : Tree T.prog). some (tree_of text r.tokens t)) (sym r.grammar.numbers) ∙ ap some r.is))

-- ---- its house style

module _ (text : List ℕ) (n : Named prog) (r : Readable text n) where
  abbrev spell : ℕ → List ℕ
  spell = spelled text (places r.tokens) (values r.tokens)

  abbrev value : ℕ → ℕ
  value i = get_or (values r.tokens) i 0

  abbrev t : Tree T.prog
  t = r.tree

  abbrev ps : List Piece
  ps = laid 0 (strip spell value (ast t)) []

  -- the names of its tree are names
  pub good : Leaves IsName Any (strip spell value (ast t))
  good =
      let ks = kinds r.tokens in
      let l = (leaves ks spell value IsName Any (real-name (real text r.tokens r.scans)) (λ i e. tt) t 0 (k_end ∷ []) (subst (λ (l : List ℕ). Stand ks 0 l) r.grammar.tokens (stands ks))).0 in
      subst (λ (u : Tree T.prog). Leaves IsName Any (strip spell value (ast u))) (sym r.grammar.numbers) l

  pub pieces-apart : Apart ps
  pieces-apart = apart 0 (strip spell value (ast t)) good tt done

  pub new-scans : scan 0 0 (flat ps) ≡ found (tokens_from 0 ps)
  new-scans = scanned 0 pieces-apart

  -- its tokens are those of the tidy tree
  pub new-kinds : kinds (tokens_from 0 ps) ≡ onto (tidy t) (k_end ∷ [])
  unfolding kinds_of
  new-kinds = kinds-from 0 ps ∙ ap (λ (ks : List ℕ). ks ++ k_end ∷ []) (laid-kinds spell value t good 0 []) ∙ sym (onto-append (tidy t) [] (k_end ∷ []))

  pub new-grammar : KeepsGrammar (kinds (tokens_from 0 ps)) (numbered 0 (tidy t))
  new-grammar = record { tokens = new-kinds ∙ sym (onto-numbered 0 (tidy t) (k_end ∷ [])); numbers = only-tree (tidy t) (numbered 0 (tidy t)) (sym (onto-numbered 0 (tidy t) (k_end ∷ []))) }

  -- the tidy tree, with the numbers of these tokens, is like the tree of the text
  pub new-like : Like (Alike spell (spell_of ps)) (Alike spell (spell_of ps)) (Equal value (value_in ps)) prog (ast t) (ast (numbered 0 (tidy t)))
  new-like = (reads spell (spell_of ps) value (value_in ps) t good 0 0 [] (spelt ps)).0

  pub new-readable : Readable (flat ps) (strip spell value (ast t))
  new-readable = record {
    tokens = tokens_from 0 ps;
    tree = numbered 0 (tidy t);
    scans = new-scans;
    grammar = new-grammar;
    is = sym (same-tree spell (spell_of ps) value (value_in ps) new-like);
  }

-- THEOREM. "Reading its output by the grammar gives the same program tree (brackets not counted)": of any text that can be read, accepted or not, whatever the length of either.
pub reads-back : (text : List ℕ) (n : Named prog) → read text ≡ some n → read (house n) ≡ some n
unfolding house
reads-back text n e =
    let r = readable text n e in
    subst (λ (m : Named prog). read (flat (laid 0 m [])) ≡ some m) r.is (reads_as _ _ (new-readable text n r))

-- THEOREM. "two trees have the same output exactly if they are equal": trees of texts
pub same-output : (t u : List ℕ) (m n : Named prog) → read t ≡ some m → read u ≡ some n → (house m ≡ house n) ↔ (m ≡ n)
same-output t u m n e f = (λ h. let p = reads-back t m e in let q = reads-back u n f in let z : some m ≡ some n = sym p ∙ ap read h ∙ q in cc, λ h. ap house h)
