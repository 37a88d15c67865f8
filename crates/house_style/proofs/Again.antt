-- The tree of a text, and the tidy one with the numbers that its tokens have in house style, are alike.
use Prim.Native.Nat.{ℕ, suc, ◌+◌}
use mathlib.Core.Path.{◌≡◌, sym, ◌∙◌, subst}
use mathlib.Core.Bool.{Bool, true, false}
use mathlib.Core.List.{List, [], ◌∷◌}
use native.Mathlib.Omega.{arith}
use lib.Dec.{ltb}
use Rattle.syntax.specs.Token.{k_name, k_close, k_comma, k_plus, k_minus, k_and, k_or, k_semi, k_else, k_rbrace, k_lbrace, k_int}
use Rattle.syntax.specs.Tree as T
use Rattle.syntax.specs.Tree.{Cat, Tree, mul_kind, cmp_kind, onto, width, numbered}
use Rattle.house_style.proofs.Sources.{own-width}
use Rattle.syntax.specs.Ast as A
use Rattle.syntax.specs.Ast.{Ast, bit, low_number, high_number}
use Rattle.syntax.specs.Abstract.{ast, sort_of}
use Rattle.events.proofs.Widths.{onto-length}
use Rattle.printing.specs.Decimal.{natural}
use Rattle.house_style.specs.Named.{Named, strip}
use Rattle.house_style.specs.House.{Piece, word, the, blank, signed, within, laid}
use Rattle.house_style.proofs.Lexing.{Spells, Spelt}
use Rattle.house_style.proofs.Words.{natural-value}
use Rattle.house_style.proofs.Leaves.{Leaves}
use Rattle.house_style.proofs.Separate.{IsName, Any}
use Rattle.house_style.proofs.Tidy.{Rank, sums, terms, operands, ast_at, level, from_sum, from_term, from_operand, tidy, comma-args, comma-params}
use Rattle.house_style.proofs.Like.{Like, Alike, Equal}
use Rattle.house_style.proofs.Like as L

module _ (spell spell' : ℕ → List ℕ) (value value' : ℕ → ℕ) where
  abbrev bare : {c : Cat} → Tree c → Named (sort_of c)
  bare t = strip spell value (ast t)

  abbrev Sp : ℕ → List Piece → Type 0
  Sp p ps = Spelt spell' value' p ps

  -- a part that is like x has been read, and the tokens from q on spell what follows
  abbrev Took : (s : A.Sort) → Ast s → Ast s → ℕ → List Piece → Type 0
  Took s x y q ps = Like (Alike spell spell') (Alike spell spell') (Equal value value') s x y × Sp q ps

  move : {p q : ℕ} (ps : List Piece) → p ≡ q → Sp p ps → Sp q ps
  move ps e h = subst (λ (n : ℕ). Sp n ps) e h

  took : {s : A.Sort} {x y : Ast s} {p q : ℕ} (ps : List Piece) → p ≡ q → Took s x y p ps → Took s x y q ps
  took ps e h = (h.0, move ps e h.1)

  abbrev Reads : (c : Cat) → Tree c → Type 0
  Reads T.operand t = (r : Rank) (p : ℕ) (ps : List Piece) → Sp p (laid (level r) (bare t) ps) → Took A.expr (ast t) (ast_at r (numbered p (tidy t r))) (p + width (tidy t r)) ps
  Reads T.term t = (r : Rank) (p : ℕ) (ps : List Piece) → Sp p (laid (level r) (bare t) ps) → Took A.expr (ast t) (ast_at r (numbered p (tidy t r))) (p + width (tidy t r)) ps
  Reads T.sum t = (r : Rank) (p : ℕ) (ps : List Piece) → Sp p (laid (level r) (bare t) ps) → Took A.expr (ast t) (ast_at r (numbered p (tidy t r))) (p + width (tidy t r)) ps
  Reads T.args t = (n p : ℕ) (ps : List Piece) → Sp p (laid n (bare t) (the ")" ∷ ps)) → Took A.args (ast t) (ast (numbered p (tidy t))) (p + width (tidy t)) ps
  Reads T.arg_list t = (n p : ℕ) (ps : List Piece) → Sp p (laid n (bare t) ps) → Took A.args (ast t) (ast (numbered p (tidy t))) (p + width (tidy t)) ps
  Reads T.cmp t = (n p : ℕ) (ps : List Piece) → Sp p (laid n (bare t) ps) → Took A.mark (ast t) (ast (numbered p (tidy t))) (p + width (tidy t)) ps
  Reads T.atom t = (n p : ℕ) (ps : List Piece) → Sp p (laid n (bare t) ps) → Took A.cond (ast t) (ast (numbered p (tidy t))) (p + width (tidy t)) ps
  Reads T.conj t = (n p : ℕ) (ps : List Piece) → Sp p (laid n (bare t) ps) → Took A.cond (ast t) (ast (numbered p (tidy t))) (p + width (tidy t)) ps
  Reads T.cond t = (n p : ℕ) (ps : List Piece) → Sp p (laid n (bare t) ps) → Took A.cond (ast t) (ast (numbered p (tidy t))) (p + width (tidy t)) ps
  Reads T.stmt t = (n p : ℕ) (ps : List Piece) → Sp p (laid n (bare t) ps) → Took A.stmt (ast t) (ast (numbered p (tidy t))) (p + width (tidy t)) ps
  Reads T.stmts t = (n p : ℕ) (ps : List Piece) → Sp p (laid n (bare t) ps) → Took A.stmts (ast t) (ast (numbered p (tidy t))) (p + width (tidy t)) ps
  Reads T.body t = (n p : ℕ) (ps : List Piece) → Sp p (laid n (bare t) ps) → Took A.body (ast t) (ast (numbered (p + 1) (tidy t))) (p + 1 + width (tidy t)) ps
  Reads T.params t = (n p : ℕ) (ps : List Piece) → Sp p (laid n (bare t) (the ")" ∷ ps)) → Took A.params (ast t) (ast (numbered p (tidy t))) (p + width (tidy t)) ps
  Reads T.param_list t = (n p : ℕ) (ps : List Piece) → Sp p (laid n (bare t) ps) → Took A.params (ast t) (ast (numbered p (tidy t))) (p + width (tidy t)) ps
  Reads T.fun t = (n p : ℕ) (ps : List Piece) → Sp p (laid n (bare t) ps) → Took A.fun (ast t) (ast (numbered p (tidy t))) (p + width (tidy t)) ps
  Reads T.prog t = (n p : ℕ) (ps : List Piece) → Sp p (laid n (bare t) ps) → Took A.prog (ast t) (ast (numbered p (tidy t))) (p + width (tidy t)) ps

  -- ---- an expression at each place

  operand_at : (x : Ast A.expr) (o : Tree T.operand) (r : Rank) (p : ℕ) (ps : List Piece) → Took A.expr x (ast (numbered p o)) (p + width o) ps → Took A.expr x (ast_at r (numbered p (from_operand r o))) (p + width (from_operand r o)) ps
  unfolding ast numbered onto
  operand_at x o sums p ps h = h
  operand_at x o terms p ps h = h
  operand_at x o operands p ps h = h

  -- what f lays out is read as a sum or a term; then it is also read in brackets
  module _ (x : Ast A.expr) (f : List Piece → List Piece) where
    bracketed : (s : Tree T.sum) → ((p : ℕ) (qs : List Piece) → Sp p (f qs) → Took A.expr x (ast (numbered p s)) (p + width s) qs)
        → (p : ℕ) (ps : List Piece) → Sp p (the "(" ∷ f (the ")" ∷ ps)) → Took A.expr x (ast (numbered p (T.bracket 0 s))) (p + width (T.bracket 0 s)) ps
    unfolding ast numbered onto Spelt
    bracketed s g p ps h =
        let a = g (p + 1) (the ")" ∷ ps) h.1 in
        (L.right a.0, move ps (omega (arith, onto-length s (k_close ∷ []))) a.1.1)

    sum-at : (s : Tree T.sum) → ((p : ℕ) (qs : List Piece) → Sp p (f qs) → Took A.expr x (ast (numbered p s)) (p + width s) qs)
        → (r : Rank) (p : ℕ) (ps : List Piece) → Sp p (within (ltb 0 (level r)) f ps) → Took A.expr x (ast_at r (numbered p (from_sum r s))) (p + width (from_sum r s)) ps
    unfolding ast numbered onto within
    sum-at s g sums p ps h = g p ps h
    sum-at s g terms p ps h = bracketed s g p ps h
    sum-at s g operands p ps h = bracketed s g p ps h

    term-at : (t : Tree T.term) → ((p : ℕ) (qs : List Piece) → Sp p (f qs) → Took A.expr x (ast (numbered p t)) (p + width t) qs)
        → (r : Rank) (p : ℕ) (ps : List Piece) → Sp p (within (ltb 1 (level r)) f ps) → Took A.expr x (ast_at r (numbered p (from_term r t))) (p + width (from_term r t)) ps
    unfolding ast numbered onto within
    term-at t g sums p ps h = g p ps h
    term-at t g terms p ps h = g p ps h
    term-at t g operands p ps h = bracketed (T.addend t) g p ps h

  -- a name or a number at token p
  named : {i p : ℕ} → IsName (spell i) → Spells spell' value' p (spell i) → spell i ≡ spell' p
  named e h = sym (h.name e)

  valued : {v p : ℕ} → Spells spell' value' p (natural v) → v ≡ value' p
  valued {v} h = sym (h.number ∙ natural-value v)

  -- an end of a pair at token p, with its minus
  signed_reads : (a : Bool) (v p : ℕ) (ps : List Piece) → Sp p (signed a v ps) → (v ≡ value' (low_number p a)) × Sp (p + bit a + 1) ps
  unfolding Spelt
  signed_reads true v p ps s = (valued s.1.0, s.1.1)
  signed_reads false v p ps s = (subst (λ (q : ℕ). v ≡ value' q) (omega arith) (valued s.0), move ps (omega arith) s.1)

  pub reads : {c : Cat} (t : Tree c) → Leaves IsName Any (bare t) → Reads c t
  unfolding strip ast laid tidy onto numbered Leaves Spelt
  reads (T.number i) h = λ r p ps s. operand_at _ (T.number i) r p ps (L.number (valued s.0), s.1)
  reads (T.negative i) h = λ r p ps s. operand_at _ (T.negative i) r p ps (L.negative (valued s.1.0), move ps (omega arith) s.1.1)
  reads (T.name i) h = λ r p ps s. operand_at _ (T.name i) r p ps (L.name (named h s.0), s.1)
  reads (T.call i a) h = λ r p ps s.
      let x = reads a h.1 0 (p + 2) ps (move (laid 0 (bare a) (the ")" ∷ ps)) (omega arith) s.1.1) in
      operand_at _ (T.call i (tidy a)) r p ps (L.call (named h.0 s.0) x.0, move ps (omega arith) x.1)
  reads (T.bracket i e) h = λ r p ps s. let x = reads e h r p ps s in (L.left x.0, x.1)
  reads T.no_args h = λ n p ps s. (L.no_args, s.1)
  reads (T.some_args l) h = λ n p ps s.
      let x = reads l h n p (the ")" ∷ ps) s in
      (x.0, move ps (omega (arith, onto-length (tidy l) (k_close ∷ []))) x.1.1)
  reads (T.first_arg e) h = λ n p ps s. let x = reads e h.1 sums p ps s in (L.more_args L.no_args x.0, x.1)
  reads (T.next_arg l e) h = λ n p ps s.
      let x = reads l h.0 0 p (the "," ∷ blank ∷ laid 0 (bare e) ps) (subst (λ (qs : List Piece). Sp p (laid 0 (bare l) qs)) (comma-args spell value l (laid 0 (bare e) ps)) s) in
      let y = reads e h.1 sums (p + width (tidy l) + 1) ps x.1.1 in
      (L.more_args x.0 y.0, move ps (omega (arith, onto-length (tidy l) (k_comma ∷ onto (tidy e sums) []))) y.1)
  reads (T.factor o) h = reads o h
  reads (T.times m t o) h = term-at _ _ (T.times m (tidy t terms) (tidy o operands)) (λ p qs s.
      let x = reads t h.0 terms p _ s in
      let y = reads o h.1 operands (p + width (tidy t terms) + 1) qs x.1.1 in
      (L.times x.0 y.0, move qs (omega (arith, onto-length (tidy t terms) (mul_kind m ∷ onto (tidy o operands) []))) y.1))
  reads (T.addend t) h = reads t h
  reads (T.plus a b) h = sum-at _ _ (T.plus (tidy a sums) (tidy b terms)) (λ p qs s.
      let x = reads a h.0 sums p _ s in
      let y = reads b h.1 terms (p + width (tidy a sums) + 1) qs x.1.1 in
      (L.plus x.0 y.0, move qs (omega (arith, onto-length (tidy a sums) (k_plus ∷ onto (tidy b terms) []))) y.1))
  reads (T.minus a b) h = sum-at _ _ (T.minus (tidy a sums) (tidy b terms)) (λ p qs s.
      let x = reads a h.0 sums p _ s in
      let y = reads b h.1 terms (p + width (tidy a sums) + 1) qs x.1.1 in
      (L.minus x.0 y.0, move qs (omega (arith, onto-length (tidy a sums) (k_minus ∷ onto (tidy b terms) []))) y.1))
  reads (T.cmp_mark o) h = λ n p ps s. (L.cmp_mark, s.1)
  reads T.always h = λ n p ps s. (L.always, s.1)
  reads T.never h = λ n p ps s. (L.never, s.1)
  reads (T.compare a (T.cmp_mark o) b) h = λ n p ps s.
      let x = reads a h.0 sums p _ s in
      let y = reads b h.1 sums (p + width (tidy a sums) + 1) ps x.1.1 in
      (L.compare x.0 L.cmp_mark y.0, move ps (omega (arith, onto-length (tidy a sums) (cmp_kind o ∷ onto (tidy b sums) []))) y.1)
  reads (T.one_atom a) h = reads a h
  reads (T.both c a) h = λ n p ps s.
      let x = reads c h.0 0 p _ s in
      let y = reads a h.1 0 (p + width (tidy c) + 1) ps x.1.1 in
      (L.both x.0 y.0, move ps (omega (arith, onto-length (tidy c) (k_and ∷ onto (tidy a) []))) y.1)
  reads (T.one_conj c) h = reads c h
  reads (T.either b c) h = λ n p ps s.
      let x = reads b h.0 0 p _ s in
      let y = reads c h.1 0 (p + width (tidy b) + 1) ps x.1.1 in
      (L.either x.0 y.0, move ps (omega (arith, onto-length (tidy b) (k_or ∷ onto (tidy c) []))) y.1)
  reads (T.empty i) h = λ n p ps s. (L.empty, s.1)
  reads (T.declare i) h = λ n p ps s. (L.declare (named h s.1.0), move ps (omega arith) s.1.1.1)
  reads (T.declare_free i) h = λ n p ps s. (L.declare_free (named h s.1.0), move ps (omega arith) s.1.1.1.1)
  reads (T.declare_own i a b) h = λ n p ps s.
      let x = signed_reads a _ (p + 3) _ (move (signed a _ _) (omega arith) s.1.1.1) in
      let y = signed_reads b _ (p + 3 + bit a + 2) _ (move (signed b _ _) (omega arith) x.1.1) in
      (L.declare_own (named h.0 s.1.0) x.0 y.0, move ps (omega (arith, own-width p a b)) y.1.1)
  reads (T.assign i e) h = λ n p ps s.
      let x = reads e h.1 sums (p + 2) _ (move (laid 0 (bare e) _) (omega arith) s.1.1) in
      (L.assign (named h.0 s.0) x.0, move ps (omega (arith, onto-length (tidy e sums) (k_semi ∷ []))) x.1.1)
  reads (T.eval e) h = λ n p ps s.
      let x = reads e h sums p _ s in
      (L.eval x.0, move ps (omega (arith, onto-length (tidy e sums) (k_semi ∷ []))) x.1.1)
  reads (T.block i b) h = λ n p ps s. let x = reads b h n p ps s in (L.block x.0, move ps (omega arith) x.1)
  reads (T.if_else i c a b) h = λ n p ps s.
      let x = reads c h.0 0 (p + 2) _ (move (laid 0 (bare c) _) (omega arith) s.1.1) in
      let y = reads a h.1.0 (suc n) (p + 2 + width (tidy c) + 1) _ x.1.1 in
      let z = reads b h.1.1 (suc n) (p + 2 + width (tidy c) + 1 + width (tidy a) + 1) ps y.1.1 in
      (L.if_else x.0 y.0 z.0, move ps (omega (arith, onto-length (tidy c) (k_close ∷ onto (tidy a) (k_else ∷ onto (tidy b) [])), onto-length (tidy a) (k_else ∷ onto (tidy b) []))) z.1)
  reads (T.while i c a) h = λ n p ps s.
      let x = reads c h.0 0 (p + 2) _ (move (laid 0 (bare c) _) (omega arith) s.1.1) in
      let y = reads a h.1 (suc n) (p + 2 + width (tidy c) + 1) ps x.1.1 in
      (L.while x.0 y.0, move ps (omega (arith, onto-length (tidy c) (k_close ∷ onto (tidy a) []))) y.1)
  reads (T.return i e) h = λ n p ps s.
      let x = reads e h sums (p + 1) _ s.1 in
      (L.return x.0, move ps (omega (arith, onto-length (tidy e sums) (k_semi ∷ []))) x.1.1)
  reads (T.fail i) h = λ n p ps s. (L.fail, move ps (omega arith) s.1.1)
  reads T.no_stmts h = λ n p ps s. (L.no_stmts, move ps (omega arith) s)
  reads (T.more_stmts l a) h = λ n p ps s.
      let x = reads l h.0 n p _ s in
      let y = reads a h.1 n (p + width (tidy l)) ps x.1 in
      (L.more_stmts x.0 y.0, move ps (omega (arith, onto-length (tidy l) (onto (tidy a) []))) y.1)
  reads (T.braced l i) h = λ n p ps s.
      let x = reads l h (suc n) (p + 1) _ s.1 in
      (L.braced x.0, move ps (omega (arith, onto-length (tidy l) (k_rbrace ∷ []))) x.1.1)
  reads T.no_params h = λ n p ps s. (L.no_params, s.1)
  reads (T.some_params l) h = λ n p ps s.
      let x = reads l h n p (the ")" ∷ ps) s in
      (x.0, move ps (omega (arith, onto-length (tidy l) (k_close ∷ []))) x.1.1)
  reads (T.first_param i) h = λ n p ps s. (L.more_params L.no_params (named h.1 s.1.0), move ps (omega arith) s.1.1)
  reads (T.next_param l i) h = λ n p ps s.
      let x = reads l h.0 0 p (the "," ∷ blank ∷ the "int" ∷ blank ∷ word (spell i) ∷ ps) (subst (λ (qs : List Piece). Sp p (laid 0 (bare l) qs)) (comma-params spell value l _) s) in
      (L.more_params {j = p + width (tidy l) + 2} x.0 (subst (λ (q : ℕ). spell i ≡ spell' q) (omega arith) (named h.1 x.1.1.1.0)), move ps (omega (arith, onto-length (tidy l) (k_comma ∷ k_int ∷ k_name ∷ []))) x.1.1.1.1)
  reads (T.function i q b) h = λ n p ps s.
      let x = reads q h.1.0 0 (p + 3) _ (move (laid 0 (bare q) _) (omega arith) s.1.1.1) in
      let y = reads b h.1.1 0 (p + 3 + width (tidy q)) ps x.1 in
      (L.function (named h.0 s.1.0) x.0 y.0, move ps (omega (arith, onto-length (tidy q) (k_lbrace ∷ onto (tidy b) []))) y.1)
  reads T.no_funs h = λ n p ps s. (L.no_funs, move ps (omega arith) s)
  reads (T.more_funs l f) h = λ n p ps s.
      let x = reads l h.0 0 p _ s in
      let y = reads f h.1 0 (p + width (tidy l)) ps x.1 in
      (L.more_funs x.0 y.0, move ps (omega (arith, onto-length (tidy l) (onto (tidy f) []))) y.1)
