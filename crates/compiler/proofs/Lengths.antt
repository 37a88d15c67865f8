-- The code of a syntax tree is no longer than its text.
use Rattle.std.proofs.Common.{ℕ, ◌+◌, ◌≤◌, true, false, List, [], ◌∷◌, length, arith}
use Rattle.syntax.specs.Token.{k_minus, k_close, k_comma, k_plus, k_and, k_or, k_semi, k_lbrace, k_rbrace, k_else}
use Rattle.syntax.specs.Tree.{Cat, Tree, onto, width}
use Rattle.syntax.specs.Tree as T
use Rattle.syntax.specs.Abstract.{ast, sort_of}
use Rattle.events.proofs.Widths.{onto-length}
use Rattle.events.proofs.Tokens.{mark-width}
use Rattle.semantics.specs.Program.{Exprs, Stmts}
use Rattle.text_rules.specs.Resolve.{Part, part}
use Rattle.simulation.proofs.Size.{tokens_e, tokens_es, tokens_c, tokens_s, tokens_ss, tokens_bs, code-size}
use Rattle.simulation.specs.Code.{code_of}

-- ---- the resolved program has no more tokens

-- of arguments, statements and functions: with those that follow them
abbrev Short : (c : Cat) → Part (sort_of c) → ℕ → Type 0
Short T.operand e w = tokens_e e ≤ w
Short T.term e w = tokens_e e ≤ w
Short T.sum e w = tokens_e e ≤ w
Short T.args f w = (es : Exprs) → tokens_es (f es) ≤ w + tokens_es es
Short T.arg_list f w = (es : Exprs) → tokens_es (f es) ≤ w + 1 + tokens_es es
Short T.cmp o w = Unit {0}
Short T.atom c w = tokens_c c ≤ w
Short T.conj c w = tokens_c c ≤ w
Short T.cond c w = tokens_c c ≤ w
Short T.stmt s w = tokens_s s ≤ w
Short T.stmts f w = (ss : Stmts) → tokens_ss (f ss) ≤ w + tokens_ss ss
Short T.body b w = tokens_ss b + 1 ≤ w
Short T.params n w = 1 ≤ w
Short T.param_list n w = Unit {0}
Short T.fun b w = tokens_ss b + 6 ≤ w
Short T.prog f w = (bs : List Stmts) → tokens_bs (f bs) ≤ w + tokens_bs bs

module _ (value means : ℕ → ℕ) where
  pub short : {c : Cat} (t : Tree c) → Short c (part value means (ast t)) (width t)
  unfolding onto ast part tokens_e tokens_c tokens_s tokens_bs
  short (T.number i) = omega arith
  short (T.negative i) = omega arith
  short (T.name i) = omega arith
  short (T.call i a) = omega (arith, short a Exprs.none)
  short (T.bracket i e) = omega (arith, short e, onto-length e (k_close ∷ []))
  short T.no_args = λ es. omega arith
  short (T.some_args l) = λ es. omega (arith, short l es, onto-length l (k_close ∷ []))
  short (T.first_arg e) = λ es. omega (arith, short e)
  short (T.next_arg l e) = λ es. omega (arith, short l (Exprs.more (part value means (ast e)) es), short e, onto-length l (k_comma ∷ onto e []))
  short (T.factor o) = short o
  short (T.times m t o) = omega (arith, short t, short o, onto-length t (T.mul_kind m ∷ onto o []))
  short (T.addend t) = short t
  short (T.plus s t) = omega (arith, short s, short t, onto-length s (k_plus ∷ onto t []))
  short (T.minus s t) = omega (arith, short s, short t, onto-length s (k_minus ∷ onto t []))
  short (T.cmp_mark o) = tt
  short T.always = omega arith
  short T.never = omega arith
  short (T.compare a o b) = omega (arith, short a, short b, onto-length a (onto o (onto b [])), onto-length o (onto b []), mark-width o)
  short (T.one_atom a) = short a
  short (T.both c a) = omega (arith, short c, short a, onto-length c (k_and ∷ onto a []))
  short (T.one_conj c) = short c
  short (T.either b c) = omega (arith, short b, short c, onto-length b (k_or ∷ onto c []))
  short (T.empty i) = omega arith
  short (T.declare i) = omega arith
  short (T.declare_free i) = omega arith
  short (T.declare_own i true true) = omega arith
  short (T.declare_own i true false) = omega arith
  short (T.declare_own i false true) = omega arith
  short (T.declare_own i false false) = omega arith
  short (T.assign i e) = omega (arith, short e, onto-length e (k_semi ∷ []))
  short (T.eval e) = omega (arith, short e, onto-length e (k_semi ∷ []))
  short (T.block i b) = omega (arith, short b)
  short (T.if_else i c s t) = omega (arith, short c, short s, short t, onto-length c (k_close ∷ onto s (k_else ∷ onto t [])), onto-length s (k_else ∷ onto t []))
  short (T.while i c s) = omega (arith, short c, short s, onto-length c (k_close ∷ onto s []))
  short (T.return i e) = omega (arith, short e, onto-length e (k_semi ∷ []))
  short (T.fail i) = omega arith
  short T.no_stmts = λ ss. omega arith
  short (T.more_stmts l s) = λ ss. omega (arith, short l (Stmts.next (part value means (ast s)) ss), short s, onto-length l (onto s []))
  short (T.braced l i) = omega (arith, short l Stmts.end, onto-length l (k_rbrace ∷ []))
  short T.no_params = omega arith
  short (T.some_params l) = omega (arith, onto-length l (k_close ∷ []))
  short (T.first_param i) = tt
  short (T.next_param l i) = tt
  short (T.function i p b) = omega (arith, short p, short b, onto-length p (k_lbrace ∷ onto b []))
  short T.no_funs = λ bs. omega arith
  short (T.more_funs l f) = λ bs. omega (arith, short l (part value means (ast f) ∷ bs), short f, onto-length l (onto f []))

  -- so its code has no more entries than the text has tokens, and three
  pub code-short : (t : Tree T.prog) (g : ℕ) → length (code_of (record { bodies = part value means (ast t) []; main = g })).entries ≤ 3 + width t
  unfolding tokens_bs
  code-short t g = omega (arith, code-size (record { bodies = part value means (ast t) []; main = g }), short t [])
