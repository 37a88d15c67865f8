-- The syntax tree of a text in house style: that of the text it was made from, with brackets only where a sum or a product needs them. Its tokens are the words laid out.
use Prim.Native.Nat.{ℕ, suc, ◌+◌}
use mathlib.Core.Path.{◌≡◌, refl, ap, ap₂, ◌∙◌}
use mathlib.Core.Bool.{Bool, true, false}
use mathlib.Core.List.{List, ◌∷◌}
use lib.Dec.{ltb}
use Rattle.syntax.specs.Token.{k_close, k_comma, k_open, k_lbrace, k_minus, k_plus, k_and, k_or, k_semi, k_else, k_int, k_free, k_if, k_while, k_return, k_assign, k_dot_dot}
use Rattle.syntax.specs.Tree as T
use Rattle.syntax.specs.Tree.{Cat, Tree, Mul, product, mul_kind, Cmp, less, less_eq, greater, greater_eq, equal, unequal, cmp_kind, end_onto, onto}
use Rattle.syntax.specs.Ast as A
use Rattle.syntax.specs.Ast.{Ast}
use Rattle.syntax.specs.Abstract.{ast, sort_of}
use Rattle.lexer.specs.Lex.{all, same, kind_in, kind_of, bytes}
use Rattle.house_style.specs.Named.{Named, strip}
use Rattle.house_style.specs.House.{Piece, the, blank, newline, mul_sign, cmp_sign, round, after_args, after_params, signed, within, laid}
use Rattle.house_style.proofs.Lexing.{kinds_of}
use Rattle.house_style.proofs.Words.{natural-kind}
use Rattle.house_style.proofs.Leaves.{Leaves}
use Rattle.house_style.proofs.Separate.{IsName, Any}

-- what the grammar has at the place of an expression
pub data Rank : Type 0 where
  sums terms operands : Rank

abbrev pub cat_of : Rank → Cat
cat_of sums = T.sum
cat_of terms = T.term
cat_of operands = T.operand

-- the abstract tree of an expression at a place
abbrev pub ast_at : (r : Rank) → Tree (cat_of r) → Ast A.expr
ast_at sums t = ast t
ast_at terms t = ast t
ast_at operands t = ast t

-- its number, as the house style has it
abbrev pub level : Rank → ℕ
level sums = 0
level terms = 1
level operands = 2

-- a sum, a term or an operand at a place
abbrev pub from_sum : (r : Rank) → Tree T.sum → Tree (cat_of r)
from_sum sums s = s
from_sum terms s = T.factor (T.bracket 0 s)
from_sum operands s = T.bracket 0 s

abbrev pub from_term : (r : Rank) → Tree T.term → Tree (cat_of r)
from_term sums t = T.addend t
from_term terms t = t
from_term operands t = T.bracket 0 (T.addend t)

abbrev pub from_operand : (r : Rank) → Tree T.operand → Tree (cat_of r)
from_operand sums o = T.addend (T.factor o)
from_operand terms o = T.factor o
from_operand operands o = o

-- what a part becomes: an expression, a tree for each place
abbrev pub Tidied : Cat → Type 0
Tidied T.operand = (r : Rank) → Tree (cat_of r)
Tidied T.term = (r : Rank) → Tree (cat_of r)
Tidied T.sum = (r : Rank) → Tree (cat_of r)
Tidied T.args = Tree T.args
Tidied T.arg_list = Tree T.arg_list
Tidied T.cmp = Tree T.cmp
Tidied T.atom = Tree T.atom
Tidied T.conj = Tree T.conj
Tidied T.cond = Tree T.cond
Tidied T.stmt = Tree T.stmt
Tidied T.stmts = Tree T.stmts
Tidied T.body = Tree T.body
Tidied T.params = Tree T.params
Tidied T.param_list = Tree T.param_list
Tidied T.fun = Tree T.fun
Tidied T.prog = Tree T.prog

unfoldable pub tidy : {c : Cat} → Tree c → Tidied c
tidy (T.number i) = λ r. from_operand r (T.number i)
tidy (T.negative i) = λ r. from_operand r (T.negative i)
tidy (T.name i) = λ r. from_operand r (T.name i)
tidy (T.call i a) = λ r. from_operand r (T.call i (tidy a))
tidy (T.bracket i e) = tidy e
tidy T.no_args = T.no_args
tidy (T.some_args l) = T.some_args (tidy l)
tidy (T.first_arg e) = T.first_arg (tidy e sums)
tidy (T.next_arg l e) = T.next_arg (tidy l) (tidy e sums)
tidy (T.factor o) = tidy o
tidy (T.times m t o) = λ r. from_term r (T.times m (tidy t terms) (tidy o operands))
tidy (T.addend t) = tidy t
tidy (T.plus s t) = λ r. from_sum r (T.plus (tidy s sums) (tidy t terms))
tidy (T.minus s t) = λ r. from_sum r (T.minus (tidy s sums) (tidy t terms))
tidy (T.cmp_mark o) = T.cmp_mark o
tidy T.always = T.always
tidy T.never = T.never
tidy (T.compare a o b) = T.compare (tidy a sums) (tidy o) (tidy b sums)
tidy (T.one_atom a) = T.one_atom (tidy a)
tidy (T.both c a) = T.both (tidy c) (tidy a)
tidy (T.one_conj c) = T.one_conj (tidy c)
tidy (T.either b c) = T.either (tidy b) (tidy c)
tidy (T.empty i) = T.empty i
tidy (T.declare i) = T.declare i
tidy (T.declare_free i) = T.declare_free i
tidy (T.declare_own i a b) = T.declare_own i a b
tidy (T.assign i e) = T.assign i (tidy e sums)
tidy (T.eval e) = T.eval (tidy e sums)
tidy (T.block i b) = T.block i (tidy b)
tidy (T.if_else i c s t) = T.if_else i (tidy c) (tidy s) (tidy t)
tidy (T.while i c s) = T.while i (tidy c) (tidy s)
tidy (T.return i e) = T.return i (tidy e sums)
tidy (T.fail i) = T.fail i
tidy T.no_stmts = T.no_stmts
tidy (T.more_stmts l s) = T.more_stmts (tidy l) (tidy s)
tidy (T.braced l i) = T.braced (tidy l) i
tidy T.no_params = T.no_params
tidy (T.some_params l) = T.some_params (tidy l)
tidy (T.first_param i) = T.first_param i
tidy (T.next_param l i) = T.next_param (tidy l) i
tidy (T.function i p b) = T.function i (tidy p) (tidy b)
tidy T.no_funs = T.no_funs
tidy (T.more_funs l f) = T.more_funs (tidy l) (tidy f)

-- ---- its tokens

mul-kind : (m : Mul) → kind_of (bytes (mul_sign m)) ≡ mul_kind m
unfolding kind_of kind_in same
mul-kind product = refl

cmp-kind : (o : Cmp) → kind_of (bytes (cmp_sign o)) ≡ cmp_kind o
unfolding kind_of kind_in same
cmp-kind less = refl
cmp-kind less_eq = refl
cmp-kind greater = refl
cmp-kind greater_eq = refl
cmp-kind equal = refl
cmp-kind unequal = refl

-- an operator of two sides, followed by ps
round-mul : (m : Mul) (ps : List Piece) → kinds_of (round (mul_sign m) ps) ≡ mul_kind m ∷ kinds_of ps
unfolding kinds_of
round-mul m ps = ap (◌∷ kinds_of ps) (mul-kind m)

round-cmp : (o : Cmp) (ps : List Piece) → kinds_of (round (cmp_sign o) ps) ≡ cmp_kind o ∷ kinds_of ps
unfolding kinds_of
round-cmp o ps = ap (◌∷ kinds_of ps) (cmp-kind o)

headed : {a b : ℕ} (ks : List ℕ) → a ≡ b → a ∷ ks ≡ b ∷ ks
headed ks e = ap (◌∷ ks) e

-- an end of a pair, followed by ps
signed-kinds : (a : Bool) (v : ℕ) (ps : List Piece) {ks : List ℕ} → kinds_of ps ≡ ks → kinds_of (signed a v ps) ≡ end_onto a ks
unfolding kinds_of kind_of kind_in same
signed-kinds true v ps e = ap (k_minus ∷◌) (ap₂ ◌∷◌ (natural-kind v) e)
signed-kinds false v ps e = ap₂ ◌∷◌ (natural-kind v) e

module _ (spell : ℕ → List ℕ) (value : ℕ → ℕ) where
  abbrev bare : {c : Cat} → Tree c → Named (sort_of c)
  bare t = strip spell value (ast t)

  -- an expression at every place; arguments, parameters and bodies with what closes or opens them
  abbrev Laid : (c : Cat) → Tree c → Type 0
  Laid T.operand t = (r : Rank) (ps : List Piece) → kinds_of (laid (level r) (bare t) ps) ≡ onto (tidy t r) (kinds_of ps)
  Laid T.term t = (r : Rank) (ps : List Piece) → kinds_of (laid (level r) (bare t) ps) ≡ onto (tidy t r) (kinds_of ps)
  Laid T.sum t = (r : Rank) (ps : List Piece) → kinds_of (laid (level r) (bare t) ps) ≡ onto (tidy t r) (kinds_of ps)
  Laid T.args t = (n : ℕ) (ps : List Piece) → kinds_of (laid n (bare t) (the ")" ∷ ps)) ≡ onto (tidy t) (kinds_of ps)
  Laid T.arg_list t = (n : ℕ) (ps : List Piece) → kinds_of (laid n (bare t) ps) ≡ onto (tidy t) (kinds_of ps)
  Laid T.cmp t = (n : ℕ) (ps : List Piece) → kinds_of (laid n (bare t) ps) ≡ onto (tidy t) (kinds_of ps)
  Laid T.atom t = (n : ℕ) (ps : List Piece) → kinds_of (laid n (bare t) ps) ≡ onto (tidy t) (kinds_of ps)
  Laid T.conj t = (n : ℕ) (ps : List Piece) → kinds_of (laid n (bare t) ps) ≡ onto (tidy t) (kinds_of ps)
  Laid T.cond t = (n : ℕ) (ps : List Piece) → kinds_of (laid n (bare t) ps) ≡ onto (tidy t) (kinds_of ps)
  Laid T.stmt t = (n : ℕ) (ps : List Piece) → kinds_of (laid n (bare t) ps) ≡ onto (tidy t) (kinds_of ps)
  Laid T.stmts t = (n : ℕ) (ps : List Piece) → kinds_of (laid n (bare t) ps) ≡ onto (tidy t) (kinds_of ps)
  Laid T.body t = (n : ℕ) (ps : List Piece) → kinds_of (laid n (bare t) ps) ≡ k_lbrace ∷ onto (tidy t) (kinds_of ps)
  Laid T.params t = (n : ℕ) (ps : List Piece) → kinds_of (laid n (bare t) (the ")" ∷ ps)) ≡ onto (tidy t) (kinds_of ps)
  Laid T.param_list t = (n : ℕ) (ps : List Piece) → kinds_of (laid n (bare t) ps) ≡ onto (tidy t) (kinds_of ps)
  Laid T.fun t = (n : ℕ) (ps : List Piece) → kinds_of (laid n (bare t) ps) ≡ onto (tidy t) (kinds_of ps)
  Laid T.prog t = (n : ℕ) (ps : List Piece) → kinds_of (laid n (bare t) ps) ≡ onto (tidy t) (kinds_of ps)

  -- an operand, a product and a sum at each place
  operand_at : (r : Rank) (o : Tree T.operand) (ks : List ℕ) → onto o ks ≡ onto (from_operand r o) ks
  unfolding onto
  operand_at sums o ks = refl
  operand_at terms o ks = refl
  operand_at operands o ks = refl

  -- what f lays out has the tokens of a sum or a product; in brackets it has these too
  module _ (f : List Piece → List Piece) where
    sum-at : (r : Rank) (s : Tree T.sum) (ps : List Piece) → ((qs : List Piece) → kinds_of (f qs) ≡ onto s (kinds_of qs)) → kinds_of (within (ltb 0 (level r)) f ps) ≡ onto (from_sum r s) (kinds_of ps)
    unfolding onto within kinds_of kind_of kind_in same
    sum-at sums s ps h = h ps
    sum-at terms s ps h = ap (k_open ∷◌) (h (the ")" ∷ ps))
    sum-at operands s ps h = ap (k_open ∷◌) (h (the ")" ∷ ps))

    term-at : (r : Rank) (t : Tree T.term) (ps : List Piece) → ((qs : List Piece) → kinds_of (f qs) ≡ onto t (kinds_of qs)) → kinds_of (within (ltb 1 (level r)) f ps) ≡ onto (from_term r t) (kinds_of ps)
    unfolding onto within kinds_of kind_of kind_in same
    term-at sums t ps h = h ps
    term-at terms t ps h = h ps
    term-at operands t ps h = ap (k_open ∷◌) (h (the ")" ∷ ps))

  pub comma-args : (l : Tree T.arg_list) (ps : List Piece) → after_args (bare l) ps ≡ the "," ∷ blank ∷ ps
  unfolding strip ast
  comma-args (T.first_arg e) ps = refl
  comma-args (T.next_arg l e) ps = refl

  pub comma-params : (l : Tree T.param_list) (ps : List Piece) → after_params (bare l) ps ≡ the "," ∷ blank ∷ ps
  unfolding strip ast
  comma-params (T.first_param i) ps = refl
  comma-params (T.next_param l i) ps = refl

  pub laid-kinds : {c : Cat} (t : Tree c) → Leaves IsName Any (bare t) → Laid c t
  unfolding strip ast laid tidy onto Leaves kinds_of kind_of kind_in same all
  laid-kinds (T.number i) h = λ r ps. headed (kinds_of ps) (natural-kind (value i)) ∙ operand_at r (T.number i) (kinds_of ps)
  laid-kinds (T.negative i) h = λ r ps. ap (k_minus ∷◌) (headed (kinds_of ps) (natural-kind (value (i + 1)))) ∙ operand_at r (T.negative i) (kinds_of ps)
  laid-kinds (T.name i) h = λ r ps. headed (kinds_of ps) h ∙ operand_at r (T.name i) (kinds_of ps)
  laid-kinds (T.call i a) h = λ r ps. ap₂ ◌∷◌ h.0 (ap (k_open ∷◌) (laid-kinds a h.1 0 ps)) ∙ operand_at r (T.call i (tidy a)) (kinds_of ps)
  laid-kinds (T.bracket i e) h = laid-kinds e h
  laid-kinds T.no_args h = λ n ps. refl
  laid-kinds (T.some_args l) h = λ n ps. laid-kinds l h n (the ")" ∷ ps)
  laid-kinds (T.first_arg e) h = λ n ps. laid-kinds e h.1 sums ps
  laid-kinds (T.next_arg l e) h = λ n ps. ap (λ (qs : List Piece). kinds_of (laid 0 (bare l) qs)) (comma-args l (laid 0 (bare e) ps)) ∙ laid-kinds l h.0 0 _ ∙ ap (λ (ks : List ℕ). onto (tidy l) (k_comma ∷ ks)) (laid-kinds e h.1 sums ps)
  laid-kinds (T.factor o) h = laid-kinds o h
  laid-kinds (T.times m t o) h = λ r ps. term-at _ r (T.times m (tidy t terms) (tidy o operands)) ps
      (λ qs. laid-kinds t h.0 terms _ ∙ ap (onto (tidy t terms)) (round-mul m (laid 2 (bare o) qs) ∙ ap (mul_kind m ∷◌) (laid-kinds o h.1 operands qs)))
  laid-kinds (T.addend t) h = laid-kinds t h
  laid-kinds (T.plus s t) h = λ r ps. sum-at _ r (T.plus (tidy s sums) (tidy t terms)) ps (λ qs. laid-kinds s h.0 sums _ ∙ ap (λ (ks : List ℕ). onto (tidy s sums) (k_plus ∷ ks)) (laid-kinds t h.1 terms qs))
  laid-kinds (T.minus s t) h = λ r ps. sum-at _ r (T.minus (tidy s sums) (tidy t terms)) ps (λ qs. laid-kinds s h.0 sums _ ∙ ap (λ (ks : List ℕ). onto (tidy s sums) (k_minus ∷ ks)) (laid-kinds t h.1 terms qs))
  laid-kinds (T.cmp_mark o) h = λ n ps. round-cmp o ps
  laid-kinds T.always h = λ n ps. refl
  laid-kinds T.never h = λ n ps. refl
  laid-kinds (T.compare a (T.cmp_mark o) b) h = λ n ps. laid-kinds a h.0 sums _ ∙ ap (onto (tidy a sums)) (round-cmp o (laid 0 (bare b) ps) ∙ ap (cmp_kind o ∷◌) (laid-kinds b h.1 sums ps))
  laid-kinds (T.one_atom a) h = laid-kinds a h
  laid-kinds (T.both c a) h = λ n ps. laid-kinds c h.0 0 _ ∙ ap (λ (ks : List ℕ). onto (tidy c) (k_and ∷ ks)) (laid-kinds a h.1 0 ps)
  laid-kinds (T.one_conj c) h = laid-kinds c h
  laid-kinds (T.either b c) h = λ n ps. laid-kinds b h.0 0 _ ∙ ap (λ (ks : List ℕ). onto (tidy b) (k_or ∷ ks)) (laid-kinds c h.1 0 ps)
  laid-kinds (T.empty i) h = λ n ps. refl
  laid-kinds (T.declare i) h = λ n ps. ap (k_int ∷◌) (headed (k_semi ∷ kinds_of ps) h)
  laid-kinds (T.declare_free i) h = λ n ps. ap (k_int ∷◌) (headed (k_free ∷ k_semi ∷ kinds_of ps) h)
  laid-kinds (T.declare_own i a b) h = λ n ps. ap (k_int ∷◌) (ap₂ ◌∷◌ h.0 (ap (k_free ∷◌) (signed-kinds a _ _ (ap (k_dot_dot ∷◌) (signed-kinds b _ (the ";" ∷ newline ∷ ps) refl)))))
  laid-kinds (T.assign i e) h = λ n ps. ap₂ ◌∷◌ h.0 (ap (k_assign ∷◌) (laid-kinds e h.1 sums (the ";" ∷ newline ∷ ps)))
  laid-kinds (T.eval e) h = λ n ps. laid-kinds e h sums _
  laid-kinds (T.block i b) h = λ n ps. laid-kinds b h n ps
  laid-kinds (T.if_else i c s t) h = λ n ps. ap (λ (ks : List ℕ). k_if ∷ k_open ∷ ks) (laid-kinds c h.0 0 _ ∙ ap (λ (ks : List ℕ). onto (tidy c) (k_close ∷ ks)) (laid-kinds s h.1.0 (suc n) _ ∙ ap (λ (ks : List ℕ). onto (tidy s) (k_else ∷ ks)) (laid-kinds t h.1.1 (suc n) ps)))
  laid-kinds (T.while i c s) h = λ n ps. ap (λ (ks : List ℕ). k_while ∷ k_open ∷ ks) (laid-kinds c h.0 0 _ ∙ ap (λ (ks : List ℕ). onto (tidy c) (k_close ∷ ks)) (laid-kinds s h.1 (suc n) ps))
  laid-kinds (T.return i e) h = λ n ps. ap (k_return ∷◌) (laid-kinds e h sums _)
  laid-kinds (T.fail i) h = λ n ps. refl
  laid-kinds T.no_stmts h = λ n ps. refl
  laid-kinds (T.more_stmts l s) h = λ n ps. laid-kinds l h.0 n _ ∙ ap (onto (tidy l)) (laid-kinds s h.1 n ps)
  laid-kinds (T.braced l i) h = λ n ps. ap (k_lbrace ∷◌) (laid-kinds l h (suc n) _)
  laid-kinds T.no_params h = λ n ps. refl
  laid-kinds (T.some_params l) h = λ n ps. laid-kinds l h n (the ")" ∷ ps)
  laid-kinds (T.first_param i) h = λ n ps. ap (k_int ∷◌) (headed (kinds_of ps) h.1)
  laid-kinds (T.next_param l i) h = λ n ps. ap (λ (qs : List Piece). kinds_of (laid 0 (bare l) qs)) (comma-params l _) ∙ laid-kinds l h.0 0 _ ∙ ap (λ (ks : List ℕ). onto (tidy l) (k_comma ∷ k_int ∷ ks)) (headed (kinds_of ps) h.1)
  laid-kinds (T.function i p b) h = λ n ps. ap (k_int ∷◌) (ap₂ ◌∷◌ h.0 (ap (k_open ∷◌) (laid-kinds p h.1.0 0 (newline ∷ laid 0 (bare b) ps) ∙ ap (onto (tidy p)) (laid-kinds b h.1.1 0 ps))))
  laid-kinds T.no_funs h = λ n ps. refl
  laid-kinds (T.more_funs l f) h = λ n ps. laid-kinds l h.0 0 _ ∙ ap (onto (tidy l)) (laid-kinds f h.1 0 ps)
