-- THEOREM of slip 7 on brackets: "brackets only where the grammar needs them". No text of a tree has fewer tokens than its house style.
use Prim.Native.Nat.{ℕ, ◌+◌, ◌≤◌}
use mathlib.Core.Path.{◌≡◌, refl, sym, ap, ◌∙◌}
use mathlib.Core.List.{List, [], ◌∷◌}
use mathlib.Core.Option.{some}
use native.Mathlib.Omega.{arith}
use lib.ListN.{length, length-map}
use Rattle.syntax.specs.Token.{k_end, k_close, k_comma, k_plus, k_minus, k_and, k_or, k_semi, k_else, k_rbrace, k_lbrace, k_int, k_name}
use Rattle.syntax.specs.Tree as T
use Rattle.syntax.specs.Tree.{Cat, Tree, mul_kind, cmp_kind, onto, width}
use Rattle.syntax.specs.Ast.{prog}
use Rattle.lexer.specs.Lex.{Token, found, scan}
use Rattle.events.proofs.Widths.{onto-length}
use Rattle.house_style.specs.Named.{Named}
use Rattle.house_style.specs.House.{flat, laid, house}
use Rattle.house_style.specs.Read.{tree_of, read}
use Rattle.house_style.proofs.Lexing.{tokens_from}
use Rattle.house_style.proofs.Tidy.{Rank, sums, terms, operands, from_sum, from_term, from_operand, tidy}
use Rattle.house_style.proofs.Readback.{readable, new-kinds, new-scans}

-- the brackets that a product or a sum needs at a place
abbrev pub around_term : Rank → ℕ
around_term sums = 0
around_term terms = 0
around_term operands = 2

abbrev pub around_sum : Rank → ℕ
around_sum sums = 0
around_sum terms = 2
around_sum operands = 2

around-few : (r : Rank) → around_sum r ≤ 2
around-few sums = omega arith
around-few terms = omega arith
around-few operands = omega arith

around-less : (r : Rank) → around_term r ≤ around_sum r
around-less sums = omega arith
around-less terms = omega arith
around-less operands = omega arith

operand-width : (r : Rank) (o : Tree T.operand) → width (from_operand r o) ≡ width o
unfolding onto
operand-width sums o = refl
operand-width terms o = refl
operand-width operands o = refl

term-width : (r : Rank) (t : Tree T.term) → width (from_term r t) ≡ width t + around_term r
unfolding onto
term-width sums t = omega arith
term-width terms t = omega arith
term-width operands t = omega (arith, onto-length t (k_close ∷ []))

sum-width : (r : Rank) (s : Tree T.sum) → width (from_sum r s) ≡ width s + around_sum r
unfolding onto
sum-width sums s = omega arith
sum-width terms s = omega (arith, onto-length s (k_close ∷ []))
sum-width operands s = omega (arith, onto-length s (k_close ∷ []))

abbrev pub Shorter : (c : Cat) → Tree c → Type 0
Shorter T.operand t = (r : Rank) → width (tidy t r) ≤ width t
Shorter T.term t = (r : Rank) → width (tidy t r) ≤ width t + around_term r
Shorter T.sum t = (r : Rank) → width (tidy t r) ≤ width t + around_sum r
Shorter T.args t = width (tidy t) ≤ width t
Shorter T.arg_list t = width (tidy t) ≤ width t
Shorter T.cmp t = width (tidy t) ≤ width t
Shorter T.atom t = width (tidy t) ≤ width t
Shorter T.conj t = width (tidy t) ≤ width t
Shorter T.cond t = width (tidy t) ≤ width t
Shorter T.stmt t = width (tidy t) ≤ width t
Shorter T.stmts t = width (tidy t) ≤ width t
Shorter T.body t = width (tidy t) ≤ width t
Shorter T.params t = width (tidy t) ≤ width t
Shorter T.param_list t = width (tidy t) ≤ width t
Shorter T.fun t = width (tidy t) ≤ width t
Shorter T.prog t = width (tidy t) ≤ width t

-- how many tokens two parts have with one token between them, and one after the other
two-width : {c d : Cat} (a : Tree c) (b : Tree d) (k : ℕ) → length (onto a (k ∷ onto b [])) ≡ width a + 1 + width b
two-width a b k = omega (arith, onto-length a (k ∷ onto b []))

next-width : {c d : Cat} (a : Tree c) (b : Tree d) → length (onto a (onto b [])) ≡ width a + width b
next-width a b = omega (arith, onto-length a (onto b []))

one_width : {c : Cat} (a : Tree c) (k : ℕ) → length (onto a (k ∷ [])) ≡ width a + 1
one_width a k = omega (arith, onto-length a (k ∷ []))

pub shorter : {c : Cat} (t : Tree c) → Shorter c t
unfolding tidy onto
shorter (T.number i) = λ r. omega (arith, operand-width r (T.number i))
shorter (T.negative i) = λ r. omega (arith, operand-width r (T.negative i))
shorter (T.name i) = λ r. omega (arith, operand-width r (T.name i))
shorter (T.call i a) = λ r. omega (arith, operand-width r (T.call i (tidy a)), shorter a)
shorter (T.bracket i e) = λ r. omega (arith, shorter e r, around-few r, one_width e k_close)
shorter T.no_args = omega arith
shorter (T.some_args l) = omega (arith, shorter l, one_width l k_close, one_width (tidy l) k_close)
shorter (T.first_arg e) = omega (arith, shorter e sums)
shorter (T.next_arg l e) = omega (arith, shorter l, shorter e sums, two-width l e k_comma, two-width (tidy l) (tidy e sums) k_comma)
shorter (T.factor o) = λ r. omega (arith, shorter o r)
shorter (T.times m t o) = λ r. omega (arith, term-width r (T.times m (tidy t terms) (tidy o operands)), shorter t terms, shorter o operands, two-width t o (mul_kind m), two-width (tidy t terms) (tidy o operands) (mul_kind m))
shorter (T.addend t) = λ r. omega (arith, shorter t r, around-less r)
shorter (T.plus s t) = λ r. omega (arith, sum-width r (T.plus (tidy s sums) (tidy t terms)), shorter s sums, shorter t terms, two-width s t k_plus, two-width (tidy s sums) (tidy t terms) k_plus)
shorter (T.minus s t) = λ r. omega (arith, sum-width r (T.minus (tidy s sums) (tidy t terms)), shorter s sums, shorter t terms, two-width s t k_minus, two-width (tidy s sums) (tidy t terms) k_minus)
shorter (T.cmp_mark o) = omega arith
shorter T.always = omega arith
shorter T.never = omega arith
shorter (T.compare a (T.cmp_mark o) b) = omega (arith, shorter a sums, shorter b sums, two-width a b (cmp_kind o), two-width (tidy a sums) (tidy b sums) (cmp_kind o))
shorter (T.one_atom a) = shorter a
shorter (T.both c a) = omega (arith, shorter c, shorter a, two-width c a k_and, two-width (tidy c) (tidy a) k_and)
shorter (T.one_conj c) = shorter c
shorter (T.either b c) = omega (arith, shorter b, shorter c, two-width b c k_or, two-width (tidy b) (tidy c) k_or)
shorter (T.empty i) = omega arith
shorter (T.declare i) = omega arith
shorter (T.declare_free i) = omega arith
shorter (T.declare_own i a b) = omega arith
shorter (T.assign i e) = omega (arith, shorter e sums, one_width e k_semi, one_width (tidy e sums) k_semi)
shorter (T.eval e) = omega (arith, shorter e sums, one_width e k_semi, one_width (tidy e sums) k_semi)
shorter (T.block i b) = omega (arith, shorter b)
shorter (T.if_else i c s t) = omega (arith, shorter c, shorter s, shorter t, onto-length c (k_close ∷ onto s (k_else ∷ onto t [])), two-width s t k_else, onto-length (tidy c) (k_close ∷ onto (tidy s) (k_else ∷ onto (tidy t) [])), two-width (tidy s) (tidy t) k_else)
shorter (T.while i c s) = omega (arith, shorter c, shorter s, two-width c s k_close, two-width (tidy c) (tidy s) k_close)
shorter (T.return i e) = omega (arith, shorter e sums, one_width e k_semi, one_width (tidy e sums) k_semi)
shorter (T.fail i) = omega arith
shorter T.no_stmts = omega arith
shorter (T.more_stmts l s) = omega (arith, shorter l, shorter s, next-width l s, next-width (tidy l) (tidy s))
shorter (T.braced l i) = omega (arith, shorter l, one_width l k_rbrace, one_width (tidy l) k_rbrace)
shorter T.no_params = omega arith
shorter (T.some_params l) = omega (arith, shorter l, one_width l k_close, one_width (tidy l) k_close)
shorter (T.first_param i) = omega arith
shorter (T.next_param l i) = omega (arith, shorter l, onto-length l (k_comma ∷ k_int ∷ k_name ∷ []), onto-length (tidy l) (k_comma ∷ k_int ∷ k_name ∷ []))
shorter (T.function i p b) = omega (arith, shorter p, shorter b, two-width p b k_lbrace, two-width (tidy p) (tidy b) k_lbrace)
shorter T.no_funs = omega arith
shorter (T.more_funs l f) = omega (arith, shorter l, shorter f, next-width l f, next-width (tidy l) (tidy f))

-- THEOREM. "brackets only where the grammar needs them": of all texts u of one tree, none has fewer tokens than the house style.
pub fewest : (u : List ℕ) (n : Named prog) → read u ≡ some n → (ts us : List Token) → scan 0 0 (house n) ≡ found ts → scan 0 0 u ≡ found us → length ts ≤ length us
unfolding house
fewest u n e ts us f g =
    let r = readable u n e in
    let a : found us ≡ found r.tokens = sym g ∙ r.scans in
    let b : us ≡ r.tokens = cc in
    let new = tokens_from 0 (laid 0 (tree_of u r.tokens r.tree) []) in
    let c : found ts ≡ found new = sym f ∙ ap (λ (m : Named prog). scan 0 0 (flat (laid 0 m []))) (sym r.is) ∙ new-scans u n r in
    let d : ts ≡ new = cc in
    let x : length ts ≡ width (tidy r.tree) + 1 = ap length d ∙ sym (length-map new (λ t. t.kind)) ∙ ap length (new-kinds u n r) ∙ onto-length (tidy r.tree) (k_end ∷ []) in
    let y : length us ≡ width r.tree + 1 = ap length b ∙ sym (length-map r.tokens (λ t. t.kind)) ∙ ap length r.grammar.tokens ∙ onto-length r.tree (k_end ∷ []) in
    omega (arith, x, y, shorter r.tree)
