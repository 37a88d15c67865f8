-- The tokens of a tree, and how many they are.
use Prim.Native.Nat.{ℕ, ◌+◌, ◌<◌}
use mathlib.Core.Path.{◌≡◌, refl, ap, ◌∙◌}
use mathlib.Core.Bool.{true, false}
use mathlib.Core.List.{List, [], ◌∷◌, ◌++◌}
use native.Mathlib.Omega.{arith}
use lib.ListN.{length, length-append}
use Rattle.syntax.specs.Token.{k_name, k_open, k_close, k_comma, k_plus, k_minus, k_and, k_or, k_semi, k_assign, k_lbrace, k_rbrace, k_int, k_if, k_else, k_while, k_return}
use Rattle.syntax.specs.Tree.{Cat, Tree, mul_kind, onto, width}
use Rattle.syntax.specs.Tree.{operand, term, sum, atom, conj, stmt, params}
use Rattle.syntax.specs.Tree.{number, negative, name, call, bracket, no_args, some_args, first_arg, next_arg, factor, times, addend, plus, minus, cmp_mark, always, never, compare, one_atom, both, one_conj, either, empty, declare, declare_free, declare_own, assign, eval, block, if_else, while, return, fail, no_stmts, more_stmts, braced, no_params, some_params, first_param, next_param, function, no_funs, more_funs}

pub onto-append : {c : Cat} (t : Tree c) (r s : List ℕ) → onto t (r ++ s) ≡ onto t r ++ s
unfolding onto
onto-append (number i) r s = refl
onto-append (negative i) r s = refl
onto-append (name i) r s = refl
onto-append (call i a) r s = ap (λ (l : List ℕ). k_name ∷ k_open ∷ l) (onto-append a r s)
onto-append (bracket i e) r s = ap (λ (l : List ℕ). k_open ∷ l) (onto-append e (k_close ∷ r) s)
onto-append no_args r s = refl
onto-append (some_args l) r s = onto-append l (k_close ∷ r) s
onto-append (first_arg e) r s = onto-append e r s
onto-append (next_arg l e) r s = ap (λ (x : List ℕ). onto l (k_comma ∷ x)) (onto-append e r s) ∙ onto-append l (k_comma ∷ onto e r) s
onto-append (factor o) r s = onto-append o r s
onto-append (times m t o) r s = ap (λ (x : List ℕ). onto t (mul_kind m ∷ x)) (onto-append o r s) ∙ onto-append t (mul_kind m ∷ onto o r) s
onto-append (addend t) r s = onto-append t r s
onto-append (plus l t) r s = ap (λ (x : List ℕ). onto l (k_plus ∷ x)) (onto-append t r s) ∙ onto-append l (k_plus ∷ onto t r) s
onto-append (minus l t) r s = ap (λ (x : List ℕ). onto l (k_minus ∷ x)) (onto-append t r s) ∙ onto-append l (k_minus ∷ onto t r) s
onto-append (cmp_mark o) r s = refl
onto-append always r s = refl
onto-append never r s = refl
onto-append (compare a o b) r s = ap (λ (x : List ℕ). onto a (onto o x)) (onto-append b r s) ∙ ap (onto a) (onto-append o (onto b r) s) ∙ onto-append a (onto o (onto b r)) s
onto-append (one_atom a) r s = onto-append a r s
onto-append (both c a) r s = ap (λ (x : List ℕ). onto c (k_and ∷ x)) (onto-append a r s) ∙ onto-append c (k_and ∷ onto a r) s
onto-append (one_conj c) r s = onto-append c r s
onto-append (either b c) r s = ap (λ (x : List ℕ). onto b (k_or ∷ x)) (onto-append c r s) ∙ onto-append b (k_or ∷ onto c r) s
onto-append (empty i) r s = refl
onto-append (declare i) r s = refl
onto-append (declare_free i) r s = refl
onto-append (declare_own i true true) r s = refl
onto-append (declare_own i true false) r s = refl
onto-append (declare_own i false true) r s = refl
onto-append (declare_own i false false) r s = refl
onto-append (assign i e) r s = ap (λ (l : List ℕ). k_name ∷ k_assign ∷ l) (onto-append e (k_semi ∷ r) s)
onto-append (eval e) r s = onto-append e (k_semi ∷ r) s
onto-append (block i b) r s = ap (λ (l : List ℕ). k_lbrace ∷ l) (onto-append b r s)
onto-append (if_else i c a b) r s = ap (λ (l : List ℕ). k_if ∷ k_open ∷ l) (ap (λ (x : List ℕ). onto c (k_close ∷ onto a (k_else ∷ x))) (onto-append b r s) ∙ ap (λ (x : List ℕ). onto c (k_close ∷ x)) (onto-append a (k_else ∷ onto b r) s) ∙ onto-append c (k_close ∷ onto a (k_else ∷ onto b r)) s)
onto-append (while i c a) r s = ap (λ (l : List ℕ). k_while ∷ k_open ∷ l) (ap (λ (x : List ℕ). onto c (k_close ∷ x)) (onto-append a r s) ∙ onto-append c (k_close ∷ onto a r) s)
onto-append (return i e) r s = ap (λ (l : List ℕ). k_return ∷ l) (onto-append e (k_semi ∷ r) s)
onto-append (fail i) r s = refl
onto-append no_stmts r s = refl
onto-append (more_stmts l a) r s = ap (onto l) (onto-append a r s) ∙ onto-append l (onto a r) s
onto-append (braced l i) r s = onto-append l (k_rbrace ∷ r) s
onto-append no_params r s = refl
onto-append (some_params l) r s = onto-append l (k_close ∷ r) s
onto-append (first_param i) r s = refl
onto-append (next_param l i) r s = onto-append l (k_comma ∷ k_int ∷ k_name ∷ r) s
onto-append (function i p b) r s = ap (λ (l : List ℕ). k_int ∷ k_name ∷ k_open ∷ l) (ap (λ (x : List ℕ). onto p (k_lbrace ∷ x)) (onto-append b r s) ∙ onto-append p (k_lbrace ∷ onto b r) s)
onto-append no_funs r s = refl
onto-append (more_funs l f) r s = ap (onto l) (onto-append f r s) ∙ onto-append l (onto f r) s

pub onto-length : {c : Cat} (t : Tree c) (r : List ℕ) → length (onto t r) ≡ width t + length r
onto-length t r = ap length (onto-append t [] r) ∙ length-append (onto t []) r

-- some trees have at least one token
pub operand-longer : (t : Tree operand) → 0 < width t
unfolding onto
operand-longer (number i) = omega arith
operand-longer (negative i) = omega arith
operand-longer (name i) = omega arith
operand-longer (call i a) = omega arith
operand-longer (bracket i e) = omega arith

pub term-longer : (t : Tree term) → 0 < width t
unfolding onto
term-longer (factor o) = operand-longer o
term-longer (times m t o) = omega (arith, term-longer t, onto-length t (mul_kind m ∷ onto o []))

pub longer : (t : Tree sum) → 0 < width t
unfolding onto
longer (addend t) = term-longer t
longer (plus s t) = omega (arith, longer s, onto-length s (k_plus ∷ onto t []))
longer (minus s t) = omega (arith, longer s, onto-length s (k_minus ∷ onto t []))

pub atom-longer : (t : Tree atom) → 0 < width t
unfolding onto
atom-longer always = omega arith
atom-longer never = omega arith
atom-longer (compare a o b) = omega (arith, longer a, onto-length a (onto o (onto b [])))

pub conj-longer : (t : Tree conj) → 0 < width t
unfolding onto
conj-longer (one_atom a) = atom-longer a
conj-longer (both c a) = omega (arith, conj-longer c, onto-length c (k_and ∷ onto a []))

pub stmt-longer : (t : Tree stmt) → 0 < width t
unfolding onto
stmt-longer (empty i) = omega arith
stmt-longer (declare i) = omega arith
stmt-longer (declare_free i) = omega arith
stmt-longer (declare_own i a b) = omega arith
stmt-longer (assign i e) = omega arith
stmt-longer (eval e) = omega (arith, longer e, onto-length e (k_semi ∷ []))
stmt-longer (block i b) = omega arith
stmt-longer (if_else i c s t) = omega arith
stmt-longer (while i c s) = omega arith
stmt-longer (return i e) = omega arith
stmt-longer (fail i) = omega arith

pub params-longer : (t : Tree params) → 0 < width t
unfolding onto
params-longer no_params = omega arith
params-longer (some_params l) = omega (arith, onto-length l (k_close ∷ []))
