-- The tokens of a concrete tree, counted.
use Prim.Native.Nat.{ℕ, ◌+◌}
use mathlib.Core.Path.{◌≡◌, refl, ap, ◌∙◌}
use mathlib.Core.Bool.{true, false}
use mathlib.Core.List.{List, [], ◌∷◌}
use native.Mathlib.Omega.{arith}
use lib.ListN.{length}
use Rattle.syntax.specs.Token.{k_minus, k_name, k_open, k_close, k_comma, k_plus, k_and, k_or, k_semi, k_int, k_assign, k_lbrace, k_rbrace, k_if, k_else, k_while, k_return}
use Rattle.syntax.specs.Tree.{Cat, Tree, onto, width, numbered}
use Rattle.syntax.specs.Tree as T

-- what follows a tree only adds to its length
pub onto-length : {c : Cat} (t : Tree c) (ks : List ℕ) → length (onto t ks) ≡ width t + length ks
unfolding onto
onto-length (T.number i) ks = omega arith
onto-length (T.negative i) ks = omega arith
onto-length (T.name i) ks = omega arith
onto-length (T.call i a) ks = omega (arith, onto-length a ks, onto-length a [])
onto-length (T.bracket i e) ks = omega (arith, onto-length e (k_close ∷ ks), onto-length e (k_close ∷ []))
onto-length T.no_args ks = omega arith
onto-length (T.some_args l) ks = omega (arith, onto-length l (k_close ∷ ks), onto-length l (k_close ∷ []))
onto-length (T.first_arg e) ks = omega (arith, onto-length e ks, onto-length e [])
onto-length (T.next_arg l e) ks = omega (arith, onto-length l (k_comma ∷ onto e ks), onto-length e ks, onto-length l (k_comma ∷ onto e []), onto-length e [])
onto-length (T.factor o) ks = omega (arith, onto-length o ks, onto-length o [])
onto-length (T.times m t o) ks = omega (arith, onto-length t (T.mul_kind m ∷ onto o ks), onto-length o ks, onto-length t (T.mul_kind m ∷ onto o []), onto-length o [])
onto-length (T.addend t) ks = omega (arith, onto-length t ks, onto-length t [])
onto-length (T.plus s t) ks = omega (arith, onto-length s (k_plus ∷ onto t ks), onto-length t ks, onto-length s (k_plus ∷ onto t []), onto-length t [])
onto-length (T.minus s t) ks = omega (arith, onto-length s (k_minus ∷ onto t ks), onto-length t ks, onto-length s (k_minus ∷ onto t []), onto-length t [])
onto-length (T.cmp_mark o) ks = omega arith
onto-length T.always ks = omega arith
onto-length T.never ks = omega arith
onto-length (T.compare a o b) ks = omega (arith, onto-length a (onto o (onto b ks)), onto-length o (onto b ks), onto-length b ks, onto-length a (onto o (onto b [])), onto-length o (onto b []), onto-length b [])
onto-length (T.one_atom a) ks = omega (arith, onto-length a ks, onto-length a [])
onto-length (T.both c a) ks = omega (arith, onto-length c (k_and ∷ onto a ks), onto-length a ks, onto-length c (k_and ∷ onto a []), onto-length a [])
onto-length (T.one_conj c) ks = omega (arith, onto-length c ks, onto-length c [])
onto-length (T.either b c) ks = omega (arith, onto-length b (k_or ∷ onto c ks), onto-length c ks, onto-length b (k_or ∷ onto c []), onto-length c [])
onto-length (T.empty i) ks = omega arith
onto-length (T.declare i) ks = omega arith
onto-length (T.declare_free i) ks = omega arith
onto-length (T.declare_own i true true) ks = omega arith
onto-length (T.declare_own i true false) ks = omega arith
onto-length (T.declare_own i false true) ks = omega arith
onto-length (T.declare_own i false false) ks = omega arith
onto-length (T.assign i e) ks = omega (arith, onto-length e (k_semi ∷ ks), onto-length e (k_semi ∷ []))
onto-length (T.eval e) ks = omega (arith, onto-length e (k_semi ∷ ks), onto-length e (k_semi ∷ []))
onto-length (T.block i b) ks = omega (arith, onto-length b ks, onto-length b [])
onto-length (T.if_else i c s t) ks = omega (arith, onto-length c (k_close ∷ onto s (k_else ∷ onto t ks)), onto-length s (k_else ∷ onto t ks), onto-length t ks, onto-length c (k_close ∷ onto s (k_else ∷ onto t [])), onto-length s (k_else ∷ onto t []), onto-length t [])
onto-length (T.while i c s) ks = omega (arith, onto-length c (k_close ∷ onto s ks), onto-length s ks, onto-length c (k_close ∷ onto s []), onto-length s [])
onto-length (T.return i e) ks = omega (arith, onto-length e (k_semi ∷ ks), onto-length e (k_semi ∷ []))
onto-length (T.fail i) ks = omega arith
onto-length T.no_stmts ks = omega arith
onto-length (T.more_stmts l s) ks = omega (arith, onto-length l (onto s ks), onto-length s ks, onto-length l (onto s []), onto-length s [])
onto-length (T.braced l i) ks = omega (arith, onto-length l (k_rbrace ∷ ks), onto-length l (k_rbrace ∷ []))
onto-length T.no_params ks = omega arith
onto-length (T.some_params l) ks = omega (arith, onto-length l (k_close ∷ ks), onto-length l (k_close ∷ []))
onto-length (T.first_param i) ks = omega arith
onto-length (T.next_param l i) ks = omega (arith, onto-length l (k_comma ∷ k_int ∷ k_name ∷ ks), onto-length l (k_comma ∷ k_int ∷ k_name ∷ []))
onto-length (T.function i p b) ks = omega (arith, onto-length p (k_lbrace ∷ onto b ks), onto-length b ks, onto-length p (k_lbrace ∷ onto b []), onto-length b [])
onto-length T.no_funs ks = omega arith
onto-length (T.more_funs p f) ks = omega (arith, onto-length p (onto f ks), onto-length f ks, onto-length p (onto f []), onto-length f [])

-- the numbers in a tree do not matter
pub onto-numbered : {c : Cat} (p : ℕ) (t : Tree c) (ks : List ℕ) → onto (numbered p t) ks ≡ onto t ks
unfolding onto numbered
onto-numbered p (T.number i) ks = refl
onto-numbered p (T.negative i) ks = refl
onto-numbered p (T.name i) ks = refl
onto-numbered p (T.call i a) ks = ap (λ (x : List ℕ). k_name ∷ k_open ∷ x) (onto-numbered (p + 2) a ks)
onto-numbered p (T.bracket i e) ks = ap (λ (x : List ℕ). k_open ∷ x) (onto-numbered (p + 1) e (k_close ∷ ks))
onto-numbered p T.no_args ks = refl
onto-numbered p (T.some_args l) ks = onto-numbered p l (k_close ∷ ks)
onto-numbered p (T.first_arg e) ks = onto-numbered p e ks
onto-numbered p (T.next_arg l e) ks = onto-numbered p l (k_comma ∷ onto (numbered (p + width l + 1) e) ks) ∙ ap (λ (x : List ℕ). onto l (k_comma ∷ x)) (onto-numbered (p + width l + 1) e ks)
onto-numbered p (T.factor o) ks = onto-numbered p o ks
onto-numbered p (T.times m t o) ks = onto-numbered p t (T.mul_kind m ∷ onto (numbered (p + width t + 1) o) ks) ∙ ap (λ (x : List ℕ). onto t (T.mul_kind m ∷ x)) (onto-numbered (p + width t + 1) o ks)
onto-numbered p (T.addend t) ks = onto-numbered p t ks
onto-numbered p (T.plus s t) ks = onto-numbered p s (k_plus ∷ onto (numbered (p + width s + 1) t) ks) ∙ ap (λ (x : List ℕ). onto s (k_plus ∷ x)) (onto-numbered (p + width s + 1) t ks)
onto-numbered p (T.minus s t) ks = onto-numbered p s (k_minus ∷ onto (numbered (p + width s + 1) t) ks) ∙ ap (λ (x : List ℕ). onto s (k_minus ∷ x)) (onto-numbered (p + width s + 1) t ks)
onto-numbered p (T.cmp_mark o) ks = refl
onto-numbered p T.always ks = refl
onto-numbered p T.never ks = refl
onto-numbered p (T.compare a o b) ks = onto-numbered p a (onto o (onto (numbered (p + width a + 1) b) ks)) ∙ ap (λ (x : List ℕ). onto a (onto o x)) (onto-numbered (p + width a + 1) b ks)
onto-numbered p (T.one_atom a) ks = onto-numbered p a ks
onto-numbered p (T.both c a) ks = onto-numbered p c (k_and ∷ onto (numbered (p + width c + 1) a) ks) ∙ ap (λ (x : List ℕ). onto c (k_and ∷ x)) (onto-numbered (p + width c + 1) a ks)
onto-numbered p (T.one_conj c) ks = onto-numbered p c ks
onto-numbered p (T.either b c) ks = onto-numbered p b (k_or ∷ onto (numbered (p + width b + 1) c) ks) ∙ ap (λ (x : List ℕ). onto b (k_or ∷ x)) (onto-numbered (p + width b + 1) c ks)
onto-numbered p (T.empty i) ks = refl
onto-numbered p (T.declare i) ks = refl
onto-numbered p (T.declare_free i) ks = refl
onto-numbered p (T.declare_own i a b) ks = refl
onto-numbered p (T.assign i e) ks = ap (λ (x : List ℕ). k_name ∷ k_assign ∷ x) (onto-numbered (p + 2) e (k_semi ∷ ks))
onto-numbered p (T.eval e) ks = onto-numbered p e (k_semi ∷ ks)
onto-numbered p (T.block i b) ks = ap (λ (x : List ℕ). k_lbrace ∷ x) (onto-numbered (p + 1) b ks)
onto-numbered p (T.if_else i c s t) ks = ap (λ (x : List ℕ). k_if ∷ k_open ∷ x) (onto-numbered (p + 2) c (k_close ∷ onto (numbered (p + 2 + width c + 1) s) (k_else ∷ onto (numbered (p + 2 + width c + 1 + width s + 1) t) ks))) ∙ ap (λ (x : List ℕ). k_if ∷ k_open ∷ onto c (k_close ∷ x)) (onto-numbered (p + 2 + width c + 1) s (k_else ∷ onto (numbered (p + 2 + width c + 1 + width s + 1) t) ks)) ∙ ap (λ (x : List ℕ). k_if ∷ k_open ∷ onto c (k_close ∷ onto s (k_else ∷ x))) (onto-numbered (p + 2 + width c + 1 + width s + 1) t ks)
onto-numbered p (T.while i c s) ks = ap (λ (x : List ℕ). k_while ∷ k_open ∷ x) (onto-numbered (p + 2) c (k_close ∷ onto (numbered (p + 2 + width c + 1) s) ks)) ∙ ap (λ (x : List ℕ). k_while ∷ k_open ∷ onto c (k_close ∷ x)) (onto-numbered (p + 2 + width c + 1) s ks)
onto-numbered p (T.return i e) ks = ap (λ (x : List ℕ). k_return ∷ x) (onto-numbered (p + 1) e (k_semi ∷ ks))
onto-numbered p (T.fail i) ks = refl
onto-numbered p T.no_stmts ks = refl
onto-numbered p (T.more_stmts l s) ks = onto-numbered p l (onto (numbered (p + width l) s) ks) ∙ ap (λ (x : List ℕ). onto l x) (onto-numbered (p + width l) s ks)
onto-numbered p (T.braced l i) ks = onto-numbered p l (k_rbrace ∷ ks)
onto-numbered p T.no_params ks = refl
onto-numbered p (T.some_params l) ks = onto-numbered p l (k_close ∷ ks)
onto-numbered p (T.first_param i) ks = refl
onto-numbered p (T.next_param l i) ks = onto-numbered p l (k_comma ∷ k_int ∷ k_name ∷ ks)
onto-numbered p (T.function i q b) ks = ap (λ (x : List ℕ). k_int ∷ k_name ∷ k_open ∷ x) (onto-numbered (p + 3) q (k_lbrace ∷ onto (numbered (p + 3 + width q + 1) b) ks)) ∙ ap (λ (x : List ℕ). k_int ∷ k_name ∷ k_open ∷ onto q (k_lbrace ∷ x)) (onto-numbered (p + 3 + width q + 1) b ks)
onto-numbered p T.no_funs ks = refl
onto-numbered p (T.more_funs l f) ks = onto-numbered p l (onto (numbered (p + width l) f) ks) ∙ ap (λ (x : List ℕ). onto l x) (onto-numbered (p + width l) f ks)

pub width-numbered : {c : Cat} (p : ℕ) (t : Tree c) → width (numbered p t) ≡ width t
width-numbered p t = ap (λ (ks : List ℕ). length ks) (onto-numbered p t [])
