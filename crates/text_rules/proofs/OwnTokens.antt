-- The declarations with their own pair that the tokens of a tree show are those of the tree.
use Prim.Native.Nat.{ℕ, suc, ◌+◌}
use mathlib.Core.Path.{◌≡◌, refl, sym, ap, ap₂, ◌∙◌}
use mathlib.Core.Bool.{true, false}
use mathlib.Core.List.{List, [], ◌∷◌, ◌++◌, append_assoc}
use native.Mathlib.Omega.{arith}
use Rattle.syntax.specs.Token.{k_end, k_name, k_close, k_comma, k_times, k_plus, k_minus, k_and, k_or, k_semi, k_int, k_lbrace, k_rbrace, k_else}
use Rattle.syntax.specs.Tree.{Cat, Tree, onto, width, numbered, less, less_eq, greater, greater_eq, equal, unequal}
use Rattle.syntax.specs.Tree as T
use Rattle.syntax.specs.Abstract.{ast}
use Rattle.events.proofs.Widths.{onto-length}
use Rattle.text_rules.specs.Own.{Own, own, owns}
use Rattle.text_rules.specs.Answers.{owns_from}

-- an expression, a condition or a list of names shows none; what is a statement or holds some shows those of its tree
abbrev Shows : (c : Cat) → ℕ → Tree c → List ℕ → Type 0
Shows T.operand p t ks = owns_from p (onto t ks) ≡ owns_from (p + width t) ks
Shows T.term p t ks = owns_from p (onto t ks) ≡ owns_from (p + width t) ks
Shows T.sum p t ks = owns_from p (onto t ks) ≡ owns_from (p + width t) ks
Shows T.args p t ks = owns_from p (onto t ks) ≡ owns_from (p + width t) ks
Shows T.arg_list p t ks = owns_from p (onto t ks) ≡ owns_from (p + width t) ks
Shows T.cmp p t ks = owns_from p (onto t ks) ≡ owns_from (p + width t) ks
Shows T.atom p t ks = owns_from p (onto t ks) ≡ owns_from (p + width t) ks
Shows T.conj p t ks = owns_from p (onto t ks) ≡ owns_from (p + width t) ks
Shows T.cond p t ks = owns_from p (onto t ks) ≡ owns_from (p + width t) ks
Shows T.params p t ks = owns_from p (onto t ks) ≡ owns_from (p + width t) ks
Shows T.param_list p t ks = owns_from p (onto t ks) ≡ owns_from (p + width t) ks
Shows T.stmt p t ks = owns_from p (onto t ks) ≡ owns (ast (numbered p t)) ++ owns_from (p + width t) ks
Shows T.stmts p t ks = owns_from p (onto t ks) ≡ owns (ast (numbered p t)) ++ owns_from (p + width t) ks
Shows T.body p t ks = owns_from p (onto t ks) ≡ owns (ast (numbered p t)) ++ owns_from (p + width t) ks
Shows T.fun p t ks = owns_from p (onto t ks) ≡ owns (ast (numbered p t)) ++ owns_from (p + width t) ks
Shows T.prog p t ks = owns_from p (onto t ks) ≡ owns (ast (numbered p t)) ++ owns_from (p + width t) ks

-- another place that is the same
at : {p q : ℕ} (ks : List ℕ) → p ≡ q → owns_from p ks ≡ owns_from q ks
at ks e = ap (λ (n : ℕ). owns_from n ks) e

-- two parts one after the other
then : {a c : List Own} (x y d : List Own) → a ≡ x ++ c → c ≡ y ++ d → a ≡ (x ++ y) ++ d
then x y d e f = e ∙ ap (λ (l : List Own). x ++ l) f ∙ sym (append_assoc x y d)

shows : {c : Cat} (p : ℕ) (t : Tree c) (ks : List ℕ) → Shows c p t ks
unfolding onto numbered ast owns owns_from
shows p (T.number i) ks = at ks (omega arith)
shows p (T.negative i) ks = at ks (omega arith)
shows p (T.name i) ks = at ks (omega arith)
shows p (T.call i a) ks = shows (suc (suc p)) a ks ∙ at ks (omega arith)
shows p (T.bracket i e) ks = shows (suc p) e (k_close ∷ ks) ∙ at ks (omega (arith, onto-length e (k_close ∷ [])))
shows p T.no_args ks = at ks (omega arith)
shows p (T.some_args l) ks = shows p l (k_close ∷ ks) ∙ at ks (omega (arith, onto-length l (k_close ∷ [])))
shows p (T.first_arg e) ks = shows p e ks
shows p (T.next_arg l e) ks = shows p l (k_comma ∷ onto e ks) ∙ shows (suc (p + width l)) e ks ∙ at ks (omega (arith, onto-length l (k_comma ∷ onto e [])))
shows p (T.factor o) ks = shows p o ks
shows p (T.times T.product t o) ks = shows p t (k_times ∷ onto o ks) ∙ shows (suc (p + width t)) o ks ∙ at ks (omega (arith, onto-length t (k_times ∷ onto o [])))
shows p (T.addend t) ks = shows p t ks
shows p (T.plus s t) ks = shows p s (k_plus ∷ onto t ks) ∙ shows (suc (p + width s)) t ks ∙ at ks (omega (arith, onto-length s (k_plus ∷ onto t [])))
shows p (T.minus s t) ks = shows p s (k_minus ∷ onto t ks) ∙ shows (suc (p + width s)) t ks ∙ at ks (omega (arith, onto-length s (k_minus ∷ onto t [])))
shows p (T.cmp_mark less) ks = at ks (omega arith)
shows p (T.cmp_mark less_eq) ks = at ks (omega arith)
shows p (T.cmp_mark greater) ks = at ks (omega arith)
shows p (T.cmp_mark greater_eq) ks = at ks (omega arith)
shows p (T.cmp_mark equal) ks = at ks (omega arith)
shows p (T.cmp_mark unequal) ks = at ks (omega arith)
shows p T.always ks = at ks (omega arith)
shows p T.never ks = at ks (omega arith)
shows p (T.compare a o b) ks =
    shows p a (onto o (onto b ks)) ∙ shows (p + width a) o (onto b ks) ∙ shows (p + width a + width o) b ks
    ∙ at ks (omega (arith, onto-length a (onto o (onto b [])), onto-length o (onto b [])))
shows p (T.one_atom a) ks = shows p a ks
shows p (T.both c a) ks = shows p c (k_and ∷ onto a ks) ∙ shows (suc (p + width c)) a ks ∙ at ks (omega (arith, onto-length c (k_and ∷ onto a [])))
shows p (T.one_conj c) ks = shows p c ks
shows p (T.either b c) ks = shows p b (k_or ∷ onto c ks) ∙ shows (suc (p + width b)) c ks ∙ at ks (omega (arith, onto-length b (k_or ∷ onto c [])))
shows p T.no_params ks = at ks (omega arith)
shows p (T.some_params l) ks = shows p l (k_close ∷ ks) ∙ at ks (omega (arith, onto-length l (k_close ∷ [])))
shows p (T.first_param i) ks = at ks (omega arith)
shows p (T.next_param l i) ks = shows p l (k_comma ∷ k_int ∷ k_name ∷ ks) ∙ at ks (omega (arith, onto-length l (k_comma ∷ k_int ∷ k_name ∷ [])))
shows p (T.empty i) ks = at ks (omega arith)
shows p (T.declare i) ks = at ks (omega arith)
shows p (T.declare_free i) ks = at ks (omega arith)
shows p (T.declare_own i true true) ks = ap₂ (λ (j n : ℕ). own j true true ∷ owns_from n ks) (omega arith) (omega arith)
shows p (T.declare_own i true false) ks = ap₂ (λ (j n : ℕ). own j true false ∷ owns_from n ks) (omega arith) (omega arith)
shows p (T.declare_own i false true) ks = ap₂ (λ (j n : ℕ). own j false true ∷ owns_from n ks) (omega arith) (omega arith)
shows p (T.declare_own i false false) ks = ap₂ (λ (j n : ℕ). own j false false ∷ owns_from n ks) (omega arith) (omega arith)
shows p (T.assign i e) ks = shows (suc (suc p)) e (k_semi ∷ ks) ∙ at ks (omega (arith, onto-length e (k_semi ∷ [])))
shows p (T.eval e) ks = shows p e (k_semi ∷ ks) ∙ at ks (omega (arith, onto-length e (k_semi ∷ [])))
shows p (T.block i b) ks = at (onto b ks) (omega arith) ∙ shows (p + 1) b ks ∙ ap (λ (l : List Own). owns (ast (numbered (p + 1) b)) ++ l) (at ks (omega arith))
shows p (T.if_else i c s t) ks =
    let q = p + 2 + width c + 1 in
    let r = q + width s + 1 in
    at (onto c (k_close ∷ onto s (k_else ∷ onto t ks))) (omega arith)
    ∙ shows (p + 2) c (k_close ∷ onto s (k_else ∷ onto t ks))
    ∙ at (onto s (k_else ∷ onto t ks)) (omega arith)
    ∙ then (owns (ast (numbered q s))) (owns (ast (numbered r t))) (owns_from (p + width (T.if_else i c s t)) ks) (shows q s (k_else ∷ onto t ks)) (at (onto t ks) (omega arith) ∙ shows r t ks
    ∙ ap (λ (l : List Own). owns (ast (numbered r t)) ++ l) (at ks (omega (arith, onto-length c (k_close ∷ onto s (k_else ∷ onto t [])), onto-length s (k_else ∷ onto t [])))))
shows p (T.while i c s) ks =
    let q = p + 2 + width c + 1 in
    at (onto c (k_close ∷ onto s ks)) (omega arith)
    ∙ shows (p + 2) c (k_close ∷ onto s ks)
    ∙ at (onto s ks) (omega arith)
    ∙ shows q s ks
    ∙ ap (λ (l : List Own). owns (ast (numbered q s)) ++ l) (at ks (omega (arith, onto-length c (k_close ∷ onto s []))))
shows p (T.return i e) ks = shows (suc p) e (k_semi ∷ ks) ∙ at ks (omega (arith, onto-length e (k_semi ∷ [])))
shows p (T.fail i) ks = at ks (omega arith)
shows p T.no_stmts ks = at ks (omega arith)
shows p (T.more_stmts l s) ks =
    then (owns (ast (numbered p l))) (owns (ast (numbered (p + width l) s))) (owns_from (p + width (T.more_stmts l s)) ks) (shows p l (onto s ks)) (shows (p + width l) s ks ∙ ap (λ (x : List Own). owns (ast (numbered (p + width l) s)) ++ x) (at ks (omega (arith, onto-length l (onto s [])))))
shows p (T.braced l i) ks = shows p l (k_rbrace ∷ ks) ∙ ap (λ (x : List Own). owns (ast (numbered p l)) ++ x) (at ks (omega (arith, onto-length l (k_rbrace ∷ []))))
shows p (T.function i q b) ks =
    let r = p + 3 + width q + 1 in
    at (onto q (k_lbrace ∷ onto b ks)) (omega arith)
    ∙ shows (p + 3) q (k_lbrace ∷ onto b ks)
    ∙ at (onto b ks) (omega arith)
    ∙ shows r b ks
    ∙ ap (λ (l : List Own). owns (ast (numbered r b)) ++ l) (at ks (omega (arith, onto-length q (k_lbrace ∷ onto b []))))
shows p T.no_funs ks = at ks (omega arith)
shows p (T.more_funs l f) ks =
    then (owns (ast (numbered p l))) (owns (ast (numbered (p + width l) f))) (owns_from (p + width (T.more_funs l f)) ks) (shows p l (onto f ks)) (shows (p + width l) f ks ∙ ap (λ (x : List Own). owns (ast (numbered (p + width l) f)) ++ x) (at ks (omega (arith, onto-length l (onto f [])))))

past : (l : List Own) (n : ℕ) → l ++ owns_from n (k_end ∷ []) ≡ l
unfolding owns_from
past [] n = refl
past (o ∷ l) n = ap (λ (x : List Own). o ∷ x) (past l n)

-- THEOREM. Of a whole text: the tokens of a program and then the end.
pub text-owns : (t : Tree T.prog) → owns_from 0 (onto t (k_end ∷ [])) ≡ owns (ast (numbered 0 t))
text-owns t = shows 0 t (k_end ∷ []) ∙ past (owns (ast (numbered 0 t))) (0 + width t)
