-- The readers' definition on a few texts.
use mathlib.Core.Path.{◌≡◌, refl}
use mathlib.Core.List.{[], ◌∷◌}
use Rattle.syntax.specs.Token.{k_end, k_name, k_number, k_open, k_close, k_minus, k_true, k_less, k_semi, k_lbrace, k_rbrace, k_int, k_free, k_if, k_else, k_return, k_fail}
use Rattle.syntax.specs.Tree.{less, number, name, factor, addend, cmp_mark, compare, one_atom, one_conj, declare_free, if_else, return, fail, no_stmts, more_stmts, braced, no_params, function, no_funs, more_funs}
use Rattle.grammar.specs.Parse.{ok, bad, parsed, read_operand, read_cmp, read_atom, more_conj, read_conj, more_cond, read_cond, read_guard, read_ended, read_decl, read_fail, read_stmt, read_params, read_fun, more_prog, read_text}

-- int main() { int y free; if (y < 2) return y; else fail; }
rule-a : parsed (k_int ∷ k_name ∷ k_open ∷ k_close ∷ k_lbrace ∷ k_int ∷ k_name ∷ k_free ∷ k_semi ∷ k_if ∷ k_open ∷ k_name ∷ k_less ∷ k_number ∷ k_close ∷ k_return ∷ k_name ∷ k_semi ∷ k_else ∷ k_fail ∷ k_semi ∷ k_rbrace ∷ k_end ∷ [])
    ≡ ok (more_funs no_funs (function 1 no_params (braced (more_stmts (more_stmts no_stmts (declare_free 5)) (if_else 9 (one_conj (one_atom (compare (addend (factor (name 11))) (cmp_mark less) (addend (factor (number 13)))))) (return 15 (addend (factor (name 16)))) (fail 19))) 21))) 22
unfolding read_text more_prog read_fun read_params read_stmt read_decl read_guard read_cond read_conj read_atom read_cmp read_operand more_conj more_cond read_ended read_fail
rule-a = refl

-- the empty text
no_text : parsed (k_end ∷ []) ≡ ok no_funs 0
unfolding read_text more_prog
no_text = refl

-- int main() { if (true) ; }: an if without else is refused at the brace
no-else : parsed (k_int ∷ k_name ∷ k_open ∷ k_close ∷ k_lbrace ∷ k_if ∷ k_open ∷ k_true ∷ k_close ∷ k_semi ∷ k_rbrace ∷ k_end ∷ []) ≡ bad 10
unfolding read_text more_prog read_fun read_params read_stmt read_guard read_cond read_conj read_atom more_conj more_cond
no-else = refl

-- int main() { return -x; }: a minus stands before numbers alone
minus-name : parsed (k_int ∷ k_name ∷ k_open ∷ k_close ∷ k_lbrace ∷ k_return ∷ k_minus ∷ k_name ∷ k_semi ∷ k_rbrace ∷ k_end ∷ []) ≡ bad 7
unfolding read_text more_prog read_fun read_params read_stmt read_ended read_operand
minus-name = refl
