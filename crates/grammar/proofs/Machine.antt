-- What may come next: a stack of what is still expected, and one step for each token.
use Prim.Native.Nat.{ℕ}
use mathlib.Core.Bool.{Bool, true, false}
use mathlib.Core.List.{List, [], ◌∷◌}
use mathlib.Core.Option.{Option, none, some}
use lib.Dec.{eqb}
use Rattle.syntax.specs.Token.{k_name, k_number, k_open, k_close, k_comma, k_plus, k_minus, k_times, k_true, k_false, k_and, k_or, k_less, k_equal, k_less_eq, k_greater, k_greater_eq, k_unequal, k_semi, k_assign, k_lbrace, k_rbrace, k_int, k_free, k_if, k_else, k_while, k_return, k_fail, k_dot_dot}

pub data Sym : Type 0 where
  tok : ℕ → Sym
  s_operand s_term s_terms s_sum s_sums s_call s_args s_more s_cmp s_atom s_conj s_conjs s_cond s_conds s_stmt s_decl s_free s_end s_named s_body s_params s_param_more s_funs : Sym

abbrev pub Stack : Type 0
Stack = List Sym

abbrev pub on : Bool → Option Stack → Option Stack → Option Stack
on true a b = a
on false a b = b

-- what may begin an operand, and what is expected after that
abbrev pub operand_by : ℕ → Stack → Option Stack
operand_by k ss =
    on (eqb k k_number) (some ss)
    (on (eqb k k_minus) (some (tok k_number ∷ ss))
    (on (eqb k k_name) (some (s_call ∷ ss))
    (on (eqb k k_open) (some (s_sum ∷ tok k_close ∷ ss)) none)))

abbrev pub sum_by : ℕ → Stack → Option Stack
sum_by k ss = operand_by k (s_terms ∷ s_sums ∷ ss)

abbrev pub atom_by : ℕ → Stack → Option Stack
atom_by k ss = on (eqb k k_true) (some ss) (on (eqb k k_false) (some ss) (sum_by k (s_cmp ∷ s_sum ∷ ss)))

abbrev pub stmt_by : ℕ → Stack → Option Stack
stmt_by k ss =
    on (eqb k k_semi) (some ss)
    (on (eqb k k_int) (some (tok k_name ∷ s_decl ∷ ss))
    (on (eqb k k_name) (some (s_named ∷ ss))
    (on (eqb k k_lbrace) (some (s_body ∷ ss))
    (on (eqb k k_if) (some (tok k_open ∷ s_cond ∷ tok k_close ∷ s_stmt ∷ tok k_else ∷ s_stmt ∷ ss))
    (on (eqb k k_while) (some (tok k_open ∷ s_cond ∷ tok k_close ∷ s_stmt ∷ ss))
    (on (eqb k k_return) (some (s_sum ∷ tok k_semi ∷ ss))
    (on (eqb k k_fail) (some (tok k_semi ∷ ss))
    (sum_by k (tok k_semi ∷ ss)))))))))

-- what may begin an end of a pair
abbrev pub end_by : ℕ → Stack → Option Stack
end_by k ss = on (eqb k k_minus) (some (tok k_number ∷ ss)) (on (eqb k k_number) (some ss) none)

unfoldable pub step : ℕ → Stack → Option Stack
step k [] = none
step k (tok j ∷ ss) = on (eqb k j) (some ss) none
step k (s_operand ∷ ss) = operand_by k ss
step k (s_term ∷ ss) = operand_by k (s_terms ∷ ss)
step k (s_terms ∷ ss) = on (eqb k k_times) (some (s_operand ∷ s_terms ∷ ss)) (step k ss)
step k (s_sum ∷ ss) = sum_by k ss
step k (s_sums ∷ ss) = on (eqb k k_plus) (some (s_term ∷ s_sums ∷ ss)) (on (eqb k k_minus) (some (s_term ∷ s_sums ∷ ss)) (step k ss))
step k (s_call ∷ ss) = on (eqb k k_open) (some (s_args ∷ ss)) (step k ss)
step k (s_args ∷ ss) = on (eqb k k_close) (some ss) (sum_by k (s_more ∷ ss))
step k (s_more ∷ ss) = on (eqb k k_comma) (some (s_sum ∷ s_more ∷ ss)) (on (eqb k k_close) (some ss) none)
step k (s_cmp ∷ ss) = on (eqb k k_less) (some ss) (on (eqb k k_less_eq) (some ss) (on (eqb k k_greater) (some ss) (on (eqb k k_greater_eq) (some ss) (on (eqb k k_equal) (some ss) (on (eqb k k_unequal) (some ss) none)))))
step k (s_atom ∷ ss) = atom_by k ss
step k (s_conj ∷ ss) = atom_by k (s_conjs ∷ ss)
step k (s_conjs ∷ ss) = on (eqb k k_and) (some (s_atom ∷ s_conjs ∷ ss)) (step k ss)
step k (s_cond ∷ ss) = atom_by k (s_conjs ∷ s_conds ∷ ss)
step k (s_conds ∷ ss) = on (eqb k k_or) (some (s_conj ∷ s_conds ∷ ss)) (step k ss)
step k (s_stmt ∷ ss) = stmt_by k ss
step k (s_decl ∷ ss) = on (eqb k k_semi) (some ss) (on (eqb k k_free) (some (s_free ∷ ss)) none)
step k (s_free ∷ ss) = on (eqb k k_semi) (some ss) (end_by k (tok k_dot_dot ∷ s_end ∷ tok k_semi ∷ ss))
step k (s_end ∷ ss) = end_by k ss
step k (s_named ∷ ss) =
    on (eqb k k_assign) (some (s_sum ∷ tok k_semi ∷ ss))
    (on (eqb k k_open) (some (s_args ∷ s_terms ∷ s_sums ∷ tok k_semi ∷ ss))
    (on (eqb k k_times) (some (s_operand ∷ s_terms ∷ s_sums ∷ tok k_semi ∷ ss))
    (on (eqb k k_plus) (some (s_term ∷ s_sums ∷ tok k_semi ∷ ss))
    (on (eqb k k_minus) (some (s_term ∷ s_sums ∷ tok k_semi ∷ ss))
    (on (eqb k k_semi) (some ss) none)))))
step k (s_body ∷ ss) = on (eqb k k_rbrace) (some ss) (stmt_by k (s_body ∷ ss))
step k (s_params ∷ ss) = on (eqb k k_close) (some ss) (on (eqb k k_int) (some (tok k_name ∷ s_param_more ∷ ss)) none)
step k (s_param_more ∷ ss) = on (eqb k k_comma) (some (tok k_int ∷ tok k_name ∷ s_param_more ∷ ss)) (on (eqb k k_close) (some ss) none)
step k (s_funs ∷ ss) = on (eqb k k_int) (some (tok k_name ∷ tok k_open ∷ s_params ∷ tok k_lbrace ∷ s_body ∷ s_funs ∷ ss)) (step k ss)

-- a run takes all tokens, or is stuck with a rest of them
pub data Out : Type 0 where
  fine : Out
  stuck : List ℕ → Out

abbrev pub go_on : Option Stack → Out → (Stack → Out) → Out
go_on none a f = a
go_on (some ss) a f = f ss

unfoldable pub run : Stack → List ℕ → Out
run ss [] = fine
run ss (k ∷ ks) = go_on (step k ss) (stuck (k ∷ ks)) (λ s. run s ks)
