-- The readers: recursive descent over the list of the kinds of the tokens; the next kind decides. A tree holds the numbers of its tokens.
-- d bounds how deep the calls go, and `parsed` gives enough of it.
use Rattle.std.specs.Prelude.{ℕ, zero, suc, ◌+◌, ◌*◌, Bool, true, false, List, length, get_or, eqb}
use Rattle.syntax.specs.Token.{k_end, k_name, k_number, k_open, k_close, k_comma, k_plus, k_minus, k_times, k_true, k_false, k_and, k_or, k_less, k_equal, k_less_eq, k_greater, k_greater_eq, k_unequal, k_semi, k_assign, k_lbrace, k_rbrace, k_int, k_free, k_if, k_else, k_while, k_return, k_fail, k_dot_dot}
use Rattle.syntax.specs.Tree.{Cat, Tree}
use Rattle.syntax.specs.Tree.{operand, term, sum, args, arg_list, cmp, atom, conj, cond, stmt, stmts, body, params, param_list, fun, prog}
use Rattle.syntax.specs.Tree.{less, less_eq, greater, greater_eq, equal, unequal}
use Rattle.syntax.specs.Tree.{number, negative, name, call, bracket, no_args, some_args, first_arg, next_arg, factor, product, times, addend, plus, minus, cmp_mark, always, never, compare, one_atom, both, one_conj, either, empty, declare, declare_free, declare_own, assign, eval, block, if_else, while, return, fail, no_stmts, more_stmts, braced, no_params, some_params, first_param, next_param, function, no_funs, more_funs}

-- a tree and the number of the token after it, or the number of the first token that does not fit
pub data Res (c : Cat) : Type 0 where
  ok : Tree c → ℕ → Res c
  bad : ℕ → Res c

abbrev pub and_then : {c e : Cat} → Res c → (Tree c → ℕ → Res e) → Res e
and_then (ok t at) f = f t at
and_then (bad at) f = bad at

module _ (ks : List ℕ) where
  abbrev pub peek : ℕ → ℕ
  peek at = get_or ks at 0

  -- the token k and then r
  abbrev pub expect : {c : Cat} → ℕ → ℕ → Res c → Res c
  expect k at r = elim (eqb (peek at) k) [ true ↦ r | false ↦ bad at ]

  unfoldable mutual
    -- "operands are numbers, `-` with a number, names, calls, `( e )`"
    pub read_operand : ℕ → ℕ → Res operand
    read_operand zero at = bad at
    read_operand (suc d) at =
        elim (eqb (peek at) k_number) [
          | true ↦ ok (number at) (at + 1)
          | false ↦
              elim (eqb (peek at) k_minus) [
                | true ↦ expect k_number (at + 1) (ok (negative at) (at + 1 + 1))
                | false ↦
                    elim (eqb (peek at) k_name) [
                      | true ↦ read_call d at
                      | false ↦
                          elim (eqb (peek at) k_open) [
                            | true ↦ read_bracket d at
                            | false ↦
                                bad at
                          ]
                    ]
              ]
        ]

    -- ( e ), whose opening bracket is at `at`
    pub read_bracket : ℕ → ℕ → Res operand
    read_bracket zero at = bad at
    read_bracket (suc d) at = and_then (read_sum d (at + 1)) (λ e m. expect k_close m (ok (bracket at e) (m + 1)))

    -- a name, which is at `at`, or a call of it
    pub read_call : ℕ → ℕ → Res operand
    read_call zero at = bad at
    read_call (suc d) at =
        elim (eqb (peek (at + 1)) k_open) [
          | true ↦ and_then (read_args d (at + 1 + 1)) (λ a m. ok (call at a) m)
          | false ↦
              ok (name at) (at + 1)
        ]

    -- the arguments of a call with the closing bracket
    pub read_args : ℕ → ℕ → Res args
    read_args zero at = bad at
    read_args (suc d) at =
        elim (eqb (peek at) k_close) [
          | true ↦ ok no_args (at + 1)
          | false ↦
              and_then (read_sum d at) (λ e m. more_args d (first_arg e) m)
        ]

    -- what follows the arguments l: a comma and one more, or the closing bracket
    pub more_args : ℕ → Tree arg_list → ℕ → Res args
    more_args zero l at = bad at
    more_args (suc d) l at =
        elim (eqb (peek at) k_comma) [
          | true ↦ and_then (read_sum d (at + 1)) (λ e m. more_args d (next_arg l e) m)
          | false ↦
              elim (eqb (peek at) k_close) [
                | true ↦ ok (some_args l) (at + 1)
                | false ↦
                    bad at
              ]
        ]

    -- "`*` above `+` and `-`, left to right"
    pub read_term : ℕ → ℕ → Res term
    read_term zero at = bad at
    read_term (suc d) at = and_then (read_operand d at) (λ o m. more_term d (factor o) m)

    -- what follows the term l
    pub more_term : ℕ → Tree term → ℕ → Res term
    more_term zero l at = bad at
    more_term (suc d) l at =
        elim (eqb (peek at) k_times) [
          | true ↦ and_then (read_operand d (at + 1)) (λ o m. more_term d (times product l o) m)
          | false ↦
              ok l at
        ]

    -- an expression
    pub read_sum : ℕ → ℕ → Res sum
    read_sum zero at = bad at
    read_sum (suc d) at = and_then (read_term d at) (λ t m. more_sum d (addend t) m)

    -- what follows the sum l
    pub more_sum : ℕ → Tree sum → ℕ → Res sum
    more_sum zero l at = bad at
    more_sum (suc d) l at =
        elim (eqb (peek at) k_plus) [
          | true ↦ and_then (read_term d (at + 1)) (λ t m. more_sum d (plus l t) m)
          | false ↦
              elim (eqb (peek at) k_minus) [
                | true ↦ and_then (read_term d (at + 1)) (λ t m. more_sum d (minus l t) m)
                | false ↦
                    ok l at
              ]
        ]

  -- "one of `< <= > >= == !=`"
  unfoldable pub read_cmp : ℕ → Res cmp
  read_cmp at =
      elim (eqb (peek at) k_less) [
        | true ↦ ok (cmp_mark less) (at + 1)
        | false ↦
            elim (eqb (peek at) k_less_eq) [
              | true ↦ ok (cmp_mark less_eq) (at + 1)
              | false ↦
                  elim (eqb (peek at) k_greater) [
                    | true ↦ ok (cmp_mark greater) (at + 1)
                    | false ↦
                        elim (eqb (peek at) k_greater_eq) [
                          | true ↦ ok (cmp_mark greater_eq) (at + 1)
                          | false ↦
                              elim (eqb (peek at) k_equal) [
                                | true ↦ ok (cmp_mark equal) (at + 1)
                                | false ↦
                                    elim (eqb (peek at) k_unequal) [
                                      | true ↦ ok (cmp_mark unequal) (at + 1)
                                      | false ↦
                                          bad at
                                    ]
                              ]
                        ]
                  ]
            ]
      ]

  -- "operands are true, false or two expressions with one of .. between"
  unfoldable pub read_atom : ℕ → ℕ → Res atom
  read_atom zero at = bad at
  read_atom (suc d) at =
      elim (eqb (peek at) k_true) [
        | true ↦ ok always (at + 1)
        | false ↦
            elim (eqb (peek at) k_false) [
              | true ↦ ok never (at + 1)
              | false ↦
                  and_then (read_sum d at) (λ a m. and_then (read_cmp m) (λ o n. and_then (read_sum d n) (λ b p. ok (compare a o b) p)))
            ]
      ]

  -- what follows the conjunction l
  unfoldable pub more_conj : ℕ → Tree conj → ℕ → Res conj
  more_conj zero l at = bad at
  more_conj (suc d) l at =
      elim (eqb (peek at) k_and) [
        | true ↦ and_then (read_atom d (at + 1)) (λ a m. more_conj d (both l a) m)
        | false ↦
            ok l at
      ]

  -- "`&&` above `||`, left to right"
  unfoldable pub read_conj : ℕ → ℕ → Res conj
  read_conj zero at = bad at
  read_conj (suc d) at = and_then (read_atom d at) (λ a m. more_conj d (one_atom a) m)

  -- what follows the condition l
  unfoldable pub more_cond : ℕ → Tree cond → ℕ → Res cond
  more_cond zero l at = bad at
  more_cond (suc d) l at =
      elim (eqb (peek at) k_or) [
        | true ↦ and_then (read_conj d (at + 1)) (λ c m. more_cond d (either l c) m)
        | false ↦
            ok l at
      ]

  -- a condition
  unfoldable pub read_cond : ℕ → ℕ → Res cond
  read_cond zero at = bad at
  read_cond (suc d) at = and_then (read_conj d at) (λ c m. more_cond d (one_conj c) m)

  -- `(b)` of an if or a while
  unfoldable pub read_guard : ℕ → ℕ → Res cond
  read_guard zero at = bad at
  read_guard (suc d) at = expect k_open at (and_then (read_cond d (at + 1)) (λ c m. expect k_close m (ok c (m + 1))))

  -- `e;` as the statement w e
  unfoldable pub read_ended : (Tree sum → Tree stmt) → ℕ → ℕ → Res stmt
  read_ended w zero at = bad at
  read_ended w (suc d) at = and_then (read_sum d at) (λ e m. expect k_semi m (ok (w e) (m + 1)))

  -- `x = e;`, or `e;` that begins with the name x
  unfoldable pub read_named : ℕ → ℕ → Res stmt
  read_named zero at = bad at
  read_named (suc d) at =
      elim (eqb (peek (at + 1)) k_assign) [
        | true ↦ read_ended (assign at) d (at + 1 + 1)
        | false ↦
            read_ended eval d at
      ]

  -- an end of a pair, a number with or without a minus, and then f of whether it has one and of the token after it
  abbrev pub read_end : {c : Cat} → ℕ → (Bool → ℕ → Res c) → Res c
  read_end at f =
      elim (eqb (peek at) k_minus) [
        | true ↦ expect k_number (at + 1) (f true (at + 1 + 1))
        | false ↦
            expect k_number at (f false (at + 1))
      ]

  -- the rest of `int x free l .. h;`, from the low end on, which is at m
  unfoldable pub read_own : ℕ → ℕ → Res stmt
  read_own at m = read_end m (λ a n. expect k_dot_dot n (read_end (n + 1) (λ b o. expect k_semi o (ok (declare_own at a b) (o + 1)))))

  -- `int x;`, `int x free;` or `int x free l .. h;`
  unfoldable pub read_decl : ℕ → Res stmt
  read_decl at =
      expect k_name (at + 1) (elim (eqb (peek (at + 1 + 1)) k_semi) [
        | true ↦ ok (declare at) (at + 1 + 1 + 1)
        | false ↦
            expect k_free (at + 1 + 1) (elim (eqb (peek (at + 1 + 1 + 1)) k_semi) [
              | true ↦ ok (declare_free at) (at + 1 + 1 + 1 + 1)
              | false ↦
                  read_own at (at + 1 + 1 + 1)
            ])
      ])

  -- `fail;`
  unfoldable pub read_fail : ℕ → Res stmt
  read_fail at = expect k_semi (at + 1) (ok (fail at) (at + 1 + 1))

  unfoldable mutual
    -- a statement: its first token decides
    pub read_stmt : ℕ → ℕ → Res stmt
    read_stmt zero at = bad at
    read_stmt (suc d) at =
        elim (eqb (peek at) k_semi) [
          | true ↦ ok (empty at) (at + 1)
          | false ↦
              elim (eqb (peek at) k_int) [
                | true ↦ read_decl at
                | false ↦
                    elim (eqb (peek at) k_name) [
                      | true ↦ read_named d at
                      | false ↦
                          elim (eqb (peek at) k_lbrace) [
                            | true ↦ read_block d at
                            | false ↦
                                elim (eqb (peek at) k_if) [
                                  | true ↦ read_if d at
                                  | false ↦
                                      elim (eqb (peek at) k_while) [
                                        | true ↦ read_while d at
                                        | false ↦
                                            elim (eqb (peek at) k_return) [
                                              | true ↦ read_ended (return at) d (at + 1)
                                              | false ↦
                                                  elim (eqb (peek at) k_fail) [
                                                    | true ↦ read_fail at
                                                    | false ↦
                                                        read_ended eval d at
                                                  ]
                                            ]
                                      ]
                                ]
                          ]
                    ]
              ]
        ]

    -- `{ statements }`
    pub read_block : ℕ → ℕ → Res stmt
    read_block zero at = bad at
    read_block (suc d) at = and_then (more_body d no_stmts (at + 1)) (λ b m. ok (block at b) m)

    -- `if (b) s else s`
    pub read_if : ℕ → ℕ → Res stmt
    read_if zero at = bad at
    read_if (suc d) at =
        and_then (read_guard d (at + 1)) (λ c m. and_then (read_stmt d m) (λ s n.
        expect k_else n (and_then (read_stmt d (n + 1)) (λ t p. ok (if_else at c s t) p))))

    -- `while (b) s`
    pub read_while : ℕ → ℕ → Res stmt
    read_while zero at = bad at
    read_while (suc d) at = and_then (read_guard d (at + 1)) (λ c m. and_then (read_stmt d m) (λ s n. ok (while at c s) n))

    -- what follows the statements l: the closing brace, or one more
    pub more_body : ℕ → Tree stmts → ℕ → Res body
    more_body zero l at = bad at
    more_body (suc d) l at =
        elim (eqb (peek at) k_rbrace) [
          | true ↦ ok (braced l at) (at + 1)
          | false ↦
              and_then (read_stmt d at) (λ s m. more_body d (more_stmts l s) m)
        ]

  -- what follows the parameters l: a comma and one more, or the closing bracket
  unfoldable pub more_params : ℕ → Tree param_list → ℕ → Res params
  more_params zero l at = bad at
  more_params (suc d) l at =
      elim (eqb (peek at) k_comma) [
        | true ↦ expect k_int (at + 1) (expect k_name (at + 1 + 1) (more_params d (next_param l (at + 1 + 1)) (at + 1 + 1 + 1)))
        | false ↦
            elim (eqb (peek at) k_close) [
              | true ↦ ok (some_params l) (at + 1)
              | false ↦
                  bad at
            ]
      ]

  -- the parameters with the closing bracket: "each parameter `int name`, comma between"
  unfoldable pub read_params : ℕ → ℕ → Res params
  read_params zero at = bad at
  read_params (suc d) at =
      elim (eqb (peek at) k_close) [
        | true ↦ ok no_params (at + 1)
        | false ↦
            expect k_int at (expect k_name (at + 1) (more_params d (first_param (at + 1)) (at + 1 + 1)))
      ]

  -- `int name ( parameters ) { statements }`
  unfoldable pub read_fun : ℕ → ℕ → Res fun
  read_fun zero at = bad at
  read_fun (suc d) at =
      expect k_name (at + 1) (expect k_open (at + 1 + 1) (and_then (read_params d (at + 1 + 1 + 1)) (λ p m.
      expect k_lbrace m (and_then (more_body d no_stmts (m + 1)) (λ b n. ok (function (at + 1) p b) n)))))

  -- "functions, or none"; l are those so far
  unfoldable pub more_prog : ℕ → Tree prog → ℕ → Res prog
  more_prog zero l at = bad at
  more_prog (suc d) l at =
      elim (eqb (peek at) k_int) [
        | true ↦ and_then (read_fun d at) (λ f m. more_prog d (more_funs l f) m)
        | false ↦
            ok l at
      ]

  -- a whole text: functions, and then the end
  unfoldable pub read_text : ℕ → Res prog
  read_text d = and_then (more_prog d no_funs 0) (λ p m. expect k_end m (ok p m))

-- the tree of a token list, or the number of the first token that does not fit
abbrev pub parsed : List ℕ → Res prog
parsed ks = read_text ks (8 * length ks + 8)
