-- The machine takes the tokens of every tree.
use Prim.Native.Nat.{ℕ}
use mathlib.Core.Path.{◌≡◌, refl, sym, ◌∙◌, subst}
use mathlib.Core.Bool.{true, false}
use mathlib.Core.List.{List, [], ◌∷◌}
use lib.Dec.{eqb}
use Rattle.syntax.specs.Token.{k_name, k_number, k_open, k_close, k_comma, k_plus, k_minus, k_times, k_true, k_false, k_and, k_or, k_semi, k_assign, k_lbrace, k_rbrace, k_int, k_if, k_else, k_while, k_return, k_fail}
use Rattle.syntax.specs.Tree.{Cat, Tree, mul_kind, Cmp, cmp_kind, onto}
use Rattle.syntax.specs.Tree.{operand, term, sum, args, arg_list, cmp, atom, conj, cond, less, equal, less_eq, greater, greater_eq, unequal, stmt, stmts, body, params, param_list, fun, prog}
use Rattle.syntax.specs.Tree.{number, negative, name, call, bracket, no_args, some_args, first_arg, next_arg, factor, product, times, addend, plus, minus, cmp_mark, always, never, compare, one_atom, both, one_conj, either, empty, declare, declare_free, declare_own, assign, eval, block, if_else, while, return, fail, no_stmts, more_stmts, braced, no_params, some_params, first_param, next_param, function, no_funs, more_funs}
use Rattle.grammar.proofs.Machine.{Stack, step, run}
use Rattle.grammar.proofs.Machine.{tok, s_operand, s_term, s_terms, s_sum, s_sums, s_args, s_more, s_cmp, s_atom, s_conj, s_conjs, s_cond, s_conds, s_stmt, s_body, s_params, s_param_more, s_funs}

-- what is expected before a tree, and after it
abbrev pub before : Cat → Stack → Stack
before operand ss = s_operand ∷ ss
before term ss = s_term ∷ ss
before sum ss = s_sum ∷ ss
before args ss = s_args ∷ ss
before arg_list ss = s_args ∷ ss
before cmp ss = s_cmp ∷ ss
before atom ss = s_atom ∷ ss
before conj ss = s_conj ∷ ss
before cond ss = s_cond ∷ ss
before stmt ss = s_stmt ∷ ss
before stmts ss = s_body ∷ ss
before body ss = s_body ∷ ss
before params ss = s_params ∷ ss
before param_list ss = s_params ∷ ss
before fun ss = s_funs ∷ ss
before prog ss = s_funs ∷ ss

abbrev pub behind : Cat → Stack → Stack
behind operand ss = ss
behind term ss = s_terms ∷ ss
behind sum ss = s_sums ∷ ss
behind args ss = ss
behind arg_list ss = s_more ∷ ss
behind cmp ss = ss
behind atom ss = ss
behind conj ss = s_conjs ∷ ss
behind cond ss = s_conds ∷ ss
behind stmt ss = ss
behind stmts ss = s_body ∷ ss
behind body ss = ss
behind params ss = ss
behind param_list ss = s_param_more ∷ ss
behind fun ss = s_funs ∷ ss
behind prog ss = s_funs ∷ ss

-- the next token does not go on with what was read
abbrev pub Quiet : Cat → ℕ → Type 0
Quiet operand k = eqb k k_open ≡ false
Quiet term k = eqb k k_open ≡ false
Quiet sum k = (eqb k k_open ≡ false) × (eqb k k_times ≡ false)
Quiet args k = Unit {0}
Quiet arg_list k = (eqb k k_open ≡ false) × (eqb k k_times ≡ false) × (eqb k k_plus ≡ false) × (eqb k k_minus ≡ false)
Quiet cmp k = Unit {0}
Quiet atom k = (eqb k k_open ≡ false) × (eqb k k_times ≡ false) × (eqb k k_plus ≡ false) × (eqb k k_minus ≡ false)
Quiet conj k = (eqb k k_open ≡ false) × (eqb k k_times ≡ false) × (eqb k k_plus ≡ false) × (eqb k k_minus ≡ false)
Quiet cond k = (eqb k k_open ≡ false) × (eqb k k_times ≡ false) × (eqb k k_plus ≡ false) × (eqb k k_minus ≡ false) × (eqb k k_and ≡ false)
Quiet stmt k = Unit {0}
Quiet stmts k = Unit {0}
Quiet body k = Unit {0}
Quiet params k = Unit {0}
Quiet param_list k = Unit {0}
Quiet fun k = Unit {0}
Quiet prog k = Unit {0}

-- how a tree begins
abbrev pub First : Cat → ℕ → Type 0
First operand j = (eqb j k_close ≡ false) × (eqb j k_true ≡ false) × (eqb j k_false ≡ false) × (eqb j k_rbrace ≡ false)
First term j = (eqb j k_close ≡ false) × (eqb j k_true ≡ false) × (eqb j k_false ≡ false) × (eqb j k_rbrace ≡ false)
First sum j = (eqb j k_close ≡ false) × (eqb j k_true ≡ false) × (eqb j k_false ≡ false) × (eqb j k_rbrace ≡ false)
First args j = Unit {0}
First arg_list j = Unit {0}
First cmp j = Unit {0}
First atom j = Unit {0}
First conj j = Unit {0}
First cond j = Unit {0}
First stmt j = eqb j k_rbrace ≡ false
First stmts j = Unit {0}
First body j = Unit {0}
First params j = Unit {0}
First param_list j = Unit {0}
First fun j = Unit {0}
First prog j = Unit {0}

pub record Begins (c : Cat) (l : List ℕ) : Type 0 where
  pub one : ℕ
  pub more : List ℕ
  pub is : l ≡ one ∷ more
  pub first : First c one

abbrev pub BeginsOf : Cat → List ℕ → Type 0
BeginsOf operand l = Begins operand l
BeginsOf term l = Begins term l
BeginsOf sum l = Begins sum l
BeginsOf args l = Begins args l
BeginsOf arg_list l = Begins arg_list l
BeginsOf cmp l = Begins cmp l
BeginsOf atom l = Begins atom l
BeginsOf conj l = Begins conj l
BeginsOf cond l = Begins cond l
BeginsOf stmt l = Begins stmt l
BeginsOf stmts l = Unit {0}
BeginsOf body l = Unit {0}
BeginsOf params l = Unit {0}
BeginsOf param_list l = Unit {0}
BeginsOf fun l = Unit {0}
BeginsOf prog l = Unit {0}

pub begins : {c : Cat} (t : Tree c) (r : List ℕ) → BeginsOf c (onto t r)
unfolding onto
begins (number i) r = record { one = k_number; more = _; is = refl; first = (refl, refl, refl, refl) }
begins (negative i) r = record { one = k_minus; more = _; is = refl; first = (refl, refl, refl, refl) }
begins (name i) r = record { one = k_name; more = _; is = refl; first = (refl, refl, refl, refl) }
begins (call i a) r = record { one = k_name; more = _; is = refl; first = (refl, refl, refl, refl) }
begins (bracket i e) r = record { one = k_open; more = _; is = refl; first = (refl, refl, refl, refl) }
begins no_args r = record { one = k_close; more = _; is = refl; first = tt }
begins (some_args l) r = let b = begins l (k_close ∷ r) in record { one = b.one; more = b.more; is = b.is; first = tt }
begins (first_arg e) r = let b = begins e r in record { one = b.one; more = b.more; is = b.is; first = tt }
begins (next_arg l e) r = begins l (k_comma ∷ onto e r)
begins (factor o) r = let b = begins o r in record { one = b.one; more = b.more; is = b.is; first = b.first }
begins (times m t o) r = begins t (mul_kind m ∷ onto o r)
begins (addend t) r = let b = begins t r in record { one = b.one; more = b.more; is = b.is; first = b.first }
begins (plus s t) r = begins s (k_plus ∷ onto t r)
begins (minus s t) r = begins s (k_minus ∷ onto t r)
begins (cmp_mark o) r = record { one = _; more = _; is = refl; first = tt }
begins always r = record { one = _; more = _; is = refl; first = tt }
begins never r = record { one = _; more = _; is = refl; first = tt }
begins (compare a o b) r = let b = begins a (onto o (onto b r)) in record { one = b.one; more = b.more; is = b.is; first = tt }
begins (one_atom a) r = let b = begins a r in record { one = b.one; more = b.more; is = b.is; first = tt }
begins (both c a) r = begins c (k_and ∷ onto a r)
begins (one_conj c) r = let b = begins c r in record { one = b.one; more = b.more; is = b.is; first = tt }
begins (either b c) r = begins b (k_or ∷ onto c r)
begins (empty i) r = record { one = k_semi; more = _; is = refl; first = refl }
begins (declare i) r = record { one = k_int; more = _; is = refl; first = refl }
begins (declare_free i) r = record { one = k_int; more = _; is = refl; first = refl }
begins (declare_own i a b) r = record { one = k_int; more = _; is = refl; first = refl }
begins (assign i e) r = record { one = k_name; more = _; is = refl; first = refl }
begins (eval e) r = let b = begins e (k_semi ∷ r) in record { one = b.one; more = b.more; is = b.is; first = b.first.3 }
begins (block i b) r = record { one = k_lbrace; more = _; is = refl; first = refl }
begins (if_else i c s t) r = record { one = k_if; more = _; is = refl; first = refl }
begins (while i c s) r = record { one = k_while; more = _; is = refl; first = refl }
begins (return i e) r = record { one = k_return; more = _; is = refl; first = refl }
begins (fail i) r = record { one = k_fail; more = _; is = refl; first = refl }
begins no_stmts r = tt
begins (more_stmts l s) r = tt
begins (braced l i) r = tt
begins no_params r = tt
begins (some_params l) r = tt
begins (first_param i) r = tt
begins (next_param l i) r = tt
begins (function i p b) r = tt
begins no_funs r = tt
begins (more_funs p f) r = tt

-- an argument list expects a sum, and so does an atom, unless the first token says otherwise
args-sum : (t : Tree sum) (ss : Stack) (r : List ℕ) → run (s_args ∷ ss) (onto t r) ≡ run (s_sum ∷ s_more ∷ ss) (onto t r)
unfolding run step
args-sum t ss r = let b = begins t r in rw (b.is, b.first.0) refl

atom-sum : (t : Tree sum) (ss : Stack) (r : List ℕ) → run (s_atom ∷ ss) (onto t r) ≡ run (s_sum ∷ s_cmp ∷ s_sum ∷ ss) (onto t r)
unfolding run step
atom-sum t ss r = let b = begins t r in rw (b.is, b.first.1, b.first.2) refl

-- how a sum begins where a statement may
pub data Start : List ℕ → Type 0 where
  s-number : {r : List ℕ} → Start (k_number ∷ r)
  s-minus : {r : List ℕ} → Start (k_minus ∷ r)
  s-open : {r : List ℕ} → Start (k_open ∷ r)
  s-name : {k : ℕ} {r : List ℕ} → eqb k k_assign ≡ false → Start (k_name ∷ k ∷ r)

abbrev pub StartOf : Cat → List ℕ → Type 0
StartOf operand l = Start l
StartOf term l = Start l
StartOf sum l = Start l
StartOf args l = Unit {0}
StartOf arg_list l = Unit {0}
StartOf cmp l = Unit {0}
StartOf atom l = Unit {0}
StartOf conj l = Unit {0}
StartOf cond l = Unit {0}
StartOf stmt l = Unit {0}
StartOf stmts l = Unit {0}
StartOf body l = Unit {0}
StartOf params l = Unit {0}
StartOf param_list l = Unit {0}
StartOf fun l = Unit {0}
StartOf prog l = Unit {0}

pub starts : {c : Cat} (t : Tree c) (k : ℕ) (r : List ℕ) → eqb k k_assign ≡ false → StartOf c (onto t (k ∷ r))
unfolding onto
starts (number i) k r e = s-number
starts (negative i) k r e = s-minus
starts (name i) k r e = s-name e
starts (call i a) k r e = s-name refl
starts (bracket i t) k r e = s-open
starts (factor o) k r e = starts o k r e
starts (times product t o) k r e = starts t k_times (onto o (k ∷ r)) refl
starts (addend t) k r e = starts t k r e
starts (plus s t) k r e = starts s k_plus (onto t (k ∷ r)) refl
starts (minus s t) k r e = starts s k_minus (onto t (k ∷ r)) refl
starts no_args k r e = tt
starts (some_args l) k r e = tt
starts (first_arg t) k r e = tt
starts (next_arg l t) k r e = tt
starts (cmp_mark o) k r e = tt
starts always k r e = tt
starts never k r e = tt
starts (compare a o b) k r e = tt
starts (one_atom a) k r e = tt
starts (both c a) k r e = tt
starts (one_conj c) k r e = tt
starts (either b c) k r e = tt
starts (empty i) k r e = tt
starts (declare i) k r e = tt
starts (declare_free i) k r e = tt
starts (declare_own i a b) k r e = tt
starts (assign i t) k r e = tt
starts (eval t) k r e = tt
starts (block i b) k r e = tt
starts (if_else i c s t) k r e = tt
starts (while i c s) k r e = tt
starts (return i t) k r e = tt
starts (fail i) k r e = tt
starts no_stmts k r e = tt
starts (more_stmts l s) k r e = tt
starts (braced l i) k r e = tt
starts no_params k r e = tt
starts (some_params l) k r e = tt
starts (first_param i) k r e = tt
starts (next_param l i) k r e = tt
starts (function i p b) k r e = tt
starts no_funs k r e = tt
starts (more_funs p f) k r e = tt

stmt-sum : {l : List ℕ} (ss : Stack) → Start l → run (s_stmt ∷ ss) l ≡ run (s_sum ∷ tok k_semi ∷ ss) l
unfolding run step
stmt-sum ss s-number = refl
stmt-sum ss s-minus = refl
stmt-sum ss s-open = refl
stmt-sum ss (s-name e) = rw e

body-stmt : (t : Tree stmt) (ss : Stack) (r : List ℕ) → run (s_body ∷ ss) (onto t r) ≡ run (s_stmt ∷ s_body ∷ ss) (onto t r)
unfolding run step
body-stmt t ss r = let b = begins t r in rw (b.is, b.first) refl

skip-terms : (k : ℕ) (ss : Stack) (r : List ℕ) → eqb k k_times ≡ false → run (s_terms ∷ ss) (k ∷ r) ≡ run ss (k ∷ r)
unfolding run step
skip-terms k ss r e = rw e

skip-sums : (k : ℕ) (ss : Stack) (r : List ℕ) → eqb k k_plus ≡ false → eqb k k_minus ≡ false → run (s_sums ∷ ss) (k ∷ r) ≡ run ss (k ∷ r)
unfolding run step
skip-sums k ss r e f = rw (e, f)

skip-conjs : (k : ℕ) (ss : Stack) (r : List ℕ) → eqb k k_and ≡ false → run (s_conjs ∷ ss) (k ∷ r) ≡ run ss (k ∷ r)
unfolding run step
skip-conjs k ss r e = rw e

pub cmp-quiet : (c : Cmp) → Quiet arg_list (cmp_kind c)
cmp-quiet less = (refl, refl, refl, refl)
cmp-quiet less_eq = (refl, refl, refl, refl)
cmp-quiet greater = (refl, refl, refl, refl)
cmp-quiet greater_eq = (refl, refl, refl, refl)
cmp-quiet equal = (refl, refl, refl, refl)
cmp-quiet unequal = (refl, refl, refl, refl)

run-cmp : (c : Cmp) (ss : Stack) (r : List ℕ) → run (s_cmp ∷ ss) (cmp_kind c ∷ r) ≡ run ss r
unfolding run step
run-cmp less ss r = refl
run-cmp less_eq ss r = refl
run-cmp greater ss r = refl
run-cmp greater_eq ss r = refl
run-cmp equal ss r = refl
run-cmp unequal ss r = refl

pub accept : {c : Cat} (t : Tree c) (ss : Stack) (k : ℕ) (r : List ℕ) → Quiet c k → run (before c ss) (onto t (k ∷ r)) ≡ run (behind c ss) (k ∷ r)
unfolding onto run step
accept (number i) ss k r q = refl
accept (negative i) ss k r q = refl
accept (name i) ss k r q = rw q
accept (call i a) ss k r q = accept a ss k r tt
accept (bracket i e) ss k r q = accept e (tok k_close ∷ ss) k_close (k ∷ r) (refl, refl)
accept no_args ss k r q = refl
accept (some_args l) ss k r q = accept l ss k_close (k ∷ r) (refl, refl, refl, refl)
accept (first_arg e) ss k r q = args-sum e ss (k ∷ r) ∙ accept e (s_more ∷ ss) k r (q.0, q.1) ∙ skip-sums k (s_more ∷ ss) r q.2 q.3
accept (next_arg l e) ss k r q = accept l ss k_comma (onto e (k ∷ r)) (refl, refl, refl, refl) ∙ accept e (s_more ∷ ss) k r (q.0, q.1) ∙ skip-sums k (s_more ∷ ss) r q.2 q.3
accept (factor o) ss k r q = run-term (onto o (k ∷ r)) ∙ accept o (s_terms ∷ ss) k r q
  where
    run-term : (l : List ℕ) → run (s_term ∷ ss) l ≡ run (s_operand ∷ s_terms ∷ ss) l
    run-term [] = refl
    run-term (x ∷ l) = refl
accept (times product t o) ss k r q = accept t ss k_times (onto o (k ∷ r)) refl ∙ accept o (s_terms ∷ ss) k r q
accept (addend t) ss k r q = run-sum (onto t (k ∷ r)) ∙ accept t (s_sums ∷ ss) k r q.0 ∙ skip-terms k (s_sums ∷ ss) r q.1
  where
    run-sum : (l : List ℕ) → run (s_sum ∷ ss) l ≡ run (s_term ∷ s_sums ∷ ss) l
    run-sum [] = refl
    run-sum (x ∷ l) = refl
accept (plus s t) ss k r q = accept s ss k_plus (onto t (k ∷ r)) (refl, refl) ∙ accept t (s_sums ∷ ss) k r q.0 ∙ skip-terms k (s_sums ∷ ss) r q.1
accept (minus s t) ss k r q = accept s ss k_minus (onto t (k ∷ r)) (refl, refl) ∙ accept t (s_sums ∷ ss) k r q.0 ∙ skip-terms k (s_sums ∷ ss) r q.1
accept (cmp_mark c) ss k r q = run-cmp c ss (k ∷ r)
accept always ss k r q = refl
accept never ss k r q = refl
accept (compare a (cmp_mark c) b) ss k r q =
    let z = cmp-quiet c in
    atom-sum a ss (cmp_kind c ∷ onto b (k ∷ r))
    ∙ accept a (s_cmp ∷ s_sum ∷ ss) (cmp_kind c) (onto b (k ∷ r)) (z.0, z.1)
    ∙ skip-sums (cmp_kind c) (s_cmp ∷ s_sum ∷ ss) (onto b (k ∷ r)) z.2 z.3
    ∙ run-cmp c (s_sum ∷ ss) (onto b (k ∷ r))
    ∙ accept b ss k r (q.0, q.1)
    ∙ skip-sums k ss r q.2 q.3
accept (one_atom a) ss k r q = run-conj (onto a (k ∷ r)) ∙ accept a (s_conjs ∷ ss) k r q
  where
    run-conj : (l : List ℕ) → run (s_conj ∷ ss) l ≡ run (s_atom ∷ s_conjs ∷ ss) l
    run-conj [] = refl
    run-conj (x ∷ l) = refl
accept (both c a) ss k r q = accept c ss k_and (onto a (k ∷ r)) (refl, refl, refl, refl) ∙ accept a (s_conjs ∷ ss) k r q
accept (one_conj c) ss k r q = run-cond (onto c (k ∷ r)) ∙ accept c (s_conds ∷ ss) k r (q.0, q.1, q.2, q.3) ∙ skip-conjs k (s_conds ∷ ss) r q.4
  where
    run-cond : (l : List ℕ) → run (s_cond ∷ ss) l ≡ run (s_conj ∷ s_conds ∷ ss) l
    run-cond [] = refl
    run-cond (x ∷ l) = refl
accept (either b c) ss k r q = accept b ss k_or (onto c (k ∷ r)) (refl, refl, refl, refl, refl) ∙ accept c (s_conds ∷ ss) k r (q.0, q.1, q.2, q.3) ∙ skip-conjs k (s_conds ∷ ss) r q.4
accept (empty i) ss k r q = refl
accept (declare i) ss k r q = refl
accept (declare_free i) ss k r q = refl
accept (declare_own i true true) ss k r q = refl
accept (declare_own i true false) ss k r q = refl
accept (declare_own i false true) ss k r q = refl
accept (declare_own i false false) ss k r q = refl
accept (assign i e) ss k r q = accept e (tok k_semi ∷ ss) k_semi (k ∷ r) (refl, refl)
accept (eval e) ss k r q = stmt-sum ss (starts e k_semi (k ∷ r) refl) ∙ accept e (tok k_semi ∷ ss) k_semi (k ∷ r) (refl, refl)
accept (block i b) ss k r q = accept b ss k r tt
accept (if_else i c s t) ss k r q =
    accept c (tok k_close ∷ s_stmt ∷ tok k_else ∷ s_stmt ∷ ss) k_close (onto s (k_else ∷ onto t (k ∷ r))) (refl, refl, refl, refl, refl)
    ∙ accept s (tok k_else ∷ s_stmt ∷ ss) k_else (onto t (k ∷ r)) tt
    ∙ accept t ss k r tt
accept (while i c s) ss k r q =
    accept c (tok k_close ∷ s_stmt ∷ ss) k_close (onto s (k ∷ r)) (refl, refl, refl, refl, refl)
    ∙ accept s ss k r tt
accept (return i e) ss k r q = accept e (tok k_semi ∷ ss) k_semi (k ∷ r) (refl, refl)
accept (fail i) ss k r q = refl
accept no_stmts ss k r q = refl
accept (more_stmts l s) ss k r q = on-begins (begins s (k ∷ r)) (λ j m. accept l ss j m tt) ∙ body-stmt s ss (k ∷ r) ∙ accept s (s_body ∷ ss) k r tt
  where
    on-begins : Begins stmt (onto s (k ∷ r)) → ((j : ℕ) (m : List ℕ) → run (s_body ∷ ss) (onto l (j ∷ m)) ≡ run (s_body ∷ ss) (j ∷ m)) → run (s_body ∷ ss) (onto l (onto s (k ∷ r))) ≡ run (s_body ∷ ss) (onto s (k ∷ r))
    on-begins b f = subst (λ (x : List ℕ). run (s_body ∷ ss) (onto l x) ≡ run (s_body ∷ ss) x) (sym b.is) (f b.one b.more)
accept (braced l i) ss k r q = accept l ss k_rbrace (k ∷ r) tt
accept no_params ss k r q = refl
accept (some_params l) ss k r q = accept l ss k_close (k ∷ r) tt
accept (first_param i) ss k r q = refl
accept (next_param l i) ss k r q = accept l ss k_comma (k_int ∷ k_name ∷ k ∷ r) tt
accept (function i p b) ss k r q = accept p (tok k_lbrace ∷ s_body ∷ s_funs ∷ ss) k_lbrace (onto b (k ∷ r)) tt ∙ accept b (s_funs ∷ ss) k r tt
accept no_funs ss k r q = refl
accept (more_funs p (function i q b)) ss k r z = accept p ss k_int (k_name ∷ k_open ∷ onto q (k_lbrace ∷ onto b (k ∷ r))) tt ∙ accept (function i q b) ss k r tt
