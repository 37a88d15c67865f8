-- A text has at most two events for each token.
use Prim.Native.Nat.{ℕ, suc, ◌+◌, ◌*◌, ◌≤◌}
use mathlib.Core.Path.{◌≡◌}
use mathlib.Core.Bool.{true, false, not}
use mathlib.Core.List.{List, [], ◌∷◌, ◌++◌}
use native.Mathlib.Omega.{arith}
use lib.ListN.{length, length-append}
use Rattle.syntax.specs.Token.{k_minus, k_name, k_close, k_comma, k_plus, k_and, k_or, k_semi, k_int, k_lbrace, k_rbrace, k_else}
use Rattle.syntax.specs.Tree.{Cat, Tree, onto, width}
use Rattle.syntax.specs.Tree as T
use Rattle.syntax.specs.Abstract.{ast}
use Rattle.events.specs.Event.{Event, function, parameter, thing, opens, closes, ends, first, stops, closing, events_at, events}

-- an expression has one event fewer
abbrev slack : Cat → ℕ
slack T.operand = 1
slack T.term = 1
slack T.sum = 1
slack T.args = 0
slack T.arg_list = 0
slack T.cmp = 0
slack T.atom = 0
slack T.conj = 0
slack T.cond = 0
slack T.stmt = 0
slack T.stmts = 0
slack T.body = 0
slack T.params = 0
slack T.param_list = 0
slack T.fun = 0
slack T.prog = 0

length_three : (a b c : List Event) → length (a ++ b ++ c) ≡ length a + length b + length c
length_three a b c = simp length-append

length-four : (a b c d : List Event) → length (a ++ b ++ c ++ d) ≡ length a + length b + length c + length d
length-four a b c d = simp length-append

fits : {c : Cat} (d : ℕ) (t : Tree c) (ks : List ℕ) → slack c + length (events_at d (ast t)) + 2 * length ks ≤ 2 * length (onto t ks)
unfolding events_at ast onto
fits d (T.number i) ks = omega arith
fits d (T.negative i) ks = omega arith
fits d (T.name i) ks = omega arith
fits d (T.call i a) ks = omega (arith, fits (suc d) a ks)
fits d (T.bracket i e) ks = omega (arith, fits (suc d) e (k_close ∷ ks))
fits d T.no_args ks = omega arith
fits d (T.some_args l) ks = omega (arith, fits d l (k_close ∷ ks))
fits d (T.first_arg e) ks = omega (arith, fits d e ks)
fits d (T.next_arg l e) ks = omega (arith, fits d l (k_comma ∷ onto e ks), fits d e ks, length-append (events_at d (ast l)) (thing d (first (ast e)) ∷ events_at d (ast e)))
fits d (T.factor o) ks = omega (arith, fits d o ks)
fits d (T.times m t o) ks = omega (arith, fits d t (T.mul_kind m ∷ onto o ks), fits d o ks, length-append (events_at d (ast t)) (events_at d (ast o)))
fits d (T.addend t) ks = omega (arith, fits d t ks)
fits d (T.plus s t) ks = omega (arith, fits d s (k_plus ∷ onto t ks), fits d t ks, length-append (events_at d (ast s)) (events_at d (ast t)))
fits d (T.minus s t) ks = omega (arith, fits d s (k_minus ∷ onto t ks), fits d t ks, length-append (events_at d (ast s)) (events_at d (ast t)))
fits d (T.cmp_mark o) ks = omega arith
fits d T.always ks = omega arith
fits d T.never ks = omega arith
fits d (T.compare a o b) ks = omega (arith, fits d a (onto o (onto b ks)), fits d o (onto b ks), fits d b ks, length-append (events_at d (ast a)) (events_at d (ast b)))
fits d (T.one_atom a) ks = omega (arith, fits d a ks)
fits d (T.both c a) ks = omega (arith, fits d c (k_and ∷ onto a ks), fits d a ks, length-append (events_at d (ast c)) (events_at d (ast a)))
fits d (T.one_conj c) ks = omega (arith, fits d c ks)
fits d (T.either b c) ks = omega (arith, fits d b (k_or ∷ onto c ks), fits d c ks, length-append (events_at d (ast b)) (events_at d (ast c)))
fits d (T.empty i) ks = omega arith
fits d (T.declare i) ks = omega arith
fits d (T.declare_free i) ks = omega arith
fits d (T.declare_own i true true) ks = omega arith
fits d (T.declare_own i true false) ks = omega arith
fits d (T.declare_own i false true) ks = omega arith
fits d (T.declare_own i false false) ks = omega arith
fits d (T.assign i e) ks = omega (arith, fits d e (k_semi ∷ ks))
fits d (T.eval e) ks = omega (arith, fits d e (k_semi ∷ ks))
fits d (T.block i b) ks = omega (arith, fits (suc d) b ks)
fits d (T.if_else i c s t) ks = omega (arith, fits d c (k_close ∷ onto s (k_else ∷ onto t ks)), fits (suc d) s (k_else ∷ onto t ks), fits (suc d) t ks, length-four (thing d i ∷ events_at d (ast c)) (opens ∷ events_at (suc d) (ast s)) (closes ∷ opens ∷ events_at (suc d) (ast t)) (closes ∷ []))
fits d (T.while i c s) ks = omega (arith, fits d c (k_close ∷ onto s ks), fits (suc d) s ks, length_three (thing d i ∷ events_at d (ast c)) (opens ∷ events_at (suc d) (ast s)) (closes ∷ []))
fits d (T.return i e) ks = omega (arith, fits d e (k_semi ∷ ks))
fits d (T.fail i) ks = omega arith
fits d T.no_stmts ks = omega arith
fits d (T.more_stmts l s) ks = omega (arith, fits d l (onto s ks), fits d s ks, length-append (events_at d (ast l)) (events_at d (ast s)))
fits d (T.braced l i) ks = omega (arith, fits d l (k_rbrace ∷ ks), length-append (events_at d (ast l)) (closes ∷ []))
fits d T.no_params ks = omega arith
fits d (T.some_params l) ks = omega (arith, fits d l (k_close ∷ ks))
fits d (T.first_param i) ks = omega arith
fits d (T.next_param l i) ks = omega (arith, fits d l (k_comma ∷ k_int ∷ k_name ∷ ks), length-append (events_at d (ast l)) (parameter i ∷ []))
fits d (T.function i p b) ks = omega (arith, fits d p (k_lbrace ∷ onto b ks), fits d b ks, length_three (function i ∷ events_at d (ast p)) (events_at d (ast b)) (ends (closing (ast b)) (not (stops (ast b))) ∷ []))
fits d T.no_funs ks = omega arith
fits d (T.more_funs p f) ks = omega (arith, fits d p (onto f ks), fits d f ks, length-append (events_at d (ast p)) (events_at d (ast f)))

pub capacity : {c : Cat} (d : ℕ) (t : Tree c) → length (events_at d (ast t)) ≤ 2 * width t
capacity d t = omega (arith, fits d t [])

-- so a text of 2,048 tokens has at most 4,096 events
pub program-fits : (p : Tree T.prog) → width p ≤ 2048 → length (events (ast p)) ≤ 4096
unfolding events
program-fits p h = omega (arith, capacity 1 p)
