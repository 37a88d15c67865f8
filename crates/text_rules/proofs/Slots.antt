-- A function's body with its names resolved: its declarations have numbers, their slots, in the order of the text;
-- each name means a slot given before it, of a declaration that can be seen there; and each call has as many arguments as the function that it means has parameters.
use Prim.Native.Nat.{ℕ, suc, ◌+◌, ◌≤◌, ◌<◌}
use mathlib.Core.Path.{◌≡◌}
use mathlib.Core.Bool.{Bool}
use mathlib.Core.List.{List, ◌∷◌}
use native.Mathlib.Omega.{arith}
use lib.ListN.{length, get_or}
use Rattle.syntax.specs.Tree.{Mul}
use Rattle.syntax.specs.Ast.{Sort, Ast, expr, args, mark, cond, stmt, stmts, body}
use Rattle.syntax.specs.Ast as A
use Rattle.events.specs.Event.{count}
use Rattle.semantics.specs.Demand.{◌∈◌}

-- `arities`: how many parameters each function of the text has; `means i`: what the name at token i means
module _ (arities : List ℕ) (means : ℕ → ℕ) where
  -- an expression, arguments or a condition, where the slots below lo are given and those of `seen` can be seen
  pub data Reads (seen : List ℕ) (lo : ℕ) : (s : Sort) → Ast s → Type 0 where
    number : {i : ℕ} → Reads seen lo expr (A.number i)
    negative : {i : ℕ} → Reads seen lo expr (A.negative i)
    name : {i : ℕ} → means i < lo → means i ∈ seen → Reads seen lo expr (A.name i)
    call : {i : ℕ} {a : Ast args} → means i < length arities → get_or arities (means i) 0 ≡ count a → Reads seen lo args a → Reads seen lo expr (A.call i a)
    bracket : {i : ℕ} {e : Ast expr} → Reads seen lo expr e → Reads seen lo expr (A.bracket i e)
    times : {o : Mul} {a b : Ast expr} → Reads seen lo expr a → Reads seen lo expr b → Reads seen lo expr (A.times o a b)
    plus : {a b : Ast expr} → Reads seen lo expr a → Reads seen lo expr b → Reads seen lo expr (A.plus a b)
    minus : {a b : Ast expr} → Reads seen lo expr a → Reads seen lo expr b → Reads seen lo expr (A.minus a b)
    no_args : Reads seen lo args A.no_args
    more_args : {l : Ast args} {e : Ast expr} → Reads seen lo args l → Reads seen lo expr e → Reads seen lo args (A.more_args l e)
    always : Reads seen lo cond A.always
    never : Reads seen lo cond A.never
    compare : {a b : Ast expr} {o : Ast mark} → Reads seen lo expr a → Reads seen lo expr b → Reads seen lo cond (A.compare a o b)
    both : {a b : Ast cond} → Reads seen lo cond a → Reads seen lo cond b → Reads seen lo cond (A.both a b)
    either : {a b : Ast cond} → Reads seen lo cond a → Reads seen lo cond b → Reads seen lo cond (A.either a b)

  -- Slots s seen lo t seen' hi, for t of sort s: the declarations in t have the slots lo, lo + 1, .. up to hi; before t the slots of `seen` can be seen, the newest first, and after it those of seen'
  pub data Slots : (s : Sort) → List ℕ → ℕ → Ast s → List ℕ → ℕ → Type 0 where
    empty : {seen : List ℕ} {lo i : ℕ} → Slots stmt seen lo (A.empty i) seen lo
    declare : {seen : List ℕ} {lo i : ℕ} → means (i + 1) ≡ lo → Slots stmt seen lo (A.declare i) (lo ∷ seen) (suc lo)
    declare_free : {seen : List ℕ} {lo i : ℕ} → means (i + 1) ≡ lo → Slots stmt seen lo (A.declare_free i) (lo ∷ seen) (suc lo)
    declare_own : {seen : List ℕ} {lo i : ℕ} {a b : Bool} → means (i + 1) ≡ lo → Slots stmt seen lo (A.declare_own i a b) (lo ∷ seen) (suc lo)
    assign : {seen : List ℕ} {lo i : ℕ} {e : Ast expr} → means i < lo → means i ∈ seen → Reads seen lo expr e → Slots stmt seen lo (A.assign i e) seen lo
    eval : {seen : List ℕ} {lo : ℕ} {e : Ast expr} → Reads seen lo expr e → Slots stmt seen lo (A.eval e) seen lo
    block : {seen : List ℕ} {lo hi i : ℕ} {b : Ast body} → Slots body seen lo b seen hi → Slots stmt seen lo (A.block i b) seen hi
    if_else : {seen seen₁ seen₂ : List ℕ} {lo mid hi i : ℕ} {c : Ast cond} {s t : Ast stmt}
        → Reads seen lo cond c → Slots stmt seen lo s seen₁ mid → Slots stmt seen mid t seen₂ hi → Slots stmt seen lo (A.if_else i c s t) seen hi
    while : {seen seen₁ : List ℕ} {lo hi i : ℕ} {c : Ast cond} {s : Ast stmt} → Reads seen lo cond c → Slots stmt seen lo s seen₁ hi → Slots stmt seen lo (A.while i c s) seen hi
    return : {seen : List ℕ} {lo i : ℕ} {e : Ast expr} → Reads seen lo expr e → Slots stmt seen lo (A.return i e) seen lo
    fail : {seen : List ℕ} {lo i : ℕ} → Slots stmt seen lo (A.fail i) seen lo
    no_stmts : {seen : List ℕ} {lo : ℕ} → Slots stmts seen lo A.no_stmts seen lo
    more_stmts : {seen seen₁ seen₂ : List ℕ} {lo mid hi : ℕ} {l : Ast stmts} {s : Ast stmt}
        → Slots stmts seen lo l seen₁ mid → Slots stmt seen₁ mid s seen₂ hi → Slots stmts seen lo (A.more_stmts l s) seen₂ hi
    braced : {seen seen₁ : List ℕ} {lo hi j : ℕ} {l : Ast stmts} → Slots stmts seen lo l seen₁ hi → Slots body seen lo (A.braced l j) seen hi

  -- the numbers only rise
  pub slots-rise : {s : Sort} {seen seen' : List ℕ} {lo hi : ℕ} {t : Ast s} → Slots s seen lo t seen' hi → lo ≤ hi
  slots-rise empty = omega arith
  slots-rise (declare e) = omega arith
  slots-rise (declare_free e) = omega arith
  slots-rise (declare_own e) = omega arith
  slots-rise (assign h k r) = omega arith
  slots-rise (eval r) = omega arith
  slots-rise (block b) = slots-rise b
  slots-rise (if_else r s t) = omega (arith, slots-rise s, slots-rise t)
  slots-rise (while r s) = slots-rise s
  slots-rise (return r) = omega arith
  slots-rise fail = omega arith
  slots-rise no_stmts = omega arith
  slots-rise (more_stmts l s) = omega (arith, slots-rise l, slots-rise s)
  slots-rise (braced l) = slots-rise l
