-- Code as words in memory: two words an entry, its kind and its number; and after the entries where each function begins, 16 words.
use Rattle.std.specs.Prelude.{ℕ, zero, suc, ◌+◌, ◌*◌, ◌/◌, ◌%◌, ◌<◌, ◌≡◌, true, false, List, [], ◌∷◌, ◌++◌, length, get_or, take, drop, T}
use Rattle.std.proofs.Math.Option.{Option, none, some}
use Rattle.std.specs.Int.Signed.{le_z}
use Rattle.std.specs.Int.{w32}
use Rattle.std.proofs.Common.{to_z}
use Rattle.semantics.specs.Int.{add, sub, mul, lt, le, gt, ge, eq, ne, low32}
use Rattle.semantics.specs.Program.{Window, Address, slot, Expr, Exprs, Cond, Stmt, Stmts, Program}
use Rattle.semantics.specs.Does.{frame}
use Rattle.simulation.specs.Code.{number, name, operate, compare, call, constant, jump, skip, again, begin, ask, own, store, return, fail, Entry, leaf, argument, act, Code}

-- ---- the kinds of entries; a comparison has the kind `c_compare` and its number, 0 to 5

abbrev pub c_fail : ℕ
c_fail = 0

abbrev pub c_number : ℕ
c_number = 1

abbrev pub c_name : ℕ
c_name = 2

abbrev pub c_argument : ℕ
c_argument = 3

abbrev pub c_add : ℕ
c_add = 4

abbrev pub c_sub : ℕ
c_sub = 5

abbrev pub c_mul : ℕ
c_mul = 6

abbrev pub c_compare : ℕ
c_compare = 7

abbrev pub c_call : ℕ
c_call = 13

abbrev pub c_never : ℕ
c_never = 14

abbrev pub c_always : ℕ
c_always = 15

abbrev pub c_jump : ℕ
c_jump = 16

abbrev pub c_jump_true : ℕ
c_jump_true = 17

abbrev pub c_skip : ℕ
c_skip = 18

abbrev pub c_again : ℕ
c_again = 19

abbrev pub c_begin : ℕ
c_begin = 20

abbrev pub c_ask : ℕ
c_ask = 21

abbrev pub c_store : ℕ
c_store = 22

abbrev pub c_return : ℕ
c_return = 23

abbrev pub c_own : ℕ
c_own = 24

-- the words of an entry: its kind, then its number
abbrev pub entry_words : ℕ
entry_words = 2

abbrev pub entry_number : ℕ
entry_number = 1

-- ---- how words are read

-- what each kind means with the number w, from kind 0 on, in the order above
abbrev pub kinds : ℕ → List Entry
kinds w = act fail
    ∷ leaf (number (to_z w32 w)) ∷ leaf (name (slot (w % 16))) ∷ argument w
    ∷ act (operate add w) ∷ act (operate sub w) ∷ act (operate mul w)
    ∷ act (compare lt w) ∷ act (compare le w) ∷ act (compare gt w) ∷ act (compare ge w) ∷ act (compare eq w) ∷ act (compare ne w)
    ∷ act (call (w % 16) (w / 16))
    ∷ act (constant false) ∷ act (constant true) ∷ act (jump false w) ∷ act (jump true w) ∷ act (skip w) ∷ act (again w)
    ∷ act begin ∷ act (ask (slot (w % 16))) ∷ act (store (slot (w % 16))) ∷ act return ∷ act (own (slot (w % 16))) ∷ []

-- a kind that is none of these fails
unfoldable pub entry_of : ℕ → ℕ → Entry
entry_of k w = get_or (kinds w) k (act fail)

-- n entries from word i on
unfoldable pub entries_in : List ℕ → ℕ → ℕ → List Entry
entries_in ws i zero = []
entries_in ws i (suc n) = entry_of (get_or ws i 0) (get_or ws (suc i) 0) ∷ entries_in ws (suc (suc i)) n

-- the code in these words, which has n entries
abbrev pub code_in : List ℕ → ℕ → Code
code_in ws n = record { entries = entries_in ws 0 n; starts = take 16 (drop (entry_words * n) ws) }

-- ---- how words are written

-- the kind of an entry
unfoldable pub kind_of : Entry → ℕ
kind_of (leaf (number z)) = c_number
kind_of (leaf (name a)) = c_name
kind_of (argument d) = c_argument
kind_of (act (operate add d)) = c_add
kind_of (act (operate sub d)) = c_sub
kind_of (act (operate mul d)) = c_mul
kind_of (act (compare lt d)) = c_compare
kind_of (act (compare le d)) = c_compare + 1
kind_of (act (compare gt d)) = c_compare + 2
kind_of (act (compare ge d)) = c_compare + 3
kind_of (act (compare eq d)) = c_compare + 4
kind_of (act (compare ne d)) = c_compare + 5
kind_of (act (call g n)) = c_call
kind_of (act (constant false)) = c_never
kind_of (act (constant true)) = c_always
kind_of (act (jump false d)) = c_jump
kind_of (act (jump true d)) = c_jump_true
kind_of (act (skip d)) = c_skip
kind_of (act (again d)) = c_again
kind_of (act begin) = c_begin
kind_of (act (ask a)) = c_ask
kind_of (act (own a)) = c_own
kind_of (act (store a)) = c_store
kind_of (act return) = c_return
kind_of (act fail) = c_fail

abbrev pub place_of : Address → ℕ
place_of (slot i) = i

-- its number
unfoldable pub word_of : Entry → ℕ
word_of (leaf (number z)) = low32 z
word_of (leaf (name a)) = place_of a
word_of (argument d) = d
word_of (act (operate o d)) = d
word_of (act (compare c d)) = d
word_of (act (call g n)) = g + 16 * n
word_of (act (constant b)) = 0
word_of (act (jump b d)) = d
word_of (act (skip d)) = d
word_of (act (again d)) = d
word_of (act begin) = 0
word_of (act (ask a)) = place_of a
word_of (act (own a)) = place_of a
word_of (act (store a)) = place_of a
word_of (act return) = 0
word_of (act fail) = 0

unfoldable pub words_of : List Entry → List ℕ
words_of [] = []
words_of (x ∷ xs) = kind_of x ∷ word_of x ∷ words_of xs

-- the words of a code; where there are fewer than 16 functions, the places left over lead to 2, where a run fails
unfoldable pub words_in : Code → List ℕ
words_in c = words_of c.entries ++ frame 2 16 c.starts

-- ---- what fits into words

-- an entry whose words are read back as it: a number of 32 bits, a variable among 16, a function among 16
abbrev pub Plain : Entry → Type 0
Plain (leaf (number z)) = to_z w32 (low32 z) ≡ z
Plain (leaf (name a)) = place_of a < 16
Plain (argument d) = Unit {0}
Plain (act (operate o d)) = Unit {0}
Plain (act (compare c d)) = Unit {0}
Plain (act (call g n)) = g < 16
Plain (act (constant b)) = Unit {0}
Plain (act (jump b d)) = Unit {0}
Plain (act (skip d)) = Unit {0}
Plain (act (again d)) = Unit {0}
Plain (act begin) = Unit {0}
Plain (act (ask a)) = place_of a < 16
Plain (act (own a)) = place_of a < 16
Plain (act (store a)) = place_of a < 16
Plain (act return) = Unit {0}
Plain (act fail) = Unit {0}

-- programs that have only such entries, as those of accepted texts have
abbrev pub Small : Address → Type 0
Small a = place_of a < 16

abbrev mutual
  pub FitsE : Expr → Type 0
  FitsE (Expr.number z) = to_z w32 (low32 z) ≡ z
  FitsE (Expr.name a) = Small a
  FitsE (Expr.op o a b) = FitsE a × FitsE b
  FitsE (Expr.call g es) = (g < 16) × FitsEs es

  pub FitsEs : Exprs → Type 0
  FitsEs Exprs.none = Unit {0}
  FitsEs (Exprs.more e es) = FitsE e × FitsEs es

abbrev pub FitsC : Cond → Type 0
FitsC (Cond.const b) = Unit {0}
FitsC (Cond.compare c a b) = FitsE a × FitsE b
FitsC (Cond.and a b) = FitsC a × FitsC b
FitsC (Cond.or a b) = FitsC a × FitsC b

-- each end of an own pair has 32 bits, and the low end is not above the high end
abbrev pub FitsW : Option Window → Type 0
FitsW none = Unit {0}
FitsW (some w) = (to_z w32 (low32 w.low) ≡ w.low) × (to_z w32 (low32 w.high) ≡ w.high) × T (le_z w.low w.high)

abbrev mutual
  pub FitsS : Stmt → Type 0
  FitsS Stmt.empty = Unit {0}
  FitsS (Stmt.declare a) = Unit {0}
  FitsS (Stmt.unknown a o) = Small a × FitsW o
  FitsS (Stmt.assign a e) = Small a × FitsE e
  FitsS (Stmt.eval e) = FitsE e
  FitsS (Stmt.block ss) = FitsSs ss
  FitsS (Stmt.if c s t) = FitsC c × FitsS s × FitsS t
  FitsS (Stmt.while c s) = FitsC c × FitsS s
  FitsS (Stmt.return e) = FitsE e
  FitsS Stmt.fail = Unit {0}

  pub FitsSs : Stmts → Type 0
  FitsSs Stmts.end = Unit {0}
  FitsSs (Stmts.next s ss) = FitsS s × FitsSs ss

abbrev pub FitsBs : List Stmts → Type 0
FitsBs [] = Unit {0}
FitsBs (b ∷ bs) = FitsSs b × FitsBs bs

pub record Fits (p : Program) : Type 0 where
  pub bodies : FitsBs p.bodies
  pub functions : length p.bodies < 17
  pub main : p.main < 16
