-- What the search answers to programs on which readings of the paper differ, in one table under one proof by computation. (Document 01's starred "Rules tried by hand" are held from their texts, in list.)
use Prim.Native.Nat.{ℕ, zero, suc}
use mathlib.Core.Path.{◌≡◌, refl}
use mathlib.Core.Bool.{true}
use mathlib.Core.Option.{none, some}
use mathlib.Core.List.{List, [], ◌∷◌, map}
use lib.IntN.{ℤ, pos, negsuc}
use Rattle.semantics.specs.Int.{add, mul, lt, eq, ne, arith, exact, wrap, low32, holds, eq_z}
use Rattle.semantics.specs.Program.{Address, slot, Expr, number, name, op, call, Exprs, more, Cond, const, compare, or, Stmt, empty, declare, unknown, assign, block, if, while, return, fail, Stmts, end, next, Program}
use Rattle.semantics.specs.Does.{within, does, enter, stmt, loop, cond, expr, frame}
use Rattle.semantics.specs.Run.{run, Row, Job, meaning, each, numbers, clamp, counting}
use Rattle.semantics.specs.Search.{to, in_use, Answer, Close, whole, cuts, full, spent, listed, answer, search, openly, probed_once, moves, paths, probed, tried, settings, meets, narrowed, clipped, clip, decided, always, range, fitted, span, max_z, min_z, all32, under, work}

-- ---- how the texts are written here

-- the declarations of a function, in their order
abbrev a : Address
a = slot 0

abbrev b : Address
b = slot 1

abbrev c : Address
c = slot 2

abbrev d : Address
d = slot 3

abbrev num : ℕ → Expr
num n = number (pos n)

abbrev give : ℕ → Stmt
give n = return (num n)

abbrev body₁ : Stmt → Stmts
body₁ s = next s end

abbrev body₂ : Stmt → Stmt → Stmts
body₂ s t = next s (body₁ t)

abbrev body₃ : Stmt → Stmt → Stmt → Stmts
body₃ s t u = next s (body₂ t u)

abbrev main₁ : Stmts → Program
main₁ ss = record { bodies = ss ∷ []; main = 0 }

abbrev main₂ : Stmts → Stmts → Program
main₂ ss f = record { bodies = ss ∷ f ∷ []; main = 0 }

-- the window from 0 to n, and 100 steps
abbrev upto : Program → ℕ → Job
upto p n = record { program = p; window = to (pos 0) (pos n); steps = 100 }

abbrev row : ℤ → List ℤ → Row
row r vs = record { result = r; values = vs }

-- a row of results and values that are not negative
abbrev plan : ℕ → List ℕ → Row
plan r vs = row (pos r) (map pos vs)

-- what is asked, and what is answered
pub record Case : Type 0 where
  pub job : Job
  pub skip : ℕ
  pub room : ℕ
  pub budget : ℕ
  pub answer : Answer

-- rows to skip, places for rows, budget
abbrev asked : Job → ℕ → ℕ → ℕ → List Row → Close → ℕ → Case
asked j skip room budget rs c n = record { job = j; skip = skip; room = room; budget = budget; answer = record { rows = rs; moves = n; close = c } }

-- with those of the program
abbrev gives : Job → List Row → Close → ℕ → Case
gives j rs c n = asked j 0 1000 1000000 rs c n

-- ---- the programs

-- int main() { int y free; if (y < 2) return y; else fail; }
abbrev A : Program
A = main₁ (body₂ (unknown a none) (if (compare lt (name a) (num 2)) (return (name a)) fail))

-- return e;
abbrev value : Expr → Program
value e = main₁ (body₁ (return e))

-- Listing 1 of 002, called by int main() { return log(1); }
abbrev log : Program
log = record {
  bodies = body₁ (return (call 1 (more (num 1) Exprs.none)))
      ∷ body₂ (unknown b none) (if (compare eq (call 2 (more (num 2) (more (name b) Exprs.none))) (name a)) (return (name b)) fail)
      ∷ next (declare c) (next (declare d) (next (assign c (num 0)) (body₃ (assign d (num 1)) (while (compare lt (name c) (name b)) (block (body₂ (assign d (op mul (name d) (name a))) (assign c (op add (name c) (num 1)))))) (return (name d)))))
      ∷ [];
  main = 0;
}

-- n free declarations, and then return 0;
unfoldable pub frees : ℕ → Stmts
frees zero = body₁ (give 0)
frees (suc n) = next (unknown (slot n) none) (frees n)

-- return main();
abbrev deeper : Program
deeper = value (call 0 Exprs.none)

-- if (true) { return 1; } else fail;
abbrev braces : Program
braces = main₁ (body₁ (if (const true) (block (body₁ (give 1))) fail))

-- int i; i = 0; while (i < 1) i = i + 1; return i;
abbrev turn : Program
turn = main₁ (next (declare a) (body₃ (assign a (num 0)) (while (compare lt (name a) (num 1)) (assign a (op add (name a) (num 1)))) (return (name a))))

-- int x; x = 0; { x = 1; } return x;
abbrev inner : Program
inner = main₁ (next (declare a) (body₃ (assign a (num 0)) (block (body₁ (assign a (num 1)))) (return (name a))))

-- int a free; if (a + 1 < a) return 1; else return 0; near the greatest int: the sum wraps for one value
abbrev wraps : Program
wraps = main₁ (body₂ (unknown a none) (if (compare lt (op add (name a) (num 1)) (name a)) (give 1) (give 0)))

-- int a free; if (a < 1 || f() == 0) return 1; else return 0; and int f() { fail; }
abbrev or-side : Program
or-side = main₂ (body₂ (unknown a none) (if (or (compare lt (name a) (num 1)) (compare eq (call 1 Exprs.none) (num 0))) (give 1) (give 0))) (body₁ fail)

-- int a free; if (a < 1) while (true) ; else while (true) ; fail;
abbrev cut_twice : Program
cut_twice = main₁ (body₃ (unknown a none) (if (compare lt (name a) (num 1)) (while (const true) empty) (while (const true) empty)) fail)

-- int a free; if (b) return a; else return a;
abbrev either : Cond → Program
either b = main₁ (body₂ (unknown a none) (if b (return (name a)) (return (name a))))

-- int a free; int b free; if (b == 1) if (a < b) return a; else fail; else fail;
abbrev one_number : Program
one_number = main₁ (body₃ (unknown a none) (unknown b none) (if (compare eq (name b) (num 1)) (if (compare lt (name a) (name b)) (return (name a)) fail) fail))

-- int a free 5 .. 6; int b free; return a + b;
abbrev own_pair : Program
own_pair = main₁ (body₃ (unknown a (some (to (pos 5) (pos 6)))) (unknown b none) (return (op add (name a) (name b))))

abbrev each-value : List ℕ → List Row
each-value vs = map (λ v. plan v (v ∷ [])) vs

abbrev further : List Case
further =
    -- log(1) by Listing 1 of 002, -2 to 2: results -2, -1, 0
    gives (record { program = log; window = to (negsuc 1) (pos 2); steps = 100 }) (row (negsuc 1) (negsuc 1 ∷ []) ∷ row (negsuc 0) (negsuc 0 ∷ []) ∷ plan 0 (0 ∷ []) ∷ []) whole 40
    -- 8 free pass, a ninth is cut, and its step is not counted
    ∷ gives (upto (main₁ (frees 8)) 0) (plan 0 (0 ∷ 0 ∷ 0 ∷ 0 ∷ 0 ∷ 0 ∷ 0 ∷ 0 ∷ []) ∷ []) whole 11
    ∷ gives (upto (main₁ (frees 9)) 0) [] cuts 10
    -- 32 calls nest, and the 33rd is cut and not counted
    ∷ gives (upto deeper 0) [] cuts 65
    -- braces are a statement
    ∷ gives (upto braces 0) (plan 1 [] ∷ []) whole 5
    -- the last working of a while condition is a step too
    ∷ gives (upto turn 0) (plan 1 [] ∷ []) whole 11
    -- what a block assigns stays
    ∷ gives (upto inner 0) (plan 1 [] ∷ []) whole 7
    -- a range that leaves 32 bits decides nothing
    ∷ gives (record { program = wraps; window = to (pos 2147483646) (pos 2147483647); steps = 100 }) (plan 1 (2147483647 ∷ []) ∷ plan 0 (2147483646 ∷ []) ∷ []) whole 12
    -- the right side of `||` is not touched where the left is true
    ∷ gives (upto or-side 1) (plan 1 (0 ∷ []) ∷ []) whole 9
    -- once a cut run is found, later cut paths try no setting
    ∷ gives (record { program = cut_twice; window = to (pos 0) (pos 1); steps = 10 }) [] cuts 18
    -- `!=` removes only an end, and so does a false `==`
    ∷ gives (upto (either (compare ne (name a) (num 0))) 3) (each-value (1 ∷ 2 ∷ 3 ∷ 0 ∷ [])) whole 11
    ∷ gives (upto (either (compare ne (name a) (num 1))) 3) (each-value (0 ∷ 2 ∷ 3 ∷ 1 ∷ [])) whole 12
    ∷ gives (upto (either (compare eq (name a) (num 3))) 3) (each-value (3 ∷ 0 ∷ 1 ∷ 2 ∷ [])) whole 11
    -- the free variable may stand on either side, and the other may be open with a range of one number
    ∷ gives (upto (either (compare lt (num 1) (name a))) 3) (each-value (2 ∷ 3 ∷ 0 ∷ 1 ∷ [])) whole 11
    ∷ gives (upto one_number 2) (plan 0 (0 ∷ 1 ∷ []) ∷ []) whole 13
    -- a comparison that the ranges decide is no choice
    ∷ gives (upto (either (compare lt (name a) (num 5))) 3) (each-value (0 ∷ 1 ∷ 2 ∷ 3 ∷ [])) whole 9
    -- a declaration has its own pair, and a plain one the job's
    ∷ gives (upto own_pair 1) (plan 5 (5 ∷ 0 ∷ []) ∷ plan 6 (5 ∷ 1 ∷ []) ∷ plan 6 (6 ∷ 0 ∷ []) ∷ plan 7 (6 ∷ 1 ∷ []) ∷ []) whole 9
    -- skipped rows need no place; the row that has none is a move; full goes before spent
    ∷ asked (upto A 3) 1 1 1000000 (each-value (1 ∷ [])) whole 9
    ∷ asked (upto A 3) 1 0 1000000 [] full 7
    ∷ asked (upto A 3) 0 1 7 (each-value (0 ∷ [])) full 7
    ∷ asked (upto A 3) 0 1 6 (each-value (0 ∷ [])) spent 6
    ∷ asked (upto A 3) 5 0 1000000 [] whole 9
    ∷ asked (upto A 3) 0 1 0 [] spent 0
    ∷ []

-- int x; return x;
abbrev unset : Program
unset = main₁ (body₂ (declare a) (return (name a)))

-- int i; i = 0; while (i < 9) { int x; if (i < 1) x = 5; else ; i = x; } return i; where x is declared again, it holds nothing again
abbrev renewed : Program
renewed = main₁ (next (declare a) (body₃ (assign a (num 0))
    (while (compare lt (name a) (num 9)) (block (body₃ (declare b) (if (compare lt (name a) (num 1)) (assign b (num 5)) empty) (assign a (name b)))))
    (return (name a))))

-- ---- the proofs

unfoldable pub given : Case → Answer
given c = listed in_use c.job c.skip c.room c.budget

pub further-hold : map given further ≡ map (λ c. c.answer) further
unfolding frees given listed answer search openly probed_once moves paths probed tried settings meets narrowed clipped clip decided always range fitted span max_z min_z all32 under work each numbers clamp counting within does enter stmt loop cond expr frame holds eq_z arith exact wrap low32
further-hold = refl

-- a program that reads what holds nothing has no run, whatever values are chosen
pub reads_nothing : (vs : List ℤ) → map (λ p. run (meaning (upto p 0)) vs) (unset ∷ renewed ∷ []) ≡ none ∷ none ∷ []
unfolding run meaning within does enter stmt loop cond expr frame holds
reads_nothing vs = refl
