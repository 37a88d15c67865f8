-- Two syntax trees that differ only in brackets and in the numbers of their tokens: a text's and that of its house style.
use Prim.Native.Nat.{ℕ, ◌+◌}
use mathlib.Core.Bool.{Bool}
use mathlib.Core.Path.{◌≡◌, refl, ap, ap₂}
use mathlib.Core.List.{List}
use Rattle.syntax.specs.Tree.{Mul, Cmp}
use Rattle.syntax.specs.Ast.{Sort, Ast, expr, args, mark, cond, stmt, stmts, body, params, fun, prog, low_first, low_number, high_number}
use Rattle.syntax.specs.Ast as A
use Rattle.house_style.specs.Named as N
use Rattle.house_style.specs.Named.{strip}

-- F of two names of functions, R of two names of variables, G of two numbers that stand at the same place
pub data Like (F R G : ℕ → ℕ → Type 0) : (s : Sort) → Ast s → Ast s → Type 0 where
  number : {i j : ℕ} → G i j → Like F R G expr (A.number i) (A.number j)
  negative : {i j : ℕ} → G (i + 1) (j + 1) → Like F R G expr (A.negative i) (A.negative j)
  name : {i j : ℕ} → R i j → Like F R G expr (A.name i) (A.name j)
  call : {i j : ℕ} {a b : Ast args} → F i j → Like F R G args a b → Like F R G expr (A.call i a) (A.call j b)
  left : {i : ℕ} {x y : Ast expr} → Like F R G expr x y → Like F R G expr (A.bracket i x) y
  right : {j : ℕ} {x y : Ast expr} → Like F R G expr x y → Like F R G expr x (A.bracket j y)
  times : {o : Mul} {a b c d : Ast expr} → Like F R G expr a c → Like F R G expr b d → Like F R G expr (A.times o a b) (A.times o c d)
  plus : {a b c d : Ast expr} → Like F R G expr a c → Like F R G expr b d → Like F R G expr (A.plus a b) (A.plus c d)
  minus : {a b c d : Ast expr} → Like F R G expr a c → Like F R G expr b d → Like F R G expr (A.minus a b) (A.minus c d)
  no_args : Like F R G args A.no_args A.no_args
  more_args : {l m : Ast args} {x y : Ast expr} → Like F R G args l m → Like F R G expr x y → Like F R G args (A.more_args l x) (A.more_args m y)
  cmp_mark : {o : Cmp} → Like F R G mark (A.cmp_mark o) (A.cmp_mark o)
  always : Like F R G cond A.always A.always
  never : Like F R G cond A.never A.never
  compare : {a b c d : Ast expr} {o q : Ast mark} → Like F R G expr a c → Like F R G mark o q → Like F R G expr b d → Like F R G cond (A.compare a o b) (A.compare c q d)
  both : {a b c d : Ast cond} → Like F R G cond a c → Like F R G cond b d → Like F R G cond (A.both a b) (A.both c d)
  either : {a b c d : Ast cond} → Like F R G cond a c → Like F R G cond b d → Like F R G cond (A.either a b) (A.either c d)
  empty : {i j : ℕ} → Like F R G stmt (A.empty i) (A.empty j)
  declare : {i j : ℕ} → R (i + 1) (j + 1) → Like F R G stmt (A.declare i) (A.declare j)
  declare_free : {i j : ℕ} → R (i + 1) (j + 1) → Like F R G stmt (A.declare_free i) (A.declare_free j)
  declare_own : {i j : ℕ} {a b : Bool} → R (i + 1) (j + 1) → G (low_number (low_first i) a) (low_number (low_first j) a) → G (high_number (low_first i) a b) (high_number (low_first j) a b) → Like F R G stmt (A.declare_own i a b) (A.declare_own j a b)
  assign : {i j : ℕ} {x y : Ast expr} → R i j → Like F R G expr x y → Like F R G stmt (A.assign i x) (A.assign j y)
  eval : {x y : Ast expr} → Like F R G expr x y → Like F R G stmt (A.eval x) (A.eval y)
  block : {i j : ℕ} {b c : Ast body} → Like F R G body b c → Like F R G stmt (A.block i b) (A.block j c)
  if_else : {i j : ℕ} {c d : Ast cond} {s t u v : Ast stmt} → Like F R G cond c d → Like F R G stmt s u → Like F R G stmt t v → Like F R G stmt (A.if_else i c s t) (A.if_else j d u v)
  while : {i j : ℕ} {c d : Ast cond} {s u : Ast stmt} → Like F R G cond c d → Like F R G stmt s u → Like F R G stmt (A.while i c s) (A.while j d u)
  return : {i j : ℕ} {x y : Ast expr} → Like F R G expr x y → Like F R G stmt (A.return i x) (A.return j y)
  fail : {i j : ℕ} → Like F R G stmt (A.fail i) (A.fail j)
  no_stmts : Like F R G stmts A.no_stmts A.no_stmts
  more_stmts : {l m : Ast stmts} {s t : Ast stmt} → Like F R G stmts l m → Like F R G stmt s t → Like F R G stmts (A.more_stmts l s) (A.more_stmts m t)
  braced : {i j : ℕ} {l m : Ast stmts} → Like F R G stmts l m → Like F R G body (A.braced l i) (A.braced m j)
  no_params : Like F R G params A.no_params A.no_params
  more_params : {i j : ℕ} {l m : Ast params} → Like F R G params l m → R i j → Like F R G params (A.more_params l i) (A.more_params m j)
  function : {i j : ℕ} {p q : Ast params} {b c : Ast body} → F i j → Like F R G params p q → Like F R G body b c → Like F R G fun (A.function i p b) (A.function j q c)
  no_funs : Like F R G prog A.no_funs A.no_funs
  more_funs : {p q : Ast prog} {f g : Ast fun} → Like F R G prog p q → Like F R G fun f g → Like F R G prog (A.more_funs p f) (A.more_funs q g)

three : {A B C D : Type 0} (f : A → B → C → D) {a a' : A} {b b' : B} {c c' : C} → a ≡ a' → b ≡ b' → c ≡ c' → f a b c ≡ f a' b' c'
three f {c = c} p q r = ap₂ (λ g x. g x) (ap₂ f p q) r

-- two texts: names spelled alike, numbers of one value
abbrev pub Alike : (spell spell' : ℕ → List ℕ) → ℕ → ℕ → Type 0
Alike spell spell' i j = spell i ≡ spell' j

abbrev pub Equal : (value value' : ℕ → ℕ) → ℕ → ℕ → Type 0
Equal value value' i j = value i ≡ value' j

module _ (spell spell' : ℕ → List ℕ) (value value' : ℕ → ℕ) where
  -- THEOREM. Such trees are one program tree.
  pub same-tree : {s : Sort} {x y : Ast s} → Like (Alike spell spell') (Alike spell spell') (Equal value value') s x y → strip spell value x ≡ strip spell' value' y
  unfolding strip
  same-tree (number v) = ap N.number v
  same-tree (negative v) = ap N.negative v
  same-tree (name e) = ap N.name e
  same-tree (call e a) = ap₂ N.call e (same-tree a)
  same-tree (left a) = same-tree a
  same-tree (right a) = same-tree a
  same-tree (times {o = o} a b) = ap₂ (N.times o) (same-tree a) (same-tree b)
  same-tree (plus a b) = ap₂ N.plus (same-tree a) (same-tree b)
  same-tree (minus a b) = ap₂ N.minus (same-tree a) (same-tree b)
  same-tree no_args = refl
  same-tree (more_args l e) = ap₂ N.more_args (same-tree l) (same-tree e)
  same-tree cmp_mark = refl
  same-tree always = refl
  same-tree never = refl
  same-tree (compare a o b) = three N.compare (same-tree a) (same-tree o) (same-tree b)
  same-tree (both a b) = ap₂ N.both (same-tree a) (same-tree b)
  same-tree (either a b) = ap₂ N.either (same-tree a) (same-tree b)
  same-tree empty = refl
  same-tree (declare e) = ap N.declare e
  same-tree (declare_free e) = ap N.declare_free e
  same-tree (declare_own {a = a} {b = b} e v w) = three (λ x m n. N.declare_own x a m b n) e v w
  same-tree (assign e a) = ap₂ N.assign e (same-tree a)
  same-tree (eval a) = ap N.eval (same-tree a)
  same-tree (block b) = ap N.block (same-tree b)
  same-tree (if_else c s t) = three N.if_else (same-tree c) (same-tree s) (same-tree t)
  same-tree (while c s) = ap₂ N.while (same-tree c) (same-tree s)
  same-tree (return a) = ap N.return (same-tree a)
  same-tree fail = refl
  same-tree no_stmts = refl
  same-tree (more_stmts l s) = ap₂ N.more_stmts (same-tree l) (same-tree s)
  same-tree (braced l) = ap N.braced (same-tree l)
  same-tree no_params = refl
  same-tree (more_params l e) = ap₂ N.more_params (same-tree l) e
  same-tree (function e p b) = three N.function e (same-tree p) (same-tree b)
  same-tree no_funs = refl
  same-tree (more_funs p f) = ap₂ N.more_funs (same-tree p) (same-tree f)
