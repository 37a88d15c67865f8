-- THEOREM on the room that a caller lends: the house style of an accepted text has at most 64 bytes for each byte of it, so 131,072 bytes always do.
use Prim.Native.Nat.{ℕ, zero, suc, ◌+◌, ◌*◌, ◌≤◌}
use mathlib.Core.Path.{◌≡◌, refl, sym, ap, ◌∙◌, subst}
use mathlib.Core.Bool.{Bool, true, false, not}
use mathlib.Core.List.{List, [], ◌∷◌, ◌++◌}
use mathlib.Core.Option.{some}
use native.Mathlib.Omega.{arith}
use lib.Dec.{ltb}
use lib.ListN.{length, length-append, length-map}
use Rattle.syntax.specs.Token.{k_end}
use Rattle.syntax.specs.Tree.{Mul, product, Cmp, less, less_eq, greater, greater_eq, equal, unequal, width}
use Rattle.syntax.specs.Ast as A
use Rattle.syntax.specs.Ast.{Sort, Ast, prog, low_first, low_number, high_number}
use Rattle.syntax.specs.Abstract.{ast}
use Rattle.lexer.specs.Lex.{bytes}
use Rattle.lexer.proofs.Theorems.{lexed-tokens, count}
use Rattle.events.specs.Event.{thing, opens, closes, function, ends, closing, stops, events_at, events}
use Rattle.events.proofs.Widths.{onto-length}
use Rattle.printing.proofs.Numbers.{word-length}
use Rattle.checker.specs.Check.{kinds, accepted, checked}
use Rattle.checker.specs.Accepted.{KeepsRules}
use Rattle.checker.proofs.Exactly.{exactly}
use Rattle.house_style.specs.Named.{Named, strip}
use Rattle.house_style.specs.House.{Piece, word, gap, flat, the, newline, indent, mul_sign, cmp_sign, round, signed, within, laid, house}
use Rattle.house_style.specs.Read.{tree_of, read}
use Rattle.house_style.proofs.Lexing.{tokens_from, kinds_of, kinds-from}
use Rattle.house_style.proofs.Leaves.{Leaves}
use Rattle.house_style.proofs.Tidy.{tidy}
use Rattle.house_style.proofs.Readback.{reads_as, new-kinds}
use Rattle.house_style.proofs.Depth.{Low, low-left, low-right, to_low}
use Rattle.house_style.proofs.Accept.{SmallName, SmallNumber, small-leaves, kept-readable}
use Rattle.house_style.proofs.Fewest.{shorter}

-- how many bytes pieces have, and how many tokens
unfoldable cost : List Piece → ℕ
cost [] = 0
cost (word bs ∷ ps) = length bs + cost ps
cost (gap bs ∷ ps) = length bs + cost ps

unfoldable size : List Piece → ℕ
size [] = 0
size (word bs ∷ ps) = suc (size ps)
size (gap bs ∷ ps) = size ps

cost-is : (ps : List Piece) → length (flat ps) ≡ cost ps
unfolding flat cost
cost-is [] = refl
cost-is (word bs ∷ ps) = length-append bs (flat ps) ∙ ap (λ (m : ℕ). length bs + m) (cost-is ps)
cost-is (gap bs ∷ ps) = length-append bs (flat ps) ∙ ap (λ (m : ℕ). length bs + m) (cost-is ps)

size_is : (ps : List Piece) → length (kinds_of ps) ≡ size ps
unfolding kinds_of size
size_is [] = refl
size_is (word bs ∷ ps) = ap suc (size_is ps)
size_is (gap bs ∷ ps) = size_is ps

indent-length : (d : ℕ) → length (indent d) ≡ 2 * d
unfolding indent
indent-length zero = refl
indent-length (suc d) = omega (arith, indent-length d)

-- what is laid out before ps has 64 bytes for each token at most
abbrev Few : List Piece → List Piece → Type 0
Few ps qs = cost qs + 64 * size ps ≤ 64 * size qs + cost ps

within-few : (b : Bool) (f : List Piece → List Piece) (ps : List Piece) → ((qs : List Piece) → Few qs (f qs)) → Few ps (within b f ps)
unfolding within cost size
within-few true f ps g = omega (arith, g (the ")" ∷ ps))
within-few false f ps g = g ps

mul-short : (o : Mul) → length (bytes (mul_sign o)) ≤ 2
mul-short product = omega arith

cmp-short : (o : Cmp) → length (bytes (cmp_sign o)) ≤ 2
cmp-short less = omega arith
cmp-short less_eq = omega arith
cmp-short greater = omega arith
cmp-short greater_eq = omega arith
cmp-short equal = omega arith
cmp-short unequal = omega arith

signed-few : (a : Bool) (v : ℕ) (ps : List Piece) → v ≤ 2147483647 → Few ps (signed a v ps)
unfolding cost size
signed-few true v ps h = omega (arith, word-length v (omega arith))
signed-few false v ps h = omega (arith, word-length v (omega arith))

abbrev deepest : ℕ
deepest = 24

-- a statement is not too deep
abbrev Room : (s : Sort) → ℕ → Ast s → Type 0
Room A.expr n x = Unit {0}
Room A.args n x = Unit {0}
Room A.mark n x = Unit {0}
Room A.cond n x = Unit {0}
Room A.stmt n x = Low deepest (events_at n x)
Room A.stmts n x = Low deepest (events_at n x)
Room A.body n x = (n ≤ deepest) × Low deepest (events_at (suc n) x)
Room A.params n x = Unit {0}
Room A.fun n x = Low deepest (events_at 1 x)
Room A.prog n x = Low deepest (events_at 1 x)

module _ (spell : ℕ → List ℕ) (value : ℕ → ℕ) where
  abbrev bare : {s : Sort} → Ast s → Named s
  bare x = strip spell value x

  few : {s : Sort} (n : ℕ) (x : Ast s) (ps : List Piece) → Leaves SmallName SmallNumber (bare x) → Room s n x → Few ps (laid n (bare x) ps)
  unfolding strip laid Leaves cost size events_at Low
  few n (A.number i) ps h r = omega (arith, word-length (value i) (omega arith))
  few n (A.negative i) ps h r = omega (arith, word-length (value (i + 1)) (omega arith))
  few n (A.name i) ps h r = omega (arith, h.1)
  few n (A.call i a) ps h r = omega (arith, h.0.1, few 0 a (the ")" ∷ ps) h.1 tt)
  few n (A.bracket i e) ps h r = few n e ps h tt
  few n (A.times o a b) ps h r = within-few (ltb 1 n) (λ qs. laid 1 (bare a) (round (mul_sign o) (laid 2 (bare b) qs))) ps (λ qs. omega (arith, mul-short o, few 1 a (round (mul_sign o) (laid 2 (bare b) qs)) h.0 tt, few 2 b qs h.1 tt))
  few n (A.plus a b) ps h r = within-few (ltb 0 n) (λ qs. laid 0 (bare a) (round "+" (laid 1 (bare b) qs))) ps (λ qs. omega (arith, few 0 a (round "+" (laid 1 (bare b) qs)) h.0 tt, few 1 b qs h.1 tt))
  few n (A.minus a b) ps h r = within-few (ltb 0 n) (λ qs. laid 0 (bare a) (round "-" (laid 1 (bare b) qs))) ps (λ qs. omega (arith, few 0 a (round "-" (laid 1 (bare b) qs)) h.0 tt, few 1 b qs h.1 tt))
  few n A.no_args ps h r = omega arith
  few n (A.more_args A.no_args e) ps h r = few 0 e ps h.1 tt
  few n (A.more_args (A.more_args l x) e) ps h r = omega (arith, few 0 (A.more_args l x) (the "," ∷ gap (bytes " ") ∷ laid 0 (bare e) ps) h.0 tt, few 0 e ps h.1 tt)
  few n (A.cmp_mark o) ps h r = omega (arith, cmp-short o)
  few n A.always ps h r = omega arith
  few n A.never ps h r = omega arith
  few n (A.compare a (A.cmp_mark o) b) ps h r = omega (arith, cmp-short o, few 0 a (round (cmp_sign o) (laid 0 (bare b) ps)) h.0 tt, few 0 b ps h.1 tt)
  few n (A.both a b) ps h r = omega (arith, few 0 a (round "&&" (laid 0 (bare b) ps)) h.0 tt, few 0 b ps h.1 tt)
  few n (A.either a b) ps h r = omega (arith, few 0 a (round "||" (laid 0 (bare b) ps)) h.0 tt, few 0 b ps h.1 tt)
  few d (A.empty i) ps h r = omega (arith, indent-length d, r.0)
  few d (A.declare i) ps h r = omega (arith, indent-length d, r.0, h.1)
  few d (A.declare_free i) ps h r = omega (arith, indent-length d, r.0, h.1)
  few d (A.declare_own i a b) ps h r =
      let q = the ";" ∷ newline ∷ ps in let v = value (high_number (low_first i) a b) in
      omega (arith, indent-length d, r.0, h.0.1, signed-few a (value (low_number (low_first i) a)) (round ".." (signed b v q)) h.1.0, signed-few b v q h.1.1)
  few d (A.assign i e) ps h r = omega (arith, indent-length d, r.0, h.0.1, few 0 e (the ";" ∷ newline ∷ ps) h.1 tt)
  few d (A.eval e) ps h r = omega (arith, indent-length d, r.0, few 0 e (the ";" ∷ newline ∷ ps) h tt)
  few d (A.block i b) ps h r = few d b ps h (r.0, r.1)
  few d (A.if_else i c s t) ps h r =
      let xs = thing d i ∷ events_at d c in let ys = opens ∷ events_at (suc d) s in let zs = closes ∷ opens ∷ events_at (suc d) t in
      let u = low-left deepest ((xs ++ ys) ++ zs) (closes ∷ []) r in let v = low-left deepest (xs ++ ys) zs u in
      let b : d ≤ deepest = (low-left deepest xs ys v).0 in
      let q = gap (indent d) ∷ the "else" ∷ newline ∷ laid (suc d) (bare t) ps in
      omega (arith, b, indent-length d, few 0 c (the ")" ∷ newline ∷ laid (suc d) (bare s) q) h.0 tt, few (suc d) s q h.1.0 (low-right deepest xs ys v), few (suc d) t ps h.1.1 (low-right deepest (xs ++ ys) zs u))
  few d (A.while i c s) ps h r =
      let xs = thing d i ∷ events_at d c in let ys = opens ∷ events_at (suc d) s in
      let v = low-left deepest (xs ++ ys) (closes ∷ []) r in
      let b : d ≤ deepest = (low-left deepest xs ys v).0 in
      omega (arith, b, indent-length d, few 0 c (the ")" ∷ newline ∷ laid (suc d) (bare s) ps) h.0 tt, few (suc d) s ps h.1 (low-right deepest xs ys v))
  few d (A.return i e) ps h r = omega (arith, indent-length d, r.0, few 0 e (the ";" ∷ newline ∷ ps) h tt)
  few d (A.fail i) ps h r = omega (arith, indent-length d, r.0)
  few d A.no_stmts ps h r = omega arith
  few d (A.more_stmts l s) ps h r = omega (arith, few d l (laid d (bare s) ps) h.0 (low-left deepest (events_at d l) (events_at d s) r), few d s ps h.1 (low-right deepest (events_at d l) (events_at d s) r))
  few d (A.braced l j) ps h r = omega (arith, indent-length d, r.0, few (suc d) l (gap (indent d) ∷ the "}" ∷ newline ∷ ps) h (low-left deepest (opens ∷ events_at (suc d) l) (closes ∷ []) r.1))
  few n A.no_params ps h r = omega arith
  few n (A.more_params A.no_params i) ps h r = omega (arith, h.1.1)
  few n (A.more_params (A.more_params l j) i) ps h r = omega (arith, h.1.1, few 0 (A.more_params l j) (the "," ∷ gap (bytes " ") ∷ the "int" ∷ gap (bytes " ") ∷ word (spell i) ∷ ps) h.0 tt)
  few n (A.function i q b) ps h r =
      let xs = function i ∷ events_at 1 q in
      let v = low-right deepest xs (events_at 1 b) (low-left deepest (xs ++ events_at 1 b) (ends (closing b) (not (stops b)) ∷ []) r) in
      omega (arith, h.0.1, few 0 q (the ")" ∷ newline ∷ laid 0 (bare b) ps) h.1.0 tt, few 0 b ps h.1.1 (omega arith, v))
  few n A.no_funs ps h r = omega arith
  few n (A.more_funs p f) ps h r = omega (arith, few 0 p (laid 0 (bare f) ps) h.0 (low-left deepest (events_at 1 p) (events_at 1 f) r), few 0 f ps h.1 (low-right deepest (events_at 1 p) (events_at 1 f) r))

module _ (text : List ℕ) (k : KeepsRules text) where
  abbrev n : Named prog
  n = tree_of text k.tokens k.tree

  abbrev ps : List Piece
  ps = laid 0 n []

  few_bytes : cost ps ≤ 64 * size ps
  unfolding cost size events
  few_bytes = omega (arith, few _ _ 0 (ast k.tree) [] (small-leaves text k) (to_low (events_at 1 (ast k.tree)) k.depth))

  few-tokens : size ps ≤ length text
  few-tokens =
      let a : length (kinds (tokens_from 0 ps)) ≡ length (kinds_of ps) + 1 = ap length (kinds-from 0 ps) ∙ length-append (kinds_of ps) (k_end ∷ []) in
      let b : length (kinds (tokens_from 0 ps)) ≡ width (tidy k.tree) + 1 = ap length (new-kinds text n (kept-readable text k)) ∙ onto-length (tidy k.tree) (k_end ∷ []) in
      let c : length k.tokens ≡ width k.tree + 1 = sym (length-map k.tokens (λ t. t.kind)) ∙ ap length k.grammar.tokens ∙ onto-length k.tree (k_end ∷ []) in
      omega (arith, a, b, c, size_is ps, shorter k.tree, count (lexed-tokens text k.tokens k.lexes).1)

-- THEOREM. A bound on the output's length.
pub fits : (text : List ℕ) (n : Named prog) → checked text ≡ accepted → read text ≡ some n → length (house n) ≤ 64 * length text
unfolding house
fits text n e r =
    let k = (exactly text).0 e in
    let z : some (tree_of text k.tokens k.tree) ≡ some n = sym (reads_as text _ (kept-readable text k)) ∙ r in
    let q : tree_of text k.tokens k.tree ≡ n = cc in
    subst (λ (m : Named prog). length (flat (laid 0 m [])) ≤ 64 * length text) q (omega (arith, cost-is (laid 0 (tree_of text k.tokens k.tree) []), few_bytes text k, few-tokens text k))
