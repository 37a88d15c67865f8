-- The program of a sound tree fits into words; so it is placed in the code that the compiler makes.
use Rattle.std.proofs.Common.{◌≡◌, ℕ, zero, suc, ◌+◌, ◌-◌, ◌%◌, ◌^◌, ◌<◌, ◌≤◌, Bool, true, false, List, [], ◌∷◌, length, ℤ, pos, negsuc, ◌-ℤ◌, sym, ap, ◌∙◌, subst, arith, w32, to_z, le-ltb, lt-ltb}
use mir.Val.{sel}
use Rattle.semantics.specs.Int.{low32}
use Rattle.semantics.specs.Program.{Exprs, Stmts}
use Rattle.semantics.specs.Does.{frame}
use Rattle.syntax.specs.Ast.{Sort, Ast, prog, low_first, low_number, high_number}
use Rattle.syntax.specs.Ast as A
use Rattle.syntax.specs.Table.{Holds}
use Rattle.text_rules.specs.Own.{signed}
use Rattle.text_rules.specs.Resolve.{Part, part}
use Rattle.text_rules.proofs.OwnRules.{negated-is}
use Rattle.simulation.specs.Code.{Code, code_of}
use Rattle.simulation.specs.Words.{FitsE, FitsEs, FitsC, FitsS, FitsSs, FitsBs, Fits}
use Rattle.simulation.specs.Placed.{Placed}
use Rattle.simulation.proofs.Words.{placed-filled}
use Rattle.compiler.specs.Coded.{word, program}
use Rattle.compiler.specs.Sound.{Sound}
use Rattle.compiler.specs.Compile.{Compiled}

-- ---- numbers

low-number : (v : ℕ) → v < 2147483648 → to_z w32 v ≡ pos v
low-number v h = ap (λ (b : Bool). sel b (pos v) (negsuc (2 ^ 32 - suc v))) (lt-ltb v 2147483648 h)

pub number_fits : (v : ℕ) → v < 2147483648 → to_z w32 (low32 (pos v)) ≡ pos v
unfolding low32
number_fits v h =
    let e : v % 2 ^ 32 ≡ v = omega arith in
    ap (to_z w32) e ∙ low-number v h

high-number : (n : ℕ) → n < 2147483648 → to_z w32 (low32 (negsuc n)) ≡ negsuc n
unfolding low32
high-number n h =
    let w = 2 ^ 32 - suc (n % 2 ^ 32) in
    let k : 2147483648 ≤ w = omega arith in
    let e : 2 ^ 32 - suc w ≡ n = omega arith in
    ap (λ (b : Bool). sel b (pos w) (negsuc (2 ^ 32 - suc w))) (le-ltb w 2147483648 k) ∙ ap negsuc e

pub negative_fits : (v : ℕ) → v < 2147483648 → to_z w32 (low32 (pos 0 -ℤ pos v)) ≡ pos 0 -ℤ pos v
negative_fits zero h = number_fits 0 (omega arith)
negative_fits (suc n) h = ap (λ (z : ℤ). to_z w32 (low32 z)) (negated-is n) ∙ high-number n (omega arith) ∙ sym (negated-is n)

-- an end of a pair
end_fits : (a : Bool) (v : ℕ) → v < 2147483648 → to_z w32 (low32 (signed a v)) ≡ signed a v
end_fits true v h = negative_fits v h
end_fits false v h = number_fits v h

-- ---- a sound tree's program fits

abbrev FitsAs : (s : Sort) → Part s → Type 0
FitsAs A.expr e = FitsE e
FitsAs A.args f = (es : Exprs) → FitsEs es → FitsEs (f es)
FitsAs A.mark o = Unit {0}
FitsAs A.cond c = FitsC c
FitsAs A.stmt s = FitsS s
FitsAs A.stmts f = (ss : Stmts) → FitsSs ss → FitsSs (f ss)
FitsAs A.body ss = FitsSs ss
FitsAs A.params n = Unit {0}
FitsAs A.fun b = FitsSs b
FitsAs A.prog f = (bs : List Stmts) → FitsBs bs → FitsBs (f bs)

module _ (m : ℕ) (value means : ℕ → ℕ) where
  pub fits : {s : Sort} (t : Ast s) → Sound m value means t → FitsAs s (part value means t)
  unfolding part Sound
  fits (A.number i) h = number_fits (value i) h.1
  fits (A.negative i) h = negative_fits (value (i + 1)) h.1
  fits (A.name i) h = h.1
  fits (A.call i a) h = (h.1, fits a h.3 Exprs.none tt)
  fits (A.bracket i e) h = fits e h
  fits (A.times o a b) h = (fits a h.0, fits b h.1)
  fits (A.plus a b) h = (fits a h.0, fits b h.1)
  fits (A.minus a b) h = (fits a h.0, fits b h.1)
  fits A.no_args h = λ es k. k
  fits (A.more_args l e) h = λ es k. fits l h.0 (Exprs.more (part value means e) es) (fits e h.1, k)
  fits (A.cmp_mark o) h = tt
  fits A.always h = tt
  fits A.never h = tt
  fits (A.compare a o b) h = (fits a h.0, fits b h.1)
  fits (A.both a b) h = (fits a h.0, fits b h.1)
  fits (A.either a b) h = (fits a h.0, fits b h.1)
  fits (A.empty i) h = tt
  fits (A.declare i) h = tt
  fits (A.declare_free i) h = (h.1, tt)
  fits (A.declare_own i a b) h = (h.1, (end_fits a (value (low_number (low_first i) a)) h.2, end_fits b (value (high_number (low_first i) a b)) h.3, h.4))
  fits (A.assign i e) h = (h.1, fits e h.2)
  fits (A.eval e) h = fits e h
  fits (A.block i b) h = fits b h
  fits (A.if_else i c s t) h = (fits c h.0, fits s h.1, fits t h.2)
  fits (A.while i c s) h = (fits c h.0, fits s h.1)
  fits (A.return i e) h = fits e h
  fits (A.fail i) h = tt
  fits A.no_stmts h = λ ss k. k
  fits (A.more_stmts l s) h = λ ss k. fits l h.0 (Stmts.next (part value means s) ss) (fits s h.1, k)
  fits (A.braced l j) h = fits l h Stmts.end tt
  fits A.no_params h = tt
  fits (A.more_params l i) h = tt
  fits (A.function i p b) h = fits b h
  fits A.no_funs h = λ bs k. k
  fits (A.more_funs l f) h = λ bs k. fits l h.0 (part value means f ∷ bs) (fits f h.1, k)

pub fits-program : (m : ℕ) (values slots : List ℕ) (g : ℕ) (p : Ast prog) → Sound m (word values) (word slots) p → length (part (word values) (word slots) p []) ≤ 16 → g < 16 → Fits (program values slots g p)
fits-program m values slots g p s few h = record { bodies = fits m (word values) (word slots) p s [] tt; functions = omega arith; main = h }

-- ---- the code is that of the program

-- the program is placed in the code
pub placed-code : {l : List ℕ} {i : ℕ} {values slots : List ℕ} {g : ℕ} {code : Code} (p : Ast prog) → Holds l i p → Fits (program values slots g p) → Compiled l i values slots g code → Placed code (program values slots g p)
placed-code {values = values} {slots = slots} {g = g} {code = code} p held fitting c =
    let it = program values slots g p in
    let same : code ≡ record { entries = (code_of it).entries; starts = frame 2 16 (code_of it).starts } = λ i. record { entries = c.entries p held i; starts = c.starts p held i } in
    subst (λ (x : Code). Placed x it) (sym same) (placed-filled it fitting)
