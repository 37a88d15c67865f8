-- Ranges hold what they should: the value of an expression under a setting in the windows is in its range.
use Prim.Native.Nat.{ℕ, suc, ◌-◌, ◌%◌, ◌^◌, ◌<◌}
use mathlib.Core.Path.{◌≡◌, refl, sym, ap, subst}
use mathlib.Core.Bool.{Bool, true, false, not, ◌&&◌}
use mathlib.Core.List.{List}
use native.Mathlib.Omega.{arith}
use native.Mathlib.Nat.{mul-le-mul_right, add-mul}
use lib.ListN.{get_or, length}
use lib.IntN.{ℤ, pos, negsuc, ◌*ℤ◌, *ℤ_comm}
use lib.Dec.{T, ltb, ltb→lt, nltb→le}
use lib.Signed.{le_z}
use mir.Syntax.{w32}
use mir.Val.{to_z, sel}
use Rattle.semantics.specs.Int.{Op, add, sub, mul, exact, wrap, low32, arith as work32}
use Rattle.semantics.specs.Program.{Window}
use Rattle.semantics.specs.Search.{Value, known, unknown, open', under, to, all32, min_z, max_z, span, fitted, range}
use Rattle.semantics.proofs.Order.{up, down, ◌≼◌, cond_cases, le_z→, nle_z→, of-add, of-minus, up-mul, down-mul, up-mul-neg, down-mul-neg}

pub record In (w : Window) (x : ℤ) : Type 0 where
  pub least : w.low ≼ x
  pub most : x ≼ w.high

-- a window within another
pub record Sub (v w : Window) : Type 0 where
  pub least : w.low ≼ v.low
  pub most : v.high ≼ w.high

pub sub_refl : (w : Window) → Sub w w
sub_refl w = record { least = omega arith; most = omega arith }

pub sub_trans : {u v w : Window} → Sub u v → Sub v w → Sub u w
sub_trans p q = record { least = omega arith; most = omega arith }

-- all windows are within the job's
abbrev pub Subs : Window → List Window → Type 0
Subs job ws = (i : ℕ) → i < length ws → Sub (get_or ws i all32) job

-- ---- the least and the greatest of two

pub min-left : (a b : ℤ) → min_z a b ≼ a
unfolding min_z
min-left a b = cond_cases (le_z a b) (λ m. m ≼ a) (λ t. omega arith) (λ t. omega (arith, nle_z→ a b t))

pub min-right : (a b : ℤ) → min_z a b ≼ b
unfolding min_z
min-right a b = cond_cases (le_z a b) (λ m. m ≼ b) (λ t. le_z→ a b t) (λ t. omega arith)

pub min-most : (a b c : ℤ) → c ≼ a → c ≼ b → c ≼ min_z a b
unfolding min_z
min-most a b c h k = cond_cases (le_z a b) (λ m. c ≼ m) (λ t. h) (λ t. k)

pub max-left : (a b : ℤ) → a ≼ max_z a b
unfolding max_z
max-left a b = cond_cases (le_z a b) (λ m. a ≼ m) (λ t. le_z→ a b t) (λ t. omega arith)

pub max-right : (a b : ℤ) → b ≼ max_z a b
unfolding max_z
max-right a b = cond_cases (le_z a b) (λ m. b ≼ m) (λ t. omega arith) (λ t. omega (arith, nle_z→ a b t))

pub max_least : (a b c : ℤ) → a ≼ c → b ≼ c → max_z a b ≼ c
unfolding max_z
max_least a b c h k = cond_cases (le_z a b) (λ m. m ≼ c) (λ t. k) (λ t. h)

-- ---- products

-- what x lies between, x times c lies between
pub record Between (a b x : ℤ) : Type 0 where
  pub least : min_z a b ≼ x
  pub most : x ≼ max_z a b

mono : (x y : ℤ) (k : ℕ) → x ≼ y → x *ℤ pos k ≼ y *ℤ pos k
mono x y k h = omega (arith, mul-le-mul_right k h, add-mul (up x) (down y) k, add-mul (up y) (down x) k, up-mul x k, down-mul x k, up-mul y k, down-mul y k)

anti : (x y : ℤ) (k : ℕ) → x ≼ y → y *ℤ negsuc k ≼ x *ℤ negsuc k
anti x y k h = omega (arith, mul-le-mul_right (suc k) h, add-mul (up x) (down y) (suc k), add-mul (up y) (down x) (suc k), up-mul-neg x k, down-mul-neg x k, up-mul-neg y k, down-mul-neg y k)

between : (a b x c : ℤ) → a ≼ x → x ≼ b → Between (a *ℤ c) (b *ℤ c) (x *ℤ c)
between a b x (pos k) h l =
    record { least = omega (arith, min-left (a *ℤ pos k) (b *ℤ pos k), mono a x k h); most = omega (arith, max-right (a *ℤ pos k) (b *ℤ pos k), mono x b k l) }
between a b x (negsuc k) h l =
    record { least = omega (arith, min-right (a *ℤ negsuc k) (b *ℤ negsuc k), anti x b k l); most = omega (arith, max-left (a *ℤ negsuc k) (b *ℤ negsuc k), anti a x k h) }

between-right : (c a b x : ℤ) → a ≼ x → x ≼ b → Between (c *ℤ a) (c *ℤ b) (c *ℤ x)
between-right c a b x h l = rw (*ℤ_comm c a, *ℤ_comm c b, *ℤ_comm c x) (between a b x c h l)

pub span-sound : (o : Op) (v w : Window) (x y : ℤ) → In v x → In w y → In (span o v w) (exact o x y)
unfolding span exact
span-sound add v w x y h k = record { least = omega (arith, of-add v.low w.low, of-add x y); most = omega (arith, of-add v.high w.high, of-add x y) }
span-sound sub v w x y h k = record { least = omega (arith, of-minus v.low w.high, of-minus x y); most = omega (arith, of-minus v.high w.low, of-minus x y) }
span-sound mul v w x y h k =
    let a = v.low *ℤ w.low in
    let b = v.low *ℤ w.high in
    let c = v.high *ℤ w.low in
    let d = v.high *ℤ w.high in
    let p = between v.low v.high x y h.least h.most in
    let q = between-right v.low w.low w.high y k.least k.most in
    let r = between-right v.high w.low w.high y k.least k.most in
    record {
      least = min-chain (min_z a b) (min_z c d) (v.low *ℤ y) (v.high *ℤ y) (x *ℤ y) q.least r.least p.least;
      most = max-chain (max_z a b) (max_z c d) (v.low *ℤ y) (v.high *ℤ y) (x *ℤ y) q.most r.most p.most;
    }
  where
    min-chain : (m n a b x : ℤ) → m ≼ a → n ≼ b → min_z a b ≼ x → min_z m n ≼ x
    min-chain m n a b x h k l = omega (arith, min-left m n, min-right m n, min-most a b (min_z m n) (omega (arith, min-left m n)) (omega (arith, min-right m n)))

    max-chain : (m n a b x : ℤ) → a ≼ m → b ≼ n → x ≼ max_z a b → x ≼ max_z m n
    max-chain m n a b x h k l = omega (arith, max_least a b (max_z m n) (omega (arith, max-left m n)) (omega (arith, max-right m n)))

-- ---- 32 bits

pub low_fits : (z : ℤ) → low32 z < 2 ^ 32
unfolding low32
low_fits (pos n) = omega arith
low_fits (negsuc n) = omega arith

pub sel-cases : (b : Bool) {x y : ℤ} (P : ℤ → Type 0) → (T b → P x) → (T (not b) → P y) → P (sel b x y)
sel-cases true P f g = f tt
sel-cases false P f g = g tt

signed-in : (n : ℕ) → n < 2 ^ 32 → In all32 (to_z w32 n)
unfolding all32 up down
signed-in n h =
    sel-cases (ltb n (2 ^ 31)) (In all32)
    (λ t. let l = ltb→lt n (2 ^ 31) t in record { least = omega arith; most = omega arith })
    (λ t. let l = nltb→le n (2 ^ 31) t in record { least = omega arith; most = omega arith })

pub wrap-in : (z : ℤ) → In all32 (wrap z)
unfolding wrap
wrap-in z = signed-in (low32 z) (low_fits z)

pub wrap-same : (z : ℤ) → In all32 z → wrap z ≡ z
unfolding wrap low32 all32 up down
wrap-same (pos n) h =
    sel-cases (ltb (n % 2 ^ 32) (2 ^ 31)) (λ y. y ≡ pos n)
    (λ t. ap pos (omega arith))
    (λ t. absurd (omega (arith, h.most, nltb→le (n % 2 ^ 32) (2 ^ 31) t)))
wrap-same (negsuc n) h =
    sel-cases (ltb (2 ^ 32 - suc (n % 2 ^ 32)) (2 ^ 31)) (λ y. y ≡ negsuc n)
    (λ t. absurd (omega (arith, h.least, ltb→lt (2 ^ 32 - suc (n % 2 ^ 32)) (2 ^ 31) t)))
    (λ t. ap negsuc (omega arith))

-- ---- ranges

pub and_left : (a b : Bool) → T (a && b) → T a
and_left true b t = tt
and_left false b t = t

pub and_right : (a b : Bool) → T (a && b) → T b
and_right true b t = t
and_right false b t = absurd t

pub and_both : (a b : Bool) → T a → T b → T (a && b)
and_both true b t u = u
and_both false b t u = t

pub bool-ext : (a b : Bool) → (T a → T b) → (T b → T a) → a ≡ b
bool-ext true true f g = refl
bool-ext true false f g = absurd (f tt)
bool-ext false true f g = absurd (g tt)
bool-ext false false f g = refl

fitted-sound : (w : Window) (z : ℤ) → In w z → In (fitted w) (wrap z)
unfolding fitted
fitted-sound w z h =
    cond_cases (le_z all32.low w.low && le_z w.high all32.high) (λ r. In r (wrap z)) inside (λ t. wrap-in z)
  where
    inside : T (le_z all32.low w.low && le_z w.high all32.high) → In w (wrap z)
    inside t =
        let l = le_z→ all32.low w.low (and_left (le_z all32.low w.low) (le_z w.high all32.high) t) in
        let m = le_z→ w.high all32.high (and_right (le_z all32.low w.low) (le_z w.high all32.high) t) in
        subst (In w) (sym (wrap-same z (record { least = omega arith; most = omega arith }))) h

-- every unknown is in its window
abbrev pub Within : List Window → List ℤ → Type 0
Within ws s = (i : ℕ) → In (get_or ws i all32) (get_or s i (pos 0))

≼_refl : (z : ℤ) → In (to z z) z
≼_refl z = record { least = omega arith; most = omega arith }

pub range-sound : (ws : List Window) (s : List ℤ) → Within ws s → (v : Value) → In (range ws v) (under s v)
unfolding range under work32
range-sound ws s h (known z) = ≼_refl z
range-sound ws s h (unknown i) = h i
range-sound ws s h (open' o a b) =
    fitted-sound (span o (range ws a) (range ws b)) (exact o (under s a) (under s b))
    (span-sound o (range ws a) (range ws b) (under s a) (under s b) (range-sound ws s h a) (range-sound ws s h b))
