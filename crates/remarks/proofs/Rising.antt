-- Numbers that rise. Two lists of them with the same members are one; the names of a text's functions rise, and so do the places of tokens.
use Prim.Native.Nat.{ℕ, zero, suc, ◌+◌, ◌≤◌, ◌<◌}
use mathlib.Core.Path.{◌≡◌, refl, sym, ap, subst, ◌∙◌}
use mathlib.Core.List.Memᴰ.{head as first}
use mathlib.Core.List.Memᴰ.{not-nil as nowhere}
use mathlib.Core.List.Memᴰ.{tail as later}
use mathlib.Core.List.{List, [], ◌∷◌, ◌++◌, map, map-append}
use native.Mathlib.Omega.{arith}
use lib.ListN.{length, get_or}
use Rattle.lexer.specs.Lex.{Token}
use Rattle.lexer.proofs.Theorems.{Ascending, no_more, above}
use Rattle.syntax.specs.Tree.{Tree, prog, fun, onto, width, numbered}
use Rattle.syntax.specs.Tree as T
use Rattle.syntax.specs.Abstract.{ast}
use Rattle.events.specs.Event.{events}
use Rattle.events.proofs.Widths.{onto-length}
use Rattle.semantics.specs.Demand.{◌∈◌}
use Rattle.text_rules.specs.Rules.{Head, heads}
use Rattle.text_rules.proofs.Programs.{functions, head_of, heads-are}
use Rattle.checker.specs.Check.{places}

-- they rise strictly, from lo on and below hi
pub data Rises : ℕ → List ℕ → ℕ → Type 0 where
  none : {lo hi : ℕ} → Rises lo [] hi
  more : {lo hi x : ℕ} {xs : List ℕ} → lo ≤ x → x < hi → Rises (suc x) xs hi → Rises lo (x ∷ xs) hi

from_on : {lo hi : ℕ} {xs : List ℕ} → Rises lo xs hi → (o : ℕ) → o ∈ xs → lo ≤ o
from_on none o m = absurd (nowhere m)
from_on (more h l r) o (first e) = omega (arith, h, e)
from_on (more h l r) o (later m) = omega (arith, h, from_on r o m)

pub below_in : {lo hi : ℕ} {xs : List ℕ} → Rises lo xs hi → (o : ℕ) → o ∈ xs → o < hi
below_in none o m = absurd (nowhere m)
below_in (more h l r) o (first e) = omega (arith, l, e)
below_in (more h l r) o (later m) = below_in r o m

pub below_at : {lo hi : ℕ} {xs : List ℕ} → Rises lo xs hi → (i : ℕ) → i < length xs → get_or xs i 0 < hi
below_at none i k = absurd (omega (arith, k))
below_at (more h l r) zero k = l
below_at (more h l r) (suc i) k = below_at r i (omega (arith, k))

-- each is below the next, and this says it all
begins : {lo hi : ℕ} {xs : List ℕ} → Rises lo xs hi → 0 < length xs → lo ≤ get_or xs 0 0
begins none k = absurd (omega (arith, k))
begins (more h l r) k = h

pub each_below : {lo hi : ℕ} {xs : List ℕ} → Rises lo xs hi → (i : ℕ) → suc i < length xs → get_or xs i 0 < get_or xs (suc i) 0
each_below none i k = absurd (omega (arith, k))
each_below (more h l r) zero k = begins r (omega (arith, k))
each_below (more h l r) (suc i) k = each_below r i (omega (arith, k))

pub rises-so : (lo hi : ℕ) (xs : List ℕ) → ((o : ℕ) → o ∈ xs → o < hi) → ((i : ℕ) → suc i < length xs → get_or xs i 0 < get_or xs (suc i) 0) → (0 < length xs → lo ≤ get_or xs 0 0) → Rises lo xs hi
rises-so lo hi [] b a f = none
rises-so lo hi (x ∷ xs) b a f =
    more (f (omega arith)) (b x (first refl)) (rises-so (suc x) hi xs (λ o m. b o (later m)) (λ i h. a (suc i) (omega (arith, h))) (λ h. omega (arith, a 0 (omega (arith, h)))))

-- ---- the same members

same_first : {x y hi : ℕ} {xs ys : List ℕ} → Rises (suc x) xs hi → Rises (suc y) ys hi → x ∈ y ∷ ys → y ∈ x ∷ xs → x ≡ y
same_first r s (first e) m = e
same_first r s (later n) (first e) = sym e
same_first {x} {y} r s (later n) (later m) = absurd (omega (arith, from_on s x n, from_on r y m))

in_rest : {x y hi : ℕ} {xs ys : List ℕ} → Rises (suc x) xs hi → x ≡ y → (o : ℕ) → o ∈ xs → o ∈ y ∷ ys → o ∈ ys
in_rest r e o m (first f) = absurd (omega (arith, e, f, from_on r o m))
in_rest r e o m (later n) = n

pub same-members : {lo hi : ℕ} {xs ys : List ℕ} → Rises lo xs hi → Rises lo ys hi → ((o : ℕ) → o ∈ xs → o ∈ ys) → ((o : ℕ) → o ∈ ys → o ∈ xs) → xs ≡ ys
same-members none none f b = refl
same-members none (more {x = y} h l s) f b = absurd (nowhere (b y (first refl)))
same-members (more {x = x} h l r) none f b = absurd (nowhere (f x (first refl)))
same-members {hi = hi} (more {x = x} {xs = xs} h l r) (more {x = y} {xs = ys} i k s) f b =
    let e : x ≡ y = same_first r s (f x (first refl)) (b y (first refl)) in
    let t : xs ≡ ys = same-members r (subst (λ (z : ℕ). Rises (suc z) ys hi) (sym e) s) (λ o m. in_rest r e o m (f o (later m))) (λ o m. in_rest s (sym e) o m (b o (later m))) in
    ap (λ (z : ℕ). z ∷ xs) e ∙ ap (λ (l : List ℕ). y ∷ l) t

-- ---- the names of functions

abbrev pub names : List Head → List ℕ
names hs = map (λ (h : Head). h.name) hs

lowered : {lo mid hi : ℕ} {xs : List ℕ} → lo ≤ mid → Rises mid xs hi → Rises lo xs hi
lowered h none = none
lowered {lo} h (more {x = x} a b r) = let l : lo ≤ x = omega (arith, h, a) in more l b r

then : {lo mid hi : ℕ} {xs ys : List ℕ} → lo ≤ mid → mid ≤ hi → Rises lo xs mid → Rises mid ys hi → Rises lo (xs ++ ys) hi
then h k none s = lowered h s
then {hi = hi} h k (more {x = x} a b r) s = let l : x < hi = omega (arith, b, k) in more a l (then (omega (arith, b)) k r s)

name_of : (p : ℕ) (f : Tree fun) → (head_of (ast (numbered p f))).name ≡ p + 1
unfolding numbered ast
name_of p (T.function i q b) = refl

wide : (f : Tree fun) → 1 < width f
unfolding onto
wide (T.function i q b) = omega arith

function-names : (p hi : ℕ) (t : Tree prog) → p + width t ≤ hi → Rises p (names (map head_of (functions (ast (numbered p t))))) hi
unfolding onto numbered ast functions
function-names p hi T.no_funs h = none
function-names p hi (T.more_funs l f) h =
    let n = onto-length l (onto f []) in
    let fs = functions (ast (numbered p l)) in
    let g = ast (numbered (p + width l) f) in
    let e : names (map head_of (fs ++ g ∷ [])) ≡ names (map head_of fs) ++ (p + width l + 1) ∷ [] =
    ap names (map-append head_of fs (g ∷ [])) ∙ map-append (λ (x : Head). x.name) (map head_of fs) (head_of g ∷ []) ∙ ap (λ (x : ℕ). names (map head_of fs) ++ x ∷ []) (name_of (p + width l) f) in
    subst (λ (xs : List ℕ). Rises p xs hi) (sym e)
    (then (omega arith) (omega (arith, h, n)) (function-names p (p + width l) l (omega arith)) (more (omega arith) (omega (arith, h, n, wide f)) none))

-- of a tree that is numbered from 0 on
pub names-rise : (t : Tree prog) → t ≡ numbered 0 t → Rises 0 (names (heads (events (ast t)))) (width t)
names-rise t e =
    subst (λ (xs : List ℕ). Rises 0 xs (width t)) (ap (λ (x : Tree prog). names (map head_of (functions (ast x)))) (sym e) ∙ ap names (sym (heads-are (ast t))))
    (function-names 0 (width t) t (omega arith))

-- ---- the places of tokens

place-from : {p : ℕ} {ts : List Token} → Ascending p ts → (j : ℕ) → j < length ts → p ≤ get_or (places ts) j 0
place-from no_more j h = absurd (omega (arith, h))
place-from (above k a) zero h = k
place-from (above k a) (suc j) h = omega (arith, k, place-from a j (omega (arith, h)))

pub places-rise : {p : ℕ} {ts : List Token} → Ascending p ts → (i j : ℕ) → i < j → j < length ts → get_or (places ts) i 0 < get_or (places ts) j 0
places-rise no_more i j h k = absurd (omega (arith, k))
places-rise (above q a) i zero h k = absurd (omega (arith, h))
places-rise (above q a) zero (suc j) h k = omega (arith, place-from a j (omega (arith, k)))
places-rise (above q a) (suc i) (suc j) h k = places-rise a i j (omega (arith, h)) (omega (arith, k))
