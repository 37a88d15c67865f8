-- Bytes written one part after the other.
use Prim.Native.Nat.{ℕ, suc, ◌+◌, ◌≤◌, ◌<◌, min}
use native.Mathlib.Omega.{arith}
use native.Mathlib.Numerals.{add-one}
use mathlib.Core.Path.{◌≡◌, refl, sym, ◌∙◌, ap}
use mathlib.Core.Bool.{Bool, true, false}
use mathlib.Core.List.{List, [], ◌∷◌, ◌++◌}
use lib.ListN.{length, take, get_or, set, length-set, length-append, replicate-append-replicate}
use lib.Seq.{sets, set_out, length-sets, take-suc}
use lib.Dec.{ltb}
use borrow.Author.Tests.{ltb-true, ltb-false}
use Rattle.printing.specs.Written.{most, blanks, Put, Wrote}

-- ---- past the end nothing changes

pub sets-past : (vs l : List ℕ) (i : ℕ) → length l ≤ i → sets l i vs ≡ l
sets-past [] l i h = refl
sets-past (v ∷ vs) l i h = sets-past vs (set l i v) (suc i) (omega (arith, length-set l i v)) ∙ set_out l i v h

sets-append : (a b l : List ℕ) (i : ℕ) → sets (sets l i a) (i + length a) b ≡ sets l i (a ++ b)
sets-append [] b l i =
    let e : i + 0 ≡ i = omega arith in
    ap (λ (k : ℕ). sets l k b) e
sets-append (x ∷ a) b l i =
    let e : i + suc (length a) ≡ suc i + length a = omega arith in
    ap (λ (k : ℕ). sets (sets (set l i x) (suc i) a) k b) e ∙ sets-append a b (set l i x) (suc i)

-- two places past the end are the same to what is written
sets-capped : (vs l : List ℕ) (i : ℕ) → length l ≤ most → sets l (min i most) vs ≡ sets l i vs
sets-capped vs l i h = go (ltb i most) refl
  where
    go : (b : Bool) → ltb i most ≡ b → sets l (min i most) vs ≡ sets l i vs
    go true e =
        let k : i < most = ltb-true i most e in
        let m : min i most ≡ i = omega arith in
        ap (λ (n : ℕ). sets l n vs) m
    go false e =
        let k : most ≤ i = ltb-false i most e in
        sets-past vs l (min i most) (omega arith) ∙ sym (sets-past vs l i (omega arith))

-- ---- parts

-- what is written keeps the length
pub put-length : {l bs m : List ℕ} {at r : ℕ} → Put l at bs m r → length m ≡ length l
put-length {l} {bs} {m} {at} p = ap length p.kept ∙ length-sets l at bs

-- nothing written
pub put-none : (l : List ℕ) (at : ℕ) → length l ≤ most → at ≤ most → Put l at [] l at
put-none l at h k = record { past = omega arith; kept = refl; short = h }

-- one part, then another
pub and_then : {l a m b n : List ℕ} {at p q : ℕ} → Put l at a m p → Put m p b n q → Put l at (a ++ b) n q
and_then {l} {a} {m} {b} {n} {at} {p} {q} x y = record {
  past = omega (arith, x.past, y.past, length-append a b);
  kept = y.kept ∙ ap (λ (k : ℕ). sets m k b) x.past ∙ sets-capped b m (at + length a) y.short ∙ ap (λ (s : List ℕ). sets s (at + length a) b) x.kept ∙ sets-append a b l at;
  short = x.short;
}

-- the part written under another name
pub put_as : {l a b m : List ℕ} {at r : ℕ} → a ≡ b → Put l at a m r → Put l at b m r
put_as e p = rw (← e) p

-- one byte
pub put-inside : (l : List ℕ) (at b r : ℕ) → r ≡ min (at + 1) most → length l ≤ most → Put l at (b ∷ []) (set l at b) r
put-inside l at b r e h = record { past = e; kept = refl; short = h }

pub put-outside : (l : List ℕ) (at b r : ℕ) → r ≡ min (at + 1) most → length l ≤ most → length l ≤ at → Put l at (b ∷ []) l r
put-outside l at b r e h k = record { past = e; kept = sym (set_out l at b k); short = h }

-- one byte more of a word, and of blanks
pub put-more : {l m n : List ℕ} {at p q : ℕ} (w : List ℕ) (i : ℕ) → i < length w → Put l at (take i w) m p → Put m p (get_or w i 0 ∷ []) n q → Put l at (take (i + 1) w) n q
put-more {l} {m} {n} {at} {p} {q} w i h x y = put_as (sym (ap (λ (k : ℕ). take k w) (add-one i) ∙ take-suc w i 0 h)) (and_then x y)

pub put-blank : {l m n : List ℕ} {at p q : ℕ} (k : ℕ) → Put l at (blanks k) m p → Put m p (32 ∷ []) n q → Put l at (blanks (k + 1)) n q
put-blank {l} {m} {n} {at} {p} {q} k x y = put_as (replicate-append-replicate k 1 32) (and_then x y)

-- all of it, where it reaches no further than k
pub put_whole : {l bs m : List ℕ} {r : ℕ} (k : ℕ) → Put l 0 bs m r → r ≤ k → k < most → k ≤ length l → Wrote l bs m r
put_whole {l} {bs} {m} {r} k p h i j = record {
  counts = omega (arith, p.past);
  kept = p.kept;
  inside = omega (arith, put-length p);
}
