-- What remarks answers fits a word: the place of a refusal, and the count.
use Rattle.std.specs.Prelude.{Ok, Err}
use Prim.Native.Nat.{ℕ, ◌≤◌}
use native.Mathlib.Omega.{arith}
use mathlib.Core.Path.{◌≡◌, refl, sym, subst}
use mathlib.Core.Bool.{Bool, true, false, cond}
use mathlib.Core.List.{List}
use lib.ListN.{length}
use lib.Dec.{ltb}
use Rattle.syntax.specs.declared.refusal.Refusal.{Refusal}
use Rattle.checker.specs.Check as C
use Rattle.checker.specs.Check.{Verdict, accepted, checked}
use Rattle.checker.proofs.Small.{Within, low, checked-low}
use Rattle.remarks.specs.Remarks.{Reply, refused, counted, offsets_of, Left, answering, remarks_of, leaves}
use Rattle.remarks.proofs.Exactly.{few-offsets}

abbrev Small : Reply → Type 0
Small (refused n p) = p ≤ 2048
Small (counted k) = k ≤ 16

small : (text lent : List ℕ) → Small (remarks_of text lent).reply
unfolding remarks_of
small text lent = go (ltb (length lent) 16)
  where
    as-check : (v : Verdict) → checked text ≡ v → Within 2048 v → Small (answering (offsets_of text) lent v).reply
    as-check (C.refused n p) e (low h) = h
    as-check accepted e w = few-offsets text e

    go : (b : Bool) → Small (answering (offsets_of text) lent (cond b (C.refused 15 0) (checked text))).reply
    go true = omega arith
    go false = as-check (checked text) refl (checked-low text)

pub low-remark : (text before : List ℕ) {after : List ℕ} (r : Refusal) → leaves (Err r) after ≡ remarks_of text before → r.place ≤ 2048
low-remark text before r e = subst (λ (l : Left). Small l.reply) (sym e) (small text before)

pub low_count : (text before : List ℕ) {after : List ℕ} {k : ℕ} → leaves (Ok k) after ≡ remarks_of text before → k ≤ 16
low_count text before e = subst (λ (l : Left). Small l.reply) (sym e) (small text before)
