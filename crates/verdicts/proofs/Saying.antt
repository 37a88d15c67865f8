-- What remarks answers, as the line that is printed.
use Prim.Native.Nat.{ℕ, ◌+◌, ◌*◌, ◌<◌, ◌≤◌}
use native.Mathlib.Omega.{arith}
use mathlib.Core.Path.{◌≡◌, sym, ap, ◌∙◌}
use mathlib.Core.List.{List}
use lib.ListN.{length, take, drop, replicate}
use lib.Seq.{take_at}
use Rattle.checker.specs.Check as C
use Rattle.checker.specs.Check.{Verdict, accepted, checked}
use Rattle.remarks.specs.Remarks.{refused, counted, Left, left, offsets_of, answering, remarks_of}
use Rattle.lines.specs.Print.{refusal, acceptance}
use Rattle.printing.specs.Written.{Put, Wrote}
use Rattle.printing.proofs.Puts.{put_whole}
use Rattle.lines.proofs.Sizes.{refusal-length}
use Rattle.verdicts.specs.Line.{line_for, line_of}

-- with sixteen places lent, remarks answers as check
module _ (text offsets : List ℕ) where
  refused-line : {n p : ℕ} (v : Verdict) → left (refused n p) offsets ≡ answering (offsets_of text) (replicate 16 0) v → refusal n p ≡ line_for (offsets_of text) v
  refused-line {n} {p} (C.refused m q) e = let z : refused n p ≡ refused m q = ap (λ (l : Left). l.reply) e in cc
  refused-line {n} {p} accepted e = absurd (let z : refused n p ≡ counted (length (offsets_of text)) = ap (λ (l : Left). l.reply) e in let y : ◌≡◌ {A = ℕ} 0 1 = cc in omega arith)

  counted-line : {n : ℕ} (v : Verdict) → left (counted n) offsets ≡ answering (offsets_of text) (replicate 16 0) v → acceptance (take n offsets) ≡ line_for (offsets_of text) v
  counted-line {n} (C.refused m q) e = absurd (let z : counted n ≡ refused m q = ap (λ (l : Left). l.reply) e in let y : ◌≡◌ {A = ℕ} 0 1 = cc in omega arith)
  counted-line {n} accepted e =
      let os = offsets_of text in
      let z : counted n ≡ counted (length os) = ap (λ (l : Left). l.reply) e in
      let y : n ≡ length os = cc in
      ap acceptance (ap (take n) (ap (λ (l : Left). l.words) e) ∙ take_at os (drop (length os) (replicate 16 0)) n (sym y))

  refused-is : {n p : ℕ} → left (refused n p) offsets ≡ remarks_of text (replicate 16 0) → refusal n p ≡ line_of text
  unfolding remarks_of line_of
  refused-is e = refused-line (checked text) e

  counted_is : {n : ℕ} → left (counted n) offsets ≡ remarks_of text (replicate 16 0) → acceptance (take n offsets) ≡ line_of text
  unfolding remarks_of line_of
  counted_is e = counted-line (checked text) e

  module _ {before after : List ℕ} {next : ℕ} where
    pub said-refused : {n p : ℕ} → left (refused n p) offsets ≡ remarks_of text (replicate 16 0) → n < 4294967296 → p < 4294967296 → 201 ≤ length before → Put before 0 (refusal n p) after next → Wrote before (line_of text) after next
    said-refused {n} {p} e h i room w = rw (sym (refused-is e)) (put_whole 33 w (omega (arith, w.past, refusal-length n p h i)) (omega arith) (omega arith))

    pub said-accepted : {n : ℕ} → left (counted n) offsets ≡ remarks_of text (replicate 16 0) → n ≤ 16 → 201 ≤ length before → Put before 0 (acceptance (take n offsets)) after next → next ≤ 0 + 12 * n + 9 → Wrote before (line_of text) after next
    said-accepted e few room w h = rw (sym (counted_is e)) (put_whole 201 w (omega arith) (omega arith) room)
