-- What the writer answers fits a word, and what is printed fits its room.
use Prim.Native.Nat.{ℕ, ◌≤◌, ◌<◌}
use mathlib.Core.Path.{◌≡◌, refl, sym, ap, ◌∙◌, subst}
use mathlib.Core.Bool.{Bool, true, false}
use mathlib.Core.List.{List}
use native.Mathlib.Omega.{arith}
use lib.ListN.{length}
use lib.Seq.{sets, length-sets}
use lib.Dec.{ltb}
use borrow.Author.Tests.{le-ltb}
use Rattle.checker.specs.Check as C
use Rattle.checker.specs.Check.{Verdict, accepted, checked}
use Rattle.checker.proofs.Exactly.{exactly}
use Rattle.checker.proofs.Small.{Within, low, checked-low}
use Rattle.lexer.proofs.Theorems.{lexed-tokens}
use Rattle.printing.specs.Written.{Put, Wrote}
use Rattle.printing.proofs.Puts.{put_whole}
use Rattle.lines.specs.Print.{refusal}
use Rattle.lines.proofs.Sizes.{refusal-length}
use Rattle.house_style.specs.Read.{written}
use Rattle.house_style.proofs.Theorems.{writes-within}
use Rattle.writer.specs.Write.{Answer, refused, length-of, Left, left, if_short, into, answering, wrote, printed}

-- the house style of an accepted text has 131,072 bytes at most
pub written_low : (text : List ℕ) → checked text ≡ accepted → length (written text) ≤ 131072
written_low text a = let k = (exactly text).0 a in omega (arith, writes-within text a, (lexed-tokens text k.tokens k.lexes).0)

abbrev Small : Answer → Type 0
Small (refused n p) = p ≤ 2048
Small (length-of n) = n ≤ 131072

into-small : (bs lent : List ℕ) → length bs ≤ 131072 → Small (into bs lent).answer
into-small bs lent h = go (ltb (length lent) (length bs))
  where
    go : (b : Bool) → Small (if_short b bs lent).answer
    go true = omega arith
    go false = h

small : (text lent : List ℕ) → Small (wrote text lent).answer
unfolding wrote
small text lent = go (checked text) refl (checked-low text)
  where
    go : (v : Verdict) → checked text ≡ v → Within 2048 v → Small (answering (written text) lent v).answer
    go (C.refused n p) e (low h) = h
    go accepted e w = into-small (written text) lent (written_low text e)

pub low-place : (text before : List ℕ) {after : List ℕ} {c p : ℕ} → left (refused c p) after ≡ wrote text before → p ≤ 2048
low-place text before e = subst (λ (l : Left). Small l.answer) (sym e) (small text before)

pub low-length : (text before : List ℕ) {after : List ℕ} {n : ℕ} → left (length-of n) after ≡ wrote text before → n ≤ 131072
low-length text before e = subst (λ (l : Left). Small l.answer) (sym e) (small text before)

-- ---- with room for any text

module _ (text before : List ℕ) (room : 131072 ≤ length before) where
  into-whole : checked text ≡ accepted → into (written text) before ≡ left (length-of (length (written text))) (sets before 0 (written text))
  into-whole a = rw (le-ltb (length before) (length (written text)) (omega (arith, room, written_low text a)))

  printed-refused : {after last : List ℕ} {c p next : ℕ} → left (refused c p) after ≡ wrote text before → c < 4294967296 → Put after 0 (refusal c p) last next → Wrote before (printed text) last next
  unfolding wrote printed
  printed-refused {after} {last} {c} {p} {next} e h w = go (checked text) refl e
    where
      go : (v : Verdict) → checked text ≡ v → left (refused c p) after ≡ answering (written text) before v → Wrote before (elim v [ C.refused n q ↦ refusal n q | C.accepted ↦ written text ]) last next
      go (C.refused n q) a z =
          let i : refused c p ≡ refused n q = ap (λ (l : Left). l.answer) z in
          let j : after ≡ before = ap (λ (l : Left). l.bytes) z in
          let f = low-place text before e in
          subst (λ (b : List ℕ). Wrote b (refusal n q) last next) j (subst (λ (r : List ℕ). Wrote after r last next) (let m : c ≡ n = cc in let o : p ≡ q = cc in ap (refusal c) o ∙ ap (λ (k : ℕ). refusal k q) m)
          (put_whole 33 w (omega (arith, w.past, refusal-length c p h (omega (arith, f)))) (omega arith) (omega (arith, room, ap length j))))
      go accepted a z =
          let y : refused c p ≡ length-of (length (written text)) = ap (λ (l : Left). l.answer) (z ∙ into-whole a) in
          absurd (let q : ◌≡◌ {A = ℕ} 0 1 = cc in omega arith)

  -- the same of the refusal's number k
  pub printed-number : {after last : List ℕ} {k c p next : ℕ} → k ≡ c → left (refused c p) after ≡ wrote text before → k < 4294967296 → Put after 0 (refusal k p) last next → Wrote before (printed text) last next
  printed-number {after} {p = p} n e = printed-refused (ap (λ (j : ℕ). left (refused j p) after) n ∙ e)

  pub printed-whole : {after : List ℕ} {n : ℕ} → left (length-of n) after ≡ wrote text before → Wrote before (printed text) after n
  unfolding wrote printed
  printed-whole {after} {n} e = go (checked text) refl e
    where
      go : (v : Verdict) → checked text ≡ v → left (length-of n) after ≡ answering (written text) before v → Wrote before (elim v [ C.refused m q ↦ refusal m q | C.accepted ↦ written text ]) after n
      go (C.refused m q) a z = let y : length-of n ≡ refused m q = ap (λ (l : Left). l.answer) z in absurd (let q : ◌≡◌ {A = ℕ} 0 1 = cc in omega arith)
      go accepted a z =
          let y : length-of n ≡ length-of (length (written text)) = ap (λ (l : Left). l.answer) (z ∙ into-whole a) in
          let j : after ≡ sets before 0 (written text) = ap (λ (l : Left). l.bytes) (z ∙ into-whole a) in
          let m : n ≡ length (written text) = cc in
          record { counts = m; kept = j; inside = omega (arith, m, ap length j ∙ length-sets before 0 (written text), written_low text a, room) }
