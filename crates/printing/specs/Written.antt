-- Bytes written into a lent slice.
use Rattle.std.specs.Prelude.{ℕ, ◌+◌, ◌≤◌, min, ◌≡◌, List, length, replicate}
use Rattle.std.proofs.lemmas.List.Edits.{sets}

-- so many blanks
abbrev pub blanks : ℕ → List ℕ
blanks n = replicate n 32

-- the greatest place that a 64-bit number names; no slice is longer
abbrev pub most : ℕ
most = 18446744073709551615

-- Bytes written from `at` on: `after` is `before` with these bytes there, as far as it has places for them (to set what lies past the end changes nothing), and every other byte kept. `next` is the place past them, the slice's end or not.
pub record Put (before : List ℕ) (at : ℕ) (written : List ℕ) (after : List ℕ) (next : ℕ) : Type 0 where
  pub past : next ≡ min (at + length written) most
  pub kept : after ≡ sets before at written
  pub short : length before ≤ most

-- All of these bytes at the front, and every other byte kept; `count` is how many they are.
pub record Wrote (before written after : List ℕ) (count : ℕ) : Type 0 where
  pub counts : count ≡ length written
  pub kept : after ≡ sets before 0 written
  pub inside : count ≤ length after
