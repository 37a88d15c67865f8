-- The tokens of a text, said of its bytes without a scanner: blanks and longest tokens in turn, up to the end or a byte that begins none. That `scan` finds just these is proved in proofs/Theorems.
use Rattle.std.specs.Prelude.{ℕ, ◌+◌, ◌≤◌, ◌<◌, ◌≡◌, true, false, List, [], ◌∷◌, length, get_or, take, drop, eqb}
use Rattle.syntax.specs.Token.{k_end}
use Rattle.lexer.specs.Lex.{is_blank, kind_of, longest, value_of, Token, is_large, nothing, front, Scanned, found, stray}

-- "Tokens by longest match": a token at the front of l, the longest one, with its kind and value
pub record Longest (l : List ℕ) (kind size value : ℕ) : Type 0 where
  pub some : 1 ≤ size
  pub fits : size ≤ length l
  pub longest : size ≡ longest l
  pub kind-of : kind ≡ kind_of (take size l)
  pub is-token : eqb kind k_end ≡ false
  pub value-of : value ≡ value_of (take size l)

-- "the end being a token at the text's length": the end of a text of n bytes
abbrev pub end_at : ℕ → Token
end_at n = record { kind = k_end; place = n; value = 0 }

-- "blank, tab, LF, CR": from place p up to place q there are only such bytes
pub record Blanks (text : List ℕ) (p q : ℕ) : Type 0 where
  pub ordered : p ≤ q
  pub all-blank : (i : ℕ) → p ≤ i → i < q → is_blank (get_or text i 0) ≡ true

-- What there is from place p on: blanks, then the longest token that begins there, and so on, "a token's place being its first byte";
-- at last blanks and the end, or blanks and "a byte that begins no token".
pub data Scans (text : List ℕ) : ℕ → Scanned → Type 0 where
  ended : {p : ℕ} → Blanks text p (length text) → Scans text p (found (end_at (length text) ∷ []))
  strayed : {p q : ℕ} → Blanks text p q → q < length text → front (drop q text) ≡ nothing → Scans text p (stray [] q)
  next : {p : ℕ} {t : Token} {ts : List Token} (size : ℕ) → Blanks text p t.place → Longest (drop t.place text) t.kind size t.value
      → Scans text (t.place + size) (found ts)
      → Scans text p (found (t ∷ ts))
  next-stray : {p q : ℕ} {t : Token} {ts : List Token} (size : ℕ) → Blanks text p t.place → Longest (drop t.place text) t.kind size t.value
      → Scans text (t.place + size) (stray ts q)
      → Scans text p (stray (t ∷ ts) q)

-- "3 a name over 16 bytes or a number above 2,147,483,647", "the smallest place within a number winning": the first of the tokens that is so stands at p
pub data FirstLarge : List Token → ℕ → Type 0 where
  here : {t : Token} {ts : List Token} → is_large t ≡ true → FirstLarge (t ∷ ts) t.place
  there : {t : Token} {ts : List Token} {p : ℕ} → is_large t ≡ false → FirstLarge ts p → FirstLarge (t ∷ ts) p
