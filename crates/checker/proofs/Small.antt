-- The place of a refusal is at most 2,048.
use Prim.Native.Nat.{ℕ, zero, suc, ◌≤◌}
use mathlib.Core.Path.{◌≡◌, refl}
use mathlib.Core.List.{List, []}
use Rattle.std.specs.Prelude.{Option, None, Some}
use native.Mathlib.Omega.{arith}
use lib.ListN.{length, get_or, length-drop}
use Rattle.lexer.specs.Lex as L
use Rattle.lexer.specs.Lex.{Token, lexed, found, stray}
use Rattle.lexer.specs.Tokens.{Scans, ended, strayed, next, next-stray, FirstLarge, here, there}
use Rattle.lexer.proofs.Theorems.{Right, has-tokens, too_long, no-token, too_large, lexed-right}
use Rattle.grammar.specs.Parse.{Res, ok, bad, parsed}
use Rattle.syntax.specs.Tree as T
use Rattle.syntax.specs.Abstract.{ast}
use Rattle.checker.specs.Check.{Verdict, accepted, refused, places, Source, source_of, rules_of, Fault, first_broken, verdict, checked_tokens, checked}

-- a verdict whose place, if it has one, is at most n
pub data Within (n : ℕ) : Verdict → Type 0 where
  fine : Within n accepted
  low : {c p : ℕ} → p ≤ n → Within n (refused c p)

place-low : {text : List ℕ} {p : ℕ} {ts : List Token} → Scans text p (found ts) → (i : ℕ) → get_or (places ts) i 0 ≤ length text
place-low (ended b) zero = omega arith
place-low (ended b) (suc i) = omega arith
place-low {text = text} (next {t = t} size b f c) zero = omega (arith, f.some, f.fits, length-drop t.place text)
place-low (next size b f c) (suc i) = place-low c i

verdict-low : (n : ℕ) (ps : List ℕ) → ((i : ℕ) → get_or ps i 0 ≤ n) → (o : Option Fault) → Within n (verdict ps o)
verdict-low n ps h None = fine
verdict-low n ps h (Some f) = low (h f.token)

tokens-low : (n : ℕ) (s : Source) → ((i : ℕ) → get_or s.places i 0 ≤ n) → Within n (checked_tokens s)
unfolding checked_tokens
tokens-low n s h = go (parsed s.kinds)
  where
    go : (r : Res T.prog) → Within n (elim r [ bad m ↦ refused 4 (get_or s.places m 0) | ok t m ↦ verdict s.places (first_broken (rules_of s (ast t))) ])
    go (bad m) = low (h m)
    go (ok t m) = verdict-low n s.places h (first_broken (rules_of s (ast t)))

-- where a byte begins no token, and the first large token
large-low : {text : List ℕ} {q p : ℕ} {ts : List Token} → Scans text p (found ts) → FirstLarge ts q → q ≤ length text
large-low s (here e) = place-low s 0
large-low (ended b) (there e f) = absurd (none f)
  where
    none : {q : ℕ} → FirstLarge [] q → ⊥
    none {q} f = elim f [ ]
large-low (next size b f c) (there e g) = large-low c g

stray-low : {text : List ℕ} {p q : ℕ} {ts : List Token} → Scans text p (stray ts q) → q ≤ length text
stray-low (strayed b h e) = omega (arith, h)
stray-low (next-stray size b f c) = stray-low c

pub checked-low : (text : List ℕ) → Within 2048 (checked text)
unfolding checked
checked-low text = go (lexed text) (lexed-right text)
  where
    go : (a : L.Lexing) → Right text a → Within 2048 (elim a [ L.refused n p ↦ refused n p | L.tokens ts ↦ checked_tokens (source_of text ts) ])
    go (L.tokens ts) (has-tokens h s m) = tokens-low 2048 (source_of text ts) (λ i. omega (arith, place-low s i, h))
    go (L.refused c p) r = low (first r)
      where
        first : Right text (L.refused c p) → p ≤ 2048
        first r = wide (L.refused c p) r refl
          where
            wide : (a : L.Lexing) → Right text a → a ≡ L.refused c p → p ≤ 2048
            wide a (has-tokens h s m) e = let z : ◌≡◌ {A = ℕ} 0 1 = cc in absurd (omega arith)
            wide a (too_long h) e = let z : 2048 ≡ p = cc in omega arith
            wide a (no-token {p = q} h s) e = let z : q ≡ p = cc in omega (arith, h, stray-low s)
            wide a (too_large {p = q} h s f) e = let z : q ≡ p = cc in omega (arith, h, large-low s f)
