-- What each refusal of check says of its text, and that check refuses whatever it says so of.
use Prim.Native.Nat.{ℕ, zero, suc, ◌≤◌, ◌<◌}
use mathlib.Core.Path.{◌≡◌, refl, sym, ap, ◌∙◌, subst}
use mathlib.Core.Bool.{Bool, true, false, cond}
use mathlib.Core.List.Memᴰ.{head as here}
use mathlib.Core.List.Memᴰ.{not-nil as nowhere}
use mathlib.Core.List.Memᴰ.{tail as there}
use mathlib.Core.List.{List, [], ◌∷◌, ◌++◌}
use mathlib.Core.Logic.{◌↔◌}
use Rattle.std.specs.Prelude.{Option, None, Some}
use native.Mathlib.Omega.{arith}
use lib.ListN.{length, get_or}
use lib.Dec.{leb}
use borrow.Author.Tests.{leb-true, leb-false}
use Rattle.lexer.specs.Lex as L
use Rattle.lexer.specs.Lex.{Token, lexed}
use Rattle.lexer.proofs.Theorems as X
use Rattle.lexer.proofs.Theorems.{Right, Ascending, no_more, above, ascending, lexed-right, lexed-only, lexed-tokens}
use Rattle.syntax.specs.Tree.{Tree, prog}
use Rattle.syntax.specs.Abstract.{ast}
use Rattle.grammar.specs.Parse.{Res, parsed, ok, bad}
use Rattle.grammar.specs.Text as G
use Rattle.grammar.proofs.Grammar as Q
use Rattle.text_rules.specs.Scan.{least, lesser}
use Rattle.semantics.specs.Demand.{◌∈◌}
use Rattle.checker.specs.Check.{Verdict, accepted, refused, kinds, places, source_of, Rule, rules_of, Fault, fault, or_else, first_broken, verdict, checked_tokens, checked}
use Rattle.checker.specs.Accepted.{KeepsRules}
use Rattle.checker.specs.Refusal.{Smallest, Breaks, Refusal, too_long, no-token, too_large, no_program, breaks-rule}
use Rattle.checker.proofs.Table.{AllKept, none_kept, also_kept, least-none, kept-exactly, first-append}
use Rattle.checker.proofs.Analysing.{token-list}
use Rattle.checker.proofs.Exactly.{read-so, exactly}
use Rattle.checker.proofs.Inside.{Low, low-at, Lows, also, broken-low}

-- ---- the least of a list

record Least (is : List ℕ) (i : ℕ) : Type 0 where
  pub among : i ∈ is
  pub lowest : (j : ℕ) → j ∈ is → i ≤ j

least-so : (is : List ℕ) (i : ℕ) → least is ≡ Some i → Least is i
unfolding least lesser
least-so [] i e = absurd (let z : ◌≡◌ {A = ℕ} 0 1 = cc in omega arith)
least-so (k ∷ is) i e = go (least is) refl e (least-so is)
  where
    first : is ≡ [] → (j : ℕ) → j ∈ k ∷ is → k ≤ j
    first q j (here f) = omega (arith, f)
    first q j (there m) = absurd (nowhere (subst (λ (l : List ℕ). j ∈ l) q m))

    two : (b : Bool) (j : ℕ) → leb k j ≡ b → Least is j → Some (cond b k j) ≡ Some i → Least (k ∷ is) i
    two true j q l f = let z : k ≡ i = cc in record { among = here (sym z); lowest = low }
      where
        low : (n : ℕ) → n ∈ k ∷ is → i ≤ n
        low n (here g) = let z : k ≡ i = cc in omega (arith, g, z)
        low n (there g) = let z : k ≡ i = cc in omega (arith, z, leb-true k j q, l.lowest n g)
    two false j q l f = let z : j ≡ i = cc in record { among = there (subst (λ (n : ℕ). n ∈ is) z l.among); lowest = low }
      where
        low : (n : ℕ) → n ∈ k ∷ is → i ≤ n
        low n (here g) = let z : j ≡ i = cc in omega (arith, g, z, leb-false k j q)
        low n (there g) = let z : j ≡ i = cc in omega (arith, z, l.lowest n g)

    go : (o : Option ℕ) → least is ≡ o → lesser k o ≡ Some i → ((j : ℕ) → least is ≡ Some j → Least is j) → Least (k ∷ is) i
    go None q f r = let z : k ≡ i = cc in record { among = here (sym z); lowest = subst (λ (n : ℕ). (j : ℕ) → j ∈ k ∷ is → n ≤ j) z (first (least-none is q)) }
    go (Some j) q f r = two (leb k j) j refl (r j q) f

-- ---- places ascend with the numbers of tokens

from_on : {p : ℕ} {ts : List Token} → Ascending p ts → (j : ℕ) → j < length ts → p ≤ get_or (places ts) j 0
from_on no_more j h = absurd (omega (arith, h))
from_on (above k a) zero h = k
from_on (above k a) (suc j) h = omega (arith, k, from_on a j (omega (arith, h)))

places-ascend : {p : ℕ} {ts : List Token} → Ascending p ts → (i j : ℕ) → i ≤ j → j < length ts → get_or (places ts) i 0 ≤ get_or (places ts) j 0
places-ascend no_more i j h k = absurd (omega (arith, k))
places-ascend (above q a) zero zero h k = omega arith
places-ascend (above q a) zero (suc j) h k = omega (arith, from_on a j (omega (arith, k)))
places-ascend (above q a) (suc i) zero h k = absurd (omega (arith, h))
places-ascend (above q a) (suc i) (suc j) h k = places-ascend a i j (omega (arith, h)) (omega (arith, k))

-- ---- the first rule that is broken

-- it is found
finds : (before : List Rule) (r : Rule) (after : List Rule) (i : ℕ) → AllKept before → least r.broken ≡ Some i → first_broken (before ++ r ∷ after) ≡ Some (fault r.number i)
unfolding first_broken
finds before r after i k e = first-append before (r ∷ after) ∙ rw ((kept-exactly before).1 k, e)

-- what a fault says
abbrev Found : List Token → List Rule → Option Fault → Type 0
Found ts rs None = Unit
Found ts rs (Some f) = Breaks ts rs f.number (get_or (places ts) f.token 0)

later : {ts : List Token} {rs : List Rule} {n p : ℕ} (r : Rule) → r.broken ≡ [] → Breaks ts rs n p → Breaks ts (r ∷ rs) n p
later r e b =
    record { before = r ∷ b.before; broken = b.broken; after = b.after; order = ap (λ (l : List Rule). r ∷ l) b.order; kept = also_kept e b.kept; number = b.number; place = b.place }

module _ (ts : List Token) (a : Ascending 0 ts) where
  now : (r : Rule) (rs : List Rule) (i : ℕ) → Low (length ts) r.broken → least r.broken ≡ Some i → Breaks ts (r ∷ rs) r.number (get_or (places ts) i 0)
  now r rs i l e =
      let s = least-so r.broken i e in
      record {
        before = [];
        broken = r;
        after = rs;
        order = refl;
        kept = none_kept;
        number = refl;
        place = record { token = i; breaks = s.among; stands = refl; inside = low-at l; smallest = λ j m. places-ascend a i j (s.lowest j m) (low-at l j m) };
      }

  first_found : (rs : List Rule) → Lows (length ts) rs → Found ts rs (first_broken rs)
  unfolding first_broken
  first_found [] l = tt
  first_found (r ∷ rs) (also l ls) = go (least r.broken) refl (first_broken rs) (first_found rs ls)
    where
      go : (o : Option ℕ) → least r.broken ≡ o → (f : Option Fault) → Found ts rs f → Found ts (r ∷ rs) (or_else r.number o f)
      go None e None b = tt
      go None e (Some f) b = later r (least-none r.broken e) b
      go (Some i) e f b = now r rs i l e

  -- the place of the least of the tokens is the smallest
  least-place : (is : List ℕ) (p i : ℕ) → Smallest ts is p → least is ≡ Some i → get_or (places ts) i 0 ≡ p
  least-place is p i s e =
      let l = least-so is i e in
      omega (arith, s.stands, s.smallest i l.among, places-ascend a i s.token (l.lowest s.token s.breaks) (s.inside s.token s.breaks))

  breaks-only : (rs : List Rule) (n p : ℕ) → Breaks ts rs n p → verdict (places ts) (first_broken rs) ≡ refused n p
  breaks-only rs n p b = go (least b.broken.broken) refl
    where
      go : (o : Option ℕ) → least b.broken.broken ≡ o → verdict (places ts) (first_broken rs) ≡ refused n p
      go None e = absurd (nowhere (subst (λ (l : List ℕ). b.place.token ∈ l) (least-none b.broken.broken e) b.place.breaks))
      go (Some i) e =
          let f : first_broken rs ≡ Some (fault b.broken.number i) = ap first_broken b.order ∙ finds b.before b.broken b.after i b.kept e in
          let q = least-place b.broken.broken p i b.place e in
          ap (verdict (places ts)) f ∙ ap (λ (m : ℕ). refused m (get_or (places ts) i 0)) (sym b.number) ∙ ap (refused n) q

-- ---- every refusal

-- what an answer says of the text
abbrev Says : List ℕ → Verdict → Type 0
Says text accepted = Unit
Says text (refused n p) = Refusal text n p

-- and what the lexer's says
abbrev Lexes : List ℕ → L.Lexing → Type 0
Lexes text (L.tokens ts) = Unit
Lexes text (L.refused n p) = Refusal text n p

length-kinds : (ts : List Token) → length (kinds ts) ≡ length ts
length-kinds [] = refl
length-kinds (t ∷ ts) = ap suc (length-kinds ts)

module _ (text : List ℕ) where
  -- numbers 1 to 3
  by-lexer : (a : L.Lexing) → Right text a → Lexes text a
  by-lexer a (X.has-tokens h s m) = tt
  by-lexer a (X.too_long h) = too_long h
  by-lexer a (X.no-token h s) = no-token h s
  by-lexer a (X.too_large h s f) = too_large h s f

  -- numbers 5 to 10 and 17 to 19
  by-rules : (ts : List Token) → lexed text ≡ L.tokens ts → (t : Tree prog) → G.KeepsGrammar (kinds ts) t
      → Says text (verdict (places ts) (first_broken (rules_of (source_of text ts) (ast t))))
  by-rules ts l t k = go (first_broken rs) (first_found ts (ascending (lexed-tokens text ts l).1) rs low)
    where
      rs : List Rule
      rs = rules_of (source_of text ts) (ast t)

      low : Lows (length ts) rs
      low = subst (λ (m : ℕ). Lows m rs) (length-kinds ts) (broken-low (source_of text ts) t k)

      go : (o : Option Fault) → Found ts rs o → Says text (verdict (places ts) o)
      go None b = tt
      go (Some f) b = breaks-rule l k b

  -- number 4, and all together
  says : Says text (checked text)
  unfolding checked checked_tokens
  says = go (lexed text) refl (lexed-right text)
    where
      read : (ts : List Token) → lexed text ≡ L.tokens ts → (r : Res prog) → parsed (kinds ts) ≡ r
          → Says text (elim r [ bad m ↦ refused 4 (get_or (places ts) m 0) | ok t m ↦ verdict (places ts) (first_broken (rules_of (source_of text ts) (ast t))) ])
      read ts l (bad m) e = no_program l (Q.first-bad (kinds ts) (token-list text ts l) e)
      read ts l (ok t m) e = by-rules ts l t (Q.kept (kinds ts) (token-list text ts l) e)

      go : (a : L.Lexing) → lexed text ≡ a → Right text a → Says text (elim a [ L.refused n p ↦ refused n p | L.tokens ts ↦ checked_tokens (source_of text ts) ])
      go (L.refused n p) l r = by-lexer (L.refused n p) r
      go (L.tokens ts) l r = read ts l (parsed (kinds ts)) refl

  -- THEOREM. Whatever check refuses, it refuses on the grounds of document 01, with this number and at this place.
  pub refused-so : (n p : ℕ) → checked text ≡ refused n p → Refusal text n p
  refused-so n p e = subst (Says text) e says

  -- numbers 1 to 3
  lexer-refuses : (n p : ℕ) → Right text (L.refused n p) → checked text ≡ refused n p
  unfolding checked
  lexer-refuses n p r = rw (lexed-only text r, checked)

  -- THEOREM. Whatever these grounds hold of is refused by check, with this number and at this place.
  pub refused-only : (n p : ℕ) → Refusal text n p → checked text ≡ refused n p
  unfolding checked checked_tokens
  refused-only n p (too_long h) = lexer-refuses n p (X.too_long h)
  refused-only n p (no-token h s) = lexer-refuses n p (X.no-token h s)
  refused-only n p (too_large h s f) = lexer-refuses n p (X.too_large h s f)
  refused-only n p (no_program {ts = ts} l b) = rw (l, checked) (rw (Q.refuses (kinds ts) (token-list text ts l) b, checked_tokens))
  refused-only n p (breaks-rule {ts = ts} {t = t} l k b) =
      rw (l, checked) (rw (read-so (kinds ts) t k, checked_tokens) (breaks-only ts (ascending (lexed-tokens text ts l).1) _ n p b))

  -- THEOREM. Check refuses a text with a number at a place exactly if it has these grounds.
  pub refusal-exact : (n p : ℕ) → (checked text ≡ refused n p) ↔ Refusal text n p
  refusal-exact n p = (refused-so n p, refused-only n p)

  -- so a text has at most one number and place
  pub refusal-once : {m n p q : ℕ} → Refusal text m p → Refusal text n q → (m ≡ n) × (p ≡ q)
  refusal-once {m} {n} {p} {q} a b = let e : refused m p ≡ refused n q = sym (refused-only m p a) ∙ refused-only n q b in (cc, cc)

  -- and one that keeps every rule has none
  pub kept-unrefused : {n p : ℕ} → KeepsRules text → Refusal text n p → ⊥
  kept-unrefused {n} {p} k r = let e : accepted ≡ refused n p = sym ((exactly text).1 k) ∙ refused-only n p r in let z : ◌≡◌ {A = ℕ} 0 1 = cc in omega arith
