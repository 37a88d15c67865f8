-- A whole text, from what the lexer answers and what is settled of its tokens.
use Rattle.std.specs.Prelude.{Ok, Err}
use Prim.Native.Nat.{ℕ, zero, suc, ◌≤◌, ◌<◌}
use mathlib.Core.Path.{◌≡◌, refl, sym, ap, ◌∙◌}
use mathlib.Core.Bool.{true, false}
use mathlib.Core.List.{List, [], ◌∷◌, ◌++◌, map-append}
use native.Mathlib.Omega.{arith}
use lib.ListN.{length, get_or, take, length-take, length-map}
use lib.Seq.{take-suc}
use lib.Dec.{eqb}
use Rattle.syntax.specs.Token.{k_end}
use Rattle.syntax.specs.declared.refusal.Refusal.{Refusal}
use Rattle.lexer.specs.Lex as L
use Rattle.lexer.specs.Lex.{Token, Lexing, lexed}
use Rattle.lexer.specs.Parts.{Lexes, stored}
use Rattle.lexer.proofs.Theorems.{Ended, the_end, before-end, lexed-tokens, end-last, count, stored-length, stored-kinds, stored-places}
use Rattle.grammar.specs.Text.{Tokens}
use Rattle.events.specs.Event.{Event}
use Rattle.text_rules.specs.Rules.{Head}
use Rattle.checker.specs.Check.{Verdict, kinds, values, Source, source, source_of, checked_tokens, checked}
use Rattle.checker.specs.Sizes.{TOKENS}
use Rattle.checker.specs.Analysis.{Reads, Settles, Analyses}
use Rattle.checker.specs.Analysis as N
use Rattle.checker.specs.declared.Analysis.{Analysis}

-- ---- the lists of kinds, places and values

pub stored-values : (n : ℕ) (ks ps vs : List ℕ) → n ≤ length vs → values (stored n ks ps vs) ≡ take n vs
unfolding stored
stored-values zero ks ps vs h = refl
stored-values (suc n) ks ps vs h =
    map-append (λ (t : Token). t.value) (stored n ks ps vs) (record { kind = get_or ks n 0; place = get_or ps n 0; value = get_or vs n 0 } ∷ [])
    ∙ ap (λ (l : List ℕ). l ++ get_or vs n 0 ∷ []) (stored-values n ks ps vs (omega arith))
    ∙ sym (take-suc vs n 0 (omega arith))

-- ---- the kinds of a text's tokens are a token list

pub ends-in : {m : ℕ} {ts : List Token} → Ended m ts → Tokens (kinds ts)
ends-in the_end = record { filled = omega arith; ends = λ a e. first a (omega (arith, e)); only = λ a h e. omega (arith, h) }
  where
    first : (a : ℕ) → a ≡ 0 → get_or (k_end ∷ []) a 0 ≡ k_end
    first zero e = refl
    first (suc a) e = absurd (omega (arith, e))
ends-in (before-end {t = t} {ts = ts} n e) =
    let r = ends-in e in
    record { filled = omega arith; ends = λ a q. later a q r; only = λ a h q. only a h q r }
  where
    later : (a : ℕ) → suc a ≡ length (kinds (t ∷ ts)) → Tokens (kinds ts) → get_or (kinds (t ∷ ts)) a 0 ≡ k_end
    later zero q r = absurd (omega (arith, q, r.filled))
    later (suc a) q r = r.ends a (omega (arith, q))

    only : (a : ℕ) → a < length (kinds (t ∷ ts)) → get_or (kinds (t ∷ ts)) a 0 ≡ k_end → Tokens (kinds ts) → suc a ≡ length (kinds (t ∷ ts))
    only zero h q r = absurd (clash (sym n ∙ ap (λ (k : ℕ). eqb k k_end) q))
      where
        clash : false ≡ true → ⊥
        clash z = let w : ◌≡◌ {A = ℕ} 0 1 = cc in omega arith
    only (suc a) h q r = omega (arith, r.only a (omega (arith, h)) q)

-- the kinds of a text's tokens are a token list, of at most so many
pub token-list : (text : List ℕ) (ts : List Token) → lexed text ≡ L.tokens ts → Tokens (kinds ts)
token-list text ts l = ends-in (end-last (lexed-tokens text ts l).1)

pub few-tokens : (text : List ℕ) (ts : List Token) → lexed text ≡ L.tokens ts → length ts ≤ TOKENS
few-tokens text ts l =
    let t = lexed-tokens text ts l in
    omega (arith, t.0, count t.1)

-- ---- what the lexer's answer says

pub as_long : {A : Type 0} {n : ℕ} (l : List A) → n ≤ length l → n ≡ length (take n l)
as_long {n = n} l h = sym (length-take n l ∙ omega (arith, h))

-- the first n of a text's tokens are told
module _ {text ks ps vs ks' ps' vs' : List ℕ} {n : ℕ} (x : Lexes text ks ps vs ks' ps' vs' (Ok n)) where
  pub few-told : n ≤ TOKENS
  few-told = omega (arith, few-tokens text (stored n ks' ps' vs') x.answer, stored-length n ks' ps' vs')

  pub told : n ≤ length ks' → n ≤ length ps' → n ≤ length vs' → Reads text (Ok (source text (take n ks') (take n ps') (take n vs'))) (lexed text)
  told h i j = rw x.answer (rw (← stored-kinds n ks' ps' vs' h, ← stored-places n ks' ps' vs' i, ← stored-values n ks' ps' vs' j) N.Reads.has)

pub refused-lexing : {text ks ps vs ks' ps' vs' : List ℕ} {r : Refusal} → Lexes text ks ps vs ks' ps' vs' (Err r) → Reads text (Err r) (lexed text)
refused-lexing x = rw x.answer N.Reads.refuses

-- ---- what is answered

-- s is a text with its tokens
pub record Lexed (text : List ℕ) (s : Source) : Type 0 where
  pub tokens : List Token
  pub lexes : lexed text ≡ L.tokens tokens
  pub is : s ≡ source_of text tokens

pub is-lexed : {text : List ℕ} {s : Source} {a : Lexing} → Reads text (Ok s) a → lexed text ≡ a → Lexed text s
is-lexed (N.Reads.has {ts = ts}) e = record { tokens = ts; lexes = e; is = refl }

module _ {text : List ℕ} {s : Source} (x : Lexed text s) where
  pub listed : Tokens s.kinds
  listed = rw x.is (token-list text x.tokens x.lexes)

  pub few-listed : length s.kinds ≤ TOKENS
  few-listed = rw x.is (let e : length (kinds x.tokens) ≡ length x.tokens = length-map x.tokens (λ (t : Token). t.kind) in omega (arith, e, few-tokens text x.tokens x.lexes))

  -- what check says is what is said of the tokens
  is-checked : checked text ≡ checked_tokens s
  unfolding checked
  is-checked = rw (x.lexes, checked) (ap checked_tokens (sym x.is))

  module _ {nodes : List ℕ} {events : List Event} {heads : List Head} {slots : List ℕ} where
    pub settled-refused : {r : Refusal} → Settles s nodes events heads slots (Err r) (checked_tokens s) → Analyses text (Err r) (checked text)
    settled-refused {r} h = rw is-checked (go h)
      where
        go : {v : Verdict} → Settles s nodes events heads slots (Err r) v → Analyses text (Err r) v
        go N.Settles.refuses = N.Analyses.rejects

pub settled : {text : List ℕ} {a : Analysis} → Lexed text a.source → Settles a.source a.nodes.now a.events.now a.heads.now a.slots.now (Ok a.root) (checked_tokens a.source) → Analyses text (Ok a) (checked text)
settled {text} {a} x h = rw (is-checked x) (go h)
  where
    go : {v : Verdict} → Settles a.source a.nodes.now a.events.now a.heads.now a.slots.now (Ok a.root) v → Analyses text (Ok a) v
    go (N.Settles.accepts w) = N.Analyses.has x.lexes x.is w

pub refused-so : {text : List ℕ} {r : Refusal} {a : Lexing} → Reads text (Err r) a → lexed text ≡ a → Analyses text (Err r) (checked text)
unfolding checked
refused-so N.Reads.refuses e = rw (e, checked) N.Analyses.rejects
