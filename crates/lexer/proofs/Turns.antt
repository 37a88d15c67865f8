-- What holds at each turn of the lexer's loop, how a turn keeps it, and what it gives where the loop is left.
use Prim.Native.Nat.{ℕ, ◌+◌, ◌≤◌, ◌<◌}
use mathlib.Core.Path.{◌≡◌, refl, sym, ap, ◌∙◌}
use mathlib.Core.List.{List, [], ◌∷◌, ◌++◌, map}
use native.Mathlib.Omega.{arith}
use native.Mathlib.Numerals.{add-one}
use lib.ListN.{length, drop, set, length-set, drop_of_length-le}
use lib.Seq.{sets}
use borrow.Author.Tests.{lt-ltb, le-ltb}
use Rattle.std.specs.Bool.{then_some}
use Rattle.std.specs.Option.{option_or}
use Rattle.std.specs.Prelude.{Option, None, Some, Ok, Err}
use Rattle.syntax.specs.declared.refusal.Reason.TheVariants as reason
use Rattle.lexer.specs.Lex.{Token, blank, nothing, token, front, Scanned, found, stray, before, scan, tokens, none_large, lexed}
use Rattle.lexer.specs.Parts.{held, held_front, large_as, stored, passed, written, Lexes}
use Rattle.lexer.proofs.Loop.{at-blank, at-nothing, at_size, at-token, piece-blank, piece-nothing, piece-token, outcome, lexed-long, lexed-start, outcome-token, stored_more}

-- the words of one slice, each f of its token: what it will hold in the end is what it holds now with the rest written from n on
pub record Writing (f : Token → ℕ) (text ws₀ ws : List ℕ) (at n : ℕ) : Type 0 where
  pub same_size : length ws ≡ length ws₀
  pub goal : sets ws₀ 0 (map f (written text)) ≡ sets ws n (map f (passed (scan at 0 (drop at text))))

written-long : (l : List ℕ) → 2048 < length l → written l ≡ []
unfolding written
written-long l h = rw (lt-ltb 2048 (length l) h, written)

written_start : (l : List ℕ) → length l ≤ 2048 → written l ≡ passed (scan 0 0 l)
unfolding written
written_start l h = rw (le-ltb 2048 (length l) h, written)

write-none : (f : Token → ℕ) (l ws : List ℕ) → 2048 < length l → ws ≡ sets ws 0 (map f (written l))
write-none f l ws h = sym (ap (λ ts. sets ws 0 (map f ts)) (written-long l h))

write-start : (f : Token → ℕ) (l ws : List ℕ) → length l ≤ 2048 → Writing f l ws ws 0 0
write-start f l ws h = record { same_size = refl; goal = ap (λ ts. sets ws 0 (map f ts)) (written_start l h) }

module _ {f : Token → ℕ} {l ws₀ ws : List ℕ} {i n : ℕ} (w : Writing f l ws₀ ws i n) where
  write-blank : i < length l → front (drop i l) ≡ blank → Writing f l ws₀ ws (i + 1) n
  write-blank h q = record { same_size = w.same_size; goal = w.goal ∙ ap (λ (s : Scanned). sets ws n (map f (passed s))) (at-blank l i h q) }

  write-nothing : i < length l → front (drop i l) ≡ nothing → ws ≡ sets ws₀ 0 (map f (written l))
  write-nothing h q = sym (w.goal ∙ ap (λ (s : Scanned). sets ws n (map f (passed s))) (at-nothing l i h q))

  write-token : i < length l → (k m v x : ℕ) → front (drop i l) ≡ token k m v → x ≡ f (record { kind = k; place = i; value = v }) → Writing f l ws₀ (set ws n x) (i + m) (n + 1)
  write-token h k m v x q r =
      record {
        same_size = length-set ws n x ∙ w.same_size;
        goal = w.goal ∙ ap (λ (s : Scanned). sets ws n (map f (passed s))) (at-token l i h k m v q) ∙ go (scan (i + m) 0 (drop (i + m) l));
      }
    where
      go : (s : Scanned) → sets ws n (map f (passed (before (record { kind = k; place = i; value = v }) s))) ≡ sets (set ws n x) (n + 1) (map f (passed s))
      go (found ts) = rw (r, add-one)
      go (stray ts p) = rw (r, add-one)

  write-end : length l ≤ i → (x : ℕ) → x ≡ f (record { kind = 0; place = i; value = 0 }) → set ws n x ≡ sets ws₀ 0 (map f (written l))
  unfolding scan
  write-end h x r = sym (w.goal ∙ rw (drop_of_length-le l {i = i} h, r))

-- at a turn, n tokens are stored and the text is scanned up to `at`
pub record Turn (text ks₀ ps₀ vs₀ ks ps vs : List ℕ) (at n : ℕ) (large : Option ℕ) : Type 0 where
  pub inside : at ≤ length text
  pub few : n ≤ at
  pub answer : lexed text ≡ outcome (stored n ks ps vs) large (scan at 0 (drop at text))
  pub kinds : Writing (λ (t : Token). t.kind) text ks₀ ks at n
  pub places : Writing (λ (t : Token). t.place) text ps₀ ps at n
  pub values : Writing (λ (t : Token). held t.kind t.value) text vs₀ vs at n

pub turn-start : (l ks ps vs : List ℕ) → length l ≤ 2048 → Turn l ks ps vs ks ps vs 0 0 None
unfolding stored
turn-start l ks ps vs h =
    record {
      inside = omega arith;
      few = omega arith;
      answer = lexed-start l h;
      kinds = write-start (λ (t : Token). t.kind) l ks h;
      places = write-start (λ (t : Token). t.place) l ps h;
      values = write-start (λ (t : Token). held t.kind t.value) l vs h;
    }

pub too_long : (l ks ps vs : List ℕ) → 2048 < length l → Lexes l ks ps vs ks ps vs (Err (record { reason = reason.TooLong; place = 2048 }))
too_long l ks ps vs h =
    record {
      answer = lexed-long l h;
      kinds = write-none (λ (t : Token). t.kind) l ks h;
      places = write-none (λ (t : Token). t.place) l ps h;
      values = write-none (λ (t : Token). held t.kind t.value) l vs h;
    }

module _ {l ks₀ ps₀ vs₀ ks ps vs : List ℕ} {i n : ℕ} {g : Option ℕ} (t : Turn l ks₀ ps₀ vs₀ ks ps vs i n g) where
  pub turn-blank : i < length l → held_front (front (drop i l)) ≡ blank → Turn l ks₀ ps₀ vs₀ ks ps vs (i + 1) n g
  turn-blank h e =
      let f = piece-blank (front (drop i l)) e in
      record {
        inside = omega arith;
        few = omega (arith, t.few);
        answer = t.answer ∙ ap (outcome (stored n ks ps vs) g) (at-blank l i h f);
        kinds = write-blank t.kinds h f;
        places = write-blank t.places h f;
        values = write-blank t.values h f;
      }

  pub turn-nothing : i < length l → held_front (front (drop i l)) ≡ nothing → Lexes l ks₀ ps₀ vs₀ ks ps vs (Err (record { reason = reason.NoToken; place = i }))
  unfolding outcome
  turn-nothing h e =
      let f = piece-nothing (front (drop i l)) e in
      record {
        answer = t.answer ∙ ap (outcome (stored n ks ps vs) g) (at-nothing l i h f);
        kinds = write-nothing t.kinds h f;
        places = write-nothing t.places h f;
        values = write-nothing t.values h f;
      }

  module _ (k m w : ℕ) (h : i < length l) (e : held_front (front (drop i l)) ≡ token k m w) where
    pub turn-size : (1 ≤ m) × (i + m ≤ length l)
    turn-size = let v = piece-token (front (drop i l)) k m w e in at_size l i h k m v.0 v.1

    pub turn-token : (r : Option ℕ) → n < length ks → n < length ps → n < length vs → r ≡ option_or g (then_some (large_as k w) i) → Turn l ks₀ ps₀ vs₀ (set ks n k) (set ps n i) (set vs n w) (i + m) (n + 1) r
    turn-token r a b c q =
        let x = piece-token (front (drop i l)) k m w e in
        let z = turn-size in
        let rest = scan (i + m) 0 (drop (i + m) l) in
        record {
          inside = z.1;
          few = omega (arith, z.0, t.few);
          answer =
              t.answer ∙ ap (outcome (stored n ks ps vs) g) (at-token l i h k m x.0 x.1) ∙ outcome-token (stored n ks ps vs) g k i x.0 rest
              ∙ ap (λ (y : ℕ). outcome (stored n ks ps vs ++ (record { kind = k; place = i; value = y } ∷ [])) (option_or g (then_some (large_as k y) i)) rest) (sym x.2)
              ∙ ap (λ (y : Option ℕ). outcome (stored n ks ps vs ++ (record { kind = k; place = i; value = w } ∷ [])) y rest) (sym q)
              ∙ ap (λ ts. outcome ts r rest) (sym (stored_more n k i w ks ps vs a b c));
          kinds = write-token t.kinds h k m x.0 k x.1 refl;
          places = write-token t.places h k m x.0 i x.1 refl;
          values = write-token t.values h k m x.0 w x.1 x.2;
        }

  module _ (h : length l ≤ i) where
    pub turn-large : (p : ℕ) → g ≡ Some p → Lexes l ks₀ ps₀ vs₀ (set ks n 0) (set ps n i) (set vs n 0) (Err (record { reason = reason.TooLarge; place = p }))
    unfolding scan outcome held
    turn-large p s =
        record {
          answer = t.answer ∙ rw (drop_of_length-le l {i = i} h) (rw (s, outcome));
          kinds = write-end t.kinds h 0 refl;
          places = write-end t.places h i refl;
          values = write-end t.values h 0 refl;
        }

    pub turn-tokens : g ≡ None → n < length ks → n < length ps → n < length vs → Lexes l ks₀ ps₀ vs₀ (set ks n 0) (set ps n i) (set vs n 0) (Ok (n + 1))
    unfolding scan outcome none_large held
    turn-tokens s a b c =
        record {
          answer = t.answer ∙ rw (drop_of_length-le l {i = i} h) (rw (s, outcome) (ap tokens (sym (stored_more n 0 i 0 ks ps vs a b c))));
          kinds = write-end t.kinds h 0 refl;
          places = write-end t.places h i refl;
          values = write-end t.values h 0 refl;
        }
