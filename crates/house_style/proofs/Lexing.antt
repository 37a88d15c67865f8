-- The tokens of pieces of which no two run together are just their words, each at its place.
use Prim.Native.Nat.{ℕ, suc, ◌+◌}
use mathlib.Core.Path.{◌≡◌, refl, sym, ap, ◌∙◌}
use mathlib.Core.Bool.{Bool, true, false}
use mathlib.Core.List.{List, [], ◌∷◌, ◌++◌, append_assoc, map}
use native.Mathlib.Omega.{arith}
use native.Mathlib.Nat.{add-zero}
use lib.ListN.{length, get_or, take, length-append}
use lib.Seq.{take-append_seam, drop-append_seam}
use lib.Dec.{eqb}
use Rattle.syntax.specs.Token.{k_end, k_name, k_number}
use Rattle.lexer.specs.Lex.{is_blank, all, kind_of, value_of, longest, front, Token, found, before, scan}
use Rattle.lexer.specs.Lex as L
use Rattle.lexer.specs.Tokens.{end_at}
use Rattle.lexer.proofs.Fronts.{front-token, size-value}
use Rattle.text_rules.specs.Spelling.{spelled}
use Rattle.checker.specs.Check.{kinds, places, values}
use Rattle.house_style.specs.House.{Piece, word, gap, flat}

-- each word is a token, and the longest one where it stands; the rest is blank
pub data Apart : List Piece → Type 0 where
  done : Apart []
  blanks : {bs : List ℕ} {ps : List Piece} → all is_blank bs ≡ true → Apart ps → Apart (gap bs ∷ ps)
  token : {b : ℕ} {bs : List ℕ} {ps : List Piece} → is_blank b ≡ false → longest (b ∷ bs ++ flat ps) ≡ suc (length bs) → Apart ps → Apart (word (b ∷ bs) ∷ ps)

abbrev pub token_at : ℕ → List ℕ → Token
token_at p bs = record { kind = kind_of bs; place = p; value = value_of bs }

-- the tokens of pieces from place p on, and the end
unfoldable pub tokens_from : ℕ → List Piece → List Token
tokens_from p [] = end_at p ∷ []
tokens_from p (gap bs ∷ ps) = tokens_from (p + length bs) ps
tokens_from p (word bs ∷ ps) = token_at p bs ∷ tokens_from (p + length bs) ps

over-blanks : (p : ℕ) (bs l : List ℕ) → all is_blank bs ≡ true → scan p 0 (bs ++ l) ≡ scan (p + length bs) 0 l
unfolding scan all front
over-blanks p [] l e = ap (λ (q : ℕ). scan q 0 l) (sym (add-zero p))
over-blanks p (b ∷ bs) l e = go (is_blank b) refl e (over-blanks (suc p) bs l)
  where
    go : (t : Bool) → is_blank b ≡ t → elim t [ true ↦ all is_blank bs | false ↦ false ] ≡ true → (all is_blank bs ≡ true → scan (suc p) 0 (bs ++ l) ≡ scan (suc p + length bs) 0 l) → scan p 0 (b ∷ bs ++ l) ≡ scan (p + suc (length bs)) 0 l
    go true f h g = rw (f, front, scan) (g h ∙ ap (λ (q : ℕ). scan q 0 l) (omega arith))
    go false f h g = let z : ◌≡◌ {A = ℕ} 0 1 = cc in absurd (omega arith)

-- the bytes of a token that has begun
over-token : (p : ℕ) (bs l : List ℕ) → scan p (length bs) (bs ++ l) ≡ scan (p + length bs) 0 l
unfolding scan
over-token p [] l = ap (λ (q : ℕ). scan q 0 l) (sym (add-zero p))
over-token p (b ∷ bs) l = over-token (suc p) bs l ∙ ap (λ (q : ℕ). scan q 0 l) (omega arith)

at_front : (p b : ℕ) (bs l : List ℕ) {k v : ℕ} → front (b ∷ bs ++ l) ≡ L.token k (suc (length bs)) v → scan p 0 (b ∷ bs ++ l) ≡ before (record { kind = k; place = p; value = v }) (scan (p + suc (length bs)) 0 l)
unfolding scan
at_front p b bs l {k} {v} e = rw (e, scan) (ap (before (record { kind = k; place = p; value = v })) (ap (λ (n : ℕ). scan (suc p) n (bs ++ l)) (omega arith) ∙ over-token (suc p) bs l ∙ ap (λ (q : ℕ). scan q 0 l) (omega arith)))

-- THEOREM. What is found in such pieces is their words.
pub scanned : (p : ℕ) {ps : List Piece} → Apart ps → scan p 0 (flat ps) ≡ found (tokens_from p ps)
unfolding scan flat tokens_from
scanned p done = refl
scanned p (blanks {bs = bs} {ps = ps} e a) = over-blanks p bs (flat ps) e ∙ scanned (p + length bs) a
scanned p (token {b = b} {bs = bs} {ps = ps} e f a) =
    let h = front-token b (bs ++ flat ps) e (length bs) f in
    let k : front (b ∷ bs ++ flat ps) ≡ L.token (kind_of (b ∷ bs)) (suc (length bs)) (value_of (b ∷ bs)) = rw (take-append_seam bs (flat ps)) at h in
    at_front p b bs (flat ps) k ∙ ap (before (token_at p (b ∷ bs))) (scanned (p + suc (length bs)) a)

-- ---- kinds, spellings and values of these tokens

unfoldable pub kinds_of : List Piece → List ℕ
kinds_of [] = []
kinds_of (gap bs ∷ ps) = kinds_of ps
kinds_of (word bs ∷ ps) = kind_of bs ∷ kinds_of ps

pub kinds-from : (p : ℕ) (ps : List Piece) → kinds (tokens_from p ps) ≡ kinds_of ps ++ k_end ∷ []
unfolding tokens_from kinds_of
kinds-from p [] = refl
kinds-from p (gap bs ∷ ps) = kinds-from (p + length bs) ps
kinds-from p (word bs ∷ ps) = ap (kind_of bs ∷◌) (kinds-from (p + length bs) ps)

-- token i is spelled w, if it is a name, and has w's value, if it is a number
pub record Spells (spell : ℕ → List ℕ) (value : ℕ → ℕ) (i : ℕ) (w : List ℕ) : Type 0 where
  pub name : kind_of w ≡ k_name → spell i ≡ w
  pub number : value i ≡ value_of w

-- the tokens from token i on spell the words of pieces
module _ (spell : ℕ → List ℕ) (value : ℕ → ℕ) where
  unfoldable pub Spelt : ℕ → List Piece → Type 0
  Spelt i [] = Unit {0}
  Spelt i (gap bs ∷ ps) = Spelt i ps
  Spelt i (word bs ∷ ps) = Spells spell value i bs × Spelt (i + 1) ps

-- ---- so it is in the text of pieces

at_map : (f : Token → ℕ) (us : List Token) (t : Token) (vs : List Token) → get_or (map f (us ++ t ∷ vs)) (length us) 0 ≡ f t
at_map f [] t vs = refl
at_map f (u ∷ us) t vs = at_map f us t vs

module _ (ps₀ : List Piece) where
  abbrev ts : List Token
  ts = tokens_from 0 ps₀

  abbrev pub spell_of : ℕ → List ℕ
  spell_of = spelled (flat ps₀) (places ts) (values ts)

  abbrev pub value_in : ℕ → ℕ
  value_in i = get_or (values ts) i 0

  -- the token after the tokens us, where the bytes pre stand before it
  one : (pre : List ℕ) (us vs : List Token) (w : List ℕ) (ps : List Piece) (i : ℕ) → flat ps₀ ≡ pre ++ (w ++ flat ps) → ts ≡ us ++ token_at (length pre) w ∷ vs → i ≡ length us → Spells spell_of value_in i w
  one pre us vs w ps i e h n =
      let a : get_or (places ts) i 0 ≡ length pre = rw (n, h) (at_map (λ t. t.place) us (token_at (length pre) w) vs) in
      let b : get_or (values ts) i 0 ≡ value_of w = rw (n, h) (at_map (λ t. t.value) us (token_at (length pre) w) vs) in
      record {
        name = λ k. let c : value_of w ≡ length w = size-value w (ap (λ (x : ℕ). eqb x k_number) k) in rw (a, b, c, e) (ap (take (length w)) (drop-append_seam pre (w ++ flat ps)) ∙ take-append_seam w (flat ps));
        number = b;
      }

  spelt-from : (pre : List ℕ) (us : List Token) (ps : List Piece) (i : ℕ) → flat ps₀ ≡ pre ++ flat ps → ts ≡ us ++ tokens_from (length pre) ps → i ≡ length us → Spelt spell_of value_in i ps
  unfolding Spelt flat tokens_from
  spelt-from pre us [] i e h n = tt
  spelt-from pre us (gap bs ∷ ps) i e h n = spelt-from (pre ++ bs) us ps i (e ∙ sym (append_assoc pre bs (flat ps))) (h ∙ ap (λ (q : ℕ). us ++ tokens_from q ps) (sym (length-append pre bs))) n
  spelt-from pre us (word bs ∷ ps) i e h n = (
    one pre us (tokens_from (length pre + length bs) ps) bs ps i e h n,
    spelt-from (pre ++ bs) (us ++ token_at (length pre) bs ∷ []) ps (i + 1) (e ∙ sym (append_assoc pre bs (flat ps)))
        (h ∙ ap (λ (q : ℕ). us ++ token_at (length pre) bs ∷ tokens_from q ps) (sym (length-append pre bs)) ∙ sym (append_assoc us (token_at (length pre) bs ∷ []) (tokens_from (length (pre ++ bs)) ps)))
        (rw n (sym (length-append us (token_at (length pre) bs ∷ [])))),
  )

  -- THEOREM. The tokens of the text of pieces spell their words, in order.
  pub spelt : Spelt spell_of value_in 0 ps₀
  spelt = spelt-from [] [] ps₀ 0 refl refl refl
