-- Theorems about the definition: what holds of the tokens of a text.
use Prim.Native.Nat.{ℕ, zero, suc, ◌+◌, ◌-◌, ◌≤◌, ◌<◌}
use mathlib.Core.Path.{◌≡◌, refl, sym, ap, ◌∙◌, subst}
use mathlib.Core.Bool.{Bool, true, false, ◌&&◌, ◌||◌}
use mathlib.Core.List.{List, [], ◌∷◌, ◌++◌, map-append}
use native.Mathlib.Omega.{arith}
use native.Mathlib.Decide.{dec_lt}
use lib.ListN.{length, get_or, take, drop, length-drop, length-append, drop_of_length-le, get_or-append}
use lib.Seq.{drop-cons, length-take-le, take-suc, get_or-append_seam}
use lib.Dec.{eqb, ltb}
use borrow.Author.Tests.{eqb-true, le-ltb, ltb-true, ltb-false}
use Rattle.syntax.specs.Token.{k_end, k_number}
use Rattle.lexer.specs.Lex.{
  is_digit,
  is_letter,
  is_word,
  is_blank,
  all,
  same,
  kind_in,
  grouped,
  kind_of,
  longest,
  value_of,
  Token,
  is_large,
  Front,
  blank,
  nothing,
  token,
  front,
  Scanned,
  found,
  stray,
  before,
  scan,
  Lexing,
  tokens,
  refused,
  none_large,
  lexed,
}
use Rattle.lexer.specs.Tokens.{Longest, end_at, Blanks, Scans, ended, strayed, next, next-stray, FirstLarge, here, there}
use Rattle.lexer.specs.Parts.{class_of, stored, kinds_of, places_of}
use Rattle.lexer.proofs.Bytes.{class-letter, class-digit, digit-bounds}
use Rattle.lexer.proofs.Numbers.{digit_or_underscore, last, grouped-last}
use Rattle.lexer.proofs.Longest.{name-kind, no_name, number-kind, no_number, mark-kind, word-no-number, mark-no-number}
use Rattle.lexer.proofs.Fronts.{size-value, front-token}
use Rattle.lexer.proofs.Loop.{lexed-long, front-longest, at-blank, at-nothing, at_size, at-token}

-- the first byte of a blank front
front-blank : (l : List ℕ) (i : ℕ) → i < length l → front (drop i l) ≡ blank → is_blank (get_or l i 0) ≡ true
unfolding front
front-blank l i h e = go (is_blank (get_or l i 0)) (longest (get_or l i 0 ∷ drop (suc i) l)) (sym (ap front (drop-cons l i 0 h)) ∙ e)
  where
    go : (t : Bool) (n : ℕ)
        → elim t [ true ↦ blank | false ↦ elim n [ zero ↦ nothing | suc n ↦ token (kind_of (take (suc n) (get_or l i 0 ∷ drop (suc i) l))) (suc n) (value_of (take (suc n) (get_or l i 0 ∷ drop (suc i) l))) ] ] ≡ blank
        → t ≡ true
    go true n e = refl
    go false zero e = absurd (let z : ◌≡◌ {A = ℕ} 0 1 = cc in omega arith)
    go false (suc n) e = absurd (let z : ◌≡◌ {A = ℕ} 0 1 = cc in omega arith)

-- a byte more in front
more-blank : (l : List ℕ) (p q : ℕ) → is_blank (get_or l p 0) ≡ true → Blanks l (p + 1) q → Blanks l p q
more-blank l p q e b = record { ordered = omega (arith, b.ordered); all-blank = λ i h k. go i h k (dec_lt p i) }
  where
    go : (i : ℕ) → p ≤ i → i < q → Dec (p < i) → is_blank (get_or l i 0) ≡ true
    go i h k (yes c) = b.all-blank i (omega arith) k
    go i h k (no c) = let z : p ≡ i = omega (arith, c) in subst (λ (x : ℕ). is_blank (get_or l x 0) ≡ true) z e

none_between : (l : List ℕ) (p : ℕ) → Blanks l p p
none_between l p = record { ordered = omega arith; all-blank = λ i h k. absurd (omega arith) }

scans-blank : (l : List ℕ) (p : ℕ) (s : Scanned) → is_blank (get_or l p 0) ≡ true → Scans l (p + 1) s → Scans l p s
scans-blank l p s e (ended b) = ended (more-blank l p (length l) e b)
scans-blank l p s e (strayed {q = q} b h f) = strayed (more-blank l p q e b) h f
scans-blank l p s e (next {t = t} size b f c) = next size (more-blank l p t.place e b) f c
scans-blank l p s e (next-stray {t = t} size b f c) = next-stray size (more-blank l p t.place e b) f c

scans-token : (l : List ℕ) (p size : ℕ) (t : Token) (s : Scanned) → Blanks l p t.place → Longest (drop t.place l) t.kind size t.value → Scans l (t.place + size) s → Scans l p (before t s)
scans-token l p size t (found ts) b f c = next size b f c
scans-token l p size t (stray ts q) b f c = next-stray size b f c

scans-end : (l : List ℕ) (i : ℕ) → i ≡ length l → Scans l i (scan i 0 (drop i l))
unfolding scan
scans-end l i h =
    rw (drop_of_length-le l {i = i} (omega arith))
    (subst (λ (n : ℕ). Scans l i (found (end_at n ∷ []))) (sym h) (ended (subst (λ (n : ℕ). Blanks l i n) h (none_between l i))))

scans-from : (d : ℕ) (l : List ℕ) (i : ℕ) → length l ≤ i + d → i ≤ length l → Scans l i (scan i 0 (drop i l))
scans-from zero l i h k = scans-end l i (omega arith)
scans-from (suc d) l i h k = go (dec_lt i (length l)) (front (drop i l)) refl (λ j a b. scans-from d l j a b)
  where
    go : Dec (i < length l) → (x : Front) → front (drop i l) ≡ x → ((j : ℕ) → length l ≤ j + d → j ≤ length l → Scans l j (scan j 0 (drop j l))) → Scans l i (scan i 0 (drop i l))
    go (no b) x f g = scans-end l i (omega (arith, b))
    go (yes b) blank f g = rw (at-blank l i b f) (scans-blank l i _ (front-blank l i b f) (g (i + 1) (omega arith) (omega arith)))
    go (yes b) nothing f g = rw (at-nothing l i b f) (strayed (none_between l i) b f)
    go (yes b) (token k m v) f g =
        let z = at_size l i b k m v f in
        rw (at-token l i b k m v f)
        (scans-token l i m (record { kind = k; place = i; value = v }) (scan (i + m) 0 (drop (i + m) l)) (none_between l i) (front-longest (drop i l) k m v f) (g (i + m) (omega (arith, z.0)) z.1))

-- no token is large
pub data Small : List Token → Type 0 where
  none : Small []
  one : {t : Token} {ts : List Token} → is_large t ≡ false → Small ts → Small (t ∷ ts)

-- THEOREM. What the answer of the definition says of a text, in each of its cases.
pub data Right (text : List ℕ) : Lexing → Type 0 where
  has-tokens : {ts : List Token} → length text ≤ 2048 → Scans text 0 (found ts) → Small ts → Right text (tokens ts)
  too_long : 2048 < length text → Right text (refused 1 2048)
  no-token : {ts : List Token} {p : ℕ} → length text ≤ 2048 → Scans text 0 (stray ts p) → Right text (refused 2 p)
  too_large : {ts : List Token} {p : ℕ} → length text ≤ 2048 → Scans text 0 (found ts) → FirstLarge ts p → Right text (refused 3 p)

judged : (text : List ℕ) (every ts : List Token) → length text ≤ 2048 → Scans text 0 (found every) → (Small ts → Small every) → ((p : ℕ) → FirstLarge ts p → FirstLarge every p) → Right text (none_large every ts)
unfolding none_large
judged text every [] h s f g = has-tokens h s (f none)
judged text every (t ∷ ts) h s f g = go (is_large t) refl (λ a b. judged text every ts h s a b)
  where
    go : (b : Bool) → is_large t ≡ b → ((Small ts → Small every) → ((p : ℕ) → FirstLarge ts p → FirstLarge every p) → Right text (none_large every ts))
        → Right text (elim b [ true ↦ refused 3 t.place | false ↦ none_large every ts ])
    go true q k = too_large h s (g t.place (here q))
    go false q k = k (λ x. f (one q x)) (λ p x. g p (there q x))

pub lexed-right : (text : List ℕ) → Right text (lexed text)
unfolding lexed
lexed-right text = go (ltb 2048 (length text)) refl (scan 0 0 text) (scans-from (length text) text 0 (omega arith) (omega arith))
  where
    go : (b : Bool) → ltb 2048 (length text) ≡ b → (s : Scanned) → Scans text 0 s → Right text (elim b [ true ↦ refused 1 2048 | false ↦ elim s [ stray us p ↦ refused 2 p | found us ↦ none_large us us ] ])
    go true q s c = too_long (ltb-true 2048 (length text) q)
    go false q (stray us p) c = no-token (ltb-false 2048 (length text) q) c
    go false q (found us) c = judged text us us (ltb-false 2048 (length text) q) c (λ x. x) (λ p x. x)

-- ---- and nothing else is there

-- a blank byte begins no token
blank-kind : (b : ℕ) (bs : List ℕ) → is_blank b ≡ true → kind_of (b ∷ bs) ≡ k_end
unfolding kind_of kind_in same
blank-kind b bs e = go (eqb b 32) refl (eqb b 9) refl (eqb b 10) refl (eqb b 13) refl e
  where
    at : (n : ℕ) → kind_of (n ∷ bs) ≡ k_end → eqb b n ≡ true → kind_of (b ∷ bs) ≡ k_end
    at n k q = subst (λ (x : ℕ). kind_of (x ∷ bs) ≡ k_end) (sym (eqb-true b n q)) k

    go : (w : Bool) → eqb b 32 ≡ w → (x : Bool) → eqb b 9 ≡ x → (y : Bool) → eqb b 10 ≡ y → (z : Bool) → eqb b 13 ≡ z → w || x || y || z ≡ true → kind_of (b ∷ bs) ≡ k_end
    go true p x q y r z s e = at 32 refl p
    go false p true q y r z s e = at 9 refl q
    go false p false q true r z s e = at 10 refl r
    go false p false q false r true s e = at 13 refl s
    go false p false q false r false s e = absurd (let z : ◌≡◌ {A = ℕ} 0 1 = cc in omega arith)

blank-front : (l : List ℕ) (i : ℕ) → i < length l → is_blank (get_or l i 0) ≡ true → front (drop i l) ≡ blank
unfolding front
blank-front l i h e = rw (drop-cons l i 0 h) (rw (e, front))

-- a longest token stands at the front
longest-front : (l : List ℕ) (k m v : ℕ) → Longest l k m v → front l ≡ token k m v
longest-front [] k m v f = absurd (omega (arith, f.some, f.fits))
longest-front (b ∷ bs) k zero v f = absurd (omega (arith, f.some))
longest-front (b ∷ bs) k (suc n) v f = go (is_blank b) refl
  where
    go : (t : Bool) → is_blank b ≡ t → front (b ∷ bs) ≡ token k (suc n) v
    go true e =
        let q : eqb k k_end ≡ true = ap (λ (x : ℕ). eqb x k_end) (f.kind-of ∙ blank-kind b (take n bs) e) in
        absurd (let z : true ≡ false = sym q ∙ f.is-token in let y : ◌≡◌ {A = ℕ} 0 1 = cc in omega arith)
    go false e = let q = front-token b bs e n (sym f.longest) in let x = f.kind-of in let y = f.value-of in cc

over-blanks : (d : ℕ) (l : List ℕ) (p q : ℕ) → q ≡ p + d → q ≤ length l → Blanks l p q → scan p 0 (drop p l) ≡ scan q 0 (drop q l)
over-blanks zero l p q e h b = ap (λ (x : ℕ). scan x 0 (drop x l)) (omega arith)
over-blanks (suc d) l p q e h b =
    at-blank l p (omega arith) (blank-front l p (omega arith) (b.all-blank p (omega arith) (omega arith)))
    ∙ over-blanks d l (p + 1) q (omega arith) h (record { ordered = omega arith; all-blank = λ i u v. b.all-blank i (omega arith) v })

up_to : (l : List ℕ) (p q : ℕ) → q ≤ length l → Blanks l p q → scan p 0 (drop p l) ≡ scan q 0 (drop q l)
up_to l p q h b = over-blanks (q - p) l p q (omega (arith, b.ordered)) h b

at-end : (l : List ℕ) → scan (length l) 0 (drop (length l) l) ≡ found (end_at (length l) ∷ [])
unfolding scan
at-end l = rw (drop_of_length-le l {i = length l} (omega arith))

module _ (l : List ℕ) (p size : ℕ) (t : Token) (b : Blanks l p t.place) (f : Longest (drop t.place l) t.kind size t.value) where
  up-to-token : scan p 0 (drop p l) ≡ before t (scan (t.place + size) 0 (drop (t.place + size) l))
  up-to-token =
      let h : t.place < length l = omega (arith, f.some, f.fits, length-drop t.place l) in
      up_to l p t.place (omega arith) b ∙ at-token l t.place h t.kind size t.value (longest-front (drop t.place l) t.kind size t.value f)

-- THEOREM. What there is from a place on is what `scan` finds there, so it is one thing.
pub scans-only : {text : List ℕ} {p : ℕ} {s : Scanned} → Scans text p s → scan p 0 (drop p text) ≡ s
scans-only {text} {p} (ended b) = up_to text p (length text) (omega arith) b ∙ at-end text
scans-only {text} {p} (strayed {q = q} b h f) = up_to text p q (omega arith) b ∙ at-nothing text q h f
scans-only {text} {p} (next {t = t} size b f c) = up-to-token text p size t b f ∙ ap (before t) (scans-only c)
scans-only {text} {p} (next-stray {t = t} size b f c) = up-to-token text p size t b f ∙ ap (before t) (scans-only c)

small-passes : (every : List Token) {ts : List Token} → Small ts → none_large every ts ≡ tokens every
unfolding none_large
small-passes every none = refl
small-passes every (one e s) = rw (e, none_large) (small-passes every s)

large-refused : (every : List Token) {ts : List Token} {p : ℕ} → FirstLarge ts p → none_large every ts ≡ refused 3 p
unfolding none_large
large-refused every (here e) = rw (e, none_large)
large-refused every (there e f) = rw (e, none_large) (large-refused every f)

scanned : (text : List ℕ) {s : Scanned} → length text ≤ 2048 → Scans text 0 s → lexed text ≡ elim s [ stray ts p ↦ refused 2 p | found ts ↦ none_large ts ts ]
unfolding lexed
scanned text h s = rw (le-ltb 2048 (length text) h, lexed) (rw (scans-only s))

-- THEOREM. The definition answers what holds of a text: no other answer does.
pub lexed-only : (text : List ℕ) {a : Lexing} → Right text a → lexed text ≡ a
lexed-only text (has-tokens {ts = ts} h s m) = scanned text h s ∙ small-passes ts m
lexed-only text (too_long h) = lexed-long text h
lexed-only text (no-token h s) = scanned text h s
lexed-only text (too_large {ts = ts} h s f) = scanned text h s ∙ large-refused ts f

-- THEOREM. Places ascend strictly, from p on.
pub data Ascending : ℕ → List Token → Type 0 where
  no_more : {p : ℕ} → Ascending p []
  above : {p : ℕ} {t : Token} {ts : List Token} → p ≤ t.place → Ascending (suc t.place) ts → Ascending p (t ∷ ts)

later : {p q : ℕ} {ts : List Token} → p ≤ q → Ascending q ts → Ascending p ts
later h no_more = no_more
later {p = p} h (above {t = t} k a) = let z : p ≤ t.place = omega arith in above z a

pub ascending : {text : List ℕ} {p : ℕ} {ts : List Token} → Scans text p (found ts) → Ascending p ts
ascending (ended b) = above b.ordered no_more
ascending (next {t = t} size b f c) = above b.ordered (later {q = t.place + size} (omega (arith, f.some)) (ascending c))

-- THEOREM. There are at most as many tokens as bytes, and the end.
pub count : {text : List ℕ} {p : ℕ} {ts : List Token} → Scans text p (found ts) → p + length ts ≤ length text + 1
count (ended b) = omega (arith, b.ordered)
count (next size b f c) = omega (arith, b.ordered, f.some, count c)

-- THEOREM. The last token is the end, at the text's length, and no other is of its kind.
pub data Ended (n : ℕ) : List Token → Type 0 where
  the_end : Ended n (end_at n ∷ [])
  before-end : {t : Token} {ts : List Token} → eqb t.kind k_end ≡ false → Ended n ts → Ended n (t ∷ ts)

pub end-last : {text : List ℕ} {p : ℕ} {ts : List Token} → Scans text p (found ts) → Ended (length text) ts
end-last (ended b) = the_end
end-last (next size b f c) = before-end f.is-token (end-last c)

no-letter : (b : ℕ) → is_digit b ≡ true → is_letter b ≡ false
no-letter b e =
    let small : b < 256 = omega (arith, digit-bounds b e) in
    let four : class_of b ≡ 4 = eqb-true _ _ (sym (class-digit b small) ∙ e) in
    class-letter b small ∙ rw four

-- THEOREM. Bytes are a number exactly if the first is a digit, the others are digits or underscores, and the last is a digit: so an underscore stands between two digits.
pub number-exactly : (b : ℕ) (bs : List ℕ) → eqb (kind_of (b ∷ bs)) k_number ≡ is_digit b && (all digit_or_underscore bs && is_digit (last b bs))
number-exactly b bs = go (is_digit b) (is_letter b) (all is_word bs) (grouped true bs) refl refl refl refl
  where
    go : (d l w g : Bool) → is_digit b ≡ d → is_letter b ≡ l → all is_word bs ≡ w → grouped true bs ≡ g → eqb (kind_of (b ∷ bs)) k_number ≡ d && (all digit_or_underscore bs && is_digit (last b bs))
    go true l w true d l' w' g = rw (number-kind b bs (no-letter b d) d g) (sym g ∙ ap (λ (t : Bool). grouped t bs) (sym d) ∙ grouped-last b bs)
    go true l w false d l' w' g = rw (no_number b bs (no-letter b d) d g) (sym g ∙ ap (λ (t : Bool). grouped t bs) (sym d) ∙ grouped-last b bs)
    go false true true g d l' w' g' = rw (name-kind b bs l' w') (word-no-number (b ∷ bs))
    go false true false g d l' w' g' = rw (no_name b bs l' w')
    go false false w g d l' w' g' = rw (mark-kind b bs l' d) (mark-no-number (b ∷ bs))

-- THEOREM. The value of a token that is no number is its size.
pub token-fits : {l : List ℕ} {k m v : ℕ} → Longest l k m v → eqb k k_number ≡ false → v ≡ m
token-fits {l = l} {m = m} f e = f.value-of ∙ size-value (take m l) (ap (λ (x : ℕ). eqb x k_number) (sym f.kind-of) ∙ e) ∙ length-take-le m l f.fits

-- THEOREM. Each token has its place inside the text, or at its end.
pub inside : {text : List ℕ} {p : ℕ} {ts : List Token} → Scans text p (found ts) → (i : ℕ) (d : Token) → i < length ts → (get_or ts i d).place ≤ length text
inside (ended b) zero d h = omega arith
inside (ended b) (suc i) d h = absurd (omega arith)
inside {text = text} (next {t = t} size b f c) zero d h = omega (arith, f.some, f.fits, length-drop t.place text)
inside (next size b f c) (suc i) d h = inside c i d (omega arith)

-- The tokens that the code has stored, one by one.
pub stored-length : (n : ℕ) (ks ps vs : List ℕ) → length (stored n ks ps vs) ≡ n
unfolding stored
stored-length zero ks ps vs = refl
stored-length (suc n) ks ps vs = length-append (stored n ks ps vs) (record { kind = get_or ks n 0; place = get_or ps n 0; value = get_or vs n 0 } ∷ []) ∙ omega (arith, stored-length n ks ps vs)

pub stored_at : (n i : ℕ) (ks ps vs : List ℕ) (d : Token) → i < n → get_or (stored n ks ps vs) i d ≡ record { kind = get_or ks i 0; place = get_or ps i 0; value = get_or vs i 0 }
unfolding stored
stored_at zero i ks ps vs d h = absurd (omega arith)
stored_at (suc n) i ks ps vs d h = go (dec_lt i n) (λ k. stored_at n i ks ps vs d k)
  where
    go : Dec (i < n) → (i < n → get_or (stored n ks ps vs) i d ≡ record { kind = get_or ks i 0; place = get_or ps i 0; value = get_or vs i 0 })
        → get_or (stored n ks ps vs ++ (record { kind = get_or ks n 0; place = get_or ps n 0; value = get_or vs n 0 } ∷ [])) i d ≡ record { kind = get_or ks i 0; place = get_or ps i 0; value = get_or vs i 0 }
    go (yes k) f = get_or-append (stored n ks ps vs) (record { kind = get_or ks n 0; place = get_or ps n 0; value = get_or vs n 0 } ∷ []) d i (subst (λ (x : ℕ). i < x) (sym (stored-length n ks ps vs)) k) ∙ f k
    go (no k) f =
        let z : i ≡ n = omega (arith, k) in
        let w : i ≡ length (stored n ks ps vs) = z ∙ sym (stored-length n ks ps vs) in
        ap (λ (x : ℕ). get_or (stored n ks ps vs ++ (record { kind = get_or ks n 0; place = get_or ps n 0; value = get_or vs n 0 } ∷ [])) x d) w
        ∙ get_or-append_seam (stored n ks ps vs) (record { kind = get_or ks n 0; place = get_or ps n 0; value = get_or vs n 0 }) [] d
        ∙ ap (λ (x : ℕ). record { kind = get_or ks x 0; place = get_or ps x 0; value = get_or vs x 0 }) (sym z)

pub stored-kinds : (n : ℕ) (ks ps vs : List ℕ) → n ≤ length ks → kinds_of (stored n ks ps vs) ≡ take n ks
unfolding stored
stored-kinds zero ks ps vs h = refl
stored-kinds (suc n) ks ps vs h =
    map-append (λ (t : Token). t.kind) (stored n ks ps vs) (record { kind = get_or ks n 0; place = get_or ps n 0; value = get_or vs n 0 } ∷ [])
    ∙ ap (λ (x : List ℕ). x ++ (get_or ks n 0 ∷ [])) (stored-kinds n ks ps vs (omega arith)) ∙ sym (take-suc ks n 0 h)

pub stored-places : (n : ℕ) (ks ps vs : List ℕ) → n ≤ length ps → places_of (stored n ks ps vs) ≡ take n ps
unfolding stored
stored-places zero ks ps vs h = refl
stored-places (suc n) ks ps vs h =
    map-append (λ (t : Token). t.place) (stored n ks ps vs) (record { kind = get_or ks n 0; place = get_or ps n 0; value = get_or vs n 0 } ∷ [])
    ∙ ap (λ (x : List ℕ). x ++ (get_or ps n 0 ∷ [])) (stored-places n ks ps vs (omega arith)) ∙ sym (take-suc ps n 0 h)

-- what a caller of the lexer has of a text with tokens
pub right-tokens : {text : List ℕ} {ts : List Token} → Right text (tokens ts) → (length text ≤ 2048) × Scans text 0 (found ts) × Small ts
right-tokens (has-tokens h s m) = (h, s, m)

pub lexed-tokens : (text : List ℕ) (ts : List Token) → lexed text ≡ tokens ts → (length text ≤ 2048) × Scans text 0 (found ts) × Small ts
lexed-tokens text ts e = right-tokens (subst (λ (a : Lexing). Right text a) e (lexed-right text))
