-- The names of a text that can be read are names, token by token, and so is every name of its tree.
use Prim.Native.Nat.{ℕ, zero, suc, ◌+◌, ◌≤◌, ◌<◌}
use mathlib.Core.Path.{◌≡◌, refl, sym, ap, ◌∙◌, subst}
use mathlib.Core.Bool.{Bool, true, false}
use mathlib.Core.List.{List, [], ◌∷◌, ◌++◌, append_assoc}
use native.Mathlib.Omega.{arith}
use native.Mathlib.Decide.{dec_lt}
use lib.Dec.{eqb}
use lib.ListN.{length, get_or, take, drop, drop_of_length-le, length-append}
use lib.Seq.{get_or-append_seam}
use Rattle.syntax.specs.Token.{k_end, k_name, k_number, k_close, k_comma, k_plus, k_minus, k_and, k_or, k_semi, k_else, k_rbrace, k_lbrace, k_int}
use Rattle.syntax.specs.Tree as T
use Rattle.syntax.specs.Tree.{Cat, Tree, mul_kind, cmp_kind, end_onto, onto, width, numbered}
use Rattle.syntax.specs.Ast.{bit, low_number}
use Rattle.syntax.specs.Abstract.{ast}
use Rattle.lexer.specs.Lex.{kind_of, front, Front, blank, nothing, token, Token, Scanned, found, stray, before, scan}
use Rattle.lexer.specs.Tokens.{end_at}
use Rattle.lexer.proofs.Loop.{front-longest, at-blank, at-nothing, at_size, at-token}
use Rattle.lexer.proofs.Theorems.{token-fits, Ended, the_end, before-end}
use Rattle.events.proofs.Widths.{onto-length}
use Rattle.text_rules.specs.Spelling.{spelled}
use Rattle.checker.specs.Check.{kinds, places, values}
use Rattle.house_style.specs.Named.{strip}
use Rattle.house_style.proofs.Leaves.{Leaves}

-- ---- tokens

-- each token but the end is one, and a name is spelled as one
pub data Real (l : List ℕ) : List Token → Type 0 where
  last : Real l (end_at (length l) ∷ [])
  more : {t : Token} {ts : List Token} → eqb t.kind k_end ≡ false → (t.kind ≡ k_name → kind_of (take t.value (drop t.place l)) ≡ k_name) → Real l ts → Real l (t ∷ ts)

abbrev IfFound : List ℕ → Scanned → Type 0
IfFound l (found ts) = Real l ts
IfFound l (stray ts q) = Unit {0}

one_more : (l : List ℕ) (t : Token) (s : Scanned) → eqb t.kind k_end ≡ false → (t.kind ≡ k_name → kind_of (take t.value (drop t.place l)) ≡ k_name) → IfFound l s → IfFound l (before t s)
one_more l t (found ts) e f r = more e f r
one_more l t (stray ts q) e f r = tt

real-end : (l : List ℕ) (i : ℕ) → i ≡ length l → IfFound l (scan i 0 (drop i l))
unfolding scan
real-end l i h = rw (drop_of_length-le l {i = i} (omega arith)) (subst (λ (n : ℕ). Real l (end_at n ∷ [])) (sym h) last)

real-from : (d : ℕ) (l : List ℕ) (i : ℕ) → length l ≤ i + d → i ≤ length l → IfFound l (scan i 0 (drop i l))
real-from zero l i h k = real-end l i (omega arith)
real-from (suc d) l i h k = go (dec_lt i (length l)) (front (drop i l)) refl (λ j a b. real-from d l j a b)
  where
    go : Dec (i < length l) → (x : Front) → front (drop i l) ≡ x → ((j : ℕ) → length l ≤ j + d → j ≤ length l → IfFound l (scan j 0 (drop j l))) → IfFound l (scan i 0 (drop i l))
    go (no b) x f g = real-end l i (omega (arith, b))
    go (yes b) blank f g = rw (at-blank l i b f) (g (i + 1) (omega arith) (omega arith))
    go (yes b) nothing f g = rw (at-nothing l i b f) tt
    go (yes b) (token c m v) f g =
        let z = at_size l i b c m v f in
        let w = front-longest (drop i l) c m v f in
        rw (at-token l i b c m v f)
        (one_more l (record { kind = c; place = i; value = v }) (scan (i + m) 0 (drop (i + m) l)) w.is-token (λ e. let n : v ≡ m = token-fits w (ap (λ (x : ℕ). eqb x k_number) e) in ap (λ (x : ℕ). kind_of (take x (drop i l))) n ∙ sym w.kind-of ∙ e) (g (i + m) (omega (arith, z.0)) z.1))

pub real : (l : List ℕ) (ts : List Token) → scan 0 0 l ≡ found ts → Real l ts
real l ts e = subst (λ (s : Scanned). IfFound l s) e (real-from (length l) l 0 (omega arith) (omega arith))

pub real-ended : {l : List ℕ} {ts : List Token} → Real l ts → Ended (length l) ts
real-ended last = the_end
real-ended (more e f r) = before-end e (real-ended r)

pub real-name : {l : List ℕ} {ts : List Token} → Real l ts → (i : ℕ) → get_or (kinds ts) i 0 ≡ k_name → kind_of (spelled l (places ts) (values ts) i) ≡ k_name
real-name last zero e = absurd (omega arith)
real-name last (suc i) e = absurd (omega arith)
real-name (more e f r) zero h = f h
real-name (more e f r) (suc i) h = real-name r i h

-- ---- trees

pub own-width : (i : ℕ) (a b : Bool) → width (T.declare_own i a b) ≡ 7 + bit a + bit b
unfolding onto
own-width i true true = refl
own-width i true false = refl
own-width i false true = refl
own-width i false false = refl

-- the kinds of the tokens from token p on
module _ (ks : List ℕ) where
  unfoldable pub Stand : ℕ → List ℕ → Type 0
  Stand p [] = Unit {0}
  Stand p (k ∷ l) = (get_or ks p 0 ≡ k) × Stand (p + 1) l

  stand-from : (pre l : List ℕ) (p : ℕ) → ks ≡ pre ++ l → p ≡ length pre → Stand p l
  unfolding Stand
  stand-from pre [] p e h = tt
  stand-from pre (k ∷ l) p e h = (rw (h, e) (get_or-append_seam pre k l 0), stand-from (pre ++ k ∷ []) l (p + 1) (e ∙ sym (append_assoc pre (k ∷ []) l)) (rw h (sym (length-append pre (k ∷ [])))))

  pub stands : Stand 0 ks
  stands = stand-from [] ks 0 refl refl

  module _ (spell : ℕ → List ℕ) (value : ℕ → ℕ) (P : List ℕ → Type 0) (Q : ℕ → Type 0) (names : (i : ℕ) → get_or ks i 0 ≡ k_name → P (spell i)) (numbers : (i : ℕ) → get_or ks i 0 ≡ k_number → Q (value i)) where
    abbrev Has : {c : Cat} → Tree c → ℕ → List ℕ → Type 0
    Has t p l = Leaves P Q (strip spell value (ast (numbered p t))) × Stand (p + width t) l

    go-to : {p q : ℕ} (l : List ℕ) → p ≡ q → Stand p l → Stand q l
    go-to l e h = subst (λ (n : ℕ). Stand n l) e h

    -- an end of a pair at token p
    end-leaf : (a : Bool) (p : ℕ) (l : List ℕ) → Stand p (end_onto a l) → Q (value (low_number p a)) × Stand (p + bit a + 1) l
    unfolding Stand
    end-leaf true p l s = (numbers (p + 1) s.1.0, s.1.1)
    end-leaf false p l s = (subst (λ (q : ℕ). Q (value q)) (omega arith) (numbers p s.0), go-to l (omega arith) s.1)

    pub leaves : {c : Cat} (t : Tree c) (p : ℕ) (l : List ℕ) → Stand p (onto t l) → Has t p l
    unfolding onto numbered ast strip Leaves Stand
    leaves (T.number i) p l s = (numbers p s.0, s.1)
    leaves (T.negative i) p l s = (numbers (p + 1) s.1.0, go-to l (omega arith) s.1.1)
    leaves (T.name i) p l s = (names p s.0, s.1)
    leaves (T.call i a) p l s = let x = leaves a (p + 2) l (go-to (onto a l) (omega arith) s.1.1) in ((names p s.0, x.0), go-to l (omega arith) x.1)
    leaves (T.bracket i e) p l s = let x = leaves e (p + 1) (k_close ∷ l) s.1 in (x.0, go-to l (omega (arith, onto-length e (k_close ∷ []))) x.1.1)
    leaves T.no_args p l s = (tt, s.1)
    leaves (T.some_args a) p l s = let x = leaves a p (k_close ∷ l) s in (x.0, go-to l (omega (arith, onto-length a (k_close ∷ []))) x.1.1)
    leaves (T.first_arg e) p l s = let x = leaves e p l s in ((tt, x.0), x.1)
    leaves (T.next_arg a e) p l s =
        let x = leaves a p (k_comma ∷ onto e l) s in let y = leaves e (p + width a + 1) l x.1.1 in
        ((x.0, y.0), go-to l (omega (arith, onto-length a (k_comma ∷ onto e []))) y.1)
    leaves (T.factor o) p l s = leaves o p l s
    leaves (T.times m t o) p l s =
        let x = leaves t p (mul_kind m ∷ onto o l) s in let y = leaves o (p + width t + 1) l x.1.1 in
        ((x.0, y.0), go-to l (omega (arith, onto-length t (mul_kind m ∷ onto o []))) y.1)
    leaves (T.addend t) p l s = leaves t p l s
    leaves (T.plus a b) p l s =
        let x = leaves a p (k_plus ∷ onto b l) s in let y = leaves b (p + width a + 1) l x.1.1 in
        ((x.0, y.0), go-to l (omega (arith, onto-length a (k_plus ∷ onto b []))) y.1)
    leaves (T.minus a b) p l s =
        let x = leaves a p (k_minus ∷ onto b l) s in let y = leaves b (p + width a + 1) l x.1.1 in
        ((x.0, y.0), go-to l (omega (arith, onto-length a (k_minus ∷ onto b []))) y.1)
    leaves (T.cmp_mark o) p l s = (tt, s.1)
    leaves T.always p l s = (tt, s.1)
    leaves T.never p l s = (tt, s.1)
    leaves (T.compare a (T.cmp_mark o) b) p l s =
        let x = leaves a p (cmp_kind o ∷ onto b l) s in let y = leaves b (p + width a + 1) l x.1.1 in
        ((x.0, y.0), go-to l (omega (arith, onto-length a (cmp_kind o ∷ onto b []))) y.1)
    leaves (T.one_atom a) p l s = leaves a p l s
    leaves (T.both a b) p l s =
        let x = leaves a p (k_and ∷ onto b l) s in let y = leaves b (p + width a + 1) l x.1.1 in
        ((x.0, y.0), go-to l (omega (arith, onto-length a (k_and ∷ onto b []))) y.1)
    leaves (T.one_conj c) p l s = leaves c p l s
    leaves (T.either a b) p l s =
        let x = leaves a p (k_or ∷ onto b l) s in let y = leaves b (p + width a + 1) l x.1.1 in
        ((x.0, y.0), go-to l (omega (arith, onto-length a (k_or ∷ onto b []))) y.1)
    leaves (T.empty i) p l s = (tt, s.1)
    leaves (T.declare i) p l s = (names (p + 1) s.1.0, go-to l (omega arith) s.1.1.1)
    leaves (T.declare_free i) p l s = (names (p + 1) s.1.0, go-to l (omega arith) s.1.1.1.1)
    leaves (T.declare_own i a b) p l s =
        let x = end-leaf a (p + 3) _ (go-to (end_onto a _) (omega arith) s.1.1.1) in
        let y = end-leaf b (p + 3 + bit a + 2) (k_semi ∷ l) (go-to (end_onto b _) (omega arith) x.1.1) in
        ((names (p + 1) s.1.0, (x.0, y.0)), go-to l (omega (arith, own-width i a b)) y.1.1)
    leaves (T.assign i e) p l s =
        let x = leaves e (p + 2) (k_semi ∷ l) (go-to (onto e (k_semi ∷ l)) (omega arith) s.1.1) in
        ((names p s.0, x.0), go-to l (omega (arith, onto-length e (k_semi ∷ []))) x.1.1)
    leaves (T.eval e) p l s = let x = leaves e p (k_semi ∷ l) s in (x.0, go-to l (omega (arith, onto-length e (k_semi ∷ []))) x.1.1)
    leaves (T.block i b) p l s = let x = leaves b (p + 1) l s.1 in (x.0, go-to l (omega arith) x.1)
    leaves (T.if_else i c a b) p l s =
        let x = leaves c (p + 2) (k_close ∷ onto a (k_else ∷ onto b l)) (go-to (onto c (k_close ∷ onto a (k_else ∷ onto b l))) (omega arith) s.1.1) in
        let y = leaves a (p + 2 + width c + 1) (k_else ∷ onto b l) x.1.1 in
        let z = leaves b (p + 2 + width c + 1 + width a + 1) l y.1.1 in
        ((x.0, (y.0, z.0)), go-to l (omega (arith, onto-length c (k_close ∷ onto a (k_else ∷ onto b [])), onto-length a (k_else ∷ onto b []))) z.1)
    leaves (T.while i c a) p l s =
        let x = leaves c (p + 2) (k_close ∷ onto a l) (go-to (onto c (k_close ∷ onto a l)) (omega arith) s.1.1) in
        let y = leaves a (p + 2 + width c + 1) l x.1.1 in
        ((x.0, y.0), go-to l (omega (arith, onto-length c (k_close ∷ onto a []))) y.1)
    leaves (T.return i e) p l s = let x = leaves e (p + 1) (k_semi ∷ l) s.1 in (x.0, go-to l (omega (arith, onto-length e (k_semi ∷ []))) x.1.1)
    leaves (T.fail i) p l s = (tt, go-to l (omega arith) s.1.1)
    leaves T.no_stmts p l s = (tt, go-to l (omega arith) s)
    leaves (T.more_stmts a b) p l s =
        let x = leaves a p (onto b l) s in let y = leaves b (p + width a) l x.1 in
        ((x.0, y.0), go-to l (omega (arith, onto-length a (onto b []))) y.1)
    leaves (T.braced a i) p l s = let x = leaves a p (k_rbrace ∷ l) s in (x.0, go-to l (omega (arith, onto-length a (k_rbrace ∷ []))) x.1.1)
    leaves T.no_params p l s = (tt, s.1)
    leaves (T.some_params a) p l s = let x = leaves a p (k_close ∷ l) s in (x.0, go-to l (omega (arith, onto-length a (k_close ∷ []))) x.1.1)
    leaves (T.first_param i) p l s = ((tt, names (p + 1) s.1.0), go-to l (omega arith) s.1.1)
    leaves (T.next_param a i) p l s =
        let x = leaves a p (k_comma ∷ k_int ∷ k_name ∷ l) s in
        ((x.0, names (p + width a + 2) (subst (λ (q : ℕ). get_or ks q 0 ≡ k_name) (omega arith) x.1.1.1.0)), go-to l (omega (arith, onto-length a (k_comma ∷ k_int ∷ k_name ∷ []))) x.1.1.1.1)
    leaves (T.function i q b) p l s =
        let x = leaves q (p + 3) (k_lbrace ∷ onto b l) (go-to (onto q (k_lbrace ∷ onto b l)) (omega arith) s.1.1.1) in
        let y = leaves b (p + 3 + width q + 1) l x.1.1 in
        ((names (p + 1) s.1.0, (x.0, y.0)), go-to l (omega (arith, onto-length q (k_lbrace ∷ onto b []))) y.1)
    leaves T.no_funs p l s = (tt, go-to l (omega arith) s)
    leaves (T.more_funs a f) p l s =
        let x = leaves a p (onto f l) s in let y = leaves f (p + width a) l x.1 in
        ((x.0, y.0), go-to l (omega (arith, onto-length a (onto f []))) y.1)
