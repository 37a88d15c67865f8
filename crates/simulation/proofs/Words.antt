-- The words of a program's code are read back as that code: so the program is placed in them.
use Prim.Native.Nat.{ℕ, zero, suc, ◌+◌, ◌*◌, ◌<◌, ◌≤◌}
use mathlib.Core.Path.{◌≡◌, refl, sym, ap, ap₂, ◌∙◌, subst}
use mathlib.Core.Bool.{true, false}
use mathlib.Core.Option.{Option, none, some}
use mathlib.Core.List.{List, [], ◌∷◌, ◌++◌, append_assoc}
use native.Mathlib.Omega.{arith}
use native.Mathlib.Nat.{le_of_suc-le-suc}
use lib.ListN.{length, get_or, take, drop, length-append}
use lib.Seq.{get_or_at, take-append_seam, drop-append_seam}
use Rattle.semantics.specs.Int.{add, sub, mul, lt, le, gt, ge, eq, ne}
use Rattle.semantics.specs.Program.{Window, slot, Expr, Exprs, Cond, Stmt, Stmts, Program}
use Rattle.semantics.specs.Does.{frame}
use Rattle.semantics.proofs.Frames.{length-frame}
use Rattle.simulation.specs.Code.{number, name, operate, compare, call, constant, jump, skip, again, begin, ask, own, store, return, fail, Entry, leaf, argument, act, Code, code_e, code_es, code_c, code_s, code_ss, code_b, entries_of, starts_of, code_of}
use Rattle.simulation.specs.Words.{entry_of, entries_in, code_in, kind_of, word_of, words_of, words_in, Plain, FitsE, FitsEs, FitsC, FitsW, FitsS, FitsSs, FitsBs, Fits}
use Rattle.simulation.specs.Placed.{Placed, InB}
use Rattle.semantics.proofs.Own.{Given, PairsS, PairsSs, Pairs}
use Rattle.simulation.proofs.Placed.{Upward, placed}

pub length-entries : (ws : List ℕ) (i n : ℕ) → length (entries_in ws i n) ≡ n
unfolding entries_in
length-entries ws i zero = refl
length-entries ws i (suc n) = ap suc (length-entries ws (suc (suc i)) n)

-- one entry is two words
pub entry_in : (ws : List ℕ) (i n j : ℕ) → j < n → get_or (entries_in ws i n) j (act fail) ≡ entry_of (get_or ws (i + 2 * j) 0) (get_or ws (suc (i + 2 * j)) 0)
unfolding entries_in
entry_in ws i zero j h = absurd (omega arith)
entry_in ws i (suc n) zero h = ap (λ k. entry_of (get_or ws k 0) (get_or ws (suc k) 0)) (omega arith)
entry_in ws i (suc n) (suc j) h = entry_in ws (suc (suc i)) n j (le_of_suc-le-suc h) ∙ ap (λ k. entry_of (get_or ws k 0) (get_or ws (suc k) 0)) (omega arith)

-- an entry is read back from its words
read_back : (x : Entry) → Plain x → entry_of (kind_of x) (word_of x) ≡ x
unfolding entry_of kind_of word_of
read_back (leaf (number z)) h = ap (λ y. leaf (number y)) h
read_back (leaf (name (slot i))) h = ap (λ k. leaf (name (slot k))) (omega arith)
read_back (argument d) h = refl
read_back (act (operate add d)) h = refl
read_back (act (operate sub d)) h = refl
read_back (act (operate mul d)) h = refl
read_back (act (compare lt d)) h = refl
read_back (act (compare le d)) h = refl
read_back (act (compare gt d)) h = refl
read_back (act (compare ge d)) h = refl
read_back (act (compare eq d)) h = refl
read_back (act (compare ne d)) h = refl
read_back (act (call g n)) h = ap₂ (λ a b. act (call a b)) (omega arith) (omega arith)
read_back (act (constant false)) h = refl
read_back (act (constant true)) h = refl
read_back (act (jump false d)) h = refl
read_back (act (jump true d)) h = refl
read_back (act (skip d)) h = refl
read_back (act (again d)) h = refl
read_back (act begin) h = refl
read_back (act (ask (slot i))) h = ap (λ k. act (ask (slot k))) (omega arith)
read_back (act (own (slot i))) h = ap (λ k. act (own (slot k))) (omega arith)
read_back (act (store (slot i))) h = ap (λ k. act (store (slot k))) (omega arith)
read_back (act return) h = refl
read_back (act fail) h = refl

-- ---- a list of entries

abbrev pub AllPlain : List Entry → Type 0
AllPlain [] = Unit {0}
AllPlain (x ∷ xs) = Plain x × AllPlain xs

pub length-words : (l : List Entry) → length (words_of l) ≡ 2 * length l
unfolding words_of
length-words [] = refl
length-words (x ∷ xs) = omega (arith, length-words xs)

words-at : (l : List Entry) → AllPlain l → (ws before rest : List ℕ) (i : ℕ) → ws ≡ before ++ (words_of l ++ rest) → length before ≡ i → entries_in ws i (length l) ≡ l
unfolding entries_in words_of
words-at [] h ws before rest i e n = refl
words-at (x ∷ xs) h ws before rest i e n =
    ap₂ (λ y ys. y ∷ ys)
    (ap₂ entry_of (ap (λ l. get_or l i 0) e ∙ get_or_at before (kind_of x) (word_of x ∷ (words_of xs ++ rest)) 0 i n)
    (ap (λ l. get_or l (suc i) 0) (e ∙ sym (append_assoc before (kind_of x ∷ []) (word_of x ∷ (words_of xs ++ rest)))) ∙ get_or_at (before ++ kind_of x ∷ []) (word_of x) (words_of xs ++ rest) 0 (suc i) (omega (arith, length-append before (kind_of x ∷ []))))
    ∙ read_back x h.0)
    (words-at xs h.1 ws (before ++ kind_of x ∷ word_of x ∷ []) rest (suc (suc i)) (e ∙ sym (append_assoc before (kind_of x ∷ word_of x ∷ []) (words_of xs ++ rest))) (omega (arith, length-append before (kind_of x ∷ word_of x ∷ []))))

-- ---- a program that fits has such entries

plain-append : (xs ys : List Entry) → AllPlain xs → AllPlain ys → AllPlain (xs ++ ys)
plain-append [] ys h k = k
plain-append (x ∷ xs) ys h k = (h.0, plain-append xs ys h.1 k)

mutual
  unfolding code_e

  plain-e : (e : Expr) → FitsE e → AllPlain (code_e e)
  plain-e (Expr.number z) h = (h, tt)
  plain-e (Expr.name a) h = (h, tt)
  plain-e (Expr.op o a b) h = plain-append (code_e a) _ (plain-e a h.0) (plain-append (code_e b) _ (plain-e b h.1) (tt, tt))
  plain-e (Expr.call g es) h = plain-append (code_es es) _ (plain-es es h.1) (h.0, tt)

  plain-es : (es : Exprs) → FitsEs es → AllPlain (code_es es)
  plain-es Exprs.none h = tt
  plain-es (Exprs.more e es) h = plain-append (code_e e) _ (plain-e e h.0) (tt, plain-es es h.1)

plain-c : (c : Cond) → FitsC c → AllPlain (code_c c)
unfolding code_c
plain-c (Cond.const b) h = (tt, tt)
plain-c (Cond.compare o a b) h = plain-append (code_e a) _ (plain-e a h.0) (plain-append (code_e b) _ (plain-e b h.1) (tt, tt))
plain-c (Cond.and a b) h = plain-append (code_c a) _ (plain-c a h.0) (tt, plain-c b h.1)
plain-c (Cond.or a b) h = plain-append (code_c a) _ (plain-c a h.0) (tt, plain-c b h.1)

mutual
  unfolding code_s

  plain-s : (s : Stmt) → FitsS s → AllPlain (code_s s)
  plain-s Stmt.empty h = (tt, tt)
  plain-s (Stmt.declare a) h = (tt, tt)
  plain-s (Stmt.unknown a none) h = (h.0, tt)
  plain-s (Stmt.unknown a (some w)) h = (h.1.0, (h.1.1, (h.0, tt)))
  plain-s (Stmt.assign a e) h = (tt, plain-append (code_e e) _ (plain-e e h.1) (h.0, tt))
  plain-s (Stmt.eval e) h = (tt, plain-e e h)
  plain-s (Stmt.block ss) h = (tt, plain-ss ss h)
  plain-s (Stmt.if c s t) h = (tt, plain-append (code_c c) _ (plain-c c h.0) (tt, plain-append (code_s s) _ (plain-s s h.1) (tt, plain-s t h.2)))
  plain-s (Stmt.while c s) h = (tt, plain-append (code_c c) _ (plain-c c h.0) (tt, plain-append (code_s s) _ (plain-s s h.1) (tt, tt)))
  plain-s (Stmt.return e) h = (tt, plain-append (code_e e) _ (plain-e e h) (tt, tt))
  plain-s Stmt.fail h = (tt, (tt, tt))

  plain-ss : (ss : Stmts) → FitsSs ss → AllPlain (code_ss ss)
  plain-ss Stmts.end h = tt
  plain-ss (Stmts.next s ss) h = plain-append (code_s s) _ (plain-s s h.0) (plain-ss ss h.1)

plain-bs : (bs : List Stmts) → FitsBs bs → AllPlain (entries_of bs)
unfolding entries_of code_b
plain-bs [] h = tt
plain-bs (b ∷ bs) h = plain-append (code_b b) _ (plain-append (code_ss b) _ (plain-ss b h.0) (tt, tt)) (plain-bs bs h.1)

plain_code : (p : Program) → Fits p → AllPlain (code_of p).entries
unfolding code_of
plain_code p h = (h.main, (tt, (tt, plain-bs p.bodies h.bodies)))

-- ---- the code of a program in memory

-- a default that fills a list up is what the list gives beside its places
frame-get_d : (d : ℕ) (n : ℕ) (vs : List ℕ) → length vs ≤ n → (i : ℕ) → get_or (frame d n vs) i d ≡ get_or vs i d
unfolding frame
frame-get_d d zero [] h i = refl
frame-get_d d zero (v ∷ vs) h i = absurd (omega arith)
frame-get_d d (suc n) [] h zero = refl
frame-get_d d (suc n) [] h (suc i) = frame-get_d d n [] (omega arith) i
frame-get_d d (suc n) (v ∷ vs) h zero = refl
frame-get_d d (suc n) (v ∷ vs) h (suc i) = frame-get_d d n vs (le_of_suc-le-suc h) i

-- the words of a code, and whatever follows them, are that code
code-back : (c : Code) → AllPlain c.entries → (rest : List ℕ) → code_in (words_in c ++ rest) (length c.entries) ≡ record { entries = c.entries; starts = frame 2 16 c.starts }
unfolding words_in
code-back c h rest = λ i. record { entries = entries i; starts = starts i }
  where
    split : (words_of c.entries ++ frame 2 16 c.starts) ++ rest ≡ words_of c.entries ++ (frame 2 16 c.starts ++ rest)
    split = append_assoc (words_of c.entries) (frame 2 16 c.starts) rest

    entries : entries_in ((words_of c.entries ++ frame 2 16 c.starts) ++ rest) 0 (length c.entries) ≡ c.entries
    entries = words-at c.entries h _ [] (frame 2 16 c.starts ++ rest) 0 split refl

    starts : take 16 (drop (2 * length c.entries) ((words_of c.entries ++ frame 2 16 c.starts) ++ rest)) ≡ frame 2 16 c.starts
    starts =
        ap (λ l. take 16 (drop (2 * length c.entries) l)) split
        ∙ ap (λ n. take 16 (drop n (words_of c.entries ++ (frame 2 16 c.starts ++ rest)))) (sym (length-words c.entries))
        ∙ ap (take 16) (drop-append_seam (words_of c.entries) (frame 2 16 c.starts ++ rest))
        ∙ ap (λ n. take n (frame 2 16 c.starts ++ rest)) (sym (length-frame 2 16 c.starts))
        ∙ take-append_seam (frame 2 16 c.starts) rest

length-starts : (i : ℕ) (bs : List Stmts) → length (starts_of i bs) ≡ length bs
unfolding starts_of
length-starts i [] = refl
length-starts i (b ∷ bs) = ap suc (length-starts (i + length (code_b b)) bs)

few-starts : (p : Program) → length p.bodies < 17 → length (code_of p).starts ≤ 16
unfolding code_of
few-starts p h = omega (arith, length-starts 3 p.bodies)

-- the own pairs of a program that fits go upward
upward-o : (o : Option Window) → FitsW o → Given Upward o
upward-o none h = tt
upward-o (some w) h = h.2

mutual
  unfolding PairsS

  upward-s : (s : Stmt) → FitsS s → PairsS Upward s
  upward-s Stmt.empty h = tt
  upward-s (Stmt.declare a) h = tt
  upward-s (Stmt.unknown a o) h = upward-o o h.1
  upward-s (Stmt.assign a e) h = tt
  upward-s (Stmt.eval e) h = tt
  upward-s (Stmt.block ss) h = upward-ss ss h
  upward-s (Stmt.if c s t) h = (upward-s s h.1, upward-s t h.2)
  upward-s (Stmt.while c s) h = upward-s s h.1
  upward-s (Stmt.return e) h = tt
  upward-s Stmt.fail h = tt

  upward-ss : (ss : Stmts) → FitsSs ss → PairsSs Upward ss
  upward-ss Stmts.end h = tt
  upward-ss (Stmts.next s ss) h = (upward-s s h.0, upward-ss ss h.1)

upward-bs : (bs : List Stmts) → FitsBs bs → (g : ℕ) → PairsSs Upward (get_or bs g Stmts.end)
upward-bs [] h g = upward-ss Stmts.end tt
upward-bs (b ∷ bs) h zero = upward-ss b h.0
upward-bs (b ∷ bs) h (suc g) = upward-bs bs h.1 g

filled : (p : Program) → Pairs Upward p → length p.bodies < 17 → Placed (record { entries = (code_of p).entries; starts = frame 2 16 (code_of p).starts }) p
unfolding code_of
filled p o h = record {
  first = refl;
  second = refl;
  bodies = λ g. subst (InB (code_of p).entries (get_or p.bodies g Stmts.end)) (sym (frame-get_d 2 16 (code_of p).starts (few-starts p h) g)) ((placed p o).bodies g);
}

-- a program that fits is placed in its code, and so it is where the places left over lead to 2
pub placed-filled : (p : Program) → Fits p → Placed (record { entries = (code_of p).entries; starts = frame 2 16 (code_of p).starts }) p
placed-filled p h = filled p (upward-bs p.bodies h.bodies) h.functions

-- a program that fits is placed in the words of its code, whatever follows them
pub placed-words : (p : Program) → Fits p → (rest : List ℕ) → Placed (code_in (words_in (code_of p) ++ rest) (length (code_of p).entries)) p
placed-words p h rest = subst (λ c. Placed c p) (sym (code-back (code_of p) (plain_code p h) rest)) (placed-filled p h)
