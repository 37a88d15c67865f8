-- Laws of codes that grow.
use Rattle.std.proofs.Common.{◌≡◌, ℕ, suc, ◌+◌, ◌<◌, List, [], ◌∷◌, ◌++◌, length, set, sym, refl, ap, ◌∙◌, subst, append_assoc, append-nil, add-zero, add-suc, suc-add, arith, length-append}
use Rattle.std.proofs.lemmas.List.{set_at}
use lib.Seq.{sets}
use Rattle.syntax.specs.Ast.{Sort, Ast}
use Rattle.syntax.specs.Table.{Holds}
use Rattle.events.specs.Walk.{Rooted}
use Rattle.events.specs.Visit.{level}
use Rattle.events.proofs.Laws.{rooted-child}
use Rattle.simulation.specs.Code.{Entry, Code}
use Rattle.compiler.specs.Coded.{word, coded}
use Rattle.compiler.specs.Sound.{Sound}
use Rattle.compiler.specs.Compile.{Tokens}
use Rattle.compiler.specs.Pass.{Due, Room, Grown}

-- ---- words written one after another

pub sets-append : (l : List ℕ) (i : ℕ) (xs ys : List ℕ) → sets l i (xs ++ ys) ≡ sets (sets l i xs) (i + length xs) ys
sets-append l i [] ys = ap (λ (k : ℕ). sets l k ys) (sym (add-zero i))
sets-append l i (x ∷ xs) ys = sets-append (set l i x) (suc i) xs ys ∙ ap (λ (k : ℕ). sets (sets (set l i x) (suc i) xs) k ys) (suc-add i (length xs) ∙ sym (add-suc i (length xs)))

-- words after the first
pub sets-cons : (x : ℕ) (l : List ℕ) (i : ℕ) (vs : List ℕ) → sets (x ∷ l) (suc i) vs ≡ x ∷ sets l i vs
sets-cons x l i [] = refl
sets-cons x l i (v ∷ vs) = sets-cons x (set l i v) (suc i) vs

-- ---- code that grows

pub grown-none : (c : Code) → Grown c c []
grown-none c = record { entries = sym (append-nil c.entries); starts = refl }

pub grown-then : {b c d : Code} {es fs : List Entry} → Grown b c es → Grown c d fs → Grown b d (es ++ fs)
grown-then {b} {c} {d} {es} {fs} g h = record {
  entries = h.entries ∙ ap (λ (x : List Entry). x ++ fs) g.entries ∙ append_assoc b.entries es fs;
  starts = h.starts ∙ g.starts;
}

-- the same entries under another name
pub grown-as : {b c : Code} {es fs : List Entry} → es ≡ fs → Grown b c fs → Grown b c es
grown-as {b} {c} e g = subst (λ (x : List Entry). Grown b c x) (sym e) g

-- one entry
pub said : {e : Entry} (b c : Code) (f : Entry) → e ≡ f → c.entries ≡ b.entries ++ e ∷ [] → c.starts ≡ b.starts → Grown b c (f ∷ [])
said b c f q g h = record { entries = g ∙ ap (λ (x : Entry). b.entries ++ x ∷ []) q; starts = h }

-- an entry is written anew
pub aimed : {b c d : Code} {x y : Entry} {es : List Entry} {at : ℕ} (z : Entry) → y ≡ z → Grown b c (x ∷ es) → at ≡ length b.entries → d.entries ≡ set c.entries at y → d.starts ≡ c.starts → Grown b d (z ∷ es)
aimed {b} {c} {d} {x} {y} {es} {at} z q g k e s = record {
  entries = e ∙ ap (λ (l : List Entry). set l at y) g.entries ∙ set_at b.entries x es y at (sym k) ∙ ap (λ (w : Entry). b.entries ++ w ∷ es) q;
  starts = s ∙ g.starts;
}

pub grown-size : {b c : Code} {es : List Entry} → Grown b c es → length c.entries ≡ length b.entries + length es
grown-size {b} {es = es} g = ap length g.entries ∙ length-append b.entries es

-- ---- room

pub due-front : {n : ℕ} (es fs : List Entry) → Due n (es ++ fs) → Due n es
due-front es fs d = record { space = omega (arith, d.space, length-append es fs) }

pub due-behind : {k fs : List Entry} (l es : List Entry) → Due (length l) (es ++ fs) → k ≡ l ++ es → Due (length k) fs
due-behind {fs = fs} l es d g = record { space = omega (arith, d.space, ap (λ (x : List Entry). length x) g, length-append l es, length-append es fs) }

pub due-after : {b c : Code} {es fs : List Entry} → Due (length b.entries) (es ++ fs) → Grown b c es → Due (length c.entries) fs
due-after {b} {es = es} d g = due-behind b.entries es d g.entries

-- there is room for one entry
pub due-room : {n : ℕ} {e : Entry} {es : List Entry} → Due n (e ∷ es) → n < 2052
due-room d = omega (arith, d.space)

-- and for those after it
pub due-next : {k es : List Entry} {e : Entry} (l : List Entry) (f : Entry) → Due (length l) (e ∷ es) → k ≡ l ++ f ∷ [] → Due (length k) es
due-next l f d g = record { space = omega (arith, d.space, ap (λ (x : List Entry). length x) g, length-append l (f ∷ [])) }

pub due-as : {n : ℕ} {es fs : List Entry} → es ≡ fs → Due n es → Due n fs
due-as {n} e d = subst (λ (x : List Entry). Due n x) e d

-- ---- parts of a tree

pub room : {v m : ℕ} {l : List ℕ} {s s₁ : Sort} {i a : ℕ} {values slots : List ℕ} {n : ℕ} {x : Ast s₁} → level s₁ ≡ v → Rooted s l i → a < i → Holds l a x → Tokens m values slots → Sound m (word values) (word slots) x → Due n (coded (word values) (word slots) x) → Room v l a values slots n
room {m = m} {s₁ = s₁} e r p h w b t = record { sort = s₁; rooted = rooted-child r p h; part = e; tokens = m; within = w; sound = b; due = t }
