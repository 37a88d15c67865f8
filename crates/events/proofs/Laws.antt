-- Laws of events in a list.
use Prim.Native.Nat.{ℕ, ◌+◌, ◌≤◌, ◌<◌}
use mathlib.Core.Path.{◌≡◌, sym, ap, ◌∙◌, subst}
use mathlib.Core.List.{List, [], ◌∷◌, ◌++◌, append-nil, append_assoc}
use native.Mathlib.Omega.{arith}
use lib.ListN.{length, length-append}
use Rattle.syntax.specs.Ast.{Sort, Ast}
use Rattle.syntax.specs.Table.{Holds}
use Rattle.events.specs.Event.{Event, opens, closes, events_at}
use Rattle.events.specs.Walk.{Below, Rooted}
use Rattle.events.specs.Visit.{level, Located}

-- ---- lists that grow

pub grown-none : (l : List Event) {es : List Event} → es ≡ [] → l ≡ l ++ es
grown-none l e = rw e (sym (append-nil l))

pub grown-then : {m o : List Event} (l es fs : List Event) → m ≡ l ++ es → o ≡ m ++ fs → o ≡ l ++ (es ++ fs)
grown-then l es fs g h = h ∙ ap (λ (x : List Event). x ++ fs) g ∙ append_assoc l es fs

-- the same events under another name
pub said : {m : List Event} {e f : Event} (l : List Event) → e ≡ f → m ≡ l ++ e ∷ [] → m ≡ l ++ f ∷ []
said {m} l e g = subst (λ (x : Event). m ≡ l ++ x ∷ []) e g

pub grown-as : {m es fs : List Event} (l : List Event) → es ≡ fs → m ≡ l ++ fs → m ≡ l ++ es
grown-as {m} l e g = subst (λ (x : List Event). m ≡ l ++ x) (sym e) g

-- there is room for es after n events
pub record Due (n : ℕ) (es : List Event) : Type 0 where
  pub space : n + length es ≤ 4096

pub due-front : {n : ℕ} (es fs : List Event) → Due n (es ++ fs) → Due n es
due-front es fs d = record { space = omega (arith, d.space, length-append es fs) }

pub due-after : {m fs : List Event} (l es : List Event) → Due (length l) (es ++ fs) → m ≡ l ++ es → Due (length m) fs
due-after {m} {fs} l es d g = record { space = omega (arith, d.space, ap (λ (x : List Event). length x) g, length-append l es, length-append es fs) }

-- one event more
pub due-room : {n : ℕ} {e : Event} {es : List Event} → Due n (e ∷ es) → n < 4096
due-room d = omega (arith, d.space)

pub due-next : {m es : List Event} {e : Event} (l : List Event) (f : Event) → Due (length l) (e ∷ es) → m ≡ l ++ f ∷ [] → Due (length m) es
due-next l f d g = record { space = omega (arith, d.space, ap (λ (x : List Event). length x) g, length-append l (f ∷ [])) }

-- ---- parts of a tree

pub due : {v : ℕ} {l : List ℕ} {i d : ℕ} {n : ℕ} {es : List Event} (p : Located v l i d n) → events_at d p.rooted.tree ≡ es → Due n es
due p e = record { space = omega (arith, p.space, ap (λ (x : List Event). length x) e) }

abbrev pub rooted-child : {l : List ℕ} {s s₁ : Sort} {i a : ℕ} {x : Ast s₁} → Rooted s l i → a < i → Holds l a x → Rooted s₁ l a
rooted-child {x = x} r p h = record { tree = x; holds = h; room = omega (arith, r.room); few = omega (arith, r.few) }

pub placed : {v : ℕ} {l : List ℕ} {s s₁ : Sort} {i a d n : ℕ} {x : Ast s₁} → level s₁ ≡ v → Rooted s l i → a < i → Holds l a x → Below 65536 x → d + a < 131072 → Due n (events_at d x) → Located v l a d n
placed {s₁ = s₁} e r p h b q t = record { sort = s₁; rooted = rooted-child r p h; part = e; tokens = b; deep = q; space = t.space }

-- an arm, followed by more events or by none
pub due-arm : {n : ℕ} (es fs : List Event) → Due n ((opens ∷ (es ++ closes ∷ [])) ++ fs) → Due (n + 2) es
due-arm es fs d = record { space = omega (arith, d.space, length-append (es ++ closes ∷ []) fs, length-append es (closes ∷ [])) }

pub due-last-arm : {n : ℕ} (es : List Event) → Due n (opens ∷ (es ++ closes ∷ [])) → Due (n + 2) es
due-last-arm es d = record { space = omega (arith, d.space, length-append es (closes ∷ [])) }
