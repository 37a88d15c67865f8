-- Two lists of events whose names are spelled alike break the rules 6 to 10 alike: each finds as many tokens in the one as in the other.
use Prim.Native.Nat.{ℕ, suc, ◌+◌}
use mathlib.Core.Path.{◌≡◌, refl, sym, ap, ap₂, ◌∙◌, subst}
use mathlib.Core.Bool.{Bool, true, false, not, cond, ◌||◌}
use mathlib.Core.List.{List, [], ◌∷◌, ◌++◌, map, map-append}
use Rattle.std.specs.Prelude.{Option, None, Some}
use native.Mathlib.Omega.{arith}
use lib.Dec.{eqb, leb, ltb}
use lib.ListN.{length, length-append}
use Rattle.syntax.specs.Ast.{Ast, fun, prog}
use Rattle.lexer.specs.Lex.{same, bytes}
use Rattle.events.specs.Event.{Event, function, parameter, thing, opens, closes, declares, uses, calls, ends}
use Rattle.text_rules.specs.Scan.{scan, on, when}
use Rattle.text_rules.specs.Rules.{most_functions, most_parameters, most_declarations, Head, function_of, arity_of, wrong, miscounted, with_parameters, bad_main, mains, unended, Tally, tally, counted, over}
use Rattle.text_rules.specs.Names.{Declared, in_block, sought, unless_found, if_found, misnamed, uncalled, repeated}
use Rattle.text_rules.specs.Scopes.{Scope, scope, added, outer, entered, on_name, misnamed_at}
use Rattle.text_rules.proofs.Programs.{functions, head_of}
use Rattle.house_style.proofs.Events as E
use Rattle.house_style.proofs.Events.{unmarked, Pair, Pairs}
use Rattle.house_style.proofs.Like.{Like, Alike}
use Rattle.house_style.proofs.Like as L

-- ---- lists

pub is-empty : {A : Type 0} (xs ys : List A) → length xs ≡ length ys → xs ≡ [] → ys ≡ []
is-empty xs [] e h = refl
is-empty xs (y ∷ ys) e h = let z : length xs ≡ 0 = ap length h in absurd (omega arith)

pub empty-first : {A : Type 0} (xs ys : List A) → xs ++ ys ≡ [] → xs ≡ []
empty-first [] ys e = refl
empty-first (x ∷ xs) ys e = let z : suc (length (xs ++ ys)) ≡ 0 = ap length e in absurd (omega arith)

pub empty-rest : {A : Type 0} (xs ys : List A) → xs ++ ys ≡ [] → ys ≡ []
empty-rest [] ys e = e
empty-rest (x ∷ xs) ys e = let z : suc (length (xs ++ ys)) ≡ 0 = ap length e in absurd (omega arith)

pub joined : (a b c d : List ℕ) → length a ≡ length c → length b ≡ length d → length (a ++ b) ≡ length (c ++ d)
joined a b c d e f = length-append a b ∙ ap₂ ◌+◌ e f ∙ sym (length-append c d)

pub when-alike : (b c : Bool) (i j : ℕ) → b ≡ c → length (when b i) ≡ length (when c j)
when-alike true true i j e = refl
when-alike false false i j e = refl
when-alike true false i j e = absurd (let z : ◌≡◌ {A = ℕ} 0 1 = cc in omega arith)
when-alike false true i j e = absurd (let z : ◌≡◌ {A = ℕ} 0 1 = cc in omega arith)

-- ---- scans

-- the marks of depth may be left out
module _ {S : Type 0} (step : S → Event → S) (gives : S → Event → List ℕ) (stays : (s : S) (d i : ℕ) → step s (thing d i) ≡ s) (quiet : (s : S) (d i : ℕ) → gives s (thing d i) ≡ []) where
  pub scan-unmarked : (s : S) (es : List Event) → scan step gives s es ≡ scan step gives s (unmarked es)
  unfolding scan unmarked
  scan-unmarked s [] = refl
  scan-unmarked s (function i ∷ es) = ap (λ (l : List ℕ). gives s (function i) ++ l) (scan-unmarked (step s (function i)) es)
  scan-unmarked s (parameter i ∷ es) = ap (λ (l : List ℕ). gives s (parameter i) ++ l) (scan-unmarked (step s (parameter i)) es)
  scan-unmarked s (thing d i ∷ es) = ap₂ (λ (l : List ℕ) (t : S). l ++ scan step gives t es) (quiet s d i) (stays s d i) ∙ scan-unmarked s es
  scan-unmarked s (opens ∷ es) = ap (λ (l : List ℕ). gives s opens ++ l) (scan-unmarked (step s opens) es)
  scan-unmarked s (closes ∷ es) = ap (λ (l : List ℕ). gives s closes ++ l) (scan-unmarked (step s closes) es)
  scan-unmarked s (declares i ∷ es) = ap (λ (l : List ℕ). gives s (declares i) ++ l) (scan-unmarked (step s (declares i)) es)
  scan-unmarked s (uses i ∷ es) = ap (λ (l : List ℕ). gives s (uses i) ++ l) (scan-unmarked (step s (uses i)) es)
  scan-unmarked s (calls i n ∷ es) = ap (λ (l : List ℕ). gives s (calls i n) ++ l) (scan-unmarked (step s (calls i n)) es)
  scan-unmarked s (ends i b ∷ es) = ap (λ (l : List ℕ). gives s (ends i b) ++ l) (scan-unmarked (step s (ends i b)) es)

module _ (gives : Event → List ℕ) where
  abbrev as-scan : List Event → List ℕ
  as-scan es = scan (λ (s : Unit {0}) e. s) (λ s e. gives e) tt es

  on-scan : (es : List Event) → on gives es ≡ as-scan es
  unfolding scan on
  on-scan [] = refl
  on-scan (e ∷ es) = ap (λ (l : List ℕ). gives e ++ l) (on-scan es)

module _ {F R : ℕ → ℕ → Type 0} {S T : Type 0} (Al : S → T → Type 0) (step : S → Event → S) (step' : T → Event → T) (gives : S → Event → List ℕ) (gives' : T → Event → List ℕ)
    (steps : (s : S) (t : T) (e f : Event) → Al s t → Pair F R e f → Al (step s e) (step' t f))
    (finds : (s : S) (t : T) (e f : Event) → Al s t → Pair F R e f → length (gives s e) ≡ length (gives' t f)) where
  scan-pairs : (s : S) (t : T) {es fs : List Event} → Al s t → Pairs F R es fs → length (scan step gives s es) ≡ length (scan step' gives' t fs)
  unfolding scan
  scan-pairs s t a E.none = refl
  scan-pairs s t a (E.more {e = e} {f = f} {es = es} {fs = fs} p ps) =
      joined (gives s e) (scan step gives (step s e) es) (gives' t f) (scan step' gives' (step' t f) fs) (finds s t e f a p) (scan-pairs (step s e) (step' t f) (steps s t e f a p) ps)

  -- THEOREM. What is found in events, by their pairs alone
  pub scan-alike : ((s : S) (d i : ℕ) → step s (thing d i) ≡ s) → ((s : S) (d i : ℕ) → gives s (thing d i) ≡ []) → ((t : T) (d i : ℕ) → step' t (thing d i) ≡ t) → ((t : T) (d i : ℕ) → gives' t (thing d i) ≡ [])
      → (s : S) (t : T) (es fs : List Event) → Al s t → Pairs F R (unmarked es) (unmarked fs) → length (scan step gives s es) ≡ length (scan step' gives' t fs)
  scan-alike a b c d s t es fs h ps = ap length (scan-unmarked step gives a b s es) ∙ scan-pairs s t h ps ∙ sym (ap length (scan-unmarked step' gives' c d t fs))

module _ {F R : ℕ → ℕ → Type 0} (gives gives' : Event → List ℕ) (finds : (e f : Event) → Pair F R e f → length (gives e) ≡ length (gives' f)) (quiet : (d i : ℕ) → gives (thing d i) ≡ []) (quiet' : (d i : ℕ) → gives' (thing d i) ≡ []) where
  on_alike : (es fs : List Event) → Pairs F R (unmarked es) (unmarked fs) → length (on gives es) ≡ length (on gives' fs)
  on_alike es fs ps =
      ap length (on-scan gives es)
      ∙ scan-alike {F = F} {R = R} (λ (s t : Unit {0}). Unit {0}) (λ s e. s) (λ s e. s) (λ s e. gives e) (λ s e. gives' e) (λ s t e f a p. tt) (λ s t e f a p. finds e f p) (λ s d i. refl) (λ s d i. quiet d i) (λ s d i. refl) (λ s d i. quiet' d i) tt tt es fs tt ps
      ∙ sym (ap length (on-scan gives' fs))

-- ---- 9: ends; 10: counts

module _ {F R : ℕ → ℕ → Type 0} where
  ends-find : (e f : Event) → Pair F R e f → length (unended e) ≡ length (unended f)
  unfolding unended
  ends-find e f (E.begun h) = refl
  ends-find e f (E.given h) = refl
  ends-find e f E.opened = refl
  ends-find e f E.closed = refl
  ends-find e f (E.declared h) = refl
  ends-find e f (E.used h) = refl
  ends-find e f (E.called h n) = refl
  ends-find e f (E.ended {i = i} {j = j} {a = a} {b = b} h) = when-alike a b i j h

  pub ends-alike : (es fs : List Event) → Pairs F R (unmarked es) (unmarked fs) → length (on unended es) ≡ length (on unended fs)
  unfolding unended
  ends-alike es fs ps = on_alike unended unended ends-find (λ d i. refl) (λ d i. refl) es fs ps

  counts_step : (c d : Tally) (e f : Event) → c ≡ d → Pair F R e f → counted c e ≡ counted d f
  unfolding counted
  counts_step c d e f q (E.begun h) = ap (λ (x : Tally). tally (suc x.functions) 0 0) q
  counts_step c d e f q (E.given h) = ap (λ (x : Tally). tally x.functions (suc x.parameters) (suc x.declarations)) q
  counts_step c d e f q E.opened = q
  counts_step c d e f q E.closed = q
  counts_step c d e f q (E.declared h) = ap (λ (x : Tally). tally x.functions x.parameters (suc x.declarations)) q
  counts_step c d e f q (E.used h) = q
  counts_step c d e f q (E.called h n) = q
  counts_step c d e f q (E.ended h) = q

  counts-find : (c d : Tally) (e f : Event) → c ≡ d → Pair F R e f → length (over c e) ≡ length (over d f)
  unfolding over
  counts-find c d e f q (E.begun {i = i} {j = j} h) = when-alike _ _ i j (ap (λ (x : Tally). leb most_functions x.functions) q)
  counts-find c d e f q (E.given {i = i} {j = j} h) = when-alike _ _ i j (ap (λ (x : Tally). leb most_parameters x.parameters || leb most_declarations x.declarations) q)
  counts-find c d e f q E.opened = refl
  counts-find c d e f q E.closed = refl
  counts-find c d e f q (E.declared {i = i} {j = j} h) = when-alike _ _ i j (ap (λ (x : Tally). leb most_declarations x.declarations) q)
  counts-find c d e f q (E.used h) = refl
  counts-find c d e f q (E.called h n) = refl
  counts-find c d e f q (E.ended h) = refl

  pub counts-alike : (es fs : List Event) → Pairs F R (unmarked es) (unmarked fs) → length (scan counted over (tally 0 0 0) es) ≡ length (scan counted over (tally 0 0 0) fs)
  unfolding counted over
  counts-alike es fs ps = scan-alike (λ (c d : Tally). c ≡ d) counted counted over over counts_step counts-find (λ c d i. refl) (λ c d i. refl) (λ c d i. refl) (λ c d i. refl) (tally 0 0 0) (tally 0 0 0) es fs refl ps

-- ---- names

cond-alike : {A : Type 0} {b c : Bool} {x y u w : A} → b ≡ c → x ≡ u → y ≡ w → cond b x y ≡ cond c u w
cond-alike {A} {c = c} {x = x} {y = y} {u = u} p q r = ap (λ (t : Bool). cond t x y) p ∙ ap (λ (t : A). cond c t y) q ∙ ap (λ (t : A). cond c u t) r

found_alike : (o p : Option ℕ) (i j : ℕ) → o ≡ p → length (if_found o i) ≡ length (if_found p j)
found_alike None None i j e = refl
found_alike (Some m) (Some n) i j e = refl
found_alike None (Some n) i j e = absurd (let z : ◌≡◌ {A = ℕ} 0 1 = cc in omega arith)
found_alike (Some m) None i j e = absurd (let z : ◌≡◌ {A = ℕ} 0 1 = cc in omega arith)

missing-alike : (o p : Option ℕ) (i j : ℕ) → o ≡ p → length (unless_found o i) ≡ length (unless_found p j)
missing-alike None None i j e = refl
missing-alike (Some m) (Some n) i j e = refl
missing-alike None (Some n) i j e = absurd (let z : ◌≡◌ {A = ℕ} 0 1 = cc in omega arith)
missing-alike (Some m) None i j e = absurd (let z : ◌≡◌ {A = ℕ} 0 1 = cc in omega arith)

module _ (spell spell' : ℕ → List ℕ) where
  abbrev pub sm : ℕ → ℕ → Bool
  sm i j = same (spell i) (spell j)

  abbrev pub sm' : ℕ → ℕ → Bool
  sm' i j = same (spell' i) (spell' j)

  abbrev Al : ℕ → ℕ → Type 0
  Al = Alike spell spell'

  -- ---- the declarations that can be seen

  pub data Row : List Declared → List Declared → Type 0 where
    nil : Row [] []
    one : {d e : Declared} {ds es : List Declared} → spell d.name ≡ spell' e.name → d.slot ≡ e.slot → Row ds es → Row (d ∷ ds) (e ∷ es)

  pub data Rows : List (List Declared) → List (List Declared) → Type 0 where
    empty : Rows [] []
    row : {b c : List Declared} {bs cs : List (List Declared)} → Row b c → Rows bs cs → Rows (b ∷ bs) (c ∷ cs)

  pub record Scopes (s t : Scope) : Type 0 where
    pub blocks : Rows s.blocks t.blocks
    pub next : s.next ≡ t.next

  in-block : {i j : ℕ} {b c : List Declared} → Al i j → Row b c → in_block sm b i ≡ in_block sm' c j
  unfolding in_block
  in-block h nil = refl
  in-block h (one p q r) = cond-alike (ap₂ same p h) (ap Some q) (in-block h r)

  pub sought-alike : {i j : ℕ} {bs cs : List (List Declared)} → Al i j → Rows bs cs → sought sm bs i ≡ sought sm' cs j
  unfolding sought
  sought-alike h empty = refl
  sought-alike h (row r rs) = ap₂ (λ (o p : Option ℕ). elim o [ None ↦ p | Some n ↦ Some n ]) (in-block h r) (sought-alike h rs)

  added-alike : {i j m n : ℕ} {bs cs : List (List Declared)} → Al i j → m ≡ n → Rows bs cs → Rows (added i m bs) (added j n cs)
  unfolding added
  added-alike h e empty = row (one h e nil) empty
  added-alike h e (row r rs) = row (one h e r) rs

  outer-alike : {bs cs : List (List Declared)} → Rows bs cs → Rows (outer bs) (outer cs)
  unfolding outer
  outer-alike empty = empty
  outer-alike (row r rs) = rs

  pub enters : (s t : Scope) (e f : Event) → Scopes s t → Pair Al Al e f → Scopes (entered s e) (entered t f)
  unfolding entered
  enters s t e f a (E.begun h) = record { blocks = row nil empty; next = refl }
  enters s t e f a (E.given h) = record { blocks = added-alike h a.next a.blocks; next = ap suc a.next }
  enters s t e f a E.opened = record { blocks = row nil a.blocks; next = a.next }
  enters s t e f a E.closed = record { blocks = outer-alike a.blocks; next = a.next }
  enters s t e f a (E.declared h) = record { blocks = added-alike h a.next a.blocks; next = ap suc a.next }
  enters s t e f a (E.used h) = a
  enters s t e f a (E.called h n) = a
  enters s t e f a (E.ended h) = a

  misses : (s t : Scope) (e f : Event) → Scopes s t → Pair Al Al e f → length (misnamed_at sm s e) ≡ length (misnamed_at sm' t f)
  unfolding on_name misnamed
  misses s t e f a (E.begun h) = refl
  misses s t e f a (E.given {i = i} {j = j} h) = found_alike _ _ i j (sought-alike h a.blocks)
  misses s t e f a E.opened = refl
  misses s t e f a E.closed = refl
  misses s t e f a (E.declared {i = i} {j = j} h) = found_alike _ _ i j (sought-alike h a.blocks)
  misses s t e f a (E.used {i = i} {j = j} h) = missing-alike _ _ i j (sought-alike h a.blocks)
  misses s t e f a (E.called h n) = refl
  misses s t e f a (E.ended h) = refl

  pub variables-alike : (es fs : List Event) → Pairs Al Al (unmarked es) (unmarked fs) → length (scan entered (misnamed_at sm) (scope [] 0) es) ≡ length (scan entered (misnamed_at sm') (scope [] 0) fs)
  unfolding entered on_name misnamed
  variables-alike es fs ps = scan-alike Scopes entered entered (misnamed_at sm) (misnamed_at sm') enters misses (λ c d i. refl) (λ c d i. refl) (λ c d i. refl) (λ c d i. refl) (scope [] 0) (scope [] 0) es fs (record { blocks = empty; next = refl }) ps

  -- ---- functions

  pub data Heads : List Head → List Head → Type 0 where
    no-heads : Heads [] []
    head : {h k : Head} {hs ks : List Head} → spell h.name ≡ spell' k.name → h.arity ≡ k.arity → Heads hs ks → Heads (h ∷ hs) (k ∷ ks)

  heads-append : {hs ks hs' ks' : List Head} → Heads hs ks → Heads hs' ks' → Heads (hs ++ hs') (ks ++ ks')
  heads-append no-heads b = b
  heads-append (head p q a) b = head p q (heads-append a b)

  function_alike : {i j : ℕ} {hs ks : List Head} → Al i j → Heads hs ks → function_of sm hs i ≡ function_of sm' ks j
  unfolding function_of
  function_alike h no-heads = refl
  function_alike h (head p q a) = cond-alike (ap₂ same p h) refl (ap (λ (o : Option ℕ). elim o [ None ↦ None | Some n ↦ Some (suc n) ]) (function_alike h a))

  arity-alike : {i j : ℕ} {hs ks : List Head} → Al i j → Heads hs ks → arity_of sm hs i ≡ arity_of sm' ks j
  unfolding arity_of
  arity-alike h no-heads = refl
  arity-alike h (head p q a) = cond-alike (ap₂ same p h) (ap Some q) (arity-alike h a)

  module _ (hs ks : List Head) (a : Heads hs ks) where
    calls-none : (e f : Event) → Pair Al Al e f → length (uncalled sm hs e) ≡ length (uncalled sm' ks f)
    unfolding uncalled
    calls-none e f (E.begun h) = refl
    calls-none e f (E.given h) = refl
    calls-none e f E.opened = refl
    calls-none e f E.closed = refl
    calls-none e f (E.declared h) = refl
    calls-none e f (E.used h) = refl
    calls-none e f (E.called {i = i} {j = j} h n) = missing-alike _ _ i j (function_alike h a)
    calls-none e f (E.ended h) = refl

    pub uncalled-alike : (es fs : List Event) → Pairs Al Al (unmarked es) (unmarked fs) → length (on (uncalled sm hs) es) ≡ length (on (uncalled sm' ks) fs)
    unfolding uncalled
    uncalled-alike es fs ps = on_alike (uncalled sm hs) (uncalled sm' ks) calls-none (λ d i. refl) (λ d i. refl) es fs ps

    wrong-alike : (o p : Option ℕ) (i j m n : ℕ) → o ≡ p → m ≡ n → length (wrong o i m) ≡ length (wrong p j n)
    unfolding wrong
    wrong-alike None None i j m n e f = refl
    wrong-alike (Some x) (Some y) i j m n e f = let z : x ≡ y = cc in when-alike _ _ i j (ap₂ (λ (u w : ℕ). not (eqb u w)) z f)
    wrong-alike None (Some y) i j m n e f = absurd (let z : ◌≡◌ {A = ℕ} 0 1 = cc in omega arith)
    wrong-alike (Some x) None i j m n e f = absurd (let z : ◌≡◌ {A = ℕ} 0 1 = cc in omega arith)

    calls-wrong : (e f : Event) → Pair Al Al e f → length (miscounted sm hs e) ≡ length (miscounted sm' ks f)
    unfolding miscounted
    calls-wrong e f (E.begun h) = refl
    calls-wrong e f (E.given h) = refl
    calls-wrong e f E.opened = refl
    calls-wrong e f E.closed = refl
    calls-wrong e f (E.declared h) = refl
    calls-wrong e f (E.used h) = refl
    calls-wrong e f (E.called {i = i} {j = j} {m = m} {n = n} h q) = wrong-alike _ _ i j m n (arity-alike h a) q
    calls-wrong e f (E.ended h) = refl

    pub calls-alike : (es fs : List Event) → Pairs Al Al (unmarked es) (unmarked fs) → length (on (miscounted sm hs) es) ≡ length (on (miscounted sm' ks) fs)
    unfolding miscounted
    calls-alike es fs ps = on_alike (miscounted sm hs) (miscounted sm' ks) calls-wrong (λ d i. refl) (λ d i. refl) es fs ps

  pub repeated-alike : {bs cs hs ks : List Head} → Heads bs cs → Heads hs ks → length (repeated sm bs hs) ≡ length (repeated sm' cs ks)
  unfolding repeated
  repeated-alike b no-heads = refl
  repeated-alike {bs} {cs} b (head {h = h} {k = k} {hs = hs} {ks = ks} p q a) =
      joined (if_found (function_of sm bs h.name) h.name) (repeated sm (bs ++ h ∷ []) hs) (if_found (function_of sm' cs k.name) k.name) (repeated sm' (cs ++ k ∷ []) ks)
      (found_alike _ _ h.name k.name (function_alike p b)) (repeated-alike (heads-append b (head p q no-heads)) a)

  -- ---- main

  abbrev pub main : ℕ → Bool
  main i = same (spell i) (bytes "main")

  abbrev pub main' : ℕ → Bool
  main' i = same (spell' i) (bytes "main")

  mains-alike : {hs ks : List Head} → Heads hs ks → Heads (mains main hs) (mains main' ks)
  unfolding mains
  mains-alike no-heads = no-heads
  mains-alike (head {h = h} {k = k} {hs = hs} {ks = ks} p q a) = go (main h.name) (main' k.name) (ap (λ (w : List ℕ). same w (bytes "main")) p) (mains-alike a)
    where
      go : (b c : Bool) → b ≡ c → Heads (mains main hs) (mains main' ks) → Heads (cond b (h ∷ mains main hs) (mains main hs)) (cond c (k ∷ mains main' ks) (mains main' ks))
      go true true e r = head p q r
      go false false e r = r
      go true false e r = absurd (let z : ◌≡◌ {A = ℕ} 0 1 = cc in omega arith)
      go false true e r = absurd (let z : ◌≡◌ {A = ℕ} 0 1 = cc in omega arith)

  with-alike : {hs ks : List Head} → Heads hs ks → length (with_parameters hs) ≡ length (with_parameters ks)
  unfolding with_parameters
  with-alike no-heads = refl
  with-alike (head {h = h} {k = k} {hs = hs} {ks = ks} p q a) = joined (when (ltb 0 h.arity) h.name) (with_parameters hs) (when (ltb 0 k.arity) k.name) (with_parameters ks) (when-alike _ _ h.name k.name (ap (ltb 0) q)) (with-alike a)

  bad-alike : (m n : ℕ) {hs ks : List Head} → Heads hs ks → length (bad_main m hs) ≡ length (bad_main n ks)
  unfolding bad_main
  bad-alike m n no-heads = refl
  bad-alike m n (head p q a) = with-alike (head p q a)

  pub main-alike : (m n : ℕ) {hs ks : List Head} → Heads hs ks → length (bad_main m (mains main hs)) ≡ length (bad_main n (mains main' ks))
  main-alike m n a = bad-alike m n (mains-alike a)

  -- ---- the heads of trees that are alike

  module _ {R G : ℕ → ℕ → Type 0} where
    one-head : {f g : Ast fun} → Like Al R G fun f g → Heads (head_of f ∷ []) (head_of g ∷ [])
    one-head (L.function h p b) = head h (E.same-parameters p) no-heads

    pub tree-heads : {p q : Ast prog} → Like Al R G prog p q → Heads (map head_of (functions p)) (map head_of (functions q))
    unfolding functions
    tree-heads L.no_funs = no-heads
    tree-heads (L.more_funs {p = p} {q = q} {f = f} {g = g} a b) =
        subst (λ (l : List Head). Heads l (map head_of (functions q ++ g ∷ []))) (sym (map-append head_of (functions p) (f ∷ [])))
        (subst (λ (l : List Head). Heads (map head_of (functions p) ++ head_of f ∷ []) l) (sym (map-append head_of (functions q) (g ∷ []))) (heads-append (tree-heads a) (one-head b)))
