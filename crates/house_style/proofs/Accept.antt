-- THEOREM of slip 7 on writing again: "up to that length, writing once more alters nothing". The house style of an accepted text is accepted, if it is not too long.
use Prim.Native.Nat.{ℕ, zero, suc, ◌+◌, ◌-◌, ◌≤◌}
use mathlib.Core.Path.{◌≡◌, refl, sym, ap, ap₂, ◌∙◌, subst, subst₂}
use mathlib.Core.Bool.{Bool, true, false, ◌||◌}
use mathlib.Core.List.{List, [], ◌∷◌, ◌++◌, append-nil}
use mathlib.Core.Option.{some}
use native.Mathlib.Omega.{arith}
use borrow.Author.Tests.{le-ltb, ltb-false}
use lib.Dec.{eqb, ltb}
use lib.ListN.{length, get_or, drop, length-take}
use Rattle.syntax.specs.Token.{k_end, k_name, k_number}
use Rattle.syntax.specs.Tree as T
use Rattle.syntax.specs.Tree.{Tree, Mul, product, Cmp, less, less_eq, greater, greater_eq, equal, unequal, numbered}
use Rattle.syntax.specs.Ast.{Sort, Ast, prog}
use Rattle.syntax.specs.Abstract.{ast}
use Rattle.lexer.specs.Lex.{all, same, kind_in, kind_of, value_of, Token, none_large, lexed, bytes}
use Rattle.lexer.specs.Lex as X
use Rattle.lexer.specs.Parts.{large_as}
use Rattle.lexer.proofs.Fronts.{size-value}
use Rattle.lexer.proofs.Theorems.{Small, lexed-tokens, scans-only}
use Rattle.lexer.proofs.Theorems as Y
use Rattle.events.specs.Event.{Event, events_at, events}
use Rattle.events.proofs.Rising.{Rising, text-rises}
use Rattle.text_rules.specs.Spelling.{spelled}
use Rattle.text_rules.specs.Scan.{scan as go-through, on}
use Rattle.text_rules.specs.Rules.{Head, heads, too_deep, miscalls, mainless, open_ends, too_many}
use Rattle.text_rules.specs.Names.{misnamed, uncalled, repeated, bad_names, Meaning, meanings, meant}
use Rattle.text_rules.specs.Own.{reversed, too_wide, is_reversed, is_wide}
use Rattle.text_rules.specs.Scopes.{nowhere, entered, on_name, misnamed_at}
use Rattle.text_rules.specs.Assigned.{unassigned}
use Rattle.text_rules.proofs.OneMeaning.{Each, Says, one-meaning}
use Rattle.text_rules.proofs.Programs.{heads-are}
use Rattle.text_rules.proofs.Seen.{bad-names, meanings-are}
use Rattle.checker.specs.Check.{kinds, places, values, source_of, means_in, accepted, checked}
use Rattle.checker.specs.Accepted.{KeepsRules}
use Rattle.checker.proofs.Exactly.{exactly}
use Rattle.printing.specs.Decimal.{natural}
use Rattle.house_style.specs.Named as N
use Rattle.house_style.specs.Named.{Named, strip}
use Rattle.house_style.specs.House.{Piece, word, gap, flat, mul_sign, cmp_sign, signed, within, laid, house}
use Rattle.house_style.specs.Read.{tree_of, read}
use Rattle.house_style.proofs.Lexing.{tokens_from, scanned, spell_of, value_in}
use Rattle.house_style.proofs.Words.{natural-kind, natural-value}
use Rattle.house_style.proofs.Leaves.{Leaves}
use Rattle.house_style.proofs.Tidy.{tidy}
use Rattle.house_style.proofs.Like.{Like, Alike, Equal}
use Rattle.house_style.proofs.Sources.{real, real-name, Stand, stands, leaves}
use Rattle.house_style.proofs.Readback.{Readable, reads_as, pieces-apart, new-like, new-grammar}
use Rattle.house_style.proofs.Events.{unmarked, seen, unmarked-is, Pairs, give, take as take-likeness}
use Rattle.house_style.proofs.Events as E
use Rattle.house_style.proofs.Rules.{is-empty, empty-first, empty-rest, ends-alike, counts-alike, variables-alike, uncalled-alike, calls-alike, repeated-alike, main-alike, Heads, tree-heads, scan-unmarked}
use Rattle.house_style.proofs.Rules as R
use Rattle.house_style.proofs.Owns.{owns-like}
use Rattle.house_style.proofs.Flows.{Known, Same, mean-alike, unset-like}
use Rattle.house_style.proofs.Depth.{kept_low, to_low, from_low}

-- ---- number 3: no word laid out is large

abbrev pub SmallName : List ℕ → Type 0
SmallName w = (kind_of w ≡ k_name) × (length w ≤ 16)

abbrev pub SmallNumber : ℕ → Type 0
SmallNumber v = v ≤ 2147483647

abbrev Fits : List ℕ → Type 0
Fits w = large_as (kind_of w) (value_of w) ≡ false

large-name : (v : ℕ) → large_as k_name v ≡ ltb 16 v
large-name v = or-false (ltb 16 v)
  where
    or-false : (t : Bool) → t || false ≡ t
    or-false true = refl
    or-false false = refl

name-fits : (w : List ℕ) → SmallName w → Fits w
name-fits w h =
    let e : value_of w ≡ length w = size-value w (ap (λ (k : ℕ). eqb k k_number) h.0) in
    ap₂ large_as h.0 e ∙ large-name (length w) ∙ le-ltb 16 (length w) h.1

number_fits : (v : ℕ) → SmallNumber v → Fits (natural v)
number_fits v h = ap₂ large_as (natural-kind v) (natural-value v) ∙ le-ltb 2147483647 v h

unfoldable AllFit : List Piece → Type 0
AllFit [] = Unit {0}
AllFit (gap bs ∷ ps) = AllFit ps
AllFit (word bs ∷ ps) = Fits bs × AllFit ps

mul-fits : (o : Mul) → Fits (bytes (mul_sign o))
unfolding kind_of kind_in same value_of
mul-fits product = refl

cmp-fits : (o : Cmp) → Fits (bytes (cmp_sign o))
unfolding kind_of kind_in same value_of
cmp-fits less = refl
cmp-fits less_eq = refl
cmp-fits greater = refl
cmp-fits greater_eq = refl
cmp-fits equal = refl
cmp-fits unequal = refl

within-fits : (b : Bool) (f : List Piece → List Piece) (ps : List Piece) → ((qs : List Piece) → AllFit qs → AllFit (f qs)) → AllFit ps → AllFit (within b f ps)
unfolding within AllFit kind_of kind_in same value_of
within-fits true f ps g a = (refl, g _ (refl, a))
within-fits false f ps g a = g ps a

signed-fits : (a : Bool) (v : ℕ) (ps : List Piece) → SmallNumber v → AllFit ps → AllFit (signed a v ps)
unfolding AllFit kind_of kind_in same value_of
signed-fits true v ps h a = (refl, (number_fits v h, a))
signed-fits false v ps h a = (number_fits v h, a)

all_fit : {s : Sort} (n : ℕ) (x : Named s) (ps : List Piece) → Leaves SmallName SmallNumber x → AllFit ps → AllFit (laid n x ps)
unfolding laid Leaves AllFit kind_of kind_in same value_of all
all_fit n (N.number v) ps h a = (number_fits v h, a)
all_fit n (N.negative v) ps h a = (refl, (number_fits v h, a))
all_fit n (N.name x) ps h a = (name-fits x h, a)
all_fit n (N.call f l) ps h a = (name-fits f h.0, (refl, all_fit 0 l _ h.1 (refl, a)))
all_fit n (N.times o x y) ps h a = within-fits (ltb 1 n) _ ps (λ qs b. all_fit 1 x _ h.0 (mul-fits o, all_fit 2 y _ h.1 b)) a
all_fit n (N.plus x y) ps h a = within-fits (ltb 0 n) _ ps (λ qs b. all_fit 0 x _ h.0 (refl, all_fit 1 y _ h.1 b)) a
all_fit n (N.minus x y) ps h a = within-fits (ltb 0 n) _ ps (λ qs b. all_fit 0 x _ h.0 (refl, all_fit 1 y _ h.1 b)) a
all_fit n N.no_args ps h a = a
all_fit n (N.more_args N.no_args e) ps h a = all_fit 0 e _ h.1 a
all_fit n (N.more_args (N.more_args l x) e) ps h a = all_fit 0 (N.more_args l x) _ h.0 (refl, all_fit 0 e _ h.1 a)
all_fit n (N.cmp_mark o) ps h a = (cmp-fits o, a)
all_fit n N.always ps h a = (refl, a)
all_fit n N.never ps h a = (refl, a)
all_fit n (N.compare x (N.cmp_mark o) y) ps h a = all_fit 0 x _ h.0 (cmp-fits o, all_fit 0 y _ h.1 a)
all_fit n (N.both x y) ps h a = all_fit 0 x _ h.0 (refl, all_fit 0 y _ h.1 a)
all_fit n (N.either x y) ps h a = all_fit 0 x _ h.0 (refl, all_fit 0 y _ h.1 a)
all_fit d N.empty ps h a = (refl, a)
all_fit d (N.declare x) ps h a = (refl, (name-fits x h, (refl, a)))
all_fit d (N.declare_free x) ps h a = (refl, (name-fits x h, (refl, (refl, a))))
all_fit d (N.declare_own x s v t w) ps h a = (refl, (name-fits x h.0, (refl, signed-fits s v _ h.1.0 (refl, signed-fits t w _ h.1.1 (refl, a)))))
all_fit d (N.assign x e) ps h a = (name-fits x h.0, (refl, all_fit 0 e _ h.1 (refl, a)))
all_fit d (N.eval e) ps h a = all_fit 0 e _ h (refl, a)
all_fit d (N.return e) ps h a = (refl, all_fit 0 e _ h (refl, a))
all_fit d N.fail ps h a = (refl, (refl, a))
all_fit d (N.block b) ps h a = all_fit d b _ h a
all_fit d (N.if_else x s t) ps h a = (refl, (refl, all_fit 0 x _ h.0 (refl, all_fit (suc d) s _ h.1.0 (refl, all_fit (suc d) t _ h.1.1 a))))
all_fit d (N.while x s) ps h a = (refl, (refl, all_fit 0 x _ h.0 (refl, all_fit (suc d) s _ h.1 a)))
all_fit d N.no_stmts ps h a = a
all_fit d (N.more_stmts l s) ps h a = all_fit d l _ h.0 (all_fit d s _ h.1 a)
all_fit d (N.braced l) ps h a = (refl, all_fit (suc d) l _ h (refl, a))
all_fit n N.no_params ps h a = a
all_fit n (N.more_params N.no_params x) ps h a = (refl, (name-fits x h.1, a))
all_fit n (N.more_params (N.more_params l y) x) ps h a = all_fit 0 (N.more_params l y) _ h.0 (refl, (refl, (name-fits x h.1, a)))
all_fit n (N.function f q b) ps h a = (refl, (name-fits f h.0, (refl, all_fit 0 q _ h.1.0 (refl, all_fit 0 b _ h.1.1 a))))
all_fit n N.no_funs ps h a = a
all_fit n (N.more_funs p f) ps h a = all_fit 0 p _ h.0 (all_fit 0 f _ h.1 a)

small-tokens : (p : ℕ) (ps : List Piece) → AllFit ps → Small (tokens_from p ps)
unfolding tokens_from AllFit
small-tokens p [] a = Y.one refl Y.none
small-tokens p (gap bs ∷ ps) a = small-tokens (p + length bs) ps a
small-tokens p (word bs ∷ ps) a = Y.one a.0 (small-tokens (p + length bs) ps a.1)

small-passes : (every : List Token) {ts : List Token} → Small ts → none_large every ts ≡ X.tokens every
unfolding none_large
small-passes every Y.none = refl
small-passes every (Y.one e s) = rw (e, none_large) (small-passes every s)

-- the names and numbers of a text that 3 lets pass
small-name : {ts : List Token} → Small ts → (i : ℕ) → get_or (kinds ts) i 0 ≡ k_name → get_or (values ts) i 0 ≤ 16
small-name Y.none i e = absurd (omega arith)
small-name (Y.one {t = t} h s) zero e = ltb-false 16 t.value (sym (large-name t.value) ∙ ap (λ (k : ℕ). large_as k t.value) (sym e) ∙ h)
small-name (Y.one {t = t} h s) (suc i) e = small-name s i e

small-number : {ts : List Token} → Small ts → (i : ℕ) → get_or (kinds ts) i 0 ≡ k_number → get_or (values ts) i 0 ≤ 2147483647
small-number Y.none i e = absurd (omega arith)
small-number (Y.one {t = t} h s) zero e = ltb-false 2147483647 t.value (ap (λ (k : ℕ). large_as k t.value) (sym e) ∙ h)
small-number (Y.one {t = t} h s) (suc i) e = small-number s i e

-- each name of a tree means what its event says
means-so : (eq : ℕ → ℕ → Bool) (y : Ast prog) {lo hi : ℕ} → Rising lo (events y) hi → Each (Says eq (heads (events y)) (meant (λ i. 0) (meanings eq y))) nowhere (events y)
means-so eq y r = subst (λ (ms : List Meaning). Each (Says eq (heads (events y)) (meant (λ i. 0) ms)) nowhere (events y)) (meanings-are eq y) (one-meaning eq (λ i. 0) r)

-- ---- an accepted text, and its house style

module _ (text : List ℕ) (k : KeepsRules text) where
  abbrev ts : List Token
  ts = k.tokens

  abbrev t : Tree T.prog
  t = k.tree

  abbrev spell : ℕ → List ℕ
  spell = spelled text (places ts) (values ts)

  abbrev value : ℕ → ℕ
  value i = get_or (values ts) i 0

  abbrev n : Named prog
  n = tree_of text ts t

  abbrev pub kept-readable : Readable text n
  kept-readable = record { tokens = ts; tree = t; scans = scans-only (lexed-tokens text ts k.lexes).1; grammar = k.grammar; is = refl }

  abbrev ps : List Piece
  ps = laid 0 n []

  abbrev spell' : ℕ → List ℕ
  spell' = spell_of ps

  abbrev t' : Tree T.prog
  t' = numbered 0 (tidy t)

  abbrev x : Ast prog
  x = ast t

  abbrev x' : Ast prog
  x' = ast t'

  abbrev Al : ℕ → ℕ → Type 0
  Al = Alike spell spell'

  pub small-leaves : Leaves SmallName SmallNumber n
  small-leaves =
      let ks = kinds ts in
      let z = (lexed-tokens text ts k.lexes).2 in
      let names : (i : ℕ) → get_or ks i 0 ≡ k_name → SmallName (spell i) = λ i e. (real-name (real text ts kept-readable.scans) i e, omega (arith, small-name z i e, length-take (get_or (values ts) i 0) (drop (get_or (places ts) i 0) text))) in
      let l = (leaves ks spell value SmallName SmallNumber names (small-number z) t 0 (k_end ∷ []) (subst (λ (l : List ℕ). Stand ks 0 l) k.grammar.tokens (stands ks))).0 in
      subst (λ (u : Tree T.prog). Leaves SmallName SmallNumber (strip spell value (ast u))) (sym k.grammar.numbers) l

  new-lexes : length (flat ps) ≤ 2048 → lexed (flat ps) ≡ X.tokens (tokens_from 0 ps)
  unfolding lexed AllFit
  new-lexes h = rw (le-ltb 2048 (length (flat ps)) h, lexed) (rw (scanned 0 (pieces-apart text n kept-readable)) (small-passes (tokens_from 0 ps) (small-tokens 0 ps (all_fit 0 n [] small-leaves tt))))

  -- ---- the events of both

  like : Like Al Al (Equal value (value_in ps)) prog x x'
  like = new-like text n kept-readable

  unmarked-all : (y : Ast prog) → unmarked (events y) ≡ seen y []
  unfolding events unmarked
  unmarked-all y = ap unmarked (sym (append-nil (events_at 1 y))) ∙ unmarked-is 1 y []

  pairs : Pairs Al Al (unmarked (events x)) (unmarked (events x'))
  pairs = subst₂ (λ (a b : List Event). Pairs Al Al a b) (sym (unmarked-all x)) (sym (unmarked-all x')) (give like E.none)

  both-heads : Heads spell spell' (heads (events x)) (heads (events x'))
  both-heads = subst₂ (λ (a b : List Head). Heads spell spell' a b) (sym (heads-are x)) (sym (heads-are x')) (tree-heads spell spell' like)

  -- ---- the rules

  new-depth : too_deep (events x') ≡ []
  unfolding events
  new-depth = from_low (events_at 1 x') (kept_low 24 t 0 1 (to_low (events_at 1 x) k.depth))

  abbrev one : ℕ → ℕ → Bool
  one i j = same (spell i) (spell j)

  abbrev other : ℕ → ℕ → Bool
  other i j = same (spell' i) (spell' j)

  -- the tokens that break rule 6, in three lists
  abbrev strays : (ℕ → ℕ → Bool) → Ast prog → List ℕ
  strays eq y = go-through entered (misnamed_at eq) nowhere (events y)

  abbrev uncalls : (ℕ → ℕ → Bool) → Ast prog → List ℕ
  uncalls eq y = on (uncalled eq (heads (events y))) (events y)

  abbrev repeats : (ℕ → ℕ → Bool) → Ast prog → List ℕ
  repeats eq y = repeated eq [] (heads (events y))

  strays-none : strays one x ≡ []
  strays-none = empty-first (strays one x) (uncalls one x ++ repeats one x) (bad-names one x ∙ k.names)

  functions-none : uncalls one x ++ repeats one x ≡ []
  functions-none = empty-rest (strays one x) (uncalls one x ++ repeats one x) (bad-names one x ∙ k.names)

  new-names : bad_names other x' ≡ []
  new-names =
      let a : strays other x' ≡ [] = is-empty (strays one x) (strays other x') (variables-alike spell spell' (events x) (events x') pairs) strays-none in
      let b : uncalls other x' ≡ [] = is-empty (uncalls one x) (uncalls other x') (uncalled-alike spell spell' (heads (events x)) (heads (events x')) both-heads (events x) (events x') pairs) (empty-first (uncalls one x) (repeats one x) functions-none) in
      let c : repeats other x' ≡ [] = is-empty (repeats one x) (repeats other x') (repeated-alike spell spell' R.no-heads both-heads) (empty-rest (uncalls one x) (repeats one x) functions-none) in
      sym (bad-names other x') ∙ ap₂ ◌++◌ a (ap₂ ◌++◌ b c)

  -- what names mean in both
  abbrev means : ℕ → ℕ
  means = means_in (source_of text ts) x

  abbrev means' : ℕ → ℕ
  means' = means_in (source_of (flat ps) (tokens_from 0 ps)) x'

  meanings-alike : Pairs Known (Same means means') (unmarked (events x)) (unmarked (events x'))
  unfolding entered on_name misnamed
  meanings-alike =
      mean-alike spell spell' (heads (events x)) (heads (events x')) means means' nowhere nowhere (events x) (events x') (record { blocks = R.empty; next = refl }) pairs
      (means-so one x (text-rises t k.grammar.numbers)) (means-so other x' (text-rises t' (new-grammar text n kept-readable).numbers))
      (sym (scan-unmarked entered (misnamed_at (λ i j. same (spell i) (spell j))) (λ s d i. refl) (λ s d i. refl) nowhere (events x)) ∙ strays-none)

  like-means : Like Known (Same means means') (Equal value (value_in ps)) prog x x'
  like-means = (take-likeness like (subst₂ (λ (a b : List Event). Pairs Known (Same means means') a b) (unmarked-all x) (unmarked-all x') meanings-alike)).0

  new-assigned : unassigned means' x' ≡ []
  new-assigned = is-empty (unassigned means x) (unassigned means' x') (unset-like means means' (λ v. refl) like-means) k.assigned

  pub keeps-rules : length (flat ps) ≤ 2048 → KeepsRules (flat ps)
  keeps-rules h = record {
    tokens = tokens_from 0 ps;
    tree = t';
    lexes = new-lexes h;
    grammar = new-grammar text n kept-readable;
    depth = new-depth;
    names = new-names;
    calls = is-empty (miscalls one (events x)) (miscalls other (events x')) (calls-alike spell spell' (heads (events x)) (heads (events x')) both-heads (events x) (events x') pairs) k.calls;
    main = is-empty (mainless (λ i. same (spell i) (bytes "main")) (length (kinds ts) - 1) (events x)) (mainless (λ i. same (spell' i) (bytes "main")) (length (kinds (tokens_from 0 ps)) - 1) (events x')) (main-alike spell spell' (length (kinds ts) - 1) (length (kinds (tokens_from 0 ps)) - 1) both-heads) k.main;
    ends = is-empty (open_ends (events x)) (open_ends (events x')) (ends-alike (events x) (events x') pairs) k.ends;
    assigned = new-assigned;
    counts = is-empty (too_many (events x)) (too_many (events x')) (counts-alike (events x) (events x') pairs) k.counts;
    upward = is-empty (reversed value x) (reversed (value_in ps) x') (owns-like value (value_in ps) is_reversed like) k.upward;
    narrow = is-empty (too_wide value x) (too_wide (value_in ps) x') (owns-like value (value_in ps) is_wide like) k.narrow;
  }

-- ---- in the slip's words

-- an accepted text can be read
pub accepted-read : (text : List ℕ) → checked text ≡ accepted → (n : Named prog) × (read text ≡ some n)
accepted-read text e = let k = (exactly text).0 e in (tree_of text k.tokens k.tree, reads_as text _ (kept-readable text k))

-- THEOREM. "Output past 2,048 bytes is still written whole; up to that length, writing once more alters nothing": up to that length it is accepted, and by `reads-back` its tree is the same, so the text written for it is itself.
pub again : (text : List ℕ) (n : Named prog) → checked text ≡ accepted → read text ≡ some n → length (house n) ≤ 2048 → checked (house n) ≡ accepted
unfolding house
again text n e r h =
    let k = (exactly text).0 e in
    let z : some (tree_of text k.tokens k.tree) ≡ some n = sym (reads_as text _ (kept-readable text k)) ∙ r in
    let q : tree_of text k.tokens k.tree ≡ n = cc in
    subst (λ (m : Named prog). length (flat (laid 0 m [])) ≤ 2048 → checked (flat (laid 0 m [])) ≡ accepted) q (λ b. (exactly (flat (laid 0 (tree_of text k.tokens k.tree) []))).1 (keeps-rules text k b)) h
