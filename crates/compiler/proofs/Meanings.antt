-- The names of a text that keeps the rules 6, 7 and 10: each means a variable or a function among 16, and no call has more than 4 arguments.
use Rattle.std.proofs.Common.{◌≡◌, ℕ, zero, suc, ◌<◌, ◌≤◌, Bool, List, [], ◌∷◌, length, get_or, arith}
use lib.ListN.{length-map}
use Rattle.syntax.specs.Ast.{Ast, prog}
use Rattle.events.specs.Event.{Event, function, parameter, thing, opens, closes, declares, uses, calls, ends, events}
use Rattle.events.proofs.Rising.{Rising}
use Rattle.text_rules.specs.Rules.{Head, heads, miscalls, tally, too_many}
use Rattle.text_rules.specs.Names.{meant, bad_names, meanings}
use Rattle.text_rules.specs.Scopes.{Scope, entered, nowhere}
use Rattle.text_rules.proofs.Counts.{arities, few-functions, Modest, heads-modest}
use Rattle.text_rules.proofs.OneMeaning.{Each, done, also}
use Rattle.text_rules.proofs.Resolving.{Fits, next-few}
use Rattle.text_rules.proofs.Programs.{text-fits}

module _ (means : ℕ → ℕ) where
  -- a variable's slot and a function's number are below 16, and a call has at most 4 arguments
  abbrev pub Good : Event → Type 0
  Good (function i) = Unit {0}
  Good (parameter i) = Unit {0}
  Good (thing d i) = Unit {0}
  Good opens = Unit {0}
  Good closes = Unit {0}
  Good (declares i) = means i < 16
  Good (uses i) = means i < 16
  Good (calls i n) = (means i < 16) × (n ≤ 4)
  Good (ends i b) = Unit {0}

  abbrev pub AllGood : List Event → Type 0
  AllGood [] = Unit {0}
  AllGood (e ∷ es) = Good e × AllGood es

modest-arity : (hs : List Head) → Modest hs → (g : ℕ) → get_or (arities hs) g 0 ≤ 4
modest-arity [] m g = omega arith
modest-arity (h ∷ hs) m zero = m.0
modest-arity (h ∷ hs) m (suc g) = modest-arity hs m.1 g

module _ (means : ℕ → ℕ) (hs : List Head) (few : length hs ≤ 16) (modest : Modest hs) where
  good-event : (s : Scope) (e : Event) → s.next ≤ 16 → Fits (arities hs) means s e → Good means e
  unfolding Fits
  good-event s (function i) h f = tt
  good-event s (parameter i) h f = tt
  good-event s (thing d i) h f = tt
  good-event s opens h f = tt
  good-event s closes h f = tt
  good-event s (declares i) h f = omega (arith, f.0, f.1)
  good-event s (uses i) h f = omega (arith, f.0)
  good-event s (calls i n) h f = (omega (arith, f.0, length-map hs (λ (x : Head). x.arity)), omega (arith, f.1, modest-arity hs modest (means i)))
  good-event s (ends i b) h f = tt

  good-events : (s : Scope) {es : List Event} → s.next ≤ 16 → Each (Fits (arities hs) means) s es → AllGood means es
  good-events s h done = tt
  good-events s h (also {e = e} f w) = (good-event s e h f, good-events (entered s e) (next-few (arities hs) means s e h f) w)

-- of a text that keeps the rules 6, 7 and 10, whatever its tokens meant before
pub good : (same : ℕ → ℕ → Bool) (f : ℕ → ℕ) (p : Ast prog) {lo hi : ℕ} → Rising lo (events p) hi
    → bad_names same p ≡ [] → miscalls same (events p) ≡ [] → too_many (events p) ≡ []
    → AllGood (meant f (meanings same p)) (events p)
good same f p r six seven ten =
    let es = events p in
    good-events (meant f (meanings same p)) (heads es) (few-functions es ten) (heads-modest (tally 0 0 0) es ten) nowhere (omega arith) (text-fits same f p r six seven ten)
