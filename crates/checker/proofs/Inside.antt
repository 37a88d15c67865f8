-- The tokens that break a rule are tokens of the text.
use Prim.Native.Nat.{ℕ, ◌+◌, ◌<◌}
use mathlib.Core.Path.{◌≡◌, sym, ap, ◌∙◌, subst}
use mathlib.Core.Bool.{Bool, true, false, cond, not, ◌||◌}
use mathlib.Core.List.Memᴰ.{head as here}
use mathlib.Core.List.Memᴰ.{not-nil as nowhere}
use mathlib.Core.List.Memᴰ.{tail as there}
use mathlib.Core.List.{List, [], ◌∷◌, ◌++◌}
use Rattle.std.specs.Prelude.{Option, None, Some}
use native.Mathlib.Omega.{arith}
use lib.ListN.{length}
use lib.Dec.{eqb, leb, ltb}
use Rattle.syntax.specs.Token.{k_end}
use Rattle.syntax.specs.Tree.{Tree, prog, width}
use Rattle.syntax.specs.Ast as A
use Rattle.syntax.specs.Ast.{Sort, Ast, low_first}
use Rattle.syntax.specs.Abstract.{ast}
use Rattle.grammar.specs.Text as G
use Rattle.events.specs.Event.{Event, function, parameter, thing, opens, closes, declares, uses, calls, ends, events}
use Rattle.events.specs.Walk.{Below}
use Rattle.events.proofs.Widths.{onto-length}
use Rattle.events.proofs.Tokens.{Within, Each, numbered_below, events-within}
use Rattle.events.proofs.Tokens as W
use Rattle.semantics.specs.Demand.{◌∈◌}
use Rattle.text_rules.specs.Scan.{scan, on, when}
use Rattle.text_rules.specs.Rules.{Head, heads, deep, wrong, arity_of, miscounted, mains, with_parameters, bad_main, unended, Tally, tally, counted, over, function_of}
use Rattle.text_rules.specs.Names.{sought, unless_found, if_found, misnamed, uncalled, repeated}
use Rattle.text_rules.specs.Scopes.{Scope, nowhere as outside, entered, on_name, misnamed_at, bad_names_in}
use Rattle.text_rules.proofs.Seen.{bad-names}
use Rattle.text_rules.specs.Assigned.{unset}
use Rattle.text_rules.specs.Own.{Own, own, owns, pair_at, breaching, is_reversed, is_wide}
use Rattle.semantics.specs.Program.{Window}
use Rattle.checker.specs.Check.{Source, same_in, main_in, end_of, value_in, means_in, Rule, rules_of}

-- every number is below m
pub data Low (m : ℕ) : List ℕ → Type 0 where
  nil : Low m []
  more : {i : ℕ} {is : List ℕ} → i < m → Low m is → Low m (i ∷ is)

pub low-at : {m : ℕ} {is : List ℕ} → Low m is → (j : ℕ) → j ∈ is → j < m
low-at nil j k = absurd (nowhere k)
low-at {m} (more h l) j (here e) = subst (λ (i : ℕ). i < m) (sym e) h
low-at (more h l) j (there k) = low-at l j k

low-append : {m : ℕ} {is js : List ℕ} → Low m is → Low m js → Low m (is ++ js)
low-append nil l = l
low-append (more h k) l = more h (low-append k l)

low-when : {m i : ℕ} (b : Bool) → i < m → Low m (when b i)
low-when true h = more h nil
low-when false h = nil

module _ (m : ℕ) where
  -- ---- events

  low-on : (gives : Event → List ℕ) → ((e : Event) → Within m e → Low m (gives e)) → {es : List Event} → Each m es → Low m (on gives es)
  unfolding on
  low-on gives f W.none = nil
  low-on gives f (W.more {e = e} h l) = low-append (f e h) (low-on gives f l)

  low-scan : {S : Type 0} (step : S → Event → S) (gives : S → Event → List ℕ) → ((s : S) (e : Event) → Within m e → Low m (gives s e)) → (s : S) {es : List Event} → Each m es → Low m (scan step gives s es)
  unfolding scan
  low-scan step gives f s W.none = nil
  low-scan step gives f s (W.more {e = e} h l) = low-append (f s e h) (low-scan step gives f (step s e) l)

  -- ---- rule 5

  low-deep : (e : Event) → Within m e → Low m (deep e)
  unfolding deep Within
  low-deep (function i) h = nil
  low-deep (parameter i) h = nil
  low-deep (thing d i) h = low-when (ltb 24 d) h
  low-deep opens h = nil
  low-deep closes h = nil
  low-deep (declares i) h = nil
  low-deep (uses i) h = nil
  low-deep (calls i n) h = nil
  low-deep (ends i b) h = nil

  -- ---- functions

  -- the name of every function is below m
  data Heads : List Head → Type 0 where
    no-heads : Heads []
    head : {h : Head} {hs : List Head} → h.name < m → Heads hs → Heads (h ∷ hs)

  low-heads : {es : List Event} → Each m es → Heads (heads es)
  unfolding heads Within
  low-heads W.none = no-heads
  low-heads (W.more {e = e} {es = es} h l) = go e h (low-heads l)
    where
      go : (e : Event) → Within m e → Heads (heads es) → Heads (heads (e ∷ es))
      go (function i) h k = head h k
      go (parameter i) h k = k
      go (thing d i) h k = k
      go opens h k = k
      go closes h k = k
      go (declares i) h k = k
      go (uses i) h k = k
      go (calls i n) h k = k
      go (ends i b) h k = k

  -- ---- rules 6 and 7

  module _ (same : ℕ → ℕ → Bool) where
    low-found : {i : ℕ} (o : Option ℕ) → i < m → Low m (if_found o i)
    low-found None h = nil
    low-found (Some n) h = more h nil

    low-unless : {i : ℕ} (o : Option ℕ) → i < m → Low m (unless_found o i)
    low-unless None h = more h nil
    low-unless (Some n) h = nil

    low-misnamed_at : (s : Scope) (e : Event) → Within m e → Low m (misnamed_at same s e)
    unfolding on_name misnamed Within
    low-misnamed_at s (function i) h = nil
    low-misnamed_at s (parameter i) h = low-found (sought same s.blocks i) h
    low-misnamed_at s (thing d i) h = nil
    low-misnamed_at s opens h = nil
    low-misnamed_at s closes h = nil
    low-misnamed_at s (declares i) h = low-found (sought same s.blocks i) h
    low-misnamed_at s (uses i) h = low-unless (sought same s.blocks i) h
    low-misnamed_at s (calls i n) h = nil
    low-misnamed_at s (ends i b) h = nil

    low-uncalled : (hs : List Head) (e : Event) → Within m e → Low m (uncalled same hs e)
    unfolding uncalled Within
    low-uncalled hs (function i) h = nil
    low-uncalled hs (parameter i) h = nil
    low-uncalled hs (thing d i) h = nil
    low-uncalled hs opens h = nil
    low-uncalled hs closes h = nil
    low-uncalled hs (declares i) h = nil
    low-uncalled hs (uses i) h = nil
    low-uncalled hs (calls i n) h = low-unless (function_of same hs i) h
    low-uncalled hs (ends i b) h = nil

    low-repeated : (before : List Head) {hs : List Head} → Heads hs → Low m (repeated same before hs)
    unfolding repeated
    low-repeated before no-heads = nil
    low-repeated before (head {h = x} h l) = low-append (low-found (function_of same before x.name) h) (low-repeated (before ++ x ∷ []) l)

    low-wrong : {i : ℕ} (o : Option ℕ) (n : ℕ) → i < m → Low m (wrong o i n)
    unfolding wrong
    low-wrong None n h = nil
    low-wrong (Some k) n h = low-when (not (eqb k n)) h

    low-miscounted : (hs : List Head) (e : Event) → Within m e → Low m (miscounted same hs e)
    unfolding miscounted Within
    low-miscounted hs (function i) h = nil
    low-miscounted hs (parameter i) h = nil
    low-miscounted hs (thing d i) h = nil
    low-miscounted hs opens h = nil
    low-miscounted hs closes h = nil
    low-miscounted hs (declares i) h = nil
    low-miscounted hs (uses i) h = nil
    low-miscounted hs (calls i n) h = low-wrong (arity_of same hs i) n h
    low-miscounted hs (ends i b) h = nil

    low-names : {es : List Event} → Each m es → Low m (bad_names_in same es)
    low-names {es} l =
        low-append (low-scan entered (misnamed_at same) low-misnamed_at outside l)
        (low-append (low-on (uncalled same (heads es)) (low-uncalled (heads es)) l) (low-repeated [] (low-heads l)))

  -- ---- rule 8

  module _ (is_main : ℕ → Bool) where
    low-mains : {hs : List Head} → Heads hs → Heads (mains is_main hs)
    unfolding mains
    low-mains no-heads = no-heads
    low-mains (head {h = x} {hs = hs} h l) = go (is_main x.name) (low-mains l)
      where
        go : (b : Bool) → Heads (mains is_main hs) → Heads (cond b (x ∷ mains is_main hs) (mains is_main hs))
        go true k = head h k
        go false k = k

    low-parameters : {hs : List Head} → Heads hs → Low m (with_parameters hs)
    unfolding with_parameters
    low-parameters no-heads = nil
    low-parameters (head {h = x} h l) = low-append (low-when (ltb 0 x.arity) h) (low-parameters l)

    low-main : {end : ℕ} → end < m → {hs : List Head} → Heads hs → Low m (bad_main end hs)
    unfolding bad_main
    low-main e no-heads = more e nil
    low-main e (head h l) = low-parameters (head h l)

  -- ---- rules 9 and 10

  low-unended : (e : Event) → Within m e → Low m (unended e)
  unfolding unended Within
  low-unended (function i) h = nil
  low-unended (parameter i) h = nil
  low-unended (thing d i) h = nil
  low-unended opens h = nil
  low-unended closes h = nil
  low-unended (declares i) h = nil
  low-unended (uses i) h = nil
  low-unended (calls i n) h = nil
  low-unended (ends i b) h = low-when b h

  low-over : (c : Tally) (e : Event) → Within m e → Low m (over c e)
  unfolding over Within
  low-over c (function i) h = low-when (leb 16 c.functions) h
  low-over c (parameter i) h = low-when (leb 4 c.parameters || leb 16 c.declarations) h
  low-over c (thing d i) h = nil
  low-over c opens h = nil
  low-over c closes h = nil
  low-over c (declares i) h = low-when (leb 16 c.declarations) h
  low-over c (uses i) h = nil
  low-over c (calls i n) h = nil
  low-over c (ends i b) h = nil

  -- ---- rule 17

  low-unread : {i : ℕ} (b : Bool) → i < m → Low m (cond b [] (i ∷ []))
  low-unread true h = nil
  low-unread false h = more h nil

  low-unset : (means : ℕ → ℕ) {s : Sort} (t : Ast s) (set : ℕ → Bool) → Below m t → Low m (unset means t set)
  unfolding unset Below
  low-unset means (A.number i) set h = nil
  low-unset means (A.negative i) set h = nil
  low-unset means (A.name i) set h = low-unread (set (means i)) h
  low-unset means (A.call i a) set h = low-unset means a _ h.1
  low-unset means (A.bracket i e) set h = low-unset means e _ h.1
  low-unset means (A.times o x y) set h = low-append (low-unset means x _ h.0) (low-unset means y _ h.1)
  low-unset means (A.plus x y) set h = low-append (low-unset means x _ h.0) (low-unset means y _ h.1)
  low-unset means (A.minus x y) set h = low-append (low-unset means x _ h.0) (low-unset means y _ h.1)
  low-unset means A.no_args set h = nil
  low-unset means (A.more_args l e) set h = low-append (low-unset means l _ h.0) (low-unset means e _ h.1)
  low-unset means (A.cmp_mark o) set h = nil
  low-unset means A.always set h = nil
  low-unset means A.never set h = nil
  low-unset means (A.compare x o y) set h = low-append (low-unset means x _ h.0) (low-unset means y _ h.1)
  low-unset means (A.both c d) set h = low-append (low-unset means c _ h.0) (low-unset means d _ h.1)
  low-unset means (A.either c d) set h = low-append (low-unset means c _ h.0) (low-unset means d _ h.1)
  low-unset means (A.empty i) set h = nil
  low-unset means (A.declare i) set h = nil
  low-unset means (A.declare_free i) set h = nil
  low-unset means (A.declare_own i a b) set h = nil
  low-unset means (A.assign i e) set h = low-unset means e _ h.1
  low-unset means (A.eval e) set h = low-unset means e _ h
  low-unset means (A.block i l) set h = low-unset means l _ h.1
  low-unset means (A.if_else i c s t) set h = low-append (low-append (low-unset means c _ h.1.0) (low-unset means s _ h.1.1.0)) (low-unset means t _ h.1.1.1)
  low-unset means (A.while i c s) set h = low-append (low-unset means c _ h.1.0) (low-unset means s _ h.1.1)
  low-unset means (A.return i e) set h = low-unset means e _ h.1
  low-unset means (A.fail i) set h = nil
  low-unset means A.no_stmts set h = nil
  low-unset means (A.more_stmts l s) set h = low-append (low-unset means l _ h.0) (low-unset means s _ h.1)
  low-unset means (A.braced l j) set h = low-unset means l _ h.0
  low-unset means A.no_params set h = nil
  low-unset means (A.more_params l i) set h = nil
  low-unset means (A.function i p l) set h = low-unset means l _ h.1.1
  low-unset means A.no_funs set h = nil
  low-unset means (A.more_funs p f) set h = low-append (low-unset means p _ h.0) (low-unset means f _ h.1)

  -- ---- rules 18 and 19

  -- every low end begins below m
  data LowOwns : List Own → Type 0 where
    no_owns : LowOwns []
    one-own : {o : Own} {os : List Own} → o.token < m → LowOwns os → LowOwns (o ∷ os)

  owns-append : {os qs : List Own} → LowOwns os → LowOwns qs → LowOwns (os ++ qs)
  owns-append no_owns l = l
  owns-append (one-own h k) l = one-own h (owns-append k l)

  low-owns : {s : Sort} (t : Ast s) → Below m t → LowOwns (owns t)
  unfolding owns Below
  low-owns (A.declare_own i a b) h = one-own {o = own (low_first i) a b} (omega (arith, h)) no_owns
  low-owns (A.block i l) h = low-owns l h.1
  low-owns (A.if_else i c s t) h = owns-append (low-owns s h.1.1.0) (low-owns t h.1.1.1)
  low-owns (A.while i c s) h = low-owns s h.1.1
  low-owns A.no_stmts h = no_owns
  low-owns (A.more_stmts l s) h = owns-append (low-owns l h.0) (low-owns s h.1)
  low-owns (A.braced l j) h = low-owns l h.0
  low-owns (A.function i p l) h = low-owns l h.1.1
  low-owns A.no_funs h = no_owns
  low-owns (A.more_funs p f) h = owns-append (low-owns p h.0) (low-owns f h.1)
  low-owns (A.empty i) h = no_owns
  low-owns (A.declare i) h = no_owns
  low-owns (A.declare_free i) h = no_owns
  low-owns (A.assign i e) h = no_owns
  low-owns (A.eval e) h = no_owns
  low-owns (A.return i e) h = no_owns
  low-owns (A.fail i) h = no_owns
  low-owns (A.number i) h = no_owns
  low-owns (A.negative i) h = no_owns
  low-owns (A.name i) h = no_owns
  low-owns (A.call i a) h = no_owns
  low-owns (A.bracket i e) h = no_owns
  low-owns (A.times o x y) h = no_owns
  low-owns (A.plus x y) h = no_owns
  low-owns (A.minus x y) h = no_owns
  low-owns A.no_args h = no_owns
  low-owns (A.more_args l e) h = no_owns
  low-owns (A.cmp_mark o) h = no_owns
  low-owns A.always h = no_owns
  low-owns A.never h = no_owns
  low-owns (A.compare x o y) h = no_owns
  low-owns (A.both c d) h = no_owns
  low-owns (A.either c d) h = no_owns
  low-owns A.no_params h = no_owns
  low-owns (A.more_params l i) h = no_owns

  low-breaching : (value : ℕ → ℕ) (p : Window → Bool) {os : List Own} → LowOwns os → Low m (breaching value p os)
  unfolding breaching
  low-breaching value p no_owns = nil
  low-breaching value p (one-own {o = o} h l) = low-append (low-when (p (pair_at value o.token o.low o.high)) h) (low-breaching value p l)

-- ---- all rules

pub data Lows (m : ℕ) : List Rule → Type 0 where
  done : Lows m []
  also : {r : Rule} {rs : List Rule} → Low m r.broken → Lows m rs → Lows m (r ∷ rs)

rules-low : (m : ℕ) (s : Source) (p : Ast A.prog) → end_of s < m → Below m p → Each m (events p) → Lows m (rules_of s p)
unfolding rules_of
rules-low m s p e b l =
    also (low-on m deep (low-deep m) l)
    (also (subst (λ (is : List ℕ). Low m is) (bad-names (same_in s) p) (low-names m (same_in s) l))
    (also (low-on m (miscounted (same_in s) (heads (events p))) (low-miscounted m (same_in s) (heads (events p))) l)
    (also (low-main m (main_in s) e (low-mains m (main_in s) (low-heads m l)))
    (also (low-on m unended (low-unended m) l)
    (also (low-unset m (means_in s p) p _ b)
    (also (low-scan m counted over (low-over m) (tally 0 0 0) l)
    (also (low-breaching m (value_in s) is_reversed (low-owns m p b))
    (also (low-breaching m (value_in s) is_wide (low-owns m p b)) done))))))))

-- a tree and its events name tokens of its text
tree-low : (ks : List ℕ) (t : Tree prog) → G.KeepsGrammar ks t → Below (length ks) (ast t)
tree-low ks t k =
    let w : length ks ≡ width t + 1 = ap length k.tokens ∙ onto-length t (k_end ∷ []) in
    subst (λ (x : Tree prog). Below (length ks) (ast x)) (sym k.numbers) (numbered_below 0 (length ks) t (omega (arith, w)))

pub broken-low : (s : Source) (t : Tree prog) → G.KeepsGrammar s.kinds t → Lows (length s.kinds) (rules_of s (ast t))
unfolding events
broken-low s t k =
    let w : length s.kinds ≡ width t + 1 = ap length k.tokens ∙ onto-length t (k_end ∷ []) in
    let b = tree-low s.kinds t k in
    rules-low (length s.kinds) s (ast t) (omega (arith, w)) b (events-within (length s.kinds) 1 (ast t) b)
