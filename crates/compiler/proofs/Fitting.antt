-- What the compiler asks of an accepted text, from the rules that the text keeps: the tree is sound, it has at most 16 functions, and there is room for its code.
use Rattle.std.proofs.Common.{◌≡◌, ℕ, suc, ◌+◌, ◌*◌, ◌<◌, ◌≤◌, Bool, not, List, [], ◌∷◌, ◌++◌, length, sym, refl, ap, subst, arith}
use lib.ListN.{length-map}
use Rattle.syntax.specs.Tree.{Tree, width, numbered}
use Rattle.syntax.specs.Tree as T
use Rattle.syntax.specs.Ast.{Sort, Ast, prog, low_first, low_number, high_number}
use Rattle.syntax.specs.Ast as A
use Rattle.syntax.specs.Abstract.{ast}
use Rattle.syntax.specs.Table.{node_words, Holds}
use Rattle.events.specs.Event.{Event, function, thing, opens, closes, ends, stops, closing, first, events_at, events}
use Rattle.events.specs.Walk.{Below}
use Rattle.events.proofs.Rising.{text-rises}
use Rattle.events.proofs.Tokens.{numbered_below}
use Rattle.text_rules.specs.Rules.{heads, miscalls, mainless, too_many}
use Rattle.text_rules.specs.Names.{bad_names, meant, meanings}
use Rattle.text_rules.specs.Own.{owns}
use Rattle.text_rules.specs.Resolve.{part, main_of, resolved}
use Rattle.semantics.specs.Program.{Stmts}
use Rattle.simulation.specs.Code.{Code, code_of}
use Rattle.simulation.specs.Words.{Fits}
use Rattle.simulation.specs.Placed.{Placed}
use Rattle.compiler.specs.Coded.{word, program}
use Rattle.compiler.specs.Sound.{Sound}
use Rattle.compiler.specs.Compile.{Tokens, Ready, Compiled}
use Rattle.compiler.proofs.Agreeing.{sound-same, part_same}
use Rattle.compiler.proofs.Lengths.{code-short}
use Rattle.compiler.proofs.Meanings.{AllGood, good}
use Rattle.compiler.proofs.Placing.{fits-program, placed-code}
use Rattle.simulation.proofs.Placed.{Upward}
use Rattle.text_rules.proofs.Pairs.{Each, each-front, each_back}
use Rattle.text_rules.proofs.Counts.{few-functions, main-lt}
use Rattle.text_rules.proofs.Programs.{functions, head_of, heads-are, bodies-are}

-- ---- own pairs that go upward

-- those of what is a statement or holds some; nothing else has any
abbrev Upwards : (value : ℕ → ℕ) (s : Sort) → Ast s → Type 0
Upwards value A.expr t = Unit {0}
Upwards value A.args t = Unit {0}
Upwards value A.mark t = Unit {0}
Upwards value A.cond t = Unit {0}
Upwards value A.params t = Unit {0}
Upwards value A.stmt t = Each Upward value (owns t)
Upwards value A.stmts t = Each Upward value (owns t)
Upwards value A.body t = Each Upward value (owns t)
Upwards value A.fun t = Each Upward value (owns t)
Upwards value A.prog t = Each Upward value (owns t)

-- ---- good events

module _ (means : ℕ → ℕ) where
  abbrev All : List Event → Type 0
  All es = AllGood means es

  front : (xs ys : List Event) → All (xs ++ ys) → All xs
  front [] ys h = tt
  front (x ∷ xs) ys h = (h.0, front xs ys h.1)

  back : (xs ys : List Event) → All (xs ++ ys) → All ys
  back [] ys h = h
  back (x ∷ xs) ys h = back xs ys h.1

  -- ---- a tree whose events are good is sound

  module _ (m : ℕ) (value : ℕ → ℕ) (small : (i : ℕ) → i < m → value i < 2147483648) where
    pub sound : {s : Sort} (d : ℕ) (t : Ast s) → Below m t → All (events_at d t) → Upwards value s t → Sound m value means t
    unfolding events_at Below Sound owns Each
    sound d (A.number i) w h y = (w, small i w)
    sound d (A.negative i) w h y = (w, small (i + 1) w)
    sound d (A.name i) w h y = (w, h.0)
    sound d (A.call i a) w h y = (w.0, h.0.0, h.0.1, sound (suc d) a w.1 h.1 tt)
    sound d (A.bracket i e) w h y = sound (suc d) e w.1 h.1 tt
    sound d (A.times o a b) w h y = (sound d a w.0 (front (events_at d a) (events_at d b) h) tt, sound d b w.1 (back (events_at d a) (events_at d b) h) tt)
    sound d (A.plus a b) w h y = (sound d a w.0 (front (events_at d a) (events_at d b) h) tt, sound d b w.1 (back (events_at d a) (events_at d b) h) tt)
    sound d (A.minus a b) w h y = (sound d a w.0 (front (events_at d a) (events_at d b) h) tt, sound d b w.1 (back (events_at d a) (events_at d b) h) tt)
    sound d A.no_args w h y = tt
    sound d (A.more_args l e) w h y = (sound d l w.0 (front (events_at d l) (thing d (first e) ∷ events_at d e) h) tt, sound d e w.1 (back (events_at d l) (thing d (first e) ∷ events_at d e) h).1 tt)
    sound d (A.cmp_mark o) w h y = tt
    sound d A.always w h y = tt
    sound d A.never w h y = tt
    sound d (A.compare a o b) w h y = (sound d a w.0 (front (events_at d a) (events_at d b) h) tt, sound d b w.1 (back (events_at d a) (events_at d b) h) tt)
    sound d (A.both a b) w h y = (sound d a w.0 (front (events_at d a) (events_at d b) h) tt, sound d b w.1 (back (events_at d a) (events_at d b) h) tt)
    sound d (A.either a b) w h y = (sound d a w.0 (front (events_at d a) (events_at d b) h) tt, sound d b w.1 (back (events_at d a) (events_at d b) h) tt)
    sound d (A.empty i) w h y = tt
    sound d (A.declare i) w h y = tt
    sound d (A.declare_free i) w h y = (w, h.1.0)
    sound d (A.declare_own i a b) w h y = (w, h.1.0, small (low_number (low_first i) a) (omega (arith, w)), small (high_number (low_first i) a b) w, y.0)
    sound d (A.assign i e) w h y = (w.0, h.1.0, sound d e w.1 h.1.1 tt)
    sound d (A.eval e) w h y = sound d e w h.1 tt
    sound d (A.block i b) w h y = sound (suc d) b w.1 h.1 y
    sound d (A.if_else i c s t) w h y =
        let xs = thing d i ∷ events_at d c in
        let ys = opens ∷ events_at (suc d) s in
        let zs = closes ∷ opens ∷ events_at (suc d) t in
        let u = front ((xs ++ ys) ++ zs) (closes ∷ []) h in
        let v = front (xs ++ ys) zs u in
        (sound d c w.1.0 (front xs ys v).1 tt, sound (suc d) s w.1.1.0 (back xs ys v).1 (each-front Upward value (owns s) (owns t) y), sound (suc d) t w.1.1.1 (back (xs ++ ys) zs u).1.1 (each_back Upward value (owns s) (owns t) y))
    sound d (A.while i c s) w h y =
        let xs = thing d i ∷ events_at d c in
        let ys = opens ∷ events_at (suc d) s in
        let u = front (xs ++ ys) (closes ∷ []) h in
        (sound d c w.1.0 (front xs ys u).1 tt, sound (suc d) s w.1.1 (back xs ys u).1 y)
    sound d (A.return i e) w h y = sound d e w.1 h.1 tt
    sound d (A.fail i) w h y = tt
    sound d A.no_stmts w h y = tt
    sound d (A.more_stmts l s) w h y = (sound d l w.0 (front (events_at d l) (events_at d s) h) (each-front Upward value (owns l) (owns s) y), sound d s w.1 (back (events_at d l) (events_at d s) h) (each_back Upward value (owns l) (owns s) y))
    sound d (A.braced l j) w h y = sound d l w.0 (front (opens ∷ events_at d l) (closes ∷ []) h).1 y
    sound d A.no_params w h y = tt
    sound d (A.more_params l i) w h y = tt
    sound d (A.function i p b) w h y =
        let xs = function i ∷ events_at d p in
        let u = front (xs ++ events_at d b) (ends (closing b) (not (stops b)) ∷ []) h in
        sound d b w.1.1 (back xs (events_at d b) u) y
    sound d A.no_funs w h y = tt
    sound d (A.more_funs l f) w h y = (sound d l w.0 (front (events_at d l) (events_at d f) h) (each-front Upward value (owns l) (owns f) y), sound d f w.1 (back (events_at d l) (events_at d f) h) (each_back Upward value (owns l) (owns f) y))

-- ---- a body for each function

pub functions-few : (value means : ℕ → ℕ) (p : Ast prog) → too_many (events p) ≡ [] → length (part value means p []) ≤ 16
functions-few value means p ten =
    omega (arith, ap length (bodies-are value means p), length-map (functions p) (part value means), ap length (heads-are p), length-map (functions p) head_of, few-functions (events p) ten)

-- ---- an accepted text

-- t: the tree of the text, numbered by its tokens; f: what its tokens meant before
module _ (same : ℕ → ℕ → Bool) (t : Tree T.prog) (f : ℕ → ℕ) where
  abbrev pub tree : Ast prog
  tree = ast t

  abbrev pub meaning_of : ℕ → ℕ
  meaning_of i = meant f (meanings same tree) i

  -- it keeps the rules 6, 7, 10 and 18
  pub record Keeps (value : ℕ → ℕ) : Type 0 where
    pub six : bad_names same tree ≡ []
    pub seven : miscalls same (events tree) ≡ []
    pub ten : too_many (events tree) ≡ []
    pub eighteen : Each Upward value (owns tree)

  pub accepted-below : (m : ℕ) → t ≡ numbered 0 t → width t ≤ m → Below m tree
  accepted-below m e h = subst (λ (u : Tree T.prog). Below m (ast u)) (sym e) (numbered_below 0 m t (omega arith))

  accepted-sound : (m : ℕ) → t ≡ numbered 0 t → Below m tree → (value : ℕ → ℕ) → ((i : ℕ) → i < m → value i < 2147483648) → Keeps value → Sound m value meaning_of tree
  unfolding events
  accepted-sound m e h value small k = sound meaning_of m value small 1 tree h (good same f tree (text-rises t e) k.six k.seven k.ten) k.eighteen

  -- the tree stands at node i, the slices hold the values and the meanings of the text's m tokens, and a code has room for an entry a token
  pub record Given (l : List ℕ) (i : ℕ) (values slots : List ℕ) (g m : ℕ) : Type 0 where
    pub holds : Holds l i tree
    pub room : node_words * i + node_words ≤ length l
    pub few : i < 65536
    pub tokens : Tokens m values slots
    pub numbers : t ≡ numbered 0 t
    pub wide : width t ≤ m
    pub small : (j : ℕ) → j < m → word values j < 2147483648
    pub agree : (j : ℕ) → j < m → word slots j ≡ meaning_of j
    pub main : g < 16
    pub space : 3 + width t ≤ 2052

  module _ {l : List ℕ} {i : ℕ} {values slots : List ℕ} {g m : ℕ} (given : Given l i values slots g m) (k : Keeps (word values)) where
    within : Below m tree
    within = accepted-below m given.numbers given.wide

    stands : Sound m (word values) (word slots) tree
    stands = sound-same m (word values) meaning_of (word values) (word slots) (record { at = λ j h. refl }) (record { at = λ j h. sym (given.agree j h) }) tree (accepted-sound m given.numbers within (word values) given.small k)

    size : length (code_of (program values slots g tree)).entries ≤ 3 + width t
    size = code-short (word values) (word slots) t g

    -- what the compiler asks
    pub accepted-ready : Ready l i values slots g
    accepted-ready = record {
      rooted = record { tree = tree; holds = given.holds; room = given.room; few = given.few };
      tokens = m;
      within = given.tokens;
      sound = stands;
      functions = functions-few (word values) (word slots) tree k.ten;
      main = given.main;
      space = omega (arith, size, given.space);
    }

    -- the program that is compiled is the resolved one
    pub accepted-program : (value : ℕ → ℕ) → ((j : ℕ) → j < m → word values j ≡ value j) → part (word values) (word slots) tree [] ≡ part value meaning_of tree []
    accepted-program value valued = part_same m (word values) (word slots) value meaning_of (record { at = valued }) (record { at = given.agree }) tree within []

    module _ {code : Code} (c : Compiled l i values slots g code) where
      fitting : Fits (program values slots g tree)
      fitting = fits-program m values slots g tree stands (functions-few (word values) (word slots) tree k.ten) given.main

      -- in the code that it makes the resolved program is placed
      pub accepted-placed : (value : ℕ → ℕ) → ((j : ℕ) → j < m → word values j ≡ value j) → (is_main : ℕ → Bool) → g ≡ main_of is_main (heads (events tree)) → Placed code (resolved value meaning_of is_main (heads (events tree)) tree)
      accepted-placed value valued is_main e =
          subst (λ (h : ℕ). Placed code (record { bodies = part value meaning_of tree []; main = h })) e
          (subst (λ (bs : List Stmts). Placed code (record { bodies = bs; main = g })) (accepted-program value valued)
          (placed-code tree given.holds fitting c))

  -- where rule 8 is kept too, main's number is below 16
  pub accepted-main : (is_main : ℕ → Bool) (end : ℕ) → mainless is_main end (events tree) ≡ [] → too_many (events tree) ≡ [] → main_of is_main (heads (events tree)) < 16
  accepted-main is_main end eight ten = omega (arith, main-lt is_main end (heads (events tree)) eight, few-functions (events tree) ten)
