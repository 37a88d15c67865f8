-- The table of nodes: what is worked for all nodes in one pass is what the definitions say of the values that they stand for, and a table that grows keeps the values that it has.
use Prim.Native.Nat.{ℕ, zero, suc, ◌+◌, ◌<◌}
use mathlib.Core.Path.{◌≡◌, refl, sym, ap, ap₂, ◌∙◌, subst}
use mathlib.Core.Bool.{◌&&◌}
use mathlib.Core.Option.{Option, none, some}
use mathlib.Core.List.{List, [], ◌∷◌, ◌++◌, map, map-append, append-nil}
use native.Mathlib.Omega.{arith}
use lib.ListN.{get_or, length, length-append, get_or-eq_default, get_or-append, get_or-map}
use lib.Seq.{get_or_at}
use lib.IntN.{ℤ, pos}
use Rattle.semantics.specs.Int as int
use Rattle.semantics.specs.Int.{Op, holds}
use Rattle.semantics.specs.Program.{Window}
use Rattle.semantics.specs.Search as search
use Rattle.semantics.specs.Search.{Value, known, open', work, under, range, meets, to, all32, span, fitted}
use Rattle.simulation.specs.Nodes.{Cell, Known, Open, Node, unknown, operation, cell, node, pass, values, meaning, ranges, range_in, numbers, number_in, Within, working, Noted, test_of, meets_in}

-- ---- a pass

module _ {A : Type 0} (num : ℤ → A) (free : ℕ → A) (op : Op → A → A → A) where
  pass-append : (l : List A) (ms ns : List Node) → pass num free op l (ms ++ ns) ≡ pass num free op (pass num free op l ms) ns
  unfolding pass
  pass-append l [] ns = refl
  pass-append l (m ∷ ms) ns = pass-append (l ++ node num free op l m ∷ []) ms ns

  -- the table with one more node: nothing is worked anew but the new one
  pass-last : (ns : List Node) (n : Node) → pass num free op [] (ns ++ n ∷ []) ≡ pass num free op [] ns ++ node num free op (pass num free op [] ns) n ∷ []
  unfolding pass
  pass-last ns n = pass-append [] ns (n ∷ [])

  length-pass : (l : List A) (ns : List Node) → length (pass num free op l ns) ≡ length l + length ns
  unfolding pass
  length-pass l [] = omega arith
  length-pass l (n ∷ ns) = length-pass (l ++ node num free op l n ∷ []) ns ∙ omega (arith, length-append l (node num free op l n ∷ []))

  pass_kept : (l : List A) (ns : List Node) (j : ℕ) (d : A) → j < length l → get_or (pass num free op l ns) j d ≡ get_or l j d
  unfolding pass
  pass_kept l [] j d h = refl
  pass_kept l (n ∷ ns) j d h = pass_kept (l ++ node num free op l n ∷ []) ns j d (omega (arith, length-append l (node num free op l n ∷ []))) ∙ get_or-append l _ d j h

  -- what holds of every node's work, and of the default where there is no node, holds at each place
  pass-at : (P : Option Node → A → Type 0) (d : A) → ((l : List A) (n : Node) → P (some n) (node num free op l n)) → P none d → (l : List A) (ns : List Node) (j : ℕ)
      → P (get_or (map some ns) j none) (get_or (pass num free op l ns) (length l + j) d)
  unfolding pass
  pass-at P d f g l [] j = subst (P none) (sym (get_or-eq_default l d (omega arith))) g
  pass-at P d f g l (n ∷ ns) zero =
      subst (P (some n)) (sym (pass_kept (l ++ node num free op l n ∷ []) ns (length l + zero) d (omega (arith, length-append l (node num free op l n ∷ []))) ∙ get_or_at l (node num free op l n) [] d (length l + zero) (omega arith))) (f l n)
  pass-at P d f g l (n ∷ ns) (suc j) =
      subst (λ k. P (get_or (map some ns) j none) (get_or (pass num free op (l ++ node num free op l n ∷ []) ns) k d)) (omega (arith, length-append l (node num free op l n ∷ []))) (pass-at P d f g (l ++ node num free op l n ∷ []) ns j)

-- the free variables of the nodes alone matter
abbrev pub Each : (ℕ → Type 0) → List Node → Type 0
Each P [] = Unit {0}
Each P (unknown i ∷ ns) = P i × Each P ns
Each P (operation o a b ∷ ns) = Each P ns

pass-free : {A : Type 0} (num : ℤ → A) (free free₂ : ℕ → A) (op : Op → A → A → A) (l : List A) (ns : List Node) → Each (λ i. free i ≡ free₂ i) ns → pass num free op l ns ≡ pass num free₂ op l ns
unfolding pass
pass-free num free free₂ op l [] h = refl
pass-free num free free₂ op l (unknown i ∷ ns) h = ap (λ x. pass num free op (l ++ x ∷ []) ns) h.0 ∙ pass-free num free free₂ op (l ++ free₂ i ∷ []) ns h.1
pass-free num free free₂ op l (operation o a b ∷ ns) h = pass-free num free free₂ op (l ++ op o (cell num free op l a) (cell num free op l b) ∷ []) ns h

-- ---- one law for all that is worked by a pass

module _ {B : Type 0} (num : ℤ → B) (free : ℕ → B) (op : Op → B → B → B) (h : Value → B) (hn : (z : ℤ) → h (known z) ≡ num z) (hf : (i : ℕ) → h (search.unknown i) ≡ free i)
    (ho : (o : Op) (a b : Value) → h (open' o a b) ≡ op o (h a) (h b)) where
  cell-map : (l : List Value) (v : Cell) → h (cell known search.unknown open' l v) ≡ cell num free op (map h l) v
  cell-map l (Known z) = hn z
  cell-map l (Open j) = sym (get_or-map h l j (known (pos 0))) ∙ ap (λ d. get_or (map h l) j d) (hn (pos 0))

  node-map : (l : List Value) (n : Node) → h (node known search.unknown open' l n) ≡ node num free op (map h l) n
  node-map l (unknown i) = hf i
  node-map l (operation o a b) = ho o _ _ ∙ ap₂ (op o) (cell-map l a) (cell-map l b)

  pass-map : (l : List Value) (ns : List Node) → map h (pass known search.unknown open' l ns) ≡ pass num free op (map h l) ns
  unfolding pass
  pass-map l [] = refl
  pass-map l (n ∷ ns) =
      pass-map (l ++ node known search.unknown open' l n ∷ []) ns
      ∙ ap (λ x. pass num free op x ns) (map-append h l (node known search.unknown open' l n ∷ []) ∙ ap (λ x. map h l ++ x ∷ []) (node-map l n))

-- ---- ranges

range-num : (ws : List Window) (z : ℤ) → range ws (known z) ≡ to z z
unfolding range
range-num ws z = refl

range-free : (ws : List Window) (i : ℕ) → range ws (search.unknown i) ≡ get_or ws i all32
unfolding range
range-free ws i = refl

range-op : (ws : List Window) (o : Op) (a b : Value) → range ws (open' o a b) ≡ fitted (span o (range ws a) (range ws b))
unfolding range
range-op ws o a b = refl

-- the table of ranges holds the range of each node's value
ranges-ok : (ws : List Window) (ns : List Node) → ranges ws ns ≡ map (range ws) (values ns)
unfolding ranges values
ranges-ok ws ns = sym (pass-map _ _ _ (range ws) (range-num ws) (range-free ws) (range-op ws) [] ns)

range-in : (ws rs : List Window) (vs : List Value) (v : Cell) → rs ≡ map (range ws) vs → range_in rs v ≡ range ws (cell known search.unknown open' vs v)
range-in ws rs vs (Known z) e = sym (range-num ws z)
range-in ws rs vs (Open j) e = ap (λ l. get_or l j (to (pos 0) (pos 0))) e ∙ ap (λ d. get_or (map (range ws) vs) j d) (sym (range-num ws (pos 0))) ∙ get_or-map (range ws) vs j (known (pos 0))

pub range-ok : (ws : List Window) (ns : List Node) (v : Cell) → range_in (ranges ws ns) v ≡ range ws (meaning ns v)
unfolding meaning
range-ok ws ns v = range-in ws (ranges ws ns) (values ns) v (ranges-ok ws ns)

-- a new node's range is worked from those before it, and a new window changes none
pub ranges-last : (ws : List Window) (ns : List Node) (n : Node) → ranges ws (ns ++ n ∷ []) ≡ ranges ws ns ++ node (λ z. to z z) (λ i. get_or ws i all32) (λ o v w. fitted (span o v w)) (ranges ws ns) n ∷ []
unfolding ranges
ranges-last ws ns n = pass-last _ _ _ ns n

pub ranges-window : (ws : List Window) (w : Window) (ns : List Node) → Each (λ i. i < length ws) ns → ranges (ws ++ w ∷ []) ns ≡ ranges ws ns
unfolding ranges
ranges-window ws w ns h = pass-free _ _ _ _ [] ns (each ns h)
  where
    each : (ns : List Node) → Each (λ i. i < length ws) ns → Each (λ i. get_or (ws ++ w ∷ []) i all32 ≡ get_or ws i all32) ns
    each [] h = tt
    each (unknown i ∷ ns) h = (get_or-append ws (w ∷ []) all32 i h.0, each ns h.1)
    each (operation o a b ∷ ns) h = each ns h

-- ---- settings

under-num : (s : List ℤ) (z : ℤ) → under s (known z) ≡ z
unfolding under
under-num s z = refl

under-free : (s : List ℤ) (i : ℕ) → under s (search.unknown i) ≡ get_or s i (pos 0)
unfolding under
under-free s i = refl

under-op : (s : List ℤ) (o : Op) (a b : Value) → under s (open' o a b) ≡ int.arith o (under s a) (under s b)
unfolding under
under-op s o a b = refl

-- one pass says what each node is under a setting
numbers-ok : (s : List ℤ) (ns : List Node) → numbers s ns ≡ map (under s) (values ns)
unfolding numbers values
numbers-ok s ns = sym (pass-map _ _ _ (under s) (under-num s) (under-free s) (under-op s) [] ns)

pub numbers-last : (s : List ℤ) (ns : List Node) (n : Node) → numbers s (ns ++ n ∷ []) ≡ numbers s ns ++ node (λ z. z) (λ i. get_or s i (pos 0)) int.arith (numbers s ns) n ∷ []
unfolding numbers
numbers-last s ns n = pass-last _ _ _ ns n

number-in : (s zs : List ℤ) (vs : List Value) (v : Cell) → zs ≡ map (under s) vs → number_in zs v ≡ under s (cell known search.unknown open' vs v)
number-in s zs vs (Known z) e = sym (under-num s z)
number-in s zs vs (Open j) e = ap (λ l. get_or l j (pos 0)) e ∙ ap (λ d. get_or (map (under s) vs) j d) (sym (under-num s (pos 0))) ∙ get_or-map (under s) vs j (known (pos 0))

pub number_ok : (s : List ℤ) (ns : List Node) (v : Cell) → number_in (numbers s ns) v ≡ under s (meaning ns v)
unfolding meaning
number_ok s ns v = number-in s (numbers s ns) (values ns) v (numbers-ok s ns)

pub meets-ok : (s : List ℤ) (ns : List Node) (ts : List Noted) → meets_in (numbers s ns) ts ≡ meets (map (test_of ns) ts) s
unfolding meets_in meets
meets-ok s ns [] = refl
meets-ok s ns (t ∷ ts) = ap₂ ◌&&◌ (ap₂ (holds t.compare) (number_ok s ns t.left) (number_ok s ns t.right)) (meets-ok s ns ts)

-- ---- the table grows

pub meaning-grows : (ns ms : List Node) (v : Cell) → Within (length ns) v → meaning (ns ++ ms) v ≡ meaning ns v
unfolding meaning values
meaning-grows ns ms (Known z) h = refl
meaning-grows ns ms (Open j) h =
    ap (λ l. get_or l j (known (pos 0))) (pass-append known search.unknown open' [] ns ms)
    ∙ pass_kept known search.unknown open' (values ns) ms j (known (pos 0)) (subst (λ k. j < k) (sym (length-pass known search.unknown open' [] ns ∙ omega arith)) h)

pub adding-ok : (ns : List Node) (n : Node) → meaning (ns ++ n ∷ []) (Open (length ns)) ≡ node known search.unknown open' (values ns) n
unfolding meaning values
adding-ok ns n =
    ap (λ l. get_or l (length ns) (known (pos 0))) (pass-last known search.unknown open' ns n)
    ∙ get_or_at (values ns) (node known search.unknown open' (values ns) n) [] (known (pos 0)) (length ns) (length-pass known search.unknown open' [] ns ∙ omega arith)

-- a node stands for an open value
abbrev pub IsOpen : Value → Type 0
IsOpen (known z) = ⊥
IsOpen (search.unknown i) = Unit {0}
IsOpen (open' o a b) = Unit {0}

abbrev OpenAt : Option Node → Value → Type 0
OpenAt none v = Unit {0}
OpenAt (some n) v = IsOpen v

node-open : (l : List Value) (n : Node) → IsOpen (node known search.unknown open' l n)
node-open l (unknown i) = tt
node-open l (operation o a b) = tt

there : (ns : List Node) (j : ℕ) → j < length ns → (v : Value) → OpenAt (get_or (map some ns) j none) v → IsOpen v
there [] j h v o = absurd (omega arith)
there (n ∷ ns) zero h v o = o
there (n ∷ ns) (suc j) h v o = there ns j (omega arith) v o

pub meaning-open : (ns : List Node) (j : ℕ) → j < length ns → IsOpen (meaning ns (Open j))
unfolding meaning values
meaning-open ns j h = there ns j h _ (subst (λ k. OpenAt (get_or (map some ns) j none) (get_or (values ns) k (known (pos 0)))) (omega arith) (pass-at known search.unknown open' OpenAt (known (pos 0)) node-open tt [] ns j))

work-left : (o : Op) (a b : Value) → IsOpen a → work o a b ≡ open' o a b
unfolding work
work-left o (known z) b h = absurd h
work-left o (search.unknown i) b h = refl
work-left o (open' p x y) b h = refl

work-right : (o : Op) (z : ℤ) (b : Value) → IsOpen b → work o (known z) b ≡ open' o (known z) b
unfolding work
work-right o z (known y) h = absurd h
work-right o z (search.unknown i) h = refl
work-right o z (open' p x y) h = refl

-- an operation on cells is the operation on their values
pub working-ok : (o : Op) (a b : Cell) (ns : List Node) → Within (length ns) a → Within (length ns) b → meaning (working o a b ns).nodes (working o a b ns).cell ≡ work o (meaning ns a) (meaning ns b)
unfolding working work meaning
working-ok o (Known x) (Known y) ns p q = refl
working-ok o (Known x) (Open j) ns p q = adding-ok ns (operation o (Known x) (Open j)) ∙ sym (work-right o x (meaning ns (Open j)) (meaning-open ns j q))
working-ok o (Open i) b ns p q = adding-ok ns (operation o (Open i) b) ∙ sym (work-left o (meaning ns (Open i)) (meaning ns b) (meaning-open ns i p))

-- it adds at most one node, whose operands stand before it, and the cell is within the table
pub record Grown (ns : List Node) (v : Cell) (ms : List Node) : Type 0 where
  pub more : List Node
  pub is : ms ≡ ns ++ more
  pub one : length more < 2
  pub within : Within (length ms) v

pub working-grows : (o : Op) (a b : Cell) (ns : List Node) → Grown ns (working o a b ns).cell (working o a b ns).nodes
unfolding working
working-grows o (Known x) (Known y) ns = record { more = []; is = sym (append-nil ns); one = omega arith; within = tt }
working-grows o (Known x) (Open j) ns = record { more = operation o (Known x) (Open j) ∷ []; is = refl; one = omega arith; within = omega (arith, length-append ns (operation o (Known x) (Open j) ∷ [])) }
working-grows o (Open i) b ns = record { more = operation o (Open i) b ∷ []; is = refl; one = omega arith; within = omega (arith, length-append ns (operation o (Open i) b ∷ [])) }
