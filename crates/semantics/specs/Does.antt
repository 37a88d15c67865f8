-- What a program does: the reduction rules of 002, Sect. 3, once, over any kind X of values, as a tree of what a run does. Rule by rule, with a word where document 01 changes one.
use Rattle.std.specs.Prelude.{ℕ, zero, suc, Bool, true, false, List, [], ◌∷◌, map, get_or, set, ℤ}
use Rattle.std.proofs.Math.Option.{Option, none, some}
use Rattle.semantics.specs.Int.{Op, Cmp}
use Rattle.semantics.specs.Program.{Window, Address, slot, Expr, number, name, op, call, Exprs, more, Cond, const, compare, and, or, Stmt, empty, declare, unknown, assign, eval, block, if, while, return, fail, Stmts, end, next, Program}

-- "It returns, fails or is cut." Before that it makes steps, asks for the value of a free declaration (a statement begun, so a step too), whose own pair it names if it has one, and asks for the outcome of a comparison, with what it does for each answer.
-- Where it reads a variable that holds nothing it is stuck: a state for which no rule of 002 applies.
pub data Does (X : Type 0) : Type 0 where
  returned : X → Does X
  failed cut stuck : Does X
  step : Does X → Does X
  free : Option Window → (X → Does X) → Does X
  test : Cmp → X → X → (Bool → Does X) → Does X

-- ---- the variables of a function that runs

-- A frame has a place for each of the function's declarations, at its address: 002's environment ρ maps a name to its declaration's address, once and for all, and the frame is the part of the state σ that the function can see.
-- A place holds a value, or none where σ has ⊥.
abbrev pub Frame : Type 0 → Type 0
Frame X = List (Option X)

-- for places that hold an A
module _ {A : Type 0} where
  -- σ(ρ(x)): what its place holds; d if there is no such place
  abbrev pub fetch : A → List A → Address → A
  fetch d f (slot i) = get_or f i d

  -- σ[ρ(x)/v]
  abbrev pub store : List A → Address → A → List A
  store f (slot i) v = set f i v

  -- n places: the first hold these, and the others d
  unfoldable pub frame : A → ℕ → List A → List A
  frame d zero vs = []
  frame d (suc n) [] = d ∷ frame d n []
  frame d (suc n) (v ∷ vs) = v ∷ frame d n vs

-- ---- the rules

-- `num` makes a value of a number, and `work` works an operation. Each part is told what is done next: `k` with the value, outcome or frame that it gives, `r` with the value that its function returns.
-- "A step is a statement begun, a while condition worked again, an arithmetic operation or comparison worked, or a call entered, that of main included. A unary minus is no step."
module _ {X : Type 0} (num : ℤ → X) (work : Op → X → X → X) where
  module _ (invoke : ℕ → List X → (X → Does X) → Does X) where
    unfoldable mutual
      pub expr : Expr → Frame X → (X → Does X) → Does X
      -- Con
      expr (number z) f k = k (num z)
      -- Var: it gives the value that the place holds
      expr (name a) f k = elim (fetch none f a) [ none ↦ stuck | some v ↦ k v ]
      -- AOp1 where both values are known, AOp2 where one is open: `work` tells them apart
      expr (op o a b) f k = expr a f λ x. expr b f λ y. step (k (work o x y))
      -- Invoke: the arguments, "left to right", then the function
      expr (call g es) f k = exprs es f λ vs. invoke g vs k

      pub exprs : Exprs → Frame X → (List X → Does X) → Does X
      exprs Exprs.none f k = k []
      exprs (more e es) f k = expr e f λ v. exprs es f λ vs. k (v ∷ vs)

    unfoldable pub cond : Cond → Frame X → (Bool → Does X) → Does X
    -- Con
    cond (const b) f k = k b
    -- AOp1 and AOp2, for comparisons. Which outcome is followed is asked here, where 002 leaves it to If and Wh: so the next rule can know it
    cond (compare c a b) f k = expr a f λ x. expr b f λ y. step (test c x y k)
    -- And1 and And2, changed: "The right side of `&&` is not touched where the left is false, nor that of `||` where the left is true. Rule And2 of 002 works the right side unless the left is known to be false; JLS decides."
    cond (and a b) f k = cond a f (elim [ true ↦ cond b f k | false ↦ k false ])
    cond (or a b) f k = cond a f (elim [ true ↦ k true | false ↦ cond b f k ])

    -- Wh from its second turn on: "a while condition worked again" is a step. The turns are counted down from the step limit, so that a run that needs more of them has been cut before.
    unfoldable pub loop : ℕ → (Frame X → (Frame X → Does X) → Does X) → Frame X → Does X
    loop zero turn f = cut
    loop (suc n) turn f = turn f λ g. step (loop n turn g)

    module _ (most : ℕ) where
      unfoldable mutual
        pub stmt : Stmt → Frame X → (Frame X → Does X) → (X → Does X) → Does X
        stmt empty f k r = step (k f)
        -- Decl: a fresh place, which holds nothing, each time it is reached
        stmt (declare a) f k r = step (k (store f a none))
        -- Free: a new unknown each time it is reached
        stmt (unknown a o) f k r = free o λ v. k (store f a (some v))
        -- Assign: 002 gives x a new address, so that an open value that names the old one stays as it was; here an open value names its unknowns, never a variable, and x keeps its address
        stmt (assign a e) f k r = step (expr e f λ v. k (store f a (some v)))
        stmt (eval e) f k r = step (expr e f λ v. k f)
        -- Block: its declarations end with it ("changes of the environment stay local"); what it assigned to a variable from outside stays, though 002's Assign, word for word, changes the environment too
        stmt (block ss) f k r = step (stmts ss f k r)
        -- If_t and If_f
        stmt (if c s t) f k r = step (cond c f (elim [ true ↦ stmt s f k r | false ↦ stmt t f k r ]))
        -- Wh_t and Wh_f
        stmt (while c s) f k r = step (loop most (λ g again. cond c g (elim [ true ↦ stmt s g again r | false ↦ k g ])) f)
        -- Ret: "`return` ends its function"
        stmt (return e) f k r = step (expr e f r)
        -- "`fail` ends the run"; 002 has no rule for it
        stmt fail f k r = step failed

        pub stmts : Stmts → Frame X → (Frame X → Does X) → (X → Does X) → Does X
        stmts end f k r = k f
        -- Seq; SeqFin is that a `return` in s goes on with r and not with the rest
        stmts (next s ss) f k r = stmt s f (λ g. stmts ss g k r) r

  -- Invoke: a call entered, with d calls left to nest. The body starts with a frame of its own, of 16 variables: the first hold the arguments, and the others nothing.
  -- (More variables are refused in a text, and so is a body that can reach its end.)
  unfoldable pub enter : ℕ → List Stmts → ℕ → ℕ → List X → (X → Does X) → Does X
  enter most p zero g vs k = cut
  enter most p (suc d) g vs k = step (stmts (enter most p d) most (get_or p g end) (frame none 16 (map some vs)) (λ f. failed) k)

  -- a program, in runs of at most `most` steps: main is called, and "a call nested deeper than 32 (main is 1)" is cut
  unfoldable pub does : ℕ → Program → Does X
  does most p = enter most p.bodies 32 p.main [] returned

-- ---- the limits

-- What is done within n steps and m free declarations. "Cut: the run would need a step beyond the limit, a ninth free declaration or a call nested deeper than 32 (main is 1). The step refused so is not made and not counted."
unfoldable pub within : {X : Type 0} → ℕ → ℕ → Does X → Does X
within n m (returned v) = returned v
within n m failed = failed
within n m cut = cut
within n m stuck = stuck
within zero m (step t) = cut
within (suc n) m (step t) = step (within n m t)
within zero m (free o k) = cut
within (suc n) zero (free o k) = cut
within (suc n) (suc m) (free o k) = free o λ v. within n m (k v)
within n m (test c a b k) = test c a b λ o. within n m (k o)

-- ---- what definite assignment is for

-- No run, whatever values are chosen and however its tests go, reads a variable that holds nothing.
unfoldable pub Sure : {X : Type 0} → Does X → Type 0
Sure (returned v) = Unit {0}
Sure failed = Unit {0}
Sure cut = Unit {0}
Sure stuck = ⊥
Sure (step t) = Sure t
Sure {X} (free o k) = (v : X) → Sure (k v)
Sure (test c a b k) = (o : Bool) → Sure (k o)
