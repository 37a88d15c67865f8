-- The machine: it works one entry of the code at a time, without recursion.
-- Only the results of operations and calls are kept among the temporaries, so that there are at most as many as steps were made.
use Rattle.std.specs.Prelude.{ℕ, zero, suc, ◌+◌, ◌-◌, Bool, true, false, List, [], ◌∷◌, get_or, ℤ, pos}
use Rattle.std.proofs.Math.Option.{Option, none, some}
use Rattle.semantics.specs.Int.{Op, Cmp}
use Rattle.semantics.specs.Program.{Window}
use Rattle.semantics.specs.Does.{fetch, store, frame}
use Rattle.semantics.specs.Search.{to, max_z}
use Rattle.simulation.specs.Code.{number, name, Act, Entry, leaf, argument, act, Code}

-- a call that waits: where it goes on, with its temporaries and its variables
pub record Caller (X : Type 0) : Type 0 where
  pub pc : ℕ
  pub temps : List X
  pub frame : List X

-- The machine's state, over any kind X of values.
pub record Machine (X : Type 0) : Type 0 where
  -- the entry to be worked next
  pub pc : ℕ
  -- the outcome of the last comparison or constant
  pub flag : Bool
  -- the temporaries of the function that runs: results of operations and calls that are still to be used, the newest first
  pub temps : List X
  -- its variables, which all hold a value; a declaration leaves its place as it is, for no run of an accepted text reads it before another is stored
  pub frame : List X
  -- the calls that wait for it, the newest first
  pub callers : List (Caller X)
  -- how many calls may still nest
  pub left : ℕ

-- What working one entry does: the machine goes on without a step, or after one; it asks for the value of a free declaration, with its own pair if it has one (a step); it asks for the outcome of a comparison (a step, then the comparison); or the run has ended.
pub data Doing (X : Type 0) : Type 0 where
  silent step : Machine X → Doing X
  free : Option Window → (X → Machine X) → Doing X
  test : Cmp → X → X → (Bool → Machine X) → Doing X
  returned : X → Doing X
  failed cut : Doing X

-- an operand, and the temporaries that are left
pub record Taken (X : Type 0) : Type 0 where
  pub value : X
  pub rest : List X

-- two operands, and the temporaries that are left
pub record Two (X : Type 0) : Type 0 where
  pub first : X
  pub second : X
  pub rest : List X

-- the arguments of a call, and the temporaries that are left
pub record Gathered (X : Type 0) : Type 0 where
  pub values : List X
  pub rest : List X

module _ {X : Type 0} where
  abbrev pub machine : ℕ → Bool → List X → List X → List (Caller X) → ℕ → Machine X
  machine i b ts f cs d = record { pc = i; flag = b; temps = ts; frame = f; callers = cs; left = d }

-- how many entries the argument has that ends here
abbrev pub extent : Entry → ℕ
extent (leaf l) = 0
extent (argument d) = d
extent (act a) = 0

-- the entry before
abbrev pub before : ℕ → ℕ
before zero = zero
before (suc j) = j

-- where a jump over d entries goes that is made if the flag is as said, from the entry i after it
abbrev pub landing : Bool → Bool → ℕ → ℕ → ℕ
landing true true d i = i + d
landing true false d i = i
landing false true d i = i
landing false false d i = i + d

-- the entry at i; beside the code the run fails
abbrev pub entry_at : Code → ℕ → Entry
entry_at c i = get_or c.entries i (act Act.fail)

-- the number that stands at an entry; 0 where none does
abbrev pub leaf_number : Entry → ℤ
leaf_number (leaf (number z)) = z
leaf_number (leaf (name a)) = pos 0
leaf_number (argument d) = pos 0
leaf_number (act a) = pos 0

-- the pair of the declaration at i that has its own, from the two entries before it; one the wrong way round has its low end alone
abbrev pub own_pair_of : Code → ℕ → Window
own_pair_of c i = to (leaf_number (entry_at c (i - 2))) (max_z (leaf_number (entry_at c (i - 2))) (leaf_number (entry_at c (i - 1))))

module _ {X : Type 0} (num : ℤ → X) (work : Op → X → X → X) (c : Code) where
  -- the newest temporary
  abbrev pub popped : List X → Taken X
  popped [] = record { value = num (pos 0); rest = [] }
  popped (v ∷ ts) = record { value = v; rest = ts }

  -- the operand whose code ends with this entry: a leaf is read, and any other has left its value as the newest temporary
  abbrev pub reading : List X → List X → Entry → Taken X
  reading f ts (leaf (number z)) = record { value = num z; rest = ts }
  reading f ts (leaf (name a)) = record { value = fetch (num (pos 0)) f a; rest = ts }
  reading f ts (argument d) = popped ts
  reading f ts (act a) = popped ts

  -- the operand that ends just before entry j
  abbrev pub taken : List X → List X → ℕ → Taken X
  taken f ts zero = popped ts
  taken f ts (suc r) = reading f ts (entry_at c r)

  -- two operands, the right one of which ends just before entry j and has d entries
  abbrev pub two : List X → List X → ℕ → ℕ → Two X
  two f ts j d = let r = taken f ts j in let l = taken f r.rest (j - d) in record { first = l.value; second = r.value; rest = l.rest }

  -- n arguments, the last of which ends just before entry j, in front of the arguments vs
  unfoldable pub gather : List X → List X → ℕ → ℕ → List X → Gathered X
  gather f ts zero j vs = record { values = vs; rest = ts }
  gather f ts (suc n) j vs = let r = taken f ts (before j) in gather f r.rest n (before j - extent (entry_at c (before j))) (r.value ∷ vs)

  -- a call entered, which is cut where no more calls may nest
  abbrev pub entering : ℕ → ℕ → Gathered X → ℕ → Bool → List X → List (Caller X) → Doing X
  entering zero g a i b f cs = Doing.cut
  entering (suc d) g a i b f cs = Doing.step (machine (get_or c.starts g 2) b [] (frame (num (pos 0)) 16 a.values) (record { pc = suc i; temps = a.rest; frame = f } ∷ cs) d)

  -- a function left with its value
  abbrev pub leaving : List (Caller X) → X → Bool → ℕ → Doing X
  leaving [] v b d = Doing.returned v
  leaving (r ∷ cs) v b d = Doing.silent (machine r.pc b (v ∷ r.temps) r.frame cs (suc d))

  module _ (i : ℕ) (b : Bool) (ts f : List X) (cs : List (Caller X)) (d : ℕ) where
    abbrev pub acting : Act → Doing X
    acting (Act.operate o n) = let t = two f ts i n in Doing.step (machine (suc i) b (work o t.first t.second ∷ t.rest) f cs d)
    acting (Act.compare o n) = let t = two f ts i n in Doing.test o t.first t.second (λ r. machine (suc i) r t.rest f cs d)
    acting (Act.call g n) = entering d g (gather f ts n i []) i b f cs
    acting (Act.constant o) = Doing.silent (machine (suc i) o ts f cs d)
    acting (Act.jump o n) = Doing.silent (machine (landing o b n (suc i)) b ts f cs d)
    acting (Act.skip n) = Doing.silent (machine (suc i + n) b ts f cs d)
    acting (Act.again n) = Doing.step (machine (i - n) b ts f cs d)
    acting Act.begin = Doing.step (machine (suc i) b ts f cs d)
    acting (Act.ask a) = Doing.free none (λ v. machine (suc i) b ts (store f a v) cs d)
    acting (Act.own a) = Doing.free (some (own_pair_of c i)) (λ v. machine (suc i) b ts (store f a v) cs d)
    acting (Act.store a) = let t = taken f ts i in Doing.silent (machine (suc i) b t.rest (store f a t.value) cs d)
    acting Act.return = leaving cs (taken f ts i).value b d
    acting Act.fail = Doing.failed

    abbrev pub working : Entry → Doing X
    working (leaf l) = Doing.silent (machine (suc i) b ts f cs d)
    working (argument n) = Doing.silent (machine (suc i) b ts f cs d)
    working (act a) = acting a

  -- one entry worked
  unfoldable pub advance : Machine X → Doing X
  advance m = working m.pc m.flag m.temps m.frame m.callers m.left (entry_at c m.pc)

  -- where a run starts
  abbrev pub start : Machine X
  start = machine 0 false [] (frame (num (pos 0)) 16 []) [] 32
