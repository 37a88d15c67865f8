-- What the machine keeps to, whatever its code: the temporaries and callers held are at most as many as the steps made, at most 32 calls nest, every frame has 16 places, and a measure falls with each silent move.
use Prim.Native.Nat.{ℕ, zero, suc, ◌+◌, ◌-◌, ◌*◌, ◌≤◌, ◌<◌}
use mathlib.Core.Path.{◌≡◌, refl, ◌∙◌}
use mathlib.Core.Bool.{Bool, true, false}
use mathlib.Core.List.{List, [], ◌∷◌}
use native.Mathlib.Omega.{arith}
use native.Mathlib.Nat.{suc-mul, le_trans}
use native.Mathlib.Decide.{dec_lt}
use lib.ListN.{length, length-set, get_or-eq_default}
use lib.IntN.{ℤ}
use Rattle.semantics.specs.Int.{Op}
use Rattle.semantics.specs.Program.{Address, slot}
use Rattle.semantics.specs.Does.{store}
use Rattle.semantics.proofs.Frames.{length-frame}
use Rattle.simulation.specs.Code.{Leaf, Act, Entry, leaf, argument, act, Code}
use Rattle.simulation.specs.Machine.{Caller, Machine, Doing, Gathered, machine, before, landing, entry_at, popped, reading, taken, two, gather, entering, leaving, acting, working, advance, start}
use Rattle.simulation.specs.Measure.{silents}

module _ {X : Type 0} where
  -- the temporaries held by callers, and the callers
  abbrev pub held_by : List (Caller X) → ℕ
  held_by [] = 0
  held_by (r ∷ cs) = suc (length r.temps + held_by cs)

  abbrev pub held : Machine X → ℕ
  held m = length m.temps + held_by m.callers

  abbrev pub Framed : List (Caller X) → Type 0
  Framed [] = Unit {0}
  Framed (r ∷ cs) = (length r.frame ≡ 16) × Framed cs

  -- after n steps
  pub record Sound (n : ℕ) (m : Machine X) : Type 0 where
    pub few : held m ≤ n
    pub nested : m.left + length m.callers ≡ 32
    pub framed : length m.frame ≡ 16
    pub frames : Framed m.callers

  abbrev pub Sounds : ℕ → Doing X → Type 0
  Sounds n (Doing.silent m) = Sound n m
  Sounds n (Doing.step m) = Sound (suc n) m
  Sounds n (Doing.free x k) = (v : X) → Sound (suc n) (k v)
  Sounds n (Doing.test o a b k) = (r : Bool) → Sound (suc n) (k r)
  Sounds n (Doing.returned v) = Unit {0}
  Sounds n Doing.failed = Unit {0}
  Sounds n Doing.cut = Unit {0}

  length-store : (f : List X) (a : Address) (v : X) → length (store f a v) ≡ length f
  length-store f (slot i) v = length-set f i v

module _ {X : Type 0} (num : ℤ → X) (work : Op → X → X → X) (c : Code) where
  popped-le : (ts : List X) → length (popped num work c ts).rest ≤ length ts
  popped-le [] = omega arith
  popped-le (v ∷ ts) = omega arith

  reading-le : (f ts : List X) (x : Entry) → length (reading num work c f ts x).rest ≤ length ts
  reading-le f ts (leaf (Leaf.number z)) = omega arith
  reading-le f ts (leaf (Leaf.name a)) = omega arith
  reading-le f ts (argument d) = popped-le ts
  reading-le f ts (act a) = popped-le ts

  taken-le : (f ts : List X) (j : ℕ) → length (taken num work c f ts j).rest ≤ length ts
  taken-le f ts zero = popped-le ts
  taken-le f ts (suc r) = reading-le f ts (entry_at c r)

  two-le : (f ts : List X) (j d : ℕ) → length (two num work c f ts j d).rest ≤ length ts
  two-le f ts j d = le_trans (taken-le f (taken num work c f ts j).rest (j - d)) (taken-le f ts j)

  gather-le : (f ts : List X) (n j : ℕ) (vs : List X) → length (gather num work c f ts n j vs).rest ≤ length ts
  unfolding gather
  gather-le f ts zero j vs = omega arith
  gather-le f ts (suc n) j vs = le_trans (gather-le f (taken num work c f ts (before j)).rest n _ _) (taken-le f ts (before j))

  sound-leaving : (n d : ℕ) (cs : List (Caller X)) (v : X) (b : Bool) → held_by cs ≤ n → d + length cs ≡ 32 → Framed cs → Sounds n (leaving num work c cs v b d)
  sound-leaving n d [] v b few nested frames = tt
  sound-leaving n d (r ∷ cs) v b few nested frames = record { few = omega arith; nested = omega arith; framed = frames.0; frames = frames.1 }

  sound-entering : (n d i g : ℕ) (a : Gathered X) (b : Bool) (f : List X) (cs : List (Caller X)) → length a.rest + held_by cs ≤ n → d + length cs ≡ 32 → length f ≡ 16 → Framed cs → Sounds n (entering num work c d g a i b f cs)
  sound-entering n zero i g a b f cs few nested framed frames = tt
  sound-entering n (suc d) i g a b f cs few nested framed frames = record { few = omega arith; nested = omega arith; framed = length-frame _ 16 _; frames = (framed, frames) }

  module _ (n i : ℕ) (b : Bool) (ts f : List X) (cs : List (Caller X)) (d : ℕ) (s : Sound n (machine i b ts f cs d)) where
    sound-act : (a : Act) → Sounds n (acting num work c i b ts f cs d a)
    sound-act (Act.operate o m) = record { few = omega (arith, two-le f ts i m); nested = s.nested; framed = s.framed; frames = s.frames }
    sound-act (Act.compare o m) = λ r. record { few = omega (arith, two-le f ts i m); nested = s.nested; framed = s.framed; frames = s.frames }
    sound-act (Act.call g m) = sound-entering n d i g (gather num work c f ts m i []) b f cs (omega (arith, gather-le f ts m i [])) s.nested s.framed s.frames
    sound-act (Act.constant o) = record { few = s.few; nested = s.nested; framed = s.framed; frames = s.frames }
    sound-act (Act.jump o m) = record { few = s.few; nested = s.nested; framed = s.framed; frames = s.frames }
    sound-act (Act.skip m) = record { few = s.few; nested = s.nested; framed = s.framed; frames = s.frames }
    sound-act (Act.again m) = record { few = omega arith; nested = s.nested; framed = s.framed; frames = s.frames }
    sound-act Act.begin = record { few = omega arith; nested = s.nested; framed = s.framed; frames = s.frames }
    sound-act (Act.ask a) = λ v. record { few = omega arith; nested = s.nested; framed = length-store f a v ∙ s.framed; frames = s.frames }
    sound-act (Act.own a) = λ v. record { few = omega arith; nested = s.nested; framed = length-store f a v ∙ s.framed; frames = s.frames }
    sound-act (Act.store a) = record { few = omega (arith, taken-le f ts i); nested = s.nested; framed = length-store f a _ ∙ s.framed; frames = s.frames }
    sound-act Act.return = sound-leaving n d cs _ b (omega arith) s.nested s.frames
    sound-act Act.fail = tt

    sound-entry : (x : Entry) → Sounds n (working num work c i b ts f cs d x)
    sound-entry (leaf l) = record { few = s.few; nested = s.nested; framed = s.framed; frames = s.frames }
    sound-entry (argument m) = record { few = s.few; nested = s.nested; framed = s.framed; frames = s.frames }
    sound-entry (act a) = sound-act a

  pub sound-start : Sound 0 (start num work c)
  sound-start = record { few = omega arith; nested = refl; framed = length-frame _ 16 _; frames = tt }

  pub sound-advance : (n : ℕ) (m : Machine X) → Sound n m → Sounds n (advance num work c m)
  unfolding advance
  sound-advance n m s = sound-entry n m.pc m.flag m.temps m.frame m.callers m.left s (entry_at c m.pc)

  -- ---- silent moves

  -- the measure falls with a silent move
  abbrev pub Falls : ℕ → Doing X → Type 0
  Falls n (Doing.silent m) = silents c m < n
  Falls n (Doing.step m) = Unit {0}
  Falls n (Doing.free x k) = Unit {0}
  Falls n (Doing.test o a b k) = Unit {0}
  Falls n (Doing.returned v) = Unit {0}
  Falls n Doing.failed = Unit {0}
  Falls n Doing.cut = Unit {0}

  falls-leaving : (i d : ℕ) (b : Bool) (cs : List (Caller X)) (v : X) → Falls (length cs * suc (length c.entries) + (length c.entries - i)) (leaving num work c cs v b d)
  falls-leaving i d b [] v = tt
  falls-leaving i d b (r ∷ cs) v = omega (arith, suc-mul (length cs) (suc (length c.entries)))

  falls-entering : (m d i g : ℕ) (a : Gathered X) (b : Bool) (f : List X) (cs : List (Caller X)) → Falls m (entering num work c d g a i b f cs)
  falls-entering m zero i g a b f cs = tt
  falls-entering m (suc d) i g a b f cs = tt

  landing-gt : (o b : Bool) (m i : ℕ) → i ≤ landing o b m i
  landing-gt true true m i = omega arith
  landing-gt true false m i = omega arith
  landing-gt false true m i = omega arith
  landing-gt false false m i = omega arith

  module _ (i : ℕ) (b : Bool) (ts f : List X) (cs : List (Caller X)) (d : ℕ) (inside : i < length c.entries) where
    falls-act : (a : Act) → Falls (silents c (machine i b ts f cs d)) (acting num work c i b ts f cs d a)
    falls-act (Act.operate o m) = tt
    falls-act (Act.compare o m) = tt
    falls-act (Act.call g m) = falls-entering _ d i g (gather num work c f ts m i []) b f cs
    falls-act (Act.constant o) = omega arith
    falls-act (Act.jump o m) = omega (arith, landing-gt o b m (suc i))
    falls-act (Act.skip m) = omega arith
    falls-act (Act.again m) = tt
    falls-act Act.begin = tt
    falls-act (Act.ask a) = tt
    falls-act (Act.own a) = tt
    falls-act (Act.store a) = omega arith
    falls-act Act.return = falls-leaving i d b cs (taken num work c f ts i).value
    falls-act Act.fail = tt

    falls-entry : (x : Entry) → Falls (silents c (machine i b ts f cs d)) (working num work c i b ts f cs d x)
    falls-entry (leaf l) = omega arith
    falls-entry (argument m) = omega arith
    falls-entry (act a) = falls-act a

  pub silent-falls : (m : Machine X) → Falls (silents c m) (advance num work c m)
  unfolding advance
  silent-falls m = go (dec_lt m.pc (length c.entries))
    where
      go : Dec (m.pc < length c.entries) → Falls (silents c m) (working num work c m.pc m.flag m.temps m.frame m.callers m.left (entry_at c m.pc))
      go (yes h) = falls-entry m.pc m.flag m.temps m.frame m.callers m.left h (entry_at c m.pc)
      go (no h) = rw (get_or-eq_default c.entries (act Act.fail) {n = m.pc} (omega arith)) tt
