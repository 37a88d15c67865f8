-- The next frame: blank, then with the arguments of a call; and the call.
use mathlib.Core.Path.{◌≡◌, refl, sym, ap, ap₂, ◌∙◌, subst, subst₂}
use mathlib.Core.List.{List, [], ◌∷◌, ◌++◌, map}
use mathlib.Core.Logic.{⊎_elim, ◌≢◌}
use Prim.Native.Nat.{ℕ, zero, suc, ◌+◌, ◌-◌, ◌*◌, ◌≤◌, ◌<◌}
use native.Mathlib.Omega.{arith}
use lib.ListN.{length, get_or, set, replicate, length-set, get_or-eq_default}
use lib.Seq.{get_or-set_same, get_or-set_other}
use lib.IntN.{pos}
use Rattle.semantics.specs.Does.{frame}
use Rattle.semantics.specs.Search as search
use Rattle.semantics.specs.Search.{known}
use Rattle.simulation.specs.Code.{Code, act, Act}
use Rattle.simulation.specs.Machine.{machine, Doing, extent, before, gather, entering}
use Rattle.simulation.specs.Nodes as nodes
use Rattle.simulation.specs.Nodes.{Cell, Within, meaning}
use Rattle.code.specs.Meaning.{as_entry}
use Rattle.code.specs.declared.Entry as C
use Rattle.machine.specs.Layout.{frame_cells, frame_words, frame_place, variable_place, cell_place, caller_place, caller_base}
use Rattle.machine.specs.Memory.{Sym, cell_read_as, cell_at, nodes_in, cells, temps, frame_at, callers}
use Rattle.machine.specs.Terms.{cell_of, Stacked, Ready, Other, Kept, Put, Reads, Taking, Blank, topped, Gathering, Goes, acts}
use Rattle.machine.specs.declared.Value.{Value}
use Rattle.machine.specs.declared.Run.{Run}
use Rattle.machine.proofs.Tables.{Same, nodes-kept, frame-cell, temp-cell, stacked-same, frame_same, temps-same, callers-same, room-same}
use Rattle.machine.proofs.Stays.{three, topped-ready, kept_then, kept_low, held_stays, framed-stays, temps-stay, frame-stays, callers-stay, cells-set}
use Rattle.machine.proofs.Moves.{reads}

-- ---- a blank frame

pub zero-cells : (f : Cell → Sym) → Reads f → (m : List ℕ) (i k : ℕ) → ((j : ℕ) → j < k → cell_at m (i + 2 * j) ≡ nodes.Known (pos 0)) → frame (known (pos 0)) k [] ≡ cells f m i k
unfolding frame cells
zero-cells f g m i zero h = refl
zero-cells f g m i (suc k) h =
    ap₂ (λ x l. x ∷ l) (sym (g (pos 0)) ∙ ap f (sym (h 0 (omega arith)) ∙ ap (cell_at m) {x = i + 2 * 0} {y = i} (omega arith)))
    (zero-cells f g m (i + 2) k (λ j l. ap (cell_at m) {x = i + 2 + 2 * j} {y = i + 2 * suc j} (omega arith) ∙ h (suc j) (omega arith)))

-- ---- how long an argument is

module _ (c : Code) (e : ℕ) where
  pub extent-is : (x : C.Entry) (d : ℕ) → as_entry x ≡ get_or c.entries e (act Act.fail) → d ≡ extent (as_entry x) → d ≡ extent (get_or c.entries e (act Act.fail))
  extent-is x d q p = p ∙ ap extent q

  pub extent-out : length c.entries ≤ e → 0 ≡ extent (get_or c.entries e (act Act.fail))
  extent-out h = sym (ap extent (get_or-eq_default c.entries (act Act.fail) {n = e} h))

-- ---- arguments

frame-zeros : (d : Sym) (w k : ℕ) → frame d w (replicate k d ++ []) ≡ frame d w []
unfolding frame
frame-zeros d zero k = refl
frame-zeros d (suc w) zero = refl
frame-zeros d (suc w) (suc k) = ap (λ l. d ∷ l) (frame-zeros d w k)

frame_past : (d v : Sym) (w k : ℕ) (vs : List Sym) → w ≤ k → frame d w (replicate k d ++ (v ∷ vs)) ≡ frame d w (replicate (suc k) d ++ vs)
unfolding frame
frame_past d v zero k vs h = refl
frame_past d v (suc w) zero vs h = absurd (omega arith)
frame_past d v (suc w) (suc k) vs h = ap (λ l. d ∷ l) (frame_past d v w k vs (omega arith))

frame-one : (d v : Sym) (w k : ℕ) (vs : List Sym) → k < w → frame d w (replicate k d ++ (v ∷ vs)) ≡ set (frame d w (replicate (suc k) d ++ vs)) k v
unfolding frame
frame-one d v zero k vs h = absurd (omega arith)
frame-one d v (suc w) zero vs h = refl
frame-one d v (suc w) (suc k) vs h = ap (λ l. d ∷ l) (frame-one d v w k vs (omega arith))

before-is : (j : ℕ) → before j ≡ j - 1
before-is zero = omega arith
before-is (suc j) = omega arith

-- the next frame is written, and the rest stays
module _ (m m₂ : List ℕ) (r : Run) (ready : Ready m r) (deep : r.depth < 32) (len : length m₂ ≡ length m) (o : Other m m₂ (frame_place (r.depth + 1)) (frame_place (r.depth + 1) + frame_words)) where
  same_next : Same m m₂ (r.depth + 1) r.depth r.top r.nodes
  same_next = record {
    d-fits = omega arith;
    c-fits = omega arith;
    frames = λ k g. o.outside k (λ x y. omega arith);
    saved = λ k g h. o.outside k (λ x y. omega arith);
    held = λ k j h g i. o.outside k (λ x y. omega arith);
  }

  ready-next : Ready m₂ r
  ready-next = record {
    deep = ready.deep;
    low = ready.low;
    tops = room-same len ready.tops;
    few = room-same len ready.few;
    stack = stacked-same same_next r.depth r.base (omega arith) ready.stack;
    framed = λ i l. framed-stays m m₂ r (r.depth + 1) r.top r.nodes same_next ready (omega arith) (omega arith) i (omega arith) l;
    held = λ i l. held_stays m m₂ r (r.depth + 1) r.top r.nodes same_next ready (omega arith) (omega arith) i l;
  }

  module _ (f : Cell → Sym) where
    frame-next : frame_at f m r.depth ≡ frame_at f m₂ r.depth
    frame-next = frame-stays m m₂ r (r.depth + 1) r.top r.nodes same_next ready (omega arith) (omega arith) f f (λ v h. refl) (omega arith)

    temps-next : temps f m r.base (r.top - r.base) ≡ temps f m₂ r.base (r.top - r.base)
    temps-next = temps-stay m m₂ r (r.depth + 1) r.top r.nodes same_next ready (omega arith) (omega arith) f f (λ v h. refl) r.top ready.low (omega arith)

    callers-next : callers f m r.depth r.base ≡ callers f m₂ r.depth r.base
    callers-next = callers-stay m m₂ r (r.depth + 1) r.top r.nodes same_next ready (omega arith) (omega arith) f f (λ v h. refl) (omega arith) ready.low

module _ (c : Code) (m : List ℕ) (r : Run) (n : ℕ) (deep : r.depth < 32) where
  abbrev next-at : ℕ
  next-at = frame_place (r.depth + 1)

  -- none was taken, and the frame is blank
  pub gathering-none : (m₂ : List ℕ) → Ready m r → length m₂ ≡ length m → Blank m m₂ next-at frame_cells → Gathering c m₂ m₂ r n n r.pc r.top
  gathering-none m₂ ready len b = record {
    values = [];
    is = λ f g. refl;
    framed = λ f g. frame-zeros (known (pos 0)) 16 n ∙ zero-cells f g m₂ next-at frame_cells (λ k l. b.cell k l);
    ready = ready-next m m₂ r ready deep len b.other;
    high = omega arith;
    other = record { outside = λ k l. refl };
    within = λ i l. subst (Within r.nodes) (sym (b.cell i l)) tt;
  }

  -- all were taken
  pub gathering-all : (m₁ m₂ : List ℕ) (j top : ℕ) → Ready m r → length m₁ ≡ length m → Blank m m₁ next-at frame_cells → Gathering c m₁ m₂ r n 0 j top → Gathering c m m₂ r n 0 0 top
  unfolding gather
  gathering-all m₁ m₂ j top ready len b g = record {
    values = g.values;
    is = λ f u. ap₂ (λ x ts. gather known search.work c x ts n r.pc []) (frame-next m m₁ r ready deep len b.other f) (temps-next m m₁ r ready deep len b.other f) ∙ g.is f u;
    framed = g.framed;
    ready = g.ready;
    high = g.high;
    other = record { outside = λ k l. g.other.outside k l ∙ b.other.outside k l };
    within = g.within;
  }

  -- one argument more
  module _ (m₁ m₂ : List ℕ) (k j top : ℕ) (g : Gathering c m m₁ r n (suc k) j top) (v : Value) (top₂ : ℕ) (t : Taking c m₁ (topped r top) (before j) v top₂) where
    gather-one : (f : Cell → Sym) → Reads f → (d : ℕ) → d ≡ extent (get_or c.entries (before j) (act Act.fail))
        → gather known search.work c (frame_at f m₁ r.depth) (temps f m₁ r.base (top - r.base)) (suc k) j (map f g.values)
        ≡ gather known search.work c (frame_at f m₁ r.depth) (temps f m₁ r.base (top₂ - r.base)) k (before j - d) (f (cell_of v) ∷ map f g.values)
    unfolding gather
    gather-one f h d e = ap (λ u. gather known search.work c (frame_at f m₁ r.depth) u.rest k (before j - extent (get_or c.entries (before j) (act Act.fail)))
        (u.value ∷ map f g.values)) (t.is f h)
        ∙ ap (λ d. gather known search.work c (frame_at f m₁ r.depth) (temps f m₁ r.base (top₂ - r.base)) k (before j - d) (f (cell_of v) ∷ map f g.values)) (sym e)

    ready₁ : Ready m₁ (topped r top₂)
    ready₁ = topped-ready m₁ (topped r top) top₂ g.ready t.low t.high

    -- past the frame
    gathering-past : (d : ℕ) → d ≡ extent (get_or c.entries (before j) (act Act.fail)) → 16 ≤ k → Gathering c m m₁ r n k (before j - d) top₂
    gathering-past d e h = record {
      values = cell_of v ∷ g.values;
      is = λ f u. g.is f u ∙ gather-one f u d e;
      framed = λ f u. frame_past (known (pos 0)) (f (cell_of v)) 16 k (map f g.values) h ∙ g.framed f u;
      ready = ready₁;
      high = omega (arith, t.high, g.high);
      other = g.other;
      within = g.within;
    }

    -- into its cell
    gathering-one : (d : ℕ) → d ≡ extent (get_or c.entries (before j) (act Act.fail)) → k < 16 → length m₂ ≡ length m₁ → Put m₁ m₂ (next-at + 2 * k) (cell_of v)
        → Gathering c m m₂ r n k (before j - d) top₂
    gathering-one d e h len p = record {
      values = cell_of v ∷ g.values;
      is = λ f u. g.is f u ∙ gather-one f u d e ∙ ap₂ (λ x ts. gather known search.work c x ts k (before j - d) (f (cell_of v) ∷ map f g.values))
          (frame-next m₁ m₂ (topped r top₂) ready₁ deep len o f) (temps-next m₁ m₂ (topped r top₂) ready₁ deep len o f);
      framed = λ f u. frame-one (known (pos 0)) (f (cell_of v)) 16 k (map f g.values) h
          ∙ ap (λ l. set l k (f (cell_of v))) (g.framed f u)
          ∙ cells-set m₁ m₂ r.nodes f f (λ v h. refl) (cell_of v) next-at frame_cells k h p.cell apart g.within;
      ready = ready-next m₁ m₂ (topped r top₂) ready₁ deep len o;
      high = omega (arith, t.high, g.high);
      other = record { outside = λ i l. o.outside i l ∙ g.other.outside i l };
      within = λ i l. ⊎_elim (λ e. subst (Within r.nodes) (sym p.cell ∙ ap (λ i. cell_at m₂ (next-at + 2 * i)) (sym e)) t.within)
          (λ b. subst (Within r.nodes) (sym (apart i l (⊎_elim (λ x e. omega arith) (λ x e. omega arith) b))) (g.within i l))
          (three i k);
    }
      where
        o : Other m₁ m₂ next-at (next-at + frame_words)
        o = record { outside = λ i l. p.other.outside i (λ x y. l (omega arith) (omega arith)) }

        apart : (i : ℕ) → i < 16 → i ≢ k → cell_at m₂ (next-at + 2 * i) ≡ cell_at m₁ (next-at + 2 * i)
        apart i l z = ap₂ cell_read_as (p.other.outside (next-at + 2 * i) (λ x y. z (omega arith))) (p.other.outside (next-at + 2 * i + 1) (λ x y. z (omega arith)))

  -- a turn of the loop
  module _ (m₁ : List ℕ) (e : ℕ) (v : Value) (top top₂ d j₂ : ℕ) (t : Taking c m₁ (topped r top) e v top₂) (de : d ≡ extent (get_or c.entries e (act Act.fail))) (je : j₂ ≡ e - d) where
    at_before : (j : ℕ) → e ≡ j - 1 → before j ≡ e
    at_before j q = before-is j ∙ sym q

    pub gathering-turn : (m₂ : List ℕ) (k j : ℕ) → 0 < k → e ≡ j - 1 → Gathering c m m₁ r n k j top → k - 1 < 16 → length m₂ ≡ length m₁ → Put m₁ m₂ (next-at + 2 * (k - 1)) (cell_of v)
        → Gathering c m m₂ r n (k - 1) j₂ top₂
    gathering-turn m₂ zero j z q g h len p = absurd (omega arith)
    gathering-turn m₂ (suc k) j z q g h len p =
        let b = at_before j q in
        subst₂ (λ (a u : ℕ). Gathering c m m₂ r n a u top₂) {x = k} {y = suc k - 1} (omega arith) (ap (λ (x : ℕ). x - d) b ∙ sym je)
        (gathering-one m₁ m₂ k j top g v top₂ (subst (λ (x : ℕ). Taking c m₁ (topped r top) x v top₂) (sym b) t) d
        (de ∙ ap (λ (x : ℕ). extent (get_or c.entries x (act Act.fail))) (sym b)) (omega arith) len
        (subst (λ (x : ℕ). Put m₁ m₂ (next-at + 2 * x) (cell_of v)) {x = suc k - 1} {y = k} (omega arith) p))

    pub gathering-skip : (k j : ℕ) → 0 < k → e ≡ j - 1 → Gathering c m m₁ r n k j top → 16 ≤ k - 1 → Gathering c m m₁ r n (k - 1) j₂ top₂
    gathering-skip zero j z q g h = absurd (omega arith)
    gathering-skip (suc k) j z q g h =
        let b = at_before j q in
        subst₂ (λ (a u : ℕ). Gathering c m m₁ r n a u top₂) {x = k} {y = suc k - 1} (omega arith) (ap (λ (x : ℕ). x - d) b ∙ sym je)
        (gathering-past m₁ m₁ k j top g v top₂ (subst (λ (x : ℕ). Taking c m₁ (topped r top) x v top₂) (sym b) t) d
        (de ∙ ap (λ (x : ℕ). extent (get_or c.entries x (act Act.fail))) (sym b)) (omega arith))

-- ---- a call

module _ (c : Code) (m m₂ : List ℕ) (r : Run) (g n top : ℕ) (ready : Ready m r) (deep : r.depth < 32) (len : length m₂ ≡ length m)
    (s : Gathering c m m₂ r n 0 0 top) where
  abbrev m₃ : List ℕ
  m₃ = set (set m₂ (caller_place r.depth) (r.pc + 1)) (caller_base r.depth) r.base

  abbrev f₀ : Cell → Sym
  f₀ = meaning (nodes_in m r.nodes)

  unwritten : (k : ℕ) → k ≢ caller_place r.depth → k ≢ caller_base r.depth → get_or m₃ k 0 ≡ get_or m₂ k 0
  unwritten k a b = get_or-set_other (set m₂ (caller_place r.depth) (r.pc + 1)) (caller_base r.depth) k r.base 0 b ∙ get_or-set_other m₂ (caller_place r.depth) k (r.pc + 1) 0 a

  saved-pc : get_or m₃ (caller_place r.depth) 0 ≡ r.pc + 1
  saved-pc = get_or-set_other (set m₂ (caller_place r.depth) (r.pc + 1)) (caller_base r.depth) (caller_place r.depth) r.base 0 (omega arith)
      ∙ get_or-set_same m₂ (caller_place r.depth) (r.pc + 1) 0 (omega (arith, ready.tops.words))

  saved-base : get_or m₃ (caller_base r.depth) 0 ≡ r.base
  saved-base = get_or-set_same (set m₂ (caller_place r.depth) (r.pc + 1)) (caller_base r.depth) r.base 0 (simp length-set (omega (arith, ready.tops.words)))

  same₃ : Same m₂ m₃ (r.depth + 2) r.depth top r.nodes
  same₃ = record {
    d-fits = omega arith;
    c-fits = omega arith;
    frames = λ k l. unwritten k (omega arith) (omega arith);
    saved = λ k h l. unwritten k (omega arith) (omega arith);
    held = λ k j h a b. unwritten k (omega arith) (omega arith);
  }

  kept₃ : Kept m m₃ r.nodes
  kept₃ = kept_then (kept_low r.nodes s.other (omega arith)) (record {
    fixed = λ k a b. unwritten k (omega arith) (omega arith);
    tables = λ k j a b. unwritten k (omega arith) (omega arith);
    noded = λ k j h a b. unwritten k (omega arith) (omega arith);
  })

  -- the new frame, the caller's, and the callers'
  within₂ : (j : ℕ) → j < frame_cells * (r.depth + 1) + frame_cells → Within r.nodes (cell_at m₂ (cell_place j))
  within₂ j l = ⊎_elim (λ e. at_next j l (omega arith)) (λ h. ⊎_elim (λ h. s.ready.framed j (omega arith)) (λ h. at_next j l (omega arith)) h) (three j (frame_cells * (r.depth + 1)))
    where
      at_next : (j : ℕ) → j < frame_cells * (r.depth + 1) + frame_cells → frame_cells * (r.depth + 1) ≤ j → Within r.nodes (cell_at m₂ (cell_place j))
      at_next j l h = subst (λ (i : ℕ). Within r.nodes (cell_at m₂ i)) {x = variable_place (r.depth + 1) (j - frame_cells * (r.depth + 1))} {y = cell_place j} (omega arith)
          (s.within (j - frame_cells * (r.depth + 1)) (omega arith))

  frame-new : frame (known (pos 0)) 16 (map f₀ s.values) ≡ frame_at f₀ m₃ (r.depth + 1)
  frame-new = s.framed f₀ (reads (nodes_in m r.nodes)) ∙ frame_same same₃ f₀ f₀ (λ v h. refl) (r.depth + 1) (omega arith) within₂

  frame-old : frame_at f₀ m r.depth ≡ frame_at f₀ m₃ r.depth
  frame-old = frame-next m m₂ r ready deep len s.other f₀ ∙ frame_same same₃ f₀ f₀ (λ v h. refl) r.depth (omega arith) s.ready.framed

  temps-old : temps f₀ m₂ r.base (top - r.base) ≡ temps f₀ m₃ r.base (top - r.base)
  temps-old = temps-same same₃ f₀ f₀ (λ v h. refl) r.base (top - r.base) (omega (arith, s.ready.low)) s.ready.held

  callers-old : callers f₀ m r.depth r.base ≡ callers f₀ m₃ r.depth r.base
  callers-old = callers-next m m₂ r ready deep len s.other f₀
      ∙ callers-same same₃ f₀ f₀ (λ v h. refl) r.depth r.base (omega arith) (omega arith) s.ready.low s.ready.stack (λ j l. s.ready.framed j (omega arith)) s.ready.held

  callers-new : record { pc = suc r.pc; temps = temps f₀ m₂ r.base (top - r.base); frame = frame_at f₀ m r.depth } ∷ callers f₀ m r.depth r.base ≡ callers f₀ m₃ (r.depth + 1) top
  unfolding callers
  callers-new =
      (λ i. record { pc = pc-is i; temps = temps-old i; frame = frame-old i } ∷ callers-old i)
      ∙ ap (λ (b : ℕ). record { pc = get_or m₃ (caller_place r.depth) 0; temps = temps f₀ m₃ b (top - b); frame = frame_at f₀ m₃ r.depth } ∷ callers f₀ m₃ r.depth b) (sym saved-base)
      ∙ ap (λ (d : ℕ). callers f₀ m₃ d top) {x = suc r.depth} {y = r.depth + 1} (omega arith)
    where
      pc-is : suc r.pc ≡ get_or m₃ (caller_place r.depth) 0
      pc-is = omega (arith, saved-pc)

  temps-new : ◌≡◌ {A = List Sym} [] (temps f₀ m₃ top (top - top))
  unfolding temps
  temps-new = ap (temps f₀ m₃ top) {x = 0} {y = top - top} (omega arith)

  entering-is : (d : ℕ) → 32 - r.depth ≡ suc d → acts c m r (Act.call g n)
      ≡ Doing.step (machine (get_or c.starts g 2) r.flag [] (frame (known (pos 0)) 16 (map f₀ s.values))
      (record { pc = suc r.pc; temps = temps f₀ m₂ r.base (top - r.base); frame = frame_at f₀ m r.depth } ∷ callers f₀ m r.depth r.base) d)
  unfolding gather
  entering-is d e =
      ap (λ k. entering known search.work c k g (gather known search.work c (frame_at f₀ m r.depth) (temps f₀ m r.base (r.top - r.base)) n r.pc []) r.pc
      r.flag (frame_at f₀ m r.depth) (callers f₀ m r.depth r.base)) e
      ∙ ap (λ a. entering known search.work c (suc d) g a r.pc r.flag (frame_at f₀ m r.depth) (callers f₀ m r.depth r.base)) (s.is f₀ (reads (nodes_in m r.nodes)))

  stacked₃ : Stacked m₃ (r.depth + 1) top
  stacked₃ = subst (λ (k : ℕ). Stacked m₃ k top) {x = suc r.depth} {y = r.depth + 1} (omega arith)
      (rw saved-base (s.ready.low, stacked-same same₃ r.depth r.base (omega arith) s.ready.stack))

  pub entered : Goes Doing.step 1 (acts c m r (Act.call g n)) m r.nodes m₃
      (record { pc = get_or c.starts g 2; flag = r.flag; base = top; top = top; depth = r.depth + 1; nodes = r.nodes })
  entered = record {
    is = entering-is (31 - r.depth) (omega arith) ∙ (λ i. Doing.step (machine (get_or c.starts g 2) r.flag (temps-new i) (frame-new i) (callers-new i) (left_is i)))
        ∙ ap (λ l. Doing.step (machine (get_or c.starts g 2) r.flag (temps (meaning l) m₃ top (top - top)) (frame_at (meaning l) m₃ (r.depth + 1))
        (callers (meaning l) m₃ (r.depth + 1) top) (32 - (r.depth + 1)))) (sym (nodes-kept kept₃ r.nodes (omega arith)));
    ready = record {
      deep = omega arith;
      low = omega arith;
      tops = record { words = simp length-set (omega (arith, s.ready.tops.words)); small = s.ready.tops.small };
      few = record { words = simp length-set (omega (arith, s.ready.few.words)); small = s.ready.few.small };
      stack = stacked₃;
      framed = λ i l. subst (Within r.nodes) (sym (frame-cell same₃ (cell_place i) (omega arith))) (within₂ i l);
      held = λ i l. subst (Within r.nodes) (sym (temp-cell same₃ i l)) (s.ready.held i l);
    };
    kept = kept₃;
    more = omega arith;
    grows = omega arith;
    formed = λ j x y. absurd (omega arith);
  }
    where
      left_is : 31 - r.depth ≡ 32 - (r.depth + 1)
      left_is = omega arith
