-- One entry worked, by its kind.
use mathlib.Core.Path.{◌≡◌, refl, sym, ap, ◌∙◌, subst}
use mathlib.Core.Bool.{Bool}
use mathlib.Core.Option.{none, some}
use mathlib.Core.List.{List, []}
use Prim.Native.Nat.{ℕ, suc, ◌+◌, ◌-◌, ◌%◌, ◌≤◌}
use native.Mathlib.Omega.{arith}
use lib.IntN.{ℤ}
use lib.ListN.{length, get_or, get_or-eq_default}
use Rattle.semantics.specs.Program.{Window, slot}
use Rattle.semantics.specs.Search as search
use Rattle.semantics.specs.Search.{known}
use Rattle.simulation.specs.Code.{Code, Entry, act, Act}
use Rattle.simulation.specs.Machine.{Caller, Machine, machine, Doing, own_pair_of, gather, entering, leaving, landing, working, advance}
use Rattle.simulation.specs.Nodes.{meaning}
use Rattle.ints.specs.declared.Comparison.{Comparison}
use Rattle.ints.specs.declared.Operation.{Operation}
use Rattle.ints.specs.Meaning.{of_operation, of_comparison}
use Rattle.code.specs.Meaning.{as_entry}
use Rattle.code.specs.declared.Address.{Address}
use Rattle.code.specs.declared.Entry as C
use Rattle.code.specs.declared.Entry.TheVariants as code
use Rattle.intervals.specs.Meaning.{Filled}
use Rattle.machine.specs.Memory.{Sym, nodes_in, temps, frame_at, callers, machine_at}
use Rattle.machine.specs.Terms.{cell_of, Ready, Taking, Paired, topped, Goes, acts, storing, Asked, Freed, moved, flagged, Tested, Gave}
use Rattle.machine.specs.declared.Value.{Value}
use Rattle.machine.specs.declared.Run.{Run}
use Rattle.machine.proofs.Stays.{topped-ready, kept-none}
use Rattle.machine.proofs.Moves.{reads}

-- ---- the machine goes on with another state

pub ready_moved : (m : List ℕ) (r : Run) (pc : ℕ) (b : Bool) → Ready m r → Ready m (record { pc = pc; flag = b; base = r.base; top = r.top; depth = r.depth; nodes = r.nodes })
ready_moved m r pc b h = record { deep = h.deep; low = h.low; tops = h.tops; few = h.few; stack = h.stack; framed = h.framed; held = h.held }

pub goes-run : {how : Machine Sym → Doing Sym} {k : ℕ} {d : Doing Sym} {m : List ℕ} {n : ℕ} {m' : List ℕ} {r r₂ : Run} → r₂ ≡ r → Goes how k d m n m' r → Goes how k d m n m' r₂
goes-run {how} {k} {d} {m} {n} {m'} e h = subst (λ (r : Run). Goes how k d m n m' r) (sym e) h

pub goes-from : {how : Machine Sym → Doing Sym} {k : ℕ} {d d₂ : Doing Sym} {m : List ℕ} {n : ℕ} {m' : List ℕ} {r : Run} → d ≡ d₂ → Goes how k d m n m' r → Goes how k d₂ m n m' r
goes-from {how} {k} {d} {d₂} {m} {n} {m'} {r} e h = subst (λ (d : Doing Sym). Goes how k d m n m' r) e h

module _ (c : Code) (m : List ℕ) (r : Run) where
  abbrev ts : List Sym
  ts = temps (meaning (nodes_in m r.nodes)) m r.base (r.top - r.base)

  abbrev fr : List Sym
  fr = frame_at (meaning (nodes_in m r.nodes)) m r.depth

  abbrev cs : List (Caller Sym)
  cs = callers (meaning (nodes_in m r.nodes)) m r.depth r.base

  abbrev goes : Doing Sym
  goes = advance known search.work c (machine_at m r)

  abbrev works : Entry → Doing Sym
  works x = working known search.work c r.pc r.flag ts fr cs (32 - r.depth) x

  pub adv-out : length c.entries ≤ r.pc → goes ≡ Doing.failed
  unfolding advance
  adv-out h = ap works (get_or-eq_default c.entries (act Act.fail) {n = r.pc} h)

  module _ (x : C.Entry) (q : as_entry x ≡ get_or c.entries r.pc (act Act.fail)) where
    adv-at : (y : C.Entry) → x ≡ y → goes ≡ works (as_entry y)
    unfolding advance
    adv-at y e = ap works (sym q) ∙ ap (λ x. works (as_entry x)) e

    pub adv-fail : x ≡ code.Fail → goes ≡ Doing.failed
    adv-fail e = adv-at _ e

    next-pc : suc r.pc ≡ r.pc + 1
    next-pc = omega arith

    -- nothing but the place and the flag has changed
    goes_on : (how : Machine Sym → Doing Sym) (k : ℕ) (pc₁ pc₂ : ℕ) (b : Bool) → Ready m r → pc₁ ≡ pc₂ → goes ≡ how (machine pc₁ b ts fr cs (32 - r.depth))
        → Goes how k goes m r.nodes m (record { pc = pc₂; flag = b; base = r.base; top = r.top; depth = r.depth; nodes = r.nodes })
    goes_on how k pc₁ pc₂ b h e q = record {
      is = q ∙ ap (λ (i : ℕ). how (machine i b ts fr cs (32 - r.depth))) e;
      ready = ready_moved m r pc₂ b h;
      kept = kept-none;
      more = omega arith;
      grows = omega arith;
      formed = λ j x y. absurd (omega arith);
    }

    pub adv-number : (z : ℤ) → x ≡ code.Number z → Ready m r → Goes Doing.silent 0 goes m r.nodes m (moved r (r.pc + 1))
    adv-number z e h = goes_on Doing.silent 0 _ _ r.flag h next-pc (adv-at _ e)

    pub adv-name : (a : Address) → x ≡ code.Name a → Ready m r → Goes Doing.silent 0 goes m r.nodes m (moved r (r.pc + 1))
    adv-name a e h = goes_on Doing.silent 0 _ _ r.flag h next-pc (adv-at _ e)

    pub adv-argument : (d : ℕ) → x ≡ code.Argument d → Ready m r → Goes Doing.silent 0 goes m r.nodes m (moved r (r.pc + 1))
    adv-argument d e h = goes_on Doing.silent 0 _ _ r.flag h next-pc (adv-at _ e)

    pub adv-op : (o : Operation) (d : ℕ) → x ≡ code.Operate o d → acts c m r (Act.operate (of_operation o) d) ≡ goes
    adv-op o d e = sym (adv-at _ e)

    pub adv-cmp : (o : Comparison) (d : ℕ) → x ≡ code.Compare o d → (v w : Value) (top : ℕ) → Ready m r → Paired c m r d v w top
        → Tested goes m r.nodes m o v w (record r { pc = r.pc + 1; top = top })
    adv-cmp o d e v w top h p = record {
      is = (adv-at _ e
          ∙ ap (λ t. Doing.test ((of_comparison o)) t.first t.second (λ q. machine (suc r.pc) q t.rest fr cs (32 - r.depth)))
          (p.is (meaning (nodes_in m r.nodes)) (reads (nodes_in m r.nodes)))
          ∙ ap (λ (i : ℕ). Doing.test ((of_comparison o)) (meaning (nodes_in m r.nodes) (cell_of v)) (meaning (nodes_in m r.nodes) (cell_of w))
          (λ q. machine i q (temps (meaning (nodes_in m r.nodes)) m r.base (top - r.base)) fr cs (32 - r.depth))) next-pc);
      same = refl;
      ready = ready_moved m (topped r top) (r.pc + 1) r.flag (topped-ready m r top h p.low p.high);
      nodes = refl;
      left-sized = p.left-sized;
      left = p.left;
      right-sized = p.right-sized;
      right = p.right;
    }

    pub adv-cut : (g n : ℕ) → x ≡ code.Call g n → r.depth ≡ 32 → goes ≡ Doing.cut
    adv-cut g n e d = adv-at _ e ∙ ap (λ (k : ℕ). entering known search.work c k (g % 16) (gather known search.work c fr ts n r.pc []) r.pc r.flag fr cs) {x = 32 - r.depth} {y = 0} (omega arith)

    pub adv-call : (g n : ℕ) → x ≡ code.Call g n → acts c m r (Act.call (g % 16) n) ≡ goes
    adv-call g n e = sym (adv-at _ e)

    pub adv-constant : (b : Bool) → x ≡ code.Constant b → Ready m r → Goes Doing.silent 0 goes m r.nodes m (moved (flagged r b) (r.pc + 1))
    adv-constant b e h = goes_on Doing.silent 0 _ _ b h next-pc (adv-at _ e)

    pub adv-jump : (b : Bool) (d : ℕ) → x ≡ code.Jump b d → (pc : ℕ) → pc ≡ landing b r.flag d (suc r.pc) → Ready m r → Goes Doing.silent 0 goes m r.nodes m (moved r pc)
    adv-jump b d e pc p h = goes_on Doing.silent 0 _ pc r.flag h (sym p) (adv-at _ e)

    pub adv-skip : (d : ℕ) → x ≡ code.Skip d → Ready m r → Goes Doing.silent 0 goes m r.nodes m (moved r (r.pc + 1 + d))
    adv-skip d e h = goes_on Doing.silent 0 _ (r.pc + 1 + d) r.flag h (omega arith) (adv-at _ e)

    pub adv-again : (d : ℕ) → x ≡ code.Again d → (pc : ℕ) → pc ≡ r.pc - d → Ready m r → Goes Doing.step 1 goes m r.nodes m (moved r pc)
    adv-again d e pc p h = goes_on Doing.step 1 _ pc r.flag h (sym p) (adv-at _ e)

    pub adv-begin : x ≡ code.Begin → Ready m r → Goes Doing.step 1 goes m r.nodes m (moved r (r.pc + 1))
    adv-begin e h = goes_on Doing.step 1 _ (r.pc + 1) r.flag h next-pc (adv-at _ e)

    pub adv-ask : (a : Address) → x ≡ code.Ask a → (job : Window) → Filled job → (m₂ : List ℕ) (k : ℕ) (r₂ : Run) → Asked (storing m r (a.0 % 16)) m r.nodes m₂ k r₂ → Freed goes job job m r.nodes m₂ k r₂
    adv-ask a e job f m₂ k r₂ p = record { own = none; next = storing m r (a.0 % 16); is = adv-at _ e; pair = refl; filled = f; asked = p }

    pub adv-own : (a : Address) → x ≡ code.Own a → (job w : Window) → w ≡ own_pair_of c r.pc → Filled w → (m₂ : List ℕ) (k : ℕ) (r₂ : Run) → Asked (storing m r (a.0 % 16)) m r.nodes m₂ k r₂
        → Freed goes job w m r.nodes m₂ k r₂
    adv-own a e job w p f m₂ k r₂ h = record { own = some (own_pair_of c r.pc); next = storing m r (a.0 % 16); is = adv-at _ e; pair = p; filled = f; asked = h }

    pub adv-store : (a : Address) → x ≡ code.Store a → acts c m r (Act.store (slot (a.0 % 16))) ≡ goes
    adv-store a e = sym (adv-at _ e)

    pub adv-return : x ≡ code.Return → acts c m r Act.return ≡ goes
    adv-return e = sym (adv-at _ e)

    pub adv-returned : x ≡ code.Return → r.depth ≡ 0 → (v : Value) (top : ℕ) → Taking c m r r.pc v top → Gave goes m r.nodes m v
    unfolding callers
    adv-returned e d v top t = record {
      is = adv-at _ e ∙ ap (λ u. leaving known search.work c cs u.value r.flag (32 - r.depth)) (t.is (meaning (nodes_in m r.nodes)) (reads (nodes_in m r.nodes)))
          ∙ ap (λ (k : ℕ). leaving known search.work c (callers (meaning (nodes_in m r.nodes)) m k r.base) (meaning (nodes_in m r.nodes) (cell_of v)) r.flag (32 - k)) d;
      same = refl;
      sized = t.sized;
      within = t.within;
    }
