-- The loops over all settings: where they stand, in memory. The first setting is there when a loop begins.
use Rattle.std.specs.Prelude.{Result, Ok, Err}
use mathlib.Core.Path.{◌≡◌, refl, sym, ap, ap₂, ◌∙◌, subst}
use mathlib.Core.Bool.{Bool, true, false, not}
use mathlib.Core.List.{List}
use Prim.Native.Nat.{ℕ, ◌+◌, ◌-◌, ◌*◌, ◌≤◌, ◌<◌}
use native.Mathlib.Omega.{arith}
use lib.Dec.{T}
use lib.ListN.{length}
use lib.IntN.{ℤ}
use Rattle.semantics.specs.Program.{Window}
use Rattle.semantics.specs.Search as search
use Rattle.semantics.specs.Search.{Value, Test, Answer, under}
use Rattle.simulation.specs.Nodes.{Cell, Node, meaning}
use Rattle.simulation.specs.Odometer.{filled, lowest, after}
use Rattle.simulation.specs.Lister as lister
use Rattle.simulation.specs.Lister.{Next}
use Rattle.machine.specs.Memory.{nodes_in, setting_in, windows_in}
use Rattle.settings.specs.Table.{Worked, First, next_as, Follows, Renumbered, Steady}
use Rattle.settings.specs.Plan.{Front}
use Rattle.settings.specs.Seek.{Missed, Seeks, met, over, out, Seeking}
use Rattle.settings.specs.Rows.{row_with}
use Rattle.settings.specs.Tries.{tally_of, next_of, leaving, cutting, tests, Fair, Counts, Counted, Placing, Trying}
use Rattle.settings.specs.declared.Tally.{Tally}
use Rattle.settings.specs.declared.Stopped.{Stopped}
use Rattle.settings.specs.declared.Stopped.TheVariants.{Spent}
use Rattle.settings.specs.declared.Sought.{Sought}
use Rattle.settings.specs.declared.Sought.TheVariants.{Met, Over, Out}
use Rattle.settings.proofs.Renumbered.{setting-stays, nodes-steady, tests-steady, windows-steady, steady-none, steady-numbers, steady-setting, steady-more}
use Rattle.settings.proofs.Going.{whole, Tries, tries-none, tries-first, tries-over, tries-next, tries-last, probing, Probes, probes-none, probes-before, probes-first}
use Rattle.settings.proofs.Counting.{trying-placed}
use Rattle.settings.proofs.Planning.{front-tests}
use Rattle.settings.proofs.Missing.{leaving-one, tries-missed, tries-end, tries-spent, probes-met, probes-end, probes-spent}

pub fair-more : {t u : Tally} (size size' : ℕ) → size' ≡ size → Fair size t → Counts t u → Fair size' u
fair-more size size' e f c = record { sum = omega (arith, f.sum, c.sum); place = subst (λ (n : ℕ). 10 * n ≤ size') (sym c.places) (omega (arith, f.place)) }

-- a test whether there is a setting
pub some-setting : {b r : Bool} → r ≡ b → r ≡ true → T b
some-setting e h = subst T (sym h ∙ e) tt

pub no-setting : {b r : Bool} → r ≡ b → r ≡ false → T (not b)
no-setting e h = subst (λ (b : Bool). T (not b)) (sym h ∙ e) tt

-- ---- the memory of a loop

-- the windows are as before, and so is the first setting
first-steady : (m m₀ : List ℕ) (k : ℕ) → k ≤ 8 → First m m₀ k → Steady m m₀
first-steady m m₀ k few f = steady-setting m m m₀ k few (steady-none m) f.other

first-filled : (m m₀ : List ℕ) (k : ℕ) → k ≤ 8 → First m m₀ k → T (filled (windows_in m k)) → T (filled (windows_in m₀ k))
first-filled m m₀ k few f t = subst (λ (ws : List Window). T (filled ws)) (sym (windows-steady m m₀ (first-steady m m₀ k few f) k few)) t

first-lowest : (m m₀ : List ℕ) (k : ℕ) → k ≤ 8 → First m m₀ k → setting_in m₀ k ≡ lowest (windows_in m₀ k)
first-lowest m m₀ k few f = f.is ∙ ap lowest (sym (windows-steady m m₀ (first-steady m m₀ k few f) k few))

module _ (m₀ m m₁ m₂ : List ℕ) (k : ℕ) (few : k ≤ 8) (s : Steady m₀ m) (r : Renumbered m m₁) {b : Bool} (f : Follows m₁ m₂ k b) where
  after_is : after (windows_in m₀ k) (setting_in m k) ≡ next_as b (setting_in m₂ k)
  after_is = ap₂ after (sym (windows-steady m₀ m₁ (steady-numbers m₀ m m₁ s r) k few)) (sym (setting-stays m m₁ k few r)) ∙ f.is

  goes-steady : Steady m₀ m₂
  goes-steady = steady-setting m₀ m₁ m₂ k few (steady-numbers m₀ m m₁ s r) f.other

-- ---- at a return

-- the value that is returned, as the memory has it, and what all settings give
abbrev meant : List ℕ → ℕ → Cell → Value
meant m n v = meaning (nodes_in m n) v

abbrev pub Whole : List ℕ → ℕ → ℕ → ℕ → Cell → List ℤ → Tally → Next lister.Tally
Whole m n c k v rows t = whole (meant m n v) (tests m n c) (windows_in m k) rows t

pub record Trialling (m₀ : List ℕ) (n c k : ℕ) (v : Cell) (rows₀ : List ℤ) (t₀ : Tally) (m : List ℕ) (rows : List ℤ) (t : Tally) : Type 0 where
  pub size : length m ≡ length m₀
  pub sheet : length rows ≡ length rows₀
  pub steady : Steady m₀ m
  pub tries : Tries (meant m₀ n v) (tests m₀ n c) (windows_in m₀ k) rows₀ t₀ (setting_in m k) rows t

-- a memory in which nothing but setting and numbers has changed gives the same
there : (m₀ m : List ℕ) (n c : ℕ) (v : Cell) → Steady m₀ m → (P : Value → List Test → Type 0) → P (meant m n v) (tests m n c) → P (meant m₀ n v) (tests m₀ n c)
there m₀ m n c v s P p = subst (λ (ts : List Test). P (meant m₀ n v) ts) (tests-steady m₀ m s n c) (subst (λ (ns : List Node). P (meaning ns v) (tests m n c)) (nodes-steady m₀ m s n) p)

pub trialling-none : (m : List ℕ) (n c k : ℕ) (v : Cell) (rows : List ℤ) (t : Tally) → T (not (filled (windows_in m k))) → Placing rows rows t (Whole m n c k v rows t) (Ok t) × Steady m m
trialling-none m n c k v rows t h = (tries-none (meant m n v) (tests m n c) (windows_in m k) rows t h, steady-none m)

pub trialling-first : (m m₀ : List ℕ) (n c k : ℕ) (v : Cell) (rows : List ℤ) (t : Tally) → k ≤ 8 → First m m₀ k → T (filled (windows_in m k)) → Trialling m₀ n c k v rows t m₀ rows t
trialling-first m m₀ n c k v rows t few f h = record {
  size = refl;
  sheet = refl;
  steady = steady-none m₀;
  tries = tries-first (meant m₀ n v) (tests m₀ n c) (windows_in m₀ k) rows t (first-filled m m₀ k few f h) (setting_in m₀ k) (first-lowest m m₀ k few f);
}

module _ {m₀ : List ℕ} {n c k : ℕ} {v : Cell} {rows₀ : List ℤ} {t₀ : Tally} {m : List ℕ} {rows : List ℤ} {t : Tally} (few : k ≤ 8) (p : Trialling m₀ n c k v rows₀ t₀ m rows t)
    (m₁ : List ℕ) (rows' : List ℤ) (r : Result Tally Stopped) (q : Trying rows rows' t (lister.trial (meant m n v) (tests m n c) (setting_in m k) (tally_of rows t)) r) (e : Renumbered m m₁) where
  tried : (u : Result Tally Stopped) → r ≡ u → Trying rows rows' t (lister.trial (meant m₀ n v) (tests m₀ n c) (setting_in m k) (tally_of rows t)) u
  tried u a = subst (λ (u : Result Tally Stopped). Trying rows rows' t (lister.trial (meant m₀ n v) (tests m₀ n c) (setting_in m k) (tally_of rows t)) u) a
      (there m₀ m n c v p.steady (λ w ts. Trying rows rows' t (lister.trial w ts (setting_in m k) (tally_of rows t)) r) q)

  pub trialling-over : (u : Result Tally Stopped) {a : Answer} → r ≡ u → next_of rows' u ≡ lister.over a → Placing rows₀ rows' t₀ (Whole m₀ n c k v rows₀ t₀) u × Steady m₀ m₁
  trialling-over u a b = (tries-over (meant m₀ n v) (tests m₀ n c) (windows_in m₀ k) rows₀ t₀ p.tries (tried u a) b, steady-numbers m₀ m m₁ p.steady e)

  pub trialling-next : (m₂ : List ℕ) (u : Tally) → r ≡ Ok u → Follows m₁ m₂ k true → length m₂ ≡ length m → length rows' ≡ length rows → Trialling m₀ n c k v rows₀ t₀ m₂ rows' u
  trialling-next m₂ u a f x y = record {
    size = x ∙ p.size;
    sheet = y ∙ p.sheet;
    steady = goes-steady m₀ m m₁ m₂ k few p.steady e f;
    tries = tries-next (meant m₀ n v) (tests m₀ n c) (windows_in m₀ k) rows₀ t₀ p.tries (tried (Ok u) a) (setting_in m₂ k) (after_is m₀ m m₁ m₂ k few p.steady e f);
  }

  pub trialling-last : (m₂ : List ℕ) (u : Tally) → r ≡ Ok u → Follows m₁ m₂ k false → Placing rows₀ rows' t₀ (Whole m₀ n c k v rows₀ t₀) (Ok u) × Steady m₀ m₂
  trialling-last m₂ u a f =
      (tries-last (meant m₀ n v) (tests m₀ n c) (windows_in m₀ k) rows₀ t₀ p.tries (tried (Ok u) a) (after_is m₀ m m₁ m₂ k few p.steady e f), goes-steady m₀ m m₁ m₂ k few p.steady e f)

-- ---- what seeking answers, at a return

-- a setting that meets the tests, with so many moves left before it is tried
pub record MetAs (ws : List Window) (ts : List Test) (s : List ℤ) (most : ℕ) (m : List ℕ) (n k left : ℕ) : Type 0 where
  pub count : ℕ
  pub missed : Missed ws ts s count (setting_in m k)
  pub sum : count + left ≡ most
  pub more : 0 < left
  pub meets : search.meets ts (setting_in m k) ≡ true
  pub worked : Worked m n k

met-as : {ws : List Window} {ts : List Test} {s : List ℤ} {most : ℕ} {m : List ℕ} {n k left : ℕ} → Seeks ws ts s most m n k (Met left) → MetAs ws ts s most m n k left
met-as (met {j} a b c d e) = record { count = j; missed = a; sum = b; more = c; meets = d; worked = e }

over-left : {ws : List Window} {ts : List Test} {s : List ℤ} {most : ℕ} {m : List ℕ} {n k left : ℕ} → Seeks ws ts s most m n k (Over left) → left ≤ most
over-left (over a b c d) = omega arith

-- no more moves are left than there were
pub over-within : (m m₁ : List ℕ) (n c k most : ℕ) (r : Sought) (left : ℕ) → Seeking m m₁ n c k most r → r ≡ Over left → left ≤ most
over-within m m₁ n c k most r left g e = over-left (subst (λ (u : Sought). Seeking m m₁ n c k most u) e g)

module _ (m₀ : List ℕ) (n c k upto : ℕ) (few : k ≤ 8) (front : Front m₀ n c upto) (m m₁ : List ℕ) (s : Steady m₀ m) (most : ℕ) (r : Sought) (g : Seeking m m₁ upto c k most r) where
  -- said of the first memory, and of all its nodes
  sought : (u : Sought) → r ≡ u → Seeks (windows_in m₀ k) (tests m₀ n c) (setting_in m k) most m₁ upto k u
  sought u e = subst (λ (ts : List Test). Seeks (windows_in m₀ k) ts (setting_in m k) most m₁ upto k u) (tests-steady m₀ m s upto c ∙ front-tests m₀ n c upto front)
      (subst (λ (ws : List Window). Seeks ws (tests m upto c) (setting_in m k) most m₁ upto k u) (windows-steady m₀ m s k few)
      (subst (λ (u : Sought). Seeking m m₁ upto c k most u) e g))

  pub sought-met : (left : ℕ) → r ≡ Met left → MetAs (windows_in m₀ k) (tests m₀ n c) (setting_in m k) most m₁ upto k left
  sought-met left e = met-as (sought (Met left) e)

module _ {m₀ : List ℕ} {n c k : ℕ} {v : Cell} {rows₀ : List ℤ} {t₀ : Tally} {m : List ℕ} {rows : List ℤ} {t : Tally} (few : k ≤ 8) (p : Trialling m₀ n c k v rows₀ t₀ m rows t) (upto : ℕ)
    (front : Front m₀ n c upto) (m₁ : List ℕ) (r : Sought) (g : Seeking m m₁ upto c k t.budget r) (s : Steady m m₁) where
  is-met : (left : ℕ) → r ≡ Met left → MetAs (windows_in m₀ k) (tests m₀ n c) (setting_in m k) t.budget m₁ upto k left
  is-met left e = sought-met m₀ n c k upto few front m m₁ p.steady t.budget r g left e

  pub met-within : (left : ℕ) → r ≡ Met left → (0 < left) × (left ≤ t.budget)
  met-within left e = ((is-met left e).more, omega (arith, (is-met left e).sum))

  pub met-worked : (left : ℕ) → r ≡ Met left → Worked m₁ upto k
  met-worked left e = (is-met left e).worked

  pub trialling-met : (left : ℕ) → r ≡ Met left → length m₁ ≡ length m → Trialling m₀ n c k v rows₀ t₀ m₁ rows (leaving t left)
  trialling-met left e x = record {
    size = x ∙ p.size;
    sheet = p.sheet;
    steady = steady-more m₀ m m₁ p.steady s;
    tries = tries-missed (meant m₀ n v) (tests m₀ n c) (windows_in m₀ k) rows₀ t₀ p.tries (is-met left e).missed (omega (arith, (is-met left e).sum)) left (is-met left e).sum;
  }

  -- its row
  pub trialling-row : (left : ℕ) → r ≡ Met left → (rows' : List ℤ) (u : Tally) → u ≡ leaving t (left - 1) → (x : Result Tally Stopped)
      → Placing rows rows' u (lister.place (row_with (under (setting_in m₁ k) (meant m₁ n v)) (setting_in m₁ k)) (tally_of rows u)) x
      → Trying rows rows' (leaving t left) (lister.trial (meant m₁ n v) (tests m₁ n c) (setting_in m₁ k) (tally_of rows (leaving t left))) x
  trialling-row left e rows' u a x q = trying-placed (meant m₁ n v) (tests m₁ n c) (setting_in m₁ k) rows (leaving t left) rows' x u (under (setting_in m₁ k) (meant m₁ n v)) (setting_in m₁ k)
      (λ z. omega (arith, (is-met left e).more))
      (ap (λ (ts : List Test). search.meets ts (setting_in m₁ k)) (tests-steady m₀ m₁ (steady-more m₀ m m₁ p.steady s) n c) ∙ (is-met left e).meets)
      (a ∙ leaving-one t left (is-met left e).more (omega (arith, (is-met left e).sum))) refl refl q

  ended : {left : ℕ} → Seeks (windows_in m₀ k) (tests m₀ n c) (setting_in m k) t.budget m₁ upto k (Over left) → Placing rows₀ rows t₀ (Whole m₀ n c k v rows₀ t₀) (Ok (leaving t left)) × Steady m₀ m₁
  ended {left} (over a b d e) = (tries-end (meant m₀ n v) (tests m₀ n c) (windows_in m₀ k) rows₀ t₀ p.tries a left b d e, steady-more m₀ m m₁ p.steady s)

  pub trialling-end : (left : ℕ) → r ≡ Over left → (u : Tally) → u ≡ leaving t left → Placing rows₀ rows t₀ (Whole m₀ n c k v rows₀ t₀) (Ok u) × Steady m₀ m₁
  trialling-end left e u a = subst (λ (u : Tally). Placing rows₀ rows t₀ (Whole m₀ n c k v rows₀ t₀) (Ok u) × Steady m₀ m₁) (sym a)
      (ended (sought m₀ n c k upto few front m m₁ p.steady t.budget r g (Over left) e))

  stopped : Seeks (windows_in m₀ k) (tests m₀ n c) (setting_in m k) t.budget m₁ upto k Out → Placing rows₀ rows t₀ (Whole m₀ n c k v rows₀ t₀) (Err (Spent (leaving t 0))) × Steady m₀ m₁
  stopped (out a) = (tries-spent (meant m₀ n v) (tests m₀ n c) (windows_in m₀ k) rows₀ t₀ p.tries a, steady-more m₀ m m₁ p.steady s)

  pub trialling-spent : r ≡ Out → (u : Tally) → u ≡ leaving t 0 → Placing rows₀ rows t₀ (Whole m₀ n c k v rows₀ t₀) (Err (Spent u)) × Steady m₀ m₁
  trialling-spent e u a = subst (λ (u : Tally). Placing rows₀ rows t₀ (Whole m₀ n c k v rows₀ t₀) (Err (Spent u)) × Steady m₀ m₁) (sym a)
      (stopped (sought m₀ n c k upto few front m m₁ p.steady t.budget r g Out e))

-- said of the memory before the first setting
pub trialling-all : (m m₀ m₂ : List ℕ) (n c k : ℕ) (v : Cell) (rows rows' : List ℤ) (t : Tally) (r : Result Tally Stopped) → k ≤ 8 → First m m₀ k → Placing rows rows' t (Whole m₀ n c k v rows t) r × Steady m₀ m₂
    → Placing rows rows' t (Whole m n c k v rows t) r × Steady m m₂
trialling-all m m₀ m₂ n c k v rows rows' t r few f p =
    let s = first-steady m m₀ k few f in (
      there m m₀ n c v s (λ w ts. Placing rows rows' t (whole w ts (windows_in m k) rows t) r)
          (subst (λ (ws : List Window). Placing rows rows' t (whole (meant m₀ n v) (tests m₀ n c) ws rows t) r) (windows-steady m m₀ s k few) p.0),
      steady-more m m₀ m₂ s p.1,
    )

-- ---- at a cut

abbrev pub Probing : List ℕ → ℕ → ℕ → ℕ → Tally → List ℤ → Next lister.Tally
Probing m n c k t rows = probing (tests m n c) (windows_in m k) t rows

pub cutting-none : (m : List ℕ) (n c k : ℕ) (t : Tally) → T (not (filled (windows_in m k))) → Counted t (Probing m n c k t) (Ok t) × Steady m m
cutting-none m n c k t h = (probes-none (tests m n c) (windows_in m k) t h, steady-none m)

pub cutting-before : (m : List ℕ) (n c k : ℕ) (t : Tally) → t.cut ≡ true → Counted t (Probing m n c k t) (Ok t) × Steady m m
cutting-before m n c k t e = (probes-before (tests m n c) (windows_in m k) t e, steady-none m)

module _ (m m₀ : List ℕ) (n c k : ℕ) (t : Tally) (few : k ≤ 8) (f : First m m₀ k) (h : T (filled (windows_in m k))) (miss : t.cut ≡ false) (upto : ℕ) (front : Front m₀ n c upto) (m₁ : List ℕ)
    (r : Sought) (g : Seeking m₀ m₁ upto c k t.budget r) (s : Steady m₀ m₁) where
  begun : Probes (tests m₀ n c) (windows_in m₀ k) t (setting_in m₀ k) t
  begun = probes-first (tests m₀ n c) (windows_in m₀ k) t (first-filled m m₀ k few f h) (setting_in m₀ k) (first-lowest m m₀ k few f)

  seeks : (u : Sought) → r ≡ u → Seeks (windows_in m₀ k) (tests m₀ n c) (setting_in m₀ k) t.budget m₁ upto k u
  seeks u e = sought m₀ n c k upto few front m₀ m₁ (steady-none m₀) t.budget r g u e

  pub cut-within : (left : ℕ) → r ≡ Met left → (0 < left) × (left ≤ t.budget)
  cut-within left e = let q = met-as (seeks (Met left) e) in (q.more, omega (arith, q.sum))

  cut-met : {left : ℕ} → Seeks (windows_in m₀ k) (tests m₀ n c) (setting_in m₀ k) t.budget m₁ upto k (Met left) → Counted t (Probing m₀ n c k t) (Ok (cutting (leaving t (left - 1)) true)) × Steady m₀ m₁
  cut-met {left} (met a b d e x) = (probes-met (tests m₀ n c) (windows_in m₀ k) t t miss begun a left b d e, s)

  cut-end : {left : ℕ} → Seeks (windows_in m₀ k) (tests m₀ n c) (setting_in m₀ k) t.budget m₁ upto k (Over left) → Counted t (Probing m₀ n c k t) (Ok (leaving t left)) × Steady m₀ m₁
  cut-end {left} (over a b d e) = (probes-end (tests m₀ n c) (windows_in m₀ k) t t miss begun a left b d e, s)

  cut-spent : Seeks (windows_in m₀ k) (tests m₀ n c) (setting_in m₀ k) t.budget m₁ upto k Out → Counted t (Probing m₀ n c k t) (Err (Spent (leaving t 0))) × Steady m₀ m₁
  cut-spent (out a) = (probes-spent (tests m₀ n c) (windows_in m₀ k) t t miss begun a, s)

  pub cutting-met : (left : ℕ) → r ≡ Met left → (x u : Tally) → x ≡ leaving t (left - 1) → u ≡ cutting x true → Counted t (Probing m₀ n c k t) (Ok u) × Steady m₀ m₁
  cutting-met left e x u a b = subst (λ (u : Tally). Counted t (Probing m₀ n c k t) (Ok u) × Steady m₀ m₁) (sym (b ∙ ap (λ (x : Tally). cutting x true) a)) (cut-met (seeks (Met left) e))

  pub cutting-end : (left : ℕ) → r ≡ Over left → (u : Tally) → u ≡ leaving t left → Counted t (Probing m₀ n c k t) (Ok u) × Steady m₀ m₁
  cutting-end left e u a = subst (λ (u : Tally). Counted t (Probing m₀ n c k t) (Ok u) × Steady m₀ m₁) (sym a) (cut-end (seeks (Over left) e))

  pub cutting-spent : r ≡ Out → (u : Tally) → u ≡ leaving t 0 → Counted t (Probing m₀ n c k t) (Err (Spent u)) × Steady m₀ m₁
  cutting-spent e u a = subst (λ (u : Tally). Counted t (Probing m₀ n c k t) (Err (Spent u)) × Steady m₀ m₁) (sym a) (cut-spent (seeks Out e))

pub cutting-all : (m m₀ m₂ : List ℕ) (n c k : ℕ) (t : Tally) (r : Result Tally Stopped) → k ≤ 8 → First m m₀ k → Counted t (Probing m₀ n c k t) r × Steady m₀ m₂ → Counted t (Probing m n c k t) r × Steady m m₂
cutting-all m m₀ m₂ n c k t r few f p =
    let s = first-steady m m₀ k few f in (
      subst (λ (ts : List Test). Counted t (probing ts (windows_in m k) t) r) (tests-steady m m₀ s n c)
          (subst (λ (ws : List Window). Counted t (probing (tests m₀ n c) ws t) r) (windows-steady m m₀ s k few) p.0),
      steady-more m m₀ m₂ s p.1,
    )
