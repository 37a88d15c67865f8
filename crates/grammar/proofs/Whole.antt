-- What `parse` answers, by what its readers found.
use Prim.Native.Nat.{ℕ, ◌+◌, ◌*◌}
use mathlib.Core.Path.{◌≡◌, sym, ap, ◌∙◌, subst}
use mathlib.Core.Bool.{Bool, true, false}
use mathlib.Core.List.{List}
use Rattle.std.specs.Prelude.{Result, Ok, Err}
use native.Mathlib.Omega.{arith}
use lib.ListN.{length}
use Rattle.syntax.specs.Token.{k_end}
use Rattle.syntax.specs.Tree.{prog, no_funs}
use Rattle.syntax.specs.Abstract.{ast}
use Rattle.syntax.specs.Table.{Holds, n_no_funs, at-no-funs}
use Rattle.grammar.specs.Parse.{Res, ok, bad, and_then, expect, more_prog, read_text, parsed}
use Rattle.grammar.specs.Readers.{Found, Bad, Added, Ready, Gives, tree, none, Reads, Expected}
use Rattle.grammar.specs.Answer as W
use Rattle.grammar.specs.Answer.{Tabled, Parses}
use Rattle.grammar.specs.declared.Read.{Read}
use Rattle.grammar.specs.declared.Table.{Table}
use Rattle.grammar.proofs.Steps.{added-length, written, present, absent, Passed, passed}

-- the first node is that of no functions, and the readers can begin
pub begin-ready : {ks : List ℕ} {o w : Table} {k t a b c r : ℕ} → o.count ≡ 0 → Tabled ks o.nodes.now → Added o w k t a b c r → Ready ks w.nodes.now 0 w.count
begin-ready z h e = record { inside = h.filled; few = h.few; room = omega (arith, h.room, added-length e); below = omega (arith, z, e.count); ends = h.ends }

pub no-funs-at : {ks : List ℕ} {o w : Table} {r : ℕ} → o.count ≡ 0 → Tabled ks o.nodes.now → Added o w n_no_funs 0 0 0 0 r → Holds w.nodes.now r (ast no_funs)
unfolding ast
no-funs-at z h e = record { kind = n_no_funs; at = at-no-funs (written e (omega (arith, z, h.filled, h.room))) }

module _ {ks l m : List ℕ} {n z : ℕ} {q : Result Read ℕ} (ready : Ready ks l 0 n) (f : Reads ks l m 0 n z 0 2 q (λ d. more_prog ks d no_funs)) where
  is : parsed ks ≡ and_then f.res (λ p m. expect ks k_end m (ok p m))
  unfolding read_text
  is = ap (λ (o : Res prog). and_then o (λ p m. expect ks k_end m (ok p m))) (f.reads (8 * length ks + 8) (omega arith))

  pub whole-bad : {p : ℕ} {r : Result ℕ ℕ} → q ≡ Bad p → Passed r p → Parses m r (parsed ks)
  whole-bad {p} e t = subst (λ (o : Result ℕ ℕ). Parses m o (parsed ks)) (sym (passed p t)) (subst (λ (o : Res prog). Parses m (Err p) o) (sym is) (go (subst (λ (o : Result Read ℕ). Gives ks l m 0 n z 0 o f.res) e f.gives)))
    where
      go : {v : Res prog} → Gives ks l m 0 n z 0 (Bad p) v → Parses m (Err p) (and_then v (λ p m. expect ks k_end m (ok p m)))
      go none = W.none

  module _ {x y : ℕ} (e : q ≡ Found x y) where
    given : Gives ks l m 0 n z 0 (Found x y) f.res
    given = subst (λ (o : Result Read ℕ). Gives ks l m 0 n z 0 o f.res) e f.gives

    pub whole-stop : {p : ℕ} {r : Result ℕ ℕ} → Expected ks x k_end (Err p) → Passed r p → Parses m r (parsed ks)
    whole-stop {p} i t = subst (λ (o : Result ℕ ℕ). Parses m o (parsed ks)) (sym (passed p t ∙ ap Err (absent i).1)) (subst (λ (o : Res prog). Parses m (Err x) o) (sym is) (go given))
      where
        go : {v : Res prog} → Gives ks l m 0 n z 0 (Found x y) v → Parses m (Err x) (and_then v (λ p m. expect ks k_end m (ok p m)))
        go (tree {t = t} α β γ δ ε ζ) = subst (λ (b : Bool). Parses m (Err x) (elim b [ true ↦ ok t x | false ↦ bad x ])) (sym (absent i).0) W.none

    pub whole-tree : {u : Unit {0}} → Expected ks x k_end (Ok u) → Parses m (Ok y) (parsed ks)
    whole-tree i = subst (λ (o : Res prog). Parses m (Ok y) o) (sym is) (go given)
      where
        go : {v : Res prog} → Gives ks l m 0 n z 0 (Found x y) v → Parses m (Ok y) (and_then v (λ p m. expect ks k_end m (ok p m)))
        go (tree {t = t} α β γ δ ε ζ) = subst (λ (b : Bool). Parses m (Ok y) (elim b [ true ↦ ok t x | false ↦ bad x ])) (sym (present i)) (W.tree (omega (arith, ready.room, ready.below)) ζ.at)

-- the nodes that were lent are those of the table
pub same-nodes : {l m : List ℕ} {r : Result ℕ ℕ} {x : Res prog} → m ≡ l → Parses l r x → Parses m r x
same-nodes {l} {m} {r} {x} e p = subst (λ (o : List ℕ). Parses o r x) (sym e) p

pub same-length : {l m : List ℕ} (k : List ℕ) → m ≡ l → length l ≡ length k → length m ≡ length k
same-length k e h = ap length e ∙ h
