-- How the answers of readers go together: what is known in the middle of a reader, and how each thing that it does takes that further.
use Prim.Native.Nat.{ℕ, zero, suc, ◌+◌, ◌*◌, ◌-◌, ◌≤◌, ◌<◌}
use mathlib.Core.Path.{◌≡◌, refl, sym, ap, ◌∙◌, subst}
use mathlib.Core.Bool.{Bool, true, false}
use mathlib.Core.List.{List}
use Rattle.std.specs.Prelude.{Result, Ok, Err, IsErr, IsErrAnd}
use native.Mathlib.Omega.{arith}
use native.Mathlib.Decide.{dec_lt}
use lib.ListN.{length, get_or}
use lib.Dec.{eqb}
use borrow.Author.Tests.{eq-eqb, ne_eqb, eqb-true, eqb-false}
use Rattle.syntax.specs.Ast as A
use Rattle.syntax.specs.Ast.{Sort, Ast}
use Rattle.syntax.specs.Tree.{Cat, Tree}
use Rattle.syntax.specs.Abstract.{ast}
use Rattle.syntax.specs.Table.{Row, Holds, n_no_args, n_no_params, at_no_args, at-no-params}
use Rattle.syntax.specs.TokenKinds.{kind_number}
use Rattle.syntax.specs.declared.token.TokenKind.{TokenKind}
use Rattle.syntax.proofs.SameKinds.{same-token}
use Rattle.syntax.proofs.Rows.{Same, same_refl, same-trans, same-less, kept_at, length-row, row_same, row_is}
use Rattle.grammar.specs.Parse.{Res, ok, bad, and_then}
use Rattle.grammar.specs.Readers.{Found, Bad, Added, Ready, Gives, tree, none, Fuel, Reads, expected, Expected}
use Rattle.grammar.specs.declared.Read.{Read}
use Rattle.grammar.specs.declared.Table.{Table}

-- a token that is not the end has one after it
pub not_last : {ks l : List ℕ} {at n k : ℕ} → Ready ks l at n → get_or ks at 0 ≡ k → eqb k 0 ≡ false → at + 1 < length ks
not_last {ks} {l} {at} {n} {k} r e z = go (dec_lt (at + 1) (length ks))
  where
    go : Dec (at + 1 < length ks) → at + 1 < length ks
    go (yes p) = p
    go (no p) = absurd (eqb-false k 0 z (sym e ∙ r.ends at (omega (arith, p, r.inside))))

-- one token is not another
pub clash : {a j k : ℕ} → a ≡ j → eqb j k ≡ false → a ≡ k → ⊥
clash {a} {j} {k} e z f = eqb-false j k z (sym e ∙ f)

-- an expected token is there
pub present : {ks : List ℕ} {x k : ℕ} {u : Unit {0}} → Expected ks x k (Ok u) → eqb (get_or ks x 0) k ≡ true
present {ks} {x} {k} {u} e = go (eqb (get_or ks x 0) k) e.answer
  where
    go : (b : Bool) → Ok u ≡ expected b x → b ≡ true
    go true h = refl
    go false h = cc

pub there : {ks : List ℕ} {x k : ℕ} {u : Unit {0}} → Expected ks x k (Ok u) → get_or ks x 0 ≡ k
there {ks} {x} {k} e = eqb-true (get_or ks x 0) k (present e)

-- or it is not, and its place is told
pub absent : {ks : List ℕ} {x k p : ℕ} → Expected ks x k (Err p) → (eqb (get_or ks x 0) k ≡ false) × (p ≡ x)
absent {ks} {x} {k} {p} e = go (eqb (get_or ks x 0) k) e.answer
  where
    go : (b : Bool) → Err p ≡ expected b x → (b ≡ false) × (p ≡ x)
    go true h = cc
    go false h = (refl, cc)

pub gone : {ks : List ℕ} {x k p : ℕ} → Expected ks x k (Err p) → get_or ks x 0 ≡ k → ⊥
gone {ks} {x} {k} e = eqb-false (get_or ks x 0) k (absent e).0

-- what `?` hands on: the place that a reader or an expected token told
abbrev pub Passed : {A : Type 0} → Result A ℕ → ℕ → Type 0
Passed r p = IsErr r × IsErrAnd r (λ e. e ≡ p)

pub passed : {A : Type 0} {r : Result A ℕ} (p : ℕ) → Passed r p → r ≡ Err p
passed {r = Ok x} p h = let e = h.0 in cc
passed {r = Err e} p h = ap Err h.1

-- a token has a kind, and so its number
pub is_kind : {v : TokenKind} {a : ℕ} (j : TokenKind) → kind_number v ≡ a → v ≡ j → a ≡ kind_number j
is_kind j e i = sym e ∙ ap kind_number i

-- or it hasn't
pub not_kind : {v : TokenKind} {a : ℕ} (j : TokenKind) → kind_number v ≡ a → (v ≡ j → ⊥) → a ≡ kind_number j → ⊥
not_kind j e n f = n (same-token (e ∙ f))

-- a tree stays where it is
pub kept : {s : Sort} {n i : ℕ} {l m : List ℕ} {x : Ast s} → Same n l m → i < n → Holds l i x → Holds m i x
kept s h x = record { kind = x.kind; at = kept_at s h x.at }

-- the node of no arguments
pub none-at : {l : List ℕ} {i : ℕ} → Row l i n_no_args 0 0 0 0 → Holds l i A.no_args
none-at r = record { kind = n_no_args; at = at_no_args r }

-- and that of no parameters
pub no-params-at : {l : List ℕ} {i : ℕ} → Row l i n_no_params 0 0 0 0 → Holds l i A.no_params
no-params-at r = record { kind = n_no_params; at = at-no-params r }

pub row-third : {l : List ℕ} {i k t a b v w : ℕ} → v ≡ w → Row l i k t a b v → Row l i k t a b w
row-third e r = record { kind = r.kind; token = r.token; first = r.first; second = r.second; third = r.third ∙ e }

-- there is room for one more node
pub room_for : {ks l : List ℕ} {at n : ℕ} → Ready ks l at n → 5 * n + 5 ≤ length l
room_for r = omega (arith, r.inside, r.room, r.below)

-- a node that is written, and the others
pub written : {o w : Table} {k t a b c r : ℕ} → Added o w k t a b c r → 5 * o.count + 5 ≤ length o.nodes.now → Row w.nodes.now r k t a b c
written {o} {w} {k} {t} {a} {b} {c} {r} e h =
    let P : ℕ → Type 0 = λ i. Row w.nodes.now i k t a b c in
    subst P (sym e.number) (subst (λ (m : List ℕ). Row m o.count k t a b c) (sym e.row_of) (row_is o.nodes.now o.count k t a b c h))

pub unwritten : {o w : Table} {k t a b c r : ℕ} → Added o w k t a b c r → Same o.count o.nodes.now w.nodes.now
unwritten {o} {w} {k} {t} {a} {b} {c} e = subst (λ (m : List ℕ). Same o.count o.nodes.now m) (sym e.row_of) (row_same o.nodes.now o.count k t a b c)

pub added-length : {o w : Table} {k t a b c r : ℕ} → Added o w k t a b c r → length w.nodes.now ≡ length o.nodes.now
added-length {o} {w} {k} {t} {a} {b} {c} e = ap length e.row_of ∙ length-row o.nodes.now o.count k t a b c

-- what the next reader asks: after a token, after one more node
pub ready-next : {ks l : List ℕ} {at n : ℕ} → Ready ks l at n → at + 1 < length ks → Ready ks l (at + 1) n
ready-next r h = record { inside = h; few = r.few; room = r.room; below = omega (arith, r.below); ends = r.ends }

pub ready-in : {ks : List ℕ} {at : ℕ} {o w : Table} {k t a b c r : ℕ} → Ready ks o.nodes.now at (o.count + 1) → Added o w k t a b c r → Ready ks w.nodes.now at w.count
ready-in r e = record { inside = r.inside; few = r.few; room = omega (arith, r.room, added-length e); below = omega (arith, r.below, e.count); ends = r.ends }

pub ready-added : {ks : List ℕ} {at : ℕ} {o w : Table} {k t a b c r : ℕ} → Ready ks o.nodes.now at o.count → Added o w k t a b c r → o.count < 2 * at + 1 → Ready ks w.nodes.now at w.count
ready-added r e h = record { inside = r.inside; few = r.few; room = omega (arith, r.room, added-length e); below = omega (arith, h, e.count); ends = r.ends }

pub ready_up : {ks l : List ℕ} {at n : ℕ} → Ready ks l at n → n < 2 * at + 1 → Ready ks l at (n + 1)
ready_up r h = record { inside = r.inside; few = r.few; room = r.room; below = omega arith; ends = r.ends }

-- in the middle of the reader `whole`, which began at `at` with n nodes and the table l: it is at token x, with z nodes and the table m; what is left to do is k; the tokens so far leave room for g nodes more, and they are at least f / 2
pub record Sofar {c : Cat} (ks l : List ℕ) (n at rank : ℕ) (whole : ℕ → ℕ → Res c) (g f : ℕ) (m : List ℕ) (x z : ℕ) (k : ℕ → Res c) : Type 0 where
  pub ready : Ready ks m x z
  pub from : at < length ks
  pub under : n ≤ 2 * at + 1
  pub long : length m ≡ length l
  pub same : Same n l m
  pub more : n ≤ z
  pub fit : z + 2 * at + g ≤ n + 2 * x
  pub far : 2 * at + f ≤ 2 * x
  pub goes : (d : ℕ) → Fuel ks rank (suc d) at → whole (suc d) at ≡ k d

pub begin : {c : Cat} {ks l : List ℕ} {n at : ℕ} (rank : ℕ) (whole : ℕ → ℕ → Res c) → Ready ks l at n → Sofar ks l n at rank whole 0 0 l at n (λ d. whole (suc d) at)
begin {l = l} {n} rank whole r = record { ready = r; from = r.inside; under = r.below; long = refl; same = same_refl n l; more = omega arith; fit = omega arith; far = omega arith; goes = λ d w. refl }

-- what a reader's answer with a tree says by itself
pub record Told (ks : List ℕ) (s n at x y z : ℕ) : Type 0 where
  pub inside : x < length ks
  pub rooted : y < z
  pub more : n ≤ z
  pub fit : z + 2 * at + s ≤ n + 2 * x

told-by : {c : Cat} {ks l m : List ℕ} {s n at x y z : ℕ} {v : Res c} → Gives ks l m s n z at (Found x y) v → Told ks s n at x y z
told-by (tree a b c d e f) = record { inside = a; rooted = b; more = c; fit = d }

pub told : {c : Cat} {ks l m : List ℕ} {s n z at rank x y : ℕ} {read : ℕ → ℕ → Res c} → Reads ks l m s n z at rank (Found x y) read → Told ks s n at x y z
told f = told-by f.gives

-- a reader was called in the middle of another, and found a tree
pub record Called {c e : Cat} (ks l : List ℕ) (n at rank : ℕ) (whole : ℕ → ℕ → Res c) (g f : ℕ) (m m' : List ℕ) (z x' y z' : ℕ) (k : ℕ → Tree e → ℕ → Res c) : Type 0 where
  pub tree : Tree e
  pub holds : Holds m' y (ast tree)
  pub rooted : y < z'
  pub same : Same z m m'
  pub more : z ≤ z'
  pub sofar : Sofar ks l n at rank whole g f m' x' z' (λ d. k d tree x')

-- what the next reader asks, after a tree
pub ready-after : {c : Cat} {ks l m : List ℕ} {s n z at rank x y : ℕ} {read : ℕ → ℕ → Res c} → Ready ks l at n → Reads ks l m s n z at rank (Found x y) read → Ready ks m x z
ready-after r f = let t = told f in record { inside = t.inside; few = r.few; room = omega (arith, r.room, f.long); below = omega (arith, r.below, t.fit); ends = r.ends }

module _ {c : Cat} {ks l m : List ℕ} {n at rank g f x z : ℕ} {whole : ℕ → ℕ → Res c} where
  -- the same in other words
  pub same-as : {k k' : ℕ → Res c} → ((d : ℕ) → k d ≡ k' d) → Sofar ks l n at rank whole g f m x z k → Sofar ks l n at rank whole g f m x z k'
  same-as e s = record { ready = s.ready; from = s.from; under = s.under; long = s.long; same = s.same; more = s.more; fit = s.fit; far = s.far; goes = λ d w. s.goes d w ∙ e d }

  -- a test of a token
  pub yes-so : {j k : ℕ} (A B : ℕ → Res c) → j ≡ k → Sofar ks l n at rank whole g f m x z (λ d. elim (eqb j k) [ true ↦ A d | false ↦ B d ]) → Sofar ks l n at rank whole g f m x z A
  yes-so {j} {k} A B e s = record { ready = s.ready; from = s.from; under = s.under; long = s.long; same = s.same; more = s.more; fit = s.fit; far = s.far; goes = λ d w. s.goes d w ∙ ap (λ (b : Bool). elim b [ true ↦ A d | false ↦ B d ]) (eq-eqb j k e) }

  pub not_so : {j k : ℕ} (A B : ℕ → Res c) → (j ≡ k → ⊥) → Sofar ks l n at rank whole g f m x z (λ d. elim (eqb j k) [ true ↦ A d | false ↦ B d ]) → Sofar ks l n at rank whole g f m x z B
  not_so {j} {k} A B e s = record { ready = s.ready; from = s.from; under = s.under; long = s.long; same = s.same; more = s.more; fit = s.fit; far = s.far; goes = λ d w. s.goes d w ∙ ap (λ (b : Bool). elim b [ true ↦ A d | false ↦ B d ]) (ne_eqb j k e) }

  pub swap : {e : Cat} {v w : Res e} (k : ℕ → Tree e → ℕ → Res c) → v ≡ w → Sofar ks l n at rank whole g f m x z (λ d. and_then v (k d)) → Sofar ks l n at rank whole g f m x z (λ d. and_then w (k d))
  swap {e} k q s = same-as (λ d. ap (λ (o : Res e). and_then o (k d)) q) s

  -- the next token is passed
  pub pass : {k : ℕ → Res c} → x + 1 < length ks → Sofar ks l n at rank whole g f m x z k → Sofar ks l n at rank whole (g + 2) (f + 2) m (x + 1) z k
  pass h s = record {
    ready = record { inside = h; few = s.ready.few; room = s.ready.room; below = omega (arith, s.ready.below); ends = s.ready.ends };
    from = s.from;
    under = s.under;
    long = s.long;
    same = s.same;
    more = s.more;
    fit = omega (arith, s.fit);
    far = omega (arith, s.far);
    goes = s.goes;
  }

  pub eat : {k : ℕ} (A B : ℕ → Res c) → get_or ks x 0 ≡ k → eqb k 0 ≡ false → Sofar ks l n at rank whole g f m x z (λ d. elim (eqb (get_or ks x 0) k) [ true ↦ A d | false ↦ B d ]) → Sofar ks l n at rank whole (g + 2) (f + 2) m (x + 1) z A
  eat A B e o s = pass (not_last s.ready e o) (yes-so A B e s)

  pub ate : {k : ℕ} {u : Unit {0}} (A : ℕ → Res c) → Expected ks x k (Ok u) → eqb k 0 ≡ false → Sofar ks l n at rank whole g f m x z (λ d. elim (eqb (get_or ks x 0) k) [ true ↦ A d | false ↦ bad x ]) → Sofar ks l n at rank whole (g + 2) (f + 2) m (x + 1) z A
  ate A e o s = eat A (λ d. bad x) (there e) o s

  module _ {e : Cat} {m' : List ℕ} {s rank' : ℕ} {read : ℕ → ℕ → Res e} (k : ℕ → Tree e → ℕ → Res c) where
    -- a reader is called, and finds a tree
    pub call : {x' y z' : ℕ} → Reads ks m m' s z z' x rank' (Found x' y) read → Sofar ks l n at rank whole g f m x z (λ d. and_then (read d x) (k d)) → rank' + 1 ≤ rank + 4 * f → Called ks l n at rank whole (g + s) (f + s) m m' z x' y z' k
    call {x'} {y} {z'} h so up = go h.res h.reads h.gives
      where
        go : (v : Res e) → ((d : ℕ) → Fuel ks rank' d x → read d x ≡ v) → Gives ks m m' s z z' x (Found x' y) v → Called ks l n at rank whole (g + s) (f + s) m m' z x' y z' k
        go v rd (tree {t = t} α β γ δ ε ζ) = record {
          tree = t;
          holds = ζ;
          rooted = β;
          same = ε;
          more = γ;
          sofar = record {
            ready = record { inside = α; few = so.ready.few; room = omega (arith, so.ready.room, h.long); below = omega (arith, so.fit, so.under); ends = so.ready.ends };
            from = so.from;
            under = so.under;
            long = h.long ∙ so.long;
            same = same-trans so.same (same-less so.more ε);
            more = omega (arith, so.more);
            fit = omega (arith, so.fit);
            far = omega (arith, so.far);
            goes = λ d w. so.goes d w ∙ ap (λ (o : Res e). and_then o (k d)) (rd d (omega (arith, w, so.far)));
          };
        }

    -- it finds none
    pub fail : {s' p z' : ℕ} {r : Result Read ℕ} → Reads ks m m' s z z' x rank' (Bad p) read → Sofar ks l n at rank whole g f m x z (λ d. and_then (read d x) (k d)) → rank' + 1 ≤ rank + 4 * f → Passed r p → Reads ks l m' s' n z' at rank r whole
    fail {s'} {p} {z'} h so up is = subst (λ (o : Result Read ℕ). Reads ks l m' s' n z' at rank o whole) (sym (passed p is)) (go h.res h.reads h.gives)
      where
        go : (v : Res e) → ((d : ℕ) → Fuel ks rank' d x → read d x ≡ v) → Gives ks m m' s z z' x (Bad p) v → Reads ks l m' s' n z' at rank (Bad p) whole
        go v rd none = record { res = bad p; reads = all; gives = none; long = h.long ∙ so.long }
          where
            all : (d : ℕ) → Fuel ks rank d at → whole d at ≡ bad p
            all zero w = absurd (omega (arith, w, so.from))
            all (suc d) w = so.goes d w ∙ ap (λ (o : Res e). and_then o (k d)) (rd d (omega (arith, w, so.far)))

  -- the reader stops
  pub stop : {s p : ℕ} → Sofar ks l n at rank whole g f m x z (λ d. bad p) → Reads ks l m s n z at rank (Bad p) whole
  stop {s} {p} so = record { res = bad p; reads = all; gives = none; long = so.long }
    where
      all : (d : ℕ) → Fuel ks rank d at → whole d at ≡ bad p
      all zero w = absurd (omega (arith, w, so.from))
      all (suc d) w = so.goes d w

  -- it stops where an expected token is not
  pub halt : {s p : ℕ} {r : Result Read ℕ} → p ≡ x → Passed r p → Sofar ks l n at rank whole g f m x z (λ d. bad x) → Reads ks l m s n z at rank r whole
  halt {s} {p} e is so = subst (λ (o : Result Read ℕ). Reads ks l m s n z at rank o whole) (sym (passed p is ∙ ap Err e)) (stop so)

  pub missed : {s p k : ℕ} {r : Result Read ℕ} (A : ℕ → Res c) → Expected ks x k (Err p) → Passed r p → Sofar ks l n at rank whole g f m x z (λ d. elim (eqb (get_or ks x 0) k) [ true ↦ A d | false ↦ bad x ]) → Reads ks l m s n z at rank r whole
  missed A e is so = halt (absent e).1 is (not_so A (λ d. bad x) (gone e) so)

  -- it ends with a tree
  pub found : {s y : ℕ} {t : Tree c} {r : Result Read ℕ} → Sofar ks l n at rank whole g f m x z (λ d. ok t x) → Holds m y (ast t) → y < z → s ≤ g → r ≡ Found x y → Reads ks l m s n z at rank r whole
  found {s} {y} {t} {r} so h b le eq = record { res = ok t x; reads = all; gives = subst (λ (o : Result Read ℕ). Gives ks l m s n z at o (ok t x)) (sym eq) (tree so.ready.inside b so.more (omega (arith, so.fit)) so.same h); long = so.long }
    where
      all : (d : ℕ) → Fuel ks rank d at → whole d at ≡ ok t x
      all zero w = absurd (omega (arith, w, so.from))
      all (suc d) w = so.goes d w

  -- it hands over to another
  pub hand : {m' : List ℕ} {s s' z' rank' : ℕ} {r : Result Read ℕ} {read : ℕ → ℕ → Res c} → Reads ks m m' s' z z' x rank' r read → Sofar ks l n at rank whole g f m x z (λ d. read d x) → rank' + 1 ≤ rank + 4 * f → s ≤ g + s' → Reads ks l m' s n z' at rank r whole
  hand {m'} {s} {s'} {z'} {rank'} {r} {read} h so up le = record { res = h.res; reads = all; gives = go h.gives; long = h.long ∙ so.long }
    where
      all : (d : ℕ) → Fuel ks rank d at → whole d at ≡ h.res
      all zero w = absurd (omega (arith, w, so.from))
      all (suc d) w = so.goes d w ∙ h.reads d (omega (arith, w, so.far))

      go : {o : Result Read ℕ} {v : Res c} → Gives ks m m' s' z z' x o v → Gives ks l m' s n z' at o v
      go (tree α β γ δ ε ζ) = tree α β (omega (arith, so.more)) (omega (arith, so.fit)) (same-trans so.same (same-less so.more ε)) ζ
      go none = none

-- a node is written in the middle of a reader
pub wrote : {c : Cat} {ks l : List ℕ} {n at rank g f x : ℕ} {whole : ℕ → ℕ → Res c} {q : ℕ → Res c} {o w : Table} {k t a b v r : ℕ} → Added o w k t a b v r → Sofar ks l n at rank whole g f o.nodes.now x o.count q → 1 ≤ g → Sofar ks l n at rank whole (g - 1) f w.nodes.now x w.count q
wrote e s h = record {
  ready = record { inside = s.ready.inside; few = s.ready.few; room = omega (arith, s.ready.room, added-length e); below = omega (arith, s.fit, s.under, e.count); ends = s.ready.ends };
  from = s.from;
  under = s.under;
  long = added-length e ∙ s.long;
  same = same-trans s.same (same-less s.more (unwritten e));
  more = omega (arith, s.more, e.count);
  fit = omega (arith, s.fit, e.count);
  far = s.far;
  goes = s.goes;
}

-- a node is written before a reader begins
pub before : {c : Cat} {ks m : List ℕ} {s z at rank : ℕ} {r : Result Read ℕ} {whole : ℕ → ℕ → Res c} {o w : Table} {k t a b v i : ℕ} → Added o w k t a b v i → Reads ks w.nodes.now m (s + 1) w.count z at rank r whole → Reads ks o.nodes.now m s o.count z at rank r whole
before {c} {ks} {m} {s} {z} {at} {o = o} {w} e f = record { res = f.res; reads = f.reads; gives = go f.gives; long = f.long ∙ added-length e }
  where
    go : {q : Result Read ℕ} {u : Res c} → Gives ks w.nodes.now m (s + 1) w.count z at q u → Gives ks o.nodes.now m s o.count z at q u
    go (tree α β γ δ ε ζ) = tree α β (omega (arith, γ, e.count)) (omega (arith, δ, e.count)) (same-trans (unwritten e) (same-less (omega (arith, e.count)) ε)) ζ
    go none = none
