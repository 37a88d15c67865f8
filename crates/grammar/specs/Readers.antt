-- What the readers promise each other. A user of `parse` needs Answer alone.
use Rattle.std.specs.Prelude.{ℕ, suc, ◌+◌, ◌*◌, ◌≤◌, ◌<◌, ◌≡◌, Bool, true, false, List, length, get_or, eqb, Option, Some, None, Result, Ok, Err}
use Rattle.syntax.specs.Token.{k_plus, k_minus, k_less, k_less_eq, k_greater, k_greater_eq, k_equal, k_unequal}
use Rattle.syntax.specs.Tree.{Cat, Tree, no_stmts}
use Rattle.syntax.specs.Abstract.{ast}
use Rattle.syntax.specs.Table.{row, Row, Holds}
use Rattle.syntax.specs.declared.node.NodeKind.{NodeKind}
use Rattle.syntax.specs.declared.node.NodeKind.TheVariants.{Plus, Minus}
use Rattle.syntax.proofs.Rows.{Same}
use Rattle.grammar.specs.Parse.{Res, ok, bad, read_ended, more_body}
use Rattle.grammar.specs.declared.Read.{Read}
use Rattle.grammar.specs.declared.Table.{Table}

-- what a reader answers: the token after a tree and its root
abbrev pub Found : ℕ → ℕ → Result Read ℕ
Found x y = Ok (record { next = x; root = y })

-- or that a token does not fit
abbrev pub Bad : ℕ → Result Read ℕ
Bad p = Err p

-- a node is written behind the others, and its number answered
pub record Added (o w : Table) (k t a b c r : ℕ) : Type 0 where
  pub number : r ≡ o.count
  pub count : w.count ≡ o.count + 1
  pub row_of : w.nodes.now ≡ row o.nodes.now o.count k t a b c
  pub same : w.nodes.ghost_name ≡ o.nodes.ghost_name

-- whether a minus stands at `at`
abbrev pub is_minus : List ℕ → ℕ → Bool
is_minus ks at = eqb (get_or ks at 0) k_minus

-- `at` is a token, and the last token is the end
pub record Inside (ks : List ℕ) (at : ℕ) : Type 0 where
  pub inside : at < length ks
  pub few : length ks ≤ 4096
  pub ends : (a : ℕ) → suc a ≡ length ks → get_or ks a 0 ≡ 0

-- what a reader asks: `at` is a token, the last token is the end, there is room for two nodes for each token, and no more are used so far
pub record Ready (ks l : List ℕ) (at n : ℕ) : Type 0 where
  pub inside : at < length ks
  pub few : length ks ≤ 4096
  pub room : 10 * length ks ≤ length l
  pub below : n ≤ 2 * at + 1
  pub ends : (a : ℕ) → suc a ≡ length ks → get_or ks a 0 ≡ 0

-- what a reader that starts at `at` with n nodes and ends with z answers, by what the definition gives:
-- the tree stands in the table m, the nodes below n are as in l, and there are not more than two nodes for each token, less s
pub data Gives (ks l m : List ℕ) (s n z at : ℕ) {c : Cat} : Result Read ℕ → Res c → Type 0 where
  tree : {t : Tree c} {next root : ℕ} → next < length ks → root < z → n ≤ z → z + 2 * at + s ≤ n + 2 * next
      → Same n l m → Holds m root (ast t) → Gives ks l m s n z at (Found next root) (ok t next)
  none : {p : ℕ} → Gives ks l m s n z at (Bad p) (bad p)

-- d is enough for the definition's reader of this rank
abbrev pub Fuel : List ℕ → ℕ → ℕ → ℕ → Type 0
Fuel ks rank d at = 8 * length ks + rank ≤ d + 8 * at

-- what a reader promises of its nodes, by the definition's reader
pub record Reads {c : Cat} (ks l m : List ℕ) (s n z at rank : ℕ) (r : Result Read ℕ) (read : ℕ → ℕ → Res c) : Type 0 where
  pub res : Res c
  pub reads : (d : ℕ) → Fuel ks rank d at → read d at ≡ res
  pub gives : Gives ks l m s n z at r res
  pub long : length m ≡ length l

-- what a reader promises: these are the nodes of its table, which stays the one that was lent
pub record Fresh {c : Cat} (ks : List ℕ) (o w : Table) (s at rank : ℕ) (r : Result Read ℕ) (read : ℕ → ℕ → Res c) : Type 0 where
  pub same : w.nodes.ghost_name ≡ o.nodes.ghost_name
  pub tells : Reads ks o.nodes.now w.nodes.now s o.count w.count at rank r read

-- the same of a reader that goes on from a tree at node left
pub record Rest {c e : Cat} (ks : List ℕ) (o w : Table) (s left at rank : ℕ) (r : Result Read ℕ) (more : ℕ → Tree c → ℕ → Res e) : Type 0 where
  pub same : w.nodes.ghost_name ≡ o.nodes.ghost_name
  pub after : (u : Tree c) → Holds o.nodes.now left (ast u) → Reads ks o.nodes.now w.nodes.now s o.count w.count at rank r (λ d. more d u)

-- the same of the reader of statements with the closing brace
pub record Bodies (ks : List ℕ) (o w : Table) (at : ℕ) (r : Result Read ℕ) : Type 0 where
  pub same : w.nodes.ghost_name ≡ o.nodes.ghost_name
  pub all : Reads ks o.nodes.now w.nodes.now 0 o.count w.count at 8 r (λ d. more_body ks d no_stmts)

-- a node of kind k over an expression, with the token j, is the statement w
pub record Makes (k j : ℕ) (w : Tree Cat.sum → Tree Cat.stmt) : Type 0 where
  pub make : {l : List ℕ} {i a : ℕ} (t : Tree Cat.sum) → Row l i k j a 0 0 → a < i → Holds l a (ast t) → Holds l i (ast (w t))

-- what the reader of e ; promises
pub record Ended (ks : List ℕ) (o w : Table) (at k j : ℕ) (r : Result Read ℕ) : Type 0 where
  pub same : w.nodes.ghost_name ≡ o.nodes.ghost_name
  pub ended : (v : Tree Cat.sum → Tree Cat.stmt) → Makes k j v → Reads ks o.nodes.now w.nodes.now 1 o.count w.count at 5 r (read_ended ks v)

-- whether the token at `at` is of the kind k; if not, its number is told
abbrev pub expected : Bool → ℕ → Result (Unit {0}) ℕ
expected true at = Ok tt
expected false at = Err at

pub record Expected (ks : List ℕ) (at k : ℕ) (r : Result (Unit {0}) ℕ) : Type 0 where
  pub answer : r ≡ expected (eqb (get_or ks at 0) k) at

abbrev pub choose : {A : Type 0} → Bool → A → A → A
choose true a b = a
choose false a b = b

-- the node of a sum by its mark
abbrev pub sign_of : ℕ → Option NodeKind
sign_of k = choose (eqb k k_plus) (Some Plus) (choose (eqb k k_minus) (Some Minus) None)

-- a comparison's number by its mark
abbrev pub comparison_of : ℕ → Option ℕ
comparison_of k =
    choose (eqb k k_less) (Some 0) (choose (eqb k k_less_eq) (Some 1) (choose (eqb k k_greater) (Some 2) (choose (eqb k k_greater_eq) (Some 3) (choose (eqb k k_equal) (Some 4) (choose (eqb k k_unequal) (Some 5) None)))))
