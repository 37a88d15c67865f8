-- What the functions of the walk ask and answer, each of a node of the table.
use Rattle.std.specs.Prelude.{ℕ, ◌≡◌, Bool, true, false, List, get_or, Option}
use Rattle.syntax.specs.Ast.{Sort, Ast, expr, args, cond, stmt, stmts, body, params, prog}
use Rattle.syntax.specs.Table.{Holds}
use Rattle.events.specs.Walk.{Rooted}
use Rattle.text_rules.specs.Scan.{least}
use Rattle.text_rules.specs.Answers.{least_with}
use Rattle.text_rules.specs.Assigned.{at_end, parameter_count, after, unset, unassigned}
use Rattle.assignment.specs.Group.{only, of_group}

-- ---- what is asked

-- the sorts that an expression is made of; that of a statement; those of statements in a row
pub data OfExpr : Sort → Type 0 where
  expression : OfExpr expr
  arguments : OfExpr args

pub data OfStmt : Sort → Type 0 where
  statement : OfStmt stmt

pub data OfRow : Sort → Type 0 where
  statements : OfRow stmts
  braces : OfRow body

-- a tree of such a sort stands at node i
pub record PartAt (Of : Sort → Type 0) (l : List ℕ) (i : ℕ) : Type 0 where
  pub sort : Sort
  pub part : Of sort
  pub rooted : Rooted sort l i

-- ---- what is answered: of the group from `base` on, whose array is a; p is the least token before, and q the least token then

-- the variable that the name at token i means
abbrev pub slot_at : List ℕ → ℕ → ℕ
slot_at slots i = get_or slots i 0

-- an expression
pub record Read (l : List ℕ) (i : ℕ) (slots : List ℕ) (base : ℕ) (a : List Bool) (p q : Option ℕ) : Type 0 where
  pub found : {s : Sort} → OfExpr s → (t : Ast s) → Holds l i t → q ≡ least_with (unset (slot_at slots) t (only base a)) p

-- a condition: the group when it is true, y, and when it is false, n
pub record Ended (slots : List ℕ) (base : ℕ) (a : List Bool) (p : Option ℕ) (y n : List Bool) (q : Option ℕ) (c : Ast cond) : Type 0 where
  pub yes : (v : ℕ) → only base y v ≡ at_end c true (only base a v)
  pub no : (v : ℕ) → only base n v ≡ at_end c false (only base a v)
  pub found : q ≡ least_with (unset (slot_at slots) c (only base a)) p

pub record Split (l : List ℕ) (i : ℕ) (slots : List ℕ) (base : ℕ) (a : List Bool) (p : Option ℕ) (y n : List Bool) (q : Option ℕ) : Type 0 where
  pub is : (c : Ast cond) → Holds l i c → Ended slots base a p y n q c

-- a statement or statements: the group after them, b
pub record Passed (slots : List ℕ) (base : ℕ) (a : List Bool) (p : Option ℕ) (b : List Bool) (q : Option ℕ) {s : Sort} (t : Ast s) : Type 0 where
  pub set : (v : ℕ) → only base b v ≡ after (slot_at slots) v t (only base a v)
  pub found : q ≡ least_with (unset (slot_at slots) t (only base a)) p

pub record Flowed (Of : Sort → Type 0) (l : List ℕ) (i : ℕ) (slots : List ℕ) (base : ℕ) (a : List Bool) (p : Option ℕ) (b : List Bool) (q : Option ℕ) : Type 0 where
  pub is : {s : Sort} → Of s → (t : Ast s) → Holds l i t → Passed slots base a p b q t

-- the count of the parameters at node i
pub record Counted (l : List ℕ) (i r : ℕ) : Type 0 where
  pub is : (p : Ast params) → Holds l i p → r ≡ parameter_count p

-- a function, or the functions of a program: what the rule finds of the group
pub record Finds (s : Sort) (l : List ℕ) (i : ℕ) (slots : List ℕ) (base : ℕ) (p q : Option ℕ) : Type 0 where
  pub found : (t : Ast s) → Holds l i t → q ≡ least_with (of_group (slot_at slots) base (unset (slot_at slots) t (λ v. false))) p

-- a program: the least token that breaks rule 17
pub record Unassigned (l : List ℕ) (i : ℕ) (slots : List ℕ) (r : Option ℕ) : Type 0 where
  pub is : (p : Ast prog) → Holds l i p → r ≡ least (unassigned (slot_at slots) p)
