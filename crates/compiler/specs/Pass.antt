-- What the functions of the pass ask and answer, each of a node of the table.
use Rattle.std.specs.Prelude.{◌≡◌, ℕ, ◌+◌, ◌<◌, ◌≤◌, Bool, not, cond, List, [], ◌∷◌, ◌++◌, length, ℤ, ◌==◌}
use Rattle.std.proofs.lemmas.List.Edits.{sets}
use Rattle.syntax.specs.Ast.{Sort, Ast, prog, bit, low_first, low_number, high_number}
use Rattle.syntax.specs.Table.{Holds, n_times, n_plus, n_minus, n_more_args, n_both}
use Rattle.events.specs.Walk.{Rooted}
use Rattle.events.specs.Visit.{level}
use Rattle.semantics.specs.Int.{add, sub, mul}
use Rattle.semantics.specs.Program.{slot}
use Rattle.ints.specs.Numbers.{comparison}
use Rattle.text_rules.specs.Own.{signed}
use Rattle.text_rules.specs.Resolve.{part}
use Rattle.simulation.specs.Code.{number, operate, compare, own, Entry, leaf, argument, act, Code, entries_of, starts_of}
use Rattle.compiler.specs.Coded.{word, coded}
use Rattle.compiler.specs.Sound.{Sound}
use Rattle.compiler.specs.Compile.{Tokens}

-- the nodes of a resolved program, the values of its tokens, and what they mean
pub record Resolved : Type 0 where
  pub nodes : List ℕ
  pub values : List ℕ
  pub slots : List ℕ

-- there is room in a code for these entries after n
pub record Due (n : ℕ) (es : List Entry) : Type 0 where
  pub space : n + length es ≤ 2052

-- the tree at node i has the level v, and there is room for its code after n entries
pub record Room (v : ℕ) (l : List ℕ) (i : ℕ) (values slots : List ℕ) (n : ℕ) : Type 0 where
  pub sort : Sort
  pub rooted : Rooted sort l i
  pub part : level sort ≡ v
  pub tokens : ℕ
  pub within : Tokens tokens values slots
  pub sound : Sound tokens (word values) (word slots) rooted.tree
  pub due : Due n (coded (word values) (word slots) rooted.tree)

-- a program of at most 16 functions stands at node i; there is room for its code after n entries
pub record RoomP (l : List ℕ) (i : ℕ) (values slots : List ℕ) (n : ℕ) : Type 0 where
  pub rooted : Rooted prog l i
  pub tokens : ℕ
  pub within : Tokens tokens values slots
  pub sound : Sound tokens (word values) (word slots) rooted.tree
  pub due : Due n (coded (word values) (word slots) rooted.tree)
  pub few : length (part (word values) (word slots) rooted.tree []) ≤ 16

-- ---- what is answered

-- the entry that takes two operands, or ends an argument, by the kind of the node: `*`, `+`, `-`, an argument, a comparison by its number c; the right operand or the argument has d entries
unfoldable pub operation_of : ℕ → ℕ → ℕ → Entry
operation_of k c d =
    cond (k == n_times) (act (operate mul d))
    (cond (k == n_plus) (act (operate add d))
    (cond (k == n_minus) (act (operate sub d))
    (cond (k == n_more_args) (argument d) (act (compare (comparison c) d)))))

-- the flag that jumps over the right side of `&&`, where the left side is false, or of `||`, where it is true
unfoldable pub jump_of : ℕ → Bool
jump_of k = not (k == n_both)

-- r is the count of the functions at node i
pub record Functions (l : List ℕ) (i r : ℕ) : Type 0 where
  pub small : r ≤ i
  pub is : (value means : ℕ → ℕ) (p : Ast prog) → Holds l i p → r ≡ length (part value means p [])

-- the entries es come behind those before; where functions begin is as it was
pub record Grown (before after : Code) (es : List Entry) : Type 0 where
  pub entries : after.entries ≡ before.entries ++ es
  pub starts : after.starts ≡ before.starts

-- the code of the tree at node i
pub record Written (l : List ℕ) (i : ℕ) (values slots : List ℕ) (before after : Code) : Type 0 where
  pub is : {s : Sort} (t : Ast s) → Holds l i t → Grown before after (coded (word values) (word slots) t)

-- the code of the program at node i, and where its functions begin
pub record Built (l : List ℕ) (i : ℕ) (values slots : List ℕ) (before after : Code) : Type 0 where
  pub entries : (p : Ast prog) → Holds l i p → after.entries ≡ before.entries ++ entries_of (part (word values) (word slots) p [])
  pub starts : (p : Ast prog) → Holds l i p → after.starts ≡ sets before.starts 0 (starts_of (length before.entries) (part (word values) (word slots) p []))

-- ---- a free declaration with its own pair

-- its code, where its first token is i, and its ends have a minus or not
abbrev pub own_code : (value means : ℕ → ℕ) → ℕ → Bool → Bool → List Entry
own_code value means i a b = leaf (number (signed a (value (low_number (low_first i) a)))) ∷ leaf (number (signed b (value (high_number (low_first i) a b)))) ∷ act (own (slot (means (i + 1)))) ∷ []

-- the number of the end whose first token is i has 31 bits
pub record EndRoom (values : List ℕ) (i minus : ℕ) : Type 0 where
  pub small : word values (i + minus) < 2147483648
  pub tokens : i + minus < 65536

-- r is the end whose first token is i
pub record End (values : List ℕ) (i minus : ℕ) (r : ℤ) : Type 0 where
  pub is : (a : Bool) → minus ≡ bit a → r ≡ signed a (word values (i + bit a))

-- its numbers have 31 bits, its variable is among 16, and there is room for its code after n entries
pub record OwnRoom (values slots : List ℕ) (n i low high : ℕ) : Type 0 where
  pub tokens : i + 5 + low + high < 65536
  pub lower : word values (i + 3 + low) < 2147483648
  pub higher : word values (i + 5 + low + high) < 2147483648
  pub named : i + 1 < length slots
  pub variable : word slots (i + 1) < 16
  pub space : n + 3 ≤ 2052

-- its code is written
pub record OwnWritten (values slots : List ℕ) (before after : Code) (i low high : ℕ) : Type 0 where
  pub is : (a b : Bool) → low ≡ bit a → high ≡ bit b → Grown before after (own_code (word values) (word slots) i a b)
