-- What the functions of the writer promise each other, of a node of the table.
use Rattle.std.specs.Prelude.{ℕ, ◌+◌, ◌<◌, ◌≡◌, Bool, false, cond, List, [], ◌++◌, eqb, ltb, length, get_or}
use Rattle.syntax.specs.Ast.{Sort, Ast, prog}
use Rattle.syntax.specs.Source.{Source}
use Rattle.syntax.specs.Table.{Holds, n_number, n_negative, n_name, n_times, n_plus, n_minus, n_more_args, n_always, n_never, n_both, n_either, n_empty, n_declare, n_declare_free, n_fail, n_more_params}
use Rattle.lexer.specs.Lex.{bytes}
use Rattle.events.specs.Walk.{Below, Rooted}
use Rattle.events.specs.Visit.{level}
use Rattle.text_rules.specs.Spelling.{spelled_in}
use Rattle.printing.specs.Decimal.{natural}
use Rattle.printing.specs.Written.{most, Put}
use Rattle.house_style.specs.Named.{strip}
use Rattle.house_style.specs.House.{flat, indent, laid}
use Rattle.writer.specs.Write.{Answer, left, into}
use Rattle.writer.specs.declared.Pen.{Pen}

-- a line of the depth d: its indent, a head, what stands in it, a tail
abbrev pub line_bytes : ℕ → (head within tail : List ℕ) → List ℕ
line_bytes d head w tail = indent d ++ (head ++ (w ++ tail))

-- a tree of the level v stands at node i (0: part of an expression or a condition, 1: of a statement, 2: of a program), and its tokens are few
pub record Part (v : ℕ) (l : List ℕ) (i : ℕ) : Type 0 where
  pub sort : Sort
  pub rooted : Rooted sort l i
  pub part : level sort ≡ v
  pub tokens : Below 65536 rooted.tree

-- a pen puts bytes, into the slice that it was lent
pub record Puts (o w : Pen) (bs : List ℕ) : Type 0 where
  pub same : w.out.ghost_name ≡ o.out.ghost_name
  pub put : Put o.out.now o.at bs w.out.now w.at

-- the value of a token
abbrev pub value_in : Source → ℕ → ℕ
value_in s i = get_or s.values i 0

-- the bytes of the tree t of a text, n being its rank or its depth
abbrev pub shown_in : {s : Sort} → Source → ℕ → Ast s → List ℕ
shown_in s n t = flat (laid n (strip (spelled_in s) (value_in s) t) [])

-- the bytes of the tree at node i are put, n being its rank or its depth
pub record Lays (s : Source) (l : List ℕ) (i n : ℕ) (o w : Pen) : Type 0 where
  pub same : w.out.ghost_name ≡ o.out.ghost_name
  pub is : {u : Sort} (t : Ast u) → Holds l i t → Put o.out.now o.at (shown_in s n t) w.out.now w.at

-- a line of the depth d: a head, the tree at node i and a tail
pub record Lines (s : Source) (l : List ℕ) (i d : ℕ) (head tail : List ℕ) (o w : Pen) : Type 0 where
  pub same : w.out.ghost_name ≡ o.out.ghost_name
  pub is : {u : Sort} (t : Ast u) → Holds l i t → Put o.out.now o.at (line_bytes d head (shown_in s 0 t) tail) w.out.now w.at

-- the program at node i is put whole, or refused with 20 and nothing put
pub record Fills (s : Source) (l : List ℕ) (i : ℕ) (before : List ℕ) (a : Answer) (after : List ℕ) : Type 0 where
  pub is : (t : Ast prog) → Holds l i t → length (shown_in s 0 t) < most → left a after ≡ into (shown_in s 0 t) before

-- whether an operation of the kind k stands in brackets at a place of the rank n, and the ranks of its sides
abbrev pub bracketed : ℕ → ℕ → Bool
bracketed k n = cond (eqb k n_times) (ltb 1 n) (cond (eqb k n_plus) (ltb 0 n) (cond (eqb k n_minus) (ltb 0 n) false))

abbrev pub left_rank : ℕ → ℕ
left_rank k = cond (eqb k n_times) 1 0

abbrev pub right_rank : ℕ → ℕ
right_rank k = cond (eqb k n_times) 2 (cond (eqb k n_plus) 1 (cond (eqb k n_minus) 1 0))

-- a mark, if b
abbrev pub if_so : Bool → List ℕ → List ℕ
if_so b w = cond b w []

-- the sign of a comparison with the number o, and of an operation of the kind k, with their blanks
abbrev pub comparison_sign : ℕ → List ℕ
comparison_sign o = cond (eqb o 0) (bytes " < ") (cond (eqb o 1) (bytes " <= ") (cond (eqb o 2) (bytes " > ") (cond (eqb o 3) (bytes " >= ") (cond (eqb o 4) (bytes " == ") (bytes " != ")))))

abbrev pub sign_of : ℕ → ℕ → List ℕ
sign_of k o = cond (eqb k n_times) (bytes " * ") (cond (eqb k n_plus) (bytes " + ") (cond (eqb k n_minus) (bytes " - ") (cond (eqb k n_both) (bytes " && ") (cond (eqb k n_either) (bytes " || ") (comparison_sign o)))))

-- the bytes of a part of the kind k that holds no other part, at token i
abbrev pub leaf_bytes : (ℕ → List ℕ) → (ℕ → ℕ) → ℕ → ℕ → List ℕ
leaf_bytes spell value k i =
    cond (eqb k n_number) (natural (value i)) (cond (eqb k n_negative) (bytes "-" ++ natural (value (i + 1))) (cond (eqb k n_name) (spell i) (cond (eqb k n_always) (bytes "true") (cond (eqb k n_never) (bytes "false") []))))

-- what stands behind arguments or parameters whose node has the kind k, before one more
abbrev pub comma_after : ℕ → List ℕ
comma_after k = cond (eqb k n_more_args) (bytes ", ") (cond (eqb k n_more_params) (bytes ", ") [])

-- the end of a pair whose first token is i, with a minus unless m is 0
abbrev pub end_bytes : (ℕ → ℕ) → ℕ → ℕ → List ℕ
end_bytes value i m = cond (eqb m 0) (natural (value i)) (bytes "-" ++ natural (value (i + 1)))

-- the pair whose low end has the first token t, each end with a minus unless a or b is 0, and the end of its declaration
abbrev pub pair_bytes : (ℕ → ℕ) → ℕ → ℕ → ℕ → List ℕ
pair_bytes value t a b = end_bytes value t a ++ (bytes " .. " ++ (end_bytes value (t + a + 2) b ++ bytes ";\n"))

-- a declaration at token i, with what stands behind its name
abbrev pub declared_bytes : (ℕ → List ℕ) → ℕ → ℕ → List ℕ → List ℕ
declared_bytes spell d i tail = indent d ++ (bytes "int " ++ (spell (i + 1) ++ tail))

-- the bytes of a statement of the kind k that holds no other part, at token i
abbrev pub plain_bytes : (ℕ → List ℕ) → ℕ → ℕ → ℕ → List ℕ
plain_bytes spell d k i =
    cond (eqb k n_empty) (indent d ++ bytes ";\n") (cond (eqb k n_fail) (indent d ++ bytes "fail;\n") (cond (eqb k n_declare) (declared_bytes spell d i (bytes ";\n")) (cond (eqb k n_declare_free) (declared_bytes spell d i (bytes " free;\n")) [])))
