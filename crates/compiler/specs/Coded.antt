-- The code of each part of a syntax tree: that of the part of the resolved program which it becomes.
use Rattle.std.specs.Prelude.{ℕ, List, [], slice_index}
use Rattle.syntax.specs.Ast.{Sort, Ast}
use Rattle.syntax.specs.Ast as A
use Rattle.semantics.specs.Program.{Program}
use Rattle.semantics.specs.Program as P
use Rattle.simulation.specs.Code.{Entry, code_e, code_es, code_c, code_s, code_ss, code_b, entries_of}
use Rattle.text_rules.specs.Resolve.{Part, part}

-- of arguments, statements and functions: nothing follows them
abbrev pub code_as : (s : Sort) → Part s → List Entry
code_as A.expr e = code_e e
code_as A.args f = code_es (f P.none)
code_as A.mark o = []
code_as A.cond c = code_c c
code_as A.stmt s = code_s s
code_as A.stmts f = code_ss (f P.end)
code_as A.body ss = code_ss ss
code_as A.params n = []
code_as A.fun b = code_b b
code_as A.prog f = entries_of (f [])

abbrev pub coded : (value means : ℕ → ℕ) → {s : Sort} → Ast s → List Entry
coded value means {s} t = code_as s (part value means t)

-- word i of a slice; what the tokens' values and meanings are in two slices
abbrev pub word : List ℕ → ℕ → ℕ
word l i = slice_index l i

-- the program of a tree, whose numbers and names stand for what these slices say
abbrev pub program : (values slots : List ℕ) (main : ℕ) → Ast A.prog → Program
program values slots main p = record { bodies = part (word values) (word slots) p []; main = main }
