-- How many declarations the lookups of a text compare, in one table under one proof.
use Prim.Native.Nat.{ℕ}
use Prim.Native.String.{String}
use mathlib.Core.Path.{◌≡◌, refl}
use mathlib.Core.Bool.{Bool}
use mathlib.Core.List.{List, [], ◌∷◌, map}
use Rattle.lexer.specs.Lex.{bytes, lexed, none_large, scan, front, value_of, decimal, digits_of, longest_within, kind_of, grouped, kind_in, same, all}
use Rattle.lexer.specs.Lex as L
use Rattle.syntax.specs.Tree.{prog}
use Rattle.syntax.specs.Abstract.{ast}
use Rattle.grammar.specs.Parse.{Res, ok, bad, parsed, read_text, more_prog, read_fun, read_params, more_params, read_stmt, read_own, read_decl, read_block, read_ended, read_fail, read_guard, read_named, read_if, read_while, more_body, read_cond, more_cond, read_conj, more_conj, read_atom, read_cmp, read_sum, more_sum, read_term, more_term, read_operand, read_bracket, read_call, read_args, more_args}
use Rattle.events.specs.Event.{events_at, stops, count, first}
use Rattle.text_rules.specs.Rules.{counted}
use Rattle.text_rules.specs.Assigned.{parameter_count}
use Rattle.text_rules.specs.Names.{tallied, many, declared_by, earlier, parameters_of, Name, declared, used, called, names, names_of, for_names, seen, compared}
use Rattle.checker.specs.Check.{Source, source_of, same_in}

pub record Case : Type 0 where
  pub text : String
  pub counts : List ℕ

abbrev case : String → List ℕ → Case
case t ns = record { text = t; counts = ns }

-- a variable's names in the order of the text; "those up to the hit, or all of them if there is none"
abbrev pub table : List Case
table =
    -- a, b, c are new: none, one and two can be seen; a stands behind c and b; d is new behind three; then d, then c behind d, then x, which is not found
    case "int f(int a, int b) { int c; a = 1; { int d; d = c; } return x; }" (0 ∷ 1 ∷ 2 ∷ 3 ∷ 3 ∷ 1 ∷ 2 ∷ 3 ∷ [])
    -- the arms of an if see the same; what they declare ends with them, and functions see nothing of each other
    ∷ case "int f(int a) { if (a < 1) int b; else { int c; int b; } return a; } int g() { return a; }" (0 ∷ 1 ∷ 1 ∷ 1 ∷ 2 ∷ 1 ∷ 0 ∷ [])
    -- a name that is declared again: up to the hit
    ∷ case "int main() { int x; int y; int x; x = y; }" (0 ∷ 1 ∷ 2 ∷ 1 ∷ 2 ∷ [])
    ∷ []

abbrev one : (ℕ → ℕ → Bool) → Name → List ℕ
one eq (declared i n bs) = compared eq (seen bs) i ∷ []
one eq (used i bs) = compared eq (seen bs) i ∷ []
one eq (called i) = []

abbrev in_tree : Source → Res prog → List ℕ
in_tree s (bad m) = []
in_tree s (ok t m) = for_names (one (same_in s)) (names_of (ast t))

unfoldable pub given : Case → List ℕ
given c = elim (lexed (bytes c.text)) [ L.refused n p ↦ [] | L.tokens ts ↦ in_tree (source_of (bytes c.text) ts) (parsed (source_of (bytes c.text) ts).kinds) ]

pub right : map given table ≡ map (λ c. c.counts) table
unfolding given lexed none_large scan front value_of decimal digits_of longest_within kind_of grouped kind_in same all ast read_text more_prog read_fun read_params more_params read_stmt read_own read_decl read_block read_ended read_fail read_guard read_named read_if read_while more_body read_cond more_cond read_conj more_conj read_atom read_cmp read_sum more_sum read_term more_term read_operand read_bracket read_call read_args more_args events_at stops count first counted parameter_count tallied many declared_by earlier parameters_of names for_names seen compared
right = refl
