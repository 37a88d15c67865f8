-- Texts, and the offsets that remarks tells of them.
use Prim.Native.Nat.{ℕ}
use Prim.Native.String.{String}
use mathlib.Core.Path.{◌≡◌, refl}
use mathlib.Core.List.{List, [], ◌∷◌, map}
use Rattle.lexer.specs.Lex as L
use Rattle.lexer.specs.Lex.{bytes, lexed, none_large, front, value_of, decimal, digits_of, longest_within, kind_of, grouped, kind_in, same, all}
use Rattle.syntax.specs.Abstract.{ast}
use Rattle.grammar.specs.Parse.{read_text, more_prog, read_fun, read_params, more_params, read_stmt, read_own, read_decl, read_block, read_ended, read_fail, read_guard, read_named, read_if, read_while, more_body, read_cond, more_cond, read_conj, more_conj, read_atom, read_cmp, read_sum, more_sum, read_term, more_term, read_operand, read_bracket, read_call, read_args, more_args}
use Rattle.events.specs.Event.{events, events_at, stops, count, first}
use Rattle.text_rules.specs.Scan as R
use Rattle.text_rules.specs.Rules.{parameters, heads, function_of}
use Rattle.text_rules.specs.Resolve.{main_of}
use Rattle.remarks.specs.Remarks.{begun, called_by, is_call, chained, offsets_from, offsets_in, offsets_of}

-- a text and its offsets
pub record Case : Type 0 where
  pub text : String
  pub offsets : List ℕ

abbrev case : String → List ℕ → Case
case s os = record { text = s; offsets = os }

unfoldable pub cases : List Case
cases =
    -- g and h call each other, main calls f
    case "int f() { return 1; } int g() { return h(); } int h() { return g(); } int main() { return f(); }" (26 ∷ 50 ∷ [])
    -- a call in code that can't be reached is a call in the text
    ∷ case "int f() { return 1; } int main() { fail; return f(); }" []
    -- one that calls main, and one that calls it; nobody calls main
    ∷ case "int g() { return main(); } int main() { return 1; } int k() { return g(); }" (4 ∷ 56 ∷ [])
    -- a chain of two calls
    ∷ case "int main() { return f(); } int g() { fail; } int f() { return g(); }" []
    ∷ []

abbrev told : Case → List ℕ
told c = offsets_of (bytes c.text)

pub right : map told cases ≡ map (λ (c : Case). c.offsets) cases
unfolding cases lexed none_large L.scan front value_of decimal digits_of longest_within kind_of grouped kind_in same all ast read_text more_prog read_fun read_params more_params read_stmt read_own read_decl read_block read_ended read_fail read_guard read_named read_if read_while more_body read_cond more_cond read_conj more_conj read_atom read_cmp read_sum more_sum read_term more_term read_operand read_bracket read_call read_args more_args events events_at stops count first R.scan parameters heads function_of main_of begun called_by is_call chained offsets_from offsets_in offsets_of
right = refl
