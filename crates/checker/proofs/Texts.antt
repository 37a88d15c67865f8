-- Texts of document 01 and what check answers, in one table under one proof.
use Prim.Native.String.{String}
use mathlib.Core.Path.{◌≡◌, refl}
use mathlib.Core.List.{List, [], ◌∷◌, map}
use Rattle.lexer.specs.Lex.{bytes, lexed, none_large, scan, front, value_of, decimal, digits_of, longest_within, kind_of, grouped, kind_in, same, all}
use Rattle.syntax.specs.Abstract.{ast}
use Rattle.grammar.specs.Parse.{read_text, more_prog, read_fun, read_params, more_params, read_stmt, read_own, read_decl, read_block, read_ended, read_fail, read_guard, read_named, read_if, read_while, more_body, read_cond, more_cond, read_conj, more_conj, read_atom, read_cmp, read_sum, more_sum, read_term, more_term, read_operand, read_bracket, read_call, read_args, more_args}
use Rattle.events.specs.Event.{events, events_at, stops, count, first}
use Rattle.text_rules.specs.Scan as R
use Rattle.text_rules.specs.Scan.{on, least, lesser}
use Rattle.text_rules.specs.Rules.{deep, parameters, heads, function_of, arity_of, wrong, miscounted, mains, with_parameters, bad_main, unended, counted, over}
use Rattle.text_rules.specs.Names.{tallied, many, declared_by, earlier, parameters_of, names, for_names, in_block, sought, misnamed, uncalled, repeated, named, meant}
use Rattle.text_rules.specs.Assigned.{parameter_count, at_end, after, unset}
use Rattle.text_rules.specs.Own.{owns, breaching}
use Rattle.semantics.specs.Run.{numbers, counting, clamp}
use Rattle.checker.specs.Check.{Verdict, accepted, refused, rules_of, first_broken, checked_tokens, checked}

pub record Case : Type 0 where
  pub text : String
  pub answer : Verdict

abbrev case : String → Verdict → Case
case t v = record { text = t; answer = v }

abbrev pub table : List Case
table =
    case "int main() { int y free; if (y < 2) return y; else fail; }" accepted
    ∷ case "" (refused 8 0)
    ∷ case "int f(int a) { return a; } int main() { return f(1, 2); }" (refused 7 47)
    ∷ case "int main() { int x; { int x; } return 1; }" (refused 6 26)
    ∷ case "int main() { int x; return x; }" (refused 17 27)
    ∷ case "int main() { int x; if (1 < 2 && true) x = 1; else fail; return x; }" accepted
    ∷ case "int main() { int x; if (1 < 2) x = 1; else ; return x; }" (refused 17 52)
    ∷ case "int main() { int x; if (true || x < 1) x = 1; else ; return x; }" accepted
    ∷ case "int main() { int x; while (true) ; return x; }" accepted
    ∷ case "int main() { int x free -5..-4; return x; }" accepted
    ∷ case "int main() { int x free 5; return x; }" (refused 4 25)
    ∷ case "int main() { int x free 0 .. 9; int y free -5 .. -6; return x; }" (refused 18 43)
    ∷ case "int main() { int x free 0 .. 4095; return x; }" accepted
    ∷ case "int main() { int x free 3 .. 5; int y free -1 .. 4095; return x; }" (refused 19 43)
    ∷ []

unfoldable pub given : Case → Verdict
given c = checked (bytes c.text)

pub right : map given table ≡ map (λ c. c.answer) table
unfolding given checked lexed none_large scan front value_of decimal digits_of longest_within kind_of grouped kind_in same all ast read_text more_prog read_fun read_params more_params read_stmt read_own read_decl read_block read_ended read_fail read_guard read_named read_if read_while more_body read_cond more_cond read_conj more_conj read_atom read_cmp read_sum more_sum read_term more_term read_operand read_bracket read_call read_args more_args events events_at stops count first on R.scan least lesser deep parameters heads function_of arity_of wrong miscounted mains with_parameters bad_main unended counted over tallied many declared_by earlier parameters_of names for_names in_block sought misnamed uncalled repeated named meant parameter_count at_end after unset owns breaching numbers counting clamp rules_of first_broken checked_tokens
right = refl
