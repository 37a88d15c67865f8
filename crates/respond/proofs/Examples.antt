-- Document 01's sample, from the input's bytes to the bytes printed, by computation.
use mathlib.Core.Path.{◌≡◌, refl}
use mathlib.Core.List.{[], ◌∷◌, ◌++◌}
use Rattle.lexer.specs.Lex.{bytes, lexed, none_large, scan, front, value_of, decimal, digits_of, longest_within, kind_of, grouped, kind_in, same, all}
use Rattle.syntax.specs.Abstract.{ast}
use Rattle.grammar.specs.Parse.{read_text, more_prog, read_fun, read_params, more_params, read_stmt, read_own, read_decl, read_block, read_ended, read_fail, read_guard, read_named, read_if, read_while, more_body, read_cond, more_cond, read_conj, more_conj, read_atom, read_cmp, read_sum, more_sum, read_term, more_term, read_operand, read_bracket, read_call, read_args, more_args}
use Rattle.events.specs.Event.{events, events_at, stops, count, first}
use Rattle.text_rules.specs.Scan as R
use Rattle.text_rules.specs.Scan.{on, least, lesser}
use Rattle.text_rules.specs.Rules.{deep, parameters, heads, function_of, arity_of, wrong, miscounted, mains, with_parameters, bad_main, unended, counted, over}
use Rattle.text_rules.specs.Names.{tallied, many, declared_by, earlier, parameters_of, names, for_names, in_block, sought, misnamed, uncalled, repeated, named, meant}
use Rattle.text_rules.specs.Assigned.{parameter_count, at_end, after, unset}
use Rattle.text_rules.specs.Own.{owns, breaching}
use Rattle.text_rules.specs.Resolve.{part, main_of}
use Rattle.checker.specs.Check.{rules_of, first_broken, checked_tokens, checked, program_of}
use Rattle.semantics.specs.Int.{arith, exact, wrap, low32, holds, eq_z}
use Rattle.semantics.specs.Does.{within, does, enter, stmt, loop, cond, expr, frame}
use Rattle.semantics.specs.Run.{each, numbers, clamp, counting}
use Rattle.semantics.specs.Search as S
use Rattle.semantics.specs.Search.{answer, search, openly, probed_once, moves, paths, probed, tried, settings, meets, narrowed, clipped, clip, decided, always, range, fitted, span, max_z, min_z, all32, under, work}
use Rattle.list.specs.List.{program, ground, list}
use Rattle.lines.specs.JobLine.{plain, minus, number_of, place, job_in, line_job}
use Rattle.printing.specs.Decimal.{digits, natural, integer}
use Rattle.lines.specs.Print.{refusal, spaced, row_line, row_lines, ending, last_line}
use Rattle.lines.specs.Written.{row_from, rows_from}
use Rattle.respond.specs.Output.{listing, answered, shown, output}

-- "Input `job 0 3 100`, then A below, prints in full:"
pub sample : output (bytes "job 0 3 100" ++ 10 ∷ bytes "int main() { int y free; if (y < 2) return y; else fail; }")
    ≡ bytes "0 : 0" ++ 10 ∷ bytes "1 : 1" ++ 10 ∷ bytes "whole 2 rows 9 moves" ++ 10 ∷ []
unfolding output answered listing shown list ground program checked lexed none_large scan front value_of decimal digits_of longest_within kind_of grouped kind_in same all ast read_text more_prog read_fun read_params more_params read_stmt read_own read_decl read_block read_ended read_fail read_guard read_named read_if read_while more_body read_cond more_cond read_conj more_conj read_atom read_cmp read_sum more_sum read_term more_term read_operand read_bracket read_call read_args more_args events events_at stops count first on R.scan least lesser deep parameters heads function_of arity_of wrong miscounted mains with_parameters bad_main unended counted over tallied many declared_by earlier parameters_of names for_names in_block sought misnamed uncalled repeated named meant parameter_count at_end after unset owns breaching part main_of rules_of first_broken checked_tokens program_of S.listed answer search openly probed_once moves paths probed tried settings meets narrowed clipped clip decided always range fitted span max_z min_z all32 under work each numbers clamp counting within does enter stmt loop cond expr frame holds eq_z arith exact wrap low32 plain minus number_of place job_in line_job digits natural integer refusal spaced row_line row_lines ending last_line row_from rows_from
sample = refl
