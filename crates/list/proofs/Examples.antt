-- Document 01's starred "Rules tried by hand", from their texts, in one table under one proof by computation; and with them what document 02 adds to the texts.
use Prim.Native.Nat.{ℕ}
use Prim.Native.String.{String}
use mathlib.Core.Path.{◌≡◌, refl}
use mathlib.Core.List.{List, [], ◌∷◌, map}
use lib.IntN.{ℤ, pos, negsuc}
use lib.ListN.{length, replicate}
use Rattle.lexer.specs.Lex.{bytes, lexed, none_large, scan, front, value_of, decimal, digits_of, longest_within, kind_of, grouped, kind_in, same, all}
use Rattle.syntax.specs.Abstract.{ast}
use Rattle.grammar.specs.Parse.{read_text, more_prog, read_fun, read_params, more_params, read_stmt, read_own, read_decl, read_block, read_ended, read_fail, read_guard, read_named, read_if, read_while, more_body, read_cond, more_cond, read_conj, more_conj, read_atom, read_cmp, read_sum, more_sum, read_term, more_term, read_operand, read_bracket, read_call, read_args, more_args}
use Rattle.events.specs.Event.{events, events_at, stops, count, first}
use Rattle.text_rules.specs.Scan as R
use Rattle.text_rules.specs.Scan.{on, least, lesser}
use Rattle.text_rules.specs.Rules.{deep, parameters, heads, function_of, arity_of, wrong, miscounted, mains, with_parameters, bad_main, unended, counted, over}
use Rattle.text_rules.specs.Names.{tallied, many, declared_by, earlier, parameters_of, names, for_names, in_block, sought, misnamed, uncalled, repeated, named, meant}
use Rattle.text_rules.specs.Assigned.{parameter_count, at_end, after, unset}
use Rattle.text_rules.specs.Own.{owns, breaching}
use Rattle.text_rules.specs.Resolve.{part, main_of}
use Rattle.checker.specs.Check.{rules_of, first_broken, checked_tokens, checked, program_of}
use Rattle.semantics.specs.Int.{arith, exact, wrap, low32, holds, eq_z}
use Rattle.semantics.specs.Does.{within, does, enter, stmt, loop, cond, expr, frame}
use Rattle.semantics.specs.Run.{Row, each, numbers, clamp, counting}
use Rattle.semantics.specs.Search as S
use Rattle.semantics.specs.Search.{Close, whole, cuts, full, spent, answer, search, openly, probed_once, moves, paths, probed, tried, settings, meets, narrowed, clipped, clip, decided, always, range, fitted, span, max_z, min_z, all32, under, work}
use Rattle.settings.specs.Rows.{sheet}
use Rattle.list.specs.List.{program, Answer, refused, listed, ground, list}

-- ---- what is asked, and what is answered and left

pub record Case : Type 0 where
  pub text : String
  pub low : ℕ
  pub high : ℕ
  pub steps : ℕ
  pub budget : ℕ
  pub words : ℕ
  pub answer : Answer
  pub rows : List Row

-- a result and values
abbrev row : ℤ → List ℕ → Row
row r vs = record { result = r; values = map pos vs }

abbrev plan : ℕ → List ℕ → Row
plan r vs = row (pos r) vs

-- from low to high, with a step limit, a budget, and a rows slice of so many words: rows, ending, moves
abbrev asked : String → ℕ → ℕ → ℕ → ℕ → ℕ → List Row → Close → ℕ → Case
asked t low high steps budget words rs c n = record { text = t; low = low; high = high; steps = steps; budget = budget; words = words; answer = listed (length rs) n c; rows = rs }

-- with 100 steps, the program's budget and room enough
abbrev gives : String → ℕ → ℕ → List Row → Close → ℕ → Case
gives t low high rs c n = asked t low high 100 1000000 50 rs c n

abbrev A : String
A = "int main() { int y free; if (y < 2) return y; else fail; }"

abbrev both : List Row
both = plan 0 (0 ∷ []) ∷ plan 1 (1 ∷ []) ∷ []

abbrev pub starred : List Case
starred =
    -- A, 0 to 3: budget 9 whole, 8 spent with both rows
    asked A 0 3 100 9 50 both whole 9
    ∷ asked A 0 3 100 8 50 both spent 8
    -- A, step limit 5 whole; 4 gives cut, no rows, 6 moves
    ∷ asked A 0 3 5 1000000 50 both whole 9
    ∷ asked A 0 3 4 1000000 50 [] cuts 6
    -- A, rows slice of 10 words: full after 1 row, 7 moves
    ∷ asked A 0 3 100 1000000 10 (plan 0 (0 ∷ []) ∷ []) full 7
    -- 0 to 3: values 2, 3, 0, 1
    ∷ gives "int main() { int a free; if (a > 1) return 1; else return 0; }" 0 3 (plan 1 (2 ∷ []) ∷ plan 1 (3 ∷ []) ∷ plan 0 (0 ∷ []) ∷ plan 0 (1 ∷ []) ∷ []) whole 11
    -- two free numbers, sum returned, 0 to 1: 0,0 0,1 1,0 1,1
    ∷ gives "int main() { int a free; int b free; return a + b; }" 0 1 (plan 0 (0 ∷ 0 ∷ []) ∷ plan 1 (0 ∷ 1 ∷ []) ∷ plan 1 (1 ∷ 0 ∷ []) ∷ plan 2 (1 ∷ 1 ∷ []) ∷ []) whole 9
    -- a free, 1 to 2: rows 1, 2 in 11 moves
    ∷ gives "int main() { int a free; if (a < a) return 9; else return a; }" 1 2 (plan 1 (1 ∷ []) ∷ plan 2 (2 ∷ []) ∷ []) whole 11
    -- f only failing, returning 1 or else 0, 0 to 1: one row, value 1, result 0
    ∷ gives "int main() { int a free; if (a < 1 && f() == 0) return 1; else return 0; } int f() { fail; }" 0 1 (plan 0 (1 ∷ []) ∷ []) whole 9
    -- with 50 steps: cut, 51 moves
    ∷ asked "int main() { while (true) ; fail; }" 0 0 50 1000000 50 [] cuts 51
    -- 2147483647 + 1 is -2147483648; 65536 × 65536 is 0
    ∷ gives "int main() { return 2147483647 + 1; }" 0 0 (row (negsuc 2147483647) [] ∷ []) whole 4
    ∷ gives "int main() { return 65536 * 65536; }" 0 0 (plan 0 [] ∷ []) whole 4
    -- empty text: refusal 8 at 0
    ∷ record { text = ""; low = 0; high = 3; steps = 100; budget = 1000000; words = 50; answer = refused 8 0; rows = [] }
    ∷ []

abbrev pub added : List Case
added =
    -- slip 5: a plain `free` takes the job's pair, another its own
    gives "int main() { int x free 5 .. 6; int y free; return x + y; }" 0 1 (plan 5 (5 ∷ 0 ∷ []) ∷ plan 6 (5 ∷ 1 ∷ []) ∷ plan 6 (6 ∷ 0 ∷ []) ∷ plan 7 (6 ∷ 1 ∷ []) ∷ []) whole 9
    -- each end with or without a minus; the job's pair is not asked
    ∷ gives "int main() { int x free -1..0; if (x < 0) return 1; else fail; }" 3 4 (record { result = pos 1; values = negsuc 0 ∷ [] } ∷ []) whole 8
    ∷ []

-- ---- the proof

-- the rows slice held sevens
abbrev held : ℕ → List ℤ
held n = replicate n (pos 7)

abbrev Exit : Type 0
Exit = Answer × List ℤ

unfoldable pub given : Case → Exit
given c =
    let l = list (bytes c.text) (pos c.low) (pos c.high) c.steps 0 c.budget (held c.words) (replicate 16384 0) in
    (l.answer, l.rows)

unfoldable pub expected : Case → Exit
expected c = (c.answer, sheet (held c.words) c.rows)

pub examples-hold : (map given starred ≡ map expected starred) × (map given added ≡ map expected added)
unfolding given expected list ground program checked lexed none_large scan front value_of decimal digits_of longest_within kind_of grouped kind_in same all ast read_text more_prog read_fun read_params more_params read_stmt read_own read_decl read_block read_ended read_fail read_guard read_named read_if read_while more_body read_cond more_cond read_conj more_conj read_atom read_cmp read_sum more_sum read_term more_term read_operand read_bracket read_call read_args more_args events events_at stops count first on R.scan least lesser deep parameters heads function_of arity_of wrong miscounted mains with_parameters bad_main unended counted over tallied many declared_by earlier parameters_of names for_names in_block sought misnamed uncalled repeated named meant parameter_count at_end after unset owns breaching part main_of rules_of first_broken checked_tokens program_of S.listed answer search openly probed_once moves paths probed tried settings meets narrowed clipped clip decided always range fitted span max_z min_z all32 under work each numbers clamp counting within does enter stmt loop cond expr frame holds eq_z arith exact wrap low32
examples-hold = (refl, refl)
