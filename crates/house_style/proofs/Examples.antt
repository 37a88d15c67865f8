-- Texts and their house style, in one table under one proof.
use Prim.Native.String.{String}
use mathlib.Core.Path.{◌≡◌, refl}
use mathlib.Core.List.{List, [], ◌∷◌, map}
use Rattle.lexer.specs.Lex.{bytes, scan, front, value_of, decimal, digits_of, longest_within, kind_of, grouped, kind_in, same, all}
use Rattle.syntax.specs.Abstract.{ast}
use Rattle.grammar.specs.Parse.{read_text, more_prog, read_fun, read_params, more_params, read_stmt, read_own, read_decl, read_block, read_ended, read_fail, read_guard, read_named, read_if, read_while, more_body, read_cond, more_cond, read_conj, more_conj, read_atom, read_cmp, read_sum, more_sum, read_term, more_term, read_operand, read_bracket, read_call, read_args, more_args}
use Rattle.printing.specs.Decimal.{digits, natural}
use Rattle.house_style.specs.Named.{strip}
use Rattle.house_style.specs.House.{flat, indent, within, laid, house}
use Rattle.house_style.specs.Read.{read_tokens, read, written}

pub record Case : Type 0 where
  pub text : String
  pub styled : String

abbrev case : String → String → Case
case t u = record { text = t; styled = u }

abbrev pub table : List Case
table =
    -- "one statement a line, ended by LF, two blanks per depth"; a braced arm's brace is one deeper than its `if`, `else` stands alone on its line
    case "int main(){int y free;if(y<2)return y;else fail;}" "int main()\n{\n  int y free;\n  if (y < 2)\n    return y;\n  else\n    fail;\n}\n"
    ∷ case "int main() { while (true) { ; } if (1 == 1 || 2 != 3 && false) { fail; } else { } fail; }"
    "int main()\n{\n  while (true)\n    {\n      ;\n    }\n  if (1 == 1 || 2 != 3 && false)\n    {\n      fail;\n    }\n  else\n    {\n    }\n  fail;\n}\n"
    -- no blank line between functions; "after commas"; brackets round arguments and whole expressions go
    ∷ case "int f ( int a , int b ) { return ( f ( ( a ) , 1 ) ) ; } int main ( ) { int x ; x = f ( 1 , ( 2 + 3 ) ) ; ( x ) ; return x ; }"
    "int f(int a, int b)\n{\n  return f(a, 1);\n}\nint main()\n{\n  int x;\n  x = f(1, 2 + 3);\n  x;\n  return x;\n}\n"
    -- "no underscores or needless zeros in numbers"; "minus signs (also before 0) .. stay"
    ∷ case "int main() { return 007 + 1_0 - -0 - (-5) - 0_0; }" "int main()\n{\n  return 7 + 10 - -0 - -5 - 0;\n}\n"
    -- "round .. `..`", "between `free` and a low end"; minus signs stay there too
    ∷ case "int main(){int x free-0..007;int y free 1_0 ..20;return x;}" "int main()\n{\n  int x free -0 .. 7;\n  int y free 10 .. 20;\n  return x;\n}\n"
    -- "brackets only where the grammar needs them"
    ∷ case "int main() { int a free; return (a * a) + a * (a * a) - ((a + a) * a) - (a - a) + ((a)); }" "int main()\n{\n  int a free;\n  return a * a + a * (a * a) - (a + a) * a - (a - a) + a;\n}\n"
    -- a text without tokens, which check refuses, has a tree without functions
    ∷ case " \n" ""
    ∷ []

pub right : map (λ (c : Case). written (bytes c.text)) table ≡ map (λ (c : Case). bytes c.styled) table
unfolding written read read_tokens scan front value_of decimal digits_of longest_within kind_of grouped kind_in same all ast read_text more_prog read_fun read_params more_params read_stmt read_own read_decl read_block read_ended read_fail read_guard read_named read_if read_while more_body read_cond more_cond read_conj more_conj read_atom read_cmp read_sum more_sum read_term more_term read_operand read_bracket read_call read_args more_args digits natural strip flat indent within laid house
right = refl
