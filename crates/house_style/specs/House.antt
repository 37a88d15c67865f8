-- The house style (document 02, slip 7): the bytes of a program tree. A clause stands for each sentence of the slip.
use Rattle.std.specs.Prelude.{ℕ, zero, suc, Bool, true, false, List, [], ◌∷◌, ◌++◌, ltb}
use Prim.Native.String.{String}
use Rattle.syntax.specs.Tree.{Mul, product, Cmp, less, less_eq, greater, greater_eq, equal, unequal}
use Rattle.syntax.specs.Ast.{Sort, args, params, prog}
use Rattle.lexer.specs.Lex.{bytes}
use Rattle.printing.specs.Decimal.{natural}
use Rattle.house_style.specs.Named as N
use Rattle.house_style.specs.Named.{Named}

-- a piece of a text: the bytes of a token, or bytes that separate tokens. "Single blanks .. and nowhere else within a line": those of `blank` below, and at its front those of `margin`
pub data Piece : Type 0 where
  word gap : List ℕ → Piece

-- the bytes of pieces
unfoldable pub flat : List Piece → List ℕ
flat [] = []
flat (word bs ∷ ps) = bs ++ flat ps
flat (gap bs ∷ ps) = bs ++ flat ps

abbrev pub the : String → Piece
the s = word (bytes s)

abbrev pub blank : Piece
blank = gap (bytes " ")

-- "ended by LF"
abbrev pub newline : Piece
newline = gap (bytes "\n")

-- "two blanks per depth"
unfoldable pub indent : ℕ → List ℕ
indent zero = []
indent (suc d) = bytes "  " ++ indent d

abbrev pub margin : ℕ → Piece
margin d = gap (indent d)

-- the signs of operators
abbrev pub mul_sign : Mul → String
mul_sign product = "*"

abbrev pub cmp_sign : Cmp → String
cmp_sign less = "<"
cmp_sign less_eq = "<="
cmp_sign greater = ">"
cmp_sign greater_eq = ">="
cmp_sign equal = "=="
cmp_sign unequal = "!="

-- "Single blanks stand round operators of two sides": a sign, followed by ps
abbrev pub round : String → List Piece → List Piece
round s ps = blank ∷ the s ∷ blank ∷ ps

-- "Single blanks stand .. after commas": what stands between the arguments or parameters before and one more, followed by ps
abbrev pub after_args : Named args → List Piece → List Piece
after_args N.no_args ps = ps
after_args (N.more_args l e) ps = the "," ∷ blank ∷ ps

abbrev pub after_params : Named params → List Piece → List Piece
after_params N.no_params ps = ps
after_params (N.more_params l x) ps = the "," ∷ blank ∷ ps

-- an end of a pair, with a minus or not, followed by ps
abbrev pub signed : Bool → ℕ → List Piece → List Piece
signed true v ps = the "-" ∷ word (natural v) ∷ ps
signed false v ps = word (natural v) ∷ ps

-- "brackets only where the grammar needs them": what f lays out, in brackets if they are needed, followed by ps
unfoldable pub within : Bool → (List Piece → List Piece) → List Piece → List Piece
within true f ps = the "(" ∷ f (the ")" ∷ ps)
within false f ps = f ps

-- The pieces of a part of a tree, followed by ps. Of an expression, n is what the grammar has at its place: 0 a sum, 1 a term, 2 an operand. Of a statement, n is its depth.
unfoldable pub laid : {s : Sort} → ℕ → Named s → List Piece → List Piece
-- "no underscores or needless zeros in numbers"; "Number values, minus signs (also before 0), names and order stay"
laid n (N.number v) ps = word (natural v) ∷ ps
laid n (N.negative v) ps = the "-" ∷ word (natural v) ∷ ps
laid n (N.name x) ps = word x ∷ ps
laid n (N.call f a) ps = word f ∷ the "(" ∷ laid 0 a (the ")" ∷ ps)
-- "`*` above `+` and `-`, left to right": a product is a term and no operand, a sum is neither; on the right of an operator stands the next rank
laid n (N.times o a b) ps = within (ltb 1 n) (λ qs. laid 1 a (round (mul_sign o) (laid 2 b qs))) ps
laid n (N.plus a b) ps = within (ltb 0 n) (λ qs. laid 0 a (round "+" (laid 1 b qs))) ps
laid n (N.minus a b) ps = within (ltb 0 n) (λ qs. laid 0 a (round "-" (laid 1 b qs))) ps
laid n N.no_args ps = ps
laid n (N.more_args l e) ps = laid 0 l (after_args l (laid 0 e ps))
laid n (N.cmp_mark o) ps = round (cmp_sign o) ps
laid n N.always ps = the "true" ∷ ps
laid n N.never ps = the "false" ∷ ps
laid n (N.compare a o b) ps = laid 0 a (laid 0 o (laid 0 b ps))
laid n (N.both a b) ps = laid 0 a (round "&&" (laid 0 b ps))
laid n (N.either a b) ps = laid 0 a (round "||" (laid 0 b ps))
-- "one statement a line, ended by LF, two blanks per depth"; "Single blanks stand round .. `=` .., after `int`, `if`, `while` and `return`, before `free`"
laid d N.empty ps = margin d ∷ the ";" ∷ newline ∷ ps
laid d (N.declare x) ps = margin d ∷ the "int" ∷ blank ∷ word x ∷ the ";" ∷ newline ∷ ps
laid d (N.declare_free x) ps = margin d ∷ the "int" ∷ blank ∷ word x ∷ blank ∷ the "free" ∷ the ";" ∷ newline ∷ ps
-- "round .. `..`", "between `free` and a low end"
laid d (N.declare_own x a v b w) ps = margin d ∷ the "int" ∷ blank ∷ word x ∷ blank ∷ the "free" ∷ blank ∷ signed a v (round ".." (signed b w (the ";" ∷ newline ∷ ps)))
laid d (N.assign x e) ps = margin d ∷ word x ∷ round "=" (laid 0 e (the ";" ∷ newline ∷ ps))
laid d (N.eval e) ps = margin d ∷ laid 0 e (the ";" ∷ newline ∷ ps)
laid d (N.return e) ps = margin d ∷ the "return" ∷ blank ∷ laid 0 e (the ";" ∷ newline ∷ ps)
laid d N.fail ps = margin d ∷ the "fail" ∷ the ";" ∷ newline ∷ ps
-- "A function's head, `if (b)`, `else`, `while (b)` and each brace have a line"; "the braces of a braces statement have that statement's [indent], and `else` has its if's"
laid d (N.block b) ps = laid d b ps
laid d (N.if_else c s t) ps = margin d ∷ the "if" ∷ blank ∷ the "(" ∷ laid 0 c (the ")" ∷ newline ∷ laid (suc d) s (margin d ∷ the "else" ∷ newline ∷ laid (suc d) t ps))
laid d (N.while c s) ps = margin d ∷ the "while" ∷ blank ∷ the "(" ∷ laid 0 c (the ")" ∷ newline ∷ laid (suc d) s ps)
laid d N.no_stmts ps = ps
laid d (N.more_stmts l s) ps = laid d l (laid d s ps)
laid d (N.braced l) ps = margin d ∷ the "{" ∷ newline ∷ laid (suc d) l (margin d ∷ the "}" ∷ newline ∷ ps)
-- "a function's head and braces have no indent"; "a statement of a function's body has depth 1" (document 01)
laid n N.no_params ps = ps
laid n (N.more_params l x) ps = laid 0 l (after_params l (the "int" ∷ blank ∷ word x ∷ ps))
laid n (N.function f q b) ps = the "int" ∷ blank ∷ word f ∷ the "(" ∷ laid 0 q (the ")" ∷ newline ∷ laid 0 b ps)
laid n N.no_funs ps = ps
laid n (N.more_funs p f) ps = laid 0 p (laid 0 f ps)

-- the text of a program
unfoldable pub house : Named prog → List ℕ
house p = flat (laid 0 p [])
