-- The rules 5 and 7 to 10 of a text (document 01, "Check"): the tokens that break each, by the events of the text.
use Rattle.std.specs.Prelude.{ℕ, suc, Bool, not, cond, ◌||◌, List, [], ◌∷◌, ◌++◌, eqb, leb, ltb}
use Rattle.std.specs.Prelude.{Option, None, Some}
use Rattle.events.specs.Event.{Event, function, parameter, thing, opens, closes, declares, uses, calls, ends}
use Rattle.text_rules.specs.Scan.{scan, on, when}

-- ---- what a text may have at most: depth, functions, and in one function parameters and declarations

abbrev pub most_depth : ℕ
most_depth = 24

abbrev pub most_functions : ℕ
most_functions = 16

abbrev pub most_parameters : ℕ
most_parameters = 4

abbrev pub most_declarations : ℕ
most_declarations = 16

-- ---- "5 depth over 24, at the first token of the deeper thing"

unfoldable pub deep : Event → List ℕ
deep (function i) = []
deep (parameter i) = []
deep (thing d i) = when (ltb most_depth d) i
deep opens = []
deep closes = []
deep (declares i) = []
deep (uses i) = []
deep (calls i n) = []
deep (ends i b) = []

abbrev pub too_deep : List Event → List ℕ
too_deep es = on deep es

-- ---- the functions of a text, in order: the name, and how many parameters it has

pub record Head : Type 0 where
  pub name : ℕ
  pub arity : ℕ

-- the parameters that the events begin with
unfoldable pub parameters : List Event → ℕ
parameters [] = 0
parameters (function i ∷ es) = 0
parameters (parameter i ∷ es) = suc (parameters es)
parameters (thing d i ∷ es) = 0
parameters (opens ∷ es) = 0
parameters (closes ∷ es) = 0
parameters (declares i ∷ es) = 0
parameters (uses i ∷ es) = 0
parameters (calls i n ∷ es) = 0
parameters (ends i b ∷ es) = 0

unfoldable pub heads : List Event → List Head
heads [] = []
heads (function i ∷ es) = record { name = i; arity = parameters es } ∷ heads es
heads (parameter i ∷ es) = heads es
heads (thing d i ∷ es) = heads es
heads (opens ∷ es) = heads es
heads (closes ∷ es) = heads es
heads (declares i ∷ es) = heads es
heads (uses i ∷ es) = heads es
heads (calls i n ∷ es) = heads es
heads (ends i b ∷ es) = heads es

-- the token i, where a call with n arguments should have another count
unfoldable pub wrong : Option ℕ → ℕ → ℕ → List ℕ
wrong None i n = []
wrong (Some m) i n = when (not (eqb m n)) i

-- `same i j`: the tokens i and j spell the same name
module _ (same : ℕ → ℕ → Bool) where
  -- the number of the first function with the name of token i
  unfoldable pub function_of : List Head → ℕ → Option ℕ
  function_of [] i = None
  function_of (h ∷ hs) i = cond (same h.name i) (Some 0) (elim (function_of hs i) [ None ↦ None | Some n ↦ Some (suc n) ])

  -- how many arguments a call of the name of token i takes
  unfoldable pub arity_of : List Head → ℕ → Option ℕ
  arity_of [] i = None
  arity_of (h ∷ hs) i = cond (same h.name i) (Some h.arity) (arity_of hs i)

  -- ---- "7 a call with a wrong count of arguments, at the called name"

  unfoldable pub miscounted : List Head → Event → List ℕ
  miscounted hs (function i) = []
  miscounted hs (parameter i) = []
  miscounted hs (thing d i) = []
  miscounted hs opens = []
  miscounted hs closes = []
  miscounted hs (declares i) = []
  miscounted hs (uses i) = []
  miscounted hs (calls i n) = wrong (arity_of hs i) i n
  miscounted hs (ends i b) = []

  abbrev pub miscalls : List Event → List ℕ
  miscalls es = on (miscounted (heads es)) es

-- ---- "8 no function main (place: the text's length) or a main with parameters, at its name"

unfoldable pub with_parameters : List Head → List ℕ
with_parameters [] = []
with_parameters (h ∷ hs) = when (ltb 0 h.arity) h.name ++ with_parameters hs

-- `end`: the number of the end's token, which stands at the text's length
unfoldable pub bad_main : ℕ → List Head → List ℕ
bad_main end [] = end ∷ []
bad_main end (h ∷ hs) = with_parameters (h ∷ hs)

-- `is_main i`: the token i spells main
module _ (is_main : ℕ → Bool) where
  unfoldable pub mains : List Head → List Head
  mains [] = []
  mains (h ∷ hs) = cond (is_main h.name) (h ∷ mains hs) (mains hs)

  abbrev pub mainless : ℕ → List Event → List ℕ
  mainless end es = bad_main end (mains (heads es))

-- ---- "9 a body that can reach its end, at its closing brace"

unfoldable pub unended : Event → List ℕ
unended (function i) = []
unended (parameter i) = []
unended (thing d i) = []
unended opens = []
unended closes = []
unended (declares i) = []
unended (uses i) = []
unended (calls i n) = []
unended (ends i b) = when b i

abbrev pub open_ends : List Event → List ℕ
open_ends es = on unended es

-- ---- "10 a 17th function, a 5th parameter or a 17th declaration in one function, parameters counted, at that name"

-- how many functions so far, and of the present one how many parameters, and declarations with the parameters
pub record Tally : Type 0 where
  pub functions : ℕ
  pub parameters : ℕ
  pub declarations : ℕ

abbrev pub tally : ℕ → ℕ → ℕ → Tally
tally f p d = record { functions = f; parameters = p; declarations = d }

unfoldable pub counted : Tally → Event → Tally
counted c (function i) = tally (suc c.functions) 0 0
counted c (parameter i) = tally c.functions (suc c.parameters) (suc c.declarations)
counted c (thing d i) = c
counted c opens = c
counted c closes = c
counted c (declares i) = tally c.functions c.parameters (suc c.declarations)
counted c (uses i) = c
counted c (calls i n) = c
counted c (ends i b) = c

unfoldable pub over : Tally → Event → List ℕ
over c (function i) = when (leb most_functions c.functions) i
over c (parameter i) = when (leb most_parameters c.parameters || leb most_declarations c.declarations) i
over c (thing d i) = []
over c opens = []
over c closes = []
over c (declares i) = when (leb most_declarations c.declarations) i
over c (uses i) = []
over c (calls i n) = []
over c (ends i b) = []

abbrev pub too_many : List Event → List ℕ
too_many es = scan counted over (tally 0 0 0) es
