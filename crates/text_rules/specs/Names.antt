-- Rule 6 of a text (document 01, "Check" and "The text"): names. And what each name means.
use Rattle.std.specs.Prelude.{ℕ, suc, ◌+◌, Bool, cond, List, [], ◌∷◌, ◌++◌, eqb}
use Rattle.std.specs.Prelude.{Option, None, Some}
use Rattle.syntax.specs.Ast.{Sort, Ast, stmt, stmts, params, prog}
use Rattle.syntax.specs.Ast as A
use Rattle.events.specs.Event.{Event, function, parameter, thing, opens, closes, declares, uses, calls, ends, events_at, events}
use Rattle.text_rules.specs.Scan.{on}
use Rattle.text_rules.specs.Rules.{Head, heads, function_of, Tally, tally, counted}
use Rattle.text_rules.specs.Assigned.{parameter_count}

-- ---- which declarations can be seen at a name

-- a declared variable: its name's token, and its slot: its declaration's number in its function, parameters first
pub record Declared : Type 0 where
  pub name : ℕ
  pub slot : ℕ

abbrev pub variable : ℕ → ℕ → Declared
variable i n = record { name = i; slot = n }

-- how many declarations stand in statements, those of their blocks too, as rule 10 counts them
unfoldable pub tallied : Tally → List Event → Tally
tallied c [] = c
tallied c (e ∷ es) = tallied (counted c e) es

unfoldable pub many : {s : Sort} → Ast s → ℕ
many t = (tallied (tally 0 0 0) (events_at 1 t)).declarations

-- what a statement declares for those that stand after it in its block, if n declarations of its function stand before it: braces, arms and the body of a while are blocks of their own
unfoldable pub declared_by : ℕ → Ast stmt → List Declared
declared_by n (A.declare i) = variable (i + 1) n ∷ []
declared_by n (A.declare_free i) = variable (i + 1) n ∷ []
declared_by n (A.declare_own i x y) = variable (i + 1) n ∷ []
declared_by n (A.empty i) = []
declared_by n (A.assign i e) = []
declared_by n (A.eval e) = []
declared_by n (A.block i b) = []
declared_by n (A.if_else i c s t) = []
declared_by n (A.while i c s) = []
declared_by n (A.return i e) = []
declared_by n (A.fail i) = []

-- what the statements of a block declare for those after them, and what parameters declare, the newest first
unfoldable pub earlier : ℕ → Ast stmts → List Declared
earlier n A.no_stmts = []
earlier n (A.more_stmts l s) = declared_by (n + many l) s ++ earlier n l

unfoldable pub parameters_of : Ast params → List Declared
parameters_of A.no_params = []
parameters_of (A.more_params l i) = variable i (parameter_count l) ∷ parameters_of l

-- a name in a text: where a variable is declared, with its slot; where one is read or assigned; where a function is called.
-- With a variable's name go the blocks that hold it, the innermost first, and in each the declarations that stand earlier, the newest first: these can be seen there
pub data Name : Type 0 where
  declared : (i n : ℕ) → List (List Declared) → Name
  used : (i : ℕ) → List (List Declared) → Name
  called : (i : ℕ) → Name

-- the names in a part, in the order of the text: b are the declarations that stand earlier in its block, bs those of the blocks around, and n declarations of its function stand before it
unfoldable pub names : {s : Sort} → List Declared → List (List Declared) → ℕ → Ast s → List Name
names b bs n (A.number i) = []
names b bs n (A.negative i) = []
names b bs n (A.name i) = used i (b ∷ bs) ∷ []
names b bs n (A.call i a) = called i ∷ names b bs n a
names b bs n (A.bracket i e) = names b bs n e
names b bs n (A.times o x y) = names b bs n x ++ names b bs n y
names b bs n (A.plus x y) = names b bs n x ++ names b bs n y
names b bs n (A.minus x y) = names b bs n x ++ names b bs n y
names b bs n A.no_args = []
names b bs n (A.more_args l e) = names b bs n l ++ names b bs n e
names b bs n (A.cmp_mark o) = []
names b bs n A.always = []
names b bs n A.never = []
names b bs n (A.compare x o y) = names b bs n x ++ names b bs n y
names b bs n (A.both c d) = names b bs n c ++ names b bs n d
names b bs n (A.either c d) = names b bs n c ++ names b bs n d
names b bs n (A.empty i) = []
names b bs n (A.declare i) = declared (i + 1) n (b ∷ bs) ∷ []
names b bs n (A.declare_free i) = declared (i + 1) n (b ∷ bs) ∷ []
names b bs n (A.declare_own i x y) = declared (i + 1) n (b ∷ bs) ∷ []
names b bs n (A.assign i e) = used i (b ∷ bs) ∷ names b bs n e
names b bs n (A.eval e) = names b bs n e
names b bs n (A.block i l) = names b bs n l
-- "An if arm and a while body are each a block, braces or not."
names b bs n (A.if_else i c s t) = names b bs n c ++ names [] (b ∷ bs) n s ++ names [] (b ∷ bs) (n + many s) t
names b bs n (A.while i c s) = names b bs n c ++ names [] (b ∷ bs) n s
names b bs n (A.return i e) = names b bs n e
names b bs n (A.fail i) = []
names b bs n A.no_stmts = []
names b bs n (A.more_stmts l s) = names b bs n l ++ names (earlier n l ++ b) bs (n + many l) s
names b bs n (A.braced l j) = names [] (b ∷ bs) n l
-- "parameters are outermost": the body of a function is a block in theirs
names b bs n A.no_params = []
names b bs n (A.more_params l i) = names b bs n l ++ declared i (parameter_count l) (parameters_of l ∷ []) ∷ []
names b bs n (A.function i p l) = names [] [] 0 p ++ names (parameters_of p) [] (parameter_count p) l
names b bs n A.no_funs = []
names b bs n (A.more_funs p f) = names b bs n p ++ names b bs n f

abbrev pub names_of : Ast prog → List Name
names_of p = names [] [] 0 p

-- what each name gives
unfoldable pub for_names : {X : Type 0} → (Name → List X) → List Name → List X
for_names f [] = []
for_names f (x ∷ xs) = f x ++ for_names f xs

-- ---- what is found

-- what the name of a token means: the slot of a variable, or the number of a function
pub record Meaning : Type 0 where
  pub token : ℕ
  pub means : ℕ

abbrev pub meaning : ℕ → ℕ → Meaning
meaning i n = record { token = i; means = n }

abbrev pub as_found : Option ℕ → ℕ → List Meaning
as_found None i = []
as_found (Some n) i = meaning i n ∷ []

-- what each token means after some meanings; f says what it meant before
unfoldable pub meant : (ℕ → ℕ) → List Meaning → ℕ → ℕ
meant f [] i = f i
meant f (m ∷ ms) i = meant (λ j. cond (eqb m.token j) m.means (f j)) ms i

-- the token i, unless something was found, and if something was
abbrev pub unless_found : Option ℕ → ℕ → List ℕ
unless_found None i = i ∷ []
unless_found (Some n) i = []

abbrev pub if_found : Option ℕ → ℕ → List ℕ
if_found None i = []
if_found (Some n) i = i ∷ []

-- "the declarations that can be seen, parameters included, from the newest back" (document 02, slip 6)
unfoldable pub seen : List (List Declared) → List Declared
seen [] = []
seen (b ∷ bs) = b ++ seen bs

-- `same i j`: the tokens i and j spell the same name
module _ (same : ℕ → ℕ → Bool) where
  -- "A name is sought from the innermost block outwards, and within a block among its earlier declarations": the slot found
  unfoldable pub in_block : List Declared → ℕ → Option ℕ
  in_block [] i = None
  in_block (d ∷ ds) i = cond (same d.name i) (Some d.slot) (in_block ds i)

  unfoldable pub sought : List (List Declared) → ℕ → Option ℕ
  sought [] i = None
  sought (b ∷ bs) i = elim (in_block b i) [ None ↦ sought bs i | Some n ↦ Some n ]

  -- "how many it compared: those up to the hit, or all of them if there is none" (document 02, slip 6)
  unfoldable pub compared : List Declared → ℕ → ℕ
  compared [] i = 0
  compared (d ∷ ds) i = suc (cond (same d.name i) 0 (compared ds i))

  -- ---- "6 a name not found, or declared while the same name of its kind can be seen (for a function: while an earlier one has the name)"

  -- variables
  unfoldable pub misnamed : Name → List ℕ
  misnamed (declared i n bs) = if_found (sought bs i) i
  misnamed (used i bs) = unless_found (sought bs i) i
  misnamed (called i) = []

  abbrev pub bad_variables : Ast prog → List ℕ
  bad_variables p = for_names misnamed (names_of p)

  -- functions: a call of none; one that has an earlier one's name
  unfoldable pub uncalled : List Head → Event → List ℕ
  uncalled hs (function i) = []
  uncalled hs (parameter i) = []
  uncalled hs (thing d i) = []
  uncalled hs opens = []
  uncalled hs closes = []
  uncalled hs (declares i) = []
  uncalled hs (uses i) = []
  uncalled hs (calls i n) = unless_found (function_of same hs i) i
  uncalled hs (ends i b) = []

  unfoldable pub repeated : List Head → List Head → List ℕ
  repeated before [] = []
  repeated before (h ∷ hs) = if_found (function_of same before h.name) h.name ++ repeated (before ++ h ∷ []) hs

  abbrev pub bad_functions : List Event → List ℕ
  bad_functions es = on (uncalled (heads es)) es ++ repeated [] (heads es)

  abbrev pub bad_names : Ast prog → List ℕ
  bad_names p = bad_variables p ++ bad_functions (events p)

  -- ---- what the names of a text mean

  unfoldable pub named : List Head → Name → List Meaning
  named hs (declared i n bs) = meaning i n ∷ []
  named hs (used i bs) = as_found (sought bs i) i
  named hs (called i) = as_found (function_of same hs i) i

  abbrev pub meanings : Ast prog → List Meaning
  meanings p = for_names (named (heads (events p))) (names_of p)
