-- What the values of the code stand for, and what its loops find.
use Rattle.std.specs.Prelude.{ℕ, suc, ◌+◌, Bool, true, false, cond, List, [], ◌∷◌, ◌++◌, get_or, eqb, Option}
use Rattle.syntax.specs.Token.{k_free, k_semi, k_minus}
use Rattle.syntax.specs.Ast.{bit}
use Rattle.text_rules.specs.Scan.{lesser}
use Rattle.text_rules.specs.Rules.{Head}
use Rattle.text_rules.specs.Own.{Own, own}
use Rattle.events.specs.declared.event.Event as E
use Rattle.events.specs.declared.event.Event.TheVariants.{Function, Parameter, Thing, Opens, Closes, Declares, Uses, Calls, Ends}
use Rattle.text_rules.specs.declared.heads.Head as C

-- the least of a list and of what was found before
unfoldable pub least_with : List ℕ → Option ℕ → Option ℕ
least_with [] p = p
least_with (i ∷ is) p = lesser i (least_with is p)

abbrev pub head : ℕ → ℕ → Head
head i n = record { name = i; arity = n }

-- the function that a value of the code stands for
abbrev pub as_head : C.Head → Head
as_head h = head h.name h.arity

-- an event of the code is a parameter
abbrev pub is_parameter : E.Event → Bool
is_parameter (Function i) = false
is_parameter (Parameter i) = true
is_parameter (Thing d i) = false
is_parameter Opens = false
is_parameter Closes = false
is_parameter (Declares i) = false
is_parameter (Uses i) = false
is_parameter (Calls i n) = false
is_parameter (Ends i b) = false

-- ---- declarations with their own pair, by the kinds of tokens

-- whether token i is a minus
abbrev pub minus_at : List ℕ → ℕ → Bool
minus_at ks i = eqb (get_or ks i 0) k_minus

-- the one of the tokens ks behind a `free`, of which the first is token t: there is one unless that is a semicolon
abbrev pub field_own : ℕ → List ℕ → List Own
field_own t ks = cond (eqb (get_or ks 0 0) k_semi) [] (own t (minus_at ks 0) (minus_at ks (bit (minus_at ks 0) + 2)) ∷ [])

-- those in the tokens from token p on, whose kinds these are
unfoldable pub owns_from : ℕ → List ℕ → List Own
owns_from p [] = []
owns_from p (k ∷ ks) = cond (eqb k k_free) (field_own (suc p) ks) [] ++ owns_from (suc p) ks
