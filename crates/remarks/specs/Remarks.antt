-- Remarks (document 01, with slip 4 of document 02): what it answers, and every word of the lent slice at exit, for every text and every slice. Words says the same without computing it, and proofs/Exactly that the two agree.
use Rattle.std.specs.Prelude.{ℕ, zero, suc, ◌-◌, Bool, true, false, cond, not, ◌&&◌, ◌||◌, List, [], ◌∷◌, ◌++◌, length, get_or, drop, eqb, ltb, Option, None, Some, Result, Ok, Err}
use Rattle.lexer.specs.Lex as L
use Rattle.lexer.specs.Lex.{lexed}
use Rattle.syntax.specs.Ast as A
use Rattle.syntax.specs.Ast.{Ast}
use Rattle.syntax.specs.Abstract.{ast}
use Rattle.syntax.specs.Refusals.{number_of}
use Rattle.syntax.specs.declared.refusal.Refusal.{Refusal}
use Rattle.grammar.specs.Parse.{parsed, ok, bad}
use Rattle.events.specs.Event.{Event, events, function, parameter, thing, opens, closes, declares, uses, calls, ends}
use Rattle.text_rules.specs.Scan.{scan}
use Rattle.text_rules.specs.Rules.{Head, heads, function_of}
use Rattle.text_rules.specs.Resolve.{main_of}
use Rattle.checker.specs.Check as C
use Rattle.checker.specs.Check.{Verdict, accepted, checked, kinds, Source, source_of, same_in, main_in}

-- ---- the calls in a text

-- a function's number and that of one that it calls
pub record Call : Type 0 where
  pub caller : ℕ
  pub callee : ℕ

-- how many functions have begun after an event, where n have before it
unfoldable pub begun : ℕ → Event → ℕ
begun n (function i) = suc n
begun n (parameter i) = n
begun n (thing d i) = n
begun n opens = n
begun n closes = n
begun n (declares i) = n
begun n (uses i) = n
begun n (calls i m) = n
begun n (ends i b) = n

-- the call of the function that is found, by the last of n functions that have begun
abbrev pub call_to : ℕ → Option ℕ → List Call
call_to n None = []
call_to n (Some g) = record { caller = n - 1; callee = g } ∷ []

module _ (same : ℕ → ℕ → Bool) where
  -- the call that one event is, if it is one, where n of the functions hs have begun
  unfoldable pub called_by : List Head → ℕ → Event → List Call
  called_by hs n (function i) = []
  called_by hs n (parameter i) = []
  called_by hs n (thing d i) = []
  called_by hs n opens = []
  called_by hs n closes = []
  called_by hs n (declares i) = []
  called_by hs n (uses i) = []
  called_by hs n (calls i m) = call_to n (function_of same hs i)
  called_by hs n (ends i b) = []

  -- the calls in the text
  abbrev pub calls_of : List Event → List Call
  calls_of es = scan begun (called_by (heads es)) 0 es

-- ---- chains of calls

-- function f calls function g
unfoldable pub is_call : List Call → ℕ → ℕ → Bool
is_call [] f g = false
is_call (c ∷ cs) f g = (eqb c.caller f && eqb c.callee g) || is_call cs f g

-- a chain of calls leads from f to g, and each function between the two has a number below k: with k too, it leaves k out, or leads to k and from there on
unfoldable pub chained : List Call → ℕ → ℕ → ℕ → Bool
chained cs zero f g = eqb f g || is_call cs f g
chained cs (suc k) f g = chained cs k f g || (chained cs k f k && chained cs k k g)

-- ---- the offsets

-- the places of the names of those of the functions hs, numbered from g on, that are to be told, in the order of the text; ps are the places of the tokens
unfoldable pub offsets_from : (told : ℕ → Bool) → List ℕ → ℕ → List Head → List ℕ
offsets_from told ps g [] = []
offsets_from told ps g (h ∷ hs) = elim (told g) [ true ↦ get_or ps h.name 0 ∷ offsets_from told ps (suc g) hs | false ↦ offsets_from told ps (suc g) hs ]

-- of a text with the tree p: those that no chain of calls leads to from main
unfoldable pub offsets_in : Source → Ast A.prog → List ℕ
offsets_in s p =
    let es = events p in
    let hs = heads es in
    offsets_from (λ g. not (chained (calls_of (same_in s) es) (length hs) (main_of (main_in s) hs) g)) s.places 0 hs

-- of a text; one without tokens or tree is refused by check, and is given none here
unfoldable pub offsets_of : List ℕ → List ℕ
offsets_of text = elim (lexed text) [ L.refused n p ↦ [] | L.tokens ts ↦ elim (parsed (kinds ts)) [ bad m ↦ [] | ok t m ↦ offsets_in (source_of text ts) (ast t) ] ]

-- ---- the operation

-- a refusal, by number and place; or "the count"
pub data Reply : Type 0 where
  refused : (number place : ℕ) → Reply
  counted : ℕ → Reply

-- the answer, and the words of the lent slice at exit
pub record Left : Type 0 where
  pub reply : Reply
  pub words : List ℕ

abbrev pub left : Reply → List ℕ → Left
left r words = record { reply = r; words = words }

-- "Remarks refuses 15 if the lent u16 slice has under 16 places (place 0), then as check."
abbrev pub verdict : (text lent : List ℕ) → Verdict
verdict text lent = cond (ltb (length lent) 16) (C.refused 15 0) (checked text)

-- a refusal writes nothing. Else the offsets os stand in "the first places", and "Other places keep their words."
abbrev pub answering : (os lent : List ℕ) → Verdict → Left
answering os lent (C.refused n p) = left (refused n p) lent
answering os lent accepted = left (counted (length os)) (os ++ drop (length os) lent)

unfoldable pub remarks_of : (text lent : List ℕ) → Left
remarks_of text lent = answering (offsets_of text) lent (verdict text lent)

-- the answer of the code, in document 01's words: number and place; or the count
abbrev pub reply_of : Result ℕ Refusal → Reply
reply_of (Err r) = refused (number_of r.reason) r.place
reply_of (Ok n) = counted n

-- the answer of the code, with the words of the slice at exit
abbrev pub leaves : Result ℕ Refusal → List ℕ → Left
leaves r words = left (reply_of r) words
