-- Laws of collecting the functions of a text.
use Prim.Native.Nat.{ℕ, ◌+◌, ◌-◌, ◌≤◌, ◌<◌}
use mathlib.Core.Path.{◌≡◌, refl, sym, ap, ◌∙◌}
use mathlib.Core.List.{List, [], ◌∷◌, ◌++◌, append_assoc, append-nil, map}
use Rattle.std.specs.List.{take_while, prefix_len}
use native.Mathlib.Omega.{arith}
use lib.ListN.{length, get_or, take, drop, length-drop, length-append}
use lib.Seq.{take_all, length-take-le}
use Rattle.events.specs.Event.{Event}
use Rattle.events.specs.Read.{as_event}
use Rattle.events.specs.declared.event.Event as C
use Rattle.events.specs.declared.event.Event.TheVariants.{Function, Parameter, Thing, Opens, Closes, Declares, Uses, Calls, Ends}
use Rattle.text_rules.specs.Rules.{Head, heads, parameters}
use Rattle.text_rules.specs.Answers.{head, is_parameter}
use Rattle.text_rules.proofs.Scans.{rest, rest_more, rest-none}

-- ---- the parameters that events begin with

prefix-is : (l : List C.Event) → prefix_len is_parameter l ≡ parameters (map as_event l)
unfolding parameters
prefix-is [] = refl
prefix-is (Function i ∷ l) = refl
prefix-is (Parameter i ∷ l) = omega (arith, prefix-is l)
prefix-is (Thing d i ∷ l) = refl
prefix-is (Opens ∷ l) = refl
prefix-is (Closes ∷ l) = refl
prefix-is (Declares i ∷ l) = refl
prefix-is (Uses i ∷ l) = refl
prefix-is (Calls i n ∷ l) = refl
prefix-is (Ends i b ∷ l) = refl

prefix-le : (l : List C.Event) → prefix_len is_parameter l ≤ length l
prefix-le [] = omega arith
prefix-le (Function i ∷ l) = omega arith
prefix-le (Parameter i ∷ l) = omega (arith, prefix-le l)
prefix-le (Thing d i ∷ l) = omega arith
prefix-le (Opens ∷ l) = omega arith
prefix-le (Closes ∷ l) = omega arith
prefix-le (Declares i ∷ l) = omega arith
prefix-le (Uses i ∷ l) = omega arith
prefix-le (Calls i n ∷ l) = omega arith
prefix-le (Ends i b ∷ l) = omega arith

-- the events from event i on, as a slice has them
pub arity-is : (l : List C.Event) (i : ℕ) → length (take_while is_parameter (take (length l - i) (drop i l))) ≡ parameters (rest l i)
arity-is l i =
    let k = drop i l in
    ap (λ (m : List C.Event). length (take_while is_parameter m)) (take_all (length l - i) k (omega (arith, length-drop i l)))
    ∙ length-take-le (prefix_len is_parameter k) k (prefix-le k)
    ∙ prefix-is k

-- ---- one more event

-- an event is no function
abbrev pub NoFunction : C.Event → Type 0
NoFunction x = (t : ℕ) → x ≡ Function t → ⊥

passes : (es : List Event) (x : C.Event) → NoFunction x → heads (as_event x ∷ es) ≡ heads es
unfolding heads
passes es (Function i) h = absurd (h i refl)
passes es (Parameter i) h = refl
passes es (Thing d i) h = refl
passes es Opens h = refl
passes es Closes h = refl
passes es (Declares i) h = refl
passes es (Uses i) h = refl
passes es (Calls i n) h = refl
passes es (Ends i b) h = refl

-- hs are the functions of the events before event i
abbrev pub Gathered : List C.Event → ℕ → List Head → Type 0
Gathered l i hs = (length hs ≤ i) × (hs ++ heads (rest l i) ≡ heads (map as_event l))

module _ (l : List C.Event) (i : ℕ) (d : C.Event) (hs : List Head) (g : Gathered l i hs) (lt : i < length l) where
  pub gathered-add : (t a : ℕ) (ks : List Head) → get_or l i d ≡ Function t → a ≡ parameters (rest l (i + 1)) → ks ≡ hs ++ head t a ∷ [] → Gathered l (i + 1) ks
  unfolding heads
  gathered-add t a ks e f x =
      let n : length ks ≡ length hs + 1 = ap length x ∙ simp length-append in (
        omega (arith, n, g.0),
        ap (λ (k : List Head). k ++ heads (rest l (i + 1))) x
            ∙ append_assoc hs (head t a ∷ []) (heads (rest l (i + 1)))
            ∙ ap (λ (k : List Head). hs ++ k) (ap (λ (n : ℕ). head t n ∷ heads (rest l (i + 1))) f ∙ sym (ap heads (rest_more l i d lt) ∙ ap (λ (y : C.Event). heads (as_event y ∷ rest l (i + 1))) e))
            ∙ g.1,
      )

  pub gathered-pass : NoFunction (get_or l i d) → Gathered l (i + 1) hs
  gathered-pass o = (omega (arith, g.0), ap (λ (k : List Head). hs ++ k) (sym (ap heads (rest_more l i d lt) ∙ passes (rest l (i + 1)) (get_or l i d) o)) ∙ g.1)

pub gathered-end : (l : List C.Event) (i : ℕ) (hs : List Head) → Gathered l i hs → length l ≤ i → hs ≡ heads (map as_event l)
unfolding heads
gathered-end l i hs g le = sym (append-nil hs) ∙ ap (λ (es : List Event). hs ++ heads es) (sym (rest-none l i le)) ∙ g.1
