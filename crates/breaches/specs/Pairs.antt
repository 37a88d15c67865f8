-- What the code of the rules 18 and 19 asks and answers.
use Rattle.std.specs.Prelude.{ℕ, ◌+◌, Bool, true, false, cond, List, [], ◌∷◌, get_or, drop, eqb}
use Rattle.syntax.specs.Token.{k_free, k_semi}
use Rattle.syntax.specs.Ast.{bit}
use Rattle.semantics.specs.Program.{Window}
use Rattle.text_rules.specs.Own.{Own, own, breaching, is_reversed, is_wide}
use Rattle.text_rules.specs.Answers.{minus_at, owns_from}
use Rattle.breaches.specs.declared.pairs.PairRule.{PairRule}
use Rattle.breaches.specs.declared.pairs.PairRule.TheVariants.{Reversed, Wide}

-- the value of token i
abbrev pub word : List ℕ → ℕ → ℕ
word values i = get_or values i 0

-- a rule of the code is rule 19
abbrev pub wide_rule : PairRule → Bool
wide_rule Reversed = false
wide_rule Wide = true

-- the pairs that break rule 19, or rule 18
abbrev pub pair_rule : Bool → Window → Bool
pair_rule wide = elim wide [ true ↦ is_wide | false ↦ is_reversed ]

-- the declaration with its own pair whose `free` is token i, if that is one
abbrev pub own_here : List ℕ → ℕ → List Own
own_here ks i =
    cond (eqb (get_or ks i 0) k_free)
    (cond (eqb (get_or ks (i + 1) 0) k_semi) [] (own (i + 1) (minus_at ks (i + 1)) (minus_at ks (i + 1 + bit (minus_at ks (i + 1)) + 2)) ∷ []))
    []

-- the tokens that break the rule, of the declarations in the tokens from token i on
abbrev pub breaches_from : (kinds values : List ℕ) → Bool → ℕ → List ℕ
breaches_from kinds values wide i = breaching (word values) (pair_rule wide) (owns_from i (drop i kinds))
