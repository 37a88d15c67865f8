-- What the code's operations and comparisons are, in the words of `semantics`.
use Rattle.semantics.specs.Int.{Op, add, sub, mul, Cmp, lt, le, gt, ge, eq, ne}
use Rattle.ints.specs.declared.Operation.{Operation}
use Rattle.ints.specs.declared.Operation.TheVariants.{Add, Sub, Mul}
use Rattle.ints.specs.declared.Comparison.{Comparison}
use Rattle.ints.specs.declared.Comparison.TheVariants.{Less, AtMost, Greater, AtLeast, Equal, Unequal}

-- `+`, `-` and `*`
abbrev pub of_operation : Operation → Op
of_operation Add = add
of_operation Sub = sub
of_operation Mul = mul

-- `<`, `<=`, `>`, `>=`, `==` and `!=`
abbrev pub of_comparison : Comparison → Cmp
of_comparison Less = lt
of_comparison AtMost = le
of_comparison Greater = gt
of_comparison AtLeast = ge
of_comparison Equal = eq
of_comparison Unequal = ne
