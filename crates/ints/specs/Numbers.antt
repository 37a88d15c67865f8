-- The numbers by which code names a comparison or an operation.
use Rattle.std.specs.Prelude.{ℕ, zero, suc}
use Rattle.semantics.specs.Int.{Op, add, sub, mul, Cmp, lt, le, gt, ge, eq, ne}

-- "two expressions with one of `< <= > >= == !=` between": 0 to 5, in this order
unfoldable pub number_of : Cmp → ℕ
number_of lt = 0
number_of le = 1
number_of gt = 2
number_of ge = 3
number_of eq = 4
number_of ne = 5

-- read back
abbrev pub comparison : ℕ → Cmp
comparison zero = lt
comparison (suc zero) = le
comparison (suc (suc zero)) = gt
comparison (suc (suc (suc zero))) = ge
comparison (suc (suc (suc (suc zero)))) = eq
comparison (suc (suc (suc (suc (suc n))))) = ne

-- `+`, `-` and `*`: 0 to 2, in this order
abbrev pub operation : ℕ → Op
operation zero = add
operation (suc zero) = sub
operation (suc (suc n)) = mul
