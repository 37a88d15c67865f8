use Prim.Native.Nat.{◌+◌, ◌*◌}
use Rattle.events.proofs.+arm_statement.Given as goal

abbrev pub decreases-arm : goal.decreases-arm
decreases-arm l = 2 * l.i + 1

abbrev pub decreases-statement : goal.decreases-statement
decreases-statement l = 2 * l.i
