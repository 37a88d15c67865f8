-- The numbers of refusals (document 01, "Check", "Remarks", "List" and "The program"; 17 to 20 by the slips of document 02).
use Rattle.std.specs.Prelude.{ℕ}
use Rattle.syntax.specs.declared.refusal.Reason.{Reason}
use Rattle.syntax.specs.declared.refusal.Reason.TheVariants as reason

abbrev pub number_of : Reason → ℕ
number_of reason.TooLong = 1
number_of reason.NoToken = 2
number_of reason.TooLarge = 3
number_of reason.Misplaced = 4
number_of reason.TooDeep = 5
number_of reason.BadName = 6
number_of reason.BadCall = 7
number_of reason.BadMain = 8
number_of reason.OpenEnd = 9
number_of reason.TooMany = 10
number_of reason.ShortScratch = 11
number_of reason.LowAboveHigh = 12
number_of reason.WideWindow = 13
number_of reason.BadSteps = 14
number_of reason.ShortOffsets = 15
number_of reason.BadJobLine = 16
number_of reason.Unassigned = 17
number_of reason.ReversedPair = 18
number_of reason.WidePair = 19
number_of reason.ShortOutput = 20
