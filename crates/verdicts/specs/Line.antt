-- The line that is printed for a text that is only checked: what check answers, and the remarks on a text that it accepts.
use Rattle.std.specs.Prelude.{ℕ, List}
use Rattle.checker.specs.Check.{Verdict, accepted, refused, checked}
use Rattle.remarks.specs.Remarks.{offsets_of}
use Rattle.lines.specs.Print.{refusal, acceptance}

-- `refused N at P`, as the lister prints it; or `accepted`, and behind it the offsets os
abbrev pub line_for : List ℕ → Verdict → List ℕ
line_for os (refused n p) = refusal n p
line_for os accepted = acceptance os

-- "the name offset of each function but main that no chain of calls in the text leads to from main", as remarks writes them
unfoldable pub line_of : List ℕ → List ℕ
line_of text = line_for (offsets_of text) (checked text)
