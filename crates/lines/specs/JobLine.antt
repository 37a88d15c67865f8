-- The job line: document 01, "The program". The input is the list of its bytes.
use Rattle.std.specs.Prelude.{ℕ, zero, suc, ◌+◌, Bool, true, false, ◌&&◌, ◌||◌, List, [], ◌∷◌, length, take, drop, eqb, leb, ltb, ℤ, pos, negsuc, neg_ℤ, Option, None, Some}
use Rattle.lexer.specs.Lex.{is_digit, all, same, bytes, decimal}
use Rattle.lines.specs.declared.Job.{Job}

-- ---- a number: "decimal, one to ten digits, a minus allowed before them, .. signed 32 bits"

abbrev pub is_natural : List ℕ → Bool
is_natural ds = all is_digit ds && (leb 1 (length ds) && leb (length ds) 10)

-- the number that digits stand for, and with a minus before them
unfoldable pub plain : List ℕ → Option ℤ
plain ds = elim (is_natural ds && leb (decimal 0 ds) 2147483647) [ true ↦ Some (pos (decimal 0 ds)) | false ↦ None ]

unfoldable pub minus : List ℕ → Option ℤ
minus ds = elim (is_natural ds && leb (decimal 0 ds) 2147483648) [ true ↦ Some (neg_ℤ (pos (decimal 0 ds))) | false ↦ None ]

unfoldable pub number_of : List ℕ → Option ℤ
number_of [] = None
number_of (b ∷ bs) = elim (eqb b 45) [ true ↦ minus bs | false ↦ plain (b ∷ bs) ]

-- ---- words: "single blanks"

-- the place where a byte first stands; the length where it stands nowhere
unfoldable pub place : ℕ → List ℕ → ℕ
place b [] = zero
place b (x ∷ l) = elim (eqb x b) [ true ↦ zero | false ↦ suc (place b l) ]

-- what stands before the first such byte, and what stands after it (nothing where there is none)
abbrev pub before : ℕ → List ℕ → List ℕ
before b l = take (place b l) l

abbrev pub after : ℕ → List ℕ → List ℕ
after b l = drop (place b l + 1) l

abbrev pub blank : ℕ
blank = 32

abbrev pub line_feed : ℕ
line_feed = 10

-- ---- the line: "`job LOW HIGH STEPS` .. negative STEPS is bad"

abbrev pub job_with : ℕ → Option ℤ → Option ℤ → Option ℤ → Option Job
job_with text None high steps = None
job_with text (Some l) None steps = None
job_with text (Some l) (Some h) None = None
job_with text (Some l) (Some h) (Some (negsuc n)) = None
job_with text (Some l) (Some h) (Some (pos n)) = Some (record { low = l; high = h; steps = n; text = text })

-- A line whose text begins at this place: its first word is `job`, its second LOW, its third HIGH, and all that is left of it is STEPS. (A word that is missing is empty, and no number.)
unfoldable pub job_in : ℕ → List ℕ → Option Job
job_in text line =
    let rest = after blank line in
    let last = after blank rest in
    elim (same (before blank line) (bytes "job")) [
      | true ↦ job_with text (number_of (before blank rest)) (number_of (before blank last)) (number_of (after blank last))
      | false ↦ None
    ]

-- "a line .. ended by LF .., then the text"
unfoldable pub line_job : List ℕ → Option Job
line_job input = elim (ltb (place line_feed input) (length input)) [
  | true ↦ job_in (place line_feed input + 1) (before line_feed input)
  | false ↦ None
]

-- what follows this input does not change its job line: the line has ended, or it is longer than any good one
abbrev pub line_settled : List ℕ → Bool
line_settled input = leb 40 (length input) || ltb (place line_feed input) (length input)
