-- What the search leaves is what list leaves.
use Rattle.std.specs.Prelude.{Ok}
use Prim.Native.Nat.{ℕ, ◌/◌}
use mathlib.Core.Path.{◌≡◌, refl, sym, ap, ◌∙◌}
use mathlib.Core.List.{List}
use lib.ListN.{length, replicate}
use lib.IntN.{ℤ}
use Rattle.semantics.specs.Does.{does, Sure}
use Rattle.semantics.specs.Search as S
use Rattle.semantics.specs.Search.{known, work, to, in_use}
use Rattle.simulation.specs.Code.{Code}
use Rattle.simulation.specs.Placed.{Placed}
use Rattle.settings.specs.Rows.{sheet}
use Rattle.settings.proofs.Slice.{rows-length}
use Rattle.search.specs.Loop.{Lists, close_of}
use Rattle.search.specs.Loop as loop
use Rattle.search.specs.declared.Answered.{Answered}
use Rattle.list.specs.List.{program, job_of, Answer, listed, Left, lists}
use Rattle.list.specs.Parts.{answer_of, leaves}
use Rattle.list.specs.Code.{Searches}

abbrev left : Answer → List ℤ → List ℕ → Left
left a rows scratch = record { answer = a; rows = rows; scratch = scratch }

module _ (code : Code) (low high : ℤ) (steps skip budget : ℕ) (rows rows' : List ℤ) (scratch scratch' : List ℕ) (a : Answered) where
  pub searched : Lists code (to low high) steps skip (length rows / 10) budget rows rows' a → scratch' ≡ replicate (length scratch) 0
      → Searches code low high steps skip budget rows scratch (leaves (Ok a) rows' scratch')
  searched l z = record { is = by }
    where
      by : (text : List ℕ) → Placed code (program text) → Sure (does known work steps (program text)) → leaves (Ok a) rows' scratch' ≡ lists rows scratch (S.listed in_use (job_of text low high steps) skip (length rows / 10) budget)
      by text p u =
          let x = loop.answer_of rows' a in
          let k : answer_of (Ok a) ≡ listed (length x.rows) x.moves x.close = ap (λ (m : ℕ). listed m a.moves (close_of a.ending)) (sym (rows-length rows' a.written)) in
          ap (λ (b : Answer). left b rows' scratch') k
          ∙ ap (λ (s : List ℤ). left (listed (length x.rows) x.moves x.close) s scratch') l.sheet
          ∙ ap (left (listed (length x.rows) x.moves x.close) (sheet rows x.rows)) z
          ∙ ap (lists rows scratch) (l.is (job_of text low high steps) p u refl refl)
