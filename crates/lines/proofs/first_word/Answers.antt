use native.Mathlib.Omega.{arith}
use mathlib.Core.Path.{sym, ◌∙◌, ap}
use Prim.Native.Nat.{ℕ, ◌+◌}
use lib.ListN.{take, drop, drop_of_length-le}
use lib.Seq.{take_all}
use Rattle.lines.specs.JobLine.{place}
use Rattle.lines.proofs.Words.{whole-rest, found-place, no_place}
use Rattle.lines.proofs.first_word.Goals as goal

pub returns-in-Some-clause-word : goal.returns-in-Some-clause-word
returns-in-Some-clause-word c =
    let f = found-place 32 c.args.s.now c.in-Some.end (sym c.find.ensures ∙ c.in-Some.is) in
    ap (λ (n : ℕ). take n c.args.s.now) f.0

pub returns-in-Some-clause-rest : goal.returns-in-Some-clause-rest
returns-in-Some-clause-rest c =
    let f = found-place 32 c.args.s.now c.in-Some.end (sym c.find.ensures ∙ c.in-Some.is) in
    whole-rest c.args.s.now (c.in-Some.end + 1) ∙ ap (λ (n : ℕ). drop (n + 1) c.args.s.now) f.0

pub returns-in-None-clause-word : goal.returns-in-None-clause-word
returns-in-None-clause-word c = sym (take_all _ _ (omega (arith, no_place 32 c.args.s.now (sym c.find.ensures ∙ c.in-None.is))))

pub returns-in-None-clause-rest : goal.returns-in-None-clause-rest
returns-in-None-clause-rest c = sym (drop_of_length-le c.args.s.now {i = place 32 c.args.s.now + 1} (omega (arith, no_place 32 c.args.s.now (sym c.find.ensures ∙ c.in-None.is))))
