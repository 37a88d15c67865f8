use mathlib.Core.Path.{◌∙◌, subst}
use mathlib.Core.List.{List}
use Prim.Native.Nat.{ℕ, ◌+◌, ◌-◌}
use Rattle.checkpoints.specs.Live.{size_of, number_count}
use Rattle.checkpoints.specs.Words.{Numbered}
use Rattle.checkpoints.proofs.Beside.{saved-so}
use Rattle.checkpoints.proofs.save.Goals as goal

-- src/lib.rt:151:1
pub returns : goal.returns
returns c =
    saved-so c.args.cells c.args.mem.now c.save_pairs.new.mem c.put_numbers.new.mem c.args.p c.args.w c.requires.0 c.requires.5 c.requires.2 (c.put_numbers.auto.mem ∙ c.save_pairs.auto.mem) c.save_pairs.ensures
    (subst (λ (h : List ℕ). Numbered c.save_pairs.new.mem c.put_numbers.new.mem h (c.args.w + size_of c.args.cells c.args.p - number_count) number_count) c.numbers_of.ensures
    (subst (λ (n : ℕ). Numbered c.save_pairs.new.mem c.put_numbers.new.mem c.numbers_of.result (c.args.w + n - number_count) number_count) c.size_of-n.ensures c.put_numbers.ensures))
