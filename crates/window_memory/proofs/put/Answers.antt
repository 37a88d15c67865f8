use Prim.Native.Nat.{ℕ, ◌+◌, ◌*◌, ◌<◌}
use mathlib.Core.Path.{◌≡◌, refl, sym, ap, ◌∙◌}
use mathlib.Core.List.{List, []}
use native.Mathlib.Omega.{arith}
use native.Mathlib.Numerals.{add-one}
use lib.ListN.{length, get_or, take}
use lib.Seq.{take_all}
use borrow.Author.Rules.{rules}
use Rattle.window_memory.specs.Memory.{put_pair, put_pairs}
use Rattle.window_memory.proofs.Stored.{length-put, put-more}
use Rattle.window_memory.proofs.put.Goals as goal

pub loop-i-init : goal.loop-i-init
unfolding put_pairs
loop-i-init c = refl

pub put_pair-requires : goal.put_pair-requires
put_pair-requires c =
    omega (arith, ap length c.loop-i.invariant, length-put c.args.mem.now c.args.at (take c.loop-i.i c.args.ws))

pub loop-i-preserved : goal.loop-i-preserved
loop-i-preserved c =
    let n : c.loop-i.i < length c.args.ws = search rules in
    c.put_pair.ensures
    ∙ ap (λ (m : List ℕ). put_pair m (c.args.at + 2 * c.loop-i.i) (get_or c.args.ws c.loop-i.i [])) c.loop-i.invariant
    ∙ sym (put-more c.args.mem.now c.args.at c.args.ws c.loop-i.i n)
    ∙ ap (λ (j : ℕ). put_pairs c.args.mem.now c.args.at (take j c.args.ws)) (sym (add-one c.loop-i.i))

pub shape_of-mem : goal.shape_of-mem
shape_of-mem c =
    ap length c.loop-i.invariant ∙ length-put c.args.mem.now c.args.at (take c.loop-i.i c.args.ws)

pub returns : goal.returns
returns c =
    let n : length c.args.ws ≡ 8 = search rules in
    c.loop-i.invariant ∙ ap (put_pairs c.args.mem.now c.args.at) (take_all c.loop-i.i c.args.ws (omega arith))
