use Prim.Native.Nat.{ℕ, ◌+◌, ◌<◌}
use mathlib.Core.Path.{◌≡◌, sym, ap, ◌∙◌, subst}
use native.Mathlib.Omega.{arith}
use lib.IntN.{ℤ}
use mir.Syntax.{w32}
use mir.Val.{of_z, to_z, SFits}
use mir.Facts.{to_z-of_z}
use Rattle.semantics.specs.Int as int
use Rattle.simulation.specs.Nodes as nodes
use Rattle.ints.specs.Meaning.{of_operation}
use Rattle.machine.specs.Memory.{cell_read_as}
use Rattle.machine.specs.Terms.{cell_of, Sized}
use Rattle.machine.specs.declared.Value.{Value}
use Rattle.machine.specs.declared.Value.TheVariants.{Known, Open}
use Rattle.machine.proofs.Operands.{worked-both, worked-left, worked-right, node-op}
use borrow.Author.Rules.{rules}
use Rattle.machine.proofs.work.Goals as goal
use Rattle.machine.proofs.work.Goals.{in-Known-Open, in-Open-Known, in-Open-Open}

sized-known : (v : Value) (z : ℤ) → v ≡ Known z → Sized v → SFits w32 z
sized-known v z e w = subst (λ (v : Value). Sized v) e w

-- the word of a known value
known-word : (v : Value) (x : ℕ) (z : ℤ) → v ≡ Known z → SFits w32 z → x ≡ of_z w32 z → cell_read_as 0 x ≡ cell_of v
known-word v x z e f q = ap nodes.Known (ap (to_z w32) q ∙ to_z-of_z f) ∙ ap cell_of (sym e)

open-word : (v : Value) (j : ℕ) → v ≡ Open j → cell_read_as 1 j ≡ cell_of v
open-word v j e = ap cell_of (sym e)

pub returns-in-Known-Known : goal.returns-in-Known-Known
returns-in-Known-Known c =
    let x : ℤ = c.in-Known-Known.a in
    let y : ℤ = c.in-Known-Known.b in
    let fx = sized-known c.args.v x c.in-Known-Known.is-0 c.requires.1 in
    let fy = sized-known c.args.w y c.in-Known-Known.is-1 c.requires.2 in
    let o : to_z w32 (of_z w32 c.apply.result) ≡ int.arith (of_operation c.args.op) x y = to_z-of_z {w = w32} {z = c.apply.result} (record { sfits = c.apply.type_inv }) ∙ simp (to_z-of_z fx, to_z-of_z fy) at c.apply.ensures in
    worked-both c.args.mem.now c.args.nodes (of_operation c.args.op) c.args.v c.args.w x y _ (search rules) c.in-Known-Known.is-0 c.in-Known-Known.is-1 o

pub returns : goal.returns
returns c =
    let n : ℕ = c.from-number.result in
    let l : n < 3 = c.from-number.ensures.1 in
    elim c.match-v.branch [
      | in-Known-Open b ↦
          let f = sized-known c.args.v b.in-Known-Open.a b.in-Known-Open.is-0 c.requires.1 in
          rw b.mem-is
          (worked-right c.args.mem.now b.node.new.mem c.args.nodes (of_operation c.args.op) c.args.v c.args.w _ b.node.ensures
          (node-op n (n + 9) b.word.result b.in-Known-Open.j 0 1 (omega arith) (omega arith) (omega arith)
          ∙ (λ i. nodes.operation (c.from-number.ensures.0 i) (known-word c.args.v b.word.result b.in-Known-Open.a b.in-Known-Open.is-0 f (simp (to_z-of_z f) at b.word.ensures) i) (open-word c.args.w b.in-Known-Open.j b.in-Known-Open.is-1 i)))
          (omega (arith, c.requires.0.small)) b.in-Known-Open.a b.in-Known-Open.j b.in-Known-Open.is-0 b.in-Known-Open.is-1)
      | in-Open-Known b ↦
          let f = sized-known c.args.w b.in-Open-Known.b b.in-Open-Known.is-1 c.requires.2 in
          rw b.mem-is
          (worked-left c.args.mem.now b.node-in-Open-Known.new.mem c.args.nodes (of_operation c.args.op) c.args.v c.args.w _ b.node-in-Open-Known.ensures
          (node-op n (n + 5) b.in-Open-Known.i b.word-in-Open-Known.result 1 0 (omega arith) (omega arith) (omega arith)
          ∙ (λ i. nodes.operation (c.from-number.ensures.0 i) (open-word c.args.v b.in-Open-Known.i b.in-Open-Known.is-0 i) (known-word c.args.w b.word-in-Open-Known.result b.in-Open-Known.b b.in-Open-Known.is-1 f (simp (to_z-of_z f) at b.word-in-Open-Known.ensures) i)))
          (omega (arith, c.requires.0.small)) b.in-Open-Known.i b.in-Open-Known.is-0)
      | in-Open-Open b ↦
          rw b.mem-is
          (worked-left c.args.mem.now b.node-in-Open-Open.new.mem c.args.nodes (of_operation c.args.op) c.args.v c.args.w _ b.node-in-Open-Open.ensures
          (node-op n (n + 13) b.in-Open-Open.i b.in-Open-Open.j 1 1 (omega arith) (omega arith) (omega arith)
          ∙ (λ i. nodes.operation (c.from-number.ensures.0 i) (open-word c.args.v b.in-Open-Open.i b.in-Open-Open.is-0 i) (open-word c.args.w b.in-Open-Open.j b.in-Open-Open.is-1 i)))
          (omega (arith, c.requires.0.small)) b.in-Open-Open.i b.in-Open-Open.is-0)
    ]
