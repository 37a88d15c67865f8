use mathlib.Core.Path.{sym, ◌∙◌}
use Rattle.semantics.specs.Search.{known, work}
use Rattle.simulation.specs.Machine.{Doing, advance}
use Rattle.intervals.specs.Meaning.{of_window}
use Rattle.machine.specs.Memory.{machine_at}
use Rattle.machine.specs.declared.Did.TheVariants as Did
use Rattle.paths.specs.declared.Turned.TheVariants as Turned
use Rattle.paths.proofs.Keeping.{standing-kept, growing-kept, silent-on, returned-stops, failed-stops, cut-stops, onwards, done-as, turned, test-turned}
use Rattle.paths.proofs.Stays.{stays_same, stays_then, stays-kept}
use Rattle.paths.proofs.turn.Goals as goal

pub after_step-requires : goal.after_step-requires
after_step-requires c =
    let x = c.args.code.now in
    let job = of_window c.args.job in
    let g = done-as (advance known work x (machine_at c.args.mem.now c.args.p.run)) job c.args.mem.now c.args.p.run.nodes c.advance.new.mem c.args.p.windows c.advance.result
    (Did.Step c.in-Step.r) c.in-Step.is c.advance.ensures in
    (standing-kept c.args.p g.kept c.advance.auto.mem c.requires.0.standing, g.ready, growing-kept g)

pub after_free-requires : goal.after_free-requires
after_free-requires c =
    let x = c.args.code.now in
    let job = of_window c.args.job in
    let g = done-as (advance known work x (machine_at c.args.mem.now c.args.p.run)) job c.args.mem.now c.args.p.run.nodes c.advance.new.mem c.args.p.windows c.advance.result
    (Did.Free c.in-Free.r c.in-Free.w) c.in-Free.is c.advance.ensures in
    (standing-kept c.args.p g.asked.kept c.advance.auto.mem c.requires.0.standing, g.asked.ready, g.asked.one, g.asked.node, g.filled)

pub returns-in-Silent : goal.returns-in-Silent
returns-in-Silent c =
    let x = c.args.code.now in
    let job = of_window c.args.job in
    let g = done-as (advance known work x (machine_at c.args.mem.now c.args.p.run)) job c.args.mem.now c.args.p.run.nodes c.advance.new.mem c.args.p.windows c.advance.result
    (Did.Silent c.in-Silent.r) c.in-Silent.is c.advance.ensures in
    let t = silent-on c.args.mem.now c.args.p job x c.requires.0.standing c.advance.new.mem c.in-Silent.r c.proceed.result
    c.advance.auto.mem g c.proceed.ensures in
    ((t, onwards job x c.args.mem.now c.advance.new.mem c.args.p (Turned.On _ c.proceed.result) c.requires.0 c.advance.auto.mem t), stays-kept c.args.p.choices g.kept)

pub returns-in-Step : goal.returns-in-Step
returns-in-Step c =
    let x = c.args.code.now in
    let job = of_window c.args.job in
    let g = done-as (advance known work x (machine_at c.args.mem.now c.args.p.run)) job c.args.mem.now c.args.p.run.nodes c.advance.new.mem c.args.p.windows c.advance.result
    (Did.Step c.in-Step.r) c.in-Step.is
    c.advance.ensures in (
      turned c.args.mem.now c.args.p job x c.requires.0 c.advance.new.mem c.after_step.new.mem c.after_step.result
          (Doing.step (machine_at c.advance.new.mem c.in-Step.r)) g.kept
          (c.after_step.auto.mem ∙ c.advance.auto.mem) g.is
          (c.after_step.ensures.0 job),
      stays_then (stays-kept c.args.p.choices g.kept) c.after_step.ensures.1,
    )

pub returns-in-Free : goal.returns-in-Free
returns-in-Free c =
    let x = c.args.code.now in
    let job = of_window c.args.job in
    let g = done-as (advance known work x (machine_at c.args.mem.now c.args.p.run)) job c.args.mem.now c.args.p.run.nodes c.advance.new.mem c.args.p.windows c.advance.result
    (Did.Free c.in-Free.r c.in-Free.w) c.in-Free.is
    c.advance.ensures in (
      turned c.args.mem.now c.args.p job x c.requires.0 c.advance.new.mem c.after_free.new.mem c.after_free.result (Doing.free g.own g.next) g.asked.kept
          (c.after_free.auto.mem ∙ c.advance.auto.mem) g.is
          (c.after_free.ensures.0 job g.own (sym g.pair) g.next g.asked.is),
      stays_then (stays-kept c.args.p.choices g.asked.kept) c.after_free.ensures.1,
    )

pub returns-in-Test : goal.returns-in-Test
returns-in-Test c =
    let x = c.args.code.now in
    let job = of_window c.args.job in
    let g = done-as (advance known work x (machine_at c.args.mem.now c.args.p.run)) job c.args.mem.now c.args.p.run.nodes c.advance.new.mem c.args.p.windows c.advance.result
    (Did.Test c.in-Test.c c.in-Test.v
    c.in-Test.w c.in-Test.r)
    c.in-Test.is c.advance.ensures in (
      test-turned c.args.mem.now c.args.p job x c.requires.0 c.advance.new.mem c.after_test.new.mem c.after_test.result c.in-Test.c
          c.in-Test.v c.in-Test.w
          c.in-Test.r
          (c.after_test.auto.mem ∙ c.advance.auto.mem) g (c.after_test.ensures.0 job),
      stays_then (stays_same g.same) c.after_test.ensures.1,
    )

pub returns-in-Returned : goal.returns-in-Returned
returns-in-Returned c =
    let x = c.args.code.now in
    let job = of_window c.args.job in
    let g = done-as (advance known work x (machine_at c.args.mem.now c.args.p.run)) job c.args.mem.now c.args.p.run.nodes c.advance.new.mem c.args.p.windows c.advance.result
    (Did.Returned c.in-Returned.v) c.in-Returned.is c.advance.ensures in
    ((returned-stops c.args.mem.now c.args.p job x c.requires.0.standing c.advance.new.mem c.in-Returned.v g, tt), stays_same g.same)

pub returns-in-Failed : goal.returns-in-Failed
returns-in-Failed c =
    let x = c.args.code.now in
    let job = of_window c.args.job in
    let g = done-as (advance known work x (machine_at c.args.mem.now c.args.p.run)) job c.args.mem.now c.args.p.run.nodes c.advance.new.mem c.args.p.windows c.advance.result (Did.Failed) c.in-Failed.is
    c.advance.ensures in
    ((failed-stops c.args.mem.now c.args.p job x c.requires.0.standing c.advance.new.mem g.0 g.1, tt), stays_same g.1)

pub returns-in-Cut : goal.returns-in-Cut
returns-in-Cut c =
    let x = c.args.code.now in
    let job = of_window c.args.job in
    let g = done-as (advance known work x (machine_at c.args.mem.now c.args.p.run)) job c.args.mem.now c.args.p.run.nodes c.advance.new.mem c.args.p.windows c.advance.result (Did.Cut) c.in-Cut.is
    c.advance.ensures in
    ((cut-stops c.args.mem.now c.args.p job x c.requires.0.standing c.advance.new.mem g.0 g.1, tt), stays_same g.1)
