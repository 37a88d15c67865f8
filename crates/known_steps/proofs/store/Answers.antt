use mathlib.Core.Path.{sym, ap, subst}
use Rattle.machine.specs.Terms.{Put}
use Rattle.paths.specs.declared.Point.{Point}
use Rattle.known_steps.specs.Turns.{Made}
use Rattle.known_steps.proofs.Working.{store-made}
use Rattle.known_steps.proofs.store.Goals as goal

pub returns : goal.returns
returns c = (
  subst (Made c.args.code.now c.args.mem.now c.put.new.mem c.args.p) (sym c.proceed.ensures)
      (store-made c.args.code.now c.args.mem.now c.args.p c.requires.0 c.args.a c.requires.2 c.take-t.result.kind c.take-t.result.word c.take-t.result.top c.take-t.ensures c.put.new.mem c.put.auto.mem
      (subst (Put c.args.mem.now c.put.new.mem _) (c.first_word.ensures c.take-t.result.word) c.put.ensures)),
  ap (λ (q : Point). q.steps) c.proceed.ensures,
)
