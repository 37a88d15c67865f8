use mathlib.Core.Path.{refl}
use mathlib.Core.Logic.{⊎_elim}
use native.Mathlib.Omega.{arith}
use Rattle.intervals.specs.Meaning.{of_window}
use Rattle.machine.proofs.Entries.{goes-run, goes-from, adv-out, adv-fail, adv-number, adv-name, adv-argument, adv-op, adv-cmp, adv-cut, adv-call, adv-constant, adv-jump, adv-skip, adv-again, adv-begin, adv-ask, adv-own, adv-store, adv-return, adv-returned}
use Rattle.machine.proofs.advance.Goals as goal

pub returns-then-len-run : goal.returns-then-len-run
returns-then-len-run c = (adv-out c.args.code.now c.args.mem.now c.args.run (omega (arith, c.if-len-run.true, c.len.ensures.value)), refl)

pub returns-then-run-eq-DEPTH : goal.returns-then-run-eq-DEPTH
returns-then-run-eq-DEPTH c =
    (adv-cut c.args.code.now c.args.mem.now c.args.run c.entry.result c.entry.ensures _ _ c.in-Call.is c.if-run-eq-DEPTH.true, refl)

pub returns-then-run-eq0 : goal.returns-then-run-eq0
returns-then-run-eq0 c =
    adv-returned c.args.code.now c.args.mem.now c.args.run c.entry.result c.entry.ensures c.in-Return.is c.if-run-eq0.true c.take.result.value c.take.result.top c.take.ensures

pub returns-in-Number : goal.returns-in-Number
returns-in-Number c =
    goes-run c.moved.ensures (
    ⊎_elim (λ h. adv-number c.args.code.now c.args.mem.now c.args.run c.entry.result c.entry.ensures h.0 h.1 c.requires.0)
    (
    λ h. ⊎_elim (λ h. adv-name c.args.code.now c.args.mem.now c.args.run c.entry.result c.entry.ensures h.0 h.1 c.requires.0)
    (λ h. adv-argument c.args.code.now c.args.mem.now c.args.run c.entry.result c.entry.ensures h.0 h.1 c.requires.0)
    h
    )
    c.in-Number.is
    )

pub returns-in-Operate : goal.returns-in-Operate
returns-in-Operate c =
    goes-from (adv-op c.args.code.now c.args.mem.now c.args.run c.entry.result c.entry.ensures _ _ c.in-Operate.is) (c.operate.ensures _ _ c.pair-p.ensures)

pub returns-in-Compare : goal.returns-in-Compare
returns-in-Compare c =
    adv-cmp c.args.code.now c.args.mem.now c.args.run c.entry.result c.entry.ensures c.in-Compare.c _ c.in-Compare.is c.pair-p-in-Compare.result.left c.pair-p-in-Compare.result.right c.pair-p-in-Compare.result.top c.requires.0 c.pair-p-in-Compare.ensures

pub returns-else-run-eq-DEPTH : goal.returns-else-run-eq-DEPTH
returns-else-run-eq-DEPTH c =
    goes-from (adv-call c.args.code.now c.args.mem.now c.args.run c.entry.result c.entry.ensures _ _ c.in-Call.is) c.enter.ensures

pub returns-in-Constant : goal.returns-in-Constant
returns-in-Constant c =
    goes-run c.flagged.ensures (adv-constant c.args.code.now c.args.mem.now c.args.run c.entry.result c.entry.ensures _ c.in-Constant.is c.requires.0)

pub returns-in-Jump : goal.returns-in-Jump
returns-in-Jump c =
    goes-run c.moved-in-Jump.ensures (adv-jump c.args.code.now c.args.mem.now c.args.run c.entry.result c.entry.ensures _ _ c.in-Jump.is c.landing.result c.landing.ensures c.requires.0)

pub returns-in-Skip : goal.returns-in-Skip
returns-in-Skip c =
    goes-run c.moved-in-Skip.ensures (adv-skip c.args.code.now c.args.mem.now c.args.run c.entry.result c.entry.ensures _ c.in-Skip.is c.requires.0)

pub returns-in-Again : goal.returns-in-Again
returns-in-Again c =
    goes-run c.moved-in-Again.ensures (adv-again c.args.code.now c.args.mem.now c.args.run c.entry.result c.entry.ensures _ c.in-Again.is c.saturating_sub.result c.saturating_sub.ensures c.requires.0)

pub returns-in-Begin : goal.returns-in-Begin
returns-in-Begin c =
    goes-run c.moved-in-Begin.ensures (adv-begin c.args.code.now c.args.mem.now c.args.run c.entry.result c.entry.ensures c.in-Begin.is c.requires.0)

pub returns-in-Ask : goal.returns-in-Ask
returns-in-Ask c =
    adv-ask c.args.code.now c.args.mem.now c.args.run c.entry.result c.entry.ensures _ c.in-Ask.is (of_window c.args.job) c.requires.3 _ c.args.k _ c.ask.ensures

pub returns-in-Own : goal.returns-in-Own
returns-in-Own c =
    adv-own c.args.code.now c.args.mem.now c.args.run c.entry.result c.entry.ensures _ c.in-Own.is (of_window c.args.job) (of_window c.own_pair-own.result) c.own_pair-own.ensures.0 c.own_pair-own.ensures.1 _ c.args.k _ c.ask-in-Own.ensures

pub returns-in-Store : goal.returns-in-Store
returns-in-Store c =
    goes-from (adv-store c.args.code.now c.args.mem.now c.args.run c.entry.result c.entry.ensures _ c.in-Store.is) c.store.ensures

pub returns-else-run-eq0 : goal.returns-else-run-eq0
returns-else-run-eq0 c =
    goes-from (adv-return c.args.code.now c.args.mem.now c.args.run c.entry.result c.entry.ensures c.in-Return.is) c.leave.ensures

pub returns-in-Fail : goal.returns-in-Fail
returns-in-Fail c = (adv-fail c.args.code.now c.args.mem.now c.args.run c.entry.result c.entry.ensures c.in-Fail.is, refl)
