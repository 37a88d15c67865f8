use mathlib.Core.Path.{refl}
use mathlib.Core.Logic.{⊎_elim}
use native.Mathlib.Omega.{arith}
use Rattle.machine.proofs.Entries.{goes-run, adv-number, adv-name, adv-argument, adv-constant, adv-jump, adv-skip, adv-again, adv-begin}
use Rattle.paths.specs.Point.{running}
use Rattle.known_steps.proofs.Making.{one-made, silent-made, step-made}
use Rattle.known_steps.proofs.one.Goals as goal

pub returns-in-Number : goal.returns-in-Number
returns-in-Number c =
    one-made c.args.code.now c.args.mem.now c.args.mem.now c.args.p c.args.floor c.proceed.result _ c.proceed.ensures
    (silent-made c.args.code.now c.args.mem.now c.args.p c.requires.0 c.args.mem.now _ refl
    (⊎_elim (λ h. adv-number c.args.code.now c.args.mem.now c.args.p.run c.entry.result c.entry.ensures h.0 h.1 c.requires.0.ready)
    (
    λ h. ⊎_elim (λ h. adv-name c.args.code.now c.args.mem.now c.args.p.run c.entry.result c.entry.ensures h.0 h.1 c.requires.0.ready)
    (λ h. adv-argument c.args.code.now c.args.mem.now c.args.p.run c.entry.result c.entry.ensures h.0 h.1 c.requires.0.ready)
    h
    )
    c.in-Number.is))
    c.requires.1

pub returns-in-Constant : goal.returns-in-Constant
returns-in-Constant c =
    one-made c.args.code.now c.args.mem.now c.args.mem.now c.args.p c.args.floor c.proceed-in-Constant.result (running c.args.p c.flagged.result) c.proceed-in-Constant.ensures
    (silent-made c.args.code.now c.args.mem.now c.args.p c.requires.0 c.args.mem.now c.flagged.result refl
    (goes-run c.flagged.ensures (adv-constant c.args.code.now c.args.mem.now c.args.p.run c.entry.result c.entry.ensures _ c.in-Constant.is c.requires.0.ready)))
    c.requires.1

pub returns-in-Jump : goal.returns-in-Jump
returns-in-Jump c =
    one-made c.args.code.now c.args.mem.now c.args.mem.now c.args.p c.args.floor c.proceed-in-Jump.result _ c.proceed-in-Jump.ensures
    (silent-made c.args.code.now c.args.mem.now c.args.p c.requires.0 c.args.mem.now _ refl
    (adv-jump c.args.code.now c.args.mem.now c.args.p.run c.entry.result c.entry.ensures _ _ c.in-Jump.is c.landing.result c.landing.ensures c.requires.0.ready))
    c.requires.1

pub returns-in-Skip : goal.returns-in-Skip
returns-in-Skip c =
    one-made c.args.code.now c.args.mem.now c.args.mem.now c.args.p c.args.floor c.proceed-in-Skip.result _ c.proceed-in-Skip.ensures
    (silent-made c.args.code.now c.args.mem.now c.args.p c.requires.0 c.args.mem.now _ refl
    (adv-skip c.args.code.now c.args.mem.now c.args.p.run c.entry.result c.entry.ensures _ c.in-Skip.is c.requires.0.ready))
    c.requires.1

pub returns-in-Again : goal.returns-in-Again
returns-in-Again c =
    one-made c.args.code.now c.args.mem.now c.args.mem.now c.args.p c.args.floor c.spend.result _ c.spend.ensures
    (step-made c.args.code.now c.args.mem.now c.args.p c.requires.0 (omega (arith, c.if-floor-p-3.true)) c.args.mem.now _ refl
    (adv-again c.args.code.now c.args.mem.now c.args.p.run c.entry.result c.entry.ensures _ c.in-Again.is c.saturating_sub.result c.saturating_sub.ensures c.requires.0.ready) refl)
    (omega (arith, c.if-floor-p-3.true))

pub returns-in-Begin : goal.returns-in-Begin
returns-in-Begin c =
    one-made c.args.code.now c.args.mem.now c.args.mem.now c.args.p c.args.floor c.spend-in-Begin.result _ c.spend-in-Begin.ensures
    (step-made c.args.code.now c.args.mem.now c.args.p c.requires.0 (omega (arith, c.if-floor-p-4.true)) c.args.mem.now _ refl
    (adv-begin c.args.code.now c.args.mem.now c.args.p.run c.entry.result c.entry.ensures c.in-Begin.is c.requires.0.ready) refl)
    (omega (arith, c.if-floor-p-4.true))

pub returns-in-Store : goal.returns-in-Store
returns-in-Store c =
    one-made c.args.code.now c.args.mem.now c.store.new.mem c.args.p c.args.floor c.store.result c.store.result refl c.store.ensures.0 (omega (arith, c.store.ensures.1, c.requires.1))
