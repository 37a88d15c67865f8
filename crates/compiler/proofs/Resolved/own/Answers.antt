use Rattle.std.proofs.Common.{◌≡◌, ℕ, ◌+◌, ◌%◌, ℤ, w32, ap, ◌∙◌, arith}
use mir.Facts.{to_z-of_z}
use Rattle.semantics.specs.Program.{slot}
use Rattle.syntax.specs.Ast.{bit, low_first, low_number, high_number}
use Rattle.text_rules.specs.Own.{signed}
use Rattle.simulation.specs.Code.{number, own, leaf, act}
use Rattle.compiler.specs.Coded.{word}
use Rattle.compiler.proofs.Laws.{said, grown-then}
use Rattle.compiler.proofs.Resolved.own.Goals as goal

pub returns : goal.returns
returns c =
    record {
      is = λ a b p q.
          let l = c.end-l.ensures.is a p in
          let h = c.end-h.ensures.is b q in
          let k : c.args.token + 5 + c.args.low + bit b ≡ high_number (low_first c.args.token) a b = omega (arith, p) in
          let e : c.address.result.0 % 16 ≡ word c.args.self.now.slots (c.args.token + 1) = omega (arith, c.address.ensures, c.requires.variable) in
          grown-then (said c.args.code.now c.push.new.self (leaf (number (signed a (word c.args.self.now.values (low_number (low_first c.args.token) a))))) (ap (λ (z : ℤ). leaf (number z)) (to_z-of_z {w = w32} (record { sfits = c.end-l.type_inv }) ∙ l)) c.push.ensures.entries c.push.ensures.starts)
          (grown-then (said c.push.new.self c.push-2.new.self (leaf (number (signed b (word c.args.self.now.values (high_number (low_first c.args.token) a b))))) (ap (λ (z : ℤ). leaf (number z)) (to_z-of_z {w = w32} (record { sfits = c.end-h.type_inv }) ∙ h ∙ ap (λ (n : ℕ). signed b (word c.args.self.now.values n)) k)) c.push-2.ensures.entries c.push-2.ensures.starts)
          (said c.push-2.new.self c.push-3.new.self (act (own (slot (word c.args.self.now.slots (c.args.token + 1))))) (ap (λ (n : ℕ). act (own (slot n))) e) c.push-3.ensures.entries c.push-3.ensures.starts));
    }
