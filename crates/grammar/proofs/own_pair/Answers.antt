use Prim.Native.Nat.{◌+◌}
use mathlib.Core.Path.{refl}
use native.Mathlib.Omega.{arith}
use Rattle.grammar.proofs.Ends.{to_number, end-bits, minus-bit}
use Rattle.grammar.proofs.Steps.{room_for, written, begin, ate, wrote, missed, found}
use Rattle.grammar.specs.Parse.{read_own, expect, read_end, ok}
use Rattle.grammar.specs.Readers.{is_minus}
use Rattle.syntax.specs.Abstract.{ast}
use Rattle.syntax.specs.Table.{at-declare-own}
use Rattle.syntax.specs.Token.{k_dot_dot, k_semi}
use Rattle.syntax.specs.Tree.{declare_own}
use Rattle.grammar.proofs.own_pair.Goals as goal

pub returns-in_err-expect : goal.returns-in_err-expect
unfolding read_own ast
returns-in_err-expect c =
    let low = to_number (λ a m. expect c.args.source.now.kinds k_dot_dot m (read_end c.args.source.now.kinds (m + 1) (λ b o. expect c.args.source.now.kinds k_semi o (ok (declare_own c.args.first a b) (o + 1))))) c.end_number-low.ensures.0 c.end_number-low.ensures.1 (begin 1 (λ d. read_own c.args.source.now.kinds c.args.first) c.requires.0) in
    record { same = cc; tells = missed _ c.in_err-expect.ensures c.from_residual.ensures low }

pub returns-in_err-expect-2 : goal.returns-in_err-expect-2
unfolding read_own ast
returns-in_err-expect-2 c =
    let low = to_number (λ a m. expect c.args.source.now.kinds k_dot_dot m (read_end c.args.source.now.kinds (m + 1) (λ b o. expect c.args.source.now.kinds k_semi o (ok (declare_own c.args.first a b) (o + 1))))) c.end_number-low.ensures.0 c.end_number-low.ensures.1 (begin 1 (λ d. read_own c.args.source.now.kinds c.args.first) c.requires.0) in
    let dots = ate _ c.in_ok-expect.ensures refl low in
    record { same = cc; tells = missed _ c.in_err-expect-2.ensures c.from_residual-in_err-expect-2.ensures dots }

pub returns-in_err-expect-3 : goal.returns-in_err-expect-3
unfolding read_own ast
returns-in_err-expect-3 c =
    let low = to_number (λ a m. expect c.args.source.now.kinds k_dot_dot m (read_end c.args.source.now.kinds (m + 1) (λ b o. expect c.args.source.now.kinds k_semi o (ok (declare_own c.args.first a b) (o + 1))))) c.end_number-low.ensures.0 c.end_number-low.ensures.1 (begin 1 (λ d. read_own c.args.source.now.kinds c.args.first) c.requires.0) in
    let dots = ate _ c.in_ok-expect.ensures refl low in
    let after = ate _ c.in_ok-expect-2.ensures refl dots in
    let high = to_number (λ b o. expect c.args.source.now.kinds k_semi o (ok (declare_own c.args.first (is_minus c.args.source.now.kinds c.args.at) b) (o + 1))) c.end_number-high.ensures.0 c.end_number-high.ensures.1 after in
    record { same = cc; tells = missed _ c.in_err-expect-3.ensures c.from_residual-in_err-expect-3.ensures high }

pub returns-in_err-expect-4 : goal.returns-in_err-expect-4
unfolding read_own ast
returns-in_err-expect-4 c =
    let low = to_number (λ a m. expect c.args.source.now.kinds k_dot_dot m (read_end c.args.source.now.kinds (m + 1) (λ b o. expect c.args.source.now.kinds k_semi o (ok (declare_own c.args.first a b) (o + 1))))) c.end_number-low.ensures.0 c.end_number-low.ensures.1 (begin 1 (λ d. read_own c.args.source.now.kinds c.args.first) c.requires.0) in
    let dots = ate _ c.in_ok-expect.ensures refl low in
    let after = ate _ c.in_ok-expect-2.ensures refl dots in
    let high = to_number (λ b o. expect c.args.source.now.kinds k_semi o (ok (declare_own c.args.first (is_minus c.args.source.now.kinds c.args.at) b) (o + 1))) c.end_number-high.ensures.0 c.end_number-high.ensures.1 after in
    let semi = ate _ c.in_ok-expect-3.ensures refl high in
    record { same = cc; tells = missed _ c.in_err-expect-4.ensures c.from_residual-in_err-expect-4.ensures semi }

pub returns : goal.returns
unfolding read_own ast
returns c =
    let low = to_number (λ a m. expect c.args.source.now.kinds k_dot_dot m (read_end c.args.source.now.kinds (m + 1) (λ b o. expect c.args.source.now.kinds k_semi o (ok (declare_own c.args.first a b) (o + 1))))) c.end_number-low.ensures.0 c.end_number-low.ensures.1 (begin 1 (λ d. read_own c.args.source.now.kinds c.args.first) c.requires.0) in
    let dots = ate _ c.in_ok-expect.ensures refl low in
    let after = ate _ c.in_ok-expect-2.ensures refl dots in
    let high = to_number (λ b o. expect c.args.source.now.kinds k_semi o (ok (declare_own c.args.first (is_minus c.args.source.now.kinds c.args.at) b) (o + 1))) c.end_number-high.ensures.0 c.end_number-high.ensures.1 after in
    let semi = ate _ c.in_ok-expect-3.ensures refl high in
    let end = ate _ c.in_ok-expect-4.ensures refl semi in
    record { same = cc; tells = found (wrote c.add.ensures end (omega arith)) (record { kind = _; at = at-declare-own {a = is_minus c.args.source.now.kinds c.args.at} {b = is_minus c.args.source.now.kinds (c.end_number-low.result + 1 + 1)} (end-bits (minus-bit c.args.at c.end_number-low.result (is_minus c.args.source.now.kinds c.args.at) c.end_number-low.ensures.0) (minus-bit (c.end_number-low.result + 1 + 1) c.end_number-high.result (is_minus c.args.source.now.kinds (c.end_number-low.result + 1 + 1)) c.end_number-high.ensures.0) (written c.add.ensures (room_for c.requires.0))) }) (omega arith) (omega arith) refl }
