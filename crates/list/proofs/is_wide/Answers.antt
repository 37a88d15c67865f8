use mathlib.Core.Path.{◌≡◌, sym, ap, ◌∙◌}
use lib.IntN.{pos, ◌-ℤ◌}
use lib.Signed.{le_z}
use mir.Facts.{to_z-of_z}
use Rattle.text_rules.proofs.Wide.{wide}
use Rattle.list.proofs.is_wide.Goals as goal

pub returns : goal.returns
returns c =
    let e : c.gap.result ≡ c.args.high -ℤ c.args.low = rw (to_z-of_z c.ranges.low, to_z-of_z c.ranges.high) at c.gap.ensures in
    rw (to_z-of_z (record { sfits = c.gap.type_inv })) (ap (le_z (pos 4096)) e ∙ sym (wide c.args.low c.args.high))
