-- What the tally of the code stands for.
use Rattle.std.specs.Prelude.{◌^◌, ◌<◌}
use Rattle.text_rules.specs.Rules.{Tally, tally}
use Rattle.breaches.specs.declared.counts.Tally as C

-- the tally that the code keeps; each count leaves room for one more
abbrev pub tallied : C.Tally → Tally
tallied t = tally t.functions t.parameters t.declarations

pub record Room (t : C.Tally) : Type 0 where
  pub functions : t.functions < 2 ^ 63
  pub parameters : t.parameters < 2 ^ 63
  pub declarations : t.declarations < 2 ^ 63
