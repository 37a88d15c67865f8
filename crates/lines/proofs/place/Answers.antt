use native.Mathlib.Omega.{arith}
use mathlib.Core.Path.{◌≡◌, ◌∙◌, ap}
use lib.ListN.{length}
use Rattle.std.specs.Prelude.{unwrap_or}
use Rattle.lines.specs.JobLine.{place}
use Rattle.lines.proofs.Words.{or-length, place-le}
use Rattle.lines.proofs.place.Goals as goal

pub returns : goal.returns
returns c =
    let e : c.unwrap_or.result ≡ place c.args.b c.args.s.now = c.unwrap_or.ensures ∙ ap (λ o. unwrap_or o (length c.args.s.now)) c.find.ensures ∙ or-length c.args.b c.args.s.now in
    (e, omega (arith, e, place-le c.args.b c.args.s.now))
