use mathlib.Core.Path.{◌≡◌, sym, ◌∙◌}
use mathlib.Core.List.{map}
use native.Mathlib.Omega.{arith}
use lib.ListN.{length-map}
use Rattle.std.proofs.Common.{Some}
use Rattle.text_rules.specs.Answers.{as_head}
use Rattle.text_rules.specs.Rules.{function_of}
use Rattle.text_rules.specs.Spelling.{same_in}
use Rattle.text_rules.proofs.Functions.{function-position}
use Rattle.names.proofs.Seeing.{unknown, known}
use Rattle.names.proofs.Walks.{function-below}
use Rattle.names.proofs.see_call.Goals as goal

pub write-requires : goal.write-requires
write-requires c =
    let e : Some c.in-Some.number ≡ function_of (same_in c.args.source.now) (map as_head c.args.heads.now) c.args.i = sym c.in-Some.is ∙ c.position_of.ensures ∙ function-position (same_in c.args.source.now) c.args.i c.args.heads.now in
    omega (arith, c.requires, length-map c.args.heads.now as_head, function-below (same_in c.args.source.now) (map as_head c.args.heads.now) c.args.i c.in-Some.number e)

pub returns-in-Some : goal.returns-in-Some
returns-in-Some c = known c.args.i (sym c.in-Some.is ∙ c.position_of.ensures ∙ function-position (same_in c.args.source.now) c.args.i c.args.heads.now) c.write.ensures

pub returns-in-None : goal.returns-in-None
returns-in-None c = unknown c.args.i (sym c.in-None.is ∙ c.position_of.ensures ∙ function-position (same_in c.args.source.now) c.args.i c.args.heads.now) c.lesser.ensures
