use Rattle.std.proofs.Common.{◌≡◌, ◌+◌, subst, arith}
use Rattle.plan_model.specs.Members.{no_use}
use Rattle.section_cut.specs.Positions.{AreSameTo}
use Rattle.section_cut.proofs.Placing.{same_more}
use Rattle.section_cut.proofs.positions.same_two.Goals as goal

pub returns-then-is_placed : goal.returns-then-is_placed
returns-then-is_placed c both =
    let positions = c.args.positions.now in
    let uses = c.args.uses.now in
    let stairway = c.args.stairway.now in
    let at = c.args.at in
    let long = c.requires.long in
    let inside = c.requires.at in
    let one = same_more positions uses stairway at no_use long (omega (arith, inside)) (c.is_placed.ensures.0 c.if-is_placed.true) c.requires.so_far in
    let two = same_more positions uses stairway (at + 1) no_use long inside (c.is_placed-then-is_placed.ensures.0 both) one in
    let next : at + 1 + 1 ≡ at + 2 = omega arith in
    subst (AreSameTo positions uses stairway) next two
