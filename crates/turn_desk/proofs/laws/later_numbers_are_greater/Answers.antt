use Rattle.turn_desk.proofs.Drawing.{later_greater}
use Rattle.turn_desk.proofs.laws.later_numbers_are_greater.Goals as goal

pub returns : goal.returns
returns g c =
    let kept = g.V.Kept in
    later_greater kept.pass_of kept.issued_by g.met.V.Kept.longer_issues_no_fewer
