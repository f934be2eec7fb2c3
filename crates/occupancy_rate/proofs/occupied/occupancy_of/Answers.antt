use Rattle.std.proofs.Common.{◌∙◌, subst}
use Rattle.plan_model.specs.Members.{AnswersFirst}
use Rattle.occupancy_rate.specs.Spans.{lasting}
use Rattle.occupancy_rate.proofs.Longest.{times_are, busiest_is}
use Rattle.occupancy_rate.proofs.occupied.occupancy_of.Goals as goal

pub returns-clause-time : goal.returns-clause-time
returns-clause-time c = λ entries are. c.greatest_time-time.ensures ∙ times_are c.args.cut.now entries c.args.spans.now are

pub returns-clause-busiest : goal.returns-clause-busiest
returns-clause-busiest c =
    let cut = c.args.cut.now in
    λ entries are.
    busiest_is cut entries c.args.spans.now are c.requires.sound c.greatest_time-time.result
    (c.greatest_time-time.ensures ∙ times_are cut entries c.args.spans.now are) c.busiest.result
    (subst (λ cut. AnswersFirst cut (lasting c.args.spans.now c.greatest_time-time.result) c.busiest.result) c.of.ensures c.busiest.ensures)
