use Rattle.std.proofs.Common.{◌-◌, refl}
use Rattle.session_run.proofs.Seating.{new_planner, another_worker}
use Rattle.session_run.proofs.threads.duty_of.Goals as goal

pub returns-then-number-planners : goal.returns-then-number-planners
returns-then-number-planners c = new_planner c.args.planners c.args.workers c.args.number c.if-number-planners.true

pub returns : goal.returns
returns c =
    rw c.new.ensures
    (another_worker c.args.planners c.args.workers c.args.number (c.args.number - c.args.planners - 1) _ c.if-number-planners.false refl)
