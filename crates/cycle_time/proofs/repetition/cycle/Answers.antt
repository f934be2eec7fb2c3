use Rattle.std.proofs.Common.{subst}
use Rattle.plan_model.specs.declared.cut.Cut.{Cut}
use Rattle.cycle_time.specs.Cycle.{IsCycle}
use Rattle.cycle_time.proofs.Answered.{no_lesser}
use Rattle.cycle_time.proofs.repetition.cycle.Goals as goal

pub returns-in_ok-cycle_of-in-Ok-clause-least : goal.returns-in_ok-cycle_of-in-Ok-clause-least
returns-in_ok-cycle_of-in-Ok-clause-least c =
    no_lesser c.args.cut.now c.in_ok-cycle_of-in-Ok.field-0
    (subst (λ (k : Cut). IsCycle k c.in_ok-cycle_of-in-Ok.field-0) c.of.ensures c.in_ok-cycle_of-in-Ok.ensures)
