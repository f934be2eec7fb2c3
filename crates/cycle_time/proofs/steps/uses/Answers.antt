use Rattle.std.proofs.Common.{sym, ◌∙◌}
use Rattle.plan_model.specs.Members.{member}
use Rattle.plan_model.proofs.Uses.{is_used}
use Rattle.cycle_time.proofs.steps.uses.Goals as goal

pub returns : goal.returns
returns c =
    c.is_some.ensures
    ∙ sym (is_used (member c.args.cut.now c.args.i) c.args.place c.use_at.result (sym c.use_at.ensures.is))
