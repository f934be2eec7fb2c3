use Rattle.plan_model.specs.Outcome.{EditsTo}
use Rattle.plan_model.proofs.Adding.{gives_adds, edit_adds}
use Rattle.acceptance_seats.proofs.Agreeing.{kept_after}
use Rattle.acceptance_seats.proofs.Starting.{zero_issued}
use Rattle.acceptance_seats.proofs.repairs.edited.Goals as goal

pub edit-requires : goal.edit-requires
edit-requires c = zero_issued c.args.book.now

pub returns : goal.returns
returns c =
    let found = c.args.book.now in
    let after = c.edit.new.self in
    kept_after c.args.keep.now 0 found after
    (gives_adds 0 found after (EditsTo 0 0 c.in-Some.edit) c.edit.result (edit_adds 0 found after 0 c.in-Some.edit)
    c.edit.ensures) c.requires
