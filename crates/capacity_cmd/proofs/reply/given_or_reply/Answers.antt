use Rattle.std.proofs.Common.{ℕ, Err, refl, sym, ap, ◌∙◌}
use Rattle.row_text.specs.Rows.{rows_of}
use Rattle.capacity_cmd.specs.Input.{content_of_rows}
use Rattle.capacity_cmd.specs.InputSoFar.{accepted_in}
use Rattle.capacity_cmd.specs.Outcome.{Refuses}
use Rattle.capacity_cmd.proofs.Outcomes.{ends_on_accepted, ends_refused, within_limits}
use Rattle.capacity_cmd.proofs.reply.given_or_reply.Goals as goal

pub returns-in-Ok : goal.returns-in-Ok
returns-in-Ok c =
    let input = c.args.input.now in
    let made = ap (λ (n : ℕ). accepted_in (content_of_rows n (rows_of input))) (sym c.planners-planners.ensures)
    ∙ (rw c.in-Ok.is at c.accepted_of_text.ensures.same) in
    record {
      within = within_limits c.args.command.now c.planners-planners.result input (rows_of input) c.in-Ok.given c.planners-planners.ensures refl
          c.requires (rw c.in-Ok.is at c.accepted_of_text.ensures.within);
      ends = λ outcome ends. ends_on_accepted c.args.command.now input c.in-Ok.given outcome c.requires made ends;
    }

pub returns-in_ok-reply-in-Err-Refused : goal.returns-in_ok-reply-in-Err-Refused
returns-in_ok-reply-in-Err-Refused c =
    let input = c.args.input.now in
    let arm = c.in-Err-Refused in
    let refused = arm.refused in
    let made = ap (λ (n : ℕ). accepted_in (content_of_rows n (rows_of input))) (sym c.planners-planners.ensures)
    ∙ (rw (arm.is ∙ ap Err arm.field-0-is) at c.accepted_of_text.ensures.same) in
    record {
      outcome = Refuses refused.row refused.cause;
      ends = ends_refused c.args.command.now input refused c.requires made;
      said = c.in_ok-reply-in-Err-Refused.ensures.says;
    }
