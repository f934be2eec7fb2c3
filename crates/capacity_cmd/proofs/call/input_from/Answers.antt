use Rattle.std.proofs.Common.{◌∙◌, ap, Err, subst}
use Rattle.capacity_cmd.specs.declared.status.Cause.TheVariants as cause
use Rattle.capacity_cmd.specs.Outcome.{Refuses}
use Rattle.capacity_cmd.specs.Ends.{EndsOn}
use Rattle.capacity_cmd.proofs.Outcomes.{IsEnd-all, IsEnd-too_long, found_more, found_at_end}
use Rattle.capacity_cmd.proofs.call.input_from.Goals as goal

pub returns-in_ok-given_or_reply-in-Ok-clause-found : goal.returns-in_ok-given_or_reply-in-Ok-clause-found
returns-in_ok-given_or_reply-in-Ok-clause-found g c =
    let taken = c.in_ok-input.ensures in
    found_more c.args.command.now _ _ c.in_ok-given_or_reply-in-Ok.field-0
    (λ outcome ends. IsEnd-all c.args.command.now _ c.in-Ok.input outcome (rw c.in-Ok.is at taken.within)
    (rw c.in-Ok.is at taken.whole, rw c.in-Ok.is at taken.given)
    (record { ended = rw c.in-Ok.is at taken.ended; left = rw c.in-Ok.is at taken.end })
    (subst (λ input. EndsOn c.args.command.now input outcome) c.slice.ensures ends))
    c.in_ok-given_or_reply-in-Ok.ensures

pub returns-in_ok-given_or_reply-in-Ok-clause-whole_input : goal.returns-in_ok-given_or_reply-in-Ok-clause-whole_input
returns-in_ok-given_or_reply-in-Ok-clause-whole_input g c =
    let taken = c.in_ok-input.ensures in
    found_at_end _ c.in_ok-given_or_reply-in-Ok.field-0
    (record { ended = rw c.in-Ok.is at taken.ended; left = rw c.in-Ok.is at taken.end })

pub returns-in_ok-refusal-in-Err-TooLong-clause-found :
    goal.returns-in_ok-refusal-in-Err-TooLong-clause-found
returns-in_ok-refusal-in-Err-TooLong-clause-found g c =
    let arm = c.in-Err-TooLong in
    record {
      outcome = Refuses 0 cause.TooLong;
      ends = IsEnd-too_long c.args.command.now _ (c.in_ok-input.ensures.too_long (arm.is ∙ ap Err arm.field-0-is));
      said = c.in_ok-refusal-in-Err-TooLong.ensures;
    }
