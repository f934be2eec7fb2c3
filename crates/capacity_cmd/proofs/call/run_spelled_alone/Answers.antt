use Rattle.std.proofs.Common.{◌≡◌, ◌∙◌, ap, Ok, subst, rules}
use Rattle.capacity_cmd.specs.Command.{workers_asked}
use Rattle.capacity_cmd.proofs.Commands.{read_none, read_some, read_command}
use Rattle.capacity_cmd.proofs.call.run_spelled_alone.Goals as goal

pub returns-in-Ok-None : goal.returns-in-Ok-None
returns-in-Ok-None g c = λ not_made. rw not_made (rw (read_none _ _ c.command_of.ensures (c.in-Ok-None.is ∙ ap Ok c.in-Ok-None.field-0-is)) (search rules))

-- memory ran out for the command
pub returns-in-Err : goal.returns-in-Err
returns-in-Err g c =
    let found = read_some _ _ _ c.command_of.ensures c.in-Err.is in
    λ not_made. rw not_made (rw found.1 (search rules))

pub returns-in-Ok-Some : goal.returns-in-Ok-Some
returns-in-Ok-Some g c =
    let arm = c.in-Ok-Some in
    λ not_made. rw not_made
    (rw (read_command _ _ arm.command c.command_of.ensures (arm.is ∙ ap Ok arm.field-0-is)) c.run_command.ensures)

pub run_command-requires-after_bounds : goal.run_command-requires-after_bounds
run_command-requires-after_bounds g c κs within =
    let arm = c.in-Ok-Some in
    let spelled = read_command _ _ arm.command c.command_of.ensures (arm.is ∙ ap Ok arm.field-0-is) in
    subst (λ found. workers_asked found ≡ 0) spelled c.requires
