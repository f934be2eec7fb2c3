use Rattle.std.proofs.Common.{◌≡◌, ◌≤◌, map, Some, inl, inr, sym, rules}
use Rattle.std.specs.String.{string_bytes}
use Rattle.capacity_cmd.specs.declared.command.Command.TheVariants as command
use Rattle.capacity_cmd.specs.Command.{command_of}
use Rattle.capacity_cmd.proofs.Commands.{asks_session}
use Rattle.capacity_cmd.proofs.call.run_spelled.Goals as goal

pub returns-in-Ok : goal.returns-in-Ok
returns-in-Ok g c =
    let workers = c.workers_asked-workers.result in
    let some : 1 ≤ workers = search rules in
    let spelled : command_of (map string_bytes c.args.words.now) ≡ Some (command.Session workers)
    = asks_session (command_of (map string_bytes c.args.words.now)) workers (sym c.workers_asked-workers.ensures.asked) some in
    λ not_made. rw not_made (rw spelled (search rules))

-- a read failed, or memory ran out
pub returns-in-Err : goal.returns-in-Err
returns-in-Err g c =
    let workers = c.workers_asked-workers.result in
    let some : 1 ≤ workers = search rules in
    let spelled : command_of (map string_bytes c.args.words.now) ≡ Some (command.Session workers)
    = asks_session (command_of (map string_bytes c.args.words.now)) workers (sym c.workers_asked-workers.ensures.asked) some in
    λ not_made. rw not_made (rw spelled (elim c.in-Err.ensures.why [ inl read ↦ search rules | inr memory ↦ search rules ]))
