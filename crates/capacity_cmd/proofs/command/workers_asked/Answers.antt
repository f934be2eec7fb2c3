use Rattle.std.proofs.Common.{map, sym, ap}
use Rattle.std.specs.String.{string_bytes}
use Rattle.capacity_cmd.specs.Command.{workers_asked}
use Rattle.capacity_cmd.proofs.Commands.{asked_as_short}
use Rattle.capacity_cmd.proofs.command.workers_asked.Goals as goal

pub returns-in-None-clause-asked : goal.returns-in-None-clause-asked
returns-in-None-clause-asked c =
    asked_as_short (map string_bytes c.args.words.now) c.short_command_of.result 0 c.short_command_of.ensures.spelled
    (sym (ap workers_asked c.in-None.is))
