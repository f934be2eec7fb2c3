use Rattle.std.proofs.Common.{map, sym, ◌∙◌, rules}
use Rattle.std.specs.String.{string_bytes}
use Rattle.capacity_cmd.specs.Command.{command_of}
use Rattle.capacity_cmd.proofs.Commands.{few_are_short, others_are_short, read_short}
use Rattle.capacity_cmd.proofs.command.command_of.Goals as goal
use Rattle.capacity_cmd.proofs.command.command_of.Goals.{in_default-via-then-words-lt2, in_default-via-in-len2-up+then-eq+else-are_delays, in_default-via-in-len2-up+else-eq}

pub returns-in_default : goal.returns-in_default
returns-in_default c =
    read_short _ (command_of (map string_bytes c.args.words.now)) c.short_command_of.result
    (elim c.in_default.branch [
      | in_default-via-then-words-lt2 w ↦ few_are_short string_bytes c.args.words.now (search rules) ∙ sym c.short_command_of.ensures.spelled
      | in_default-via-in-len2-up+then-eq+else-are_delays w ↦ others_are_short string_bytes c.args.words.now (sym w.are_delays.ensures ∙ w.if-are_delays.false) ∙ sym c.short_command_of.ensures.spelled
      | in_default-via-in-len2-up+else-eq w ↦ search rules
    ])
