use Rattle.std.proofs.Common.{◌≡◌, take, map, option_copied}
use Rattle.capacity_cmd.specs.Published.{last_answers}
use Rattle.capacity_cmd.proofs.published.last_answers.Given as goal

-- the last ones of the entries so far
abbrev pub invariant-loop-entry : goal.invariant-loop-entry
invariant-loop-entry l = map option_copied l.last.items ≡ last_answers (take l.entry-index l.journal) l.tables.sections
