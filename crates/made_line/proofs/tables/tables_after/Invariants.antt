use Rattle.std.proofs.Common.{◌≡◌, take}
use Rattle.rail_model.specs.Rules.{no_tables, after_edits}
use Rattle.made_line.proofs.tables.tables_after.Given as goal

abbrev pub invariant-loop-edit : goal.invariant-loop-edit
invariant-loop-edit l = l.tables ≡ after_edits no_tables (take l.edit-index l.edits)
