use Rattle.std.proofs.Common.{◌-◌, length}
use Rattle.rail_model.specs.Tables.{section_at}
use Rattle.section_cut.proofs.Placing.{IsFilled}
use Rattle.section_cut.proofs.positions.positions.Given as goal

-- the table as far as it is filled, from the end of the section's list on
abbrev pub invariant-loop-later : goal.invariant-loop-later
invariant-loop-later l =
    IsFilled l.tables (section_at l.tables l.section) (length (section_at l.tables l.section).blocks - l.later) l.table.items
