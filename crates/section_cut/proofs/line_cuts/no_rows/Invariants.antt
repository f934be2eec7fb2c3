use Rattle.std.proofs.Common.{◌≡◌, ◌<◌, ℕ, length, get_or}
use Rattle.rail_model.specs.Tables.{section_at}
use Rattle.section_cut.specs.declared.cuts.SectionRows.{SectionRows}
use Rattle.section_cut.specs.Members.{AreSectionRowsTo}
use Rattle.section_cut.proofs.line_cuts.no_rows.Given as goal

-- each section so far has the rows of no run
abbrev pub invariant-loop-section : goal.invariant-loop-section
invariant-loop-section l = record {
  count : length l.each.items ≡ l.section;
  none : (k : ℕ) (d : SectionRows) → k < l.section
      → AreSectionRowsTo l.tables (section_at l.tables k) l.stamp 0 (get_or l.each.items k d);
}
