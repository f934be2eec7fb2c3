use Rattle.std.proofs.Common.{◌≡◌, ◌<◌, ◌≤◌, ℕ, length, get_or}
use Rattle.rail_model.specs.Tables.{section_at}
use Rattle.section_cut.specs.declared.cuts.SectionRows.{SectionRows}
use Rattle.section_cut.specs.Members.{AreSectionRowsTo}
use Rattle.section_cut.proofs.line_cuts.add_part.Given as goal

-- the sections before this one have the rows up to the later run, and the others those up to the earlier
abbrev pub invariant-loop-section : goal.invariant-loop-section
invariant-loop-section l = record {
  stamp : l.all.stamp ≡ l.initial.all.stamp;
  count : length l.all.each.items ≡ length l.tables.sections;
  done : (k : ℕ) (d : SectionRows) → k < l.section
      → AreSectionRowsTo l.tables (section_at l.tables k) l.all.stamp l.to (get_or l.all.each.items k d);
  left : (k : ℕ) (d : SectionRows) → l.section ≤ k → k < length l.tables.sections
      → AreSectionRowsTo l.tables (section_at l.tables k) l.all.stamp l.from (get_or l.all.each.items k d);
}
