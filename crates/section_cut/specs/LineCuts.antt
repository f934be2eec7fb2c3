-- The rows of the members of all sections, before connections are added.
use Rattle.std.specs.Prelude.{◌≡◌, ℕ, ◌<◌, length, slice_index_or}
use Rattle.rail_model.specs.declared.tables.Tables.{Tables}
use Rattle.rail_model.specs.Tables.{section_at}
use Rattle.section_cut.specs.declared.cuts.SectionRows.{SectionRows}
use Rattle.section_cut.specs.declared.line_cuts.RowsOfAll.{RowsOfAll}
use Rattle.section_cut.specs.Members.{AreSectionRowsTo}

-- each section of the tables has its positions and the rows of its members among the first so many
-- runs
pub record AreRowsTo (tables : Tables) (n : ℕ) (all : RowsOfAll) : Type 0 where
  pub count : length all.each.items ≡ length tables.sections
  pub each : (k : ℕ) (d : SectionRows) → k < length tables.sections
      → AreSectionRowsTo tables (section_at tables k) all.stamp n (slice_index_or all.each.items k d)
