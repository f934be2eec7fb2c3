use Rattle.rail_model.specs.Tables.{section_at}
use Rattle.section_cut.proofs.LineCuts.{of_none}
use Rattle.section_cut.proofs.cuts.no_section_rows.Goals as goal

pub returns : goal.returns
returns c stamp = record {
  positions = c.in_ok-positions.ensures;
  members = of_none c.args.tables.now (section_at c.args.tables.now c.args.section) stamp c.in_ok-no_members.field-0 c.in_ok-no_members.ensures.rows c.in_ok-no_members.ensures.of_run;
}
