use Rattle.section_cut.proofs.Anew.{value_of}
use Rattle.acceptance_plans.proofs.changes.write_changes.Goals as goal

pub write_edits-requires : goal.write_edits-requires
write_edits-requires c =
    value_of c.args.tables.now c.in-Ok.name 8 c.in-Ok-cut_of.cut c.in-Ok-cut_of.ensures.same
