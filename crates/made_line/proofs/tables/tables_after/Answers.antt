use Rattle.std.proofs.Common.{sym}
use Rattle.rail_model.specs.Rules.{no_tables}
use Rattle.made_line.proofs.Puts.{accepted_at, one_edit_more}
use Rattle.made_line.proofs.tables.tables_after.Goals as goal

pub make-requires : goal.make-requires
make-requires c =
    rw (c.loop-edit.invariant, c.edit-item.is)
    (accepted_at no_tables c.args.edits.now c.loop-edit.edit-index c.edit-item.result c.requires c.loop-edit-test.true)

pub loop-edit-preserved : goal.loop-edit-preserved
loop-edit-preserved c =
    rw (c.in_ok-make.ensures, c.loop-edit.invariant, c.edit-item.is)
    (sym (one_edit_more no_tables c.args.edits.now c.loop-edit.edit-index c.edit-item.result c.loop-edit-test.true))
