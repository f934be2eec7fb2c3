use Rattle.std.proofs.Common.{refl}
use Rattle.rail_model.specs.declared.edit.Edit.TheVariants as edits
use Rattle.row_text.specs.Lines.{line_of}
use Rattle.row_text.specs.declared.word.Word.TheVariants as word
use Rattle.capacity_cmd.proofs.Making.{base_row_taken}
use Rattle.capacity_cmd.proofs.input.InputSoFar.drop_of.Goals as goal

pub returns-in-Ok : goal.returns-in-Ok
returns-in-Ok c = λ planners version.
    base_row_taken planners c.args.number (line_of version (word.Drop c.args.kind) c.args.row.now) (edits.Drop c.args.kind c.in-Ok.name) c.args.self.now c.drop_named.new.self
    (rw (← c.in-Ok.ensures) refl) c.requires.none c.drop_named.ensures.tables c.drop_named.ensures.edits
