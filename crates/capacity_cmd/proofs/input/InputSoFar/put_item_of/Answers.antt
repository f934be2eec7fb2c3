use Rattle.std.proofs.Common.{refl}
use Rattle.rail_model.specs.declared.edit.Edit.TheVariants as edits
use Rattle.row_text.specs.Lines.{line_of}
use Rattle.row_text.specs.declared.word.Word.TheVariants as word
use Rattle.capacity_cmd.proofs.Making.{base_row_taken}
use Rattle.capacity_cmd.proofs.input.InputSoFar.put_item_of.Goals as goal

pub returns-in_ok-put-in-Ok : goal.returns-in_ok-put-in-Ok
returns-in_ok-put-in-Ok c = λ planners.
    base_row_taken planners c.args.number (line_of c.args.version (word.Put c.args.kind) c.args.row.now) (edits.Put c.in-Ok.item) c.args.self.now c.put.new.self
    (rw c.in-Ok.ensures refl) c.requires.none c.in_ok-put-in-Ok.ensures.tables c.in_ok-put-in-Ok.ensures.edits
