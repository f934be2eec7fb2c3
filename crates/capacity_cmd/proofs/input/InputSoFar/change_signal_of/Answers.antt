use Rattle.std.proofs.Common.{refl}
use Rattle.rail_model.specs.declared.edit.Edit.TheVariants as edits
use Rattle.rail_model.specs.declared.edit.Kind.TheVariants as kind
use Rattle.rail_model.specs.declared.items.Item.TheVariants as items
use Rattle.row_text.specs.Lines.{line_of}
use Rattle.row_text.specs.declared.word.Word.TheVariants as word
use Rattle.capacity_cmd.proofs.Making.{base_row_taken, faulty_row_taken}
use Rattle.capacity_cmd.proofs.input.InputSoFar.change_signal_of.Goals as goal

pub returns-in_ok-change_signal-in-Ok : goal.returns-in_ok-change_signal-in-Ok
returns-in_ok-change_signal-in-Ok c = λ planners version.
    base_row_taken planners c.args.number (line_of version (word.Change kind.Signal) c.args.row.now) (edits.Change (items.Signal c.in-Ok.signal)) c.args.self.now c.change_signal.new.self
    (rw (c.in-Ok.ensures version) refl) c.requires.none c.in_ok-change_signal-in-Ok.ensures.tables c.in_ok-change_signal-in-Ok.ensures.edits

pub returns-in-Err : goal.returns-in-Err
returns-in-Err c = λ planners version.
    faulty_row_taken planners c.args.number (line_of version (word.Change kind.Signal) c.args.row.now) c.in-Err.form c.args.self.now (rw (c.in-Err.ensures version) refl)
