use Rattle.std.proofs.Common.{◌+◌, [], get_or, refl, ◌∙◌}
use Rattle.rail_model.specs.declared.edit.Kind.TheVariants as kind
use Rattle.row_text.specs.Lines.{read_in, line_of}
use Rattle.row_text.specs.declared.word.Word.TheVariants as word
use Rattle.capacity_cmd.proofs.Making.{spelled_row_taken}
use Rattle.capacity_cmd.proofs.input.InputSoFar.take_row.Goals as goal

pub returns-in-Ok-Put-Block : goal.returns-in-Ok-Put-Block
returns-in-Ok-Put-Block c =
    let arm = c.in-Ok-Put-Block in
    spelled_row_taken c.args.planners (c.args.piece.before + c.args.i + 1) (read_in c.args.version (get_or c.args.piece.rows.now c.args.i []))
    (line_of c.args.version (word.Put kind.Block) c.get-row.result) c.args.self.now c.put_block_of.new.self c.put_block_of.result
    (rw (← c.get-row.ensures) (arm.ensures.line c.args.version ∙ rw (arm.field-0-is, arm.field-0-0-is) refl)) (c.put_block_of.ensures c.args.planners c.args.version)

pub returns-in-Ok-Put : goal.returns-in-Ok-Put
returns-in-Ok-Put c =
    let arm = c.in-Ok-Put in
    spelled_row_taken c.args.planners (c.args.piece.before + c.args.i + 1) (read_in c.args.version (get_or c.args.piece.rows.now c.args.i []))
    (line_of c.args.version (word.Put arm.kind) c.get-row.result) c.args.self.now c.put_item_of.new.self c.put_item_of.result
    (rw (← c.get-row.ensures) (arm.ensures.line c.args.version ∙ rw (arm.field-0-is, arm.kind-is) refl)) (c.put_item_of.ensures c.args.planners)

pub returns-in-Ok-Change-Signal : goal.returns-in-Ok-Change-Signal
returns-in-Ok-Change-Signal c =
    let arm = c.in-Ok-Change-Signal in
    spelled_row_taken c.args.planners (c.args.piece.before + c.args.i + 1) (read_in c.args.version (get_or c.args.piece.rows.now c.args.i []))
    (line_of c.args.version (word.Change kind.Signal) c.get-row.result) c.args.self.now c.change_signal_of.new.self c.change_signal_of.result
    (rw (← c.get-row.ensures) (arm.ensures.line c.args.version ∙ rw (arm.field-0-is, arm.field-0-0-is) refl)) (c.change_signal_of.ensures c.args.planners c.args.version)

pub returns-in-Ok-Change : goal.returns-in-Ok-Change
returns-in-Ok-Change c =
    let arm = c.in-Ok-Change in
    spelled_row_taken c.args.planners (c.args.piece.before + c.args.i + 1) (read_in c.args.version (get_or c.args.piece.rows.now c.args.i []))
    (line_of c.args.version (word.Change arm.kind) c.get-row.result) c.args.self.now c.change_item_of.new.self c.change_item_of.result
    (rw (← c.get-row.ensures) (arm.ensures.line c.args.version ∙ rw (arm.field-0-is, arm.kind-is) refl)) (c.change_item_of.ensures c.args.planners)

pub returns-in-Ok-Drop : goal.returns-in-Ok-Drop
returns-in-Ok-Drop c =
    let arm = c.in-Ok-Drop in
    spelled_row_taken c.args.planners (c.args.piece.before + c.args.i + 1) (read_in c.args.version (get_or c.args.piece.rows.now c.args.i []))
    (line_of c.args.version (word.Drop arm.kind) c.get-row.result) c.args.self.now c.drop_of.new.self c.drop_of.result
    (rw (← c.get-row.ensures) (arm.ensures.line c.args.version ∙ rw (arm.field-0-is, arm.kind-is) refl)) (c.drop_of.ensures c.args.planners c.args.version)
