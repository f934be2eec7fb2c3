use Rattle.std.proofs.Common.{[], ◌∷◌, All, length, sym, subst}
use Rattle.std.specs.List.{flat_map}
use Rattle.row_text.specs.Adds.{AddsAll, AddsFirst, Adds}
use Rattle.row_text.proofs.Adds.{adds_stopped, first_added, then_added}
use Rattle.answer_parts.proofs.Added.{all_then, then_adds}
use Rattle.line_cutter.specs.Rows.{piece_rows, stretch_rows, cut_row, ArePiecesWithin, IsStretchWithin}
use Rattle.line_cutter.proofs.InSection.{pieces_within, stretches_within}
use Rattle.line_cutter.proofs.rows.cutting_rows.Goals as goal

pub piece_rows-requires : goal.piece_rows-requires
piece_rows-requires c =
    subst (ArePiecesWithin c.args.cut.now.section) (sym c.slice.ensures)
    (pieces_within c.args.cut.now c.args.cutting.now.ends c.requires.orderly)

pub returns-in_err-piece_rows : goal.returns-in_err-piece_rows
returns-in_err-piece_rows c =
    let section = c.args.cut.now.section in
    let cutting = c.args.cutting.now in
    adds_stopped _ c.from_residual.result c.from_residual.ensures.1
    (first_added (cut_row section.name (length cutting.ends) ∷ [])
    (first_added (flat_map (stretch_rows section) cutting.stretches)
    (subst (λ ends. AddsFirst c.args.sheet.now c.piece_rows.new.sheet (piece_rows section ends)) c.slice.ensures
    c.in_err-piece_rows.ensures)))

pub stretches_rows-requires : goal.stretches_rows-requires
stretches_rows-requires c =
    let cutting = c.args.cutting.now in
    subst (All (IsStretchWithin c.args.cut.now.section)) (sym c.slice-2.ensures)
    (stretches_within c.args.cut.now cutting.ends cutting.stretches 0 c.requires.orderly c.requires.stretches)

pub returns-in_err-stretches_rows : goal.returns-in_err-stretches_rows
returns-in_err-stretches_rows c =
    let section = c.args.cut.now.section in
    let cutting = c.args.cutting.now in
    let pieces = subst (λ ends. AddsAll c.args.sheet.now c.piece_rows.new.sheet (piece_rows section ends)) c.slice.ensures
    c.in_ok-piece_rows.ensures in
    adds_stopped _ c.from_residual-in_err-stretches_rows.result c.from_residual-in_err-stretches_rows.ensures.1
    (first_added (cut_row section.name (length cutting.ends) ∷ [])
    (then_added (piece_rows section cutting.ends) pieces.rows
    (subst (λ ss. AddsFirst c.piece_rows.new.sheet c.stretches_rows.new.sheet (flat_map (stretch_rows section) ss)) c.slice-2.ensures
    c.in_err-stretches_rows.ensures)))

pub returns : goal.returns
returns c =
    let section = c.args.cut.now.section in
    let cutting = c.args.cutting.now in
    let pieces = subst (λ ends. AddsAll c.args.sheet.now c.piece_rows.new.sheet (piece_rows section ends)) c.slice.ensures
    c.in_ok-piece_rows.ensures in
    let stretches = subst (λ ss. AddsAll c.piece_rows.new.sheet c.stretches_rows.new.sheet (flat_map (stretch_rows section) ss)) c.slice-2.ensures
    c.in_ok-stretches_rows.ensures in
    then_adds c.cut_row.new.sheet (cut_row section.name (length cutting.ends) ∷ []) c.cut_row.result (all_then pieces stretches)
    (subst (λ n. Adds c.cut_row.result c.stretches_rows.new.sheet c.cut_row.new.sheet (cut_row section.name n ∷ [])) c.len.ensures.count
    c.cut_row.ensures)
