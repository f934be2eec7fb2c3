use Rattle.std.proofs.Common.{◌+◌, [], ◌∷◌, sym, subst}
use Rattle.row_text.specs.Adds.{AddsAll, Adds}
use Rattle.answer_parts.proofs.Added.{adds_row, all_one, all_then, then_adds}
use Rattle.path_fill.specs.declared.found.Fill.{Fill}
use Rattle.path_fill.specs.Filling.{at_row, fill_rows}
use Rattle.path_fill.proofs.rows.fill_rows.Goals as goal

pub returns-in_ok-at_row-in-Fits : goal.returns-in_ok-at_row-in-Fits
returns-in_ok-at_row-in-Fits c =
    let section = c.args.section.now in
    let before = c.args.sheet.now in
    let then = c.fill_row.new.sheet in
    let later = c.at_row-in-Fits.new.sheet in
    let after = c.at_row-in-Fits-2.new.sheet in
    let last = c.at_row-in-Fits-2.result in
    let first : AddsAll then later (at_row section c.from.result c.in-Fits.occupancy ∷ []) =
    all_one c.in_ok-at_row-in-Fits.ensures in
    let second =
    adds_row later after (at_row section (c.from-in-Fits.result + 1) c.in-Fits.next) last c.at_row-in-Fits-2.ensures in
    subst (λ (f : Fill). Adds last before after (fill_rows section c.args.run.now f)) (sym c.in-Fits.is)
    (then_adds after (at_row section (c.in-Fits.copies + 1) c.in-Fits.next ∷ []) last
    (all_then (all_one c.in_ok-fill_row-in-Fits.ensures)
    (subst (λ n. AddsAll then later (at_row section n c.in-Fits.occupancy ∷ [])) c.from.ensures first))
    (subst (λ n. Adds last later after (at_row section (n + 1) c.in-Fits.next ∷ [])) c.from-in-Fits.ensures second))
