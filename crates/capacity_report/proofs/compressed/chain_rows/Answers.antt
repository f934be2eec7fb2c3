use Rattle.std.proofs.Common.{◌≡◌, [], ◌∷◌, length, map, refl, ap, ◌∙◌}
use Rattle.critical_chain.specs.Chain.{chain_of}
use Rattle.row_text.specs.Adds.{AddsAll}
use Rattle.row_text.proofs.Adds.{adds_none, adds_stopped}
use Rattle.answer_parts.proofs.Added.{all_one, then_adds}
use Rattle.answer_parts.specs.Rows.{link_row}
use Rattle.capacity_report.specs.Answers.{critical_row}
use Rattle.capacity_report.proofs.compressed.chain_rows.Goals as goal

pub returns-in_err-links : goal.returns-in_err-links
returns-in_err-links c = adds_stopped _ c.from_residual.result c.from_residual.ensures.1 (adds_none _ refl)

pub returns-in_err-critical_row : goal.returns-in_err-critical_row
returns-in_err-critical_row c =
    adds_stopped _ c.from_residual-in_err-critical_row.result c.from_residual-in_err-critical_row.ensures.1 (adds_none _ c.in_err-critical_row.ensures)

pub returns : goal.returns
returns c =
    let all = chain_of c.args.plan.now c.args.train in
    let count : c.len.result ≡ length all = c.len.ensures.count ∙ ap length c.in_ok-links.ensures.same in
    let one : AddsAll c.args.sheet.now c.critical_row.new.sheet (critical_row c.name-name.result.now c.len.result ∷ []) = all_one {before = c.args.sheet.now} c.in_ok-critical_row.ensures in
    let first = rw (c.name-name.ensures, count) at one in
    then_adds c.link_rows.new.sheet (map link_row all) c.link_rows.result first (rw (c.slice.ensures, c.in_ok-links.ensures.same) at c.link_rows.ensures)
