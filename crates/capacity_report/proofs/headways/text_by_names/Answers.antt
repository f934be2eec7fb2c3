use Rattle.std.proofs.Common.{◌≡◌, subst, arith}
use Rattle.std.specs.Prelude.{IfOk}
use Rattle.std.specs.List.{flat_map, range_with_len}
use Rattle.plan_model.specs.Members.{member_count}
use Rattle.row_text.specs.SheetRows.{text_of_rows}
use Rattle.capacity_report.specs.Rows.{rows_from}
use Rattle.capacity_report.proofs.headways.text_by_names.Goals as goal

pub text_in_parts-requires-clause-accepts : goal.text_in_parts-requires-clause-accepts
text_in_parts-requires-clause-accepts g c κs inside part rise within =
    (rise, omega (arith, within, c.len.ensures), c.requires.few, c.requires.table, c.requires.names)

pub returns : goal.returns
returns g c =
    let cut = c.args.cut.now in
    let count : c.len.result ≡ member_count cut = omega (arith, c.len.ensures) in
    subst (λ n. IfOk c.text_in_parts.result (λ text. text ≡ text_of_rows (flat_map (rows_from cut) (range_with_len 0 n)))) count
    (c.text_in_parts.ensures (rows_from cut) (λ part made rise within gave. gave.1))
