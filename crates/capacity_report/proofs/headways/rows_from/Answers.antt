use Rattle.std.proofs.Common.{◌≡◌, ◌<◌, length, refl, ap, ◌∙◌, arith}
use Rattle.std.specs.List.{flat_map}
use Rattle.std.proofs.lemmas.List.{length-map}
use Rattle.std.proofs.lemmas.List.Concat.{flat_map-append}
use Rattle.std.proofs.lemmas.List.FromFn.{length-range_with_len}
use Rattle.plan_model.specs.Members.{member, member_count, members}
use Rattle.headway_table.specs.Table.{field}
use Rattle.headway_table.proofs.Tables.{row_count, field_is}
use Rattle.capacity_report.specs.Pairs.{name_of, head_of, pair_rows}
use Rattle.row_text.proofs.Adds.{adds_none, adds_stopped}
use Rattle.answer_parts.proofs.Added.{all_none, items_first, items_more, items_all, first_kept}
use Rattle.capacity_report.proofs.Pairs.{from_pairs, pair_there, head_there, name_there}
use Rattle.capacity_report.proofs.headways.rows_from.Goals as goal

pub get-requires-clause-first : goal.get-requires-clause-first
get-requires-clause-first c = omega (arith, c.requires.there, ap length c.requires.table, row_count c.args.cut.now)

pub get-requires-clause-second : goal.get-requires-clause-second
get-requires-clause-second c =
    let cut = c.args.cut.now in
    omega (arith, c.loop-j-test.true, ap length c.requires.names, length-map cut.rows name_of, ap length c.requires.table, row_count cut)

pub loop-j-init : goal.loop-j-init
loop-j-init c = all_none c.args.sheet.now c.drop_row.new.self c.drop_row.ensures.rows c.drop_row.ensures.row

pub returns-in_err-head : goal.returns-in_err-head
returns-in_err-head c = adds_stopped _ c.from_residual.result c.from_residual.ensures.1 (adds_none _ refl)

pub returns-in_err-add_headway : goal.returns-in_err-add_headway
returns-in_err-add_headway c =
    let cut = c.args.cut.now in
    let i = c.args.i in
    adds_stopped _ c.from_residual-in_err-add_headway.result c.from_residual-in_err-add_headway.ensures.1
    (rw (from_pairs cut i) (first_kept (items_first (flat_map (pair_rows cut i)) (flat_map-append (pair_rows cut i)) (members cut) c.loop-j.j c.loop-j.invariant) c.in_err-add_headway.ensures.err))

pub loop-j-preserved : goal.loop-j-preserved
loop-j-preserved c =
    let cut = c.args.cut.now in
    let i = c.args.i in
    let j = c.loop-j.j in
    let there : j < member_count cut = omega (arith, c.loop-j-test.true, ap length c.requires.names, length-map cut.rows name_of) in
    let head : c.in_ok-head.head ≡ head_of cut i =
    c.in_ok-head.ensures ∙ head_there cut i c.index-slice-i.result c.slice.result.now c.slice.ensures c.requires.there in
    let second : c.index-names-j.result ≡ name_of (member cut j) =
    name_there cut j c.index-names-j.result c.args.names.now c.requires.names there c.index-names-j.is in
    let headway = c.get.ensures ∙ ap (λ table. field table i j) c.requires.table ∙ field_is cut i j c.requires.there there in
    items_more (flat_map (pair_rows cut i)) (flat_map-append (pair_rows cut i)) (members cut) j 0
    (omega (arith, there, length-range_with_len 0 (member_count cut))) (pair_there cut i j there head second headway) c.loop-j.invariant
    (record { rows = c.in_ok-add_headway.ensures.ok; closed = c.in_ok-add_headway.ensures.closed })

pub returns : goal.returns
returns c =
    let cut = c.args.cut.now in
    let i = c.args.i in
    rw (from_pairs cut i) (items_all (flat_map (pair_rows cut i)) (flat_map-append (pair_rows cut i)) (members cut) c.loop-j.j
    (omega (arith, c.loop-j-test.false, ap length c.requires.names, length-map cut.rows name_of, length-range_with_len 0 (member_count cut))) c.loop-j.invariant)
