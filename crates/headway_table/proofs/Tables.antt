-- Tables, row by row.
use Rattle.std.proofs.Common.{◌≡◌, ℕ, ◌<◌, [], length, ap, sym, ◌∙◌, arith}
use Rattle.std.specs.Prelude.{None, slice_index_or}
use Rattle.std.proofs.lemmas.List.FromFn.{length-map-range_with_len, get_or-map-range_with_len}
use Rattle.plan_model.specs.declared.cut.Cut.{Cut}
use Rattle.plan_model.specs.Members.{member_count}
use Rattle.headway_table.specs.Table.{IsSquare, between, row_of, table_of, field}

-- the table of a cut has as many columns as rows
pub square : (cut : Cut) → IsSquare (table_of cut)
square cut i d l =
    let count = length-map-range_with_len (row_of cut) 0 (member_count cut) in
    let here : i < member_count cut = omega (arith, l, count) in
    let is = get_or-map-range_with_len (row_of cut) 0 (member_count cut) i i d here (omega arith) in
    ap length is ∙ length-map-range_with_len (between cut i) 0 (member_count cut) ∙ sym count

-- it has a row for each member
pub row_count : (cut : Cut) → length (table_of cut) ≡ member_count cut
row_count cut = length-map-range_with_len (row_of cut) 0 (member_count cut)

-- in a row and a column of it stands the headway from the one member to the other
pub field_is : (cut : Cut) (i j : ℕ) → i < member_count cut → j < member_count cut
    → field (table_of cut) i j ≡ between cut i j
field_is cut i j li lj =
    ap (λ row. slice_index_or row j None)
    (get_or-map-range_with_len (row_of cut) 0 (member_count cut) i i [] li (omega arith))
    ∙ get_or-map-range_with_len (between cut i) 0 (member_count cut) j j None lj (omega arith)
