use Rattle.std.proofs.Common.{length, ap, arith}
use Rattle.std.proofs.lemmas.List.{length-map}
use Rattle.row_text.specs.Cuts.{fields_cut_at}
use Rattle.std.specs.Cow.{cow_slice_items}
use Rattle.row_text.specs.Pieces.{pieces}
use Rattle.row_text.proofs.Pieces.{length-pieces}
use Rattle.row_text.proofs.row_list.RowList.len.Goals as goal

pub returns : goal.returns
returns c =
    let rows = c.self.inside in
    omega (arith, ap length c.self.view_is, length-map (pieces 0 rows.ends.items rows.cuts.items) (fields_cut_at (cow_slice_items rows.bytes)), length-pieces 0 rows.ends.items rows.cuts.items, rows.ends.ok.0)
