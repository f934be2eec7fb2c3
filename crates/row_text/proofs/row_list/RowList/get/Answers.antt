use Rattle.std.proofs.Common.{length, ap, arith}
use Rattle.std.proofs.lemmas.List.{length-map}
use Rattle.std.specs.Cow.{cow_slice_items}
use Rattle.row_text.specs.Cuts.{fields_cut_at}
use Rattle.row_text.specs.Pieces.{pieces}
use Rattle.row_text.proofs.Pieces.{length-pieces}
use Rattle.row_text.proofs.row_list.RowList.get.Goals as goal

pub row_at-requires-clause-there : goal.row_at-requires-clause-there
row_at-requires-clause-there c =
    let rows = c.self.inside in
    rw c.deref-2.ensures.value (omega (arith, c.requires, ap length c.self.view_is, length-map (pieces 0 rows.ends.items rows.cuts.items) (fields_cut_at (cow_slice_items rows.bytes)), length-pieces 0 rows.ends.items rows.cuts.items))
