use Rattle.std.proofs.Common.{◌<◌, [], length, sym, ◌∙◌, arith}
use Rattle.std.proofs.lemmas.List.{get_or-map}
use Rattle.csv.proofs.RecordFacts.{field-bounds}
use Rattle.row_text.specs.Cuts.{fields_cut_at}
use Rattle.row_text.specs.Pieces.{pieces}
use Rattle.row_text.proofs.Pieces.{length-pieces, get_or-pieces}
use Rattle.row_text.proofs.row_list.row_at.Goals as goal

pub offset_bounds-cuts-from : goal.offset_bounds-cuts-from
offset_bounds-cuts-from c = omega (arith, c.span-from.ensures, field-bounds 0 c.args.ends.now (length c.args.cuts.now) c.args.i c.requires.rows.rise c.requires.there)

pub slice_bounds-of_cuts-count : goal.slice_bounds-of_cuts-count
slice_bounds-of_cuts-count c = omega (arith, c.span-from.ensures, field-bounds 0 c.args.ends.now (length c.args.cuts.now) c.args.i c.requires.rows.rise c.requires.there)

pub slice_bounds-of_cuts-start : goal.slice_bounds-of_cuts-start
slice_bounds-of_cuts-start c = omega (arith, c.span-from.ensures, field-bounds 0 c.args.ends.now (length c.args.cuts.now) c.args.i c.requires.rows.rise c.requires.there)

pub slice_bounds-of_cuts-end : goal.slice_bounds-of_cuts-end
slice_bounds-of_cuts-end c = omega (arith, c.span-from.ensures, field-bounds 0 c.args.ends.now (length c.args.cuts.now) c.args.i c.requires.rows.rise c.requires.there)

pub of_cuts-requires : goal.of_cuts-requires
of_cuts-requires c =
    let rows = pieces 0 c.args.ends.now c.args.cuts.now in
    let piece = get_or-pieces 0 c.args.ends.now c.args.cuts.now c.args.i [] c.requires.there in
    rw (c.span-from.ensures.start, c.span-from.ensures.end, ← piece) (c.requires.rows.each c.args.i [] (omega (arith, length-pieces 0 c.args.ends.now c.args.cuts.now, c.requires.there)))

pub returns : goal.returns
returns c =
    let rows = pieces 0 c.args.ends.now c.args.cuts.now in
    let there : c.args.i < length rows = omega (arith, length-pieces 0 c.args.ends.now c.args.cuts.now, c.requires.there) in
    let piece = get_or-pieces 0 c.args.ends.now c.args.cuts.now c.args.i [] c.requires.there in
    c.of_cuts.ensures ∙ rw (c.span-from.ensures.start, c.span-from.ensures.end, ← piece) (sym (get_or-map (fields_cut_at c.args.bytes.now) rows c.args.i [] [] there))
