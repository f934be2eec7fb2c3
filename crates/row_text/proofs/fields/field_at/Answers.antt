use Rattle.std.proofs.Common.{◌+◌, length, sym, arith}
use Rattle.row_text.proofs.Cuts.{CutsIn-at, field-fields_cut_at}
use Rattle.row_text.proofs.fields.field_at.Goals as goal

pub slice_bounds-result-count : goal.slice_bounds-result-count
slice_bounds-result-count c = omega (arith, CutsIn-at (length c.args.bytes.now + 1) c.args.cuts.now c.args.i c.requires.within c.requires.at)

pub slice_bounds-result-start : goal.slice_bounds-result-start
slice_bounds-result-start c = omega (arith, CutsIn-at (length c.args.bytes.now + 1) c.args.cuts.now c.args.i c.requires.within c.requires.at)

pub slice_bounds-result-end : goal.slice_bounds-result-end
slice_bounds-result-end c = omega (arith, CutsIn-at (length c.args.bytes.now + 1) c.args.cuts.now c.args.i c.requires.within c.requires.at)

pub overflow_sub-result : goal.overflow_sub-result
overflow_sub-result c = omega (arith, CutsIn-at (length c.args.bytes.now + 1) c.args.cuts.now c.args.i c.requires.within c.requires.at)

pub returns : goal.returns
returns c = sym (field-fields_cut_at c.args.bytes.now c.args.cuts.now c.args.i c.requires.at)
