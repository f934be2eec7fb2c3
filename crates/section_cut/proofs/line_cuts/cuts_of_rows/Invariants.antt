use Rattle.std.proofs.Common.{◌≡◌, length, map, take}
use Rattle.std.specs.Prelude.{drop, All}
use Rattle.std.specs.Vec.Iter.{into_iter_items, into_iter_len}
use Rattle.plan_model.specs.Cut.{stamped, IsSoundCut, section_cut}
use Rattle.section_cut.proofs.line_cuts.cuts_of_rows.Given as goal

-- the cuts of the first sections, and the rows of the others
abbrev pub invariant-loop-rows : goal.invariant-loop-rows
invariant-loop-rows l = record {
  same : l.made ≡ map (λ s. stamped l.fn.all.stamp (section_cut l.tables s)) (take (length l.made) l.tables.sections);
  sound : All IsSoundCut l.made;
  left : into_iter_items l.rows-iterator ≡ drop (length l.made) l.fn.all.each.items;
  long : into_iter_len l.rows-iterator ≡ length (into_iter_items l.rows-iterator);
}
