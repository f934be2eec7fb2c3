use Rattle.std.proofs.Common.{◌≡◌, ◌++◌, length, map}
use Rattle.std.specs.Prelude.{All, IfSome}
use Rattle.std.specs.Vec.Iter.{into_iter_items, into_iter_len}
use Rattle.plan_model.specs.Cut.{stamped, IsSoundCut, section_cut}
use Rattle.plan_book.specs.First.{shelf_of_cut}
use Rattle.plan_book.specs.Shelves.{kept_cut}
use Rattle.plan_book.proofs.first.first_shelves.Given as goal

-- the shelves so far and those of the cuts that are left
abbrev pub invariant-loop-cut : goal.invariant-loop-cut
invariant-loop-cut l = record {
  same : l.shelves ++ map (shelf_of_cut l.at) (into_iter_items l.cut-iterator)
      ≡ map (shelf_of_cut l.at) (map (λ s. stamped l.at (section_cut l.tables s)) l.tables.sections);
  sound : All (λ s. IfSome (kept_cut s) IsSoundCut) l.shelves;
  left : All IsSoundCut (into_iter_items l.cut-iterator);
  long : into_iter_len l.cut-iterator ≡ length (into_iter_items l.cut-iterator);
}
