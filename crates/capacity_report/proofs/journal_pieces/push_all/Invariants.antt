use Rattle.std.proofs.Common.{◌≡◌, ◌++◌}
use Rattle.std.specs.List.{flat_map}
use Rattle.std.specs.Vec.Iter.{into_iter_items}
use Rattle.capacity_report.proofs.journal_pieces.push_all.Given as goal

-- the text so far, and those that are left
abbrev pub invariant-loop-piece : goal.invariant-loop-piece
invariant-loop-piece l = l.text ++ flat_map (λ t. t.items) (into_iter_items l.piece-iterator) ≡ l.fn.text ++ flat_map (λ t. t.items) l.fn.texts.items
