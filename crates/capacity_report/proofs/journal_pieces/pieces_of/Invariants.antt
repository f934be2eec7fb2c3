use Rattle.std.proofs.Common.{◌≡◌, ◌++◌}
use Rattle.std.specs.List.{flat_map}
use Rattle.std.specs.Vec.Iter.{into_iter_items}
use Rattle.capacity_report.proofs.journal_pieces.pieces_of.Given as goal

-- the entries of the pieces so far, those of the next and those that are left are the journal
abbrev pub invariant-loop-entry : goal.invariant-loop-entry
invariant-loop-entry l = flat_map (λ p. p.entries.items) l.pieces.items ++ (l.entries.items ++ into_iter_items l.entry-iterator) ≡ l.fn.journal
