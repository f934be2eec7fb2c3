use Rattle.std.proofs.Common.{◌≡◌, List, ◌++◌, map, Ok}
use Rattle.std.specs.List.{flat_map}
use Rattle.capacity_report.proofs.journal_pieces.joined.Given as goal

-- the texts so far were made, and the others are left
abbrev pub invariant-loop-texts : goal.invariant-loop-texts
invariant-loop-texts l =
    (made : List _) × (l.fn.pieces.items ≡ map Ok made ++ l.texts-iterator.rest.items) × (l.text ≡ flat_map (λ texts. flat_map (λ t. t.items) texts.items) made)
