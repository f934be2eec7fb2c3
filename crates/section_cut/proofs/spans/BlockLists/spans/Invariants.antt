use Rattle.std.proofs.Common.{◌≡◌, map, take}
use Rattle.std.specs.Prelude.{slice_get}
use Rattle.std.specs.Option.{option_and_then}
use Rattle.section_cut.proofs.spans.BlockLists.spans.Given as goal

-- the stairways so far
abbrev pub invariant-loop-number : goal.invariant-loop-number
invariant-loop-number l = l.spans.items ≡ map (option_and_then (slice_get l.by_list.items)) (take l.number-index l.number-items)
