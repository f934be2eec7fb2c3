use Rattle.std.proofs.Common.{◌≡◌, ◌+◌, map}
use Rattle.std.specs.List.{range_with_len}
use Rattle.blocking_time.specs.Mark.{mark_of}
use Rattle.blocking_time.proofs.course.marks.Given as goal

abbrev pub invariant-loop-hop : goal.invariant-loop-hop
invariant-loop-hop l =
    (l.mark ≡ mark_of l.path l.hop-index) × (l.marks.items ≡ map (mark_of l.path) (range_with_len 0 (l.hop-index + 1)))
