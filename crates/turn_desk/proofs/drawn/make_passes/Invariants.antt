use Rattle.std.proofs.Common.{◌≡◌, ◌+◌, ◌-◌}
use Rattle.turn_desk.specs.Known.{new_passes}
use Rattle.turn_desk.specs.Views.{with_drawn}
use Rattle.turn_desk.proofs.drawn.make_passes.Given as goal

abbrev pub invariant-loop-i : goal.invariant-loop-i
invariant-loop-i g l =
    let s = l.initial.seat in
    (l.seat.table_id ≡ s.table_id) × (l.seat.me ≡ (with_drawn (l.first + l.i) (l.count - l.i) s.me.0, s.me.1))
    × (l.passes ≡ new_passes s.table_id s.me.0.seen l.first l.i)
