use Rattle.std.proofs.Common.{◌≡◌, take, map}
use Rattle.plan_model.specs.Cut.{stamped_row}
use Rattle.section_cut.proofs.same_value.same_rows.Given as goal

abbrev pub invariant-loop-i : goal.invariant-loop-i
invariant-loop-i l = map (stamped_row 0) (take l.i l.a) ≡ map (stamped_row 0) (take l.i l.b)
