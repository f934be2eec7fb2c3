use Rattle.std.specs.Prelude.{◌^◌, pos, ◌≤ℤ◌}
use Rattle.plan_model.specs.Members.{member, uses_place}
use Rattle.plan_model.specs.Schedule.{window_start}
use Rattle.path_fill.specs.Search.{asked, IsGreatest}
use Rattle.path_fill.proofs.blocks.first_copy.Given as goal

abbrev pub invariant-loop-block : goal.invariant-loop-block
invariant-loop-block l = record {
  greatest : IsGreatest (uses_place (member l.cut l.row)) (asked l.cut l.row l.last) l.block (window_start l.cut)
      l.entry;
  small : l.entry ≤ℤ pos (2 ^ 50);
}
