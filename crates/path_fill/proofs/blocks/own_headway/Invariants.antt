use Rattle.std.specs.Prelude.{◌^◌, pos, ◌≤ℤ◌}
use Rattle.plan_model.specs.Members.{member, uses_place}
use Rattle.path_fill.specs.Search.{time_at, IsGreatest}
use Rattle.path_fill.proofs.blocks.own_headway.Given as goal

abbrev pub invariant-loop-block : goal.invariant-loop-block
invariant-loop-block l = record {
  greatest : IsGreatest (uses_place (member l.cut l.row)) (time_at l.cut l.row) l.block (pos 0) l.greatest;
  small : l.greatest ≤ℤ pos (2 ^ 40);
}
