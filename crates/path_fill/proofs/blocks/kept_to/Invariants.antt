use Rattle.std.specs.Prelude.{◌^◌, pos, ◌≤ℤ◌}
use Rattle.plan_model.specs.Members.{member, uses_place}
use Rattle.path_fill.specs.Search.{kept_by, IsGreatest}
use Rattle.path_fill.proofs.blocks.kept_to.Given as goal

abbrev pub invariant-loop-block : goal.invariant-loop-block
invariant-loop-block l = record {
  greatest : IsGreatest (uses_place (member l.cut l.row)) (kept_by l.cut l.row l.spans l.entry) l.block (pos 0)
      l.greatest;
  small : l.greatest ≤ℤ pos (2 ^ 52);
}
