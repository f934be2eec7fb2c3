use Rattle.std.proofs.Common.{◌≡◌, ◌<◌, length, map, take}
use Rattle.std.specs.Prelude.{All}
use Rattle.section_cut.specs.Positions.{with_position}
use Rattle.section_cut.proofs.positions.place_from.Given as goal

-- the uses so far are at their positions, and all are in the section
abbrev pub invariant-loop-i : goal.invariant-loop-i
invariant-loop-i l = record {
  long : length l.uses ≡ length l.stairway;
  same : map (with_position l.positions) (take l.i l.stairway) ≡ take l.i l.uses;
  inside : All (λ u. u.block < l.blocks) l.uses;
}
