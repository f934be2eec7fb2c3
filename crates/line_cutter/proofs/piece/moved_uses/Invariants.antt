use Rattle.std.proofs.Common.{◌≡◌, map, take}
use Rattle.std.specs.Prelude.{filter}
use Rattle.line_cutter.specs.Cutting.{is_within, moved_use}
use Rattle.line_cutter.proofs.piece.moved_uses.Given as goal

abbrev pub invariant-loop-one : goal.invariant-loop-one
invariant-loop-one l = l.some ≡ map (moved_use l.a) (filter (is_within l.a l.b) (take l.one-index l.uses))
