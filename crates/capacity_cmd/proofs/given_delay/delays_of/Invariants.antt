use Rattle.std.proofs.Common.{◌≡◌, map, Some}
use Rattle.std.specs.List.{range_with_len}
use Rattle.std.specs.String.{string_bytes}
use Rattle.capacity_cmd.specs.Command.{pair_at, all_of}
use Rattle.capacity_cmd.proofs.given_delay.delays_of.Given as goal

abbrev pub invariant-loop-k : goal.invariant-loop-k
invariant-loop-k l = Some l.delays ≡ all_of (map (pair_at (map string_bytes l.words)) (range_with_len 0 l.k))
