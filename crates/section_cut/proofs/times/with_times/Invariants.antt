use Rattle.std.proofs.Common.{◌≡◌, length, take, vec_len, vec_capacity}
use Rattle.section_cut.specs.Times.{with_times}
use Rattle.section_cut.proofs.times.with_times.Given as goal

-- the uses so far, and the room that is left
abbrev pub invariant-loop-place : goal.invariant-loop-place
invariant-loop-place l = record {
  timed : l.uses.items ≡ take (length l.yielded) (with_times l.places l.times);
  count : vec_len l.uses ≡ length l.yielded;
  room : vec_capacity l.uses ≡ length l.places;
}
