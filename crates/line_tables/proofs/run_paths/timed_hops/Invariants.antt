use Rattle.std.proofs.Common.{◌≡◌, length, take, vec_len, vec_capacity}
use Rattle.line_tables.specs.Hops.{with_legs, hops_at}
use Rattle.line_tables.proofs.run_paths.timed_hops.Given as goal

abbrev pub invariant-loop-key : goal.invariant-loop-key
invariant-loop-key l = record {
  timed : l.timed.items ≡ take (length l.yielded) (with_legs (hops_at l.hops l.keys) l.legs);
  count : vec_len l.timed ≡ length l.yielded;
  room : vec_capacity l.timed ≡ length l.keys;
}
