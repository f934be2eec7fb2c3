use Rattle.std.proofs.Common.{◌≡◌, length, take}
use Rattle.line_tables.specs.Hops.{with_legs}
use Rattle.line_tables.proofs.path.timed_hops.Given as goal

abbrev pub invariant-loop-hop : goal.invariant-loop-hop
invariant-loop-hop l = l.timed ≡ take (length l.yielded) (with_legs l.hops l.legs)
