use Rattle.std.proofs.Common.{◌≡◌, take, length, vec_len, vec_capacity}
use Rattle.line_tables.specs.KeptRoutes.{names_under}
use Rattle.line_tables.proofs.kept_route.names_of.Given as goal

abbrev pub invariant-loop-key : goal.invariant-loop-key
invariant-loop-key l = record {
  names : l.names.items ≡ names_under l.signals (take l.key-index l.keys);
  count : vec_len l.names ≡ l.key-index;
  room : vec_capacity l.names ≡ length l.keys;
}
