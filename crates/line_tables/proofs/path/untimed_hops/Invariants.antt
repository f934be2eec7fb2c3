use Rattle.std.proofs.Common.{◌≡◌, take, map, length, vec_len, vec_capacity}
use Rattle.line_tables.specs.Hops.{hop_of}
use Rattle.line_tables.proofs.path.untimed_hops.Given as goal

abbrev pub invariant-loop-key : goal.invariant-loop-key
invariant-loop-key l = record {
  hops : l.hops.items ≡ map (hop_of l.blocks l.signals) (take l.key-index l.keys);
  count : vec_len l.hops ≡ l.key-index;
  room : vec_capacity l.hops ≡ length l.keys;
}
