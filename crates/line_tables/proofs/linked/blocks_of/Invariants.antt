use Rattle.std.proofs.Common.{◌≡◌, take, map, length, vec_len, vec_capacity}
use Rattle.line_tables.specs.Links.{block_of}
use Rattle.line_tables.proofs.linked.blocks_of.Given as goal

abbrev pub invariant-loop-key : goal.invariant-loop-key
invariant-loop-key l = record {
  blocks : l.blocks.items ≡ map (block_of l.signals) (take l.key-index l.keys);
  count : vec_len l.blocks ≡ l.key-index;
  room : vec_capacity l.blocks ≡ length l.keys;
}
