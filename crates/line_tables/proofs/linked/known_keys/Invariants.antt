use Rattle.std.proofs.Common.{◌≡◌, take, map, true, Some, length, vec_len, vec_capacity}
use Rattle.std.specs.List.{list_all}
use Rattle.rail_model.specs.Rules.{is_named}
use Rattle.line_tables.specs.Table.{key_of, named}
use Rattle.line_tables.proofs.linked.known_keys.Given as goal

abbrev pub invariant-loop-name : goal.invariant-loop-name
invariant-loop-name g l = record {
  known : list_all (is_named (named g.T.Named.label) l.table) (take l.name-index l.names) ≡ true;
  keys : map (key_of g.T.Named.label l.table) (take l.name-index l.names) ≡ map Some l.keys.items;
  count : vec_len l.keys ≡ l.name-index;
  room : vec_capacity l.keys ≡ length l.names;
}
