use Rattle.std.proofs.Common.{◌≡◌, take, map}
use Rattle.rail_model.specs.Tables.{block_number}
use Rattle.line_tables.proofs.line_tables.LineTables.numbers_of_blocks.Given as goal

-- the numbers so far
abbrev pub invariant-loop-name : goal.invariant-loop-name
invariant-loop-name l = l.numbers.items ≡ map (block_number l.self) (take l.name-index l.names)
