use Rattle.std.proofs.Common.{◌≡◌, take}
use Rattle.capacity_report.specs.Blockings.{names_of}
use Rattle.capacity_report.proofs.stairs.block_names.Given as goal

abbrev pub invariant-loop-block : goal.invariant-loop-block
invariant-loop-block l = l.names.items ≡ take l.block (names_of l.tables)
