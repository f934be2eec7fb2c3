use Rattle.std.proofs.Common.{◌≡◌, take}
use Rattle.std.specs.Prelude.{filter}
use Rattle.section_cut.specs.Connected.{joins}
use Rattle.section_cut.proofs.connected.joined_by.Given as goal

-- those among the connections so far
abbrev pub invariant-loop-number : goal.invariant-loop-number
invariant-loop-number l = l.all ≡ filter (joins l.name) (take l.number l.tables.connections)
