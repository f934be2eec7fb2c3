use Rattle.std.proofs.Common.{◌≡◌, ◌++◌, take}
use Rattle.std.specs.List.{filter_map}
use Rattle.rail_model.specs.Tables.{run_at}
use Rattle.section_cut.specs.Connected.{use_if_listed}
use Rattle.section_cut.proofs.connected.add_joined.Given as goal

-- with those of the connections so far
abbrev pub invariant-loop-connection : goal.invariant-loop-connection
invariant-loop-connection l =
    l.row
    ≡ record l.fn.row {
      uses = l.fn.row.uses
          ++ filter_map (use_if_listed l.tables l.old.section l.old.connections (run_at l.tables l.number)) (take l.connection-index l.joined);
    }
