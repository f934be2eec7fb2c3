use Rattle.std.proofs.Common.{◌≡◌, take}
use Rattle.section_cut.specs.EditedConnection.{uses_ending}
use Rattle.section_cut.proofs.one_connection.row_ending.Given as goal

-- the uses so far
abbrev pub invariant-loop-one : goal.invariant-loop-one
invariant-loop-one l = l.uses.items ≡ uses_ending l.place l.end (take l.one-index l.row.uses)
