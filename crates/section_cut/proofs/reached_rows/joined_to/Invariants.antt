use Rattle.std.proofs.Common.{◌≡◌, ◌++◌, take}
use Rattle.section_cut.proofs.reached_rows.joined_to.Given as goal

-- with the uses so far
abbrev pub invariant-loop-one : goal.invariant-loop-one
invariant-loop-one l = l.row ≡ record l.initial.row { uses = l.initial.row.uses ++ take l.one-index l.one-items }
