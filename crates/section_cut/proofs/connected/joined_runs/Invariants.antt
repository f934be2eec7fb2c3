use Rattle.section_cut.proofs.JoinedRuns.{IsJoinedTo}
use Rattle.section_cut.proofs.connected.joined_runs.Given as goal

-- by the connections so far
abbrev pub invariant-loop-number : goal.invariant-loop-number
invariant-loop-number l = IsJoinedTo l.tables l.number l.told.items
