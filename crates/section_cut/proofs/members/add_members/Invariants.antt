use Rattle.std.proofs.Common.{◌+◌}
use Rattle.section_cut.specs.Members.{AreMembersTo}
use Rattle.section_cut.proofs.members.add_members.Given as goal

-- the rows and the members so far
abbrev pub invariant-loop-n : goal.invariant-loop-n
invariant-loop-n l = AreMembersTo l.tables l.table.section.now l.stamp (l.from + l.n) l.all
