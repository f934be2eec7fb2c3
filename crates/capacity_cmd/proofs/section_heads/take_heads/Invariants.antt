use Rattle.capacity_cmd.specs.Heads.{AreHeads, IsTextOfHeads}
use Rattle.capacity_cmd.proofs.section_heads.take_heads.Given as goal

-- the text of the heads of the sections so far, and the heads of the others
abbrev pub invariant-loop-number : goal.invariant-loop-number
invariant-loop-number l = IsTextOfHeads l.tables l.number l.text l.tally × AreHeads l.tables l.number l.heads.items
