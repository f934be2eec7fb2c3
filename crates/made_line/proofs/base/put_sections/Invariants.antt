use Rattle.std.proofs.Common.{◌≡◌, ◌++◌, map}
use Rattle.made_line.specs.Base.{first_sections, put_section}
use Rattle.made_line.proofs.base.put_sections.Given as goal

abbrev pub invariant-loop-j : goal.invariant-loop-j
invariant-loop-j l = l.edits ≡ l.fn.edits ++ map put_section (first_sections l.j)
