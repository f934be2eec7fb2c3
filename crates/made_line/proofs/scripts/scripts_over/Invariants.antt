use Rattle.std.proofs.Common.{◌≡◌}
use Rattle.made_line.specs.Base.{first_scripts}
use Rattle.made_line.proofs.scripts.scripts_over.Given as goal

abbrev pub invariant-loop-i : goal.invariant-loop-i
invariant-loop-i l = l.scripts ≡ first_scripts l.runs l.i
