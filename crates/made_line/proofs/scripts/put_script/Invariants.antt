use Rattle.std.proofs.Common.{◌≡◌, ◌++◌, ◌∷◌, []}
use Rattle.made_line.specs.Base.{first_tasks}
use Rattle.made_line.proofs.scripts.put_script.Given as goal

abbrev pub invariant-loop-k : goal.invariant-loop-k
invariant-loop-k l = l.scripts ≡ l.fn.scripts ++ first_tasks l.runs l.p l.k ∷ []
