use Rattle.std.proofs.Common.{arith, sym, ◌∙◌}
use Rattle.std.proofs.lemmas.Bool.Decides.{nat_tests}
use Rattle.conflict_finder.specs.Sweep.{meets, no_run_use}
use Rattle.conflict_finder.proofs.Room.{none_met}
use Rattle.conflict_finder.proofs.sweep.meets_next.Goals as goal

pub returns-then-not-is_empty : goal.returns-then-not-is_empty
returns-then-not-is_empty c = λ e. none_met (meets c.args.one.now) c.args.later.now no_run_use (λ l. sym c.meets.ensures ∙ e)

pub returns-else-not-is_empty : goal.returns-else-not-is_empty
returns-else-not-is_empty c = λ e. none_met (meets c.args.one.now) c.args.later.now no_run_use (λ l. absurd (grind (arith, nat_tests)))
