use Rattle.std.proofs.Common.{◌≡◌}
use Rattle.made_line.specs.Base.{after_draws}
use Rattle.made_line.proofs.draws.Draws.skip.Given as goal

abbrev pub invariant-loop : goal.invariant-loop
invariant-loop l = l.self.x ≡ after_draws l.fn.self.x l.counter
