use Rattle.std.proofs.Common.{◌≡◌}
use Rattle.made_line.specs.Base.{after_draws, first_legs}
use Rattle.made_line.proofs.runs.legs.Given as goal

abbrev pub invariant-loop : goal.invariant-loop
invariant-loop l = record {
  legs : l.legs ≡ first_legs l.fn.draws.x l.counter;
  drawn : l.draws.x ≡ after_draws l.fn.draws.x l.counter;
}
