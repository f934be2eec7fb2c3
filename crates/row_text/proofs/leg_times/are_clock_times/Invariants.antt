use Rattle.std.proofs.Common.{◌≡◌, drop, nat_le}
use Rattle.std.specs.List.{list_all}
use Rattle.row_text.specs.declared.time_text.TheConstants.{GREATEST_CLOCK_S}
use Rattle.row_text.specs.Lines.{sums}
use Rattle.row_text.proofs.leg_times.are_clock_times.Given as goal

abbrev pub invariant-loop-step : goal.invariant-loop-step
invariant-loop-step l =
    list_all (λ time. nat_le time GREATEST_CLOCK_S) (sums l.before (drop l.step-index l.steps)) ≡ list_all (λ time. nat_le time GREATEST_CLOCK_S) (sums l.fn.start_s l.steps)
