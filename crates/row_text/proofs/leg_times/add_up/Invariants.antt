use Rattle.std.proofs.Common.{◌≡◌, ◌++◌, take, drop, nat_le, IsTrue}
use Rattle.std.specs.List.{list_all}
use Rattle.row_text.specs.declared.time_text.TheConstants.{GREATEST_CLOCK_S}
use Rattle.row_text.specs.Lines.{sums}
use Rattle.row_text.proofs.leg_times.add_up.Given as goal

abbrev pub invariant-loop-i : goal.invariant-loop-i
invariant-loop-i l = record {
  whole : take l.i l.steps ++ sums l.before (drop l.i l.steps) ≡ sums l.fn.start_s l.fn.steps;
  rest : IsTrue (list_all (λ time. nat_le time GREATEST_CLOCK_S) (sums l.before (drop l.i l.steps)));
}
