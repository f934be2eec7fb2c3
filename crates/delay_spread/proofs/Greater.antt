-- Greater delays: no train enters earlier.
use Rattle.std.proofs.Common.{◌≤◌, ℕ, arith}
use Rattle.std.specs.Prelude.{ℤ, pos, ◌+ℤ◌, ◌≤ℤ◌}
use Rattle.std.proofs.lemmas.Int.{ints}
use Rattle.plan_model.specs.Members.{member}
use Rattle.plan_model.specs.Schedule.{entry_at}
use Rattle.delay_spread.specs.Spreading.{delay_at}
use Rattle.delay_spread.specs.Laws.{NoneIsEarlier}

above_less : (planned entry : ℤ) (less more : ℕ) → less ≤ more → (planned +ℤ pos more) ≤ℤ entry
    → (planned +ℤ pos less) ≤ℤ entry
above_less planned entry less more l h = omega (arith, ints, l, h)

-- a schedule with greater delays is one with the lesser
pub none_is_earlier : NoneIsEarlier
none_is_earlier cut delays greater entries others least more above i l =
    least.least others (record {
      count = more.schedule.count;
      from = λ j lj.
          above_less (member cut j).entry (entry_at others j) (delay_at delays j) (delay_at greater j) (above j lj)
          (more.schedule.from j lj);
      order = more.schedule.order;
    }) i l
