-- What is answered of a cut whose trains have an order.
use Rattle.std.proofs.Common.{◌≡◌, ℕ, zero, suc, ◌<◌, ◌≤◌, List, length, sym, subst, arith}
use Rattle.std.specs.Prelude.{ℤ}
use Rattle.std.proofs.lemmas.List.Sums.{count_by-le-length}
use Rattle.plan_model.specs.declared.cut.Cut.{Cut}
use Rattle.plan_model.specs.Members.{member_count}
use Rattle.cycle_time.specs.declared.demand.Demand.{Demand}
use Rattle.cycle_time.specs.declared.found.Step.{Step}
use Rattle.cycle_time.specs.declared.found.Cycle.{Cycle}
use Rattle.cycle_time.specs.declared.least_period.LeastPeriod.{LeastPeriod}
use Rattle.cycle_time.specs.Cycle.{IsRepeating, Shows, IsStill, IsShownOf, IsCycle}
use Rattle.cycle_time.specs.Rings.{IsTurned, IsLeastPeriod}
use Rattle.cycle_time.proofs.Refused.{no_lesser_period}

shown_of : (cut : Cut) (cycle : Cycle) (n : ℕ) → 0 < n → Shows cut cycle → IsShownOf n cut cycle
shown_of cut cycle zero l shows = absurd (omega (arith, l))
shown_of cut cycle (suc more) l shows = shows

-- the cycle of a cut without members
pub still_is : (cut : Cut) (cycle : Cycle) → member_count cut ≡ 0 → IsStill cycle → IsCycle cut cycle
still_is cut cycle none still = record {
  shown = subst (λ n. IsShownOf n cut cycle) (sym none) still;
  least = λ other repeats i l. absurd (omega (arith, l, none));
}

-- the cycle of a cut with members
pub found_is : (cut : Cut) → 0 < member_count cut → (found : LeastPeriod) → IsLeastPeriod cut found → (steps : List Step)
    → IsTurned found.ring steps
    → IsCycle cut (record { period = found.period; entries = found.entries; ring = steps })
found_is cut some found is steps turned = record {
  shown = shown_of cut (record { period = found.period; entries = found.entries; ring = steps }) (member_count cut) some (record {
    repeats = is.least.repeats;
    refuses = turned cut found.period is.limit.is_loop is.limit.more;
  });
  least = is.least.least;
}

pub ring_there : (cut : Cut) (found : LeastPeriod) → IsLeastPeriod cut found → 0 < length found.ring
ring_there cut found is =
    omega (arith, is.limit.is_loop.some, count_by-le-length (λ (e : Demand). e.step.next) found.ring)

-- no list repeats in a lesser period
no_lesser_of : (cut : Cut) (cycle : Cycle) (n : ℕ) → IsShownOf n cut cycle → (other : ℕ) (entries : List ℤ)
    → IsRepeating cut other entries → cycle.period ≤ other
no_lesser_of cut cycle zero shown other entries repeats = omega (arith, shown.period)
no_lesser_of cut cycle (suc more) shown other entries repeats =
    no_lesser_period cut cycle.period other cycle.ring entries shown.refuses repeats

pub no_lesser : (cut : Cut) (cycle : Cycle) → IsCycle cut cycle → (other : ℕ) (entries : List ℤ)
    → IsRepeating cut other entries → cycle.period ≤ other
no_lesser cut cycle is = no_lesser_of cut cycle (member_count cut) is.shown
