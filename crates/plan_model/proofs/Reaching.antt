-- Whichever train is copied, the occupancy time is no less than what lies between its entry and its closing copy's.
use Rattle.std.proofs.Common.{ℕ, ◌≤◌, List, arith}
use Rattle.std.specs.Prelude.{ℤ, pos, negsuc, ◌+ℤ◌, ◌-ℤ◌, ◌≤ℤ◌, nat_abs}
use Rattle.std.proofs.lemmas.Int.{ints}
use Rattle.plan_model.specs.declared.cut.Cut.{Cut}
use Rattle.plan_model.specs.Members.{member, use_at}
use Rattle.plan_model.specs.Schedule.{entry_at, start_by, end_by}
use Rattle.plan_model.specs.Answer.{users, used_blocks, first_start, last_end, time_kept, occupancy, IsAfterAll}
use Rattle.plan_model.specs.Laws.{OccupancyReachesClosing}
use Rattle.plan_model.proofs.Users.{user_there, is_user, is_used}
use Rattle.plan_model.proofs.Closing.{back}
use Rattle.plan_model.proofs.Greatest.{above_each, below_each, longest_above}

below_abs : (z : ℤ) → z ≤ℤ pos (nat_abs z)
below_abs (pos n) = omega (arith, ints)
below_abs (negsuc n) = omega (arith, ints)

-- a copy that starts later by some time than its train starts after what ends within that time of the first start
after : (end first last s e x : ℤ) (kept most : ℕ) → end ≤ℤ last → first ≤ℤ (s -ℤ e +ℤ x) → (last -ℤ first) ≤ℤ pos kept
    → kept ≤ most → end ≤ℤ (s -ℤ e +ℤ (x +ℤ pos most))
after end first last s e x kept most p q r l = omega (arith, ints)

-- a copy that enters later than its train by the occupancy time comes after all members
later_copy : (cut : Cut) (entries : List ℤ) (c : ℕ)
    → IsAfterAll cut entries c (entry_at entries c +ℤ pos (occupancy cut entries))
later_copy cut entries c j b lj lb u of_c =
    after (end_by cut entries j b) (first_start cut entries b) (last_end cut entries b)
    (use_at (member cut c) b).start (member cut c).entry (entry_at entries c) (time_kept cut entries b)
    (occupancy cut entries)
    (above_each (λ i. end_by cut entries i b) (users cut b) j (is_user cut j b lj u))
    (below_each (λ i. start_by cut entries i b) (users cut b) c (is_user cut c b (user_there cut c b of_c) of_c))
    (below_abs _) (longest_above (time_kept cut entries) (used_blocks cut) b (is_used cut j b lj lb u))

pub occupancy_reaches_closing : OccupancyReachesClosing
occupancy_reaches_closing cut entries c entry closing =
    back (entry_at entries c) entry (occupancy cut entries) (closing.least _ (later_copy cut entries c))
