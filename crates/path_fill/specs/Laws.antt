-- Laws of copies.
use Rattle.std.specs.Prelude.{◌≡◌, ℕ, ◌*◌, ◌<◌, ◌≤◌, ℤ, List, [], Result}
use Rattle.plan_model.specs.declared.cut.Cut.{Cut}
use Rattle.plan_model.specs.declared.answer.Answer.{Answer}
use Rattle.plan_model.specs.Members.{member_count}
use Rattle.plan_model.specs.Cut.{IsSoundCut}
use Rattle.plan_model.specs.Disorder.{remaining}
use Rattle.plan_model.specs.Schedule.{IsLeast}
use Rattle.plan_model.specs.Answer.{Fraction}
use Rattle.path_fill.specs.Types.{Fill}
use Rattle.path_fill.specs.Filling.{IsLeastFilled, IsFilledOccupancy, consumption_of, IsFill, IsFilling}

-- with so many copies there is at most one filled occupancy
abbrev pub FilledOccupancyIsUnique : Type 0
FilledOccupancyIsUnique =
    (cut : Cut) (r count time other : ℕ) → IsFilledOccupancy cut r count time → IsFilledOccupancy cut r count other
    → time ≡ other

-- a sound cut whose trains have an order has a filled occupancy with any number of copies of a member
abbrev pub FilledOccupancyIsThere : Type 0
FilledOccupancyIsThere =
    (cut : Cut) (r count : ℕ) → IsSoundCut cut → r < member_count cut → remaining cut ≡ []
    → (time : ℕ) × IsFilledOccupancy cut r count time

-- however many copies follow them, the members enter as in the compressed timetable
abbrev pub MembersEnterAsCompressed : Type 0
MembersEnterAsCompressed =
    (cut : Cut) (r count : ℕ) (entries copies : List ℤ) → IsLeastFilled cut r count entries copies → IsLeast cut entries

-- one fraction is at most another
abbrev pub IsNoGreater : Fraction → Fraction → Type 0
IsNoGreater f g = f.num * g.den ≤ g.num * f.den

-- the filled occupancies of a sound cut with some copies of a member, and with as many or more
pub record IsFilledByMore (cut : Cut) (r fewer more time longer : ℕ) : Type 0 where
  pub sound : IsSoundCut cut
  pub there : r < member_count cut
  pub no_fewer : fewer ≤ more
  pub with_fewer : IsFilledOccupancy cut r fewer time
  pub with_more : IsFilledOccupancy cut r more longer

-- with more copies the filled occupancy is no less
abbrev pub OccupancyNeverFalls : Type 0
OccupancyNeverFalls = (cut : Cut) (r fewer more time longer : ℕ) → IsFilledByMore cut r fewer more time longer → time ≤ longer

-- nor is the capacity consumption
abbrev pub ConsumptionNeverFalls : Type 0
ConsumptionNeverFalls =
    (cut : Cut) (r fewer more time longer : ℕ) → IsFilledByMore cut r fewer more time longer
    → IsNoGreater (consumption_of cut.section time) (consumption_of cut.section longer)

-- a section is filled with copies of a member in one way: one greatest number of them, and its filled occupancies
abbrev pub FillIsUnique : Type 0
FillIsUnique = (cut : Cut) (r : ℕ) (fill other : Fill) → IsFill cut r fill → IsFill cut r other → fill ≡ other

-- with its member a cut has at most one answer: one way in which it is filled, or one answer without a timetable
abbrev pub FillingIsUnique : Type 0
FillingIsUnique =
    (cut : Cut) (r : ℕ) (answer other : Result Fill Answer) → IsFilling cut r answer → IsFilling cut r other
    → answer ≡ other
