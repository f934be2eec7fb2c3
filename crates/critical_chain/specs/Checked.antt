-- What is looked at in a timetable to tell whether it is the compressed one of a cut.
use Rattle.std.specs.Prelude.{◌≡◌, ◌↔◌, ℕ, ◌<◌, [], None}
use Rattle.plan_model.specs.declared.cut.Cut.{Cut}
use Rattle.plan_model.specs.declared.answer.Tie.TheVariants.{Start}
use Rattle.plan_model.specs.declared.answer.Plan.{Plan}
use Rattle.plan_model.specs.Members.{member_count}
use Rattle.plan_model.specs.Cut.{IsSoundCut}
use Rattle.plan_model.specs.Disorder.{remaining, opposite}
use Rattle.plan_model.specs.Schedule.{window_start, entry_at, IsSchedule, tie_of}
use Rattle.plan_model.specs.Answer.{plan_of, IsCompressed}
pub use Rattle.plan_model.specs.Answer.{entries_of}

-- the plan is what its entries make of the cut; they are a schedule; a train whose tie is Start enters at the window's
-- start
pub record IsChecked (cut : Cut) (plan : Plan) : Type 0 where
  pub plan_of : plan ≡ plan_of cut (entries_of plan)
  pub schedule : IsSchedule cut (entries_of plan)
  pub starts : (j : ℕ) → j < member_count cut → tie_of cut (entries_of plan) j ≡ Start
      → entry_at (entries_of plan) j ≡ window_start cut

-- where no member remains, the plan for which this holds is the compressed timetable, and no other is
abbrev pub CheckedIsCompressed : Type 0
CheckedIsCompressed =
    (cut : Cut) (plan : Plan) → IsSoundCut cut → remaining cut ≡ [] → IsChecked cut plan ↔ IsCompressed cut plan

-- where no member remains, no two members are opposite
abbrev pub OrderedIsNotOpposite : Type 0
OrderedIsNotOpposite = (cut : Cut) → remaining cut ≡ [] → opposite cut ≡ None
