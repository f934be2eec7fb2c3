-- What is promised of an answer, and of the reading that it is made from.
use Rattle.std.specs.Prelude.{◌≡◌, ℕ, ◌<◌, ◌≤◌, ℤ, pos, ◌-ℤ◌, ◌≤ℤ◌, All, ⊤}
use Rattle.plan_model.specs.declared.limits.TheConstants.{MEMBERS}
use Rattle.plan_model.specs.declared.cut.Cut.{Cut}
use Rattle.plan_model.specs.declared.answer.Plan.{Plan}
use Rattle.plan_model.specs.declared.answer.Answer.{Answer}
use Rattle.plan_model.specs.declared.answer.Answer.TheVariants as answer
use Rattle.plan_model.specs.Members.{member_count}
use Rattle.plan_model.specs.Schedule.{entry_at}
use Rattle.plan_model.specs.Planned.{IsFreeOfConflict, KeepsConnections}
use Rattle.plan_model.specs.Answer.{PrecedesOnAllBlocks, IsClosingEntry, entries_of}
use Rattle.plan_model.specs.Reading.{Shown, after_taking, use_count}

-- nothing is taken of a crowded reading, and of another all uses, once; nothing else changes
pub record IsTaken (before after : Shown) : Type 0 where
  pub nothing : MEMBERS < member_count before.cut → after ≡ before
  pub all : member_count before.cut ≤ MEMBERS → after ≡ after_taking (use_count before) before

-- what holds of the compressed timetable that an answer is, if it is one
abbrev pub OnPlan : Answer → (Plan → Type 0) → Type 0
OnPlan (answer.Ordered plan) P = P plan
OnPlan a P = ⊤

-- where the planned timetable is free of conflict and keeps its connections, no train enters later
-- than planned
abbrev pub HasNoneLater : Cut → Plan → Type 0
HasNoneLater cut plan =
    IsFreeOfConflict cut → KeepsConnections cut → All (λ p. p.entry ≤ℤ p.planned) plan.placed

-- where a train precedes all others on all blocks, the occupancy time is what lies between its entry
-- and that of its closing copy
abbrev pub ReachesToClosing : Cut → Plan → Type 0
ReachesToClosing cut plan =
    (c : ℕ) (entry : ℤ) → PrecedesOnAllBlocks cut c → IsClosingEntry cut (entries_of plan) c entry
    → pos plan.occupancy ≡ entry -ℤ entry_at (entries_of plan) c

-- whichever train is copied, the occupancy time is no less than what lies between its entry and that of its closing
-- copy, which comes after all others on the blocks that the train uses
abbrev pub ReachesEachClosing : Cut → Plan → Type 0
ReachesEachClosing cut plan =
    (c : ℕ) (entry : ℤ) → IsClosingEntry cut (entries_of plan) c entry
    → (entry -ℤ entry_at (entries_of plan) c) ≤ℤ pos plan.occupancy
