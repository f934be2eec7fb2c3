-- What the rows of a compressed timetable rest on.
use Rattle.std.specs.Prelude.{◌<◌, pos, ◌≤ℤ◌, All, IfSome, ⊤, length}
use Rattle.plan_model.specs.declared.answer.Placed.{Placed}
use Rattle.plan_model.specs.declared.answer.Plan.{Plan}
use Rattle.plan_model.specs.declared.answer.Tie.{Tie}
use Rattle.plan_model.specs.declared.answer.Tie.TheVariants as tie

-- the train and the place of a tie are among those of the plan
abbrev pub IsTieOf : Plan → Tie → Type 0
IsTieOf plan tie.Start = ⊤
IsTieOf plan (tie.After train block) = (train < length plan.placed) × (block < length plan.blocks)

-- a train of a plan is planned to enter, and enters, at the origin or later, and its tie is one of the plan
pub record IsTrainOf (plan : Plan) (p : Placed) : Type 0 where
  pub planned : pos 0 ≤ℤ p.planned
  pub entry : pos 0 ≤ℤ p.entry
  pub tie : IsTieOf plan p.tie

-- a plan whose window is not empty, whose trains are such, and whose busiest block and critical train are there
pub record IsShown (plan : Plan) : Type 0 where
  pub window : plan.from_s < plan.to_s
  pub trains : All (IsTrainOf plan) plan.placed
  pub busiest : IfSome plan.busiest (λ b. b < length plan.blocks)
  pub critical : IfSome plan.critical (λ t. t < length plan.placed)
