-- Trains that are all placed, and the plan that is made of them.
use Rattle.std.specs.Prelude.{ℕ, ◌<◌, ℤ, List, Option, None, Some, slice_index_or, IsTrue}
use Rattle.plan_model.specs.declared.cut.CutRow.{CutRow}
use Rattle.plan_model.specs.declared.cut.Cut.{Cut}
use Rattle.plan_model.specs.declared.answer.Tie.{Tie}
use Rattle.plan_model.specs.declared.answer.Tie.TheVariants.{Start}
use Rattle.plan_model.specs.declared.answer.Placed.{Placed}
use Rattle.plan_model.specs.declared.answer.Plan.{Plan}
use Rattle.plan_model.specs.Members.{member, member_count, no_member, uses_place}
use Rattle.plan_model.specs.Cut.{IsBounded}
use Rattle.plan_model.specs.Answer.{entries_of}
use Rattle.plan_model.specs.Schedule.{window_floor, entry_at, start_by, end_by}
use Rattle.train_order.specs.Ordering.{IsOrder}
use Rattle.train_placing.specs.declared.last.Last.{Last}
use Rattle.train_placing.specs.Placing.{ArePlaced}

-- all trains are placed in some order, none before the window
abbrev pub AreAllPlaced : Cut → List ℤ → List Tie → List (Option Last) → Type 0
AreAllPlaced cut entries ties last =
    (order : List ℕ) × IsOrder cut order × ArePlaced cut (window_floor cut) order entries ties last

-- all times of trains that enter at these moments lie from -2^50 to 2^50
pub record AreBounded (cut : Cut) (entries : List ℤ) : Type 0 where
  pub entry : (i : ℕ) → i < member_count cut → IsBounded (entry_at entries i)
  pub starts : (i place : ℕ) → i < member_count cut → IsTrue (uses_place (member cut i) place)
      → IsBounded (start_by cut entries i place)
  pub ends : (i place : ℕ) → i < member_count cut → IsTrue (uses_place (member cut i) place)
      → IsBounded (end_by cut entries i place)

-- all times of a plan do
abbrev pub HasBoundedTimes : Cut → Plan → Type 0
HasBoundedTimes cut plan = AreBounded cut (entries_of plan)

-- a row with its entry and its tie, from the lists of all
abbrev pub placed_with : List CutRow → List ℤ → List Tie → ℕ → Placed
placed_with rows entries ties i = record {
  train = (slice_index_or rows i no_member).name;
  planned = (slice_index_or rows i no_member).entry;
  entry = entry_at entries i;
  tie = slice_index_or ties i Start;
}

-- the train of a last use
abbrev pub train_of : Option Last → Option ℕ
train_of None = None
train_of (Some last) = Some last.train

-- the train of the last use of the busiest block
abbrev pub critical_of : Option ℕ → List (Option Last) → Option ℕ
critical_of None last = None
critical_of (Some block) last = train_of (slice_index_or last block None)
