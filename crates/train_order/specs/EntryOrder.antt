-- Members in an order, and the last start at each place along it.
use Rattle.std.specs.Prelude.{◌≡◌, ℕ, ◌<◌, ℤ, pos, false, List, length, slice_index, slice_index_or}
use Rattle.rail_model.specs.declared.stair.Use.{Use}
use Rattle.plan_model.specs.declared.cut.Cut.{Cut}
use Rattle.plan_model.specs.Members.{member, precedes}
use Rattle.train_order.specs.Types.{Moment}

-- of some members in an order none precedes one that stands before it
abbrev pub AreInOrder : Cut → List ℕ → Type 0
AreInOrder cut positions = (k l place : ℕ) → k < l → l < length positions
    → precedes (member cut (slice_index positions l)) (member cut (slice_index positions k)) place ≡ false

-- a moment with its member
abbrev pub pair_of : Moment → ℤ × ℕ
pair_of m = (m.time, m.member)

-- stands where there is no moment
abbrev pub no_moment : Moment
no_moment = record { time = pos 0; member = 0 }

-- the last start at a place, in a table of all places
abbrev pub last_at : List Moment → ℕ → Moment
last_at last place = slice_index_or last place no_moment

-- a member's start by a use
abbrev pub moment_of : ℕ → Use → Moment
moment_of i u = record { time = u.start; member = i }
