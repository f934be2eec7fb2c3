-- The first of the trains and places that a train touches.
use Rattle.std.specs.Prelude.{ℤ, ◌+ℤ◌, ◌-ℤ◌, Bool, if◌then◌else◌, List, fold, Option, None, Some, slice_index_or}
use Rattle.std.specs.Ordering.{int_eq}
use Rattle.rail_model.specs.declared.stair.Use.{Use}
use Rattle.plan_model.specs.declared.cut.CutRow.{CutRow}
use Rattle.plan_model.specs.declared.cut.Cut.{Cut}
use Rattle.plan_model.specs.declared.answer.Tie.{Tie}
use Rattle.plan_model.specs.declared.answer.Tie.TheVariants.{Start, After}
use Rattle.plan_model.specs.Members as places
use Rattle.train_placing.specs.declared.last.Last.{Last}
use Rattle.train_placing.specs.declared.tie.Touch.{Touch}

-- the touch at a use of a train that is planned to enter at one moment and enters at another
abbrev pub touch_of : ℤ → ℤ → Option Last → Use → Option Touch
touch_of planned entry None u = None
touch_of planned entry (Some last) u =
    if int_eq last.until (u.start -ℤ planned +ℤ entry)
    then Some (record { train = last.train; place = u.block })
    else None

-- by the names of trains, then of places
abbrev pub comes_first : Cut → Touch → Touch → Bool
comes_first cut a b = places.comes_first cut (a.train, a.place) (b.train, b.place)

-- the first of two, if there are any
abbrev pub better : Cut → Option Touch → Option Touch → Option Touch
better cut None other = other
better cut (Some one) None = Some one
better cut (Some one) (Some two) = if comes_first cut two one then Some two else Some one

-- the first of one and of the touch at a use, if there are any
abbrev pub better_with : Cut → ℤ → ℤ → Option Last → Option Touch → Use → Option Touch
better_with cut planned entry last best u = better cut best (touch_of planned entry last u)

-- the first of one and of the touch at a use, by the last uses of all places
abbrev pub touch_with : Cut → ℤ → ℤ → List (Option Last) → Option Touch → Use → Option Touch
touch_with cut planned entry last best u = better_with cut planned entry (slice_index_or last u.block None) best u

-- the first touch of all
abbrev pub first_touch : Cut → CutRow → ℤ → List (Option Last) → Option Touch
first_touch cut row entry last = fold (touch_with cut row.entry entry last) None row.uses

abbrev pub tie_of : Option Touch → Tie
tie_of None = Start
tie_of (Some touch) = After touch.train touch.place

-- the tie of a train with a floor that enters at a moment
abbrev pub tie : Cut → CutRow → ℤ → ℤ → List (Option Last) → Tie
tie cut row floor entry last = if int_eq entry floor then Start else tie_of (first_touch cut row entry last)
