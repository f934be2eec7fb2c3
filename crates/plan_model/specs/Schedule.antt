-- Schedules: lists of entries that keep running times, dwell times and the given order; the least of them; and ties.
use Rattle.std.specs.Prelude.{◌≡◌, ℕ, ◌<◌, ℤ, pos, ◌+ℤ◌, ◌-ℤ◌, ◌≤ℤ◌, List, length, slice_index_or, IsTrue, Bool, ◌&&◌, if◌then◌else◌, filter, find, Option, option_map, option_and_then, unwrap_or}
use Rattle.plan_model.specs.Types.{CutRow, Cut, Tie}
use Rattle.plan_model.specs.Members.{member, member_count, use_at, precedes, places, first_by_name, members}
use Rattle.std.specs.List.{list_any}
use Rattle.std.specs.Ordering.{int_eq}
use Rattle.plan_model.specs.declared.answer.Tie.TheVariants.{Start, After}

-- the start of the section's window, before which no train enters
abbrev pub window_start : Cut → ℤ
window_start cut = pos cut.section.from_s

-- the entry of member i by a list of entries
abbrev pub entry_at : List ℤ → ℕ → ℤ
entry_at entries i = slice_index_or entries i (pos 0)

-- when a member that enters at a moment starts and ends its use of a place: its times there, moved with its entry
abbrev pub start_at : CutRow → ℤ → ℕ → ℤ
start_at row entry place = (use_at row place).start -ℤ row.entry +ℤ entry

abbrev pub end_at : CutRow → ℤ → ℕ → ℤ
end_at row entry place = (use_at row place).«end» -ℤ row.entry +ℤ entry

-- when member i starts and ends its use of a place, by a list of entries
abbrev pub start_by : Cut → List ℤ → ℕ → ℕ → ℤ
start_by cut entries i place = start_at (member cut i) (entry_at entries i) place

abbrev pub end_by : Cut → List ℤ → ℕ → ℕ → ℤ
end_by cut entries i place = end_at (member cut i) (entry_at entries i) place

-- a schedule from floors, one for each member, has an entry for each member, none before its floor; where one member
-- precedes another, it ends its use of the place before the other starts there, or as it starts
pub record IsScheduleFrom (cut : Cut) (floor : ℕ → ℤ) (entries : List ℤ) : Type 0 where
  pub count : length entries ≡ member_count cut
  pub from : (i : ℕ) → i < member_count cut → floor i ≤ℤ entry_at entries i
  pub order : (i j place : ℕ) → i < member_count cut → j < member_count cut
      → IsTrue (precedes (member cut i) (member cut j) place)
      → end_by cut entries i place ≤ℤ start_by cut entries j place

-- the least schedule from floors: in no schedule from them does any train enter earlier
pub record IsLeastFrom (cut : Cut) (floor : ℕ → ℤ) (entries : List ℤ) : Type 0 where
  pub schedule : IsScheduleFrom cut floor entries
  pub least : (other : List ℤ) → IsScheduleFrom cut floor other → (i : ℕ) → i < member_count cut
      → entry_at entries i ≤ℤ entry_at other i

-- the floor of each member in compression: the window's start
abbrev pub window_floor : Cut → ℕ → ℤ
window_floor cut i = window_start cut

-- a schedule, in which no train enters before the window
abbrev pub IsSchedule : Cut → List ℤ → Type 0
IsSchedule cut entries = IsScheduleFrom cut (window_floor cut) entries

-- the least schedule: in no schedule does any train enter earlier
abbrev pub IsLeast : Cut → List ℤ → Type 0
IsLeast cut entries = IsLeastFrom cut (window_floor cut) entries

-- member i, which precedes member j at a place, touches it there: j starts as i ends
abbrev pub touches : Cut → List ℤ → ℕ → ℕ → ℕ → Bool
touches cut entries i j place =
    precedes (member cut i) (member cut j) place && int_eq (end_by cut entries i place) (start_by cut entries j place)

-- the first by name of the members that touch member j
abbrev pub touching_member : Cut → List ℤ → ℕ → Option ℕ
touching_member cut entries j = find (λ i. list_any (touches cut entries i j) (places cut)) (members cut)

-- the first by name of the places at which member i touches member j
abbrev pub touching_place : Cut → List ℤ → ℕ → ℕ → Option ℕ
touching_place cut entries i j = first_by_name cut (filter (touches cut entries i j) (places cut))

-- the least pair, by names, of a member that touches member j and a place
abbrev pub touch : Cut → List ℤ → ℕ → Option Tie
touch cut entries j =
    option_and_then (λ i. option_map (After i) (touching_place cut entries i j)) (touching_member cut entries j)

-- the tie of member j from floors: its floor where it enters then, else this pair. It means something for the least
-- schedule of a sound cut from these floors, where there is such a pair; elsewhere there may be none
abbrev pub tie_from : Cut → (ℕ → ℤ) → List ℤ → ℕ → Tie
tie_from cut floor entries j =
    if int_eq (entry_at entries j) (floor j) then Start else unwrap_or (touch cut entries j) Start

-- the tie of member j: the window's start where it enters then, else this pair. It means something for the least
-- schedule of a sound cut alone
abbrev pub tie_of : Cut → List ℤ → ℕ → Tie
tie_of cut entries j = tie_from cut (window_floor cut) entries j
