-- How many copies of a train a section can take, behind all its trains, and the rows that tell it.
use Rattle.std.specs.Prelude.{◌≡◌, ℕ, ◌<◌, ℤ, ◌≤ℤ◌, List, ◌++◌, length, replicate, All, AllPairs, IsTrue, ◌+◌, ◌≤◌, Bool, true, false, [], Result, Ok, Err, None, ⊤, ◌∷◌, codes, decimal}
use Rattle.rail_model.specs.declared.items.Section.{Section}
use Rattle.row_text.specs.SheetRows.{Row}
use Rattle.plan_model.specs.declared.cut.Cut.{Cut}
use Rattle.plan_model.specs.Members.{block_count, member, member_count, uses_place}
use Rattle.plan_model.specs.Schedule.{window_start, entry_at, start_at, end_at, IsSchedule}
use Rattle.plan_model.specs.Answer.{IsAfterAll, occupancy, IsAnswer, Fraction, period, consumption, is_within}
use Rattle.plan_model.specs.declared.limits.TheConstants.{MEMBERS}
use Rattle.plan_model.specs.declared.answer.Answer.{Answer}
use Rattle.plan_model.specs.declared.answer.Answer.TheVariants as answer
use Rattle.plan_model.specs.Disorder.{opposite, remaining}
use Rattle.answer_parts.specs.Rows.{consumption_fields}
use Rattle.path_fill.specs.Types.{Fill}
use Rattle.path_fill.specs.declared.found.Fill.TheVariants as fill

-- one copy of member r comes after another: on each block that the member uses, the first ends its use before the later
-- starts, or as it starts
abbrev pub FollowsCopy : Cut → ℕ → ℤ → ℤ → Type 0
FollowsCopy cut r first later =
    (block : ℕ) → block < block_count cut → IsTrue (uses_place (member cut r) block)
    → end_at (member cut r) first block ≤ℤ start_at (member cut r) later block

-- a schedule with copies of member r: no copy enters before the window, each comes after all members on the blocks that
-- it uses, r itself too, and after each copy before it. Connections don't bind copies
pub record IsFilled (cut : Cut) (r : ℕ) (entries copies : List ℤ) : Type 0 where
  pub schedule : IsSchedule cut entries
  pub from : All (λ y. window_start cut ≤ℤ y) copies
  pub after_all : All (IsAfterAll cut entries r) copies
  pub in_turn : AllPairs (FollowsCopy cut r) copies

-- the least schedule with so many copies: in no other does any member or copy enter earlier
pub record IsLeastFilled (cut : Cut) (r count : ℕ) (entries copies : List ℤ) : Type 0 where
  pub many : length copies ≡ count
  pub filled : IsFilled cut r entries copies
  pub least : (other others : List ℤ) → length others ≡ count → IsFilled cut r other others
      → (i : ℕ) → i < member_count cut → entry_at entries i ≤ℤ entry_at other i
  pub least_copies : (other others : List ℤ) → length others ≡ count → IsFilled cut r other others
      → (k : ℕ) → k < count → entry_at copies k ≤ℤ entry_at others k

-- a cut with so many copies of member r behind its members
abbrev pub with_copies : Cut → ℕ → ℕ → Cut
with_copies cut r count = record cut { rows = cut.rows ++ replicate count (member cut r) }

-- the filled occupancy: the occupancy time of members and copies in the least schedule with so many copies
abbrev pub IsFilledOccupancy : Cut → ℕ → ℕ → ℕ → Type 0
IsFilledOccupancy cut r count time =
    (entries : List ℤ) × (copies : List ℤ) × IsLeastFilled cut r count entries copies
    × (time ≡ occupancy (with_copies cut r count) (entries ++ copies))

-- the capacity consumption of an occupancy time in a section's window
abbrev pub consumption_of : Section → ℕ → Fraction
consumption_of section time = consumption time section.add_percent (period section)

-- a consumption of at most 1
abbrev pub has_room : Section → ℕ → Bool
has_room section time = is_within (consumption_of section time)

-- so many copies fit: with them the consumption is at most 1
abbrev pub DoFit : Cut → ℕ → ℕ → Type 0
DoFit cut r count = (time : ℕ) × IsFilledOccupancy cut r count time × (has_room cut.section time ≡ true)

-- so many copies are too many: with them it is above 1
abbrev pub AreTooMany : Cut → ℕ → ℕ → Type 0
AreTooMany cut r count = (time : ℕ) × IsFilledOccupancy cut r count time × (has_room cut.section time ≡ false)

-- the greatest number of copies that fit: every number up to it fits, every greater one is too many; with it come the
-- filled occupancies of this number and of the next
pub record AreMost (cut : Cut) (r copies time more : ℕ) : Type 0 where
  pub occupancy : IsFilledOccupancy cut r copies time
  pub next : IsFilledOccupancy cut r (copies + 1) more
  pub fit : (count : ℕ) → count ≤ copies → DoFit cut r count
  pub over : (count : ℕ) → copies < count → AreTooMany cut r count

-- what is found: that the section is over its capacity without copies, else the greatest number that fits
abbrev pub IsFill : Cut → ℕ → Fill → Type 0
IsFill cut r (fill.Over time) = IsFilledOccupancy cut r 0 time × (has_room cut.section time ≡ false)
IsFill cut r (fill.Fits copies time next) = AreMost cut r copies time next

-- an answer that isn't a compressed timetable
abbrev pub IsNoPlan : Answer → Type 0
IsNoPlan (answer.Ordered plan) = ⊥
IsNoPlan a = ⊤

-- a cut that is compressed
pub record IsOrdered (cut : Cut) : Type 0 where
  pub few : member_count cut ≤ MEMBERS
  pub not_opposite : opposite cut ≡ None
  pub none_remains : remaining cut ≡ []

-- what is answered: how the section is filled where its cut is compressed, else its answer
abbrev pub IsFilling : Cut → ℕ → Result Fill Answer → Type 0
IsFilling cut r (Ok fill) = IsOrdered cut × IsFill cut r fill
IsFilling cut r (Err answer) = IsAnswer cut answer × IsNoPlan answer

-- fill,SECTION,RUN,COPIES or fill,SECTION,RUN,none
abbrev pub fill_row : Section → List ℕ → List ℕ → Row
fill_row section run copies = codes "fill" ∷ section.name ∷ run ∷ copies ∷ []

-- at,COPIES,OCCUPANCY,CONSUMPTION,PERCENT,VERDICT
abbrev pub at_row : Section → ℕ → ℕ → Row
at_row section copies time =
    codes "at" ∷ decimal copies ∷ decimal time ∷ consumption_fields (consumption_of section time)

-- the number of copies, and the consumption with it and with one more; or that there is room for none
abbrev pub fill_rows : Section → List ℕ → Fill → List Row
fill_rows section run (fill.Over time) = fill_row section run (codes "none") ∷ at_row section 0 time ∷ []
fill_rows section run (fill.Fits copies time next) =
    fill_row section run (decimal copies) ∷ at_row section copies time ∷ at_row section (copies + 1) next ∷ []
