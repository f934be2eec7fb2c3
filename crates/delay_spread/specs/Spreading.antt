-- Delays that are spread over the trains of a cut, and the rows that tell them.
use Rattle.std.specs.Prelude.{ℕ, ℤ, pos, ◌+ℤ◌, ◌-ℤ◌, nat_abs, List, slice_index_or, ◌≡◌, nat_lt, [], map, count_by, sum_by, Result, Ok, Err, None, ◌<◌, ◌∷◌, ◌++◌, length, All, codes, decimal, ⊤}
use Rattle.std.specs.Fmt.{signed_decimal}
use Rattle.row_text.specs.SheetRows.{Row}
use Rattle.plan_model.specs.declared.cut.Cut.{Cut}
use Rattle.plan_model.specs.Members.{member, members, member_count, place_name, place_count}
use Rattle.plan_model.specs.Schedule.{entry_at, IsScheduleFrom, IsLeastFrom, tie_from}
use Rattle.plan_model.specs.declared.answer.Disorder.{Disorder}
use Rattle.plan_model.specs.Disorder.{opposite, remaining}
use Rattle.plan_model.specs.declared.answer.Tie.{Tie}
use Rattle.plan_model.specs.declared.answer.Tie.TheVariants as tie
use Rattle.train_order.specs.Ordering.{IsOrdering}
use Rattle.answer_parts.specs.Rows.{start_fields, after_fields}
use Rattle.delay_spread.specs.Types.{Held, Spread}

-- the delay of member i, in seconds
abbrev pub delay_at : List ℕ → ℕ → ℕ
delay_at delays i = slice_index_or delays i 0

-- the floor of each member: its planned entry and its own delay
abbrev pub delayed_floor : Cut → List ℕ → ℕ → ℤ
delayed_floor cut delays i = (member cut i).entry +ℤ pos (delay_at delays i)

-- a delayed schedule: running times, dwell times and the given order are kept, and no train enters before its floor
abbrev pub IsDelayedSchedule : Cut → List ℕ → List ℤ → Type 0
IsDelayedSchedule cut delays entries = IsScheduleFrom cut (delayed_floor cut delays) entries

-- the least delayed schedule: in no delayed schedule does any train enter earlier
abbrev pub IsLeastDelayed : Cut → List ℕ → List ℤ → Type 0
IsLeastDelayed cut delays entries = IsLeastFrom cut (delayed_floor cut delays) entries

-- how much later a train enters than its planned entry and its own delay say; by no delayed schedule is it earlier
abbrev pub later_by : ℤ → ℕ → ℤ → ℕ
later_by planned delay entry = nat_abs (entry -ℤ (planned +ℤ pos delay))

-- the knock-on delay of member i: what others add to its own delay
abbrev pub knock_on : Cut → List ℕ → List ℤ → ℕ → ℕ
knock_on cut delays entries i = later_by (member cut i).entry (delay_at delays i) (entry_at entries i)

-- member i by a list of entries: its tie is Start where it enters at its floor, else the first train, by name, that
-- precedes it and touches it, at the first such place
abbrev pub held_at : Cut → List ℕ → List ℤ → ℕ → Held
held_at cut delays entries i = record {
  train = (member cut i).name;
  delay = delay_at delays i;
  entry = entry_at entries i;
  tie = tie_from cut (delayed_floor cut delays) entries i;
}

-- the delays spread by a list of entries: each member, how many have a knock-on delay, and the sum of these delays
abbrev pub spread_by : Cut → List ℕ → List ℤ → Spread
spread_by cut delays entries = record {
  held = map (held_at cut delays entries) (members cut);
  late = count_by (λ i. nat_lt 0 (knock_on cut delays entries i)) (members cut);
  sum = sum_by (knock_on cut delays entries) (members cut);
}

abbrev pub IsSpread : Cut → List ℕ → Spread → Type 0
IsSpread cut delays spread =
    (entries : List ℤ) × IsLeastDelayed cut delays entries × (spread ≡ spread_by cut delays entries)

-- what is answered: the delays spread, where the trains have an order; else why they have none
abbrev pub IsSpreading : Cut → List ℕ → Result Spread Disorder → Type 0
IsSpreading cut delays (Ok spread) = (opposite cut ≡ None) × (remaining cut ≡ []) × IsSpread cut delays spread
IsSpreading cut delays (Err disorder) = IsOrdering cut (Err disorder)

-- some delays, spread over the cut's trains, come to this
abbrev pub IsSpreadOf : Cut → Spread → Type 0
IsSpreadOf cut spread = (delays : List ℕ) × IsSpread cut delays spread

-- start, or after,TRAIN,PLACE
abbrev pub tie_fields : Cut → Tie → Row
tie_fields cut tie.Start = start_fields
tie_fields cut (tie.After train block) = after_fields (member cut train).name (place_name cut block)

-- held,NAME,DELAY,ENTRY,KNOCKON and its tie
abbrev pub held_row : Cut → List Held → ℕ → Row
held_row cut held i =
    let h = slice_index_or held i (record { train = []; delay = 0; entry = pos 0; tie = tie.Start }) in
    codes "held" ∷ h.train ∷ decimal h.delay ∷ signed_decimal h.entry
    ∷ decimal (later_by (member cut i).entry h.delay h.entry) ∷ tie_fields cut h.tie

-- knock-on,LATE,SUM
abbrev pub knock_on_row : ℕ → ℕ → Row
knock_on_row late sum = codes "knock-on" ∷ decimal late ∷ decimal sum ∷ []

abbrev pub held_rows : Cut → List Held → List Row
held_rows cut held = map (held_row cut held) (members cut)

-- the trains in the order of their names, and what is knocked on
abbrev pub spread_rows : Cut → Spread → List Row
spread_rows cut spread = held_rows cut spread.held ++ knock_on_row spread.late spread.sum ∷ []

-- ---- what is asked to write them

-- the train and the place of a tie are among those of the cut
abbrev pub IsTieOf : Cut → Tie → Type 0
IsTieOf cut tie.Start = ⊤
IsTieOf cut (tie.After train block) = (train < member_count cut) × (block < place_count cut)

-- each member is held, by what is there
pub record AreHeld (cut : Cut) (held : List Held) : Type 0 where
  pub count : length held ≡ member_count cut
  pub ties : All (λ h. IsTieOf cut h.tie) held
