-- The numbers that tell the headways from one train to all others, use after use of the train.
use Rattle.std.specs.Prelude.{◌≡◌, ℕ, ◌<◌, ◌≤◌, ◌==◌, Bool, int_lt, ℤ, ◌-ℤ◌, pos, List, [], length, map, fold, All, Option, None, Some, slice_index_or, if◌then◌else◌}
use Rattle.std.specs.Int.{int_max}
use Rattle.std.specs.List.{range_with_len}
use Rattle.rail_model.specs.declared.stair.Use.{Use}
use Rattle.plan_model.specs.declared.cut.CutRow.{CutRow}
use Rattle.headway_table.specs.declared.ending.Ending.{Ending}
use Rattle.headway_table.specs.declared.row.TheConstants.{NEVER, LEAST_HEADWAY}
use Rattle.headway_table.specs.Walk.{IsLength}
use Rattle.headway_table.specs.Starts.{start_in, start_in_table, IsStart}

-- the greatest so far, with a place that the one train ends, and the other starts, so long after its entry
abbrev pub raised : ℤ → ℤ → ℤ → ℤ
raised greatest «end» start = int_max greatest («end» -ℤ start)

-- an end within the limit beside the starts of so many trains
pub record IsEnding (trains : ℕ) (place : Ending) : Type 0 where
  pub «end» : IsLength place.«end»
  pub count : length place.starts.now ≡ trains
  pub starts : All IsStart place.starts.now

-- an end and the starts beside it are those of a use of a train, by a table of starts
pub record IsEndingOf (table : List (List ℤ)) (row : CutRow) (u : Use) (place : Ending) : Type 0 where
  pub «end» : place.«end» ≡ (u.«end» -ℤ row.entry)
  pub near : IsLength place.«end»
  pub there : u.block < length table
  pub starts : place.starts.now ≡ slice_index_or table u.block []

-- the first numbers are raised, each by its own, and the others stand
pub record AreRaised (raise : ℕ → ℤ → ℤ) (n : ℕ) (before after : List ℤ) : Type 0 where
  pub count : length after ≡ length before
  pub done : (k : ℕ) → k < n → slice_index_or after k (pos 0) ≡ raise k (slice_index_or before k (pos 0))
  pub rest : (k : ℕ) → n ≤ k → slice_index_or after k (pos 0) ≡ slice_index_or before k (pos 0)

-- the greatest so far of train j with a place, and with four
abbrev pub raised_at : Ending → ℕ → ℤ → ℤ
raised_at place j greatest = raised greatest place.«end» (slice_index_or place.starts.now j (pos 0))

abbrev pub raised_by_four : Ending → Ending → Ending → Ending → ℕ → ℤ → ℤ
raised_by_four first second third fourth j greatest =
    raised_at fourth j (raised_at third j (raised_at second j (raised_at first j greatest)))

-- the greatest so far of the pair a, b with one use of a
abbrev pub raised_by : CutRow → CutRow → ℤ → Use → ℤ
raised_by a b greatest u = raised greatest (u.«end» -ℤ a.entry) (start_in b u.block)

-- the greatest so far to train j, with one use of a train that enters at this moment, by a table of starts
abbrev pub raised_from : List (List ℤ) → ℤ → ℕ → ℤ → Use → ℤ
raised_from table entry j greatest u = raised greatest (u.«end» -ℤ entry) (start_in_table table u.block j)

-- the greatest of all uses of a
abbrev pub greatest_by : CutRow → CutRow → ℤ
greatest_by a b = fold (raised_by a b) NEVER a.uses

-- the headway that such a number tells: none where no place was shared
abbrev pub headway_of : ℤ → Option ℤ
headway_of greatest = if int_lt greatest LEAST_HEADWAY then None else Some greatest

-- the headway that such a number tells, and none from a train to itself
abbrev pub headway_to : ℤ → Bool → Option ℤ
headway_to greatest own = if own then None else headway_of greatest

-- the headways that such numbers tell from train i to all
abbrev pub headway_by : List ℤ → ℕ → ℕ → Option ℤ
headway_by numbers i j = headway_to (slice_index_or numbers j (pos 0)) (i == j)

abbrev pub headways_of : List ℤ → ℕ → ℕ → List (Option ℤ)
headways_of numbers i n = map (headway_by numbers i) (range_with_len 0 n)
