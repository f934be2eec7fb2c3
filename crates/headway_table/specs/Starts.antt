-- How long after their entries the trains start their uses, by place and train.
use Rattle.std.specs.Prelude.{◌≡◌, ◌≢◌, ℕ, ◌<◌, ◌==◌, nat_lt, ℤ, ◌-ℤ◌, ◌≤ℤ◌, pos, List, [], length, fold, slice_index_or, if◌then◌else◌}
use Rattle.rail_model.specs.declared.stair.Use.{Use}
use Rattle.plan_model.specs.declared.cut.CutRow.{CutRow}
use Rattle.plan_model.specs.Members.{no_member}
use Rattle.headway_table.specs.declared.starts.TheConstants.{FREE}

-- how long after its entry a train starts its use of a place, with one use more; FREE, which is later than any, where
-- it doesn't use the place
abbrev pub with_use_start : ℤ → ℕ → ℤ → Use → ℤ
with_use_start entry place start u = if u.block == place then u.start -ℤ entry else start

abbrev pub start_in : CutRow → ℕ → ℤ
start_in row place = fold (with_use_start row.entry place) FREE row.uses

-- the start that a table has for a place and a train
abbrev pub start_in_table : List (List ℤ) → ℕ → ℕ → ℤ
start_in_table table place j = slice_index_or (slice_index_or table place []) j (pos 0)

-- one column of a table is changed, in each row by what stands there
pub record Changes (j : ℕ) (change : ℕ → ℤ → ℤ) (before after : List (List ℤ)) : Type 0 where
  pub count : length after ≡ length before
  pub widths : (p : ℕ) → p < length before
      → length (slice_index_or after p []) ≡ length (slice_index_or before p [])
  pub own : (p : ℕ) → p < length before → start_in_table after p j ≡ change p (start_in_table before p j)
  pub others : (p k : ℕ) → p < length before → k ≢ j → start_in_table after p k ≡ start_in_table before p k

-- a table has a row for each place, and in it a column for each train
pub record IsWide (places trains : ℕ) (table : List (List ℤ)) : Type 0 where
  pub count : length table ≡ places
  pub widths : (p : ℕ) → p < places → length (slice_index_or table p []) ≡ trains

-- the starts of the first n trains, by place and train, and FREE for the others
abbrev pub start_of : List CutRow → ℕ → ℕ → ℕ → ℤ
start_of rows n place j = if nat_lt j n then start_in (slice_index_or rows j no_member) place else FREE

pub record AreStartsOf (places : ℕ) (rows : List CutRow) (n : ℕ) (table : List (List ℤ)) : Type 0 where
  pub wide : IsWide places (length rows) table
  pub each : (p j : ℕ) → p < places → j < length rows → start_in_table table p j ≡ start_of rows n p j

-- the starts of all trains
abbrev pub AreStarts : ℕ → List CutRow → List (List ℤ) → Type 0
AreStarts places rows table = AreStartsOf places rows (length rows) table

-- a start lies within the limits, or is FREE
pub record IsStart (s : ℤ) : Type 0 where
  pub after : (pos 0 -ℤ pos 100000000) ≤ℤ s
  pub before : s ≤ℤ FREE
