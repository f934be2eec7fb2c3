-- What is kept of a section's cut, and what of a later cut has to be taken beside it.
use Rattle.std.specs.Prelude.{◌≡◌, ℕ, ◌+◌, ◌≤◌, Bool, ◌&&◌, ◌==◌, nat_lt, if◌then◌else◌, List, [], length, sum_by, Contains}
use Rattle.std.specs.List.{list_any}
use Rattle.rail_model.specs.Name.{is_same}
use Rattle.plan_model.specs.declared.limits.TheConstants.{MEMBERS}
use Rattle.plan_model.specs.declared.cut.CutRow.{CutRow}
use Rattle.plan_model.specs.declared.cut.Cut.{Cut}
use Rattle.plan_model.specs.Members.{member_count}
use Rattle.plan_model.specs.Reading.{Shown}

-- what contracts see of a keep: the section's name, and rows with their stamps
pub record Kept : Type 0 where
  pub section : List ℕ
  pub rows : List CutRow

-- what is to be kept of a cut: its rows, or none where it is crowded
abbrev pub kept_of : Cut → Kept
kept_of cut = record {
  section = cut.section.name;
  rows = if nat_lt MEMBERS (member_count cut) then [] else cut.rows;
}

-- a kept row and a row that is read are equal where their names and their stamps are
abbrev pub AgreeByStamps : List CutRow → List CutRow → Type 0
AgreeByStamps kept rows =
    (one row : CutRow) → Contains kept one → Contains rows row → one.name ≡ row.name → one.stamp ≡ row.stamp → one ≡ row

-- a keep is of a cut's section, and its rows and the cut's are equal where their names and their stamps are
pub record AgreesWith (keep : Kept) (cut : Cut) : Type 0 where
  pub section : keep.section ≡ cut.section.name
  pub rows : AgreeByStamps keep.rows cut.rows

-- a row has this name and this stamp
abbrev pub has : List ℕ → ℕ → CutRow → Bool
has name stamp row = is_same row.name name && (row.stamp == stamp)

-- a row is kept: with its name and its stamp
abbrev pub is_kept : List CutRow → CutRow → Bool
is_kept kept row = list_any (has row.name row.stamp) kept

-- how many uses have to be taken for a row: none where it is kept, else all of its own
abbrev pub uses_to_take : List CutRow → CutRow → ℕ
uses_to_take kept row = if is_kept kept row then 0 else length row.uses

-- how many uses those rows of a cut have that aren't kept with their name and stamp
abbrev pub uses_not_kept : Kept → Cut → ℕ
uses_not_kept keep cut = sum_by (uses_to_take keep.rows) cut.rows

-- a reading after at most so many uses were taken of it: its cut and its number stay, and its count never falls
pub record TakesAtMost (most : ℕ) (before after : Shown) : Type 0 where
  pub cut : after.cut ≡ before.cut
  pub at : after.at ≡ before.at
  pub taken : after.taken ≤ before.taken + most
  pub no_less : before.taken ≤ after.taken
