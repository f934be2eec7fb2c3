-- The kept rows that are left while the rows of a cut are looked for among them, in the order of names.
use Rattle.std.specs.Prelude.{◌≡◌, ℕ, ◌+◌, ◌<◌, ◌≤◌, Bool, false, List, [], ◌∷◌, ◌++◌, length, take, sum_by, slice_index_or}
use Rattle.rail_model.specs.Name.{IsBefore, NamesRise}
use Rattle.plan_model.specs.declared.cut.CutRow.{CutRow}
use Rattle.plan_model.specs.declared.cut.Cut.{Cut}
use Rattle.plan_model.specs.Members.{member, member_count, no_member}
use Rattle.plan_model.specs.Reading.{Shown}
use Rattle.plan_repair.specs.Kept.{is_kept, uses_to_take, TakesAtMost}

-- there is a first row, and it passes a test
abbrev pub first_is : (CutRow → Bool) → List CutRow → Bool
first_is test [] = false
first_is test (row ∷ rows) = test row

-- some rows end with these
pub record EndsWith (rows last : List CutRow) : Type 0 where
  pub before : List CutRow
  pub is : rows ≡ before ++ last

-- of some rows those are left that may still be looked for behind a name: the last ones, among which a row that comes
-- after the name is kept where it was kept at all
pub record IsLeft (name : List ℕ) (before after : List CutRow) : Type 0 where
  pub rise : NamesRise (λ r. r.name) after
  pub ends : EndsWith before after
  pub later : (row : CutRow) → IsBefore name row.name → is_kept after row ≡ is_kept before row

-- a row stands at a position and has this name
pub record HasName (rows : List CutRow) (at : ℕ) (its : List ℕ) : Type 0 where
  pub there : at < length rows
  pub name : (slice_index_or rows at no_member).name ≡ its

-- a row stood at a position among so many, of which some were left, and then those behind it
pub record StoodAt (count : ℕ) (before after : List CutRow) (row : CutRow) (position : ℕ) : Type 0 where
  pub at : position + length after + 1 ≡ count
  pub ends : EndsWith before (row ∷ after)

-- of the kept rows those are left that may be looked for from a position of the cut on
pub record IsLeftFrom (cut : Cut) (kept : List CutRow) (from : ℕ) (left : List CutRow) : Type 0 where
  pub rise : NamesRise (λ r. r.name) left
  pub ends : EndsWith kept left
  pub later : (j : ℕ) → from ≤ j → j < member_count cut → is_kept left (member cut j) ≡ is_kept kept (member cut j)

-- the rows of a reading's cut up to a position are there: what is left of the kept rows, and what was taken so far
pub record IsRenewing (kept : List CutRow) (before : Shown) (upto : ℕ) (rest : List CutRow) (now : Shown) : Type 0 where
  pub left : IsLeftFrom before.cut kept upto rest
  pub taken : TakesAtMost (sum_by (uses_to_take kept) (take upto before.cut.rows)) before now
