-- What a call that adds rows to a sheet leaves of it.
use Rattle.std.specs.Prelude.{◌≡◌, ℕ, List, ◌++◌, [], take, Result, Ok, Err}
use Rattle.row_text.specs.SheetRows.{Row, SheetRows}

-- all of these rows were added to a sheet, and none is open
pub record AddsAll (before after : SheetRows) (added : List Row) : Type 0 where
  pub rows : after.rows ≡ before.rows ++ added
  pub closed : after.row ≡ []

-- a prefix of these rows was added: none, the first, the first two, and so on
pub record AddsFirst (before after : SheetRows) (added : List Row) : Type 0 where
  pub count : ℕ
  pub rows : after.rows ≡ before.rows ++ take count added

-- a call that adds rows adds all of them; where memory runs out, a prefix
abbrev pub Adds : {T E : Type 0} → Result T E → SheetRows → SheetRows → List Row → Type 0
Adds (Ok done) before after added = AddsAll before after added
Adds (Err want) before after added = AddsFirst before after added
