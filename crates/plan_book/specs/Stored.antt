-- A section's cut as a book keeps it.
use Rattle.std.specs.Prelude.{◌≡◌, ℕ, ◌<◌, [], length, vec_capacity}
use Rattle.std.specs.declared.alloc.Global.{Global}
use Rattle.std.specs.declared.vec.Vec.{Vec}
use Rattle.plan_model.specs.declared.cut.CutRow.{CutRow}
use Rattle.plan_model.specs.declared.cut.Cut.{Cut}
use Rattle.section_cut.specs.Change.{HasRoomAt}
use Rattle.plan_book.specs.declared.stored.Stored.{Stored}
use Rattle.plan_book.specs.declared.stored.Stored.TheVariants as stored

-- the cut that is stored
abbrev pub cut_in : Stored → Cut
cut_in (stored.Shared cut) = cut
cut_in (stored.Own cut) = cut

-- nobody else holds the cut
abbrev pub IsOwn : Stored → Type 0
IsOwn (stored.Shared cut) = ⊥
IsOwn (stored.Own cut) = Unit {0}

-- nobody else holds the cut, and this holds of it
abbrev pub IsOwnAnd : (Cut → Type 0) → Stored → Type 0
IsOwnAnd holds (stored.Shared cut) = ⊥
IsOwnAnd holds (stored.Own cut) = holds cut

-- the cut that is made of one that nobody else holds
abbrev pub in_own : (Cut → Cut) → Stored → Stored
in_own made (stored.Shared cut) = stored.Shared cut
in_own made (stored.Own cut) = stored.Own (made cut)

-- unused memory for so many rows and one more
pub record IsSpareFor (count : ℕ) (spare : Vec CutRow Global) : Type 0 where
  pub unused : spare.items ≡ []
  pub room : count < vec_capacity spare

-- a cut can take one row more here, with this spare memory
pub record TakesRow (place : ℕ) (spare : Vec CutRow Global) (cut : Cut) : Type 0 where
  pub there : HasRoomAt place cut
  pub memory : IsSpareFor (length cut.rows) spare
