-- What a book knows of sections when it is started.
use Rattle.std.specs.Prelude.{◌≡◌, ℕ, List, map, None, Some, IfSome, All}
use Rattle.rail_model.specs.declared.items.Section.{Section}
use Rattle.rail_model.specs.declared.tables.Tables.{Tables}
use Rattle.plan_model.specs.declared.cut.Cut.{Cut}
use Rattle.plan_model.specs.Cut.{stamped, IsSoundCut, section_cut}
use Rattle.plan_book.specs.declared.shelf.Shelf.{Shelf}
use Rattle.plan_book.specs.declared.stored.Stored.TheVariants as stored
use Rattle.plan_book.specs.Shelves.{kept_cut}

-- the shelf of a section with this cut that no edit touched since the one of a number
abbrev pub shelf_of_cut : ℕ → Cut → Shelf
shelf_of_cut at cut = record {
  name = cut.section.name;
  touched = at;
  published = None;
  cut = Some (stored.Shared cut);
}

-- the shelf of a section by the tables: each row of its cut has the number
abbrev pub first_shelf : Tables → ℕ → Section → Shelf
first_shelf tables at section = shelf_of_cut at (stamped at (section_cut tables section))

-- each section of the tables has its shelf, in their order, with a sound cut
pub record AreFirst (tables : Tables) (at : ℕ) (shelves : List Shelf) : Type 0 where
  pub same : shelves ≡ map (first_shelf tables at) tables.sections
  pub sound : All (λ s. IfSome (kept_cut s) IsSoundCut) shelves
