-- What a book reads next.
use Rattle.std.specs.Prelude.{◌≡◌, ℕ, ◌<◌, ◌≤◌, List, length, Some, All, Contains}
use Rattle.rail_model.specs.Name.{NamesRise}
use Rattle.plan_model.specs.declared.journal.Entry.{Entry}
use Rattle.plan_model.specs.Reading.{Shown}
use Rattle.plan_model.specs.Journal.{last_number, tables_of}
use Rattle.plan_model.specs.Legal.{IsCurrent, IsReading}
use Rattle.plan_model.specs.Outcome.{IsOfShare, section_name}
use Rattle.plan_book.specs.declared.shelf.Published.{Published}
use Rattle.plan_book.specs.declared.shelf.Shelf.{Shelf}

-- by what a shelf says, its section was published, and no edit touched it after that publication
pub record HasLatest (s : Shelf) : Type 0 where
  pub last : Published
  pub published : s.published ≡ Some last
  pub since : s.touched ≤ last.at

-- the number of the first section of a share, by name, that is not current
pub record IsNextOpen (share of : ℕ) (journal : List Entry) (number : ℕ) : Type 0 where
  pub of_share : IsOfShare share of journal number
  pub wanted : IsCurrent journal (section_name journal number) → ⊥
  pub first : (n : ℕ) → n < number → IsOfShare share of journal n → IsCurrent journal (section_name journal n)

-- a reading of the section of a name, of which nothing is taken
pub record IsReadingOf (journal : List Entry) (name : List ℕ) (shown : Shown) : Type 0 where
  pub reading : IsReading journal name shown.cut
  pub at : shown.at ≡ last_number journal
  pub untaken : shown.taken ≡ 0

-- the section of a number is among those that are read
pub record IsRead (journal : List Entry) (readings : List Shown) (number : ℕ) : Type 0 where
  pub shown : Shown
  pub one : Contains readings shown
  pub reads : IsReadingOf journal (section_name journal number) shown

module _ (journal : List Entry) (below : ℕ) where
  -- a reading of a section that is not current and has a number below this one
  pub record IsOpenReading (shown : Shown) : Type 0 where
    pub number : ℕ
    pub there : number < below
    pub wanted : IsCurrent journal (section_name journal number) → ⊥
    pub reads : IsReadingOf journal (section_name journal number) shown

  -- of the sections with numbers below this one just those are read that are not current, in the order of names
  pub record AreOpenBelow (readings : List Shown) : Type 0 where
    pub each : All IsOpenReading readings
    pub all : (n : ℕ) → n < below → (IsCurrent journal (section_name journal n) → ⊥) → IsRead journal readings n
    pub rise : NamesRise (λ r. r.cut.section.name) readings

-- just the sections that are not current are read, in the order of names
abbrev pub AreOpen : List Entry → List Shown → Type 0
AreOpen journal readings = AreOpenBelow journal (length (tables_of journal).sections) readings
