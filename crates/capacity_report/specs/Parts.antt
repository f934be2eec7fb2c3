-- Texts that are made in parts.
use Rattle.std.specs.Prelude.{◌≡◌, ℕ, ◌+◌, ◌-◌, ◌*◌, ◌/◌, ◌<◌, ◌≤◌, List, length, slice_index_or, Result, IfOk}
use Rattle.std.specs.List.{flat_map, range_with_len}
use Rattle.std.specs.declared.vec.Vec.{Vec}
use Rattle.row_text.specs.SheetRows.{Row, text_of_rows}
use Rattle.capacity_report.specs.declared.parts.Part.{Part}

-- the number of a part's first item, where so many items are in so many parts
abbrev pub start_of : ℕ → ℕ → ℕ → ℕ
start_of count parts i = i * count / parts

-- the text of the rows of the items from one number to another
abbrev pub text_between : (ℕ → List Row) → ℕ → ℕ → List ℕ
text_between rows first «end» = text_of_rows (flat_map rows (range_with_len first («end» - first)))

-- one of so many parts of so many items
pub record IsPart (count parts i : ℕ) (part : Part) : Type 0 where
  pub first : part.first ≡ start_of count parts i
  pub «end» : part.«end» ≡ start_of count parts (i + 1)

-- the first so many of them
pub record AreParts (count parts some : ℕ) (all : List Part) : Type 0 where
  pub number : length all ≡ some
  pub each : (i : ℕ) (d : Part) → i < some → IsPart count parts i (slice_index_or all i d)

-- a call takes any part of the items, whatever its room
abbrev pub AcceptsParts : (Part → Type 0) → ℕ → Type 0
AcceptsParts accepts count = (part : Part) → part.first ≤ part.«end» → part.«end» ≤ count → accepts part

-- and what it makes of a part is the text of its rows
abbrev pub GivesTexts : {A E : Type 0} → (Part → Result (Vec ℕ A) E → Type 0) → (ℕ → List Row) → ℕ → Type 0
GivesTexts {A} {E} gives rows count =
    (part : Part) (made : Result (Vec ℕ A) E) → part.first ≤ part.«end» → part.«end» ≤ count → gives part made
    → IfOk made (λ text. text.items ≡ text_between rows part.first part.«end»)
