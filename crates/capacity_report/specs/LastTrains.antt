-- The trains of which a section's last answer was published.
use Rattle.std.specs.Prelude.{◌≡◌, ℕ, ◌≤◌, List, length, map, drop}
use Rattle.row_text.specs.SheetRows.{Row, text_of_row, text_of_rows}
use Rattle.plan_model.specs.declared.answer.Placed.{Placed}
use Rattle.plan_model.specs.declared.answer.Plan.{Plan}
use Rattle.capacity_report.specs.Answers.{train_rows}

-- how many bytes a row has
abbrev pub bytes_of : Row → ℕ
bytes_of row = length (text_of_row row)

-- the names of trains
abbrev pub trains_of : List Placed → List (List ℕ)
trains_of placed = map (λ p. p.train) placed

-- two plans have the same trains, by their names in order, and the same places
pub record AreAlike (plan last : Plan) : Type 0 where
  pub trains : trains_of plan.placed ≡ trains_of last.placed
  pub places : plan.blocks ≡ last.blocks

-- from a place on, a text is the rows of a plan's trains, of so many bytes each
pub record EndsWithTrains (text : List ℕ) (plan : Plan) (from : ℕ) (bytes : List ℕ) : Type 0 where
  pub within : from ≤ length text
  pub rows : drop from text ≡ text_of_rows (train_rows plan)
  pub each : bytes ≡ map bytes_of (train_rows plan)
