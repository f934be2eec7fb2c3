-- What is counted of the answers of a line that is made, one answer after the other.
use Rattle.std.specs.Prelude.{◌≡◌, ℕ, ◌+◌, List, [], ◌∷◌, take, sum_by}
use Rattle.rail_model.specs.declared.items.Section.{Section}
use Rattle.rail_model.specs.declared.tables.Tables.{Tables}
use Rattle.plan_model.specs.declared.answer.Answer.{Answer}
use Rattle.plan_model.specs.Cut.{section_cut}
use Rattle.plan_model.specs.Answer.{IsAnswer}
use Rattle.row_text.specs.SheetRows.{Row}
use Rattle.capacity_report.specs.Answers.{AreAnswers, Total, total_of, total_row, with_answer}
use Rattle.capacity_cmd.specs.Ends.{occupancy_of, occupancy_row}

-- the total of some answers, and the occupancy times of their ordered sections together
pub record Counted : Type 0 where
  pub total : Total
  pub occupancy : ℕ

abbrev pub counted_by : Total → ℕ → Counted
counted_by total occupancy = record { total = total; occupancy = occupancy }

abbrev pub counted_of : List Answer → Counted
counted_of answers = counted_by (total_of answers) (sum_by occupancy_of answers)

-- the rows of both
abbrev pub counted_rows : Counted → List Row
counted_rows counted = total_row counted.total ∷ occupancy_row counted.occupancy ∷ []

-- what is counted of some answers and of one more
abbrev pub with_one : Counted → Answer → Counted
with_one counted a = record {
  total = with_answer counted.total a;
  occupancy = counted.occupancy + occupancy_of a;
}

-- the answer of a section is counted
pub record CountsSection (tables : Tables) (section : Section) (before after : Counted) : Type 0 where
  pub answer : Answer
  pub is : IsAnswer (section_cut tables section) answer
  pub counted : after ≡ with_one before answer

-- this is counted of the answers of the first so many sections
pub record AreCounted (tables : Tables) (count : ℕ) (counted : Counted) : Type 0 where
  pub answers : List Answer
  pub are : AreAnswers tables (take count tables.sections) answers
  pub counted_is : counted ≡ counted_of answers
