-- The text of `report` while the heads of its sections' answers are added, one after the other or each on a sheet of its own.
use Rattle.std.specs.Prelude.{◌≡◌, ℕ, ◌-◌, ◌/◌, ◌%◌, ◌==◌, if◌then◌else◌, List, ◌++◌, take, ◌<◌, ◌≤◌, [], length, slice_index_or}
use Rattle.rail_model.specs.declared.items.Section.{Section}
use Rattle.rail_model.specs.declared.tables.Tables.{Tables}
use Rattle.rail_model.specs.Tables.{section_at}
use Rattle.row_text.specs.SheetRows.{Row, text_of_rows}
use Rattle.plan_model.specs.declared.answer.Answer.{Answer}
use Rattle.plan_model.specs.Cut.{section_cut}
use Rattle.plan_model.specs.Answer.{IsAnswer}
use Rattle.capacity_report.specs.declared.answers.Detail.TheVariants as detail
use Rattle.capacity_report.specs.Answers.{answer_rows, AreAnswers, heads, report_rows, Total, total_of, with_answer}
use Rattle.capacity_cmd.specs.Types.{Head}

-- after some rows come the heads of the answers of all sections, and their total
abbrev pub AddsReport : Tables → List Row → List Row → Type 0
AddsReport tables rows more =
    (answers : List Answer) × AreAnswers tables tables.sections answers
    × (more ≡ rows ++ report_rows tables.sections answers)

-- the head of a section's answer comes to the rows, and the answer to the total
pub record AddsHead (tables : Tables) (section : Section) (rows more : List Row) (total greater : Total) : Type 0 where
  pub answer : Answer
  pub is : IsAnswer (section_cut tables section) answer
  pub head : more ≡ rows ++ answer_rows section.name answer detail.Head
  pub counted : greater ≡ with_answer total answer

-- after some rows come the heads of the answers of the first sections, and the total is theirs
pub record HasHeads (tables : Tables) (count : ℕ) (before rows : List Row) (total : Total) : Type 0 where
  pub answers : List Answer
  pub are : AreAnswers tables (take count tables.sections) answers
  pub written : rows ≡ before ++ heads (take count tables.sections) answers
  pub counted : total ≡ total_of answers

-- the head of a section's answer alone, and the total of this answer alone
abbrev pub IsHead : Tables → Section → Head → Type 0
IsHead tables section head = AddsHead tables section [] head.sheet.rows (total_of []) head.tally

-- the number of the item at a place of the list that is made by taking so many from both ends in turn; and where that list is taken so again
abbrev pub folded : ℕ → ℕ → ℕ
folded count place = if place % 2 == 0 then place / 2 else count - 1 - place / 2

abbrev pub in_turn : ℕ → ℕ → ℕ
in_turn count turn = folded count (folded count turn)

-- the head of the answer of the section that is taken at a turn
abbrev pub IsHeadInTurn : Tables → ℕ → Head → Type 0
IsHeadInTurn tables turn = IsHead tables (section_at tables (in_turn (length tables.sections) turn))

-- in the order in which the sections are taken, the head of each section's answer alone, but for the sections before this number
pub record AreHeads (tables : Tables) (from : ℕ) (heads : List Head) : Type 0 where
  pub count : length heads ≡ length tables.sections
  pub each : (n : ℕ) (d : Head) → n < length tables.sections → from ≤ in_turn (length tables.sections) n
      → IsHeadInTurn tables n (slice_index_or heads n d)

-- a text is the heads of the first sections' answers, and the total is theirs
pub record IsTextOfHeads (tables : Tables) (count : ℕ) (text : List ℕ) (total : Total) : Type 0 where
  pub rows : List Row
  pub heads : HasHeads tables count [] rows total
  pub written : text ≡ text_of_rows rows
