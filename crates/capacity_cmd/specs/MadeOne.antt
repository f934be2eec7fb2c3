-- What the text of `made` says without a word of its journal.
use Rattle.std.specs.Prelude.{◌≡◌, ℕ, List}
use Rattle.plan_model.specs.declared.answer.Answer.{Answer}
use Rattle.row_text.specs.SheetRows.{text_of_rows}
use Rattle.capacity_report.specs.Answers.{AreAnswers}
use Rattle.made_line.specs.declared.counts.TheConstants.{SCRIPT_EDITS}
use Rattle.made_line.specs.Base.{base_tables}
use Rattle.made_line.specs.Later.{later_tables}
use Rattle.capacity_cmd.specs.Ends.{rows_of_answers, made_rows, IsMadeText}

-- the text tells what is counted of the base, that all edits of the scripts were made, and what is counted of the tables
-- that these edits leave
pub record TellsOfAll (n : ℕ) (text : List ℕ) : Type 0 where
  pub base : List Answer
  pub base_are : AreAnswers (base_tables n) (base_tables n).sections base
  pub last : List Answer
  pub last_are : AreAnswers (later_tables n) (later_tables n).sections last
  pub text_is : text ≡ text_of_rows (made_rows n (rows_of_answers base) SCRIPT_EDITS (rows_of_answers last))

-- and there is no other text of this number
pub record IsOneText (n : ℕ) (text : List ℕ) : Type 0 where
  pub tells : TellsOfAll n text
  pub one : (other : List ℕ) → IsMadeText n other → other ≡ text
