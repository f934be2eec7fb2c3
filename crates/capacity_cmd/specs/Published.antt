-- The answers that a journal has published last, one of each section.
use Rattle.std.specs.Prelude.{◌≡◌, ℕ, ◌<◌, List, [], ◌∷◌, ◌++◌, length, map, slice_index_or, Option, Some, None, option_map}
use Rattle.rail_model.specs.declared.items.Section.{Section}
use Rattle.rail_model.specs.declared.tables.Tables.{Tables}
use Rattle.rail_model.specs.Tables.{section_at}
use Rattle.plan_model.specs.declared.answer.Answer.{Answer}
use Rattle.plan_model.specs.declared.journal.Entry.{Entry}
use Rattle.plan_model.specs.Cut.{section_cut}
use Rattle.plan_model.specs.Answer.{IsAnswer}
use Rattle.plan_model.specs.Journal.{Publication, last_publication, tables_of}
use Rattle.row_text.specs.SheetRows.{text_of_rows}
use Rattle.capacity_report.specs.Rows.{rows_of_journal}
use Rattle.capacity_report.specs.Answers.{report_rows, IsAnswerOfSome}

-- the answer of a section that was published last, if one was
abbrev pub last_answer : List Entry → List ℕ → Option Answer
last_answer journal section = option_map (λ p. p.answer) (last_publication journal section)

-- those of some sections, in their order
abbrev pub last_answers : List Entry → List Section → List (Option Answer)
last_answers journal sections = map (λ s. last_answer journal s.name) sections

-- where these were the last answers of sections before an entry, those are the last ones after it
abbrev pub NotesEntry : List Section → Entry → List (Option Answer) → List (Option Answer) → Type 0
NotesEntry sections e old new =
    (before : List Entry) → old ≡ last_answers before sections → new ≡ last_answers (before ++ e ∷ []) sections

-- a section was published, and the answer of its last publication is that of its cut after all edits
pub record IsAnsweredLast (journal : List Entry) (section : Section) : Type 0 where
  pub publication : Publication
  pub last : last_publication journal section.name ≡ Some publication
  pub is_answer : IsAnswer (section_cut (tables_of journal) section) publication.answer

-- an answer of each section was published, and these are the last ones, in the order of the sections
abbrev pub WerePublishedLast : List Entry → List Section → List Answer → Type 0
WerePublishedLast journal sections answers = last_answers journal sections ≡ map Some answers

-- the rows of a journal, and then the heads of the last publications of all sections, in the order of names, and their
-- total
abbrev pub ReportsLast : List Entry → List ℕ → Type 0
ReportsLast journal text =
    (answers : List Answer) × WerePublishedLast journal (tables_of journal).sections answers
    × (text ≡ text_of_rows (rows_of_journal journal ++ report_rows (tables_of journal).sections answers))

-- an answer is there, and it is that of the section's cut, which is sound
pub record HasAnswer (tables : Tables) (section : Section) (found : Option Answer) : Type 0 where
  pub answer : Answer
  pub there : found ≡ Some answer
  pub is : IsAnswer (section_cut tables section) answer
  pub of_some : IsAnswerOfSome answer

-- there is one of each section, in the order of the sections
pub record HaveAnswers (tables : Tables) (found : List (Option Answer)) : Type 0 where
  pub count : length found ≡ length tables.sections
  pub each : (n : ℕ) → n < length tables.sections → HasAnswer tables (section_at tables n) (slice_index_or found n None)
