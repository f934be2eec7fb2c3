-- What each command ends with, by its input: its text, in the order of the commands, or a refusal.
use Rattle.std.specs.Prelude.{◌≡◌, ℕ, List, Option, None, Some, option_and_then, position, Result, Ok, Err, ◌++◌, ◌⊎◌, ◌<◌, ◌≤◌, [], ◌∷◌, Bool, if◌then◌else◌, map, fold, All, slice_set, is_some, zero, suc, length, sum_by, codes, decimal}
use Rattle.std.specs.Option.{ok_or}
use Rattle.std.specs.List.{list_all}
use Rattle.rail_model.specs.Name.{is_same}
use Rattle.rail_model.specs.declared.tables.Tables.{Tables}
use Rattle.rail_model.specs.Conflict.{Conflict, AreConflicts, timetable}
use Rattle.row_text.specs.SheetRows.{text_of_rows, Row}
use Rattle.row_text.specs.Lines.{◌>>=◌}
use Rattle.plan_model.specs.declared.cut.Cut.{Cut}
use Rattle.plan_model.specs.Cut.{cut_of}
use Rattle.plan_model.specs.declared.answer.Answer.{Answer}
use Rattle.plan_model.specs.Answer.{IsAnswer}
use Rattle.plan_model.specs.declared.limits.TheConstants.{MEMBERS}
use Rattle.plan_model.specs.Members.{member_count, member}
use Rattle.plan_model.specs.declared.scripts.Task.{Task}
use Rattle.plan_model.specs.declared.journal.Entry.{Entry}
use Rattle.plan_model.specs.Journal.{tables_of, edits}
use Rattle.plan_model.specs.Session.{IsSession, IsSessionAlone}
use Rattle.capacity_report.specs.Rows.{stairs_rows, check_rows, headways_or_count, rows_of_journal}
use Rattle.capacity_report.specs.declared.answers.Detail.TheVariants as detail
use Rattle.capacity_report.specs.Answers.{answer_rows, AreAnswers, report_rows, crowded_row, total_of, total_row}
use Rattle.line_cutter.specs.declared.found.Cutting.{Cutting}
use Rattle.line_cutter.specs.Cutting.{IsCutting}
use Rattle.line_cutter.specs.Rows.{cutting_rows}
use Rattle.delay_spread.specs.declared.spreading.TheConstants.{GREATEST_DELAY_S}
use Rattle.delay_spread.specs.declared.found.Spread.{Spread}
use Rattle.delay_spread.specs.Spreading.{IsSpread, spread_rows}
use Rattle.path_fill.specs.Filling.{IsNoPlan, IsOrdered, IsFill, fill_rows}
use Rattle.path_fill.specs.declared.found.Fill.{Fill}
use Rattle.cycle_time.specs.declared.found.Cycle.{Cycle}
use Rattle.cycle_time.specs.Cycle.{IsCycle, cycle_rows}
use Rattle.capacity_cmd.specs.Types.{Cause, GivenDelay, Command, Refusal, Accepted}
use Rattle.capacity_cmd.specs.declared.status.Cause.TheVariants as cause
use Rattle.capacity_cmd.specs.Outcome.{Outcome, Refuses, EndsInText}
use Rattle.capacity_cmd.specs.declared.command.Command.TheVariants as command
use Rattle.capacity_cmd.specs.Input.{Content, accepted_of, content_of_input}
use Rattle.capacity_cmd.specs.Command.{planners_of}
use Rattle.plan_model.specs.declared.answer.Answer.TheVariants as answer
use Rattle.made_line.specs.declared.counts.TheConstants.{BASE_EDITS, PLANNERS, WORKERS}
use Rattle.made_line.specs.Base.{base_tables, scripts_of_made}

-- the cut of the section that is named; none where the word is no name or no section has it
abbrev pub cut_named : Tables → Option (List ℕ) → Result Cut Cause
cut_named tables section = ok_or (option_and_then (cut_of tables) section) cause.NoSection

-- the position of the member that is named; none where the word is no name or no member has it
abbrev pub row_named : Cut → Option (List ℕ) → Option ℕ
row_named cut None = None
row_named cut (Some run) = position (λ r. is_same r.name run) cut.rows

-- a text is written for what is named, and where it isn't found the input as a whole is refused
abbrev pub EndsOnNamed : {X : Type 0} → (X → List ℕ → Type 0) → Result X Cause → Outcome → Type 0
EndsOnNamed IsText (Ok found) outcome = EndsInText (IsText found) outcome
EndsOnNamed IsText (Err why) outcome = outcome ≡ Refuses 0 why

-- the rows of the timetable's conflicts
abbrev pub IsCheckText : Tables → List ℕ → Type 0
IsCheckText tables text =
    (all : List Conflict) × AreConflicts (timetable tables) all × (text ≡ text_of_rows (check_rows tables all))

abbrev pub IsCompressText : Cut → List ℕ → Type 0
IsCompressText cut text =
    (a : Answer) × IsAnswer cut a × (text ≡ text_of_rows (answer_rows cut.section.name a detail.Full))

-- the heads of the answers of all sections, and their total
abbrev pub IsReportText : Tables → List ℕ → Type 0
IsReportText tables text =
    (answers : List Answer) × AreAnswers tables tables.sections answers
    × (text ≡ text_of_rows (report_rows tables.sections answers))

abbrev pub IsHeadwaysText : Cut → List ℕ → Type 0
IsHeadwaysText cut text = text ≡ text_of_rows (headways_or_count cut)

-- the rows of the answer of a section that has no compressed timetable: its trains have no order, or are too many
abbrev pub IsHeadText : Cut → List ℕ → Type 0
IsHeadText cut text =
    (a : Answer) × IsAnswer cut a × IsNoPlan a × (text ≡ text_of_rows (answer_rows cut.section.name a detail.Head))

-- of a cut with more members than are compressed only their number is told; of another the rows of its cutting
abbrev pub IsCutText : Cut → List ℕ → Type 0
IsCutText cut text =
    ((MEMBERS < member_count cut) × (text ≡ text_of_rows (crowded_row cut.section.name (member_count cut) ∷ [])))
    ⊎ ((member_count cut ≤ MEMBERS)
    × (cutting : Cutting) × IsCutting cut cutting × (text ≡ text_of_rows (cutting_rows cut cutting)))

-- the rows of the least cycle time of the section's trains
abbrev pub IsCycleText : Cut → List ℕ → Type 0
IsCycleText cut text =
    IsHeadText cut text
    ⊎ (IsOrdered cut × (cycle : Cycle) × IsCycle cut cycle × (text ≡ text_of_rows (cycle_rows cut cycle)))

-- each delay is given to a member
abbrev pub are_members : Cut → List GivenDelay → Bool
are_members cut given = list_all (λ d. is_some (row_named cut (Some d.run))) given

-- the delay that is given to each member: 0 where none is; no run is given two
abbrev pub delays_in : Cut → List GivenDelay → List ℕ
delays_in cut given = map (λ r. fold (λ so_far d. if is_same r.name d.run then d.delay else so_far) 0 given) cut.rows

-- the cut of the section that is named, with these delays, where all are given to members; none is where the word of a
-- run is no name
abbrev pub with_delays : Option (List GivenDelay) → Cut → Result (Cut × List ℕ) Cause
with_delays None cut = Err cause.NoMember
with_delays (Some given) cut = if are_members cut given then Ok (cut, delays_in cut given) else Err cause.NoMember

abbrev pub delayed_named : Tables → Option (List ℕ) → Option (List GivenDelay) → Result (Cut × List ℕ) Cause
delayed_named tables section given = cut_named tables section >>= with_delays given

-- one delay is set, where it is given to a member; all that are set are within the limit
pub record SetsDelay (cut : Cut) (d : GivenDelay) (done : Bool) (delays more : List ℕ) : Type 0 where
  pub member : done ≡ is_some (row_named cut (Some d.run))
  pub set : (row : ℕ) → row_named cut (Some d.run) ≡ Some row → more ≡ slice_set delays row d.delay
  pub limit : All (λ s. s ≤ GREATEST_DELAY_S) delays → All (λ s. s ≤ GREATEST_DELAY_S) more

-- the rows of the delays that are spread
abbrev pub IsSpreadText : Cut → List ℕ → List ℕ → Type 0
IsSpreadText cut delays text =
    IsOrdered cut × (spread : Spread) × IsSpread cut delays spread × (text ≡ text_of_rows (spread_rows cut spread))

abbrev pub IsDelaysText : Cut × List ℕ → List ℕ → Type 0
IsDelaysText (cut, delays) text = IsHeadText cut text ⊎ IsSpreadText cut delays text

-- the cut of the section that is named, with the position of the member that is named
abbrev pub with_member : Option (List ℕ) → Cut → Result (Cut × ℕ) Cause
with_member run cut = do
  row ← ok_or (row_named cut run) cause.NoMember
  Ok (cut, row)

abbrev pub member_named : Tables → Option (List ℕ) → Option (List ℕ) → Result (Cut × ℕ) Cause
member_named tables section run = cut_named tables section >>= with_member run

-- the rows of the section that is filled with copies of the member
abbrev pub IsFilledText : Cut → ℕ → List ℕ → Type 0
IsFilledText cut row text =
    IsOrdered cut × (fill : Fill) × IsFill cut row fill
    × (text ≡ text_of_rows (fill_rows cut.section (member cut row).name fill))

abbrev pub IsFillText : Cut × ℕ → List ℕ → Type 0
IsFillText (cut, row) text = IsHeadText cut text ⊎ IsFilledText cut row text

-- a session with so many workers, over tables, the number of the last edit before it and planners' scripts, may have this
-- journal; without workers there is one
abbrev pub IsJournalWith : ℕ → Tables → ℕ → List (List Task) → List Entry → Type 0
IsJournalWith zero tables at scripts journal = IsSessionAlone tables at scripts journal
IsJournalWith (suc workers) tables at scripts journal = IsSession tables at scripts (suc workers) journal

-- the rows of a journal, and then the report of the tables at its end
abbrev pub IsJournalText : List Entry → List ℕ → Type 0
IsJournalText journal text =
    (answers : List Answer) × AreAnswers (tables_of journal) (tables_of journal).sections answers
    × (text ≡ text_of_rows (rows_of_journal journal ++ report_rows (tables_of journal).sections answers))

-- the text of a journal of a session with so many workers
abbrev pub IsSessionText : Tables → ℕ → List (List Task) → ℕ → List ℕ → Type 0
IsSessionText tables at scripts workers text =
    (journal : List Entry) × IsJournalWith workers tables at scripts journal × IsJournalText journal text

-- the outcome of each command on the tables of a line, and that of a session on the planners' scripts besides
abbrev pub EndsOnAccepted : Command → Accepted → Outcome → Type 0
EndsOnAccepted command.Stairs given = EndsInText (λ text. text ≡ text_of_rows (stairs_rows given.tables))
EndsOnAccepted command.Check given = EndsInText (IsCheckText given.tables)
EndsOnAccepted (command.Compress section) given = EndsOnNamed IsCompressText (cut_named given.tables section)
EndsOnAccepted command.Report given = EndsInText (IsReportText given.tables)
EndsOnAccepted (command.Headways section) given = EndsOnNamed IsHeadwaysText (cut_named given.tables section)
EndsOnAccepted (command.Cut section) given = EndsOnNamed IsCutText (cut_named given.tables section)
EndsOnAccepted (command.Cycle section) given = EndsOnNamed IsCycleText (cut_named given.tables section)
EndsOnAccepted (command.Delays section delays) given =
    EndsOnNamed IsDelaysText (delayed_named given.tables section delays)
EndsOnAccepted (command.Fill section run) given = EndsOnNamed IsFillText (member_named given.tables section run)
EndsOnAccepted (command.Session workers) given =
    EndsInText (IsSessionText given.tables given.at given.scripts workers)

-- the outcome of a command on what an input says, or on its refusal
abbrev pub Ends : Command → Result Content Refusal → Outcome → Type 0
Ends command (Ok content) outcome = EndsOnAccepted command (accepted_of content) outcome
Ends command (Err refusal) outcome = outcome ≡ Refuses refusal.row refusal.cause

abbrev pub EndsOn : Command → List ℕ → Outcome → Type 0
EndsOn command input outcome = Ends command (content_of_input (planners_of command) input) outcome

-- made,N,EDITS: the number that the line is made from, and the edits of its base
abbrev pub line_row : ℕ → Row
line_row n = codes "made" ∷ decimal n ∷ decimal BASE_EDITS ∷ []

-- the occupancy time of an ordered section; 0 of any other
abbrev pub occupancy_of : Answer → ℕ
occupancy_of (answer.Ordered plan) = plan.occupancy
occupancy_of a = 0

-- occupancy,SUM
abbrev pub occupancy_row : ℕ → Row
occupancy_row sum = codes "occupancy" ∷ decimal sum ∷ []

-- the total of some answers, and the occupancy times of their ordered sections together
abbrev pub rows_of_answers : List Answer → List Row
rows_of_answers answers = total_row (total_of answers) ∷ occupancy_row (sum_by occupancy_of answers) ∷ []

-- made-session,PLANNERS,WORKERS,EDITS: of the edits of the scripts those that were made
abbrev pub session_row : ℕ → Row
session_row made = codes "made-session" ∷ decimal PLANNERS ∷ decimal WORKERS ∷ decimal made ∷ []

-- the line, what is counted of its base, its session, and what is counted in the end
abbrev pub made_rows : ℕ → List Row → ℕ → List Row → List Row
made_rows n base made last = line_row n ∷ base ++ session_row made ∷ last

-- the rows of the line that is made from a number: there is a journal of a session of its planners and workers over its
-- base, and what is counted in the end is counted of the answers of the tables that the journal leaves
pub record IsMadeText (n : ℕ) (text : List ℕ) : Type 0 where
  pub base : List Answer
  pub base_are : AreAnswers (base_tables n) (base_tables n).sections base
  pub journal : List Entry
  pub session : IsSession (base_tables n) BASE_EDITS (scripts_of_made n) WORKERS journal
  pub last : List Answer
  pub last_are : AreAnswers (tables_of journal) (tables_of journal).sections last
  pub text_is : text ≡ text_of_rows (made_rows n (rows_of_answers base) (length (edits journal)) (rows_of_answers last))
