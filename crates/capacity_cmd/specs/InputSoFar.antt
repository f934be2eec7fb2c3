-- What the rows that were read so far give to a command.
use Rattle.std.specs.Prelude.{◌≡◌, ℕ, ◌+◌, ◌≤◌, Bool, true, false, List, length, drop, sum_by, Option, Some, None, Result, Ok, Err, IsErr}
use Rattle.std.specs.Result.{result_map_both}
use Rattle.rail_model.specs.declared.edit.Edit.{Edit}
use Rattle.rail_model.specs.declared.edit.Rule.{Rule}
use Rattle.rail_model.specs.declared.form.Form.{Form}
use Rattle.rail_model.specs.declared.memory.OutOfMemory as memory
use Rattle.rail_model.specs.declared.tables.Tables.{Tables}
use Rattle.rail_model.specs.Rules.{no_tables, after, rule_of}
use Rattle.row_text.specs.declared.line.Line.{Line}
use Rattle.row_text.specs.declared.unread.Unread.{Unread}
use Rattle.row_text.specs.declared.unread.Unread.TheVariants as unread
use Rattle.row_text.specs.SheetRows.{Row}
use Rattle.row_text.specs.Lines.{◌>>=◌, first_line}
use Rattle.plan_model.specs.declared.scripts.Task.{Task}
use Rattle.plan_book.specs.declared.book.TheConstants.{TASKS}
use Rattle.capacity_cmd.specs.Types.{Cause, Refusal, Accepted, BaseSoFar, InputSoFar, Stopped}
use Rattle.capacity_cmd.specs.declared.status.Cause.TheVariants as cause
use Rattle.capacity_cmd.specs.Stopped.{Gives}
use Rattle.capacity_cmd.specs.Input.{Spelling, with_line, Content, accepted_of, refused, spelling_from, tables_from, content_in}

-- what an input gives to a command, or its refusal
abbrev pub accepted_in : Result Content Refusal → Result Accepted Refusal
accepted_in content = result_map_both accepted_of (λ refusal. refusal) content

-- so many planners at most, 256 tasks, and no more edits than there are rows
pub record IsWithin (planners rows : ℕ) (given : Accepted) : Type 0 where
  pub scripts : length given.scripts ≤ planners
  pub tasks : sum_by length given.scripts ≤ TASKS
  pub edits : given.at ≤ rows

-- ---- the base

-- what is made, or the first row whose edit a rule refused
abbrev pub or_refused : {X : Type 0} → Option Refusal → X → Result X Refusal
or_refused None made = Ok made
or_refused (Some refusal) made = Err refusal

abbrev pub tables_so_far : BaseSoFar → Result Tables Refusal
tables_so_far made = or_refused made.refused made.tables

-- what is made after one more edit, in the row of this number
abbrev pub by_rule : ℕ → Tables → Option Rule → Result Tables Refusal
by_rule row tables None = Ok tables
by_rule row tables (Some rule) = refused row (cause.Rule rule)

abbrev pub after_one_more : ℕ → Result Tables Refusal → Edit → Result Tables Refusal
after_one_more row (Ok tables) e = by_rule row (after tables e) (rule_of tables e)
after_one_more row (Err refusal) e = Err refusal

-- what a rule's answer to the edit in the row of this number leaves to say
abbrev pub refusal_of : {U : Type 0} → ℕ → Result U Rule → Option Refusal
refusal_of row (Ok u) = None
refusal_of row (Err rule) = Some (record { row = row; cause = cause.Rule rule })

-- ---- scripts

-- where a row may stand the scripts are changed, and else it has the fault of its place
abbrev pub TakesIf : Bool → List (List Task) → List (List Task) → Option Cause → Type 0
TakesIf stands more after None = (stands ≡ true) × (after ≡ more)
TakesIf stands more after (Some why) = (stands ≡ false) × (why ≡ cause.Script)

-- ---- all rows

-- nothing was read
pub record IsNothing (made : InputSoFar) : Type 0 where
  pub tables : tables_so_far made.base ≡ Ok no_tables
  pub edits : made.base.edits ≡ 0
  pub scripts : length made.scripts ≡ 0

-- what was read is what rows spell, the first of which has this number
pub record Holds (first : ℕ) (s : Spelling) (made : InputSoFar) : Type 0 where
  pub tables : tables_so_far made.base ≡ tables_from first s.base
  pub edits : made.base.edits ≡ length s.base
  pub scripts : made.scripts ≡ s.scripts

-- what the rows so far give, or the first whose edit a rule refused
abbrev pub accepted_so_far : InputSoFar → Result Accepted Refusal
accepted_so_far made =
    or_refused made.base.refused
    (record { tables = made.base.tables; at = made.base.edits; scripts = made.scripts })

-- the line of the row of this number is taken, or may not stand there; a base edit stands right after those before it
abbrev pub TakesLine : ℕ → ℕ → Line → InputSoFar → InputSoFar → Option Cause → Type 0
TakesLine planners row line made more None =
    (first : ℕ) (s : Spelling) → Holds first s made → (length s.scripts ≡ 0 → first + length s.base ≡ row)
    → (next : Spelling) × (with_line planners s line ≡ Ok next) × Holds first next more
TakesLine planners row line made more (Some why) =
    (first : ℕ) (s : Spelling) → Holds first s made → with_line planners s line ≡ Err why

-- a row is taken, or has a fault of its form or its place
abbrev pub TakesRow : ℕ → ℕ → Result Line Form → InputSoFar → InputSoFar → Option Cause → Type 0
TakesRow planners row (Ok line) made more taken = TakesLine planners row line made more taken
TakesRow planners row (Err fault) made more None = ⊥
TakesRow planners row (Err fault) made more (Some why) = why ≡ cause.Form fault

-- why an item is not read: a fault of its form, of which the row is told, or want of memory
abbrev pub IsFormFault : Unread → Result (Option Cause) memory.OutOfMemory → Type 0
IsFormFault (unread.Fault fault) told = told ≡ Ok (Some (cause.Form fault))
IsFormFault unread.OutOfMemory told = IsErr told

-- all rows, so many, are taken, and give what the whole input gives
pub record TakesAll (planners rows : ℕ) (whole : Result Content Refusal) (made : InputSoFar) : Type 0 where
  pub is : accepted_in whole ≡ accepted_so_far made
  pub scripts : length made.scripts ≤ planners
  pub edits : made.base.edits ≤ rows

-- how taking rows ends: all are taken, or the first fault is how the whole ends; of a want of memory nothing is said
abbrev pub TakesRows : {U : Type 0} → ℕ → ℕ → Result Content Refusal → InputSoFar → Result U (Stopped Refusal) → Type 0
TakesRows planners rows whole made (Ok done) = TakesAll planners rows whole made
TakesRows planners rows whole made (Err why) = Gives whole (Err why)

-- ---- the rows before a place

-- what a spelling says: besides itself the tables that its base makes, whose first edit stands in the
-- row of this number
unfoldable pub said_by : ℕ → Result Spelling Refusal → Result Content Refusal
said_by first spelling =
    spelling >>= λ (s : Spelling). tables_from first s.base >>= λ tables. Ok (record { spelling = s; tables = tables })

-- what is said by what is spelled so far and by the rows that are left, the first of which has this
-- number
unfoldable pub goes_on : ℕ → ℕ → ℕ → ℕ → Spelling → List Row → Result Content Refusal
goes_on planners version first number s rows = said_by first (spelling_from planners version number s rows)

-- the rows before a place are taken, as a spelling, and the rest goes on from there
pub record HasTaken (planners version : ℕ) (rows : List Row) (made : InputSoFar) (i : ℕ) : Type 0 where
  pub spelling : Spelling
  pub holds : Holds (first_line rows + 1) spelling made
  pub few : length spelling.base ≤ i
  pub edits : length spelling.base ≤ length rows
  pub count : length spelling.scripts ≡ 0 → first_line rows + length spelling.base ≡ i
  pub scripts : length spelling.scripts ≤ planners
  pub rest : content_in planners (Ok version) rows ≡ goes_on planners version (first_line rows + 1) (i + 1) spelling (drop i rows)
