-- Which line a row spells, or its first form fault; and the row that spells a line.
use Rattle.std.specs.Prelude.{ℕ, ◌-◌, Bool, false, ◌||◌, ◌==◌, nat_lt, if◌then◌else◌, List, [], ◌∷◌, length, drop, Result, Ok, Err, codes, slice_index_or, ◌≡◌, ◌+◌, ◌/◌, ◌%◌, true, ◌&&◌, nat_le, ◌++◌, map, decimal}
use Rattle.std.specs.Option.{ok_or}
use Rattle.rail_model.specs.declared.form.Form.{Form}
use Rattle.rail_model.specs.declared.form.Form.TheVariants as form
use Rattle.rail_model.specs.declared.edit.Kind.{Kind}
use Rattle.rail_model.specs.declared.edit.Kind.TheVariants as kind
use Rattle.rail_model.specs.declared.edit.Edit.TheVariants as edit
use Rattle.rail_model.specs.declared.items.Leg.{Leg}
use Rattle.rail_model.specs.declared.items.Item.{Item}
use Rattle.rail_model.specs.declared.items.Item.TheVariants as item
use Rattle.row_text.specs.Types.{Line, Word, Cell}
use Rattle.row_text.specs.declared.line.Line.TheVariants as line
use Rattle.row_text.specs.declared.word.Word.TheVariants as word
use Rattle.row_text.specs.SheetRows.{Row, field}
use Rattle.row_text.specs.Words.{name_in, number_in, rate_in, time_in, shape_of, word_of, allows, word_text}
use Rattle.rail_model.specs.Name.{is_same}
use Rattle.rail_model.specs.Rules.{kind_of_item}
use Rattle.std.specs.List.{list_all}
use Rattle.rail_model.specs.declared.edit.Edit.{Edit}
use Rattle.row_text.specs.declared.line_row.Cell.TheVariants as cell
use Rattle.row_text.specs.declared.time_text.TheConstants.{GREATEST_CLOCK_S}

-- what comes next where there is no fault
infixl 10 ◌>>=◌
abbrev pub ◌>>=◌ : {A B E : Type 0} → Result A E → (A → Result B E) → Result B E
Ok x >>= next = next x
Err fault >>= next = Err fault

-- each of the fields read in one way, or the first fault
abbrev pub read_each : {A : Type 0} → (List ℕ → Result A Form) → Row → Result (List A) Form
read_each of [] = Ok []
read_each of (first ∷ fields) = do
  x ← of first
  xs ← read_each of fields
  Ok (x ∷ xs)

-- a running and a dwell time for each leg, and the running time of the last
abbrev pub legs_of : List ℕ → List Leg
legs_of [] = []
legs_of (running ∷ []) = record { running_s = running; dwell_s = 0 } ∷ []
legs_of (running ∷ dwell ∷ times) = record { running_s = running; dwell_s = dwell } ∷ legs_of times

-- how long after the one before it each time comes
abbrev pub differences : ℕ → List ℕ → List ℕ
differences before [] = []
differences before (time ∷ times) = (time - before) ∷ differences time times

-- a time is less than the time before it
abbrev pub falls : ℕ → List ℕ → Bool
falls before [] = false
falls before (time ∷ times) = nat_lt time before || falls time times

-- the legs of a run's times: in version 1 the running and dwell times, in version 2 the arrivals and departures
abbrev pub run_legs : ℕ → ℕ → List ℕ → Result (List Leg) Form
run_legs version start times =
    if version == 2 then (if falls start times then Err form.Order else Ok (legs_of (differences start times)))
    else Ok (legs_of times)

-- the legs of the times that fields say, or the first fault
abbrev pub legs_in : ℕ → ℕ → Row → Result (List Leg) Form
legs_in version start fields = read_each (time_in version) fields >>= λ times. run_legs version start times

-- the item that a row of an allowed number of fields spells; else the fault of its first field that isn't of its sort;
-- else, for a run in version 2, `Order` where its times fall
abbrev pub item_in : ℕ → Kind → Row → Result Item Form
item_in version kind.Block row = do
  name ← name_in (field row 1)
  length_m ← number_in (field row 2)
  Ok (item.Block (record { name = name; length_m = length_m }))
item_in version kind.Signal row = do
  name ← name_in (field row 1)
  block ← name_in (field row 2)
  approach_m ← number_in (field row 3)
  watch_s ← number_in (field row 4)
  form_s ← number_in (field row 5)
  overlap_m ← number_in (field row 6)
  release_s ← number_in (field row 7)
  Ok (item.Signal (record {
    name = name;
    block = block;
    approach_m = approach_m;
    watch_s = watch_s;
    form_s = form_s;
    overlap_m = overlap_m;
    release_s = release_s;
  }))
item_in version kind.Route row = do
  name ← name_in (field row 1)
  signals ← read_each name_in (drop 2 row)
  Ok (item.Route (record { name = name; signals = signals }))
item_in version kind.Run row = do
  name ← name_in (field row 1)
  route ← name_in (field row 2)
  length_m ← number_in (field row 3)
  tail ← number_in (field row 4)
  start ← time_in version (field row 5)
  legs ← legs_in version start (drop 6 row)
  Ok (item.Run (record { name = name; route = route; length_m = length_m; tail_s = tail; start_s = start; legs = legs }))
item_in version kind.Section row = do
  name ← name_in (field row 1)
  from_s ← time_in version (field row 2)
  to_s ← time_in version (field row 3)
  add_percent ← rate_in (field row 4)
  blocks ← read_each name_in (drop 5 row)
  Ok (item.Section (record { name = name; from_s = from_s; to_s = to_s; add_percent = add_percent; blocks = blocks }))
item_in version kind.Connection row = do
  name ← name_in (field row 1)
  first ← name_in (field row 2)
  second ← name_in (field row 3)
  minimum_s ← number_in (field row 4)
  Ok (item.Connection (record { name = name; first = first; second = second; minimum_s = minimum_s }))

-- the line of a row of a word
abbrev pub line_of : ℕ → Word → Row → Result Line Form
line_of version (word.Put k) row = item_in version k row >>= λ x. Ok (line.Edit (edit.Put x))
line_of version (word.Change k) row = item_in version k row >>= λ x. Ok (line.Edit (edit.Change x))
line_of version (word.Drop k) row = name_in (field row 1) >>= λ name. Ok (line.Edit (edit.Drop k name))
line_of version word.Ask row = name_in (field row 1) >>= λ name. Ok (line.Ask name)
line_of version word.Planner row = number_in (field row 1) >>= λ n. Ok (line.Planner n)

-- the line that a row spells in a version of the rows, or its first form fault: its word, the number of its fields,
-- the first field that isn't of its sort, the order of its times
abbrev pub read_in : ℕ → Row → Result Line Form
read_in version row = do
  w ← ok_or (word_of (field row 0)) form.Kind
  if allows (shape_of w) (length row) then line_of version w row else Err form.Fields

-- version,N, as the first row of a text, says the version of all rows after it
abbrev pub has_version_row : List Row → Bool
has_version_row rows = is_same (field (slice_index_or rows 0 []) 0) (codes "version")

-- the version that such a row says, 1 or 2, or its fault
abbrev pub known_version : ℕ → Result ℕ Form
known_version version = if (version == 1) || (version == 2) then Ok version else Err form.Number

abbrev pub version_in : Row → Result ℕ Form
version_in row = if length row == 2 then number_in (field row 1) >>= known_version else Err form.Fields

-- the version of the rows of a text: 1 where no row says it
abbrev pub version_of : List Row → Result ℕ Form
version_of rows = if has_version_row rows then version_in (slice_index_or rows 0 []) else Ok 1

-- the place of the first row that is to spell a line
abbrev pub first_line : List Row → ℕ
first_line rows = if has_version_row rows then 1 else 0

-- a number below 100 in two digits
abbrev pub two_digits : ℕ → List ℕ
two_digits n = (48 + n / 10) ∷ (48 + n % 10) ∷ []

-- a time of day: HOURS:MM:SS, with at least two digits of hours
abbrev pub hours_text : ℕ → List ℕ
hours_text hours = if nat_lt hours 10 then 48 ∷ decimal hours else decimal hours

abbrev pub clock_text : ℕ → List ℕ
clock_text seconds =
    hours_text (seconds / 3600) ++ (58 ∷ two_digits (seconds / 60 % 60)) ++ (58 ∷ two_digits (seconds % 60))

-- a time in a version of the rows
abbrev pub time_text : ℕ → ℕ → List ℕ
time_text version seconds = if version == 2 then clock_text seconds else decimal seconds

-- a running and a dwell time for each leg, but no dwell time for the last
abbrev pub leg_times : List Leg → List ℕ
leg_times [] = []
leg_times (leg ∷ []) = leg.running_s ∷ []
leg_times (leg ∷ next ∷ legs) = leg.running_s ∷ leg.dwell_s ∷ leg_times (next ∷ legs)

-- the times at which steps end that begin at a time
abbrev pub sums : ℕ → List ℕ → List ℕ
sums before [] = []
sums before (step ∷ steps) = (before + step) ∷ sums (before + step) steps

-- the times after a run's start: in version 1 the running and dwell times, in version 2 the arrivals and departures
abbrev pub run_times : ℕ → ℕ → List Leg → List ℕ
run_times version start legs = if version == 2 then sums start (leg_times legs) else leg_times legs

-- the fields of an item's row after its word
abbrev pub item_fields : ℕ → Item → Row
item_fields version (item.Block b) = b.name ∷ decimal b.length_m ∷ []
item_fields version (item.Signal s) =
    s.name ∷ s.block ∷ map decimal (s.approach_m ∷ s.watch_s ∷ s.form_s ∷ s.overlap_m ∷ s.release_s ∷ [])
item_fields version (item.Route r) = r.name ∷ r.signals
item_fields version (item.Run r) =
    r.name ∷ r.route ∷ decimal r.length_m ∷ decimal r.tail_s
    ∷ map (time_text version) (r.start_s ∷ run_times version r.start_s r.legs)
item_fields version (item.Section s) =
    s.name ∷ time_text version s.from_s ∷ time_text version s.to_s ∷ decimal s.add_percent ∷ s.blocks
item_fields version (item.Connection c) = c.name ∷ c.first ∷ c.second ∷ decimal c.minimum_s ∷ []

-- the cell of a row that says a name, a number or a time
abbrev pub cell_text : ℕ → Cell → List ℕ
cell_text version (cell.Name name) = name.now
cell_text version (cell.Number n) = decimal n
cell_text version (cell.Time seconds) = time_text version seconds

-- the row of a line in a version of the rows
abbrev pub edit_row : ℕ → Edit → Row
edit_row version (edit.Put x) = word_text (word.Put (kind_of_item x)) ∷ item_fields version x
edit_row version (edit.Change x) = word_text (word.Change (kind_of_item x)) ∷ item_fields version x
edit_row version (edit.Drop k name) = word_text (word.Drop k) ∷ name ∷ []

abbrev pub row_in : ℕ → Line → Row
row_in version (line.Edit e) = edit_row version e
row_in version (line.Ask name) = word_text word.Ask ∷ name ∷ []
row_in version (line.Planner n) = word_text word.Planner ∷ decimal n ∷ []

-- all times can be written as times of day
abbrev pub are_clock_times : List ℕ → Bool
are_clock_times times = list_all (λ time. nat_le time GREATEST_CLOCK_S) times

-- every time of an item can be written as a time of day
abbrev pub has_clock_times : Item → Bool
has_clock_times (item.Run r) =
    nat_le r.start_s GREATEST_CLOCK_S && are_clock_times (sums r.start_s (leg_times r.legs))
has_clock_times (item.Section s) = nat_le s.from_s GREATEST_CLOCK_S && nat_le s.to_s GREATEST_CLOCK_S
has_clock_times x = true

-- every time of an item, and of a line, can be written in a version of the rows
abbrev pub has_item_times_in : ℕ → Item → Bool
has_item_times_in version x = if version == 2 then has_clock_times x else true

abbrev pub has_times_in : ℕ → Line → Bool
has_times_in version (line.Edit (edit.Put x)) = has_item_times_in version x
has_times_in version (line.Edit (edit.Change x)) = has_item_times_in version x
has_times_in version l = true

-- a row of some version spells the line
abbrev pub IsSpelled : Line → Type 0
IsSpelled l = (version : ℕ) × (row : Row) × (read_in version row ≡ Ok l)
