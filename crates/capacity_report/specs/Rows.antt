-- The rows of stairways, conflicts, headways and journals.
use Rattle.std.specs.Prelude.{ℕ, ℤ, List, ◌∷◌, map, codes, ◌-◌, [], ◌++◌, length, take, decimal, nat_lt, if◌then◌else◌, option_map}
use Rattle.std.specs.List.{flat_map, range_with_len, filter_map}
use Rattle.std.specs.Fmt.{signed_decimal}
use Rattle.rail_model.specs.declared.tables.Tables.{Tables}
use Rattle.rail_model.specs.declared.path.Path.{Path}
use Rattle.rail_model.specs.Blocking.{hop, hop_count, blocking_start, blocking_end, parts}
use Rattle.rail_model.specs.Tables.{block_name, path_in}
use Rattle.rail_model.specs.Conflict as whole
use Rattle.row_text.specs.SheetRows.{Row}
use Rattle.conflict_finder.specs.declared.found.Conflict.{Conflict}
use Rattle.conflict_finder.specs.declared.found.Conflicts.{Conflicts}
use Rattle.conflict_finder.specs.declared.found.TheConstants.{LISTED}
use Rattle.conflict_finder.specs.Found.{as_listed}
use Rattle.plan_model.specs.declared.limits.TheConstants.{MEMBERS}
use Rattle.plan_model.specs.declared.cut.Cut.{Cut}
use Rattle.plan_model.specs.Members.{member, members, member_count}
use Rattle.headway_table.specs.Table.{between}
use Rattle.capacity_report.specs.Answers.{crowded_row, answer_rows}
use Rattle.rail_model.specs.declared.edit.Edit.{Edit}
use Rattle.rail_model.specs.declared.edit.Rule.{Rule}
use Rattle.rail_model.specs.declared.edit.Rule.TheVariants as rule
use Rattle.plan_model.specs.declared.answer.Answer.{Answer}
use Rattle.plan_model.specs.declared.journal.Reply.{Reply}
use Rattle.plan_model.specs.declared.journal.Reply.TheVariants as reply
use Rattle.plan_model.specs.declared.journal.Act.{Act}
use Rattle.plan_model.specs.declared.journal.Act.TheVariants as act
use Rattle.plan_model.specs.declared.journal.Entry.{Entry}
use Rattle.row_text.specs.Lines.{edit_row}
use Rattle.capacity_report.specs.declared.answers.Detail.TheVariants as detail

-- use,RUN,BLOCK,START,END,FORM,WATCH,APPROACH,RUNNING,CLEARING,RELEASE: of the k-th block of a run's path
abbrev pub hop_row : Tables → Path → ℕ → Row
hop_row tables path k =
    codes "use" ∷ path.run ∷ block_name tables (hop path k).block
    ∷ map signed_decimal (blocking_start path k ∷ blocking_end path k ∷ parts path k)

-- a run's rows, one for each block in the order of its path
abbrev pub run_rows : Tables → Path → List Row
run_rows tables path = map (hop_row tables path) (range_with_len 1 (hop_count path))

-- the rows of all runs, in the order of their names
abbrev pub stairs_rows : Tables → List Row
stairs_rows tables = flat_map (λ run. run_rows tables (path_in tables run)) tables.runs

-- conflict,BLOCK,FIRST,SECOND,FROM,TO
abbrev pub conflict_row : Tables → Conflict → Row
conflict_row tables c =
    codes "conflict" ∷ block_name tables c.block ∷ c.first ∷ c.second ∷ signed_decimal c.from ∷ signed_decimal c.to ∷ []

-- conflicts,LISTED,MORE
abbrev pub count_row : ℕ → ℕ → Row
count_row listed more = codes "conflicts" ∷ decimal listed ∷ decimal more ∷ []

-- the rows of what was found: the conflicts that are listed, and the count
abbrev pub found_rows : Tables → Conflicts → List Row
found_rows tables found = map (conflict_row tables) found.list ++ count_row (length found.list) found.more ∷ []

-- of all conflicts, in their order, the rows of those that are listed, and the count
abbrev pub check_rows : Tables → List whole.Conflict → List Row
check_rows tables all =
    map (conflict_row tables) (map as_listed (take LISTED all))
    ++ count_row (length (take LISTED all)) (length all - LISTED) ∷ []

-- headway,FIRST,SECOND,SECONDS
abbrev pub headway_row : Cut → ℕ → ℕ → ℤ → Row
headway_row cut i j seconds =
    codes "headway" ∷ (member cut i).name ∷ (member cut j).name ∷ signed_decimal seconds ∷ []

-- the rows of the headways from one member to each other that shares a place with it
abbrev pub rows_from : Cut → ℕ → List Row
rows_from cut i = filter_map (λ j. option_map (headway_row cut i j) (between cut i j)) (members cut)

-- the rows of all headways of a cut, by the names of the first and then the second
abbrev pub headway_rows : Cut → List Row
headway_rows cut = flat_map (rows_from cut) (members cut)

-- what is written for a cut: of one with more members than are compressed, only how many they are
abbrev pub headways_or_count : Cut → List Row
headways_or_count cut =
    if nat_lt MEMBERS (member_count cut)
    then crowded_row cut.section.name (member_count cut) ∷ []
    else headway_rows cut

abbrev pub rule_text : Rule → List ℕ
rule_text rule.Range = codes "range"
rule_text rule.Twice = codes "twice"
rule_text rule.Unknown = codes "unknown"
rule_text rule.Limit = codes "limit"
rule_text rule.Count = codes "count"
rule_text rule.InUse = codes "in-use"

-- opened,AT,PLANNERS,SECTIONS
abbrev pub opened_row : ℕ → ℕ → ℕ → Row
opened_row at planners sections = codes "opened" ∷ decimal at ∷ decimal planners ∷ decimal sections ∷ []

-- entered,NUMBER
abbrev pub entered_row : ℕ → Row
entered_row number = codes "entered" ∷ decimal number ∷ []

-- edited,PLANNER,AT, and the row that spells the edit in version 1 of the rows
abbrev pub edited_row : ℕ → ℕ → Edit → Row
edited_row planner at edit = (codes "edited" ∷ decimal planner ∷ decimal at ∷ []) ++ edit_row 1 edit

-- rejected,PLANNER,RULE, and the row that spells the edit in version 1 of the rows
abbrev pub rejected_row : ℕ → Rule → Edit → Row
rejected_row planner why edit = (codes "rejected" ∷ decimal planner ∷ rule_text why ∷ []) ++ edit_row 1 edit

-- a reply: ready,AT; stale,AT,BY; not-yet; unknown
abbrev pub reply_fields : Reply → Row
reply_fields (reply.Ready at) = codes "ready" ∷ decimal at ∷ []
reply_fields (reply.Stale at by) = codes "stale" ∷ decimal at ∷ decimal by ∷ []
reply_fields reply.NotYet = codes "not-yet" ∷ []
reply_fields reply.Unknown = codes "unknown" ∷ []

-- asked,PLANNER,SECTION, and the reply
abbrev pub asked_row : ℕ → List ℕ → Reply → Row
asked_row planner section reply = (codes "asked" ∷ decimal planner ∷ section ∷ []) ++ reply_fields reply

-- published,SECTION,AT, and then the answer with its trains
abbrev pub published_row : List ℕ → ℕ → Row
published_row section at = codes "published" ∷ section ∷ decimal at ∷ []

abbrev pub published_rows : List ℕ → ℕ → Answer → List Row
published_rows section at answer = published_row section at ∷ answer_rows section answer detail.Trains

-- the rows of what an entry says; by which pass it was made is not written
abbrev pub act_rows : Act → List Row
act_rows (act.Opened tables at scripts) = opened_row at (length scripts) (length tables.sections) ∷ []
act_rows (act.Entered number) = entered_row number ∷ []
act_rows (act.Edited planner at edit) = edited_row planner at edit ∷ []
act_rows (act.Refused planner why edit) = rejected_row planner why edit ∷ []
act_rows (act.Asked planner section reply) = asked_row planner section reply ∷ []
act_rows (act.Published section at answer) = published_rows section at answer

abbrev pub rows_of_journal : List Entry → List Row
rows_of_journal journal = flat_map (λ e. act_rows e.act) journal
