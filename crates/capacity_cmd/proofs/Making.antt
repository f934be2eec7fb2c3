-- Rows that are read one after the other give what the whole input says.
use Rattle.std.proofs.Common.{◌≡◌, ℕ, zero, suc, ◌+◌, ◌<◌, ◌≤◌, Bool, true, false, if◌then◌else◌, nat_lt, List, [], ◌∷◌, ◌++◌, get_or, drop, length, Option, Some, None, Result, Ok, Err, refl, sym, ap, ◌∙◌, subst, arith, length-append}
use Rattle.std.specs.Prelude.{option_map, sum_by, IfOk}
use Rattle.std.proofs.lemmas.Bool.{and_parts, ltb-true, ltb-false, lt-ltb}
use Rattle.std.proofs.lemmas.List.{drop_all, drop_more, length-set}
use Rattle.std.proofs.lemmas.List.Sums.{fold-append}
use Rattle.rail_model.specs.declared.edit.Edit.{Edit}
use Rattle.rail_model.specs.declared.edit.Rule.{Rule}
use Rattle.rail_model.specs.declared.form.Form.{Form}
use Rattle.rail_model.specs.declared.tables.Tables.{Tables}
use Rattle.rail_model.specs.Rules.{no_tables, after, Refused, after_edits, first_refused, rule_of}
use Rattle.rail_model.proofs.Edited.{at_place, accepted_more, refused_still}
use Rattle.row_text.specs.declared.line.Line.{Line}
use Rattle.row_text.specs.declared.line.Line.TheVariants as line
use Rattle.row_text.specs.SheetRows.{Row}
use Rattle.row_text.specs.Lines.{read_in, ◌>>=◌, first_line}
use Rattle.plan_model.specs.declared.scripts.Task.{Task}
use Rattle.plan_model.specs.declared.scripts.Task.TheVariants as task
use Rattle.plan_model.specs.Journal.{with_task}
use Rattle.plan_book.specs.declared.book.TheConstants.{TASKS}
use Rattle.capacity_cmd.specs.declared.status.Cause.{Cause}
use Rattle.capacity_cmd.specs.declared.status.Cause.TheVariants as cause
use Rattle.capacity_cmd.specs.declared.refusal.Refusal.{Refusal}
use Rattle.capacity_cmd.specs.declared.accepted.Accepted.{Accepted}
use Rattle.capacity_cmd.specs.declared.input.BaseSoFar.{BaseSoFar}
use Rattle.capacity_cmd.specs.declared.input.InputSoFar.{InputSoFar}
use Rattle.capacity_cmd.specs.Input.{Content, Spelling, nothing, takes_planner, takes_task, where_it_stands, with_one_task, with_line, refused, unless_refused, tables_from, content_in}
use Rattle.capacity_cmd.specs.declared.stopped.Stopped.{Stopped}
use Rattle.capacity_cmd.specs.Stopped.{Gives}
use Rattle.capacity_cmd.specs.InputSoFar.{accepted_in, IsWithin, or_refused, tables_so_far, by_rule, after_one_more, TakesIf, IsNothing, Holds, accepted_so_far, TakesLine, TakesRow, TakesAll, said_by, goes_on, HasTaken}

-- ---- one edit more

ruled : (first count : ℕ) (tables : Tables) (rule : Option Rule)
    → unless_refused first tables (option_map (at_place count) rule) ≡ by_rule (first + count) tables rule
ruled first count tables None = refl
ruled first count tables (Some rule) = refl

whole : (base : List Edit) (e : Edit) → after_edits no_tables (base ++ e ∷ []) ≡ after (after_edits no_tables base) e
whole base e = fold-append after no_tables base (e ∷ [])

by_refused : (first : ℕ) (base : List Edit) (e : Edit) (found : Option Refused) → first_refused no_tables base ≡ found
    → tables_from first (base ++ e ∷ [])
    ≡ after_one_more (first + length base) (unless_refused first (after_edits no_tables base) found) e
by_refused first base e None accepted =
    ap (unless_refused first (after_edits no_tables (base ++ e ∷ []))) (accepted_more no_tables base e accepted)
    ∙ ap (λ tables. unless_refused first tables (option_map (at_place (length base)) (rule_of (after_edits no_tables base) e))) (whole base e)
    ∙ ruled first (length base) (after (after_edits no_tables base) e) (rule_of (after_edits no_tables base) e)
by_refused first base e (Some r) is =
    ap (unless_refused first (after_edits no_tables (base ++ e ∷ []))) (refused_still no_tables base (e ∷ []) r is)

one_more : (first : ℕ) (base : List Edit) (e : Edit)
    → tables_from first (base ++ e ∷ []) ≡ after_one_more (first + length base) (tables_from first base) e
one_more first base e = by_refused first base e (first_refused no_tables base) refl

-- ---- one line

stood : (stands : Bool) (more : Spelling) → stands ≡ true → where_it_stands stands more ≡ Ok more
stood true more is = refl
stood false more is = absurd (cc)

stood_not : (stands : Bool) (more : Spelling) (why : Cause) → stands ≡ false → why ≡ cause.Script → where_it_stands stands more ≡ Err why
stood_not true more why not is = absurd (cc)
stood_not false more why not is = ap Err (sym is)

-- a planner's row
pub planner_taken : (planners row planner : ℕ) (made : InputSoFar) (scripts : List (List Task)) (taken : Option Cause)
    → TakesIf (takes_planner planners made.scripts planner) (made.scripts ++ [] ∷ []) scripts taken
    → TakesLine planners row (line.Planner planner) made (record made { scripts = scripts }) taken
planner_taken planners row planner made scripts None h = λ first s holds at. (
  record s { scripts = s.scripts ++ [] ∷ [] },
  stood (takes_planner planners s.scripts planner) (record s { scripts = s.scripts ++ [] ∷ [] })
      (subst (λ (all : List (List Task)). takes_planner planners all planner ≡ true) holds.scripts h.0),
  record {
    tables = holds.tables;
    edits = holds.edits;
    scripts = h.1 ∙ ap (λ (all : List (List Task)). all ++ [] ∷ []) holds.scripts;
  },
)
planner_taken planners row planner made scripts (Some why) h = λ first s holds.
    stood_not (takes_planner planners s.scripts planner) (record s { scripts = s.scripts ++ [] ∷ [] }) why
    (subst (λ (all : List (List Task)). takes_planner planners all planner ≡ false) holds.scripts h.0) h.1

-- a task
abbrev TaskTaken : InputSoFar → Task → List (List Task) → Option Cause → Type 0
TaskTaken made t scripts None =
    (first : ℕ) (s : Spelling) → Holds first s made
    → (next : Spelling) × (with_one_task s t ≡ Ok next) × Holds first next (record made { scripts = scripts })
TaskTaken made t scripts (Some why) = (first : ℕ) (s : Spelling) → Holds first s made → with_one_task s t ≡ Err why

task_taken : (made : InputSoFar) (t : Task) (scripts : List (List Task)) (taken : Option Cause)
    → TakesIf (takes_task made.scripts) (with_task made.scripts t) scripts taken → TaskTaken made t scripts taken
task_taken made t scripts None h = λ first s holds. (
  record s { scripts = with_task s.scripts t },
  stood (takes_task s.scripts) (record s { scripts = with_task s.scripts t })
      (subst (λ (all : List (List Task)). takes_task all ≡ true) holds.scripts h.0),
  record {
    tables = holds.tables;
    edits = holds.edits;
    scripts = h.1 ∙ ap (λ (all : List (List Task)). with_task all t) holds.scripts;
  },
)
task_taken made t scripts (Some why) h = λ first s holds.
    stood_not (takes_task s.scripts) (record s { scripts = with_task s.scripts t }) why
    (subst (λ (all : List (List Task)). takes_task all ≡ false) holds.scripts h.0) h.1

pub ask_taken : (planners row : ℕ) (section : List ℕ) (made : InputSoFar) (scripts : List (List Task)) (taken : Option Cause)
    → TakesIf (takes_task made.scripts) (with_task made.scripts (task.Ask section)) scripts taken
    → TakesLine planners row (line.Ask section) made (record made { scripts = scripts }) taken
ask_taken planners row section made scripts None h = λ first s holds at. task_taken made (task.Ask section) scripts None h first s holds
ask_taken planners row section made scripts (Some why) h = task_taken made (task.Ask section) scripts (Some why) h

-- an edit in a script
where_true : (b : Bool) (x y : Result Spelling Cause) → b ≡ true → (if b then x else y) ≡ x
where_true true x y is = refl
where_true false x y is = absurd (cc)

pub some_scripts : (b : Bool) (n : ℕ) → b ≡ false → (n ≡ 0 → b ≡ true) → 0 < n
some_scripts b zero fails holds = absurd (let is : true ≡ false = sym (holds refl) ∙ fails in cc)
some_scripts b (suc n) fails holds = omega arith

in_script : (made : InputSoFar) (first : ℕ) (s : Spelling) → Holds first s made → 0 < length made.scripts
    → nat_lt 0 (length s.scripts) ≡ true
in_script made first s holds some = lt-ltb 0 (length s.scripts) (omega (arith, some, ap length holds.scripts))

pub edit_taken : (planners row : ℕ) (e : Edit) (made : InputSoFar) (scripts : List (List Task)) (taken : Option Cause)
    → 0 < length made.scripts → TakesIf (takes_task made.scripts) (with_task made.scripts (task.Edit e)) scripts taken
    → TakesLine planners row (line.Edit e) made (record made { scripts = scripts }) taken
edit_taken planners row e made scripts None some h = λ first s holds at.
    let next = task_taken made (task.Edit e) scripts None h first s holds in
    (next.0, where_true _ _ _ (in_script made first s holds some) ∙ next.1, next.2)
edit_taken planners row e made scripts (Some why) some h = λ first s holds.
    where_true _ _ _ (in_script made first s holds some) ∙ task_taken made (task.Edit e) scripts (Some why) h first s holds

-- a base edit
pub base_taken : (planners row : ℕ) (e : Edit) (made : InputSoFar) (base : BaseSoFar) → length made.scripts ≡ 0
    → tables_so_far base ≡ after_one_more row (tables_so_far made.base) e → base.edits ≡ made.base.edits + 1
    → TakesLine planners row (line.Edit e) made (record made { base = base }) None
base_taken planners row e made base none tables edits = λ first s holds at.
    let empty : length s.scripts ≡ 0 = ap length (sym holds.scripts) ∙ none in
    let number : first + length s.base ≡ row = at empty in
    let more = record s { base = s.base ++ e ∷ [] } in (
      more,
      rw empty refl,
      record {
        tables = tables ∙ rw (holds.tables, ← number) (sym (one_more first s.base e));
        edits = edits ∙ rw holds.edits (sym (length-append s.base (e ∷ [])));
        scripts = holds.scripts;
      },
    )

-- the same of a row that spells such an edit
pub base_row_taken : (planners row : ℕ) (read : Result Line Form) (e : Edit) (made : InputSoFar) (base : BaseSoFar) → read ≡ Ok (line.Edit e)
    → length made.scripts ≡ 0 → tables_so_far base ≡ after_one_more row (tables_so_far made.base) e → base.edits ≡ made.base.edits + 1
    → TakesRow planners row read made (record made { base = base }) None
base_row_taken planners row read e made base is none tables edits =
    subst (λ r. TakesRow planners row r made (record made { base = base }) None) (sym is)
    (base_taken planners row e made base none tables edits)

-- a row that can't be read
pub faulty_row_taken : (planners row : ℕ) (read : Result Line Form) (form : Form) (made : InputSoFar) → read ≡ Err form
    → TakesRow planners row read made made (Some (cause.Form form))
faulty_row_taken planners row read form made is = subst (λ r. TakesRow planners row r made made (Some (cause.Form form))) (sym is) refl

-- a row that spells a line is taken as the line is
pub spelled_row_taken : {E : Type 0} (planners row : ℕ) (read spelled : Result Line Form) (made more : InputSoFar) (told : Result (Option Cause) E)
    → read ≡ spelled → IfOk told (TakesRow planners row spelled made more) → IfOk told (TakesRow planners row read made more)
spelled_row_taken planners row read spelled made more told is = subst (λ r. IfOk told (TakesRow planners row r made more)) (sym is)

-- ---- how far a spelling grows by one line

record Grows (planners : ℕ) (s next : Spelling) : Type 0 where
  few : length next.base ≤ length s.base + 1
  count : length next.scripts ≡ 0 → (length s.scripts ≡ 0) × (length next.base ≡ length s.base + 1)
  scripts : length s.scripts ≤ planners → length next.scripts ≤ planners

task_count : (scripts : List (List Task)) (t : Task) → length (with_task scripts t) ≡ length scripts
task_count scripts t = length-set scripts _ _

grows_by_task : (planners : ℕ) (s : Spelling) (t : Task) (next : Spelling) (stands : Bool) → takes_task s.scripts ≡ stands
    → where_it_stands stands (record s { scripts = with_task s.scripts t }) ≡ Ok next → Grows planners s next
grows_by_task planners s t next true stands is =
    let same : record s { scripts = with_task s.scripts t } ≡ next = cc in
    let some : 0 < length s.scripts = ltb-true 0 (length s.scripts) (and_parts _ _ stands).0 in
    let count = task_count s.scripts t in
    subst (Grows planners s) same (record {
      few = omega arith;
      count = λ none. absurd (omega (arith, some, count, none));
      scripts = λ most. omega (arith, most, count);
    })
grows_by_task planners s t next false stands is = absurd (cc)

grows_by_planner : (planners planner : ℕ) (s next : Spelling) (stands : Bool) → takes_planner planners s.scripts planner ≡ stands
    → where_it_stands stands (record s { scripts = s.scripts ++ [] ∷ [] }) ≡ Ok next → Grows planners s next
grows_by_planner planners planner s next true stands is =
    let same : record s { scripts = s.scripts ++ [] ∷ [] } ≡ next = cc in
    let more : length s.scripts < planners = ltb-true (length s.scripts) planners (and_parts _ _ stands).0 in
    let count = length-append s.scripts ([] ∷ []) in
    subst (Grows planners s) same (record {
      few = omega arith;
      count = λ none. absurd (omega (arith, count, none));
      scripts = λ most. omega (arith, more, count);
    })
grows_by_planner planners planner s next false stands is = absurd (cc)

grows_by_edit : (planners : ℕ) (s : Spelling) (e : Edit) (next : Spelling) (some : Bool) → nat_lt 0 (length s.scripts) ≡ some
    → (if some then with_one_task s (task.Edit e) else Ok (record s { base = s.base ++ e ∷ [] })) ≡ Ok next
    → Grows planners s next
grows_by_edit planners s e next false none is =
    let no_script : length s.scripts ≡ 0 = omega (arith, ltb-false 0 (length s.scripts) none) in
    let same : record s { base = s.base ++ e ∷ [] } ≡ next = cc in
    let count = length-append s.base (e ∷ []) in
    subst (Grows planners s) same (record {
      few = omega (arith, count);
      count = λ empty. (no_script, omega (arith, count));
      scripts = λ most. most;
    })
grows_by_edit planners s e next true some is = grows_by_task planners s (task.Edit e) next (takes_task s.scripts) refl is

grows : (planners : ℕ) (s : Spelling) (l : Line) (next : Spelling) → with_line planners s l ≡ Ok next → Grows planners s next
grows planners s (line.Planner planner) next is = grows_by_planner planners planner s next (takes_planner planners s.scripts planner) refl is
grows planners s (line.Ask section) next is = grows_by_task planners s (task.Ask section) next (takes_task s.scripts) refl is
grows planners s (line.Edit e) next is = grows_by_edit planners s e next (nat_lt 0 (length s.scripts)) refl is

-- ---- the rows that are left

goes_on-line : (planners version first number : ℕ) (s : Spelling) (row : Row) (rows : List Row) (l : Line) (next : Spelling)
    → read_in version row ≡ Ok l → with_line planners s l ≡ Ok next
    → goes_on planners version first number s (row ∷ rows) ≡ goes_on planners version first (number + 1) next rows
unfolding goes_on
goes_on-line planners version first number s row rows l next read is = rw (read, is) refl

goes_on-form : (planners version first number : ℕ) (s : Spelling) (row : Row) (rows : List Row) (fault : Form)
    → read_in version row ≡ Err fault
    → goes_on planners version first number s (row ∷ rows) ≡ refused number (cause.Form fault)
unfolding goes_on said_by
goes_on-form planners version first number s row rows fault read = rw read refl

goes_on-place : (planners version first number : ℕ) (s : Spelling) (row : Row) (rows : List Row) (l : Line) (why : Cause)
    → read_in version row ≡ Ok l → with_line planners s l ≡ Err why
    → goes_on planners version first number s (row ∷ rows) ≡ refused number why
unfolding goes_on said_by
goes_on-place planners version first number s row rows l why read is = rw (read, is) refl

-- ---- the rows so far

pub taken_none : (planners version : ℕ) (rows : List Row) (made : InputSoFar) → IsNothing made
    → HasTaken planners version rows made (first_line rows)
unfolding goes_on said_by
taken_none planners version rows made none = record {
  spelling = nothing;
  holds = record { tables = none.tables; edits = none.edits; scripts = no_items made.scripts none.scripts };
  few = omega arith;
  edits = omega arith;
  count = λ empty. omega arith;
  scripts = omega arith;
  rest = refl;
}
  where
    no_items : (scripts : List (List Task)) → length scripts ≡ 0 → scripts ≡ []
    no_items [] is = refl
    no_items (s ∷ scripts) is = absurd (omega (arith, is))

-- how many edits a made base counts
pub few_edits : (planners version i : ℕ) (rows : List Row) (made : InputSoFar) → HasTaken planners version rows made i → made.base.edits ≤ i
few_edits planners version i rows made so_far = omega (arith, so_far.holds.edits, so_far.few)

taken_line : (planners version i : ℕ) (rows : List Row) (made more : InputSoFar) (l : Line) → i < length rows
    → HasTaken planners version rows made i → read_in version (get_or rows i []) ≡ Ok l
    → TakesLine planners (i + 1) l made more None → HasTaken planners version rows more (i + 1)
taken_line planners version i rows made more l there so_far read takes =
    let first = first_line rows + 1 in
    let s = so_far.spelling in
    let next = takes first s so_far.holds (λ empty. omega (arith, so_far.count empty)) in
    let grown = grows planners s l next.0 next.1 in
    record {
      spelling = next.0;
      holds = next.2;
      few = omega (arith, grown.few, so_far.few);
      edits = omega (arith, grown.few, so_far.few, there);
      count = λ empty. let was = grown.count empty in omega (arith, was.1, so_far.count was.0);
      scripts = grown.scripts so_far.scripts;
      rest = so_far.rest ∙ ap (goes_on planners version first (i + 1) s) (drop_more rows i [] there)
          ∙ goes_on-line planners version first (i + 1) s (get_or rows i []) (drop (i + 1) rows) l next.0 read next.1;
    }

pub taken_more : (planners version i : ℕ) (rows : List Row) (made more : InputSoFar) (found : Result Line Form) → i < length rows
    → HasTaken planners version rows made i → read_in version (get_or rows i []) ≡ found
    → TakesRow planners (i + 1) found made more None → HasTaken planners version rows more (i + 1)
taken_more planners version i rows made more (Ok l) there so_far read takes = taken_line planners version i rows made more l there so_far read takes
taken_more planners version i rows made more (Err fault) there so_far read takes = absurd takes

pub not_taken : (planners version i : ℕ) (rows : List Row) (made more : InputSoFar) (found : Result Line Form) (why : Cause)
    → i < length rows → HasTaken planners version rows made i → read_in version (get_or rows i []) ≡ found
    → TakesRow planners (i + 1) found made more (Some why)
    → content_in planners (Ok version) rows ≡ refused (i + 1) why
not_taken planners version i rows made more (Ok l) why there so_far read takes =
    let first = first_line rows + 1 in
    so_far.rest ∙ ap (goes_on planners version first (i + 1) so_far.spelling) (drop_more rows i [] there)
    ∙ goes_on-place planners version first (i + 1) so_far.spelling (get_or rows i []) (drop (i + 1) rows) l why read
    (takes first so_far.spelling so_far.holds)
not_taken planners version i rows made more (Err fault) why there so_far read takes =
    let first = first_line rows + 1 in
    so_far.rest ∙ ap (goes_on planners version first (i + 1) so_far.spelling) (drop_more rows i [] there)
    ∙ goes_on-form planners version first (i + 1) so_far.spelling (get_or rows i []) (drop (i + 1) rows) fault read
    ∙ ap (refused (i + 1)) (sym takes)

-- what is given in the end
given : (first : ℕ) (s : Spelling) (made : InputSoFar) (refusal : Option Refusal) → made.base.refused ≡ refusal
    → Holds first s made
    → accepted_in (tables_from first s.base >>= λ tables. Ok (record { spelling = s; tables = tables })) ≡ accepted_so_far made
given first s made None is holds =
    let tables : tables_from first s.base ≡ Ok made.base.tables = sym holds.tables ∙ rw is refl in
    rw (tables, is, holds.edits, holds.scripts) refl
given first s made (Some refusal) is holds =
    let tables : tables_from first s.base ≡ Err refusal = sym holds.tables ∙ rw is refl in
    rw (tables, is) refl

given_within : (planners rows : ℕ) (made given : Accepted) (refusal : Option Refusal) → or_refused refusal made ≡ Ok given
    → length made.scripts ≤ planners → made.at ≤ rows → sum_by length given.scripts ≤ TASKS → IsWithin planners rows given
given_within planners rows made given None is few edits tasks =
    let same : made ≡ given = cc in
    record {
      scripts = subst (λ (g : Accepted). length g.scripts ≤ planners) same few;
      tasks = tasks;
      edits = subst (λ (g : Accepted). g.at ≤ rows) same edits;
    }
given_within planners rows made given (Some refusal) is few edits tasks = absurd (cc)

pub all_within : (planners rows : ℕ) (made : InputSoFar) (result : Result Accepted (Stopped Refusal)) → Gives (accepted_so_far made) result
    → length made.scripts ≤ planners → made.base.edits ≤ rows → IfOk result (λ given. sum_by length given.scripts ≤ TASKS)
    → IfOk result (IsWithin planners rows)
all_within planners rows made (Ok given) is few edits tasks =
    given_within planners rows (record { tables = made.base.tables; at = made.base.edits; scripts = made.scripts }) given
    made.base.refused is few edits tasks
all_within planners rows made (Err why) is few edits tasks = tt

pub all_given : (whole : Result Content Refusal) (made : InputSoFar) (result : Result Accepted (Stopped Refusal))
    → accepted_in whole ≡ accepted_so_far made → Gives (accepted_so_far made) result → Gives (accepted_in whole) result
all_given whole made result is gives = subst (λ (all : Result Accepted Refusal). Gives all result) (sym is) gives

pub taken_all : (planners version i : ℕ) (rows : List Row) (made : InputSoFar) → length rows ≤ i
    → HasTaken planners version rows made i
    → TakesAll planners (length rows) (content_in planners (Ok version) rows) made
unfolding goes_on said_by
taken_all planners version i rows made end so_far =
    let first = first_line rows + 1 in
    let s = so_far.spelling in
    record {
      is = ap accepted_in (so_far.rest ∙ ap (goes_on planners version first (i + 1) s) (drop_all i rows (omega arith)))
          ∙ given first s made made.base.refused refl so_far.holds;
      scripts = omega (arith, so_far.scripts, ap length so_far.holds.scripts);
      edits = omega (arith, so_far.holds.edits, so_far.edits);
    }
