-- The definitions of journals, evaluated on the line of two blocks and two trains, with eight edits before it opens.
use Rattle.std.proofs.Common.{◌≡◌, ◌≢◌, ℕ, ◌<◌, List, [], ◌∷◌, ◌++◌, arith, refl, ap, lit≤, lit<}
use Rattle.std.specs.Prelude.{pos, codes, nat_abs, slice_index_or, drop, All, Option, Some, None}
use Rattle.std.specs.List.{AllByRecursion}
use Rattle.std.proofs.lemmas.List.Elements.{All-cons, All-nil}
use Rattle.rail_model.specs.declared.items.Run.{Run}
use Rattle.rail_model.specs.declared.items.Item.{Item}
use Rattle.rail_model.specs.declared.items.Item.TheVariants as item
use Rattle.rail_model.specs.declared.edit.Edit.{Edit}
use Rattle.rail_model.specs.declared.edit.Edit.TheVariants as edit
use Rattle.rail_model.specs.declared.tables.Tables.{Tables}
use Rattle.rail_model.specs.Rules.{no_tables, after, rule_of, AreSound, IsSound}
use Rattle.rail_model.proofs.Sound.{IsSound-after_put}
use Rattle.plan_model.specs.declared.cut.Cut.{Cut}
use Rattle.plan_model.specs.declared.answer.Tie.TheVariants.{Start, After}
use Rattle.plan_model.specs.declared.answer.Answer.{Answer}
use Rattle.plan_model.specs.declared.scripts.Task.{Task}
use Rattle.plan_model.specs.declared.scripts.Task.TheVariants as task
use Rattle.plan_model.specs.declared.journal.Reply.TheVariants as reply
use Rattle.plan_model.specs.declared.journal.Act.{Act}
use Rattle.plan_model.specs.declared.journal.Act.TheVariants as act
use Rattle.plan_model.specs.declared.journal.Entry.{Entry}
use Rattle.plan_model.specs.Answer.{IsAnswer}
use Rattle.plan_model.specs.Journal.{last_number, tables_at, tables_of, last_publication, issued, done_by, tasks_left}
use Rattle.plan_model.specs.Legal.{cut_at, Touches, IsCurrent, IsAnswerAt, IsNext, IsLegal}
use Rattle.plan_model.specs.Session.{IsByPlanner, IsMade, IsPublicationAt, AllAreCurrent, tasks_in_turn, GoesInTurn, IsSessionAlone}
use Rattle.plan_model.proofs.Changing.{stays_at}
use Rattle.plan_model.proofs.Touching.{touched_since}
use Rattle.plan_model.proofs.Examples.{compressed, block, signal, section, row, kept, plan, placed, line, t1, t2, two_trains, two_trains_answer}

-- what holds of each item of a list that is written out
pub each_of : {X : Type 0} (P : X → Type 0) (xs : List X) → AllByRecursion P xs → All P xs
each_of P [] h = All-nil P
each_of P (x ∷ xs) h = All-cons P x xs h.0 (each_of P xs h.1)

-- ---- the line's tables are sound: each item may be put after those before it

none_sound : {X : Type 0} (of_kind : X → Item) (name : X → List ℕ) (limit : ℕ) → AreSound no_tables of_kind name limit []
none_sound of_kind name limit = record {
  names = λ i j d lt l. absurd (omega arith);
  most = omega arith;
  each = λ k d l. absurd (omega arith);
}

nothing_sound : IsSound no_tables
nothing_sound = record {
  blocks = none_sound _ _ _;
  signals = none_sound _ _ _;
  routes = none_sound _ _ _;
  runs = none_sound _ _ _;
  sections = none_sound _ _ _;
  connections = none_sound _ _ _;
  apart = λ k d l. absurd (omega arith);
}

-- tables after puts that no rule refuses
put : (tables : Tables) (x : Item) → IsSound tables → rule_of tables (edit.Put x) ≡ None → IsSound (after tables (edit.Put x))
put tables x sound none = IsSound-after_put tables x sound none

abbrev pub s : List ℕ
s = codes "S"

abbrev pub two_runs : Tables
two_runs = line (t1 ∷ t2 ∷ []) []

pub two_runs_sound : IsSound two_runs
two_runs_sound =
    let a = put no_tables (item.Block (block (codes "A"))) nothing_sound refl in
    let b = put _ (item.Block (block (codes "B"))) a refl in
    let sa = put _ (item.Signal (signal (codes "SA") (codes "A") 1000)) b refl in
    let sb = put _ (item.Signal (signal (codes "SB") (codes "B") 1000)) sa refl in
    let r = put _ (item.Route (record { name = codes "R"; signals = codes "SA" ∷ codes "SB" ∷ [] })) sb refl in
    let one = put _ (item.Run t1) r refl in
    let two = put _ (item.Run t2) one refl in
    put _ (item.Section (section (codes "A" ∷ codes "B" ∷ []))) two refl

-- ---- a planned conflict: the second train is moved to the first, while its section is published before and after

-- the second train moved to the first
abbrev t2_at_100 : Run
t2_at_100 = record t2 { start_s = 100 }

abbrev pub move : Edit
move = edit.Change (item.Run t2_at_100)

abbrev pub asked_script : List (List Task)
asked_script = (task.Edit move ∷ task.Ask s ∷ []) ∷ []

abbrev pub at_8 : Answer
at_8 = plan (codes "A" ∷ codes "B" ∷ []) (placed (codes "T1") 85 0 Start ∷ placed (codes "T2") 385 150 (After 0 1) ∷ [])
    300 (Some 1) (Some 1)

abbrev pub at_9 : Answer
at_9 = plan (codes "A" ∷ codes "B" ∷ []) (placed (codes "T1") 85 0 Start ∷ placed (codes "T2") 85 150 (After 0 1) ∷ [])
    300 (Some 1) (Some 1)

abbrev pub by_main : Act → Entry
by_main a = record { pass = 0; act = a }

-- the journal, entry after entry
abbrev pub opened : Entry
opened = by_main (act.Opened two_runs 8 asked_script)

abbrev pub moved_1 : List Entry
moved_1 = opened ∷ []

abbrev pub moved_2 : List Entry
moved_2 = moved_1 ++ by_main (act.Published s 8 at_8) ∷ []

abbrev pub moved_3 : List Entry
moved_3 = moved_2 ++ by_main (act.Edited 1 9 move) ∷ []

abbrev pub moved_4 : List Entry
moved_4 = moved_3 ++ by_main (act.Published s 9 at_9) ∷ []

abbrev pub moved_5 : List Entry
moved_5 = moved_4 ++ by_main (act.Asked 1 s (reply.Ready 9)) ∷ []

abbrev pub together : Cut
together = record {
  section = section (codes "A" ∷ codes "B" ∷ []);
  connections = [];
  rows =
      row (codes "T1") (pos 85) (kept 0 85 171 ∷ kept 1 85 235 ∷ [])
      ∷ row (codes "T2") (pos 85) (kept 0 85 171 ∷ kept 1 85 235 ∷ [])
      ∷ [];
}

moved_last : last_number moved_5 ≡ 9
unfolding last_number
moved_last = refl

moved_tables : tables_of moved_5 ≡ line (t1 ∷ t2_at_100 ∷ []) []
unfolding tables_of
moved_tables = refl

moved_before : cut_at moved_5 s 8 ≡ Some two_trains
unfolding cut_at tables_at
moved_before = refl

moved_after : cut_at moved_5 s 9 ≡ Some together
unfolding cut_at tables_at
moved_after = refl

moved_published : last_publication moved_5 s ≡ Some (record { at = 9; answer = at_9 })
unfolding last_publication
moved_published = refl

moved_passes : issued moved_5 ≡ 1
unfolding issued
moved_passes = refl

moved_done : done_by moved_5 1 ≡ task.Edit move ∷ task.Ask s ∷ []
unfolding done_by
moved_done = refl

moved_left : tasks_left moved_2 ≡ 2
unfolding done_by
moved_left = refl

-- two values of which a number is told that is smaller in the first are not the same
pub apart : {X : Type 0} (f : X → ℕ) (a b : X) → f a < f b → a ≢ b
apart f a b lt e = let same : f a ≡ f b = ap f e in absurd (omega arith)

pub apart_back : {X : Type 0} (f : X → ℕ) (a b : X) → f b < f a → a ≢ b
apart_back f a b lt e = let same : f a ≡ f b = ap f e in absurd (omega arith)

-- the entry of the second train of a cut, if it has one
abbrev pub second_entry : Option Cut → ℕ
second_entry None = 0
second_entry (Some cut) = nat_abs (slice_index_or cut.rows 1 (row [] (pos 0) [])).entry

-- the move touches the section
pub moved_touches : Touches moved_3 s 9
unfolding cut_at tables_at
moved_touches = apart second_entry _ _ (lit< tt)

-- ---- each entry is a legal next one

-- the answer of the line as it opens may be published at once, whatever the scripts are
abbrev pub just_opened : List (List Task) → List Entry
just_opened scripts = by_main (act.Opened two_runs 8 scripts) ∷ []

pub answer_at_8 : (scripts : List (List Task)) → IsAnswerAt (just_opened scripts) s 8 at_8
unfolding cut_at tables_at last_number
answer_at_8 scripts = record {
  from_opening = lit≤ tt;
  to_last = lit≤ tt;
  cut = two_trains;
  there = refl;
  is_answer = two_trains_answer;
}

pub first_at_8 : (scripts : List (List Task)) → IsNext (just_opened scripts) (by_main (act.Published s 8 at_8))
unfolding last_number last_publication issued
first_at_8 scripts = record {
  pass = lit< tt;
  follows = record {
    done = answer_at_8 scripts;
    untouched = stays_at _ 8;
    wanted = λ current. let none : None ≡ Some current.publication = current.last in cc;
  };
}

pub moved_entry_3 : IsNext moved_2 (by_main (act.Edited 1 9 move))
unfolding last_number tables_of issued
moved_entry_3 = record { pass = lit< tt; follows = (refl, refl) }

pub together_answer : IsAnswer together at_9
together_answer = compressed together (pos 0 ∷ pos 150 ∷ []) (lit≤ tt) refl refl refl refl

moved_entry_4 : IsNext moved_3 (by_main (act.Published s 9 at_9))
unfolding last_number last_publication issued cut_at tables_at
moved_entry_4 = record {
  pass = lit< tt;
  follows = record {
    done = record {
      from_opening = lit≤ tt;
      to_last = lit≤ tt;
      cut = together;
      there = refl;
      is_answer = together_answer;
    };
    untouched = stays_at _ 9;
    wanted = touched_since moved_3 s (record { at = 8; answer = at_8 }) 9 refl (lit< tt) (lit≤ tt) moved_touches;
  };
}

pub moved_entry_5 : IsNext moved_4 (by_main (act.Asked 1 s (reply.Ready 9)))
unfolding last_number last_publication issued cut_at tables_at
moved_entry_5 = record { pass = lit< tt; follows = ((λ e. cc), record { published = (at_9, refl); untouched = stays_at _ 9 }) }

moved_legal : IsLegal moved_5
moved_legal = (refl, two_runs_sound, (first_at_8 asked_script, (moved_entry_3, (moved_entry_4, (moved_entry_5, tt)))))

-- ---- it is the journal of the session without workers

-- a section that was published at the last edit is current
pub published_now : (journal : List Entry) (at : ℕ) (answer : Answer)
    → last_publication journal s ≡ Some (record { at = at; answer = answer }) → at ≡ last_number journal
    → IsCurrent journal s
published_now journal at answer last now = record {
  publication = record { at = at; answer = answer };
  last = last;
  untouched = rw now (stays_at _ _);
}

pub s_current_2 : IsCurrent moved_2 s
unfolding last_number last_publication
s_current_2 = published_now moved_2 8 at_8 refl refl

s_current_4 : IsCurrent moved_4 s
unfolding last_number last_publication
s_current_4 = published_now moved_4 9 at_9 refl refl

s_current_5 : IsCurrent moved_5 s
unfolding last_number last_publication
s_current_5 = published_now moved_5 9 at_9 refl refl

pub all_current : (journal : List Entry) → (tables_of journal).sections ≡ section (codes "A" ∷ codes "B" ∷ []) ∷ []
    → IsCurrent journal s → AllAreCurrent journal
all_current journal is current = rw is (each_of (λ x. IsCurrent journal x.name) (section (codes "A" ∷ codes "B" ∷ []) ∷ []) (current, tt))

moved_in_turn : GoesInTurn moved_1 (tasks_in_turn asked_script) (drop 1 moved_5)
unfolding tables_of last_number
moved_in_turn = (
  by_main (act.Published s 8 at_8) ∷ [],
  by_main (act.Edited 1 9 move),
  drop 3 moved_5,
  refl,
  record {
    names = s ∷ [];
    count = refl;
    each = each_of (λ p. IsPublicationAt 8 p.0 p.1) ((s, by_main (act.Published s 8 at_8)) ∷ []) (record { answer = at_8; is = refl }, tt);
    rise = λ i j d lt l. absurd (omega arith);
    current = all_current moved_2 refl s_current_2;
  },
  refl,
  (
    by_main (act.Published s 9 at_9) ∷ [],
    by_main (act.Asked 1 s (reply.Ready 9)),
    [],
    refl,
    record {
      names = s ∷ [];
      count = refl;
      each = each_of (λ p. IsPublicationAt 9 p.0 p.1) ((s, by_main (act.Published s 9 at_9)) ∷ []) (record { answer = at_9; is = refl }, tt);
      rise = λ i j d lt l. absurd (omega arith);
      current = all_current moved_4 refl s_current_4;
    },
    refl,
    record {
      names = [];
      count = refl;
      each = All-nil (λ p. IsPublicationAt 9 p.0 p.1);
      rise = λ i j d lt l. absurd (omega arith);
      current = all_current moved_5 refl s_current_5;
    },
  ),
)

pub by_one : IsByPlanner 1 0 1 0
by_one = record { from_one = lit≤ tt; to_last = lit≤ tt; its_pass = refl }

moved_session : IsSessionAlone two_runs 8 asked_script moved_5
unfolding done_by tables_of
moved_session = record {
  session = record {
    rest = drop 1 moved_5;
    is = refl;
    legal = moved_legal;
    made = each_of (λ e. IsMade 1 0 e.pass e.act) (drop 1 moved_5) (refl, (by_one, (refl, (by_one, tt))));
    done = refl;
    current = all_current moved_5 refl s_current_5;
  };
  in_turn = moved_in_turn;
}
