-- Calls on small journals, and what each answers.
use Rattle.std.proofs.Common.{◌≡◌, ℕ, List, [], ◌∷◌, ◌++◌, refl, lit<, Ok, Err, None, map}
use Rattle.std.specs.Prelude.{codes}
use Rattle.rail_model.specs.declared.edit.Kind.TheVariants as kind
use Rattle.rail_model.specs.declared.edit.Edit.{Edit}
use Rattle.rail_model.specs.declared.edit.Edit.TheVariants as edit
use Rattle.rail_model.specs.declared.edit.Rule.TheVariants.{InUse}
use Rattle.plan_model.specs.declared.answer.Done.{Done}
use Rattle.plan_model.specs.declared.scripts.Task.{Task}
use Rattle.plan_model.specs.declared.scripts.Task.TheVariants as task
use Rattle.plan_model.specs.declared.journal.Reply.TheVariants as reply
use Rattle.plan_model.specs.declared.journal.Act.TheVariants as act
use Rattle.plan_model.specs.declared.journal.Entry.{Entry}
use Rattle.plan_model.specs.declared.outcome.Asked.TheVariants as asked
use Rattle.plan_model.specs.declared.outcome.Stepped.TheVariants as stepped
use Rattle.plan_model.specs.declared.outcome.NotTaken.TheVariants as not_taken
use Rattle.plan_model.specs.Journal.{last_number, tables_at, tables_of, last_publication, issued, done_by, script}
use Rattle.plan_model.specs.Legal.{cut_at}
use Rattle.plan_model.specs.Disorder.{HaveOrder}
use Rattle.plan_model.specs.Outcome.{StepsTo, PublishesTo, next_task}
use Rattle.plan_model.proofs.Changing.{stays_at}
use Rattle.plan_model.proofs.Ordered.{order_is_none_remains}
use Rattle.plan_model.proofs.Examples.{two_trains, circling}
use Rattle.plan_model.proofs.JournalExamples.{s, at_8, at_9, move, asked_script, by_main, just_opened, first_at_8, moved_1, moved_2, moved_3, moved_4, moved_5, moved_entry_3, moved_entry_5}
use Rattle.plan_model.proofs.TouchExamples.{again, again_last_touching}

-- ---- scripts

abbrev two_scripts : List (List Task)
two_scripts = (task.Edit move ∷ []) ∷ (task.Ask s ∷ task.Edit move ∷ []) ∷ []

-- of planner 0, of both planners, and of one who isn't there
each_script : map (script two_scripts) (0 ∷ 1 ∷ 2 ∷ 3 ∷ [])
    ≡ [] ∷ (task.Edit move ∷ []) ∷ (task.Ask s ∷ task.Edit move ∷ []) ∷ [] ∷ []
each_script = refl

-- planner 0 has no next task
none_outside : next_task moved_1 0 ≡ None
unfolding done_by
none_outside = refl

-- ---- steps: the second train is moved, and the section asked for

step_1 : StepsTo 0 1 moved_2 (stepped.Edited 9) moved_3
unfolding done_by
step_1 = record { edit = move; next = refl; edits = record { next = moved_entry_3; is = refl } }

step_2 : StepsTo 0 1 moved_4 (stepped.Asked (asked.Ready 9 at_9)) moved_5
unfolding done_by last_publication
step_2 = record {
  section = s;
  next = refl;
  asks = record { adds = record { next = moved_entry_5; is = refl }; gives = refl };
}

step_3 : StepsTo 0 1 moved_5 stepped.Ended moved_5
unfolding done_by
step_3 = (refl, refl)

-- ---- steps that change nothing: a block that is in use is dropped, and a section that isn't there asked for

abbrev drop_a : Edit
drop_a = edit.Drop kind.Block (codes "A")

abbrev idle_1 : List Entry
idle_1 = just_opened ((task.Edit drop_a ∷ task.Ask (codes "X") ∷ []) ∷ [])

abbrev idle_2 : List Entry
idle_2 = idle_1 ++ by_main (act.Refused 1 InUse drop_a) ∷ []

abbrev idle_3 : List Entry
idle_3 = idle_2 ++ by_main (act.Asked 1 (codes "X") reply.Unknown) ∷ []

idle_step_1 : StepsTo 0 1 idle_1 (stepped.Refused InUse) idle_2
unfolding done_by tables_of issued
idle_step_1 = record {
  edit = drop_a;
  next = refl;
  edits = record { next = record { pass = lit< tt; follows = refl }; is = refl };
}

idle_step_2 : StepsTo 0 1 idle_2 (stepped.Asked asked.Unknown) idle_3
unfolding done_by last_number cut_at tables_at issued
idle_step_2 = record {
  section = codes "X";
  next = refl;
  asks = record {
    adds = record { next = record { pass = lit< tt; follows = refl }; is = refl };
    gives = tt;
  };
}

-- ---- publications of the answer that was read as the journal opened

abbrev read_at_8 : Done
read_at_8 = record { section = s; at = 8; answer = at_8 }

-- the first is made
published : PublishesTo 0 read_at_8 moved_1 (Ok tt) moved_2
published = record { next = first_at_8 asked_script; is = refl }

-- a second finds the section current, and adds nothing
published_twice : PublishesTo 0 read_at_8 moved_2 (Err (not_taken.Current 8)) moved_2
unfolding last_number last_publication
published_twice = (refl, (stays_at _ 8, record { published = (at_8, refl); untouched = stays_at _ 8 }))

-- one after a train was dropped and put again is too late, by the last of both edits
published_late : PublishesTo 0 read_at_8 again (Err (not_taken.Stale 10)) again
published_late = (refl, record { last = again_last_touching; later = lit< tt })

-- ---- order

two_trains_order : HaveOrder two_trains
two_trains_order = (order_is_none_remains two_trains).1 refl

no_order_in_a_ring : HaveOrder circling → ⊥
no_order_in_a_ring h =
    let three : List ℕ = 0 ∷ 1 ∷ 2 ∷ [] in
    let none : three ≡ [] = (order_is_none_remains circling).0 h in cc
