-- What a call with the words `session W` has done where it ends with status 0.
use Rattle.std.proofs.Common.{◌≡◌, ℕ, zero, suc, List, [], ◌∷◌, length, if◌then◌else◌, ◌==◌, Some, None, Result, Ok, Err, MatchOption, refl, sym, ap, subst, codes, option_map}
use Rattle.std.proofs.lemmas.List.Elements.{All-weaker}
use Rattle.rail_model.specs.declared.tables.Tables.{Tables}
use Rattle.rail_outside.specs.InCall.{SourceInCall, SinkInCall, Gave, IsReadToEnd, IsWritten}
use Rattle.plan_model.specs.declared.answer.Answer.{Answer}
use Rattle.plan_model.specs.declared.scripts.Task.{Task}
use Rattle.plan_model.specs.declared.scripts.Task.TheVariants as task
use Rattle.plan_model.specs.declared.journal.Act.{Act}
use Rattle.plan_model.specs.declared.journal.Act.TheVariants as act
use Rattle.plan_model.specs.declared.journal.Entry.{Entry}
use Rattle.plan_model.specs.Journal.{task_of}
use Rattle.plan_model.specs.Session.{IsByPlanner, IsByWorker, IsMade, IsSession}
use Rattle.plan_book.specs.declared.book.TheConstants.{PLANNERS}
use Rattle.session_run.proofs.Turns.{doer}
use Rattle.capacity_cmd.specs.declared.command.Command.TheVariants as command
use Rattle.capacity_cmd.specs.declared.refusal.Refusal.{Refusal}
use Rattle.capacity_cmd.specs.declared.status.Status.TheVariants.{Done}
use Rattle.capacity_cmd.specs.Command.{command_of, workers_in}
use Rattle.capacity_cmd.specs.Outcome.{Writes}
use Rattle.capacity_cmd.specs.Input.{Content, content_of_input}
use Rattle.capacity_cmd.specs.Ends.{Ends, IsJournalWith, IsJournalText}
use Rattle.capacity_cmd.specs.Promise.{RejectsWords, RunsCommand, Answers}
use Rattle.capacity_cmd.specs.SessionCall.{IsSessionJournal, WritesJournal}

-- ---- who makes which entry

its_planner : (planners workers pass by planner : ℕ) (done t : Task) → IsByPlanner planners workers by pass
    → (if by == planner then Some done else None) ≡ Some t → IsByPlanner planners workers planner pass
its_planner planners workers pass by planner done t made is =
    subst (λ p. IsByPlanner planners workers p pass) (doer by planner done t is) made

module _ (planners workers pass : ℕ) where
  by_planner : (a : Act) → IsMade planners workers pass a → (planner : ℕ) (t : Task) → task_of planner a ≡ Some t
      → IsByPlanner planners workers planner pass
  by_planner (act.Opened tables at scripts) made planner t is = absurd made
  by_planner (act.Entered number) made planner t is = absurd made
  by_planner (act.Edited by at edit) made planner t is = its_planner planners workers pass by planner (task.Edit edit) t made is
  by_planner (act.Refused by rule edit) made planner t is = its_planner planners workers pass by planner (task.Edit edit) t made is
  by_planner (act.Asked by section reply) made planner t is = its_planner planners workers pass by planner (task.Ask section) t made is
  by_planner (act.Published section at answer) made planner t is = absurd (cc)

  by_worker : (a : Act) → IsMade planners workers pass a → (section : List ℕ) (at : ℕ) (answer : Answer)
      → a ≡ act.Published section at answer → IsByWorker planners workers pass
  by_worker a made section at answer is = subst (IsMade planners workers pass) is made

parts : (tables : Tables) (at : ℕ) (scripts : List (List Task)) (workers : ℕ) (journal : List Entry)
    → IsSession tables at scripts workers journal → IsSessionJournal tables at scripts workers journal
parts tables at scripts workers journal is = record {
  rest = is.rest;
  opens = is.is;
  legal = is.legal;
  tasks = is.done;
  by_planner = All-weaker _ _ (λ (e : Entry) made. by_planner (length scripts) workers e.pass e.act made) is.rest is.made;
  by_worker = All-weaker _ _ (λ (e : Entry) made. by_worker (length scripts) workers e.pass e.act made) is.rest is.made;
  current = is.current;
}

journal_parts : (tables : Tables) (at : ℕ) (scripts : List (List Task)) (workers : ℕ) (journal : List Entry)
    → IsJournalWith workers tables at scripts journal → IsSessionJournal tables at scripts workers journal
journal_parts tables at scripts zero journal is = parts tables at scripts 0 journal is.session
journal_parts tables at scripts (suc workers) journal is = parts tables at scripts (suc workers) journal is

-- ---- the call

module _ {S K : Type 0} (source : SourceInCall S) (sink : SinkInCall K) (workers : ℕ) where
  by_content : (input text : List ℕ) (said : Result Content Refusal) → content_of_input PLANNERS input ≡ said
      → Ends (command.Session workers) said (Writes text) → Gave source input → IsReadToEnd source → IsWritten sink text
      → WritesJournal workers source sink
  by_content input text (Err refusal) is ends gave end written = absurd (cc)
  by_content input text (Ok content) is ends gave end written =
      let same : text ≡ ends.0 = cc in
      record {
        input = input;
        gave = gave;
        to_end = end;
        content = content;
        says = is;
        journal = ends.1.0;
        is = journal_parts _ _ _ workers ends.1.0 ends.1.1;
        text = text;
        text_is = subst (IsJournalText ends.1.0) (sym same) ends.1.2;
        written = written;
      }

  runs_session : RunsCommand (command.Session workers) Done source sink → WritesJournal workers source sink
  runs_session runs =
      let done = runs.writes.done refl in
      by_content done.1.input done.0 _ refl done.1.on done.1.gave (runs.whole_input refl) done.2

  pub session_writes_journal : (word : List ℕ) → workers_in word ≡ Some workers
      → Answers (codes "session" ∷ word ∷ []) Done source sink → WritesJournal workers source sink
  session_writes_journal word asks answers =
      let spelled : command_of (codes "session" ∷ word ∷ []) ≡ Some (command.Session workers) = ap (option_map command.Session) asks in
      runs_session (subst (λ found. MatchOption found (RejectsWords Done source sink) (λ c. RunsCommand c Done source sink)) spelled answers)
