-- What calls add to the journal that they find: one entry of their own at most.
use Rattle.std.proofs.Common.{◌≡◌, ℕ, List, [], ◌∷◌, Result, Ok, Err, refl, sym, ◌∙◌}
use Rattle.std.proofs.lemmas.List.{append-nil}
use Rattle.std.proofs.lemmas.List.Elements.{All-cons, All-nil}
use Rattle.rail_model.specs.declared.edit.Edit.{Edit}
use Rattle.rail_model.specs.declared.edit.Rule.{Rule}
use Rattle.rail_model.specs.declared.memory.OutOfMemory.{OutOfMemory}
use Rattle.plan_model.specs.declared.answer.Done.{Done}
use Rattle.plan_model.specs.declared.journal.Act.{Act}
use Rattle.plan_model.specs.declared.journal.Entry.{Entry}
use Rattle.plan_model.specs.declared.outcome.Asked.{Asked}
use Rattle.plan_model.specs.declared.outcome.Stepped.{Stepped}
use Rattle.plan_model.specs.declared.outcome.Stepped.TheVariants as stepped
use Rattle.plan_model.specs.declared.outcome.Next.{Next}
use Rattle.plan_model.specs.declared.outcome.Next.TheVariants as next
use Rattle.plan_model.specs.declared.outcome.NotTaken.{NotTaken}
use Rattle.plan_model.specs.declared.outcome.NotTaken.TheVariants as not_taken
use Rattle.plan_model.specs.Reading.{Shown}
use Rattle.plan_model.specs.Call.{AddsOwn, Calls}
use Rattle.plan_model.specs.Outcome.{AddsEntry, EditsTo, AsksTo, StepsTo, ReadsTo, PublishesTo}
use Rattle.plan_model.specs.Board.{Access, IsCall, Gives}

pub entry_adds : (pass : ℕ) (a : Act) (found after : List Entry) → AddsEntry pass a found after → AddsOwn pass found after
entry_adds pass a found after h =
    let e : Entry = record { pass = pass; act = a } in
    record { own = e ∷ []; is = h.is; made = All-cons (λ e. e.pass ≡ pass) e [] refl (All-nil (λ e. e.pass ≡ pass)) }

pub none_adds : (pass : ℕ) (found after : List Entry) → after ≡ found → AddsOwn pass found after
none_adds pass found after h = record {
  own = [];
  is = h ∙ sym (append-nil found);
  made = All-nil (λ e. e.pass ≡ pass);
}

module _ (pass : ℕ) (found after : List Entry) where
  pub edit_adds : (planner : ℕ) (edit : Edit) (r : Result ℕ Rule) → EditsTo pass planner edit found r after → AddsOwn pass found after
  edit_adds planner edit (Ok at) h = entry_adds pass _ found after h
  edit_adds planner edit (Err rule) h = entry_adds pass _ found after h

  pub ask_adds : (planner : ℕ) (section : List ℕ) (a : Asked) → AsksTo pass planner section found a after → AddsOwn pass found after
  ask_adds planner section a h = entry_adds pass _ found after h.adds

  pub step_adds : (planner : ℕ) (s : Stepped) → StepsTo pass planner found s after → AddsOwn pass found after
  step_adds planner (stepped.Edited at) h = edit_adds planner h.edit (Ok at) h.edits
  step_adds planner (stepped.Refused rule) h = edit_adds planner h.edit (Err rule) h.edits
  step_adds planner (stepped.Asked a) h = ask_adds planner h.section a h.asks
  step_adds planner stepped.Ended h = none_adds pass found after h.1

  pub read_adds : {R : Type 0} (shown : R → Shown) (share of : ℕ) (n : Next R) → ReadsTo shown share of found n after → AddsOwn pass found after
  read_adds shown share of (next.Reading r) h = none_adds pass found after h.0
  read_adds shown share of (next.Idle left) h = none_adds pass found after h.0

  pub publish_adds : (done : Done) (r : Result (Unit {0}) NotTaken) → PublishesTo pass done found r after → AddsOwn pass found after
  publish_adds done (Ok u) h = entry_adds pass _ found after h
  publish_adds done (Err (not_taken.Stale by)) h = none_adds pass found after h.0
  publish_adds done (Err (not_taken.Current at)) h = none_adds pass found after h.0

  -- a call that finds no memory adds nothing
  pub gives_adds : {A : Type 0} (Does : List Entry → A → List Entry → Type 0) (r : Result A OutOfMemory)
      → ((a : A) → Does found a after → AddsOwn pass found after) → Gives Does r found after → AddsOwn pass found after
  gives_adds Does (Ok a) adds h = adds a h
  gives_adds Does (Err e) adds h = none_adds pass found after h

-- a call of a board that adds its own entries at most is a call by a pass
pub board_calls : (Does : List Entry → List Entry → Type 0) (old new : Access)
    → ((found after : List Entry) → Does found after → AddsOwn old.pass found after)
    → IsCall Does old new → Calls old.pass old.numbers old.seen new.seen
board_calls Does old new adds call = record {
  found = call.found;
  goes_on = call.goes_on;
  adds_own = adds call.found new.seen call.does;
}
