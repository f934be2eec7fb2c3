-- Calls of a board issue no pass, so a pass with the numbers of all is alone.
use Rattle.std.proofs.Common.{◌≡◌, ℕ, ◌<◌, List, [], ◌∷◌, ◌++◌, length, Result, Ok, Err, refl, ap, ◌∙◌, arith, subst}
use Rattle.std.specs.Prelude.{All, Contains, false}
use Rattle.std.specs.List.{range_with_len}
use Rattle.std.proofs.lemmas.List.{append-nil}
use Rattle.std.proofs.lemmas.List.Elements.{All-head}
use Rattle.std.proofs.lemmas.List.FromFn.{length-range_with_len, get_or-range_with_len}
use Rattle.rail_model.specs.declared.edit.Edit.{Edit}
use Rattle.rail_model.specs.declared.edit.Rule.{Rule}
use Rattle.rail_model.specs.declared.memory.OutOfMemory.{OutOfMemory}
use Rattle.plan_model.specs.declared.answer.Done.{Done}
use Rattle.plan_model.specs.declared.journal.Act.{Act}
use Rattle.plan_model.specs.declared.journal.Entry.{Entry}
use Rattle.plan_model.specs.declared.outcome.Stepped.{Stepped}
use Rattle.plan_model.specs.declared.outcome.Stepped.TheVariants as stepped
use Rattle.plan_model.specs.declared.outcome.NotTaken.{NotTaken}
use Rattle.plan_model.specs.declared.outcome.NotTaken.TheVariants as not_taken
use Rattle.plan_model.specs.Board.{Gives}
use Rattle.plan_model.specs.Call.{IsOthers}
use Rattle.plan_model.specs.Journal.{issues, issued}
use Rattle.plan_model.specs.Legal.{IsLegal}
use Rattle.plan_model.specs.Outcome.{AddsEntry, EditsTo, StepsTo, PublishesTo}
use Rattle.plan_model.proofs.Growing.{issued-more}
use Rattle.plan_model.proofs.Legality.{each_is_next}
use Rattle.plan_book.specs.Alone.{NobodyElseAdds}

pub own_number : (n who : ℕ) → who < n → Contains (range_with_len 0 n) who
own_number n who is = (who, omega (arith, length-range_with_len 0 n, is), omega (arith, get_or-range_with_len 0 n who who is))

-- ---- one more entry

one_issued : (e : Entry) → issues e.act ≡ false → issued (e ∷ []) ≡ 1
unfolding issued
one_issued e none = rw none refl

pub entry_issues : (pass : ℕ) (a : Act) (found after : List Entry) → issues a ≡ false → AddsEntry pass a found after
    → issued after ≡ issued found
entry_issues pass a found after none h =
    let e : Entry = record { pass = pass; act = a } in
    omega (arith, ap issued h.is, issued-more found (e ∷ []), one_issued e none)

module _ (pass : ℕ) (found after : List Entry) where
  pub edit_issues : (planner : ℕ) (edit : Edit) (r : Result ℕ Rule) → EditsTo pass planner edit found r after
      → issued after ≡ issued found
  edit_issues planner edit (Ok at) h = entry_issues pass _ found after refl h
  edit_issues planner edit (Err rule) h = entry_issues pass _ found after refl h

  pub step_issues : (planner : ℕ) (s : Stepped) → StepsTo pass planner found s after → issued after ≡ issued found
  step_issues planner (stepped.Edited at) h = edit_issues planner h.edit (Ok at) h.edits
  step_issues planner (stepped.Refused rule) h = edit_issues planner h.edit (Err rule) h.edits
  step_issues planner (stepped.Asked a) h = entry_issues pass _ found after refl h.asks.adds
  step_issues planner stepped.Ended h = ap issued h.1

  pub publish_issues : (done : Done) (r : Result (Unit {0}) NotTaken) → PublishesTo pass done found r after
      → issued after ≡ issued found
  publish_issues done (Ok u) h = entry_issues pass _ found after refl h
  publish_issues done (Err (not_taken.Stale by)) h = ap issued h.0
  publish_issues done (Err (not_taken.Current at)) h = ap issued h.0

-- a call that finds no memory issues none
pub gives_issues : {A : Type 0} (Does : List Entry → A → List Entry → Type 0) (r : Result A OutOfMemory)
    (found after : List Entry) → ((a : A) → Does found a after → issued after ≡ issued found)
    → Gives Does r found after → issued after ≡ issued found
gives_issues Does (Ok a) found after each h = each a h
gives_issues Does (Err e) found after each h = ap issued h

-- ---- alone

-- a next entry carries an issued pass, so none is of others
no_others : (seen more found : List Entry) → 0 < length seen → found ≡ seen ++ more
    → IsLegal found
    → All (IsOthers (range_with_len 0 (issued seen))) more → found ≡ seen
no_others seen [] found some is legal others = is ∙ append-nil seen
no_others seen (e ∷ more) found some is legal others =
    let next = each_is_next seen e more some (subst IsLegal is legal) in
    absurd (All-head (IsOthers (range_with_len 0 (issued seen))) e more others (own_number (issued seen) e.pass next.pass))

pub nobody_else_adds : NobodyElseAdds
nobody_else_adds seen found who readings handed some g h = no_others seen g.more found some g.is h.legal g.others
