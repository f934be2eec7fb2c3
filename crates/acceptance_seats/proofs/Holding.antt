-- Answers that are held stay so while a book goes on.
use Rattle.std.proofs.Common.{◌≡◌, ℕ, suc, ◌<◌, List, [], ◌∷◌, ◌++◌, length, remove, Result, Ok, Err, sym, subst, arith}
use Rattle.std.specs.Prelude.{All}
use Rattle.rail_model.specs.declared.edit.Edit.{Edit}
use Rattle.rail_model.specs.declared.edit.Rule.{Rule}
use Rattle.plan_model.specs.declared.answer.Done.{Done}
use Rattle.plan_model.specs.declared.journal.Entry.{Entry}
use Rattle.plan_model.specs.declared.outcome.Asked.{Asked}
use Rattle.plan_model.specs.declared.outcome.NotTaken.{NotTaken}
use Rattle.plan_model.specs.declared.outcome.NotTaken.TheVariants as not_taken
use Rattle.plan_model.specs.Legal.{IsJournal}
use Rattle.plan_model.specs.Outcome.{EditsTo, AsksTo, PublishesTo}
use Rattle.plan_model.proofs.Readings.{done_stays}
use Rattle.acceptance_seats.specs.Held.{AreHeld}

-- a journal has an entry
some_entries : (journal : List Entry) → IsJournal journal → 0 < length journal
some_entries [] h = absurd h.legal
some_entries (e ∷ es) h = omega arith

-- what is left of a list without its first
pub held_rest : (P : Done → Type 0) (held : List Done) → All P held → All P (remove held 0)
held_rest P [] h = h
held_rest P (x ∷ xs) h = λ k d l. h (suc k) d (omega (arith, l))

module _ (journal : List Entry) (held : List Done) (is : IsJournal journal) (are : AreHeld journal held) where
  one_more : (e : Entry) (after : List Entry) → after ≡ journal ++ e ∷ [] → AreHeld after held
  one_more e after same =
      subst (λ j. AreHeld j held) (sym same) (λ k d l. done_stays journal (e ∷ []) _ (some_entries journal is) (are k d l))

  pub held_asked : (section : List ℕ) (a : Asked) (after : List Entry) → AsksTo 0 0 section journal a after → AreHeld after held
  held_asked section a after h = one_more _ after h.adds.is

  pub held_edited : (edit : Edit) (answer : Result ℕ Rule) (after : List Entry) → EditsTo 0 0 edit journal answer after → AreHeld after held
  held_edited edit (Ok at) after h = one_more _ after h.is
  held_edited edit (Err rule) after h = one_more _ after h.is

  pub held_published : (done : Done) (answer : Result (Unit {0}) NotTaken) (after : List Entry)
      → PublishesTo 0 done journal answer after → AreHeld after held
  held_published done (Ok u) after h = one_more _ after h.is
  held_published done (Err (not_taken.Stale by)) after h = subst (λ j. AreHeld j held) (sym h.0) are
  held_published done (Err (not_taken.Current at)) after h = subst (λ j. AreHeld j held) (sym h.0) are
