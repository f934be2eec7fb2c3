-- The answers that a legal journal publishes are those of sound cuts.
use Rattle.std.proofs.Common.{◌≡◌, ℕ, List, [], ◌∷◌, ◌++◌, Some, refl}
use Rattle.std.specs.Prelude.{find, All}
use Rattle.std.proofs.lemmas.List.Elements.{All-nil, All-cons}
use Rattle.rail_model.specs.declared.tables.Tables.{Tables}
use Rattle.rail_model.specs.Name.{is_same}
use Rattle.rail_model.specs.Rules.{IsSound}
use Rattle.plan_model.specs.declared.cut.Cut.{Cut}
use Rattle.plan_model.specs.declared.answer.Answer.{Answer}
use Rattle.plan_model.specs.declared.journal.Act.{Act}
use Rattle.plan_model.specs.declared.journal.Act.TheVariants as act
use Rattle.plan_model.specs.declared.journal.Entry.{Entry}
use Rattle.plan_model.specs.Cut.{IsSoundCut, cut_of}
use Rattle.plan_model.specs.Journal.{tables_at}
use Rattle.plan_model.specs.Legal.{cut_at, IsAnswerAt, MayFollow, AllFollow, Opens, IsLegal}
use Rattle.plan_model.proofs.Legality.{tables_are_sound, next_is_legal}
use Rattle.section_cut.proofs.SameValue.{sound_found}
use Rattle.capacity_report.specs.Answers.{IsAnswerOfSome}
use Rattle.capacity_report.specs.Published.{PublishesAnswer}

-- the cut of a section of sound tables is sound
module _ (tables : Tables) (sound : IsSound tables) (name : List ℕ) where
  sound_cut_of : (cut : Cut) → cut_of tables name ≡ Some cut → IsSoundCut cut
  sound_cut_of cut is = sound_found tables sound name cut (find (λ s. is_same s.name name) tables.sections) refl is

-- an answer that a legal journal may publish
answer_of_some : (journal : List Entry) (section : List ℕ) (at : ℕ) (a : Answer) → IsLegal journal
    → IsAnswerAt journal section at a → IsAnswerOfSome a
unfolding cut_at
answer_of_some journal section at a legal done = record {
  cut = done.cut;
  sound = sound_cut_of (tables_at journal at) ((tables_are_sound journal legal).each at) section done.cut done.there;
  is = done.is_answer;
}

-- by what an entry may do next
next_publishes : (journal : List Entry) (a : Act) → IsLegal journal → MayFollow journal a → PublishesAnswer a
next_publishes journal (act.Opened tables at scripts) legal h = tt
next_publishes journal (act.Entered number) legal h = tt
next_publishes journal (act.Edited planner at edit) legal h = tt
next_publishes journal (act.Refused planner rule edit) legal h = tt
next_publishes journal (act.Asked planner section reply) legal h = tt
next_publishes journal (act.Published section at answer) legal h = answer_of_some journal section at answer legal h.done

first_publishes : (a : Act) → Opens a → PublishesAnswer a
first_publishes (act.Opened tables at scripts) h = tt
first_publishes (act.Entered number) h = absurd h
first_publishes (act.Edited planner at edit) h = absurd h
first_publishes (act.Refused planner rule edit) h = absurd h
first_publishes (act.Asked planner section reply) h = absurd h
first_publishes (act.Published section at answer) h = absurd h

later_publish : (before later : List Entry) → IsLegal before → AllFollow before later
    → All (λ (e : Entry). PublishesAnswer e.act) later
later_publish before [] legal h = All-nil (λ (e : Entry). PublishesAnswer e.act)
later_publish before (e ∷ later) legal h =
    All-cons (λ (e : Entry). PublishesAnswer e.act) e later (next_publishes before e.act legal h.0.follows)
    (later_publish (before ++ e ∷ []) later (next_is_legal before e legal h.0) h.1)

-- and all entries of a legal journal
pub publish_answers : (journal : List Entry) → IsLegal journal → All (λ (e : Entry). PublishesAnswer e.act) journal
publish_answers [] h = absurd h
publish_answers (e ∷ later) h =
    All-cons (λ (e : Entry). PublishesAnswer e.act) e later (first_publishes e.act h.1)
    (later_publish (e ∷ []) later (h.0, h.1, tt) h.2)
