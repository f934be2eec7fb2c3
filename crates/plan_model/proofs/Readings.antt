-- A reading of a journal: the name of its section, and that its answer may be published.
use Rattle.std.proofs.Common.{◌≡◌, ℕ, cond, ◌≤◌, List, [], ◌∷◌, Option, None, Some, refl, sym, ap, ◌∙◌, arith}
use Rattle.std.specs.Prelude.{Bool, true, false, find, unwrap_or, option_map}
use Rattle.rail_model.specs.declared.items.Section.{Section}
use Rattle.rail_model.specs.declared.tables.Tables.{Tables}
use Rattle.rail_model.specs.Name.{is_same}
use Rattle.rail_model.proofs.NameOrder.{same_name}
use Rattle.plan_model.specs.declared.cut.Cut.{Cut}
use Rattle.plan_model.specs.declared.journal.Entry.{Entry}
use Rattle.plan_model.specs.Cut.{stamped, section_cut}
use Rattle.plan_model.specs.Reading.{Shown}
use Rattle.plan_model.specs.Journal.{opening, last_number, tables_at}
use Rattle.plan_model.specs.Legal.{cut_at, IsReading}
use Rattle.plan_model.specs.Outcome.{section_name, IsNextReading, IsAnswerOf, IsDone}
use Rattle.plan_model.specs.declared.answer.Done.{Done}
use Rattle.plan_model.specs.JournalLaws.{ReadingMayBePublished, DoneStays}
use Rattle.plan_model.proofs.Touching.{answer_longer}
use Rattle.plan_model.proofs.Unstamped.{answer_unstamped}

-- what is found by a name has it
found_name : (name : List ℕ) (sections : List Section) (s : Section)
    → find (λ s. is_same s.name name) sections ≡ Some s → s.name ≡ name
found_name name [] s h = absurd (cc)
found_name name (x ∷ xs) s h =
    let go : (b : Bool) → is_same x.name name ≡ b
    → cond b (Some x) (find (λ s. is_same s.name name) xs) ≡ Some s → s.name ≡ name =
    elim [
      | true ↦ λ same is. ap (λ o. (unwrap_or o x).name) (sym is) ∙ same_name x.name name same
      | false ↦ λ other is. found_name name xs s is
    ] in
    go _ refl h

cut_name : (tables : Tables) (name : List ℕ) (section : Option Section) (cut : Cut)
    → ((s : Section) → section ≡ Some s → s.name ≡ name)
    → option_map (section_cut tables) section ≡ Some (stamped 0 cut) → cut.section.name ≡ name
cut_name tables name None cut named is = absurd (cc)
cut_name tables name (Some s) cut named is =
    ap (λ o. (unwrap_or o cut).section.name) (sym is) ∙ named s refl

module _ (journal : List Entry) (name : List ℕ) (cut : Cut) (h : IsReading journal name cut) where
  -- a reading of a section has its name
  pub reading_name : cut.section.name ≡ name
  unfolding cut_at
  reading_name =
      let tables = tables_at journal (last_number journal) in
      cut_name tables name (find (λ s. is_same s.name name) tables.sections) cut (found_name name tables.sections) h.value

opens_before : (journal : List Entry) → (opening journal).at ≤ last_number journal
unfolding last_number
opens_before journal = omega arith

module _ (share of : ℕ) (journal : List Entry) (shown : Shown) (next : IsNextReading share of journal shown) where
  -- what is read next has the name of its section
  pub next_name : shown.cut.section.name ≡ section_name journal next.number
  next_name = reading_name journal _ shown.cut next.reading

  -- its answer may be published
  pub reading_done : (done : Done) → IsAnswerOf shown done → IsDone journal done
  reading_done done is =
      let name = is.section ∙ next_name in
      let number : done.at ≡ last_number journal = is.at ∙ next.at in
      rw (name, number)
      (record {
        from_opening = opens_before journal;
        to_last = omega arith;
        cut = stamped 0 shown.cut;
        there = next.reading.value;
        is_answer = answer_unstamped shown.cut done.answer is.answer;
      })

pub reading_may_be_published : ReadingMayBePublished
reading_may_be_published share of journal shown done next is = reading_done share of journal shown next done is

pub done_stays : DoneStays
done_stays journal more done some h = answer_longer journal more done.section done.at done.answer some h
