-- Sections that are there have shelves with cuts.
use Rattle.std.proofs.Common.{◌≡◌, ℕ, ◌<◌, List, length, Some, None, sym, ap, ◌∙◌}
use Rattle.std.specs.Prelude.{option_map}
use Rattle.rail_model.specs.declared.items.Section.{Section}
use Rattle.rail_model.specs.Tables.{no_section, section_at}
use Rattle.plan_model.specs.declared.journal.Entry.{Entry}
use Rattle.plan_model.specs.Cut.{section_cut}
use Rattle.plan_model.specs.Journal.{tables_of}
use Rattle.plan_model.specs.Legal.{cut_now, IsJournal}
use Rattle.plan_model.specs.Outcome.{section_name}
use Rattle.plan_model.proofs.Legality.{tables_are_sound}
use Rattle.section_cut.proofs.Rows.{found_at}
use Rattle.plan_book.proofs.Edited.{now_is}

module _ (journal : List Entry) (number : ℕ) (is_journal : IsJournal journal) (there : number < length (tables_of journal).sections) where
  pub cut_there : cut_now journal (section_name journal number)
      ≡ Some (section_cut (tables_of journal) (section_at (tables_of journal) number))
  cut_there =
      let tables = tables_of journal in
      let sound = (tables_are_sound journal is_journal.legal).now in
      now_is journal (section_name journal number)
      ∙ ap (option_map (section_cut tables))
      (found_at (λ (s : Section). s.name) tables.sections number no_section sound.sections.names there)

  pub cut_not_missing : cut_now journal (section_name journal number) ≡ None → ⊥
  cut_not_missing none =
      let both : Some (section_cut (tables_of journal) (section_at (tables_of journal) number)) ≡ None = sym cut_there ∙ none in
      absurd (cc)
