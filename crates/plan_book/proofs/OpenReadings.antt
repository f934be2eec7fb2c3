-- Sections that are not current are read one after the other, in the order of names.
use Rattle.std.proofs.Common.{◌≡◌, ℕ, ◌+◌, ◌<◌, List, [], ◌∷◌, ◌++◌, length, subst, inl, inr, arith}
use Rattle.std.proofs.lemmas.Bool.{cases_lt}
use Rattle.std.proofs.lemmas.List.Elements.{All-nil, All-push, Contains-append_left, Contains-push}
use Rattle.std.proofs.lemmas.List.Quantifiers.{all_pairs_push}
use Rattle.std.specs.Prelude.{All}
use Rattle.rail_model.specs.Name.{IsBefore}
use Rattle.rail_model.specs.Tables.{no_section}
use Rattle.plan_model.specs.declared.journal.Entry.{Entry}
use Rattle.plan_model.specs.Reading.{Shown}
use Rattle.plan_model.specs.Journal.{tables_of}
use Rattle.plan_model.specs.Legal.{IsCurrent, IsJournal}
use Rattle.plan_model.specs.Outcome.{section_name}
use Rattle.plan_model.proofs.Legality.{tables_are_sound}
use Rattle.plan_model.proofs.Readings.{reading_name}
use Rattle.plan_book.specs.Reading.{IsReadingOf, IsOpenReading, IsRead, AreOpenBelow}

abbrev name : Shown → List ℕ
name r = r.cut.section.name

pub none_read : (journal : List Entry) → AreOpenBelow journal 0 []
none_read journal = record {
  each = All-nil _;
  all = λ n l wanted. absurd (omega (arith, l));
  rise = λ i j d l m. absurd (omega (arith, m));
}

module _ (journal : List Entry) (number : ℕ) (readings : List Shown) (h : AreOpenBelow journal number readings) where
  wider : All (IsOpenReading journal (number + 1)) readings
  wider = λ k d l.
      let o = h.each k d l in
      record { number = o.number; there = omega (arith, o.there); wanted = o.wanted; reads = o.reads }

  -- the next section is current
  pub none_more : IsCurrent journal (section_name journal number) → AreOpenBelow journal (number + 1) readings
  none_more current = record {
    each = wider;
    all = λ n l wanted.
        elim (cases_lt n number) [
          | inl earlier ↦ h.all n earlier wanted
          | inr later ↦
              let same : number ≡ n = omega (arith, l, later) in
              absurd (wanted (subst (λ m. IsCurrent journal (section_name journal m)) same current))
        ];
    rise = h.rise;
  }

  module _ (shown : Shown) (reads : IsReadingOf journal (section_name journal number) shown) where
    -- the next section is read
    pub one_more : IsJournal journal → number < length (tables_of journal).sections
        → (IsCurrent journal (section_name journal number) → ⊥) → AreOpenBelow journal (number + 1) (readings ++ shown ∷ [])
    one_more is_journal there wanted = record {
      each =
          All-push (IsOpenReading journal (number + 1)) readings shown wider
          (record { number = number; there = omega arith; wanted = wanted; reads = reads });
      all = λ n l needed.
          elim (cases_lt n number) [
            | inl earlier ↦
                let r = h.all n earlier needed in
                record { shown = r.shown; one = Contains-append_left readings (shown ∷ []) r.shown r.one; reads = r.reads }
            | inr later ↦
                let same : number ≡ n = omega (arith, l, later) in
                subst (IsRead journal (readings ++ shown ∷ [])) same
                (record { shown = shown; one = Contains-push readings shown; reads = reads })
          ];
      rise =
          all_pairs_push (λ a b. IsBefore (name a) (name b)) readings shown h.rise
          (λ k d l.
          let o = h.each k d l in
          rw (reading_name journal _ _ o.reads.reading, reading_name journal _ shown.cut reads.reading)
          ((tables_are_sound journal is_journal.legal).now.sections.names o.number number no_section o.there there));
    }
