-- What is kept of a section agrees with later readings of it.
use Rattle.std.proofs.Common.{◌≡◌, ℕ, List, [], ◌++◌, sym, ap, ◌∙◌, subst, append_assoc, arith}
use Rattle.std.proofs.lemmas.List.{append-nil}
use Rattle.std.specs.Prelude.{Bool, true, false, if◌then◌else◌, Contains}
use Rattle.plan_model.specs.declared.cut.Cut.{Cut}
use Rattle.plan_model.specs.declared.cut.CutRow.{CutRow}
use Rattle.plan_model.specs.declared.journal.Entry.{Entry}
use Rattle.plan_model.specs.Call.{AddsOwn}
use Rattle.plan_model.specs.Legal.{IsLegal, IsJournal, IsReading}
use Rattle.plan_model.specs.Outcome.{IsNextReading}
use Rattle.plan_model.specs.Reading.{Shown}
use Rattle.plan_model.proofs.Stamps.{stamp_tells_row}
use Rattle.plan_repair.specs.Kept.{Kept, kept_of, AgreesWith}
use Rattle.plan_model.proofs.Readings.{reading_name}
use Rattle.acceptance_seats.specs.Kept.{IsKept}

-- a reading of a section is of the section of its own name
own_name : (journal : List Entry) (shown : Shown) → IsNextReading 0 1 journal shown
    → IsReading journal shown.cut.section.name shown.cut
own_name journal shown next = subst (λ n. IsReading journal n shown.cut)
    (sym (reading_name journal _ shown.cut next.reading)) next.reading

-- what is kept of the next reading
pub is_kept : (journal : List Entry) (shown : Shown) (keep : Kept) → IsJournal journal → IsNextReading 0 1 journal shown
    → keep ≡ kept_of shown.cut → IsKept journal keep
is_kept journal shown keep j next is = record {
  found = journal;
  more = [];
  is = sym (append-nil journal);
  legal = j.legal;
  cut = shown.cut;
  reading = own_name journal shown next;
  kept = is;
}

-- a call of the book leaves it so
pub kept_after : (keep : Kept) (who : ℕ) (journal later : List Entry) → AddsOwn who journal later
    → IsKept journal keep → IsKept later keep
kept_after keep who journal later a k = record {
  found = k.found;
  more = k.more ++ a.own;
  is = a.is ∙ ap (λ j. j ++ a.own) k.is ∙ append_assoc k.found k.more a.own;
  legal = k.legal;
  cut = k.cut;
  reading = k.reading;
  kept = k.kept;
}

of_cut : (cut : Cut) (crowded : Bool) (row : CutRow) → Contains (if crowded then [] else cut.rows) row
    → Contains cut.rows row
of_cut cut true row there = absurd (omega (arith, there.1))
of_cut cut false row there = there

pub agrees : (journal : List Entry) (shown : Shown) (keep : Kept) → IsJournal journal → IsKept journal keep
    → IsNextReading 0 1 journal shown → shown.cut.section.name ≡ keep.section → AgreesWith keep shown.cut
agrees journal shown keep j k next named =
    let first : k.cut.section.name ≡ shown.cut.section.name = sym (ap (λ (x : Kept). x.section) k.kept) ∙ sym named in
    record {
      section = sym named;
      rows = λ one row there later names stamps.
          stamp_tells_row k.found k.more shown.cut.section.name k.cut shown.cut one row k.legal
          (subst IsLegal k.is j.legal)
          (subst (λ n. IsReading k.found n k.cut) first k.reading)
          (subst (λ es. IsReading es shown.cut.section.name shown.cut) k.is (own_name journal shown next))
          (of_cut k.cut _ one (subst (λ (x : Kept). Contains x.rows one) k.kept there)) later names stamps;
    }
