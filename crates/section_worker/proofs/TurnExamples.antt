-- How a turn ends that read its section at the edit 8.
use Rattle.std.proofs.Common.{◌≡◌, ℕ, List, arith, lit<}
use Rattle.plan_model.specs.declared.journal.Entry.{Entry}
use Rattle.plan_model.specs.Legal.{IsUntouchedSince, IsLastTouching, WasPublishedAt}
use Rattle.plan_model.specs.Call.{GoesOn}
use Rattle.plan_model.specs.Board.{Access}
use Rattle.section_worker.specs.declared.worker.Turned.TheVariants as turned
use Rattle.section_worker.specs.Keeping.{Working}
use Rattle.section_worker.specs.Turn.{Reads, EndsAs}

module _ (w : Working) (old : Access) (reads : Reads w old) (s : List ℕ) (of : s ≡ reads.cut.section.name)
    (at : 8 ≡ reads.at) (seen : List Entry) (goes_on : GoesOn old.numbers reads.found seen) where
  -- the edit 10 of others is the last that touches the section
  touched_at_10 : IsLastTouching seen s 10 → EndsAs reads seen (turned.Stale s 8 10)
  touched_at_10 last = record {
    of_section = of;
    at_reading = at;
    goes_on = goes_on;
    touched = record { last = last; later = lit< tt };
  }

  -- others published the section meanwhile, and no edit after that touches it
  published_by_others : (last : ℕ) → WasPublishedAt goes_on.more s last → WasPublishedAt seen s last
      → IsUntouchedSince seen s last → EndsAs reads seen (turned.Current s last)
  published_by_others last since now untouched = record {
    of_section = of;
    goes_on = goes_on;
    current = record { published = now; untouched = untouched };
    by_others = since;
  }

  -- the edit that was read is not one of those after it
  touched_by_what_was_read : EndsAs reads seen (turned.Stale s 8 8) → ⊥
  touched_by_what_was_read h = omega (arith, h.touched.later)

  -- what is published is what was read, and not a later edit
  published_unread : EndsAs reads seen (turned.Published s 9) → ⊥
  published_unread h = omega (arith, h.at_reading, at)

  -- a turn that reads does not rest
  rests_after_reading : EndsAs reads seen (turned.Idle 0) → ⊥
  rests_after_reading h = h
