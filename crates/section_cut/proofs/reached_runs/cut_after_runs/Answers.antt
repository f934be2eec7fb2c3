use Rattle.std.proofs.Common.{◌≡◌, length, map, sym, subst}
use Rattle.std.proofs.lemmas.Bool.{both_ways}
use Rattle.rail_model.specs.Tables.{section_at}
use Rattle.section_cut.specs.Positions.{IsPositions}
use Rattle.section_cut.specs.ReachedRuns.{uses_if_there}
use Rattle.section_cut.specs.Spans.{AreSpans}
use Rattle.section_cut.specs.Wanted.{IsBeside}
use Rattle.section_cut.proofs.Beside.{cut_beside}
use Rattle.section_cut.proofs.Wanted.{lacks_beside}
use Rattle.section_cut.proofs.PassedBy.{section_there, section_is}
use Rattle.section_cut.proofs.Stored.{sound_stored, stored_section}
use Rattle.section_cut.proofs.reached_runs.cut_after_runs.Goals as goal

pub unreachable-requires : goal.unreachable-requires
unreachable-requires c =
    let stored = c.args.stored in
    section_there stored.both.after.now stored.section.now stored.cut.now.section (stored_section c.requires.stored c.requires.runs.stairs.same.sections)
    (sym c.in_default.ensures.there)

pub invariant_of-table : goal.invariant_of-table
invariant_of-table c = record { most = (sound_stored c.requires.stored).most_blocks }

pub returns-then-is_beside : goal.returns-then-is_beside
returns-then-is_beside c =
    let stored = c.args.stored in
    let later = stored.both.after.now in
    let at : section_at later c.in-Some.place ≡ stored.cut.now.section =
    section_is later stored.section.now stored.cut.now.section (stored_section c.requires.stored c.requires.runs.stairs.same.sections) c.in-Some.place c.in-Some.ensures.number in
    let blocks = length stored.cut.now.section.blocks in
    cut_beside c.requires.stored c.requires.runs c.in_ok-positions.positions.items
    (subst (λ s. IsPositions later s c.in_ok-positions.positions.items) at c.in_ok-positions.ensures)
    (subst (λ ps. IsBeside c.args.runs.now.block ps blocks) c.deref.ensures.value
    (subst (IsBeside c.args.runs.now.block c.deref.result.now) c.len.ensures.count (c.is_beside.ensures.0 c.if-is_beside.true)))

pub cut_by_table-requires-clause-positions : goal.cut_by_table-requires-clause-positions
cut_by_table-requires-clause-positions c =
    let stored = c.args.stored in
    let later = stored.both.after.now in
    let at : section_at later c.in-Some.place ≡ stored.cut.now.section =
    section_is later stored.section.now stored.cut.now.section (stored_section c.requires.stored c.requires.runs.stairs.same.sections) c.in-Some.place c.in-Some.ensures.number in
    rw c.deref-3.ensures.value (subst (λ s. IsPositions later s c.in_ok-positions.positions.items) at c.in_ok-positions.ensures)

pub cut_by_table-requires-clause-spans : goal.cut_by_table-requires-clause-spans
cut_by_table-requires-clause-spans c =
    let all = map uses_if_there c.args.runs.now.stairs.items in
    let spans = c.in_ok-spans.spans.items in
    rw (c.deref-3.ensures.value, c.deref-4.ensures.value)
    (subst (λ ps. AreSpans ps (length c.args.stored.cut.now.section.blocks) all spans) c.deref-2.ensures.value
    (subst (λ k. AreSpans c.deref-2.result.now k all spans) c.len-2.ensures.count (c.in_ok-spans.ensures all c.requires.runs.over)))

pub cut_by_table-requires-clause-touched : goal.cut_by_table-requires-clause-touched
cut_by_table-requires-clause-touched c =
    let stored = c.args.stored in
    let later = stored.both.after.now in
    let section = stored.cut.now.section in
    let block = c.args.runs.now.block in
    let positions = c.in_ok-positions.positions.items in
    let at : section_at later c.in-Some.place ≡ section =
    section_is later stored.section.now section (stored_section c.requires.stored c.requires.runs.stairs.same.sections) c.in-Some.place c.in-Some.ensures.number in
    record {
      place = c.in-Some.place;
      there = c.in-Some.ensures.in_range;
      at = at;
      has = λ lacks.
          both_ways c.is_beside.result c.if-is_beside.false
          (c.is_beside.ensures.1
          (rw (c.deref.ensures.value, c.len.ensures.count)
          (lacks_beside later section positions (subst (λ s. IsPositions later s positions) at c.in_ok-positions.ensures) block lacks)));
    }
