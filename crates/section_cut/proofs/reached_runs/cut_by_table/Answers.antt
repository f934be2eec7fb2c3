use Rattle.std.proofs.Common.{sym, ap, subst}
use Rattle.std.specs.Prelude.{IfSome}
use Rattle.std.proofs.lemmas.Bool.{both_ways}
use Rattle.rail_model.specs.declared.items.Section.{Section}
use Rattle.plan_model.specs.declared.cut.Cut.{Cut}
use Rattle.section_cut.specs.RowsAfter.{AreBeside, AreRowsAfter}
use Rattle.section_cut.proofs.ReachedRuns.{cut_same, cut_changes}
use Rattle.section_cut.proofs.Stored.{sound_stored, stored_rows}
use Rattle.section_cut.proofs.reached_runs.cut_by_table.Goals as goal
use Rattle.section_cut.proofs.reached_runs.cut_by_table.Goals.{After-slice-old}

-- both tables with the stairs, and the section with its rows
beside : (c : After-slice-old) → AreBeside c.args.stored.both.before.now c.args.stored.both.after.now c.args.runs.now.stairs.items c.args.stored.cut.now.section c.args.table.positions.now c.args.stored.cut.now.rows
beside c = record {
  earlier_sound = c.requires.stored.earlier_sound;
  later_sound = c.requires.stored.later_sound;
  block = c.args.runs.now.block;
  reached = c.requires.runs.stairs;
  touched = rw (← c.requires.section) c.requires.touched;
  table = rw (← c.requires.section) c.requires.positions;
  rows = stored_rows c.requires.stored;
  rise = (sound_stored c.requires.stored).names_rise;
}

pub rows_stay-requires-clause-beside : goal.rows_stay-requires-clause-beside
rows_stay-requires-clause-beside c =
    rw (c.deref.ensures.value, c.requires.section, c.slice-old.ensures) (beside (goal.at.rows_stay-requires-clause-beside c).After-slice-old)

pub rows_after-requires-clause-beside : goal.rows_after-requires-clause-beside
rows_after-requires-clause-beside c = rw (c.requires.section, c.slice-old.ensures) (beside (goal.at.rows_after-requires-clause-beside c).After-slice-old)

pub members_after-requires-clause-beside : goal.members_after-requires-clause-beside
members_after-requires-clause-beside c = rw (c.requires.section, c.slice-old.ensures) (beside (goal.at.members_after-requires-clause-beside c).After-slice-old)

pub returns-then-branch : goal.returns-then-branch
returns-then-branch c =
    cut_same c.requires.stored (beside (goal.at.returns-then-branch c).After-slice-old)
    (rw (c.deref.ensures.value, c.requires.section, c.slice-old.ensures) at (c.in_ok-rows_stay.ensures.0 c.if-branch.true))

pub returns : goal.returns
returns c =
    let stored = c.args.stored in
    let old = stored.cut.now in
    let rows = c.in-Some.rows in
    let After : Section → _ = λ s. AreRowsAfter stored.both.before.now stored.both.after.now s stored.number in
    let after : AreRowsAfter stored.both.before.now stored.both.after.now old.section stored.number old.rows rows =
    rw (c.requires.section, c.slice-old.ensures) at (subst (λ o. IfSome o (After c.args.table.section.now c.slice-old.result.now)) c.in-Some.is c.in_ok-rows.ensures) in
    cut_changes c.requires.stored (beside (goal.at.returns c).After-slice-old) c.in_ok-cut_of_rows.field-0
    (ap (λ (x : Cut). x.section) c.in_ok-cut_of_rows.ensures) (ap (λ (x : Cut). x.connections) c.in_ok-cut_of_rows.ensures)
    (subst (After old.section old.rows) (sym (ap (λ (x : Cut). x.rows) c.in_ok-cut_of_rows.ensures)) after)
    (λ all. both_ways c.in_ok-rows_stay.field-0 c.if-branch.false
    (c.in_ok-rows_stay.ensures.1 (rw (← c.deref.ensures.value, ← c.requires.section, ← c.slice-old.ensures) at all)))
