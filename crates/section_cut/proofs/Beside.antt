-- Where an edit moves the uses of one block alone, the cut of a section without that block stays.
use Rattle.std.proofs.Common.{ℕ, ◌≤◌, List, length, Option, Some, None, sym, ap, ◌∙◌, arith}
use Rattle.std.specs.Prelude.{option_map, IfSome}
use Rattle.rail_model.specs.Tables.{run_at}
use Rattle.plan_model.specs.Cut.{position_in_section, section_cut}
use Rattle.section_cut.specs.declared.cut_changes.CutChange.TheVariants as change
use Rattle.section_cut.specs.declared.cut_changes.StoredCut.{StoredCut}
use Rattle.section_cut.specs.declared.reached_runs.ReachedRuns.{ReachedRuns}
use Rattle.section_cut.specs.Positions.{IsPositions}
use Rattle.section_cut.specs.Reach.{AreRunsOf}
use Rattle.section_cut.specs.ReachedRuns.{StayBeside}
use Rattle.section_cut.specs.Wanted.{IsBeside}
use Rattle.section_cut.specs.Stored.{IsStored, IsChangeOfStored}
use Rattle.section_cut.proofs.SameRuns.{cut_same}
use Rattle.section_cut.proofs.Stored.{stored_is, stored_section}

pub cut_beside : {stored : StoredCut} → IsStored stored → {runs : ReachedRuns} → AreRunsOf stored.both.before.now stored.both.after.now runs
    → (positions : List ℕ) → IsPositions stored.both.after.now stored.cut.now.section positions
    → IsBeside runs.block positions (length stored.cut.now.section.blocks) → IsChangeOfStored stored change.Untouched
cut_beside {stored} is {runs} are positions table beside = by_block runs.block are.block beside
  where
    by_block : (block : Option ℕ) → IfSome block (StayBeside stored.both.before.now stored.both.after.now)
        → IsBeside block positions (length stored.cut.now.section.blocks) → IsChangeOfStored stored change.Untouched
    by_block None stay none = absurd none
    by_block (Some block) stay out =
        let earlier = stored.both.before.now in
        let later = stored.both.after.now in
        let s = stored.cut.now.section in
        let same = are.stairs.same in
        let place : length s.blocks ≤ position_in_section later s block = omega (arith, out.1, table.each block (omega (arith, out.0, table.count))) in
        ap (option_map (section_cut later)) (stored_section is same.sections)
        ∙ ap Some
        (cut_same earlier later is.earlier_sound is.later_sound same.runs same.connections s (λ n l. stay s place (run_at earlier n)) ∙ stored_is is)
        ∙ sym is.is
