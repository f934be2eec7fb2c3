-- The row of an edited run that keeps its route, where it has a use for each block of the path.
use Rattle.std.proofs.Common.{◌≡◌, ℕ, ◌<◌, true, length, Option, Some, None, refl, sym, ap, ◌∙◌, subst}
use Rattle.std.specs.Prelude.{find, option_map, IfSome}
use Rattle.rail_model.specs.declared.items.Run.{Run}
use Rattle.rail_model.specs.declared.stair.Stair.{Stair}
use Rattle.rail_model.specs.declared.tables.Tables.{Tables}
use Rattle.rail_model.specs.Name.{is_same}
use Rattle.rail_model.specs.Blocking.{stair_of}
use Rattle.rail_model.specs.Tables.{no_run, number_of, run_at, block_name, path_in}
use Rattle.rail_model.proofs.NameOrder.{same_name}
use Rattle.rail_model.proofs.Paths.{place_within, run_stands}
use Rattle.std.proofs.lemmas.List.Sums.{passes_at_first}
use Rattle.plan_model.specs.declared.cut.CutRow.{CutRow}
use Rattle.plan_model.specs.declared.cut.Cut.{Cut}
use Rattle.plan_model.specs.Cut.{section_uses}
use Rattle.section_cut.specs.declared.cut_changes.StoredCut.{StoredCut}
use Rattle.section_cut.specs.declared.one_run.EditedRun.{EditedRun}
use Rattle.section_cut.specs.Stored.{IsStored}
use Rattle.section_cut.specs.Times.{with_times}
use Rattle.section_cut.specs.OneRun.{uses_of_section}
use Rattle.section_cut.specs.EditedRun.{KeepsRoute, IsEditedRun, KeepsPlaces}
use Rattle.section_cut.specs.Connected.{block_part}
use Rattle.section_cut.proofs.OldRows.{old_blocks}
use Rattle.section_cut.proofs.OneRun.{run_found}
use Rattle.section_cut.proofs.Stored.{stored_rows}
use Rattle.section_cut.proofs.Whole.{whole, one_route}

module _ {stored : StoredCut} (is : IsStored stored) (run : EditedRun) (edited : IsEditedRun stored.both.before.now stored.both.after.now run) (route : run.keeps_route ≡ true) where
  abbrev earlier : Tables
  earlier = stored.both.before.now

  abbrev later : Tables
  later = stored.both.after.now

  abbrev old : Cut
  old = stored.cut.now

  abbrev keeps : KeepsRoute earlier later run.name
  keeps = edited.route route

  abbrev n : ℕ
  n = number_of (λ (r : Run). r.name) earlier.runs run.name

  abbrev m : ℕ
  m = number_of (λ (r : Run). r.name) later.runs run.name

  below : n < length earlier.runs
  below = place_within (λ (r : Run). is_same r.name run.name) earlier.runs keeps.before

  below_later : m < length later.runs
  below_later = place_within (λ (r : Run). is_same r.name run.name) later.runs keeps.after

  named : (run_at earlier n).name ≡ run.name
  named = same_name (run_at earlier n).name run.name (passes_at_first (λ (r : Run). is_same r.name run.name) earlier.runs no_run below)

  -- the uses of blocks of its row before the edit are its own
  uses_are : (own : CutRow) → Some own ≡ find (λ r. is_same r.name run.name) old.rows → block_part old.section own.uses ≡ section_uses earlier old.section (run_at earlier n)
  uses_are own found =
      old_blocks earlier old.section is.earlier_sound.runs.names old.rows (stored_rows is) is.earlier_sound n below own (found ∙ ap (λ m. find (λ (r : CutRow). is_same r.name m) old.rows) (sym named))

  block_names : (block : ℕ) → block_name later block ≡ block_name earlier block
  block_names block = ap (λ (t : Tables). block_name t block) edited.one.others

  -- and after it they stand where they stood
  times_are : (own : CutRow) (stair : Option Stair) → stair ≡ Some (stair_of (path_in later (run_at later m)))
      → Some own ≡ find (λ r. is_same r.name run.name) old.rows → KeepsPlaces later old.section stair (block_part old.section own.uses)
  times_are own None its found = tt
  times_are own (Some stair) its found = λ long.
      let at : stair ≡ stair_of (path_in later (run_at later m)) = cc in
      let same = one_route earlier later edited.one.others (run_at earlier n) (run_at later m) keeps.route
      (run_stands earlier is.earlier_sound n below) (run_stands later is.later_sound m below_later) in
      subst (λ (t : Stair). length (block_part old.section own.uses) ≡ length t.uses → with_times (block_part old.section own.uses) t.uses ≡ uses_of_section later old.section t.uses) (sym at)
      (whole earlier later old.section (run_at earlier n) (run_at later m) block_names same (block_part old.section own.uses) (uses_are own found)) long

  pub keeps_places : (own : Option CutRow) → own ≡ find (λ r. is_same r.name run.name) old.rows
      → IfSome (option_map (λ (r : CutRow). block_part old.section r.uses) own) (KeepsPlaces later old.section run.stair)
  keeps_places None found = tt
  keeps_places (Some own) found =
      times_are own run.stair
      (edited.one.stair ∙ ap (option_map (λ (r : Run). stair_of (path_in later r))) (run_found later run.name m refl below_later)) found
