-- The rows of a cut where only connections differ: the members and their uses of blocks stay.
use Rattle.std.proofs.Common.{◌≡◌, Bool, true, false, cond, List, map, length, Option, Some, None, refl, sym, ap, ◌∙◌, subst}
use Rattle.std.specs.Prelude.{All, filter, find, option_map, IfSome}
use Rattle.line_tables.proofs.Found.{find_some}
use Rattle.rail_model.specs.declared.items.Section.{Section}
use Rattle.rail_model.specs.declared.tables.Tables.{Tables}
use Rattle.rail_model.specs.declared.stair.Use.{Use}
use Rattle.rail_model.specs.Name.{is_same}
use Rattle.rail_model.specs.Rules.{IsSound}
use Rattle.rail_model.specs.Tables.{run_at}
use Rattle.plan_model.specs.declared.cut.CutRow.{CutRow}
use Rattle.plan_model.specs.Cut.{stamped_row, AreBlocksFirst, section_uses, entry_of, is_member, row_of}
use Rattle.section_cut.specs.declared.cut_changes.StoredCut.{StoredCut}
use Rattle.section_cut.specs.Stored.{IsStored}
use Rattle.section_cut.specs.Members.{member_row}
use Rattle.section_cut.specs.RowsAfter.{on_blocks, TellsMembers, AreOfMembers}
use Rattle.section_cut.proofs.OldRows.{old_row}
use Rattle.section_cut.proofs.Stored.{sound_stored, stored_rows}
use Rattle.section_cut.proofs.SoundRow.{blocks_are}

-- a row that is found has its uses of blocks first
pub first_found : (s : Section) (rows : List CutRow) → All (λ (r : CutRow). AreBlocksFirst (length s.blocks) r.uses) rows
    → (test : CutRow → Bool) (found : Option CutRow) → found ≡ find test rows → IfSome found (λ (r : CutRow). AreBlocksFirst (length s.blocks) r.uses)
first_found s rows first test None e = tt
first_found s rows first test (Some row) e = (find_some test rows row (sym e)).1 (λ (r : CutRow). AreBlocksFirst (length s.blocks) r.uses) first

module _ (tables : Tables) (sound : IsSound tables) (s : Section) (old : List CutRow) (are : map (stamped_row 0) old ≡ map (row_of tables s) (filter (is_member tables s) tables.runs)) where
  -- the rows of a cut have the members' uses of blocks
  pub tells : TellsMembers tables s old
  tells stamp n below =
      let run = run_at tables n in
      let found = find (λ (r : CutRow). is_same r.name run.name) old in
      sym (unmarked found) ∙ ap (option_map (on_blocks s stamp)) (old_row tables s sound.runs.names old are n below) ∙ by_test (is_member tables s run) refl
    where
      unmarked : (o : Option CutRow) → option_map (on_blocks s stamp) (option_map (stamped_row 0) o) ≡ option_map (on_blocks s stamp) o
      unmarked None = refl
      unmarked (Some r) = refl

      with_uses : List Use → CutRow
      with_uses uses = record { name = (run_at tables n).name; stamp = stamp; entry = entry_of tables s (run_at tables n); uses = uses }

      row_found : is_member tables s (run_at tables n) ≡ true
          → member_row s (run_at tables n).name stamp (section_uses tables s (run_at tables n)) ≡ Some (with_uses (section_uses tables s (run_at tables n)))
      row_found member = rw member refl

      by_test : (b : Bool) → b ≡ is_member tables s (run_at tables n)
          → option_map (on_blocks s stamp) (cond b (Some (row_of tables s (run_at tables n))) None)
          ≡ member_row s (run_at tables n).name stamp (section_uses tables s (run_at tables n))
      by_test true e = ap (λ us. Some (with_uses us)) (blocks_are tables sound s n below (sym e)) ∙ sym (row_found (sym e))
      by_test false e = rw (sym e) refl

-- and those of the section's cut by tables that differ in connections alone
pub members_stay : {stored : StoredCut} → IsStored stored → stored.both.after.now ≡ record stored.both.before.now { connections = stored.both.after.now.connections }
    → AreOfMembers stored.both.after.now stored.cut.now.section stored.cut.now.rows
members_stay {stored} is others =
    let s = stored.cut.now.section in
    let rows = stored.cut.now.rows in
    let sound = sound_stored is in
    record {
      rise = sound.names_rise;
      first = λ k d l. (sound.each k d l).blocks_first;
      each = subst (λ (t : Tables). TellsMembers t s rows) (sym others) (tells stored.both.before.now is.earlier_sound s rows (stored_rows is));
    }
