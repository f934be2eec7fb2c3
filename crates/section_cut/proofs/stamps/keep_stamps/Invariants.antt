use Rattle.std.proofs.Common.{◌≡◌, ◌<◌, length, take, map, Some}
use Rattle.std.specs.Prelude.{All, slice_index_or}
use Rattle.plan_model.specs.Cut.{stamped_row}
use Rattle.plan_model.specs.Members.{no_member}
use Rattle.section_cut.specs.Change.{IsRestamped}
use Rattle.section_cut.specs.Stamps.{AreBefore}
use Rattle.section_cut.proofs.stamps.keep_stamps.Given as goal

-- the rows keep their values, those so far have their stamps, and the old rows so far are before the next one
abbrev pub invariant-loop-i : goal.invariant-loop-i
invariant-loop-i l = record {
  value : map (stamped_row 0) l.rows ≡ map (stamped_row 0) l.initial.rows;
  stamps : All (IsRestamped l.number (Some l.old)) (take l.i l.rows);
  before : l.i < length l.rows → AreBefore l.old.rows (slice_index_or l.rows l.i no_member).name l.at;
}
