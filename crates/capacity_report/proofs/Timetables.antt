-- The stairways of sound tables are a timetable.
use Rattle.std.proofs.Common.{arith}
use Rattle.std.specs.Prelude.{◌<ℤ◌}
use Rattle.std.proofs.lemmas.List.{length-map, get_or-map}
use Rattle.std.proofs.lemmas.List.FromFn.{length-map-range_with_len}
use Rattle.rail_model.specs.declared.path.Path.{Path}
use Rattle.rail_model.specs.declared.stair.Use.{Use}
use Rattle.rail_model.specs.declared.tables.Tables.{Tables}
use Rattle.rail_model.specs.Blocking.{hop_count, Fits, use_of, stairway, stair_of}
use Rattle.rail_model.specs.Tables.{no_run, run_at, path_in}
use Rattle.rail_model.specs.Rules.{IsSound}
use Rattle.rail_model.proofs.NameOrder.{is_same-before, is_same-from}
use Rattle.rail_model.proofs.Paths.{path_at_fits}
use Rattle.rail_model.proofs.Lists.{All-from_one}
use Rattle.blocking_time.proofs.Uses.{not_empty, blocks_differ}
use Rattle.rail_model.specs.Conflict.{IsStairway, IsTimetable, timetable}
use Rattle.rail_model.proofs.Timetables.{stair_at, stairs_count}

stairway_fits : (path : Path) → Fits path → IsStairway (stair_of path)
stairway_fits path fits = record {
  most = omega (arith, length-map-range_with_len (use_of path) 1 (hop_count path), fits.most);
  blocks_differ = λ i j d lt l.
      let pairs = blocks_differ path fits i j d.block lt (omega (arith, length-map (stairway path) (λ (u : Use). u.block))) in
      rw (get_or-map (λ (u : Use). u.block) (stairway path) i d d.block (omega arith), get_or-map (λ (u : Use). u.block) (stairway path) j d d.block l) at pairs;
  not_empty = All-from_one (λ (u : Use). u.start <ℤ u.«end») (use_of path) (hop_count path) (λ k low high. not_empty path fits k low high);
}

module _ (tables : Tables) (sound : IsSound tables) where
  pub timetable_fits : IsTimetable (timetable tables)
  timetable_fits = record {
    most = omega (arith, stairs_count tables, sound.runs.most);
    names_differ = λ i j d lt l.
        rw (stair_at tables i d (omega (arith, stairs_count tables)), stair_at tables j d (omega (arith, stairs_count tables))) (λ same.
        let before = sound.runs.names i j no_run lt (omega (arith, stairs_count tables)) in
        let no = is_same-before (run_at tables i).name (run_at tables j).name before in
        let yes = is_same-from (run_at tables i).name (run_at tables j).name same in
        (cc));
    each = λ k d l. rw (stair_at tables k d (omega (arith, stairs_count tables))) (stairway_fits (path_in tables (run_at tables k)) (path_at_fits tables sound k (omega (arith, stairs_count tables))));
  }
