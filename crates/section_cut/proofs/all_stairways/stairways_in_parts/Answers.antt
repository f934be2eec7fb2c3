use Rattle.std.proofs.Common.{length, map, subst, sym, ap, ◌∙◌}
use Rattle.std.proofs.lemmas.List.{length-map}
use Rattle.std.proofs.lemmas.Simd.{map-map}
use Rattle.rail_model.specs.Blocking.{stair_of}
use Rattle.rail_model.specs.Tables.{path_in}
use Rattle.section_cut.specs.Rooms.{AreRoomsFor}
use Rattle.section_cut.proofs.all_stairways.stairways_in_parts.Goals as goal

pub stairs_in_rooms-requires-after_bounds : goal.stairs_in_rooms-requires-after_bounds
stairs_in_rooms-requires-after_bounds g c κs within =
    let runs = c.args.tables.now.runs in
    subst (λ n. AreRoomsFor n c.in_ok-rooms.rooms.items)
    (sym (ap length c.in_ok-paths.ensures.same ∙ length-map runs (path_in c.args.tables.now))) c.in_ok-rooms.ensures

pub returns : goal.returns
returns g c =
    let tables = c.args.tables.now in
    c.from_vec.ensures ∙ c.in_ok-stairs_in_rooms.ensures ∙ ap (map stair_of) c.in_ok-paths.ensures.same
    ∙ map-map stair_of (path_in tables) tables.runs
