use Rattle.std.proofs.Common.{◌≡◌, ℕ, map, subst, sym, ap, ◌∙◌}
use Rattle.std.specs.Prelude.{IfOk}
use Rattle.std.proofs.lemmas.Simd.{map-map}
use Rattle.rail_model.specs.declared.stair.Stair.{Stair}
use Rattle.rail_model.specs.Blocking.{stair_of}
use Rattle.rail_model.proofs.Collected.{images_collected}
use Rattle.line_tables.specs.Paths.{no_path, path_at}
use Rattle.section_cut.specs.declared.all_stairways.StairRoom.{StairRoom}
use Rattle.section_cut.proofs.ByPlaces.{by_places}
use Rattle.section_cut.proofs.all_stairways.stairs_in_rooms.Goals as goal

pub collect-requires-clause-ready : goal.collect-requires-clause-ready
collect-requires-clause-ready g c κs within =
    rw (c.map.ensures.base, c.map.ensures.f, c.with_min_len.ensures.base, c.into_par_iter.ensures)
    (λ k d lt. (c.requires.each k d lt, λ y p. tt))

pub returns : goal.returns
returns g c =
    let paths = c.args.paths.now in
    let rooms = c.args.rooms.items in
    let h = c.in_ok-collect.ensures in
    let stairs = c.in_ok-collect.field-0 in
    let own = c.map.result.f.1.now in
    let stair : ℕ → Stair = λ n. stair_of (path_at paths n) in
    let given : h.1.0 ≡ rooms =
    rw (c.map.ensures.base, c.with_min_len.ensures.base) at h.1.1 ∙ c.into_par_iter.ensures in
    let made = images_collected (λ (r : StairRoom). stair_of (path_at own r.run)) (λ v. v.items) h.1.0 h.0 stairs _ h.1.2 h.2 in
    let places : map (λ (r : StairRoom). stair r.run) rooms ≡ map stair_of paths =
    sym (map-map stair (λ (r : StairRoom). r.run) rooms) ∙ ap (map stair) c.requires.numbers ∙ by_places stair_of paths no_path in
    subst (λ all. IfOk stairs (λ v. v.items ≡ all)) places
    (subst (λ some. IfOk stairs (λ v. v.items ≡ map (λ r. stair r.run) some)) given
    (subst (λ ps. IfOk stairs (λ v. v.items ≡ map (λ r. stair_of (path_at ps r.run)) h.1.0)) (ap (λ f. f.1.now) c.map.ensures.f) made))
