use Rattle.std.proofs.Common.{◌≡◌, ◌+◌, ◌<◌, Some, length, map, sym, ap, ◌∙◌, subst, arith, rules, w64}
use Rattle.std.specs.Prelude.{IfSome, pos}
use Rattle.std.proofs.lemmas.Int.{to_z-of_z}
use Rattle.std.proofs.lemmas.List.{length-map}
use Rattle.rail_model.specs.declared.items.Connection.{Connection}
use Rattle.rail_model.specs.declared.items.Run.{Run}
use Rattle.rail_model.specs.declared.tables.Tables.{Tables}
use Rattle.rail_model.specs.Name.{NamesRise}
use Rattle.rail_model.specs.Tables.{number_of, run_at, last_arrival}
use Rattle.plan_model.specs.declared.cut.CutRow.{CutRow}
use Rattle.plan_model.specs.Cut.{binding_connections}
use Rattle.section_cut.specs.EditedConnection.{uses_ending}
use Rattle.section_cut.specs.Stamps.{IsReached, IsOwn}
use Rattle.section_cut.proofs.AnotherMinimum.{unchanged, known_still, minimum_row, first_row_alone}
use Rattle.section_cut.proofs.Known.{IsKnown}
use Rattle.section_cut.proofs.OneConnection.{cut_of_stays}
use Rattle.section_cut.proofs.OneRun.{row_changes}
use Rattle.section_cut.proofs.Rows.{own_found}
use Rattle.section_cut.proofs.Stored.{sound_stored, stored_names, stored_names_rise}
use Rattle.section_cut.proofs.one_connection.cut_after_minimum.Goals as goal
use Rattle.section_cut.proofs.one_connection.cut_after_minimum.Goals.{In-Some}

pub place_in-requires : goal.place_in-requires
place_in-requires c = subst (NamesRise (λ n. n)) (sym c.slice.ensures) (stored_names_rise c.requires.stored)

pub returns-in_default : goal.returns-in_default
returns-in_default c =
    cut_of_stays c.requires.stored c.requires.changed.others
    (unchanged c.requires.stored c.args.connection.now c.requires.changed c.slice.result.now (c.slice.ensures ∙ stored_names c.requires.stored) (sym c.in_default.ensures.there))

pub place_of-at-requires : goal.place_of-at-requires
place_of-at-requires c = subst (NamesRise (λ (r : CutRow). r.name)) (sym c.slice-rows.ensures) (sound_stored c.requires.stored).names_rise

-- the place of the connection among those that bind
names_are : (c : In-Some) → c.slice.result.now ≡ map (λ (x : Connection). x.name) (binding_connections c.args.stored.both.before.now c.args.stored.cut.now.section)
names_are c = c.slice.ensures ∙ stored_names c.requires.stored

number_is : (c : In-Some) → c.in-Some.k
    ≡ number_of (λ n. n) (map (λ (x : Connection). x.name) (binding_connections c.args.stored.both.before.now c.args.stored.cut.now.section)) c.args.connection.now.name
number_is c = c.in-Some.ensures.number ∙ ap (λ ns. number_of (λ n. n) ns c.args.connection.now.name) (names_are c)

below_is : (c : In-Some) → c.in-Some.k < length (binding_connections c.args.stored.both.before.now c.args.stored.cut.now.section)
below_is c =
    let bound = binding_connections c.args.stored.both.before.now c.args.stored.cut.now.section in
    omega (arith, c.in-Some.ensures.in_range, ap length (names_are c), length-map bound (λ (x : Connection). x.name))

known : (c : In-Some) → IsKnown c.args.stored.both.after.now c.args.connection.now
known c = known_still c.requires.stored c.args.connection.now c.requires.changed c.in-Some.k (number_is c) (below_is c)

pub unwrap-run-requires : goal.unwrap-run-requires
unwrap-run-requires c =
    c.run_number.ensures.there ∙ (known (goal.at.unwrap-run-requires c).In-Some).first

pub until-end-requires-clause-minimum : goal.until-end-requires-clause-minimum
until-end-requires-clause-minimum c = (known (goal.at.until-end-requires-clause-minimum c).In-Some).minimum

pub overflow_cast-place : goal.overflow_cast-place
overflow_cast-place c =
    let sound = sound_stored c.requires.stored in
    omega (arith, c.len.ensures.count, c.in-Some.ensures.in_range, ap length c.slice.ensures, sound.most_blocks, sound.most_connections)

pub returns : goal.returns
returns c =
    let later = c.args.stored.both.after.now in
    let old = c.args.stored.cut.now in
    let one = c.args.connection.now in
    let here = (goal.at.returns c).In-Some in
    let at = c.place_of-at.result in
    let own = c.in-Some-own_row.own.now in
    let row = c.in_ok-row.row in
    let k = c.in-Some.k in
    let reached = subst (λ rs. IsReached rs one.first at) c.slice-rows.ensures c.place_of-at.ensures in
    let is_own : IsOwn old.rows one.first at (Some own) = subst (λ rs. IsOwn rs one.first at (Some own)) c.slice-rows.ensures c.in-Some-own_row.ensures in
    let run : c.unwrap-run.result ≡ number_of (λ (r : Run). r.name) later.runs one.first =
    subst (λ o. IfSome o (λ n. n ≡ number_of (λ (r : Run). r.name) later.runs one.first)) c.unwrap-run.ensures c.run_number.ensures.number in
    let until = c.until-end.ensures ∙ ap (λ n. pos (last_arrival later (run_at later n) + one.minimum_s)) run in
    let place : c.len.result + k ≡ length old.section.blocks + k = ap (λ n. n + k) c.len.ensures.count in
    let row_is =
    ap Some
    (c.in_ok-row.ensures ∙ ap (λ e. record own { stamp = c.args.stored.number; uses = uses_ending (c.len.result + k) e own.uses }) (to_z-of_z w64 c.until-end.result (search rules))
    ∙ ap (λ p. record own { stamp = c.args.stored.number; uses = uses_ending p c.until-end.result own.uses }) place)
    ∙ minimum_row c.requires.stored one c.requires.changed k (number_is here) (below_is here) own
    (own_found old.rows one.first at (sound_stored c.requires.stored).names_rise reached (Some own) is_own) c.args.stored.number c.until-end.result until in
    row_changes c.requires.stored one.first (ap (λ (t : Tables). t.sections) c.requires.changed.others) (Some row) row_is
    (first_row_alone c.requires.stored one c.requires.changed) (Some own) at reached is_own
    c.with_row.result c.with_row.ensures
