use Rattle.std.proofs.Common.{◌≡◌, Some, Option, map, sym, ap, ◌∙◌, subst}
use Rattle.std.specs.Prelude.{All, find, IfSome}
use Rattle.std.specs.Option.{option_copied}
use Rattle.line_tables.proofs.Found.{find_some}
use Rattle.rail_model.specs.declared.items.Connection.{Connection}
use Rattle.rail_model.specs.declared.items.Section.{Section}
use Rattle.rail_model.specs.declared.tables.Tables.{Tables}
use Rattle.rail_model.specs.Name.{NamesRise, is_same}
use Rattle.rail_model.specs.Rules.{is_named}
use Rattle.rail_model.proofs.NameOrder.{same_name}
use Rattle.plan_model.specs.declared.cut.CutRow.{CutRow}
use Rattle.plan_model.specs.Cut.{binds, binding_connections}
use Rattle.section_cut.specs.Connected.{IsOfRuns, TellsEntries, row_beside}
use Rattle.section_cut.specs.EditedRun.{KeepsPlaces}
use Rattle.section_cut.specs.RowsAfter.{AreOfMembers}
use Rattle.section_cut.specs.Stamps.{IsReached, IsOwn}
use Rattle.section_cut.proofs.BlockPart.{own_blocks_first}
use Rattle.section_cut.proofs.JoinedRun.{binding_as_listed, entries_told, bare_entry, bare_there, joined_there}
use Rattle.section_cut.proofs.OneRun.{run_changes}
use Rattle.section_cut.proofs.Placed.{rows_put_is}
use Rattle.section_cut.proofs.PutAmong.{put_of_members}
use Rattle.section_cut.proofs.Rows.{own_found, own_stands}
use Rattle.section_cut.proofs.Stored.{sound_stored, stored_names, stored_names_rise, stored_section}
use Rattle.section_cut.proofs.WholeRow.{keeps_places}
use Rattle.section_cut.proofs.one_run.cut_after_run.Goals as goal
use Rattle.section_cut.proofs.one_run.cut_after_run.Goals.{Else-not-bind_as_before}

pub place_of-at-requires : goal.place_of-at-requires
place_of-at-requires c = subst (NamesRise (λ (r : CutRow). r.name)) (sym c.slice-rows.ensures) (sound_stored c.requires.stored).names_rise

pub uses_of_blocks-places-requires : goal.uses_of_blocks-places-requires
uses_of_blocks-places-requires c =
    let name = c.args.run.now.name in
    let at = c.place_of-at.result in
    let own = option_copied c.own_row-own.result in
    own_blocks_first c.args.stored.cut.now (sound_stored c.requires.stored) name at own
    (subst (λ rs. IsOwn rs name at own) c.slice-rows.ensures c.own_row-own.ensures)

pub row_after_run-requires-clause-section : goal.row_after_run-requires-clause-section
row_after_run-requires-clause-section c =
    let later = c.args.stored.both.after.now in
    let own = c.args.stored.cut.now.section in
    let name = c.args.stored.section.now in
    let found = stored_section c.requires.stored (ap (λ (t : Tables). t.sections) c.requires.edited.one.others) in
    let named = same_name own.name name (find_some (λ (s : Section). is_same s.name name) later.sections own found).0 in
    subst (λ n. find (λ (s : Section). is_same s.name n) later.sections ≡ Some own) (sym named) found

pub row_after_run-requires-clause-blocks : goal.row_after_run-requires-clause-blocks
row_after_run-requires-clause-blocks c = (sound_stored c.requires.stored).most_blocks

pub row_after_run-requires-clause-keeps : goal.row_after_run-requires-clause-keeps
row_after_run-requires-clause-keeps c route =
    let rows = c.args.stored.cut.now.rows in
    let name = c.args.run.now.name in
    let at = c.place_of-at.result in
    let own = option_copied c.own_row-own.result in
    subst (λ o. IfSome o (KeepsPlaces c.args.stored.both.after.now c.args.stored.cut.now.section c.args.run.now.stair)) (sym c.uses_of_blocks-places.ensures)
    (keeps_places c.requires.stored c.args.run.now c.requires.edited route own
    (own_found rows name at (sound_stored c.requires.stored).names_rise (subst (λ rs. IsReached rs name at) c.slice-rows.ensures c.place_of-at.ensures) own
    (subst (λ rs. IsOwn rs name at own) c.slice-rows.ensures c.own_row-own.ensures)))

pub bind_as_before-requires-clause-rows : goal.bind_as_before-requires-clause-rows
bind_as_before-requires-clause-rows c = (sound_stored c.requires.stored).names_rise

pub bind_as_before-requires-clause-names : goal.bind_as_before-requires-clause-names
bind_as_before-requires-clause-names c = stored_names_rise c.requires.stored

pub bind_as_before-requires-clause-entries : goal.bind_as_before-requires-clause-entries
bind_as_before-requires-clause-entries c =
    let old = c.args.stored.cut.now in
    let run = c.args.run.now in
    subst (λ (o : Option CutRow). TellsEntries c.args.stored.both.after.now old.section (row_beside run.name o old.rows)) (sym c.as_ref.ensures.value)
    (entries_told c.requires.stored run.name run.stair c.requires.edited.one c.in_ok-row.row c.in_ok-row.ensures)

pub bind_as_before-requires-clause-there : goal.bind_as_before-requires-clause-there
bind_as_before-requires-clause-there c =
    let later = c.args.stored.both.after.now in
    subst (All (IsOfRuns later)) (sym (c.slice-joined.ensures ∙ c.requires.edited.joined)) (joined_there later c.requires.stored.later_sound c.args.run.now.name)

pub cut_with-requires : goal.cut_with-requires
cut_with-requires c =
    let name = c.args.run.now.name in
    let at = c.place_of-at.result in
    let own = option_copied c.own_row-own.result in
    own_stands c.args.stored.cut.now.rows name at (sound_stored c.requires.stored).names_rise (subst (λ rs. IsReached rs name at) c.slice-rows.ensures c.place_of-at.ensures) own
    (subst (λ rs. IsOwn rs name at own) c.slice-rows.ensures c.own_row-own.ensures)

pub cut_bound_anew-requires-clause-members : goal.cut_bound_anew-requires-clause-members
cut_bound_anew-requires-clause-members c =
    let stored = c.args.stored in
    let old = stored.cut.now in
    let run = c.args.run.now in
    let at = c.place_of-at.result in
    let own = option_copied c.own_row-own.result in
    let row = c.in_ok-row.row in
    let put = rows_put_is old run.name at stored.number (sound_stored c.requires.stored) (subst (λ rs. IsReached rs run.name at) c.slice-rows.ensures c.place_of-at.ensures) own row
    (subst (λ rs. IsOwn rs run.name at own) c.slice-rows.ensures c.own_row-own.ensures) in
    subst (AreOfMembers stored.both.after.now old.section) (put ∙ sym c.in_ok-put.ensures ∙ sym c.slice.ensures)
    (put_of_members c.requires.stored run.name run.stair c.requires.edited.one row c.in_ok-row.ensures)

pub cut_bound_anew-requires-clause-sections : goal.cut_bound_anew-requires-clause-sections
cut_bound_anew-requires-clause-sections c = ap (λ (t : Tables). t.sections) c.requires.edited.one.others

-- the connections that bind stay
binding : (c : Else-not-bind_as_before) → binding_connections c.args.stored.both.after.now c.args.stored.cut.now.section ≡ binding_connections c.args.stored.both.before.now c.args.stored.cut.now.section
binding c =
    let old = c.args.stored.cut.now in
    let run = c.args.run.now in
    binding_as_listed c.requires.stored run.name run.stair c.requires.edited.one
    (subst (All (λ (x : Connection). binds c.args.stored.both.after.now old.section x ≡ is_named (λ n. n) old.connections x.name)) (c.slice-joined.ensures ∙ c.requires.edited.joined)
    (c.bind_as_before.ensures c.if-not-bind_as_before.false))

pub with_joined-requires-clause-names : goal.with_joined-requires-clause-names
with_joined-requires-clause-names c = stored_names c.requires.stored ∙ ap (map (λ (x : Connection). x.name)) (sym (binding c))

pub with_joined-requires-clause-joined : goal.with_joined-requires-clause-joined
with_joined-requires-clause-joined c = c.slice-joined.ensures ∙ c.requires.edited.joined

pub with_joined-requires-clause-there : goal.with_joined-requires-clause-there
with_joined-requires-clause-there c =
    let run = c.args.run.now in
    bare_there c.requires.stored run.name run.stair c.requires.edited.one c.in_ok-row.row c.in_ok-row.ensures

pub with_joined-requires-clause-entry : goal.with_joined-requires-clause-entry
with_joined-requires-clause-entry c =
    let run = c.args.run.now in
    bare_entry c.requires.stored run.name run.stair c.requires.edited.one c.in_ok-row.row c.in_ok-row.ensures

pub with_joined-requires-clause-blocks : goal.with_joined-requires-clause-blocks
with_joined-requires-clause-blocks c = (sound_stored c.requires.stored).most_blocks

pub returns : goal.returns
returns c =
    let run = c.args.run.now in
    let at = c.place_of-at.result in
    let own = option_copied c.own_row-own.result in
    let row = c.in_ok-row-2.row in
    run_changes c.requires.stored run.name run.stair c.requires.edited.one c.in_ok-row.row row c.in_ok-row.ensures c.in_ok-row-2.ensures
    (binding (goal.at.returns c).Else-not-bind_as_before) own at
    (subst (λ rs. IsReached rs run.name at) c.slice-rows.ensures c.place_of-at.ensures)
    (subst (λ rs. IsOwn rs run.name at own) c.slice-rows.ensures c.own_row-own.ensures)
    c.with_row.result c.with_row.ensures
