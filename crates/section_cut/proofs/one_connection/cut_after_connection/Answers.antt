use Rattle.std.proofs.Common.{◌≡◌, false, sym, ap, ◌∙◌, subst}
use Rattle.std.specs.Prelude.{IfSome}
use Rattle.rail_model.specs.Name.{NamesRise}
use Rattle.rail_model.specs.Rules.{is_named}
use Rattle.plan_model.specs.Cut.{binds}
use Rattle.section_cut.specs.RowsAfter.{AreOfMembers}
use Rattle.section_cut.proofs.OneConnection.{entries_stay, found_there, untouched}
use Rattle.section_cut.proofs.RowsKept.{members_stay}
use Rattle.section_cut.proofs.Stored.{sound_stored, stored_names_rise}
use Rattle.section_cut.proofs.one_connection.cut_after_connection.Goals as goal
use Rattle.section_cut.proofs.one_connection.cut_after_connection.Goals.{in-Some+else-binds_among, in_default}

pub place_in-requires : goal.place_in-requires
place_in-requires c = subst (NamesRise (λ n. n)) (sym c.slice.ensures) (stored_names_rise c.requires.stored)

pub binds_among-requires-clause-rows : goal.binds_among-requires-clause-rows
binds_among-requires-clause-rows c = (sound_stored c.requires.stored).names_rise

pub binds_among-requires-clause-entries : goal.binds_among-requires-clause-entries
binds_among-requires-clause-entries c = entries_stay c.requires.stored c.requires.edited.others

pub binds_among-requires-clause-there : goal.binds_among-requires-clause-there
binds_among-requires-clause-there c =
    found_there c.args.stored.both.after.now c.requires.stored.later_sound c.args.edited.now.name c.in-Some.connection (sym c.requires.edited.after ∙ c.in-Some.is)

pub cut_bound_anew-requires-clause-members : goal.cut_bound_anew-requires-clause-members
cut_bound_anew-requires-clause-members c =
    subst (AreOfMembers c.args.stored.both.after.now c.args.stored.cut.now.section) (sym c.slice-then-is_some.ensures) (members_stay c.requires.stored c.requires.edited.others)

pub cut_bound_anew-requires-then-binds_among-clause-members : goal.cut_bound_anew-requires-then-binds_among-clause-members
cut_bound_anew-requires-then-binds_among-clause-members c =
    subst (AreOfMembers c.args.stored.both.after.now c.args.stored.cut.now.section) (sym c.slice-then-binds_among.ensures) (members_stay c.requires.stored c.requires.edited.others)

pub returns : goal.returns
returns c =
    let binds_later = binds c.args.stored.both.after.now c.args.stored.cut.now.section in
    untouched c.requires.stored c.args.edited.now c.requires.edited
    (ap (λ ns. is_named (λ n. n) ns c.args.edited.now.name) (sym c.slice.ensures) ∙ sym c.place_in.ensures.there ∙ sym c.is_some.ensures ∙ c.if-is_some.false)
    (elim c.match-edited.branch [
      | in-Some+else-binds_among w ↦
          subst (λ o. IfSome o (λ x. binds_later x ≡ false)) (sym w.in-Some.is) (sym w.binds_among.ensures ∙ w.if-binds_among.false)
      | in_default w ↦ subst (λ o. IfSome o (λ x. binds_later x ≡ false)) (sym w.in_default.is) tt
    ])
