use Rattle.std.proofs.Common.{◌≡◌, Some, sym, ap, ◌∙◌, subst}
use Rattle.std.proofs.lemmas.Option.{get_or_from_slice_get}
use Rattle.rail_model.specs.declared.tables.Tables.{Tables}
use Rattle.rail_model.specs.Tables.{no_section, section_at}
use Rattle.plan_model.specs.declared.cut.Cut.{Cut}
use Rattle.plan_model.specs.Cut.{stamped, section_cut, cut_of}
use Rattle.section_cut.specs.Change.{IsChange}
use Rattle.section_cut.proofs.Joined.{cut_found}
use Rattle.section_cut.proofs.SameRows.{same_rows}
use Rattle.section_cut.proofs.SameValue.{sound_cut_of}
use Rattle.section_cut.proofs.Stored.{sound_stored, stored_is}
use Rattle.section_cut.proofs.cut_changes.cut_of_same_rows.Goals as goal
use Rattle.section_cut.proofs.cut_changes.cut_of_same_rows.Goals.{In_ok-cut}

-- the cut that is made is that of the later tables
made : (c : In_ok-cut) → cut_of c.args.stored.both.after.now c.args.stored.section.now ≡ Some (stamped 0 c.in_ok-cut.cut)
made c =
    let stored = c.args.stored in
    let later = stored.both.after.now in
    let own = c.section-later.result.now in
    let at : section_at later c.in-Some.place ≡ own =
    get_or_from_slice_get later.sections c.in-Some.place own no_section c.section-later.ensures in
    cut_found later stored.section.now c.in-Some.place c.in-Some.ensures.number c.in-Some.ensures.in_range
    ∙ ap Some
    (ap (section_cut later) at ∙ ap (λ (t : Tables). section_cut t own) c.requires.others
    ∙ same_rows stored.both.before.now own stored.cut.now.section (c.has_same_rows.ensures c.if-not-has_same_rows.false)
    ∙ ap (λ (x : Cut). record x { section = own }) (stored_is c.requires.stored)
    ∙ ap (stamped 0) (sym c.in_ok-cut.ensures))

pub compared-requires-clause-old_sound : goal.compared-requires-clause-old_sound
compared-requires-clause-old_sound c = sound_stored c.requires.stored

pub compared-requires-clause-sound : goal.compared-requires-clause-sound
compared-requires-clause-sound c =
    sound_cut_of c.args.stored.both.after.now c.requires.stored.later_sound c.args.stored.section.now c.in_ok-cut.cut
    (made (goal.at.compared-requires-clause-sound c).In_ok-cut)

pub returns : goal.returns
returns c =
    let stored = c.args.stored in
    let later = cut_of stored.both.after.now stored.section.now in
    let old = stored.cut.now in
    subst (λ v. IsChange v later stored.number (Some old) c.compared.result) (sym c.requires.stored.is)
    (subst (λ v. IsChange (Some (stamped 0 old)) v stored.number (Some old) c.compared.result) (sym (made (goal.at.returns c).In_ok-cut)) c.compared.ensures)
