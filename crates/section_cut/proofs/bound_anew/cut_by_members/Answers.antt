use Rattle.std.proofs.Common.{◌≡◌, Some, sym, ap, ◌∙◌}
use Rattle.std.specs.Prelude.{option_map}
use Rattle.plan_model.specs.Cut.{stamped, section_cut, cut_of}
use Rattle.section_cut.proofs.Anew.{value_of, change_is}
use Rattle.section_cut.proofs.Joined.{names_on_blocks}
use Rattle.section_cut.proofs.SameValue.{sound_cut_of}
use Rattle.section_cut.proofs.Stored.{sound_stored, stored_section}
use Rattle.section_cut.proofs.bound_anew.cut_by_members.Goals as goal
use Rattle.section_cut.proofs.bound_anew.cut_by_members.Goals.{In_ok-later}

pub cut_of_members-requires-clause-names : goal.cut_of_members-requires-clause-names
cut_of_members-requires-clause-names c =
    names_on_blocks c.args.stored.both.after.now c.args.stored.cut.now.section c.args.stored.number c.args.members.rows c.requires.rows

pub cut_of_members-requires-clause-blocks : goal.cut_of_members-requires-clause-blocks
cut_of_members-requires-clause-blocks c = (sound_stored c.requires.stored).most_blocks

-- the cut that is made is that of the later tables
made : (c : In_ok-later) → Some c.in_ok-later.later ≡ option_map (stamped c.args.stored.number) (cut_of c.args.stored.both.after.now c.args.stored.section.now)
made c =
    let stored = c.args.stored in
    ap Some (c.in_ok-later.ensures stored.number c.requires.rows)
    ∙ sym (ap (λ o. option_map (stamped stored.number) (option_map (section_cut stored.both.after.now) o)) (stored_section c.requires.stored c.requires.sections))

pub compared-requires-clause-old_sound : goal.compared-requires-clause-old_sound
compared-requires-clause-old_sound c = sound_stored c.requires.stored

pub compared-requires-clause-sound : goal.compared-requires-clause-sound
compared-requires-clause-sound c =
    let stored = c.args.stored in
    let cut = c.in_ok-later.later in
    sound_cut_of stored.both.after.now c.requires.stored.later_sound stored.section.now cut
    (value_of stored.both.after.now stored.section.now stored.number (Some cut) (made (goal.at.compared-requires-clause-sound c).In_ok-later))

pub returns : goal.returns
returns c =
    change_is c.requires.stored (Some c.in_ok-later.later) c.compared.result (made (goal.at.returns c).In_ok-later) c.compared.ensures
