use Rattle.section_cut.proofs.Anew.{change_is}
use Rattle.section_cut.proofs.Stored.{sound_stored}
use Rattle.section_cut.proofs.cut_changes.cut_after_all.Goals as goal

pub changed-requires-clause-old_sound : goal.changed-requires-clause-old_sound
changed-requires-clause-old_sound c = sound_stored c.requires.stored

pub returns : goal.returns
returns c = change_is c.requires.stored c.in_ok-later.later c.changed.result c.in_ok-later.ensures.same c.changed.ensures
