use Rattle.std.proofs.Common.{◌≡◌, sym, ap}
use Rattle.std.specs.Prelude.{Some}
use Rattle.plan_model.specs.declared.cut.Cut.{Cut}
use Rattle.plan_model.specs.Cut.{stamped}
use Rattle.section_cut.proofs.SameValue.{sound_same}
use Rattle.section_cut.proofs.cut_changes.restamped.Goals as goal

pub returns : goal.returns
returns c =
    let later = c.args.later in
    let cut : Cut = record later { rows = c.keep_stamps.new.rows } in
    let same : stamped 0 cut ≡ stamped 0 later = ap (λ rows. record later { rows = rows }) c.keep_stamps.ensures.value in
    record {
      same = ap Some (sym same);
      stamps = c.keep_stamps.ensures.stamps;
      sound = sound_same later cut same c.requires.sound;
    }
