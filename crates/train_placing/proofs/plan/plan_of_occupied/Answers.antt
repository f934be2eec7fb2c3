use Rattle.std.proofs.Common.{List, length, map, ap, ◌∙◌}
use Rattle.std.specs.List.{range_with_len}
use Rattle.plan_model.specs.declared.cut.CutRow.{CutRow}
use Rattle.plan_model.specs.declared.cut.Cut.{Cut}
use Rattle.plan_model.specs.Members.{place_names}
use Rattle.train_placing.specs.Laid.{placed_with}
use Rattle.train_placing.proofs.Laid.{busiest_below, plan_is, compressed, bounded_times}
use Rattle.train_placing.proofs.plan.plan_of_occupied.Goals as goal

pub critical-requires : goal.critical-requires
critical-requires c =
    let cut = c.args.cut.now in
    let sound = c.sound-sound.ensures.sound in
    let at = c.requires.placed in
    busiest_below cut at.0 c.args.entries.now c.args.ties.now c.args.last.now sound c.sound-sound.ensures.few at.1 at.2
    c.args.kept.1 c.requires.busiest

pub returns : goal.returns
returns c =
    let cut = c.args.cut.now in
    let entries = c.args.entries.now in
    let ties = c.args.ties.now in
    let last = c.args.last.now in
    let same = c.sound-sound.ensures.cut in
    let sound = c.sound-sound.ensures.sound in
    let few = c.sound-sound.ensures.few in
    let at = c.requires.placed in
    let rows = c.rows.ensures.rows ∙ ap (λ (k : Cut). k.rows) same in
    let trains =
    c.in_ok-placed.ensures
    ∙ ap (λ (rs : List CutRow). map (placed_with rs entries ties) (range_with_len 0 (length rs))) rows in
    let is =
    plan_is cut at.0 entries ties last sound few at.1 at.2 c.cut.result.now c.in_ok-places.places c.in_ok-placed.placed
    c.args.kept.0 c.args.kept.1 c.critical.result (c.cut.ensures.cut ∙ same) (c.in_ok-places.ensures ∙ ap place_names same)
    trains c.requires.time c.requires.busiest c.critical.ensures in
    record {
      compressed = compressed cut at.0 entries ties last sound few at.1 at.2 _ c.requires.none is;
      bounded = bounded_times cut at.0 entries ties last sound few at.1 at.2 _ is;
    }
