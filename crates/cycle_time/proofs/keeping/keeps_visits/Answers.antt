use Rattle.cycle_time.proofs.Laid.{are_turns, place_kept}
use Rattle.cycle_time.proofs.Kept.{turns_kept, again_kept}
use Rattle.cycle_time.proofs.keeping.keeps_visits.Goals as goal

pub keeps_in_turn-requires-clause-turns : goal.keeps_in_turn-requires-clause-turns
keeps_in_turn-requires-clause-turns c =
    are_turns c.args.cut.now c.requires.sound c.args.place c.args.visits.now c.requires.visits

pub returns : goal.returns
returns c =
    let cut = c.args.cut.now in
    let place = c.args.place in
    let visits = c.args.visits.now in
    let entries = c.args.entries.now in
    let turns = are_turns cut c.requires.sound place visits c.requires.visits in (
      λ t.
          let k = c.keeps_in_turn.ensures.0 t in
          place_kept cut c.requires.sound place visits c.requires.visits c.args.period entries k.turns k.again,
      λ k. c.keeps_in_turn.ensures.1 (record {
        turns = turns_kept cut c.args.period entries place visits turns k;
        again = again_kept cut c.args.period entries place visits turns k;
      }),
    )
