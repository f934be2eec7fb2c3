use Rattle.std.proofs.Common.{sym}
use Rattle.turn_desk.proofs.Growing.{adds_nothing}
use Rattle.plan_model.specs.declared.journal.Entry.{Entry}
use Rattle.acceptance_seats.proofs.turns.tell_turns.Goals as goal

pub give-requires-clause-own : goal.give-requires-clause-own
give-requires-clause-own g c =
    adds_nothing (λ (e : Entry). e.pass) c.take-turn.new.pass.number c.take-turn.new.pass.seen c.take-turn.result (sym c.take-turn.ensures.seen)
