use Rattle.compression.proofs.answering.plan.Goals as goal

pub place_in_window-requires : goal.place_in_window-requires
place_in_window-requires c = record { order = c.requires.order }

pub plan_of_placed-requires-clause-placed : goal.plan_of_placed-requires-clause-placed
plan_of_placed-requires-clause-placed c = (
  c.args.order.now,
  c.requires.order,
  rw (c.deref.ensures.value, c.deref-2.ensures.value, c.deref-3.ensures.value) c.in_ok-placing.ensures,
)
