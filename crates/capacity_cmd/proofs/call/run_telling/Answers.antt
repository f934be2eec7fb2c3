use Rattle.std.proofs.Common.{refl, sym, ◌∙◌}
use Rattle.capacity_cmd.proofs.call.run_telling.Goals as goal

pub returns-in-Some : goal.returns-in-Some
returns-in-Some g c = rw (sym c.made_of.ensures ∙ c.in-Some.is) (record {
  ends = c.run_made.ensures.ends;
  unread = refl;
  writes = c.run_made.ensures.writes;
  complete = c.run_made.ensures.complete;
})

pub returns-in-None : goal.returns-in-None
returns-in-None g c = c.run_spelled.ensures (sym c.made_of.ensures ∙ c.in-None.is)
