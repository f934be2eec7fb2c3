use Rattle.capacity_cmd.proofs.call.run_alone_telling.Goals as goal

pub returns : goal.returns
returns g c = c.run_spelled_alone.ensures c.requires.not_made
