use Rattle.std.proofs.Common.{rules}
use Rattle.occupancy_rate.proofs.occupied.first_with.Goals as goal

pub returns-then-may-clause-first : goal.returns-then-may-clause-first
returns-then-may-clause-first c = search rules

pub returns-then-may-clause-there : goal.returns-then-may-clause-there
returns-then-may-clause-there c = search rules

pub returns-clause-first : goal.returns-clause-first
returns-clause-first c = search rules

pub returns-clause-there : goal.returns-clause-there
returns-clause-there c = search rules
