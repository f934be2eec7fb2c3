use Rattle.std.proofs.Common.{◌∙◌}
use Rattle.line_tables.proofs.linked.keys_of.Goals as goal

pub unwrap-requires : goal.unwrap-requires
unwrap-requires g c = c.in_ok-keys.ensures.known ∙ c.requires

pub returns-clause-keys : goal.returns-clause-keys
returns-clause-keys g c = rw c.unwrap.ensures at c.in_ok-keys.ensures.keys
