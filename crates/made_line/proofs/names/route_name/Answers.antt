use Rattle.std.proofs.Common.{codes, refl, arith}
use Rattle.made_line.proofs.NameTests.{named}
use Rattle.made_line.proofs.names.route_name.Goals as goal

pub name-requires : goal.name-requires
name-requires c = named (codes "line") (omega arith) (omega arith) refl
