use Rattle.line_tables.proofs.KeptLine.{routes_listed}
use Rattle.line_tables.proofs.line_tables.LineTables.plain.Goals as goal

pub plain_routes-requires : goal.plain_routes-requires
plain_routes-requires c = routes_listed c.self.inside c.self.invariant c.learn_order.ensures
