use Rattle.std.proofs.Common.{arith}
use Rattle.rail_model.proofs.NameAdded.{counted}
use Rattle.rail_model.proofs.names.Names.len.Goals as goal

pub returns : goal.returns
returns c = omega (arith, c.len.ensures, counted _ _ _ c.self.view_is)
