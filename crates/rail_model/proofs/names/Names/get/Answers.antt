use Rattle.std.proofs.Math.Logic.{∥∥₁_elim}
use Rattle.std.proofs.Math.Bool.{Bool-set}
use Rattle.rail_model.proofs.names.Names.get.Goals as goal

pub unwrap-requires : goal.unwrap-requires
unwrap-requires c = ∥∥₁_elim c.bytes.ensures.named (Bool-set _ _) (λ name. c.read.ensures.named.1 name)
