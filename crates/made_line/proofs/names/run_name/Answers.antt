use Rattle.std.proofs.Common.{◌++◌, ◌∷◌, [], codes, refl, arith}
use Rattle.made_line.proofs.NameTests.{named}
use Rattle.made_line.proofs.names.run_name.Goals as goal

pub name-requires : goal.name-requires
name-requires c =
    named (codes "r" ++ c.digit.result ∷ c.digit-2.result ∷ c.digit-3.result ∷ []) (omega arith) (omega arith) (rw (c.digit.ensures.printed, c.digit-2.ensures.printed, c.digit-3.ensures.printed) refl)
