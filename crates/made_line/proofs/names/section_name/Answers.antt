use Rattle.std.proofs.Common.{◌++◌, ◌∷◌, [], codes, refl, arith}
use Rattle.made_line.proofs.NameTests.{named}
use Rattle.made_line.proofs.names.section_name.Goals as goal

pub name-requires : goal.name-requires
name-requires c =
    named (codes "q" ++ c.digit.result ∷ []) (omega arith) (omega arith) (rw (c.digit.ensures.printed) refl)
