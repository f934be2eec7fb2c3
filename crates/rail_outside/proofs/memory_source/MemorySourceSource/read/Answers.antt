use Rattle.std.proofs.Common.{rules, refl, arith}
use Rattle.std.proofs.lemmas.Grind.{common_steps}
use Rattle.rail_outside.proofs.Given.{given_more, end_found}
use Rattle.rail_outside.proofs.memory_source.MemorySourceSource.read.Goals as goal

pub returns : goal.returns
returns c = record {
  fails = search rules;
  kept = tt;
  none_given = tt;
  piece_kept = tt;
  count = grind (arith, common_steps);
  given = grind (arith, common_steps);
  more = given_more _ _ _;
  left = grind (arith, common_steps);
  at_end = end_found _ _ _ _ _ refl refl c.found_end-self.ensures;
  reads = search rules;
  faults = search rules;
  later = search rules;
  same_piece = refl;
  same_fails = refl;
}
