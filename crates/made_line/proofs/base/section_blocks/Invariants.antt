use Rattle.std.proofs.Common.{◌≡◌, ◌*◌}
use Rattle.made_line.specs.Base.{block_names}
use Rattle.made_line.proofs.base.section_blocks.Given as goal

abbrev pub invariant-loop-k : goal.invariant-loop-k
invariant-loop-k l = l.blocks ≡ block_names (8 * l.fn.j) l.k
