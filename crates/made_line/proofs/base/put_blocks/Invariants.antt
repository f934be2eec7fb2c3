use Rattle.std.proofs.Common.{◌≡◌, ◌++◌, map}
use Rattle.made_line.specs.Base.{after_draws, first_blocks, put_block}
use Rattle.made_line.proofs.base.put_blocks.Given as goal

abbrev pub invariant-loop-i : goal.invariant-loop-i
invariant-loop-i l = record {
  edits : l.edits ≡ l.fn.edits ++ map put_block (first_blocks l.fn.draws.x l.i);
  drawn : l.draws.x ≡ after_draws l.fn.draws.x l.i;
}
