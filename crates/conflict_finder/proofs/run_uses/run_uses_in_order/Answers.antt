use Rattle.std.proofs.Common.{◌+◌, arith, get_or}
use Rattle.std.specs.List.{filter}
use Rattle.std.proofs.lemmas.List.Sorted.{IsPermutation-trans}
use Rattle.conflict_finder.specs.Runs.{run_uses_in_turn}
use Rattle.conflict_finder.specs.ByBlock.{goes_to}
use Rattle.conflict_finder.proofs.run_uses.run_uses_in_order.Goals as goal

pub returns-clause-uses : goal.returns-clause-uses
returns-clause-uses c i d l =
    let same = c.put_in_order.ensures.same in
    IsPermutation-trans (filter (goes_to c.args.last (c.args.first + i)) (run_uses_in_turn c.args.stairs.now c.args.starts.now)) (get_or c.in_ok-by_block.by_block.items i d).items (get_or c.put_in_order.new.by_block.items i d).items
    (c.in_ok-by_block.ensures.uses i d (omega (arith, l, same.count))) (same.each i d (omega (arith, l, same.count)))
