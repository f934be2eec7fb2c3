use Rattle.std.proofs.Common.{arith}
use Rattle.capacity_report.specs.Blockings.{rows_at}
use Rattle.capacity_report.proofs.stairs.text_of_paths.Goals as goal

pub text_in_parts-requires-clause-accepts : goal.text_in_parts-requires-clause-accepts
text_in_parts-requires-clause-accepts g c κs inside part rise within =
    (rise, omega (arith, within, c.requires.few), omega (arith, within, c.requires.count), c.requires.named)

pub returns : goal.returns
returns g c = c.text_in_parts.ensures (rows_at c.args.names.now c.args.paths.now) (λ part made rise within gave. gave.1)
