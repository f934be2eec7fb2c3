use Rattle.line_tables.specs.Table.{AreAtKeys}
use Rattle.line_tables.specs.Hops.{hop_of}
use Rattle.line_tables.proofs.run_paths.hops_by_key.Given as goal

-- the hops beyond the signals so far
abbrev pub invariant-loop-number : goal.invariant-loop-number
invariant-loop-number l = AreAtKeys (λ i k. hop_of l.blocks l.signals k) l.number l.signals l.hops.items
