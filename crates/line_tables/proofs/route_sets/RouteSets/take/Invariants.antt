use Rattle.std.proofs.Common.{take}
use Rattle.line_tables.specs.Links.{block_of}
use Rattle.line_tables.specs.RouteSets.{NoneShorter, IsTakenAt}
use Rattle.line_tables.proofs.route_sets.RouteSets.take.Given as goal

abbrev pub invariant-loop-key : goal.invariant-loop-key
invariant-loop-key l = record {
  signals : IsTakenAt (λ q. q) (take l.key-index l.refs) l.route l.initial.self.of_signals l.self.of_signals;
  blocks : IsTakenAt (block_of l.signals) (take l.key-index l.refs) l.route l.initial.self.of_blocks l.self.of_blocks;
  signals_longer : NoneShorter l.initial.self.of_signals l.self.of_signals;
  blocks_longer : NoneShorter l.initial.self.of_blocks l.self.of_blocks;
}
