use Rattle.std.proofs.Common.{◌≡◌, ℕ, ◌<◌, [], length, get_or}
use Rattle.section_cut.specs.declared.spans.BlockRange.{BlockRange}
use Rattle.section_cut.specs.Spans.{IsSpan}
use Rattle.section_cut.proofs.spans.list_spans.Given as goal

-- the lists so far
abbrev pub invariant-loop-list : goal.invariant-loop-list
invariant-loop-list l = record {
  count : length l.spans.items ≡ l.list-index;
  each : (k : ℕ) (d : BlockRange) → k < l.list-index → IsSpan l.positions l.blocks (get_or l.lists k []) (get_or l.spans.items k d);
}
