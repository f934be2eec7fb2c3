use Rattle.std.proofs.Common.{◌≡◌, get_or, map, take}
use Rattle.line_tables.proofs.passing.numbers_at.Given as goal

-- the numbers so far
abbrev pub invariant-loop-key : goal.invariant-loop-key
invariant-loop-key l = l.found.items ≡ map (λ k. get_or l.numbers k 0) (take l.key-index l.keys)
