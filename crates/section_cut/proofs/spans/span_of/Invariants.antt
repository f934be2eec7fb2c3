use Rattle.std.proofs.Common.{ℕ, ◌<◌, ◌≤◌, get_or}
use Rattle.section_cut.proofs.spans.span_of.Given as goal

-- the places so far
abbrev pub invariant-loop-place : goal.invariant-loop-place
invariant-loop-place l =
    (k : ℕ) → k < l.place → get_or l.positions (get_or l.list k 0) 0 < l.blocks → (l.span.from ≤ k) × (k < l.span.to)
