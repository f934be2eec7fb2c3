use Rattle.std.proofs.Common.{◌≡◌, ℕ, ◌<◌, ◌≤◌, ◌==◌, ◌||◌, slice_index}
use Rattle.std.specs.Int.{bit_at}
use Rattle.train_order.proofs.member_set.MemberSet.take_in.Given as goal

-- the words before the place have the bits of both sets, those from it on are as they were
abbrev pub invariant-loop-place : goal.invariant-loop-place
invariant-loop-place l = record {
  done : (w i : ℕ) → w < l.place → (bit_at (slice_index l.self.words w) i == 1)
      ≡ ((bit_at (slice_index l.fn.self.words w) i == 1) || (bit_at (slice_index l.fn.other.words w) i == 1));
  rest : (w : ℕ) → l.place ≤ w → slice_index l.self.words w ≡ slice_index l.fn.self.words w;
}
