use Rattle.std.proofs.Common.{◌≡◌, ℕ, zero, suc, ◌<◌, false, length, take, arith}
use Rattle.std.specs.Prelude.{replicate}
use Rattle.plan_model.specs.declared.limits.TheConstants.{MEMBERS}
use Rattle.train_order.specs.declared.member_set.MemberSet.{MemberSet}
use Rattle.train_order.specs.Sets.{holds, relates}
use Rattle.train_order.proofs.disorder.disorder_of.Goals as goal

-- sets into which nothing is put yet
none_related : (s : MemberSet) → ((k : ℕ) → holds s.words k ≡ false) → (m n i j : ℕ) → j < length (take n (replicate m s))
    → relates (take n (replicate m s)) i j ≡ false
none_related s none m zero i j l = absurd (omega (arith, l))
none_related s none zero (suc n) i j l = absurd (omega (arith, l))
none_related s none (suc m) (suc n) i zero l = none i
none_related s none (suc m) (suc n) i (suc j) l = none_related s none m n i j (omega (arith, l))

pub disorder_by-requires-clause-none : goal.disorder_by-requires-clause-none
disorder_by-requires-clause-none c = none_related c.new-room.result c.new-room.ensures MEMBERS c.member_count-count.result
