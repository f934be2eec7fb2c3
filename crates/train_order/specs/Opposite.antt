-- The search for opposite members in the sets of those that precede each.
use Rattle.std.specs.Prelude.{ℕ, ◌-◌, Bool, ◌&&◌, List, length, find, Option}
use Rattle.std.specs.List.{range_with_len}
use Rattle.plan_model.specs.Disorder.{pairs}
use Rattle.train_order.specs.Types.{MemberSet}
use Rattle.plan_model.specs.declared.cut.Cut.{Cut}
use Rattle.plan_model.specs.Disorder.{opposite_of}
use Rattle.plan_model.specs.declared.answer.Disorder.{Disorder}
use Rattle.plan_model.specs.declared.answer.Disorder.TheVariants as disorder
use Rattle.train_order.specs.Sets.{relates}

-- each of two members precedes the other
abbrev pub oppose : List MemberSet → ℕ → ℕ → Bool
oppose sets i j = relates sets i j && relates sets j i

-- the first member that i opposes, among those from one on and before another
abbrev pub opposed_by : List MemberSet → ℕ → ℕ → ℕ → Option ℕ
opposed_by sets i from until = find (oppose sets i) (range_with_len from (until - from))

-- the first pair
abbrev pub first_opposed : List MemberSet → Option (ℕ × ℕ)
first_opposed sets = find (λ p. oppose sets p.0 p.1) (pairs (length sets))

-- the answer that two members are opposite
abbrev pub told_opposite : Cut → ℕ → ℕ → Disorder
told_opposite cut i j =
    let o = opposite_of cut (i, j) in disorder.Opposite o.first o.second o.block1 o.block2
