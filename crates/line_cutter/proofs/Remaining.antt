-- What remains: members, each preceded by one that remains.
use Rattle.std.proofs.Common.{◌≡◌, ℕ, ◌<◌, true, arith}
use Rattle.std.specs.List.{list_any}
use Rattle.plan_model.specs.declared.cut.Cut.{Cut}
use Rattle.plan_model.specs.Members.{member_count, members, precedes_somewhere}
use Rattle.plan_model.specs.Disorder.{preceded, remaining}
use Rattle.plan_model.proofs.MemberTests.{has, in_range, filter-has}
use Rattle.plan_model.proofs.Remaining.{remaining_is_left}
use Rattle.train_order.proofs.Find.{find_some}
use Rattle.plan_model.proofs.TrueRing.{of_rounds}

module _ (cut : Cut) where
  -- what remains is a member
  pub remaining_there : (j : ℕ) → has (remaining cut) j ≡ true → j < member_count cut
  remaining_there j h =
      omega (arith, in_range 0 (member_count cut) j (of_rounds cut (member_count cut) (members cut) j h))

  -- and is preceded by one that remains
  pub remaining_preceded : (j : ℕ) → has (remaining cut) j ≡ true
      → (i : ℕ) × (has (remaining cut) i ≡ true) × (precedes_somewhere cut i j ≡ true)
  remaining_preceded j h =
      let left : has (preceded cut (remaining cut)) j ≡ true = rw (remaining_is_left cut) h in
      let some = (filter-has (λ j. list_any (λ i. precedes_somewhere cut i j) (remaining cut)) (remaining cut) j left).1 in
      let by = find_some (λ i. precedes_somewhere cut i j) (remaining cut) some in
      (by.0, by.2, by.3)
