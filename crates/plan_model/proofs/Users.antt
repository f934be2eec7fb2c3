-- Who uses a block, and the blocks that are used.
use Rattle.std.proofs.Common.{◌≡◌, ℕ, ◌<◌, true, inl, inr, ap, arith}
use Rattle.std.specs.List.{list_any}
use Rattle.std.proofs.lemmas.Bool.{cases_lt}
use Rattle.std.proofs.lemmas.List.{get_or_past}
use Rattle.plan_model.specs.declared.cut.Cut.{Cut}
use Rattle.plan_model.specs.Members.{block_count, blocks, member, member_count, members, no_member, uses_place}
use Rattle.plan_model.specs.Answer.{users, used_blocks}
use Rattle.plan_model.proofs.MemberTests.{has, has-range, in_range, has_any, has-filter, filter-has}

module _ (cut : Cut) where
  -- who uses a place is a member
  pub user_there : (i place : ℕ) → uses_place (member cut i) place ≡ true → i < member_count cut
  user_there i place h =
      elim (cases_lt i (member_count cut)) [
        | inl l ↦ l
        | inr past ↦
            absurd (let none = ap (λ r. uses_place r place) (get_or_past cut.rows i no_member past) in cc)
      ]

  pub is_user : (i place : ℕ) → i < member_count cut → uses_place (member cut i) place ≡ true
      → has (users cut place) i ≡ true
  is_user i place l u =
      has-filter (λ k. uses_place (member cut k) place) (members cut) i (has-range (member_count cut) i l) u

  pub user : (i place : ℕ) → has (users cut place) i ≡ true
      → (i < member_count cut) × (uses_place (member cut i) place ≡ true)
  user i place h =
      let at = filter-has (λ k. uses_place (member cut k) place) (members cut) i h in
      (omega (arith, in_range 0 (member_count cut) i at.0), at.1)

  pub is_used : (i block : ℕ) → i < member_count cut → block < block_count cut
      → uses_place (member cut i) block ≡ true → has (used_blocks cut) block ≡ true
  is_used i block l lb u =
      has-filter (λ b. list_any (λ k. uses_place (member cut k) b) (members cut)) (blocks cut) block
      (has-range (block_count cut) block lb)
      (has_any (λ k. uses_place (member cut k) block) (members cut) i (has-range (member_count cut) i l) u)
