-- Members of which each is preceded by one of them remain.
use Rattle.std.proofs.Common.{◌≡◌, ℕ, zero, suc, ◌<◌, true, List}
use Rattle.std.specs.List.{list_any}
use Rattle.plan_model.specs.declared.cut.Cut.{Cut}
use Rattle.plan_model.specs.Members.{is_among, member_count, members, precedes_somewhere}
use Rattle.plan_model.specs.Disorder.{preceded, after_rounds, remaining, PrecededRemain}
use Rattle.plan_model.proofs.MemberTests.{has-range, has_any, has-filter}

module _ (cut : Cut) (P : ℕ → Type 0) (there : (j : ℕ) → P j → j < member_count cut)
    (each : (j : ℕ) → P j → (i : ℕ) × P i × (precedes_somewhere cut i j ≡ true)) where
  -- where all of them are among others, one round takes out none, nor do more
  stay : (others : List ℕ) → ((j : ℕ) → P j → is_among others j ≡ true) → (j : ℕ) → P j
      → is_among (preceded cut others) j ≡ true
  stay others all j h =
      let by = each j h in
      has-filter (λ j. list_any (λ i. precedes_somewhere cut i j) others) others j (all j h)
      (has_any (λ i. precedes_somewhere cut i j) others by.0 (all by.0 by.1) by.2)

  stay_on : (n : ℕ) (others : List ℕ) → ((j : ℕ) → P j → is_among others j ≡ true) → (j : ℕ) → P j
      → is_among (after_rounds cut n others) j ≡ true
  stay_on zero others all j h = all j h
  stay_on (suc n) others all j h = stay_on n (preceded cut others) (stay others all) j h

  pub remain : (j : ℕ) → P j → is_among (remaining cut) j ≡ true
  remain = stay_on (member_count cut) (members cut) (λ j h. has-range (member_count cut) j (there j h))

pub preceded_remain : PrecededRemain
preceded_remain cut some each =
    remain cut (λ j. is_among some j ≡ true) (λ j h. (each j h).there)
    (λ j h. let by = each j h in (by.member, by.among, by.precedes))
