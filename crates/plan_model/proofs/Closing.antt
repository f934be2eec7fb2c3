-- The occupancy time lies between the entries of a train that opens all blocks and of its closing copy.
use Rattle.std.proofs.Common.{◌≡◌, ℕ, suc, ◌<◌, ◌≤◌, Bool, true, List, [], ◌∷◌, length, get_or, inl, inr, refl, sym, subst, arith}
use Rattle.std.specs.Prelude.{ℤ, pos, negsuc, ◌+ℤ◌, ◌-ℤ◌, ◌≤ℤ◌, ◌<ℤ◌, nat_abs, ◌==◌, filter}
use Rattle.std.specs.List.{list_any}
use Rattle.std.proofs.lemmas.Bool.{cases_Bool, cases_eq, ltb-true, eq-eqb}
use Rattle.std.proofs.lemmas.Int.{ints}
use Rattle.std.proofs.lemmas.List.Folds.{list_any_at}
use Rattle.rail_model.specs.declared.stair.Use.{Use}
use Rattle.rail_model.proofs.Numbers.{le_both_ways}
use Rattle.plan_model.specs.declared.cut.Cut.{Cut}
use Rattle.plan_model.specs.Members.{block_count, blocks, member, members, no_member, uses_place, use_at, no_use}
use Rattle.plan_model.specs.Cut.{IsSoundCut, is_block}
use Rattle.plan_model.specs.Schedule.{entry_at, start_at, start_by, end_by, IsSchedule}
use Rattle.plan_model.specs.Answer.{users, used_blocks, first_start, last_end, time_kept, occupancy, PrecedesOnAllBlocks, IsAfterAll, IsClosingEntry}
use Rattle.plan_model.specs.Laws.{OccupancyIsToClosing}
use Rattle.plan_model.proofs.MemberTests.{has, in_range, filter-has, some_member}
use Rattle.plan_model.proofs.Uses.{takes_time}
use Rattle.plan_model.proofs.Users.{is_user, user, is_used}
use Rattle.plan_model.proofs.Greatest.{above_each, greatest_within, below_each, least_within, longest_above, longest_within}

-- ---- whole numbers

pub abs_is : (z : ℤ) → pos 0 ≤ℤ z → pos (nat_abs z) ≡ z
abs_is (pos n) h = refl
abs_is (negsuc n) h = absurd (omega (arith, ints, h))

-- what starts before it ends, and ends before another starts, starts before it
pub starts_before : (s f e x t : ℤ) → s <ℤ f → (f -ℤ e +ℤ x) ≤ℤ t → (s -ℤ e +ℤ x) ≤ℤ t
starts_before s f e x t h l = omega (arith, ints)

-- an entry that is later by some time is a start that is later by it
later : (s e x y m : ℤ) → m ≤ℤ (s -ℤ e +ℤ y) → (m -ℤ (s -ℤ e +ℤ x)) ≤ℤ (y -ℤ x)
later s e x y m h = omega (arith, ints)

pub not_negative : (a b : ℤ) → a ≤ℤ b → pos 0 ≤ℤ (b -ℤ a)
not_negative a b h = omega (arith, ints)

reached : (s e x m : ℤ) (k o : ℕ) → pos k ≡ (m -ℤ (s -ℤ e +ℤ x)) → k ≤ o → m ≤ℤ (s -ℤ e +ℤ (x +ℤ pos o))
reached s e x m k o h l = omega (arith, ints)

pub back : (x y : ℤ) (o : ℕ) → y ≤ℤ (x +ℤ pos o) → (y -ℤ x) ≤ℤ pos o
back x y o h = omega (arith, ints)

below_pos : (k : ℕ) (z : ℤ) → pos k ≤ℤ z → k ≤ nat_abs z
below_pos k (pos n) h = omega (arith, ints, h)
below_pos k (negsuc n) h = absurd (omega (arith, ints, h))

le_pos : (k : ℕ) (z : ℤ) → pos 0 ≤ℤ z → k ≤ nat_abs z → pos k ≤ℤ z
le_pos k (pos n) p h = omega (arith, ints, h)
le_pos k (negsuc n) p h = absurd (omega (arith, ints, p))

-- one of the items that pass a test
some_passes : {X : Type 0} (test : X → Bool) (xs : List X) (d : X) → 0 < length (filter test xs)
    → (k : ℕ) × (k < length xs) × (test (get_or xs k d) ≡ true)
some_passes test [] d h = absurd (omega (arith, h))
some_passes test (x ∷ xs) d h =
    elim (cases_Bool (test x)) [
      | inl e ↦ (0, omega arith, e)
      | inr e ↦ let rest = some_passes test xs d (rw e at h) in (suc rest.0, omega (arith, rest.1), rest.2)
    ]

module _ (cut : Cut) (entries : List ℤ) (c : ℕ) (entry : ℤ) (sound : IsSoundCut cut)
    (schedule : IsSchedule cut entries)
    (opens : PrecedesOnAllBlocks cut c) (closing : IsClosingEntry cut entries c entry) where
  abbrev Uses : ℕ → ℕ → Type 0
  Uses j b = uses_place (member cut j) b ≡ true

  abbrev opening : ℤ
  opening = entry_at entries c

  -- the opening train uses each block that is used
  used : (b : ℕ) → has (used_blocks cut) b ≡ true → (b < block_count cut) × Uses c b
  used b h =
      let at = filter-has (λ b. list_any (λ i. uses_place (member cut i) b) (members cut)) (blocks cut) b h in
      let lb : b < block_count cut = omega (arith, in_range 0 (block_count cut) b at.0) in
      let one = some_member cut (λ i. uses_place (member cut i) b) at.1 in
      (lb, opens.uses one.0 b one.1 lb one.2)

  module _ (b : ℕ) (lb : b < block_count cut) (u : Uses c b) where
    -- it is the first there
    starts_first : (j : ℕ) → has (users cut b) j ≡ true → start_by cut entries c b ≤ℤ start_by cut entries j b
    starts_first j h =
        let at = user cut j b h in
        elim (cases_eq j c) [
          | inl e ↦ subst (λ k. start_by cut entries c b ≤ℤ start_by cut entries k b) (sym e) (omega (arith, ints))
          | inr ne ↦
              starts_before (use_at (member cut c) b).start (use_at (member cut c) b).«end»
              (member cut c).entry opening _
              (takes_time cut sound c b opens.is_there u)
              (schedule.order c j b opens.is_there at.0 (opens.first j b at.0 ne lb at.1))
        ]

    first_is : first_start cut entries b ≡ start_by cut entries c b
    first_is =
        le_both_ways _ _ (below_each (λ i. start_by cut entries i b) (users cut b) c (is_user cut c b opens.is_there u))
        (least_within (λ i. start_by cut entries i b) (start_by cut entries c b) (users cut b) c
        (is_user cut c b opens.is_there u) starts_first)

    last_after : start_by cut entries c b ≤ℤ last_end cut entries b
    last_after =
        starts_before (use_at (member cut c) b).start (use_at (member cut c) b).«end» (member cut c).entry opening _
        (takes_time cut sound c b opens.is_there u)
        (above_each (λ i. end_by cut entries i b) (users cut b) c (is_user cut c b opens.is_there u))

    time_is : pos (time_kept cut entries b) ≡ last_end cut entries b -ℤ start_by cut entries c b
    time_is = rw first_is (abs_is _ (not_negative _ _ last_after))

    last_before : last_end cut entries b ≤ℤ start_at (member cut c) entry b
    last_before =
        greatest_within (λ i. end_by cut entries i b) _ (users cut b) c (is_user cut c b opens.is_there u)
        (λ j h. let at = user cut j b h in closing.after_all j b at.0 lb at.1 u)

    -- the block is kept no longer than from the opening to the closing entry
    within : pos (time_kept cut entries b) ≤ℤ (entry -ℤ opening)
    within =
        rw time_is (later (use_at (member cut c) b).start (member cut c).entry opening entry (last_end cut entries b)
        last_before)

  -- the opening train uses a block
  some_block : (b : ℕ) × (b < block_count cut) × Uses c b
  some_block =
      let row = member cut c in
      let at = some_passes (λ (u : Use). is_block cut u.block) row.uses no_use
      (sound.each c no_member opens.is_there).some_block in
      let b = (get_or row.uses at.0 no_use).block in (
        b,
        ltb-true b (block_count cut) at.2,
        list_any_at (λ (u : Use). u.block == b) row.uses at.0 no_use at.1 (eq-eqb b b refl),
      )

  period : pos 0 ≤ℤ (entry -ℤ opening)
  period = let w = within some_block.0 some_block.1 some_block.2 in omega (arith, ints, w)

  at_most : pos (occupancy cut entries) ≤ℤ (entry -ℤ opening)
  at_most =
      le_pos (occupancy cut entries) _ period
      (longest_within (time_kept cut entries) _ (used_blocks cut)
      (λ b h. let at = used b h in below_pos (time_kept cut entries b) _ (within b at.0 at.1)))

  after_all : IsAfterAll cut entries c (opening +ℤ pos (occupancy cut entries))
  after_all j b lj lb u of_c =
      let last = above_each (λ i. end_by cut entries i b) (users cut b) j (is_user cut j b lj u) in
      let meets =
      reached (use_at (member cut c) b).start (member cut c).entry opening (last_end cut entries b)
      (time_kept cut entries b)
      (occupancy cut entries) (time_is b lb of_c)
      (longest_above (time_kept cut entries) (used_blocks cut) b (is_used cut j b lj lb u)) in
      omega (arith, ints, last, meets)

  pub is_to_closing : pos (occupancy cut entries) ≡ entry -ℤ opening
  is_to_closing = le_both_ways _ _ at_most (back opening entry (occupancy cut entries) (closing.least _ after_all))

pub occupancy_is_to_closing : OccupancyIsToClosing
occupancy_is_to_closing = is_to_closing
