-- The occupancy time of members and copies: each block that the copies use is kept up to the end of the last copy.
use Rattle.std.proofs.Common.{◌≡◌, ℕ, suc, ◌+◌, ◌-◌, ◌*◌, ◌<◌, ◌≤◌, max, true, false, List, replicate, inl, inr, sym, ap, subst, ◌∙◌, arith, length-append}
use Rattle.std.specs.Prelude.{◌⊎◌, ℤ, pos, ◌+ℤ◌, ◌-ℤ◌, ◌≤ℤ◌, ◌<ℤ◌, ◌++◌, nat_abs}
use Rattle.std.specs.List.{list_any}
use Rattle.std.proofs.lemmas.Bool.{cases_Bool, cases_lt, both_ways}
use Rattle.std.proofs.lemmas.Int.{ints}
use Rattle.std.proofs.lemmas.List.{get_or_append_left, get_or-append-add, get_or-replicate, length-replicate}
use Rattle.std.proofs.Math.Nat.{mul-le-mul_right}
use Rattle.rail_model.proofs.Numbers.{le_both_ways}
use Rattle.plan_model.specs.declared.cut.CutRow.{CutRow}
use Rattle.plan_model.specs.declared.cut.Cut.{Cut}
use Rattle.plan_model.specs.Members.{block_count, blocks, member, member_count, members, no_member, uses_place, use_at}
use Rattle.plan_model.specs.Cut.{IsSoundCut}
use Rattle.plan_model.specs.Schedule.{entry_at, start_at, end_at, start_by, end_by, IsLeast}
use Rattle.plan_model.specs.Answer.{users, used_blocks, first_start, last_end, time_kept, occupancy}
use Rattle.plan_model.proofs.Closing.{abs_is, not_negative as difference}
use Rattle.plan_model.proofs.MemberTests.{has, in_range, filter-has, some_member}
use Rattle.plan_model.proofs.Uses.{takes_time}
use Rattle.plan_model.proofs.Users.{is_user, user, is_used}
use Rattle.plan_model.proofs.Greatest.{above_each, greatest_within, below_each, least_within, longest_above, longest_within}
use Rattle.path_fill.specs.Filling.{with_copies}
use Rattle.path_fill.specs.Search.{kept_to, IsGreatest}
use Rattle.path_fill.proofs.FirstCopy.{IsFirstCopy, ends_later}
use Rattle.path_fill.proofs.Least.{IsOwnHeadway, copy_entry, copy_entries, at}

-- ---- moments

-- a copy that enters at the first copy's entry or later starts and ends no earlier than it
start_later : (s e y : ℤ) (a : ℕ) → (s -ℤ e +ℤ y) ≤ℤ (s -ℤ e +ℤ (y +ℤ pos a))
start_later s e y a = omega (arith, ints)

end_later : (f e y : ℤ) (a b : ℕ) → a ≤ b → (f -ℤ e +ℤ (y +ℤ pos a)) ≤ℤ (f -ℤ e +ℤ (y +ℤ pos b))
end_later f e y a b l = omega (arith, ints, l)

-- the first start of a block, the member's own start, its end, and the start of a copy
before_copy : (first s f e x y : ℤ) → first ≤ℤ (s -ℤ e +ℤ x) → s <ℤ f → (f -ℤ e +ℤ x) ≤ℤ (s -ℤ e +ℤ y)
    → first ≤ℤ (s -ℤ e +ℤ y)
before_copy first s f e x y a t b = omega (arith, ints, a, t, b)

not_negative : (first s f e y : ℤ) → first ≤ℤ (s -ℤ e +ℤ y) → s <ℤ f → pos 0 ≤ℤ ((f -ℤ e +ℤ y) -ℤ first)
not_negative first s f e y a t = omega (arith, ints, a, t)

moved : (f e y first : ℤ) (a : ℕ) → ((f -ℤ e +ℤ (y +ℤ pos a)) -ℤ first) ≡ (((f -ℤ e +ℤ y) -ℤ first) +ℤ pos a)
moved f e y first a = omega (arith, ints)

still_positive : (z : ℤ) (a : ℕ) → pos 0 ≤ℤ z → pos 0 ≤ℤ (z +ℤ pos a)
still_positive z a h = omega (arith, ints, h)

time_within : (t first a : ℕ) (kept : ℤ) → pos t ≡ kept +ℤ pos a → kept ≤ℤ pos first → t ≤ first + a
time_within t first a kept is l = omega (arith, ints, is, l)

time_reached : (t first a : ℕ) (kept : ℤ) → pos t ≡ kept +ℤ pos a → pos first ≤ℤ kept → first + a ≤ t
time_reached t first a kept is l = omega (arith, ints, is, l)

no_longer : (t u : ℕ) (last first end : ℤ) → pos t ≡ last -ℤ first → pos u ≡ end -ℤ first → last ≤ℤ end → t ≤ u
no_longer t u last first end a b l = omega (arith, ints, a, b, l)

through : (a s f b : ℤ) → a ≤ℤ s → s ≤ℤ f → f ≤ℤ b → a ≤ℤ b
through a s f b x y z = omega (arith, ints, x, y, z)

own_time : (s f e x : ℤ) → s <ℤ f → (s -ℤ e +ℤ x) ≤ℤ (f -ℤ e +ℤ x)
own_time s f e x t = omega (arith, ints, t)

module _ (cut : Cut) (sound : IsSoundCut cut) (r : ℕ) (there : r < member_count cut) (entries : List ℤ)
    (least : IsLeast cut entries) (entry : ℤ) (headway : ℕ) (first : IsFirstCopy cut r entries entry)
    (own : IsOwnHeadway cut r headway) (more : ℕ) where
  abbrev copies : List ℤ
  copies = copy_entries entry headway (suc more)

  abbrev filled : Cut
  filled = with_copies cut r (suc more)

  abbrev all : List ℤ
  all = entries ++ copies

  abbrev n : ℕ
  n = member_count cut

  row : CutRow
  row = member cut r

  -- ---- members and copies

  many : member_count filled ≡ n + suc more
  many =
      length-append cut.rows (replicate (suc more) (member cut r))
      ∙ ap (λ k. n + k) (length-replicate (suc more) (member cut r))

  member_is : (i : ℕ) → i < n → member filled i ≡ member cut i
  member_is i l = get_or_append_left cut.rows (replicate (suc more) (member cut r)) no_member i l

  copy_is : (q : ℕ) → q < suc more → member filled (n + q) ≡ member cut r
  copy_is q l =
      get_or-append-add cut.rows (replicate (suc more) (member cut r)) q no_member
      ∙ get_or-replicate (suc more) q (member cut r) no_member l

  entry_is : (i : ℕ) → i < n → entry_at all i ≡ entry_at entries i
  entry_is i l = get_or_append_left entries copies (pos 0) i (omega (arith, l, least.schedule.count))

  copy_entry_is : (q : ℕ) → q < suc more → entry_at all (n + q) ≡ copy_entry entry headway q
  copy_entry_is q l =
      ap (λ m. entry_at all (m + q)) (sym least.schedule.count) ∙ get_or-append-add entries copies q (pos 0)
      ∙ at cut r entries entry headway least first own (suc more) q (pos 0) l

  start_is : (i b : ℕ) → i < n → start_by filled all i b ≡ start_by cut entries i b
  start_is i b l =
      ap (λ m. start_at m (entry_at all i) b) (member_is i l) ∙ ap (λ x. start_at (member cut i) x b) (entry_is i l)

  end_is : (i b : ℕ) → i < n → end_by filled all i b ≡ end_by cut entries i b
  end_is i b l =
      ap (λ m. end_at m (entry_at all i) b) (member_is i l) ∙ ap (λ x. end_at (member cut i) x b) (entry_is i l)

  copy_start_is : (q b : ℕ) → q < suc more
      → start_by filled all (n + q) b ≡ start_at (member cut r) (copy_entry entry headway q) b
  copy_start_is q b l =
      ap (λ m. start_at m (entry_at all (n + q)) b) (copy_is q l)
      ∙ ap (λ x. start_at (member cut r) x b) (copy_entry_is q l)

  copy_end_is : (q b : ℕ) → q < suc more
      → end_by filled all (n + q) b ≡ end_at (member cut r) (copy_entry entry headway q) b
  copy_end_is q b l =
      ap (λ m. end_at m (entry_at all (n + q)) b) (copy_is q l)
      ∙ ap (λ x. end_at (member cut r) x b) (copy_entry_is q l)

  -- ---- users

  member_user : (i b : ℕ) → i < n → uses_place (member cut i) b ≡ true → has (users filled b) i ≡ true
  member_user i b l u =
      is_user filled i b (omega (arith, l, many)) (ap (λ m. uses_place m b) (member_is i l) ∙ u)

  copy_user : (q b : ℕ) → q < suc more → uses_place (member cut r) b ≡ true → has (users filled b) (n + q) ≡ true
  copy_user q b l u =
      is_user filled (n + q) b (omega (arith, l, many)) (ap (λ m. uses_place m b) (copy_is q l) ∙ u)

  -- a member, or a copy of member r
  pub record IsCopy (b i : ℕ) : Type 0 where
    pub copy : ℕ
    pub below : copy < suc more
    pub is : i ≡ n + copy
    pub uses : uses_place (member cut r) b ≡ true

  member_or_copy : (i b : ℕ) → i < member_count filled → uses_place (member filled i) b ≡ true
      → ((i < n) × (uses_place (member cut i) b ≡ true)) ⊎ IsCopy b i
  member_or_copy i b l u =
      elim (cases_lt i n) [
        | inl li ↦ inl (li, sym (ap (λ m. uses_place m b) (member_is i li)) ∙ u)
        | inr past ↦
            let q = i - n in
            let e : i ≡ n + q = omega (arith, past) in
            let lq : q < suc more = omega (arith, l, many, past) in
            inr (record {
              copy = q;
              below = lq;
              is = e;
              uses =
                  sym (ap (λ m. uses_place m b) (copy_is q lq))
                  ∙ subst (λ k. uses_place (member filled k) b ≡ true) e u;
            })
      ]

  user_is : (i b : ℕ) → has (users filled b) i ≡ true
      → ((i < n) × (uses_place (member cut i) b ≡ true)) ⊎ IsCopy b i
  user_is i b h = let u = user filled i b h in member_or_copy i b u.0 u.1

  -- ---- the first start and the last end of a block

  abbrev starts : ℕ → ℕ → ℤ
  starts b i = start_by filled all i b

  own_first : (b : ℕ) → uses_place (member cut r) b ≡ true → first_start cut entries b ≤ℤ start_by cut entries r b
  own_first b u = below_each (λ i. start_by cut entries i b) (users cut b) r (is_user cut r b there u)

  -- the first start comes before the first copy's
  first_before : (b : ℕ) → b < block_count cut → uses_place (member cut r) b ≡ true
      → first_start cut entries b ≤ℤ start_at (member cut r) entry b
  first_before b lb u =
      before_copy (first_start cut entries b) (use_at (member cut r) b).start (use_at (member cut r) b).«end»
      (member cut r).entry (entry_at entries r) entry (own_first b u) (takes_time cut sound r b there u)
      (first.after_all r b there lb u u)

  first_is : (b j : ℕ) → b < block_count cut → j < n → uses_place (member cut j) b ≡ true
      → first_start filled all b ≡ first_start cut entries b
  first_is b j lb lj uj =
      le_both_ways (first_start filled all b) (first_start cut entries b)
      (least_within (λ i. start_by cut entries i b) (first_start filled all b) (users cut b) j (is_user cut j b lj uj)
      (λ i h.
      let u = user cut i b h in
      subst (λ x. first_start filled all b ≤ℤ x) (start_is i b u.0)
      (below_each (λ k. start_by filled all k b) (users filled b) i (member_user i b u.0 u.1))))
      (least_within (λ i. start_by filled all i b) (first_start cut entries b) (users filled b) j
      (member_user j b lj uj)
      (λ i h.
      elim (user_is i b h) [
        | inl (li, ui) ↦
            subst (λ x. first_start cut entries b ≤ℤ x) (sym (start_is i b li))
            (below_each (λ k. start_by cut entries k b) (users cut b) i (is_user cut i b li ui))
        | inr c ↦
            let q = c.copy in
            let at_copy = start_later (use_at (member cut r) b).start (member cut r).entry entry (q * headway) in
            let before = first_before b lb c.uses in
            let is : starts b i ≡ start_at (member cut r) (copy_entry entry headway q) b =
            ap (λ k. start_by filled all k b) c.is ∙ copy_start_is q b c.below in
            subst (λ x. first_start cut entries b ≤ℤ x) (sym is) (omega (arith, ints, at_copy, before))
      ]))

  -- a member's use of a block ends before the first copy's
  ends_first : (b i : ℕ) → b < block_count cut → i < n → uses_place (member cut i) b ≡ true
      → uses_place (member cut r) b ≡ true → end_by cut entries i b ≤ℤ end_at (member cut r) entry b
  ends_first b i lb li ui ur =
      ends_later (end_by cut entries i b) (use_at (member cut r) b).start (use_at (member cut r) b).«end»
      (member cut r).entry entry (first.after_all i b li lb ui ur) (takes_time cut sound r b there ur)

  last_with : (b : ℕ) → b < block_count cut → uses_place (member cut r) b ≡ true
      → last_end filled all b ≡ end_at (member cut r) (copy_entry entry headway more) b
  last_with b lb u =
      let z = end_at (member cut r) (copy_entry entry headway more) b in
      let f = (use_at (member cut r) b).«end» in
      let e = (member cut r).entry in
      let last : more < suc more = omega arith in
      le_both_ways (last_end filled all b) z
      (greatest_within (λ i. end_by filled all i b) z (users filled b) (n + more) (copy_user more b last u)
      (λ i h.
      elim (user_is i b h) [
        | inl (li, ui) ↦
            let ends = ends_first b i lb li ui u in
            let later = end_later f e entry 0 (more * headway) (omega arith) in
            subst (λ x. x ≤ℤ z) (sym (end_is i b li)) (omega (arith, ints, ends, later))
        | inr c ↦
            let q = c.copy in
            let times : q * headway ≤ more * headway = mul-le-mul_right headway (omega (arith, c.below)) in
            let is : end_by filled all i b ≡ end_at (member cut r) (copy_entry entry headway q) b =
            ap (λ k. end_by filled all k b) c.is ∙ copy_end_is q b c.below in
            subst (λ x. x ≤ℤ z) (sym is) (end_later f e entry (q * headway) (more * headway) times)
      ]))
      (subst (λ x. x ≤ℤ last_end filled all b) (copy_end_is more b last)
      (above_each (λ i. end_by filled all i b) (users filled b) (n + more) (copy_user more b last u)))

  last_without : (b j : ℕ) → j < n → uses_place (member cut j) b ≡ true → uses_place (member cut r) b ≡ false
      → last_end filled all b ≡ last_end cut entries b
  last_without b j lj uj fails =
      le_both_ways (last_end filled all b) (last_end cut entries b)
      (greatest_within (λ i. end_by filled all i b) (last_end cut entries b) (users filled b) j (member_user j b lj uj)
      (λ i h.
      elim (user_is i b h) [
        | inl (li, ui) ↦
            subst (λ x. x ≤ℤ last_end cut entries b) (sym (end_is i b li))
            (above_each (λ k. end_by cut entries k b) (users cut b) i (is_user cut i b li ui))
        | inr c ↦ absurd (both_ways (uses_place (member cut r) b) fails c.uses)
      ]))
      (greatest_within (λ i. end_by cut entries i b) (last_end filled all b) (users cut b) j (is_user cut j b lj uj)
      (λ i h.
      let u = user cut i b h in
      subst (λ x. x ≤ℤ last_end filled all b) (end_is i b u.0)
      (above_each (λ k. end_by filled all k b) (users filled b) i (member_user i b u.0 u.1))))

  -- ---- how long a block is kept

  kept_some : (b : ℕ) → b < block_count cut → uses_place (member cut r) b ≡ true
      → pos 0 ≤ℤ kept_to cut r entries entry b
  kept_some b lb u =
      not_negative (first_start cut entries b) (use_at (member cut r) b).start (use_at (member cut r) b).«end»
      (member cut r).entry entry (first_before b lb u) (takes_time cut sound r b there u)

  kept_with : (b : ℕ) → b < block_count cut → uses_place (member cut r) b ≡ true
      → pos (time_kept filled all b) ≡ kept_to cut r entries entry b +ℤ pos (more * headway)
  kept_with b lb u =
      let last = last_with b lb u in
      let start = first_is b r lb there u in
      let f = (use_at (member cut r) b).«end» in
      let e = (member cut r).entry in
      let is : (last_end filled all b -ℤ first_start filled all b)
      ≡ kept_to cut r entries entry b +ℤ pos (more * headway) =
      ap (λ x. x -ℤ first_start filled all b) last
      ∙ ap (λ x. end_at (member cut r) (copy_entry entry headway more) b -ℤ x) start
      ∙ moved f e entry (first_start cut entries b) (more * headway) in
      abs_is (last_end filled all b -ℤ first_start filled all b)
      (subst (λ x. pos 0 ≤ℤ x) (sym is)
      (still_positive (kept_to cut r entries entry b) (more * headway) (kept_some b lb u)))
      ∙ is

  kept_without : (b j : ℕ) → b < block_count cut → j < n → uses_place (member cut j) b ≡ true
      → uses_place (member cut r) b ≡ false → time_kept filled all b ≡ time_kept cut entries b
  kept_without b j lb lj uj fails =
      ap (λ x. nat_abs (x -ℤ first_start filled all b)) (last_without b j lj uj fails)
      ∙ ap (λ x. nat_abs (last_end cut entries b -ℤ x)) (first_is b j lb lj uj)

  kept_alone : (b : ℕ) → uses_place (member cut r) b ≡ true
      → pos (time_kept cut entries b) ≡ last_end cut entries b -ℤ first_start cut entries b
  kept_alone b u =
      let t = takes_time cut sound r b there u in
      abs_is (last_end cut entries b -ℤ first_start cut entries b)
      (difference (first_start cut entries b) (last_end cut entries b)
      (through (first_start cut entries b) (start_by cut entries r b) (end_by cut entries r b) (last_end cut entries b)
      (own_first b u)
      (own_time (use_at (member cut r) b).start (use_at (member cut r) b).«end» (member cut r).entry
      (entry_at entries r) t)
      (above_each (λ i. end_by cut entries i b) (users cut b) r (is_user cut r b there u))))

  alone_no_longer : (b : ℕ) → b < block_count cut → uses_place (member cut r) b ≡ true
      → time_kept cut entries b ≤ time_kept filled all b
  alone_no_longer b lb u =
      let z = end_at (member cut r) entry b in
      let ends : last_end cut entries b ≤ℤ z =
      greatest_within (λ i. end_by cut entries i b) z (users cut b) r (is_user cut r b there u)
      (λ i h. (let v = user cut i b h in ends_first b i lb v.0 v.1 u)) in
      let short = abs_is (kept_to cut r entries entry b) (kept_some b lb u) in
      let by_first : time_kept cut entries b ≤ nat_abs (kept_to cut r entries entry b) =
      no_longer (time_kept cut entries b) (nat_abs (kept_to cut r entries entry b)) (last_end cut entries b)
      (first_start cut entries b) z (kept_alone b u) short ends in
      let longer = kept_with b lb u in
      omega (arith, ints, by_first, short, longer)

  -- ---- the occupancy time

  block_of : (some : Cut) (b : ℕ) → has (used_blocks some) b ≡ true
      → (b < block_count some) × ((i : ℕ) × (i < member_count some) × (uses_place (member some i) b ≡ true))
  block_of some b h =
      let at = filter-has (λ c. list_any (λ i. uses_place (member some i) c) (members some)) (blocks some) b h in
      (omega (arith, in_range 0 (block_count some) b at.0), some_member some (λ i. uses_place (member some i) b) at.1)

  used_in_all : (b i : ℕ) → b < block_count cut → i < n → uses_place (member cut i) b ≡ true
      → time_kept filled all b ≤ occupancy filled all
  used_in_all b i lb li u =
      longest_above (time_kept filled all) (used_blocks filled) b
      (is_used filled i b (omega (arith, li, many)) lb (ap (λ m. uses_place m b) (member_is i li) ∙ u))

  pub occupancy_is : (time : ℕ)
      → IsGreatest (uses_place (member cut r)) (kept_to cut r entries entry) (block_count cut) (pos 0) (pos time)
      → occupancy filled all ≡ max (occupancy cut entries) (time + more * headway)
  occupancy_is time kept =
      let alone = occupancy cut entries in
      let most = max alone (time + more * headway) in
      let of_block : (b j : ℕ) → b < block_count cut → j < n → uses_place (member cut j) b ≡ true
      → time_kept filled all b ≤ most =
      λ b j lb lj uj.
      elim (cases_Bool (uses_place (member cut r) b)) [
        | inl u ↦
            let here = time_within (time_kept filled all b) time (more * headway) (kept_to cut r entries entry b)
            (kept_with b lb u) (kept.each b lb u) in
            omega (arith, here)
        | inr fails ↦
            let same = kept_without b j lb lj uj fails in
            let below = longest_above (time_kept cut entries) (used_blocks cut) b (is_used cut j b lj lb uj) in
            omega (arith, same, below)
      ] in
      let above : occupancy filled all ≤ most =
      longest_within (time_kept filled all) most (used_blocks filled)
      (λ b h.
      let at = block_of filled b h in
      elim (member_or_copy at.1.0 b at.1.1 at.1.2) [
        | inl (lj, uj) ↦ of_block b at.1.0 at.0 lj uj
        | inr c ↦ of_block b r at.0 there c.uses
      ]) in
      let alone_below : alone ≤ occupancy filled all =
      longest_within (time_kept cut entries) (occupancy filled all) (used_blocks cut)
      (λ b h.
      let at = block_of cut b h in
      let within = used_in_all b at.1.0 at.0 at.1.1 at.1.2 in
      elim (cases_Bool (uses_place (member cut r) b)) [
        | inl u ↦ omega (arith, within, alone_no_longer b at.0 u)
        | inr fails ↦ omega (arith, within, kept_without b at.1.0 at.0 at.1.1 at.1.2 fails)
      ]) in
      let copies_below : time + more * headway ≤ occupancy filled all =
      elim kept.reached [
        | inl none ↦
            let b = own.block in
            let some = kept_some b own.there own.used in
            let here = time_reached (time_kept filled all b) time (more * headway) (kept_to cut r entries entry b)
            (kept_with b own.there own.used) (subst (λ x. x ≤ℤ kept_to cut r entries entry b) (sym none) some) in
            omega (arith, here, used_in_all b r own.there there own.used)
        | inr (b, lb, u, e) ↦
            let here = time_reached (time_kept filled all b) time (more * headway) (kept_to cut r entries entry b)
            (kept_with b lb u) (subst (λ x. pos time ≤ℤ x) e (omega (arith, ints))) in
            omega (arith, here, used_in_all b r lb there u)
      ] in
      omega (arith, above, alone_below, copies_below)
