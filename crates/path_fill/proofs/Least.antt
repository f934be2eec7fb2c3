-- The least schedule with so many copies: the members as without them, and each copy so much later than the one before.
use Rattle.std.proofs.Common.{◌≡◌, ℕ, zero, suc, ◌+◌, ◌*◌, ◌<◌, ◌≤◌, true, List, length, map, get_or, sym, subst, arith}
use Rattle.std.specs.Prelude.{ℤ, pos, ◌+ℤ◌, ◌-ℤ◌, ◌≤ℤ◌, All}
use Rattle.std.specs.List.{range_with_len}
use Rattle.std.proofs.lemmas.Int.{ints}
use Rattle.std.proofs.lemmas.List.FromFn.{length-map-range_with_len, get_or-map-range_with_len}
use Rattle.std.proofs.Math.Nat.{mul-le-mul_right}
use Rattle.plan_model.specs.declared.cut.Cut.{Cut}
use Rattle.plan_model.specs.Members.{block_count, member, member_count, uses_place, use_at}
use Rattle.plan_model.specs.Schedule.{window_start, entry_at, start_at, end_by, IsLeast}
use Rattle.plan_model.specs.Answer.{IsAfterAll}
use Rattle.path_fill.specs.Filling.{IsFilled, IsLeastFilled, FollowsCopy}
use Rattle.path_fill.specs.Search.{time_at}
use Rattle.path_fill.proofs.FirstCopy.{IsFirstCopy}

-- the headway of member r to itself on the blocks: the longest that it keeps one
pub record IsOwnHeadway (cut : Cut) (r headway : ℕ) : Type 0 where
  pub each : (b : ℕ) → b < block_count cut → uses_place (member cut r) b ≡ true → time_at cut r b ≤ℤ pos headway
  pub block : ℕ
  pub there : block < block_count cut
  pub used : uses_place (member cut r) block ≡ true
  pub reached : time_at cut r block ≡ pos headway

-- when copy i enters, and all of so many copies
abbrev pub copy_entry : ℤ → ℕ → ℕ → ℤ
copy_entry entry headway i = entry +ℤ pos (i * headway)

abbrev pub copy_entries : ℤ → ℕ → ℕ → List ℤ
copy_entries entry headway count = map (copy_entry entry headway) (range_with_len 0 count)

-- ---- moments

one_later : (i j h : ℕ) → i < j → i * h + h ≤ j * h
one_later i j h l =
    let more : (i + 1) * h ≤ j * h = mul-le-mul_right h (omega (arith, l)) in
    let is : (i + 1) * h ≡ i * h + h = omega arith in
    omega (arith, more, is)

-- a copy that enters later by the headway or more starts as the one before ends, or later
clear : (f s e y : ℤ) (a b h : ℕ) → (f -ℤ s) ≤ℤ pos h → a + h ≤ b → (f -ℤ e +ℤ (y +ℤ pos a)) ≤ℤ (s -ℤ e +ℤ (y +ℤ pos b))
clear f s e y a b h t l = omega (arith, ints, t, l)

kept_clear : (f s e x z : ℤ) (h : ℕ) → (f -ℤ s) ≡ pos h → (f -ℤ e +ℤ x) ≤ℤ (s -ℤ e +ℤ z) → (x +ℤ pos h) ≤ℤ z
kept_clear f s e x z h t l = omega (arith, ints, t, l)

later_start : (m s e y z : ℤ) → m ≤ℤ (s -ℤ e +ℤ y) → y ≤ℤ z → m ≤ℤ (s -ℤ e +ℤ z)
later_start m s e y z h l = omega (arith, ints, h, l)

earlier_end : (f e x y m : ℤ) → (f -ℤ e +ℤ y) ≤ℤ m → x ≤ℤ y → (f -ℤ e +ℤ x) ≤ℤ m
earlier_end f e x y m h l = omega (arith, ints, h, l)

-- ---- the schedule

module _ (cut : Cut) (r : ℕ) (entries : List ℤ) (entry : ℤ) (headway : ℕ) (least : IsLeast cut entries)
    (first : IsFirstCopy cut r entries entry) (own : IsOwnHeadway cut r headway) where
  after_later : (y z : ℤ) → y ≤ℤ z → IsAfterAll cut entries r y → IsAfterAll cut entries r z
  after_later y z l after j b lj lb uj ur =
      let row = member cut r in
      later_start (end_by cut entries j b) (use_at row b).start row.entry y z (after j b lj lb uj ur) l

  -- what comes after all members by a schedule comes after them by the least
  after_by_least : (other : List ℤ) (y : ℤ) → ((i : ℕ) → i < member_count cut → entry_at entries i ≤ℤ entry_at other i)
      → IsAfterAll cut other r y → IsAfterAll cut entries r y
  after_by_least other y earlier after j b lj lb uj ur =
      let row = member cut j in
      earlier_end (use_at row b).«end» row.entry (entry_at entries j) (entry_at other j) (start_at (member cut r) y b)
      (after j b lj lb uj ur) (earlier j lj)

  copy_after : (i : ℕ) → entry ≤ℤ copy_entry entry headway i
  copy_after i = omega (arith, ints)

  copies_follow : (i j : ℕ) → i < j → FollowsCopy cut r (copy_entry entry headway i) (copy_entry entry headway j)
  copies_follow i j l b lb u =
      let row = member cut r in
      clear (use_at row b).«end» (use_at row b).start row.entry entry (i * headway) (j * headway) headway
      (own.each b lb u) (one_later i j headway l)

  module _ (count : ℕ) where
    abbrev copies : List ℤ
    copies = copy_entries entry headway count

    long : length copies ≡ count
    long = length-map-range_with_len (copy_entry entry headway) 0 count

    pub at : (i : ℕ) (d : ℤ) → i < count → get_or copies i d ≡ copy_entry entry headway i
    at i d l = get_or-map-range_with_len (copy_entry entry headway) 0 count i i d l (omega arith)

    each_copy : (P : ℤ → Type 0) → ((i : ℕ) → P (copy_entry entry headway i)) → All P copies
    each_copy P all i d l = subst P (sym (at i d (omega (arith, l, long)))) (all i)

    filled : IsFilled cut r entries copies
    filled = record {
      schedule = least.schedule;
      from =
          each_copy (λ y. window_start cut ≤ℤ y) (λ i. omega (arith, ints, first.from, copy_after i));
      after_all =
          each_copy (IsAfterAll cut entries r)
          (λ i. after_later entry (copy_entry entry headway i) (copy_after i) first.after_all);
      in_turn = λ i j d l lj.
          let lc : j < count = omega (arith, lj, long) in
          let e = at i d (omega (arith, l, lc)) in
          let f = at j d lc in
          subst (λ x. FollowsCopy cut r x (get_or copies j d)) (sym e)
          (subst (λ y. FollowsCopy cut r (copy_entry entry headway i) y) (sym f) (copies_follow i j l));
    }

    module _ (other others : List ℤ) (same : length others ≡ count) (by : IsFilled cut r other others) where
      earlier : (i : ℕ) → i < member_count cut → entry_at entries i ≤ℤ entry_at other i
      earlier i l = least.least other by.schedule i l

      no_earlier : (k : ℕ) → k < count → copy_entry entry headway k ≤ℤ entry_at others k
      no_earlier zero l =
          let there : 0 < length others = omega (arith, l, same) in
          let here =
          first.least (entry_at others 0) (by.from 0 (pos 0) there)
          (after_by_least other (entry_at others 0) earlier (by.after_all 0 (pos 0) there)) in
          omega (arith, ints, here)
      no_earlier (suc k) l =
          let before = no_earlier k (omega (arith, l)) in
          let there : suc k < length others = omega (arith, l, same) in
          let row = member cut r in
          let b = own.block in
          let step =
          kept_clear (use_at row b).«end» (use_at row b).start row.entry (entry_at others k) (entry_at others (suc k))
          headway own.reached (by.in_turn k (suc k) (pos 0) (omega arith) there b own.there own.used) in
          let is : suc k * headway ≡ k * headway + headway = omega arith in
          omega (arith, ints, before, step, is)

    pub least_filled : IsLeastFilled cut r count entries copies
    least_filled = record {
      many = long;
      filled = filled;
      least = λ other others same by i l. earlier other others same by i l;
      least_copies = λ other others same by k l.
          subst (λ x. x ≤ℤ entry_at others k) (sym (at k (pos 0) l)) (no_earlier other others same by k l);
    }
