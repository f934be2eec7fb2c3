-- The members of the least schedule with copies are scheduled as without copies.
use Rattle.std.proofs.Common.{◌≡◌, ℕ, ◌<◌, List, map, sym, subst, arith}
use Rattle.std.specs.Prelude.{ℤ, pos, ◌+ℤ◌, ◌-ℤ◌, ◌≤ℤ◌}
use Rattle.std.specs.Int.{int_min}
use Rattle.std.proofs.lemmas.Int.{ints, clamps}
use Rattle.std.proofs.lemmas.List.FromFn.{length-map-range_with_len, get_or-map-range_with_len}
use Rattle.plan_model.specs.declared.cut.Cut.{Cut}
use Rattle.plan_model.specs.Members.{member, member_count, members, use_at}
use Rattle.plan_model.specs.Schedule.{window_start, entry_at, start_at, end_at, start_by, IsSchedule}
use Rattle.path_fill.specs.Filling.{IsFilled}
use Rattle.path_fill.specs.Laws.{MembersEnterAsCompressed}

-- ---- moments

later_both : (w x y : ℤ) → w ≤ℤ x → w ≤ℤ y → w ≤ℤ int_min x y
later_both w x y a b = omega (arith, ints, clamps, a, b)

in_order : (f e s g x y u v : ℤ) → (f -ℤ e +ℤ x) ≤ℤ (s -ℤ g +ℤ u) → (f -ℤ e +ℤ y) ≤ℤ (s -ℤ g +ℤ v)
    → (f -ℤ e +ℤ int_min x y) ≤ℤ (s -ℤ g +ℤ int_min u v)
in_order f e s g x y u v a b = omega (arith, ints, clamps, a, b)

ends_by : (f e x y z : ℤ) → (f -ℤ e +ℤ x) ≤ℤ z → (f -ℤ e +ℤ int_min x y) ≤ℤ z
ends_by f e x y z a = omega (arith, ints, clamps, a)

no_later : (x y : ℤ) → x ≤ℤ int_min x y → x ≤ℤ y
no_later x y a = omega (arith, ints, clamps, a)

-- ---- two schedules

module _ (cut : Cut) (entries other : List ℤ) where
  abbrev earlier : ℕ → ℤ
  earlier i = int_min (entry_at entries i) (entry_at other i)

  -- each member enters as early as by one of the two
  abbrev merged : List ℤ
  merged = map earlier (members cut)

  at : (i : ℕ) → i < member_count cut → entry_at merged i ≡ earlier i
  at i l = get_or-map-range_with_len earlier 0 (member_count cut) i i (pos 0) l (omega arith)

  module _ (one : IsSchedule cut entries) (two : IsSchedule cut other) where
    schedule : IsSchedule cut merged
    schedule = record {
      count = length-map-range_with_len earlier 0 (member_count cut);
      from = λ i l.
          subst (λ x. window_start cut ≤ℤ x) (sym (at i l))
          (later_both (window_start cut) (entry_at entries i) (entry_at other i) (one.from i l) (two.from i l));
      order = λ i j place li lj before.
          let a = member cut i in
          let b = member cut j in
          subst (λ x. end_at a x place ≤ℤ start_by cut merged j place) (sym (at i li))
          (subst (λ x. end_at a (earlier i) place ≤ℤ start_at b x place) (sym (at j lj))
          (in_order (use_at a place).«end» a.entry (use_at b place).start b.entry (entry_at entries i)
          (entry_at other i) (entry_at entries j) (entry_at other j) (one.order i j place li lj before)
          (two.order i j place li lj before)));
    }

    module _ (r : ℕ) (copies : List ℤ) (filled : IsFilled cut r entries copies) where
      -- copies that come after all members come after them where these enter earlier
      still_filled : IsFilled cut r merged copies
      still_filled = record {
        schedule = schedule;
        from = filled.from;
        after_all = λ k d lk j b lj lb uj ur.
            let row = member cut j in
            let y = start_at (member cut r) _ b in
            subst (λ x. end_at row x b ≤ℤ y) (sym (at j lj))
            (ends_by (use_at row b).«end» row.entry (entry_at entries j) (entry_at other j) y
            (filled.after_all k d lk j b lj lb uj ur));
        in_turn = filled.in_turn;
      }

pub members_enter_as_compressed : MembersEnterAsCompressed
members_enter_as_compressed cut r count entries copies least = record {
  schedule = least.filled.schedule;
  least = λ other by i l.
      let one = least.filled.schedule in
      no_later (entry_at entries i) (entry_at other i)
      (subst (λ x. entry_at entries i ≤ℤ x) (at cut entries other i l)
      (least.least (merged cut entries other) copies least.many
      (still_filled cut entries other one by r copies least.filled) i l));
}
