-- By the least schedule each train is tied: one that isn't could enter a second earlier.
use Rattle.std.proofs.Common.{◌≡◌, ℕ, ◌<◌, true, false, List, length, set, inl, inr, sym, ◌∙◌, subst, arith}
use Rattle.std.specs.Prelude.{ℤ, pos, ◌+ℤ◌, ◌-ℤ◌, ◌≤ℤ◌, ◌<ℤ◌, int_lt, IsTrue}
use Rattle.std.specs.List.{list_any}
use Rattle.std.specs.Ordering.{int_eq}
use Rattle.std.proofs.lemmas.Bool.{cases_Bool, cases_eq, and_parts, and_from, both_ways}
use Rattle.std.proofs.lemmas.Bool.Decides.{Decides-int_eq}
use Rattle.std.proofs.lemmas.Int.{ints}
use Rattle.std.proofs.lemmas.List.{length-set, get_or-set_same, get_or-set_other}
use Rattle.plan_model.specs.declared.cut.Cut.{Cut}
use Rattle.plan_model.specs.Members.{places, place_count, member, member_count, members, use_at, precedes}
use Rattle.plan_model.specs.Cut.{IsSoundCut}
use Rattle.plan_model.specs.Schedule.{entry_at, start_by, end_by, IsScheduleFrom, IsLeastFrom, touches}
use Rattle.plan_model.specs.Laws.{LeastIsTied}
use Rattle.plan_model.proofs.MemberTests.{has-range, has_any, some_member}
use Rattle.plan_model.proofs.Uses.{place_there}
use Rattle.plan_model.proofs.Planned.{not_itself}
use Rattle.rail_model.proofs.Numbers.{le_from_same}

less_if_other : (a b : ℤ) → a ≤ℤ b → int_eq a b ≡ false → a <ℤ b
less_if_other a b h ne =
    elim (cases_Bool (int_lt a b)) [
      | inl l ↦ grind (arith, ints)
      | inr n ↦
          let same : a ≡ b = grind (arith, ints) in
          absurd (both_ways (int_eq a b) ne ((Decides-int_eq a b).1 same))
    ]

not_equal : (a b : ℤ) → int_eq a b ≡ false → int_eq b a ≡ false
not_equal a b h =
    elim (cases_Bool (int_eq b a)) [
      | inl e ↦ absurd (both_ways (int_eq a b) h ((Decides-int_eq a b).1 (sym ((Decides-int_eq b a).0 e))))
      | inr ne ↦ ne
    ]

a_second_earlier : (a b : ℤ) → a <ℤ b → a ≤ℤ (b -ℤ pos 1)
a_second_earlier a b h = omega (arith, ints)

-- moved entries: the end moves with the first, the start with the second
moved : (end e x x' start f y y' : ℤ) → (end -ℤ e +ℤ x) ≤ℤ (start -ℤ f +ℤ y) → x' ≤ℤ x → y ≤ℤ y'
    → (end -ℤ e +ℤ x') ≤ℤ (start -ℤ f +ℤ y')
moved end e x x' start f y y' h p q = omega (arith, ints)

-- the start moves a second where it was later
moved_start : (end e x x' start f y y' : ℤ) → (end -ℤ e +ℤ x) <ℤ (start -ℤ f +ℤ y) → x' ≡ x → y' ≡ (y -ℤ pos 1)
    → (end -ℤ e +ℤ x') ≤ℤ (start -ℤ f +ℤ y')
moved_start end e x x' start f y y' h p q = omega (arith, ints)

a_second_less : (a b : ℤ) → a ≡ (b -ℤ pos 1) → a ≤ℤ b
a_second_less a b e = omega (arith, ints)

not_less_itself : (a : ℤ) → a ≤ℤ (a -ℤ pos 1) → ⊥
not_less_itself a h = omega (arith, ints)

module _ (cut : Cut) (floor : ℕ → ℤ) (entries : List ℤ) (sound : IsSoundCut cut)
    (schedule : IsScheduleFrom cut floor entries) (j : ℕ)
    (lj : j < member_count cut) (late : floor j <ℤ entry_at entries j)
    (free : list_any (λ i. list_any (touches cut entries i j) (places cut)) (members cut) ≡ false) where
  -- the schedule with member j a second earlier
  abbrev earlier : List ℤ
  earlier = set entries j (entry_at entries j -ℤ pos 1)

  at_j : entry_at earlier j ≡ entry_at entries j -ℤ pos 1
  at_j = let l : j < length entries = omega (arith, schedule.count) in get_or-set_same entries j _ _ l

  at_other : (i : ℕ) → (i ≡ j → ⊥) → entry_at earlier i ≡ entry_at entries i
  at_other i ne = get_or-set_other entries j i _ _ ne

  -- no member touches member j
  before_j : (i place : ℕ) → i < member_count cut → IsTrue (precedes (member cut i) (member cut j) place)
      → end_by cut entries i place <ℤ start_by cut entries j place
  before_j i place li p =
      let used = and_parts _ _ (and_parts _ _ p).0 in
      let there = place_there cut sound i place li used.0 in
      elim (cases_Bool (int_eq (end_by cut entries i place) (start_by cut entries j place))) [
        | inr ne ↦ less_if_other (end_by cut entries i place) (start_by cut entries j place)
            (schedule.order i j place li lj p) ne
        | inl e ↦
            absurd (both_ways _ free
            (has_any (λ i. list_any (touches cut entries i j) (places cut)) (members cut) i
            (has-range (member_count cut) i li)
            (has_any (touches cut entries i j) (places cut) place (has-range (place_count cut) place there)
            (and_from (precedes (member cut i) (member cut j) place) _ p e))))
      ]

  -- the entries that are moved are no later
  none_later : (i : ℕ) → entry_at earlier i ≤ℤ entry_at entries i
  none_later i =
      elim (cases_eq i j) [
        | inl e ↦
            subst (λ m. entry_at earlier m ≤ℤ entry_at entries m) (sym e)
            (a_second_less (entry_at earlier j) (entry_at entries j) at_j)
        | inr ne ↦ le_from_same (entry_at earlier i) (entry_at entries i) (at_other i ne)
      ]

  in_order : (i k place : ℕ) → i < member_count cut → k < member_count cut
      → IsTrue (precedes (member cut i) (member cut k) place)
      → end_by cut earlier i place ≤ℤ start_by cut earlier k place
  in_order i k place li lk p =
      let end = (use_at (member cut i) place).«end» in
      let start = (use_at (member cut k) place).start in
      elim (cases_eq k j) [
        | inr other ↦
            moved end (member cut i).entry (entry_at entries i) (entry_at earlier i) start (member cut k).entry
            (entry_at entries k) (entry_at earlier k) (schedule.order i k place li lk p) (none_later i)
            (le_from_same (entry_at entries k) (entry_at earlier k) (sym (at_other k other)))
        | inl e ↦
            let q = subst (λ m. precedes (member cut i) (member cut m) place ≡ true) e p in
            let apart : i ≡ j → ⊥ =
            λ f. not_itself (member cut j) place
            (subst (λ m. precedes (member cut m) (member cut j) place ≡ true) f q) in
            subst (λ m. end_by cut earlier i place ≤ℤ start_by cut earlier m place) (sym e)
            (moved_start end (member cut i).entry (entry_at entries i) (entry_at earlier i)
            (use_at (member cut j) place).start
            (member cut j).entry (entry_at entries j) (entry_at earlier j) (before_j i place li q)
            (at_other i apart) at_j)
      ]

  still : IsScheduleFrom cut floor earlier
  still = record {
    count = length-set entries j _ ∙ schedule.count;
    from =
        λ i l. elim (cases_eq i j) [
          | inl e ↦
              subst (λ m. floor m ≤ℤ entry_at earlier m) (sym e)
              (subst (λ x. floor j ≤ℤ x) (sym at_j) (a_second_earlier (floor j) (entry_at entries j) late))
          | inr ne ↦ subst (λ x. floor i ≤ℤ x) (sym (at_other i ne)) (schedule.from i l)
        ];
    order = in_order;
  }

  pub not_least : IsLeastFrom cut floor entries → ⊥
  not_least least =
      not_less_itself (entry_at entries j)
      (subst (λ x. entry_at entries j ≤ℤ x) at_j (least.least earlier still j lj))

pub least_is_tied : LeastIsTied
least_is_tied cut floor entries sound least j lj =
    elim (cases_Bool (int_eq (entry_at entries j) (floor j))) [
      | inl e ↦ inl ((Decides-int_eq (entry_at entries j) (floor j)).0 e)
      | inr ne ↦ elim (cases_Bool (list_any (λ i. list_any (touches cut entries i j) (places cut)) (members cut))) [
        | inl t ↦ inr (some_member cut (λ i. list_any (touches cut entries i j) (places cut)) t)
        | inr free ↦
            let at_least = least.schedule.from j lj in
            let late : floor j <ℤ entry_at entries j = less_if_other (floor j) (entry_at entries j) at_least
            (not_equal (entry_at entries j) (floor j) ne) in
            absurd (not_least cut floor entries sound least.schedule j lj late free least)
      ]
    ]
