-- Where the planned timetable is free of conflict and keeps its connections, its entries are a schedule.
use Rattle.std.proofs.Common.{◌≡◌, ℕ, ◌<◌, true, ◌&&◌, List, inl, inr, subst, arith}
use Rattle.std.specs.Prelude.{◌≢◌, ℤ, pos, ◌+ℤ◌, ◌-ℤ◌, ◌≤ℤ◌, int_lt, IsTrue}
use Rattle.std.specs.Ordering.{int_eq}
use Rattle.std.proofs.lemmas.Bool.{cases_Bool, cases_lt, or_cases, and_parts, and_from, both_ways}
use Rattle.std.proofs.lemmas.Bool.Decides.{Decides-int_eq}
use Rattle.std.proofs.lemmas.Int.{ints}
use Rattle.std.proofs.lemmas.List.{length-map, get_or-map}
use Rattle.rail_model.specs.Name.{is_before}
use Rattle.rail_model.proofs.NameOrder.{is_before-itself}
use Rattle.rail_model.proofs.Numbers.{lt_from_test, test_from_lt, le_from_not_lt, lt_through}
use Rattle.plan_model.specs.declared.cut.CutRow.{CutRow}
use Rattle.plan_model.specs.declared.cut.Cut.{Cut}
use Rattle.plan_model.specs.Members.{block_count, member, member_count, no_member, use_at, precedes, comes_before}
use Rattle.plan_model.specs.Cut.{IsSoundCut}
use Rattle.plan_model.specs.Schedule.{entry_at, IsSchedule}
use Rattle.plan_model.specs.Planned.{planned_entries, IsFreeOfConflict, KeepsConnections}
use Rattle.plan_model.specs.Laws.{NoneIsLater}
use Rattle.plan_model.proofs.Uses.{takes_time}

-- the moment that comes before another is no later
pub no_later : (s t : ℤ) (a b : List ℕ) → comes_before s a t b ≡ true → s ≤ℤ t
no_later s t a b h =
    elim (or_cases (int_lt s t) (int_eq s t && is_before a b) h) [
      | inl l ↦ let lt = lt_from_test s t l in omega (arith, ints)
      | inr e ↦ let same = (Decides-int_eq s t).0 (and_parts (int_eq s t) (is_before a b) e).0 in omega (arith, ints)
    ]

-- no member precedes itself
pub not_itself : (row : CutRow) (place : ℕ) → precedes row row place ≡ true → ⊥
not_itself row place h =
    let s = (use_at row place).start in
    elim (or_cases (int_lt s s) (int_eq s s && is_before row.name row.name) (and_parts _ _ h).1) [
      | inl l ↦ let lt = lt_from_test s s l in omega (arith, ints)
      | inr e ↦ both_ways _ (is_before-itself row.name) (and_parts (int_eq s s) (is_before row.name row.name) e).1
    ]

-- times that aren't moved
unmoved : (end e x start f y : ℤ) → x ≡ e → y ≡ f → end ≤ℤ start → (end -ℤ e +ℤ x) ≤ℤ (start -ℤ f +ℤ y)
unmoved end e x start f y p q h = omega (arith, ints)

module _ (cut : Cut) (sound : IsSoundCut cut) (free : IsFreeOfConflict cut) (keeps : KeepsConnections cut) where
  planned : (i : ℕ) → i < member_count cut → entry_at (planned_entries cut) i ≡ (member cut i).entry
  planned i l = get_or-map (λ (r : CutRow). r.entry) cut.rows i no_member (pos 0) l

  ends_first : (i j place : ℕ) → i < member_count cut → j < member_count cut
      → IsTrue (precedes (member cut i) (member cut j) place)
      → (use_at (member cut i) place).«end» ≤ℤ (use_at (member cut j) place).start
  ends_first i j place li lj p =
      elim (cases_lt place (block_count cut)) [
        | inr connection ↦ keeps i j place li lj connection p
        | inl block ↦
            let a = use_at (member cut i) place in
            let b = use_at (member cut j) place in
            let parts = and_parts _ _ p in
            let used = and_parts _ _ parts.0 in
            let apart : i ≢ j = λ e.
            not_itself (member cut j) place (subst (λ k. precedes (member cut k) (member cut j) place ≡ true) e p) in
            let first = lt_through a.start b.start b.«end»
            (no_later a.start b.start (member cut i).name (member cut j).name parts.1)
            (takes_time cut sound j place lj used.1) in
            elim (cases_Bool (int_lt b.start a.«end»)) [
              | inr clear ↦ le_from_not_lt b.start a.«end» clear
              | inl second ↦
                  absurd (both_ways _ (free i j place li lj apart block)
                  (and_from _ _ parts.0 (and_from _ _ (test_from_lt a.start b.«end» first) second)))
            ]
      ]

  pub planned_schedule : IsSchedule cut (planned_entries cut)
  planned_schedule = record {
    count = length-map cut.rows (λ (r : CutRow). r.entry);
    from = λ i l. rw (planned i l) (sound.each i no_member l).from_window;
    order =
        λ i j place li lj p.
        unmoved (use_at (member cut i) place).«end» (member cut i).entry _
        (use_at (member cut j) place).start (member cut j).entry _
        (planned i li) (planned j lj) (ends_first i j place li lj p);
  }

pub none_is_later : NoneIsLater
none_is_later cut entries sound free keeps least i l =
    subst (λ x. entry_at entries i ≤ℤ x) (planned cut sound free keeps i l)
    (least.least (planned_entries cut) (planned_schedule cut sound free keeps) i l)
