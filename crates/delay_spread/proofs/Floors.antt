-- The floors of delayed trains, as a list and as a function.
use Rattle.std.proofs.Common.{◌≡◌, ℕ, ◌<◌, ◌≤◌, List, length, map, inl, inr, refl, sym, subst, ◌∙◌, arith}
use Rattle.std.specs.Prelude.{ℤ, pos, ◌+ℤ◌, All}
use Rattle.std.proofs.lemmas.Bool.{cases_lt}
use Rattle.std.proofs.lemmas.Int.{ints}
use Rattle.std.proofs.lemmas.List.{get_or_past}
use Rattle.std.proofs.lemmas.List.FromFn.{length-map-range_with_len, get_or-map-range_with_len}
use Rattle.plan_model.specs.declared.cut.Cut.{Cut}
use Rattle.plan_model.specs.Members.{member, member_count, members, no_member}
use Rattle.plan_model.specs.Cut.{IsMoment, IsSoundCut}
use Rattle.plan_model.specs.Schedule.{entry_at}
use Rattle.plan_model.proofs.Sound.{usable}
use Rattle.train_placing.specs.Placing.{IsFloor}
use Rattle.delay_spread.specs.declared.spreading.TheConstants.{GREATEST_DELAY_S}
use Rattle.delay_spread.specs.Spreading.{delay_at, delayed_floor}

near : (planned : ℤ) (delay : ℕ) → IsMoment planned → delay ≤ GREATEST_DELAY_S → IsFloor (planned +ℤ pos delay)
near planned delay moment limit = record {
  after = omega (arith, ints, moment.after);
  before = omega (arith, ints, moment.before, limit);
}

module _ (cut : Cut) (delays : List ℕ) (count : length delays ≡ member_count cut) where
  abbrev pub floors : List ℤ
  floors = map (delayed_floor cut delays) (members cut)

  pub long : length floors ≡ member_count cut
  long = length-map-range_with_len (delayed_floor cut delays) 0 (member_count cut)

  floor_is : (i : ℕ) → entry_at floors i ≡ delayed_floor cut delays i
  floor_is i =
      elim (cases_lt i (member_count cut)) [
        | inl l ↦
            get_or-map-range_with_len (delayed_floor cut delays) 0 (member_count cut) i i (pos 0) l (omega arith)
        | inr past ↦
            let none : entry_at floors i ≡ pos 0 = get_or_past floors i (pos 0) (omega (arith, past, long)) in
            let row : member cut i ≡ no_member = get_or_past cut.rows i no_member past in
            let delay : delay_at delays i ≡ 0 = get_or_past delays i 0 (omega (arith, past, count)) in
            let is : delayed_floor cut delays i ≡ pos 0 = rw (row, delay) refl in
            none ∙ sym is
      ]

  -- as a function the list is the floor of each member
  pub same_floors : entry_at floors ≡ delayed_floor cut delays
  same_floors = λ k i. floor_is i k

  module _ (sound : IsSoundCut cut) (limit : All (λ d. d ≤ GREATEST_DELAY_S) delays) where
    pub floor_near : (i : ℕ) → i < member_count cut → IsFloor (delayed_floor cut delays i)
    floor_near i l =
        near (member cut i).entry (delay_at delays i) (usable cut sound i l).entry
        (limit i 0 (omega (arith, l, count)))

    pub all_floors : All IsFloor floors
    all_floors i d l =
        let li : i < member_count cut = omega (arith, l, long) in
        subst IsFloor
        (sym (get_or-map-range_with_len (delayed_floor cut delays) 0 (member_count cut) i i d li (omega arith)))
        (floor_near i li)
