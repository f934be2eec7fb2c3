-- No train is placed, and all are: then they are the least schedule, with its ties and its critical train.
use Rattle.std.proofs.Common.{◌≡◌, ℕ, ◌<◌, true, false, List, [], length, map, replicate, inl, inr, refl, sym, ap, subst, ◌∙◌, arith, length-append}
use Rattle.std.specs.Prelude.{◌≢◌, ℤ, ◌+ℤ◌, ◌-ℤ◌, ◌≤ℤ◌, ◌<ℤ◌, ◌==◌, Option, None, Some, filter, option_map, option_and_then, unwrap_or, slice_index_or}
use Rattle.std.specs.List.{list_any}
use Rattle.std.specs.Ordering.{int_eq}
use Rattle.std.proofs.lemmas.Bool.{cases_eq, both_ways, false_from_ne_true}
use Rattle.std.proofs.lemmas.Bool.Decides.{Decides-int_eq}
use Rattle.std.proofs.lemmas.Int.{ints}
use Rattle.std.proofs.lemmas.List.{length-replicate, get_or-replicate, ext_get_or}
use Rattle.std.proofs.lemmas.List.FromFn.{length-map-range_with_len, get_or-map-range_with_len}
use Rattle.std.proofs.lemmas.List.Folds.{Any-from_list_any}
use Rattle.rail_model.proofs.Numbers.{le_both_ways, le_from_lt, le_from_same, lt_not_same}
use Rattle.plan_model.specs.declared.cut.Cut.{Cut}
use Rattle.plan_model.specs.declared.answer.Tie.{Tie}
use Rattle.plan_model.specs.declared.answer.Tie.TheVariants.{Start, After}
use Rattle.plan_model.specs.Members.{place_count, places, block_count, blocks, member, member_count, members, uses_place, use_at}
use Rattle.plan_model.specs.Cut.{IsSoundCut}
use Rattle.plan_model.specs.Disorder.{remaining}
use Rattle.plan_model.specs.Schedule.{entry_at, end_by, IsScheduleFrom, IsLeastFrom, touches, touching_member, touching_place, touch, tie_from}
use Rattle.plan_model.specs.Answer.{users, used_blocks, last_end, time_kept, occupancy, busiest, last_member, critical}
use Rattle.plan_model.specs.Laws.{IsTiedFrom}
use Rattle.plan_model.proofs.MemberTests.{has, has-range, in_range, has_any, has-filter, filter-has, some_member}
use Rattle.plan_model.proofs.FirstByName.{first_is, find_only}
use Rattle.plan_model.proofs.Greatest.{above_each, greatest_within}
use Rattle.plan_model.proofs.Tied.{tied_is_least}
use Rattle.plan_model.proofs.Uses.{takes_time}
use Rattle.plan_model.proofs.Users.{is_user, user}
use Rattle.train_order.specs.Ordering.{IsOrder}
use Rattle.train_placing.specs.declared.last.Last.{Last}
use Rattle.train_placing.specs.Laid.{train_of, critical_of}
use Rattle.train_placing.specs.Placing.{IsLast, IsLeft, IsTie, ArePlaced}
use Rattle.train_order.proofs.Find.{first_found, found}
use Rattle.train_order.proofs.Next.{is_there}

-- ---- none

pub none_placed : (cut : Cut) (floor : ℕ → ℤ) (entries : List ℤ) (ties : List Tie) (last : List (Option Last))
    → length entries ≡ member_count cut → length ties ≡ member_count cut → last ≡ replicate (place_count cut) None
    → ArePlaced cut floor [] entries ties last
none_placed cut floor entries ties last e t l = record {
  entries_count = e;
  ties_count = t;
  places = ap length l ∙ length-replicate (place_count cut) None;
  there = λ i h. absurd (cc);
  from = λ i h. absurd (cc);
  latest = λ i h. absurd (cc);
  order = λ i j p h k pr. absurd (cc);
  closed = λ i j p li h pr. absurd (cc);
  tied = λ j h. absurd (cc);
  left = λ p lp.
      let free : slice_index_or last p None ≡ None =
      ap (λ ls. slice_index_or ls p None) l ∙ get_or-replicate (place_count cut) p None None lp in
      subst (IsLeft cut entries [] p) (sym free) (λ i h. absurd (cc));
}

-- ---- moments

-- one that has left by the last one's start has ended before it
ends_first : (b s f e y : ℤ) → b ≤ℤ (s -ℤ e +ℤ y) → s <ℤ f → b <ℤ (f -ℤ e +ℤ y)
ends_first b s f e y h l = omega (arith, ints)

-- ---- all

module _ (cut : Cut) (floor : ℕ → ℤ) (order : List ℕ) (entries : List ℤ) (ties : List Tie) (last : List (Option Last))
    (sound : IsSoundCut cut) (is : IsOrder cut order) (placed : ArePlaced cut floor order entries ties last) where
  schedule : IsScheduleFrom cut floor entries
  schedule = record {
    count = placed.entries_count;
    from = λ i l. placed.from i (is_there cut order is i l);
    order = λ i j p li lj pr.
        placed.order i j p (is_there cut order is i li) (is_there cut order is j lj) pr;
  }

  own_tie : (j : ℕ) → j < member_count cut → IsTie cut floor entries j (slice_index_or ties j Start)
  own_tie j l = placed.tied j (is_there cut order is j l)

  tied_by : (j : ℕ) (t : Tie) → IsTie cut floor entries j t → IsTiedFrom cut floor entries j
  tied_by j Start e = inl e
  tied_by j (After i p) f =
      inr (
        i,
        f.there,
        has_any (touches cut entries i j) (places cut) p (has-range (place_count cut) p f.place_there) f.touch,
      )

  pub least : remaining cut ≡ [] → IsLeastFrom cut floor entries
  least none =
      tied_is_least cut floor entries none schedule (λ j l. tied_by j (slice_index_or ties j Start) (own_tie j l))

  -- ---- the ties

  tie_by : (j : ℕ) (t : Tie) → IsTie cut floor entries j t → t ≡ tie_from cut floor entries j
  tie_by j Start e =
      let at = (Decides-int_eq (entry_at entries j) (floor j)).1 e in rw at refl
  tie_by j (After i p) f =
      let late : int_eq (entry_at entries j) (floor j) ≡ false =
      false_from_ne_true (int_eq (entry_at entries j) (floor j))
      (λ e. f.later ((Decides-int_eq (entry_at entries j) (floor j)).0 e)) in
      let in_places = has-range (place_count cut) p f.place_there in
      let first : touching_member cut entries j ≡ Some i =
      first_found (λ k. list_any (touches cut entries k j) (places cut)) 0 (member_count cut) i (omega arith)
      (omega (arith, f.there))
      (λ k from l. false_from_ne_true _ (λ h.
      let at = Any-from_list_any (touches cut entries k j) (places cut) h in omega (arith, f.first k at.1 at.4, l)))
      (has_any (touches cut entries i j) (places cut) p in_places f.touch) in
      let place : touching_place cut entries i j ≡ Some p =
      first_is cut sound (filter (touches cut entries i j) (places cut)) p
      (λ q h. (let l = in_range 0 (place_count cut) q (filter-has (touches cut entries i j)
      (places cut) q h).0 in omega (arith, l)))
      (has-filter (touches cut entries i j) (places cut) p in_places f.touch)
      (λ q h. f.first_place q (filter-has (touches cut entries i j) (places cut) q h).1) in
      let is : touch cut entries j ≡ Some (After i p) =
      ap (option_and_then (λ m. option_map (After m) (touching_place cut entries m j))) first
      ∙ ap (option_map (After i)) place in
      rw late (sym (ap (λ o. unwrap_or o Start) is))

  pub tie_is : (j : ℕ) → j < member_count cut → slice_index_or ties j Start ≡ tie_from cut floor entries j
  tie_is j l = tie_by j (slice_index_or ties j Start) (own_tie j l)

  pub ties_are : ties ≡ map (tie_from cut floor entries) (members cut)
  ties_are =
      let n = member_count cut in
      let long = length-map-range_with_len (tie_from cut floor entries) 0 n in
      ext_get_or Start ties (map (tie_from cut floor entries) (members cut)) (placed.ties_count ∙ sym long)
      (λ i l.
      let li : i < n = omega (arith, l, placed.ties_count) in
      tie_is i li ∙ sym (get_or-map-range_with_len (tie_from cut floor entries) 0 n i i Start li (omega arith)))

  -- ---- the critical train

  module _ (b : ℕ) (l : Last) (left : IsLast cut entries order b l) where
    there : l.train < member_count cut
    there = placed.there l.train left.there

    earlier : (i : ℕ) → has (users cut b) i ≡ true → i ≢ l.train
        → end_by cut entries i b <ℤ end_by cut entries l.train b
    earlier i h ne =
        let u = user cut i b h in
        let t = member cut l.train in
        ends_first (end_by cut entries i b) (use_at t b).start (use_at t b).«end» t.entry (entry_at entries l.train)
        (left.others i (is_there cut order is i u.0) u.1 ne) (takes_time cut sound l.train b there left.uses)

    no_later_end : (i : ℕ) → has (users cut b) i ≡ true
        → end_by cut entries i b ≤ℤ end_by cut entries l.train b
    no_later_end i h =
        elim (cases_eq i l.train) [
          | inl e ↦
              le_from_same (end_by cut entries i b) (end_by cut entries l.train b) (ap
              (λ k. end_by cut entries k b) e)
          | inr ne ↦ le_from_lt (end_by cut entries i b) (end_by cut entries l.train b) (earlier i h ne)
        ]

    its_end : last_end cut entries b ≡ end_by cut entries l.train b
    its_end =
        le_both_ways (last_end cut entries b) (end_by cut entries l.train b)
        (greatest_within (λ i. end_by cut entries i b) (end_by cut entries l.train b) (users cut b) l.train
        (is_user cut l.train b there left.uses) no_later_end)
        (above_each (λ i. end_by cut entries i b) (users cut b) l.train (is_user cut l.train b there left.uses))

    last_is : last_member cut entries b ≡ Some l.train
    last_is =
        find_only (λ i. int_eq (end_by cut entries i b) (last_end cut entries b)) (users cut b) l.train
        (is_user cut l.train b there left.uses)
        ((Decides-int_eq (end_by cut entries l.train b) (last_end cut entries b)).1 (sym its_end))
        (λ i h e.
        elim (cases_eq i l.train) [
          | inl same ↦ same
          | inr ne ↦
              absurd (lt_not_same (end_by cut entries i b) (end_by cut entries l.train b) (earlier i h ne)
              ((Decides-int_eq (end_by cut entries i b) (last_end cut entries b)).0 e ∙ its_end))
        ])

  -- a block that is used
  used : (b : ℕ) → busiest cut entries ≡ Some b
      → (b < block_count cut) × (list_any (λ i. uses_place (member cut i) b) (members cut) ≡ true)
  used b h =
      let kept = λ (c : ℕ). time_kept cut entries c == occupancy cut entries in
      let at = filter-has kept (used_blocks cut) b (found _ (filter kept (used_blocks cut)) b h).0 in
      let there = filter-has (λ c. list_any (λ i. uses_place (member cut i) c) (members cut)) (blocks cut) b at.0 in
      (omega (arith, in_range 0 (block_count cut) b there.0), there.1)

  pub busiest_there : (b : ℕ) → busiest cut entries ≡ Some b → b < place_count cut
  busiest_there b h = omega (arith, (used b h).0, length-append cut.section.blocks cut.connections)

  train_by : (b : ℕ) (o : Option Last) → busiest cut entries ≡ Some b → IsLeft cut entries order b o
      → train_of o ≡ last_member cut entries b
  train_by b (Some l) h left = sym (last_is b l left)
  train_by b None h left =
      let one = some_member cut (λ i. uses_place (member cut i) b) (used b h).1 in
      absurd (both_ways (uses_place (member cut one.0) b) (left one.0
      (is_there cut order is one.0 one.1)) one.2)

  pub critical_is : (best : Option ℕ) → best ≡ busiest cut entries → critical_of best last ≡ critical cut entries
  critical_is None e = ap (option_and_then (last_member cut entries)) e
  critical_is (Some b) e =
      train_by b (slice_index_or last b None) (sym e) (placed.left b (busiest_there b (sym e)))
      ∙ ap (option_and_then (last_member cut entries)) e

-- ---- other floors

-- trains that are placed from floors are placed from floors that are the same for each member
module _ (cut : Cut) (floor other : ℕ → ℤ) (same : (i : ℕ) → i < member_count cut → floor i ≡ other i)
    (entries : List ℤ) where
  same_tie : (j : ℕ) → j < member_count cut → (t : Tie) → IsTie cut floor entries j t → IsTie cut other entries j t
  same_tie j l Start e = e ∙ same j l
  same_tie j l (After i p) f = record {
    later = λ e. f.later (e ∙ sym (same j l));
    there = f.there;
    place_there = f.place_there;
    touch = f.touch;
    first = f.first;
    first_place = f.first_place;
  }

  pub from_others : (some : List ℕ) (ties : List Tie) (last : List (Option Last))
      → ArePlaced cut floor some entries ties last → ArePlaced cut other some entries ties last
  from_others some ties last placed = record {
    entries_count = placed.entries_count;
    ties_count = placed.ties_count;
    places = placed.places;
    there = placed.there;
    from = λ i h. subst (λ t. t ≤ℤ entry_at entries i) (same i (placed.there i h)) (placed.from i h);
    latest = placed.latest;
    order = placed.order;
    closed = placed.closed;
    tied = λ j h. same_tie j (placed.there j h) (slice_index_or ties j Start) (placed.tied j h);
    left = placed.left;
  }
