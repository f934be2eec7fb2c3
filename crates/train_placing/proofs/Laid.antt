-- The plan of all placed trains is the compressed timetable.
use Rattle.std.proofs.Common.{◌≡◌, ℕ, ◌<◌, ◌≤◌, List, [], length, map, refl, sym, ap, subst, ◌∙◌, arith}
use Rattle.std.specs.Prelude.{ℤ, pos, Option, None, Some, All, IfSome}
use Rattle.std.specs.List.{range_with_len}
use Rattle.std.proofs.lemmas.Int.{ints}
use Rattle.std.proofs.lemmas.List.{ext_get_or, get_or_default}
use Rattle.std.proofs.lemmas.List.FromFn.{length-map-range_with_len, get_or-map-range_with_len}
use Rattle.plan_model.specs.declared.limits.TheConstants.{MEMBERS}
use Rattle.plan_model.specs.declared.cut.Cut.{Cut}
use Rattle.plan_model.specs.declared.answer.Tie.{Tie}
use Rattle.plan_model.specs.declared.answer.Placed.{Placed}
use Rattle.plan_model.specs.declared.answer.Plan.{Plan}
use Rattle.plan_model.specs.Members.{place_names, member, member_count, members}
use Rattle.plan_model.specs.Cut.{IsBounded, IsSoundCut}
use Rattle.plan_model.specs.Disorder.{remaining}
use Rattle.plan_model.specs.Schedule.{window_floor, entry_at}
use Rattle.plan_model.specs.Answer.{occupancy, busiest, placed_at, plan_of, IsCompressed}
use Rattle.plan_model.proofs.Unique.{entries_are}
use Rattle.train_order.specs.Ordering.{IsOrder}
use Rattle.train_placing.specs.declared.last.Last.{Last}
use Rattle.train_placing.specs.Laid.{placed_with, critical_of, AreBounded, HasBoundedTimes}
use Rattle.train_placing.specs.Placing.{IsFloor, ArePlaced}
use Rattle.train_order.proofs.Next.{is_there, count}
use Rattle.train_placing.proofs.Moments.{entry_within, start_within, end_within}
use Rattle.train_placing.proofs.Whole.{least, tie_is, busiest_there, critical_is}

-- ---- the plan

module _ (cut : Cut) (order : List ℕ) (entries : List ℤ) (ties : List Tie) (last : List (Option Last))
    (sound : IsSoundCut cut) (few : member_count cut ≤ MEMBERS) (is : IsOrder cut order)
    (placed : ArePlaced cut (window_floor cut) order entries ties last) where
  floors : (i : ℕ) → i < member_count cut → IsFloor (window_floor cut i)
  floors i l = record { after = omega (arith, ints); before = omega (arith, ints, sound.window_start) }

  few_placed : length order ≤ MEMBERS
  few_placed = omega (arith, few, count cut order is)

  bounded : AreBounded cut entries
  bounded = record {
    entry = λ i l. entry_within cut (window_floor cut) order entries ties last sound floors placed few_placed i
        (is_there cut order is i l);
    starts = λ i p l u. start_within cut (window_floor cut) order entries ties last sound floors placed few_placed i
        (is_there cut order is i l) p u;
    ends = λ i p l u. end_within cut (window_floor cut) order entries ties last sound floors placed few_placed i
        (is_there cut order is i l) p u;
  }

  pub all_bounded : All IsBounded entries
  all_bounded k d l =
      subst IsBounded (get_or_default entries k (pos 0) d l)
      (bounded.entry k (omega (arith, l, placed.entries_count)))

  pub busiest_below : (best : Option ℕ) → best ≡ busiest cut entries → IfSome best (λ b. b < length last)
  busiest_below None e = tt
  busiest_below (Some b) e =
      omega (arith, busiest_there cut (window_floor cut) order entries ties last sound is placed b (sym e), placed.places)

  pub placed_are : map (placed_with cut.rows entries ties) (range_with_len 0 (member_count cut))
      ≡ map (placed_at cut entries) (members cut)
  placed_are =
      let n = member_count cut in
      let F = placed_with cut.rows entries ties in
      let G = placed_at cut entries in
      let long = length-map-range_with_len F 0 n in
      ext_get_or (G 0) (map F (members cut)) (map G (members cut)) (long ∙ sym (length-map-range_with_len G 0 n))
      (λ i l.
      let li : i < n = omega (arith, l, long) in
      get_or-map-range_with_len F 0 n i i (G 0) li (omega arith)
      ∙ ap (λ (t : Tie). record {
        train = (member cut i).name;
        planned =
            (member cut i).entry;
        entry = entry_at entries i;
        tie = t;
      })
      (tie_is cut (window_floor cut) order entries ties last sound is placed i li)
      ∙ sym (get_or-map-range_with_len G 0 n i i (G 0) li (omega arith)))

  -- a plan of these parts
  pub plan_is : (shown : Cut) (names : List (List ℕ)) (trains : List Placed) (time : ℕ) (busy train : Option ℕ)
      → shown ≡ cut → names ≡ place_names cut
      → trains ≡ map (placed_with cut.rows entries ties) (range_with_len 0 (member_count cut))
      → time ≡ occupancy cut entries → busy ≡ busiest cut entries → train ≡ critical_of busy last
      → record {
        from_s = shown.section.from_s;
        to_s = shown.section.to_s;
        add_percent = shown.section.add_percent;
        blocks = names;
        placed = trains;
        occupancy = time;
        busiest = busy;
        critical = train;
      } ≡ plan_of cut entries
  plan_is shown names trains time busy train s n t o b c =
      let d = t ∙ placed_are in
      let e = c ∙ critical_is cut (window_floor cut) order entries ties last sound is placed busy b in
      rw (s, n, d, o, b, e) refl

  pub compressed : (plan : Plan) → remaining cut ≡ [] → plan ≡ plan_of cut entries → IsCompressed cut plan
  compressed plan none same = (entries, least cut (window_floor cut) order entries ties last sound is placed none, same)

  pub bounded_times : (plan : Plan) → plan ≡ plan_of cut entries → HasBoundedTimes cut plan
  bounded_times plan same =
      subst (AreBounded cut) (sym (entries_are cut entries plan placed.entries_count same)) bounded
