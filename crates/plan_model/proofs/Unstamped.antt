-- Stamps are no part of what an answer says: the answer of a cut is that of the cut without its stamps.
use Rattle.std.proofs.Common.{◌≡◌, ℕ, zero, suc, ◌+◌, ◌<◌, ◌≤◌, List, [], ◌∷◌, ◌++◌, map, get_or, refl, sym, ap, ◌∙◌, subst}
use Rattle.std.specs.Prelude.{ℤ, ◌≤ℤ◌, ◌&&◌, IsTrue, ◌==◌, ◌-ℤ◌, nat_abs, max, filter, find, fold, take, drop, reverse, zip, option_map, option_and_then, unwrap_or, slice_index, if◌then◌else◌}
use Rattle.std.specs.List.{list_any, range_with_len, position_or_len}
use Rattle.std.specs.Ordering.{int_eq}
use Rattle.std.proofs.lemmas.List.{length-map}
use Rattle.plan_model.specs.declared.cut.CutRow.{CutRow}
use Rattle.plan_model.specs.declared.cut.Cut.{Cut}
use Rattle.plan_model.specs.declared.answer.Answer.{Answer}
use Rattle.plan_model.specs.declared.answer.Answer.TheVariants as answer
use Rattle.plan_model.specs.declared.answer.Tie.TheVariants.{Start, After}
use Rattle.plan_model.specs.Answer.{plan_of, IsAnswer, greatest}
use Rattle.plan_model.specs.Cut.{stamped_row, stamped, least}
use Rattle.plan_model.specs.Disorder.{link_place, pairs, opposite_pair, opposite, preceded, after_rounds, remaining, predecessor, circuit, from_least, ring}
use Rattle.plan_model.specs.Members.{no_member, member, member_count, members, uses_place, is_among, place_name, place_count, first_by_name, blocks, places, precedes, precedes_somewhere}
use Rattle.plan_model.specs.Schedule.{start_at, end_at, entry_at, window_floor, IsScheduleFrom, IsLeast}

row_unstamped : (rows : List CutRow) (i : ℕ) → get_or (map (stamped_row 0) rows) i no_member ≡ stamped_row 0 (get_or rows i no_member)
row_unstamped [] i = refl
row_unstamped (r ∷ rows) zero = refl
row_unstamped (r ∷ rows) (suc i) = row_unstamped rows i

module _ (cut : Cut) where
  count : member_count (stamped 0 cut) ≡ member_count cut
  count = length-map cut.rows (stamped_row 0)

  -- the members of the one are those of the other but for their stamps
  abbrev bare_member : ℕ → CutRow
  bare_member i = stamped_row 0 (member cut i)

  rows : member (stamped 0 cut) ≡ bare_member
  rows = λ k i. row_unstamped cut.rows i k

  somewhere : precedes_somewhere (stamped 0 cut) ≡ precedes_somewhere cut
  somewhere = λ k i j. list_any (precedes (rows k i) (rows k j)) (places cut)

  at_place : link_place (stamped 0 cut) ≡ link_place cut
  at_place = λ k i j. place_name cut (unwrap_or (first_by_name cut (filter (precedes (rows k i) (rows k j)) (places cut))) (place_count cut))

  -- ---- disorder

  pair : opposite_pair (stamped 0 cut) ≡ opposite_pair cut
  pair = λ k. find (λ p. somewhere k p.0 p.1 && somewhere k p.1 p.0) (pairs (count k))

  opposites : opposite (stamped 0 cut) ≡ opposite cut
  opposites = λ k. option_map (λ (p : ℕ × ℕ). record {
    first = (rows k p.0).name;
    second = (rows k p.1).name;
    block1 = at_place k p.0 p.1;
    block2 = at_place k p.1 p.0;
  }) (pair k)

  round : (some : List ℕ) → preceded (stamped 0 cut) some ≡ preceded cut some
  round some = λ k. filter (λ j. list_any (λ i. somewhere k i j) some) some

  rounds : (n : ℕ) (some : List ℕ) → after_rounds (stamped 0 cut) n some ≡ after_rounds cut n some
  rounds zero some = refl
  rounds (suc n) some = rounds n (preceded (stamped 0 cut) some) ∙ ap (after_rounds cut n) (round some)

  remain : remaining (stamped 0 cut) ≡ remaining cut
  remain = rounds (member_count (stamped 0 cut)) (members (stamped 0 cut))
      ∙ ap (λ n. after_rounds cut n (range_with_len 0 n)) count

  before : predecessor (stamped 0 cut) ≡ predecessor cut
  before = λ k j. unwrap_or (find (λ i. somewhere k i j) (remain k)) j

  circuits : (n : ℕ) (walked : List ℕ) (j : ℕ) → circuit (stamped 0 cut) n walked j ≡ circuit cut n walked j
  circuits zero walked j = refl
  circuits (suc n) walked j =
      let further = circuits n (walked ++ j ∷ []) (predecessor (stamped 0 cut) j)
      ∙ ap (λ f. circuit cut n (walked ++ j ∷ []) (f j)) before in
      λ k. if is_among walked j then drop (position_or_len (λ m. m == j) walked) walked else further k

  rings : ring (stamped 0 cut) ≡ ring cut
  rings =
      let circled = circuits (member_count (stamped 0 cut) + 1) [] (slice_index (remaining (stamped 0 cut)) 0)
      ∙ (λ k. circuit cut (count k + 1) [] (slice_index (remain k) 0)) in
      λ k. let r = from_least (reverse (circled k)) in
      map (λ (p : ℕ × ℕ). record { train = (rows k p.0).name; block = at_place k p.0 p.1; next = (rows k p.1).name })
      (zip r (drop 1 r ++ take 1 r))

  -- ---- the compressed timetable

  from_bare : (entries : List ℤ) → IsScheduleFrom (stamped 0 cut) (window_floor (stamped 0 cut)) entries → IsScheduleFrom cut (window_floor cut) entries
  from_bare entries h = record {
    count = h.count ∙ count;
    from = subst (λ n. (i : ℕ) → i < n → window_floor cut i ≤ℤ entry_at entries i) count h.from;
    order = subst (λ n. (i j place : ℕ) → i < n → j < n → IsTrue (precedes (member cut i) (member cut j) place)
        → end_at (member cut i) (entry_at entries i) place ≤ℤ start_at (member cut j) (entry_at entries j) place) count
        (subst (λ (m : ℕ → CutRow). (i j place : ℕ) → i < member_count (stamped 0 cut) → j < member_count (stamped 0 cut) → IsTrue (precedes (m i) (m j) place)
        → end_at (m i) (entry_at entries i) place ≤ℤ start_at (m j) (entry_at entries j) place) rows h.order);
  }

  to_bare : (entries : List ℤ) → IsScheduleFrom cut (window_floor cut) entries → IsScheduleFrom (stamped 0 cut) (window_floor (stamped 0 cut)) entries
  to_bare entries h = record {
    count = h.count ∙ sym count;
    from = subst (λ n. (i : ℕ) → i < n → window_floor cut i ≤ℤ entry_at entries i) (sym count) h.from;
    order = subst (λ n. (i j place : ℕ) → i < n → j < n → IsTrue (precedes (member (stamped 0 cut) i) (member (stamped 0 cut) j) place)
        → end_at (member (stamped 0 cut) i) (entry_at entries i) place ≤ℤ start_at (member (stamped 0 cut) j) (entry_at entries j) place) (sym count)
        (subst (λ (m : ℕ → CutRow). (i j place : ℕ) → i < member_count cut → j < member_count cut → IsTrue (precedes (m i) (m j) place)
        → end_at (m i) (entry_at entries i) place ≤ℤ start_at (m j) (entry_at entries j) place) (sym rows) h.order);
  }

  least_bare : (entries : List ℤ) → IsLeast cut entries → IsLeast (stamped 0 cut) entries
  least_bare entries h = record {
    schedule = to_bare entries h.schedule;
    least = λ other is i below. h.least other (from_bare other is) i (subst (λ n. i < n) count below);
  }

  module _ (entries : List ℤ) where
    -- that each member touches another where it does, by these entries
    plans : plan_of (stamped 0 cut) entries ≡ plan_of cut entries
    plans = λ k.
        let ms = range_with_len 0 (count k) in
        let start = λ (i place : ℕ). start_at (rows k i) (entry_at entries i) place in
        let ends = λ (i place : ℕ). end_at (rows k i) (entry_at entries i) place in
        let touch = λ (i j place : ℕ). precedes (rows k i) (rows k j) place && int_eq (ends i place) (start j place) in
        let uses = λ (i place : ℕ). uses_place (rows k i) place in
        let users = λ (place : ℕ). filter (λ i. uses i place) ms in
        let used = filter (λ b. list_any (λ i. uses i b) ms) (blocks cut) in
        let last = λ (place : ℕ). greatest (map (λ i. ends i place) (users place)) in
        let kept = λ (place : ℕ). nat_abs (last place -ℤ least (map (λ i. start i place) (users place))) in
        let time = fold max 0 (map kept used) in
        let busy = first_by_name cut (filter (λ b. kept b == time) used) in
        record {
          from_s = cut.section.from_s;
          to_s = cut.section.to_s;
          add_percent = cut.section.add_percent;
          blocks = cut.section.blocks ++ cut.connections;
          placed = map (λ j. record {
            train = (rows k j).name;
            planned = (rows k j).entry;
            entry = entry_at entries j;
            tie = if int_eq (entry_at entries j) (window_floor cut j) then Start
                else unwrap_or
                (option_and_then (λ i. option_map (After i) (first_by_name cut (filter (touch i j) (places cut))))
                (find (λ i. list_any (touch i j) (places cut)) ms)) Start;
          }) ms;
          occupancy = time;
          busiest = busy;
          critical = option_and_then (λ b. find (λ i. int_eq (ends i b) (last b)) (users b)) busy;
        }

  few : (most : ℕ) → member_count cut ≤ most → member_count (stamped 0 cut) ≤ most
  few most h = subst (λ n. n ≤ most) (sym count) h

  -- the answer of a cut is that of the cut without its stamps
  pub answer_unstamped : (a : Answer) → IsAnswer cut a → IsAnswer (stamped 0 cut) a
  answer_unstamped (answer.Crowded n) h = rw count h
  answer_unstamped (answer.Opposite first second block1 block2) h = (few _ h.0, opposites ∙ h.1)
  answer_unstamped (answer.Ring links) h = (few _ h.0, opposites ∙ h.1, λ e. h.2 (sym remain ∙ e), h.3 ∙ sym rings)
  answer_unstamped (answer.Ordered plan) h =
      (few _ h.0, opposites ∙ h.1, remain ∙ h.2, (h.3.0, least_bare h.3.0 h.3.1, h.3.2 ∙ sym (plans h.3.0)))
