-- Tests that show a list of entries to be a schedule, and the least.
use Rattle.std.proofs.Common.{◌≡◌, ℕ, ◌<◌, Bool, true, not, ◌&&◌, ◌||◌, List, [], length, inl, inr}
use Rattle.std.specs.Prelude.{ℤ, ◌==◌, ◌≤ℤ◌, int_le, IsTrue}
use Rattle.std.specs.List.{list_all, list_any}
use Rattle.std.proofs.lemmas.Bool.{and_parts, or_cases, not-true, eqb-true, both_ways}
use Rattle.rail_model.specs.declared.stair.Use.{Use}
use Rattle.rail_model.proofs.Numbers.{le_from_test}
use Rattle.plan_model.specs.declared.cut.Cut.{Cut}
use Rattle.plan_model.specs.Members.{member, member_count, members, precedes, places}
use Rattle.plan_model.proofs.MemberTests.{at_member, some_member, at_use}
use Rattle.plan_model.specs.Disorder.{remaining}
use Rattle.plan_model.specs.Schedule.{window_start, window_floor, entry_at, start_by, end_by, IsSchedule, IsLeast, touches}
use Rattle.plan_model.specs.Laws.{IsTied}
use Rattle.plan_model.proofs.Tied.{tied_is_least}
use Rattle.std.specs.Ordering.{int_eq}
use Rattle.std.proofs.lemmas.Bool.Decides.{Decides-int_eq}

module _ (cut : Cut) (entries : List ℤ) where
  -- member i keeps its order with member j at a place
  abbrev pub keeps_order_at : ℕ → ℕ → ℕ → Bool
  keeps_order_at i j place =
      not (precedes (member cut i) (member cut j) place)
      || int_le (end_by cut entries i place) (start_by cut entries j place)

  -- member i keeps its order with all others at the places that it uses
  abbrev pub keeps_order : ℕ → Bool
  keeps_order i = list_all (λ j. list_all (λ (u : Use). keeps_order_at i j u.block) (member cut i).uses) (members cut)

  abbrev pub is_schedule : Bool
  is_schedule =
      (length entries == member_count cut)
      && (list_all (λ i. int_le (window_start cut) (entry_at entries i)) (members cut)
      && list_all keeps_order (members cut))

  in_order : list_all keeps_order (members cut) ≡ true → (i j place : ℕ) → i < member_count cut
      → j < member_count cut → IsTrue (precedes (member cut i) (member cut j) place)
      → end_by cut entries i place ≤ℤ start_by cut entries j place
  in_order h i j place li lj p =
      let of_i = at_member cut keeps_order i h li in
      let of_j =
      at_member cut (λ j. list_all (λ (u : Use). keeps_order_at i j u.block) (member cut i).uses) j of_i lj in
      let used = and_parts _ _ (and_parts _ _ p).0 in
      elim (or_cases _ _ (at_use (member cut i) (keeps_order_at i j) place of_j used.0)) [
        | inl not_so ↦ absurd (both_ways _ (not-true _ not_so) p)
        | inr le ↦ le_from_test (end_by cut entries i place) (start_by cut entries j place) le
      ]

  pub schedule : is_schedule ≡ true → IsSchedule cut entries
  schedule h =
      let parts = and_parts _ _ h in
      let rest = and_parts _ _ parts.1 in
      record {
        count = eqb-true (length entries) (member_count cut) parts.0;
        from =
            λ i l. le_from_test (window_start cut) (entry_at entries i)
            (at_member cut (λ i. int_le (window_start cut) (entry_at entries i)) i rest.0 l);
        order = in_order rest.1;
      }

  -- member j is tied
  abbrev pub is_tied : ℕ → Bool
  is_tied j =
      int_eq (entry_at entries j) (window_start cut)
      || list_any (λ i. list_any (touches cut entries i j) (places cut)) (members cut)

  tied : list_all is_tied (members cut) ≡ true → (j : ℕ) → j < member_count cut → IsTied cut entries j
  tied h j l =
      elim (or_cases _ _ (at_member cut is_tied j h l)) [
        | inl e ↦ inl ((Decides-int_eq (entry_at entries j) (window_start cut)).0 e)
        | inr t ↦ inr (some_member cut (λ i. list_any (touches cut entries i j) (places cut)) t)
      ]

  pub least : remaining cut ≡ [] → is_schedule ≡ true → list_all is_tied (members cut) ≡ true → IsLeast cut entries
  least none h t = tied_is_least cut (window_floor cut) entries none (schedule h) (tied t)
