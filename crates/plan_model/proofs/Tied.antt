-- Where no member remains, a schedule in which each train is tied is the least: along the rounds, no train can
-- enter earlier.
use Rattle.std.proofs.Common.{◌≡◌, ℕ, zero, suc, ◌<◌, true, false, List, [], inl, inr, sym, ap, subst, arith}
use Rattle.std.specs.Prelude.{ℤ, ◌+ℤ◌, ◌-ℤ◌, ◌≤ℤ◌}
use Rattle.std.specs.List.{list_any}
use Rattle.std.proofs.lemmas.Bool.{and_parts, cases_Bool, both_ways}
use Rattle.std.proofs.lemmas.Bool.Decides.{Decides-int_eq}
use Rattle.std.proofs.lemmas.Int.{ints}
use Rattle.std.proofs.lemmas.List.Folds.{Any-from_list_any, list_any_at}
use Rattle.plan_model.specs.declared.cut.Cut.{Cut}
use Rattle.plan_model.specs.Members.{places, member, member_count, members, use_at, precedes, precedes_somewhere}
use Rattle.plan_model.specs.Disorder.{preceded, after_rounds, remaining}
use Rattle.plan_model.specs.Schedule.{entry_at, start_by, end_by, IsScheduleFrom, touches}
use Rattle.plan_model.specs.Laws.{IsTiedFrom, TiedIsLeast}
use Rattle.plan_model.proofs.MemberTests.{has, has-range, has_any, has-filter}

-- a train that touches another enters no later than it must, if the other does
no_later : (end e x y start f u v : ℤ) → (end -ℤ e +ℤ x) ≡ (start -ℤ f +ℤ u) → (end -ℤ e +ℤ y) ≤ℤ (start -ℤ f +ℤ v)
    → x ≤ℤ y → u ≤ℤ v
no_later end e x y start f u v t o h = omega (arith, ints)

module _ (cut : Cut) (floor : ℕ → ℤ) (entries other : List ℤ) (schedule : IsScheduleFrom cut floor other)
    (tied : (j : ℕ) → j < member_count cut → IsTiedFrom cut floor entries j) where
  -- a member enters no later than by the other schedule
  abbrev Early : ℕ → Type 0
  Early j = entry_at entries j ≤ℤ entry_at other j

  -- each member that isn't among some enters no later
  abbrev OthersEarly : List ℕ → Type 0
  OthersEarly some = (j : ℕ) → j < member_count cut → has some j ≡ false → Early j

  touching : (i j place : ℕ) → i < member_count cut → j < member_count cut → touches cut entries i j place ≡ true
      → Early i → Early j
  touching i j place li lj t early =
      let parts = and_parts _ _ t in
      let a = member cut i in
      let b = member cut j in
      no_later (use_at a place).«end» a.entry _ _ (use_at b place).start b.entry _ _
      ((Decides-int_eq (end_by cut entries i place) (start_by cut entries j place)).0 parts.1)
      (schedule.order i j place li lj parts.0) early

  precedes_where_touches : (i j : ℕ) → list_any (touches cut entries i j) (places cut) ≡ true
      → precedes_somewhere cut i j ≡ true
  precedes_where_touches i j t =
      let at = Any-from_list_any (touches cut entries i j) (places cut) t in
      list_any_at (precedes (member cut i) (member cut j)) (places cut) at.0 at.1 at.2
      (subst (λ b. precedes (member cut i) (member cut j) b ≡ true) (sym at.3) (and_parts _ _ at.4).0)

  -- a member of some that none of them precedes is tied to one that isn't among them
  first_early : (some : List ℕ) → OthersEarly some → (j : ℕ) → j < member_count cut
      → list_any (λ i. precedes_somewhere cut i j) some ≡ false → Early j
  first_early some early j lj first =
      elim (tied j lj) [
        | inl e ↦ rw e (schedule.from j lj)
        | inr (i, li, t) ↦
            let at = Any-from_list_any (touches cut entries i j) (places cut) t in
            elim (cases_Bool (has some i)) [
              | inl h ↦
                  absurd (both_ways _ first
                  (has_any (λ k. precedes_somewhere cut k j) some i h (precedes_where_touches i j t)))
              | inr h ↦ touching i j at.1 li lj at.4 (early i li h)
            ]
      ]

  round : (some : List ℕ) → OthersEarly some → OthersEarly (preceded cut some)
  round some early j lj out =
      elim (cases_Bool (has some j)) [
        | inr h ↦ early j lj h
        | inl h ↦ elim (cases_Bool (list_any (λ i. precedes_somewhere cut i j) some)) [
          | inr first ↦ first_early some early j lj first
          | inl p ↦
              absurd (both_ways _ out (has-filter (λ k. list_any (λ i. precedes_somewhere cut i k) some) some j h p))
        ]
      ]

  rounds : (n : ℕ) (some : List ℕ) → OthersEarly some → OthersEarly (after_rounds cut n some)
  rounds zero some early = early
  rounds (suc n) some early = rounds n (preceded cut some) (round some early)

  all_early : remaining cut ≡ [] → (j : ℕ) → j < member_count cut → Early j
  all_early none j lj =
      rounds (member_count cut) (members cut)
      (λ k lk out. absurd (both_ways _ out (has-range (member_count cut) k lk))) j lj
      (ap (λ some. has some j) none)

pub tied_is_least : TiedIsLeast
tied_is_least cut floor entries none schedule tied = record {
  schedule = schedule;
  least = λ other of_other j lj. all_early cut floor entries other of_other tied none j lj;
}
