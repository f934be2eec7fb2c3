-- How late a train enters at most where each is tied.
use Rattle.std.proofs.Common.{◌≡◌, ℕ, zero, suc, ◌+◌, ◌*◌, ◌<◌, ◌≤◌, List, [], inl, inr, refl, ap, arith}
use Rattle.std.specs.Prelude.{ℤ, pos, ◌+ℤ◌, ◌-ℤ◌, ◌≤ℤ◌}
use Rattle.std.proofs.lemmas.Bool.{and_parts}
use Rattle.std.proofs.lemmas.Bool.Decides.{Decides-int_eq}
use Rattle.std.proofs.lemmas.Int.{ints}
use Rattle.std.proofs.lemmas.List.Folds.{Any-from_list_any}
use Rattle.rail_model.specs.declared.limits.TheConstants.{GREATEST_MOMENT_S}
use Rattle.plan_model.specs.declared.limits.TheConstants.{MEMBERS}
use Rattle.plan_model.specs.declared.cut.Cut.{Cut}
use Rattle.plan_model.specs.Members.{places, place_count, member, member_count, use_at, precedes}
use Rattle.plan_model.specs.Cut.{IsMoment, IsSoundCut}
use Rattle.plan_model.specs.Disorder.{remaining}
use Rattle.plan_model.specs.Schedule.{window_start, entry_at, start_by, end_by, touches}
use Rattle.plan_model.specs.Laws.{IsTied}
use Rattle.plan_model.proofs.MemberTests.{has, has_any, has-range}
use Rattle.plan_model.proofs.Uses.{place_there}
use Rattle.plan_model.proofs.Sound.{usable, use_sound}
use Rattle.critical_chain.proofs.Rounds.{IsOutWithin, some_rounds, earlier}
use Rattle.train_order.proofs.Users.{users}

-- ---- the latest entry

-- of one that is taken out within n rounds
abbrev latest : ℕ → ℤ
latest n = pos (n * 200000000 + 50000000)

window_latest : (n : ℕ) (x t : ℤ) → t ≤ℤ GREATEST_MOMENT_S → x ≡ t → x ≤ℤ latest n
window_latest n x t h e = omega (arith, ints, h, e)

-- one train ends its use as the other starts
tied_latest : (n : ℕ) (f e y s g x : ℤ) → (f -ℤ e +ℤ y) ≡ (s -ℤ g +ℤ x) → IsMoment f → IsMoment e → IsMoment s → IsMoment g
    → y ≤ℤ latest n → x ≤ℤ latest (suc n)
tied_latest n f e y s g x same a b c d h = omega (arith, ints, same, a.before, b.after, c.after, d.before, h)

bounded_latest : (n : ℕ) (x : ℤ) → n ≤ MEMBERS → x ≤ℤ latest n → x ≤ℤ pos 1125899906842624
bounded_latest n x few h = omega (arith, ints, few, h)

module _ (cut : Cut) (entries : List ℤ) (sound : IsSoundCut cut)
    (tied : (j : ℕ) → j < member_count cut → IsTied cut entries j) where
  late : (n j : ℕ) → j < member_count cut → IsOutWithin cut n j → entry_at entries j ≤ℤ latest n
  late zero j l out = absurd (let some = some_rounds cut zero j l out in omega (arith, some))
  late (suc n) j l out =
      elim (tied j l) [
        | inl e ↦ window_latest (suc n) (entry_at entries j) (window_start cut) sound.window_start e
        | inr (i, li, t) ↦
            let at = Any-from_list_any (touches cut entries i j) (places cut) t in
            let p = at.1 in
            let parts = and_parts (precedes (member cut i) (member cut j) p) _ at.4 in
            let used = users cut i j p parts.0 in
            let somewhere = has_any (precedes (member cut i) (member cut j)) (places cut) p
            (has-range (place_count cut) p (place_there cut sound i p li used.0)) parts.0 in
            tied_latest n (use_at (member cut i) p).«end» (member cut i).entry (entry_at entries i)
            (use_at (member cut j) p).start (member cut j).entry (entry_at entries j)
            ((Decides-int_eq (end_by cut entries i p) (start_by cut entries j p)).0 parts.1)
            (use_sound cut sound i li p used.0).ends (usable cut sound i li).entry (use_sound cut sound j l p used.1).starts
            (usable cut sound j l).entry (late n i li (earlier cut (suc n) n i j refl l somewhere out))
      ]

  pub bounded : remaining cut ≡ [] → member_count cut ≤ MEMBERS → (j : ℕ) → j < member_count cut
      → entry_at entries j ≤ℤ pos 1125899906842624
  bounded none few j l =
      bounded_latest (member_count cut) (entry_at entries j) (omega (arith, few))
      (late (member_count cut) j l (ap (λ some. has some j) none))
