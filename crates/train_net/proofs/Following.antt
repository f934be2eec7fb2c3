-- Members of which each follows its nearest at each place stand in an order.
use Rattle.std.proofs.Common.{◌≡◌, ℕ, zero, suc, ◌+◌, ◌<◌, ◌≤◌, true, false, List, length, inl, inr, refl, sym, ◌∙◌, arith}
use Rattle.std.specs.Prelude.{ℤ, slice_index}
use Rattle.std.specs.List.Sorted.{IsPermutation}
use Rattle.std.proofs.lemmas.Bool.{and_parts, both_ways, cases_eq, false_from_ne_true}
use Rattle.plan_model.specs.declared.cut.Cut.{Cut}
use Rattle.plan_model.specs.Members.{members, uses_place, use_at, precedes}
use Rattle.plan_model.specs.Cut.{IsSoundCut}
use Rattle.train_order.specs.Visits.{is_earlier}
use Rattle.train_order.specs.EntryOrder.{AreInOrder}
use Rattle.train_order.proofs.Apart.{below}
use Rattle.train_order.proofs.Before.{weak, earlier_is}
use Rattle.train_order.proofs.Users.{users}
use Rattle.train_order.proofs.InOrder.{is_ordering}
use Rattle.train_net.specs.Net.{standing, FollowInTurn}
use Rattle.train_net.specs.Laws.{FollowingIsOrder}
use Rattle.train_net.proofs.Nearest.{nearest_after}

module _ (cut : Cut) (sound : IsSoundCut cut) (order : List ℕ) (once : IsPermutation (members cut) order)
    (follow : FollowInTurn cut order) where
  -- when who stands at a position starts at a place
  abbrev start_at : ℕ → ℕ → ℤ
  start_at place k = (use_at (standing cut order k) place).start

  abbrev key : ℕ → ℕ → ℤ × ℕ
  key place k = (start_at place k, slice_index order k)

  -- one precedes another by their starts and positions
  earlier : (place k l : ℕ) → k < length order → l < length order
      → precedes (standing cut order k) (standing cut order l) place ≡ true → is_earlier (key place k) (key place l) ≡ true
  earlier place k l lk ll h =
      sym (earlier_is cut sound (start_at place k) (start_at place l) (slice_index order k) (slice_index order l)
      (below cut order once k 0 lk) (below cut order once l 0 ll))
      ∙ (and_parts _ _ h).1

  never_back : (place gap near at : ℕ) → at ≤ near + gap → near < at → at < length order
      → uses_place (standing cut order near) place ≡ true → uses_place (standing cut order at) place ≡ true
      → is_earlier (key place at) (key place near) ≡ false
  never_back place zero near at close before within first uses = absurd (omega (arith, close, before))
  never_back place (suc gap) near at close before within first uses =
      let found = nearest_after cut order place at near first before in
      let m = found.0 in
      let nearest = found.2 in
      let there : m < length order = omega (arith, nearest.before, within) in
      let last : is_earlier (key place at) (key place m) ≡ false =
      weak.one_way (key place m) (key place at) (earlier place m at there within (follow place m at within nearest uses)) in
      elim (cases_eq near m) [
        | inl same ↦ rw same last
        | inr differ ↦
            let further : near < m = omega (arith, found.1, differ) in
            weak.chain (key place at) (key place m) (key place near) last
            (never_back place gap near m (omega (arith, close, nearest.before)) further there first nearest.uses)
      ]

  are_in_order : AreInOrder cut order
  are_in_order k l place lt within =
      false_from_ne_true _ (λ h.
      let both = users cut (slice_index order l) (slice_index order k) place h in
      both_ways (is_earlier (key place l) (key place k)) (never_back place l k l (omega arith) lt within both.1 both.0)
      (earlier place l k within (omega (arith, lt, within)) h))

pub following_is_order : FollowingIsOrder
following_is_order cut order sound once follow =
    is_ordering cut order.positions once sound (are_in_order cut sound order.positions once follow) order refl
