-- Members that follow their nearest, where fresh ones are compared, and those that no fresh one stands before.
use Rattle.std.proofs.Common.{◌≡◌, ℕ, ◌<◌, Bool, true, false, List, length, Option, None, Some, inl, inr, refl, sym, ◌∙◌, subst, arith}
use Rattle.std.specs.Prelude.{slice_index}
use Rattle.std.specs.Option.{IsSome}
use Rattle.std.proofs.lemmas.Bool.{both_ways}
use Rattle.plan_model.specs.declared.cut.CutRow.{CutRow}
use Rattle.plan_model.specs.declared.cut.Cut.{Cut}
use Rattle.plan_model.specs.Members.{member, uses_place, precedes}
use Rattle.plan_model.specs.Cut.{IsSoundCut}
use Rattle.plan_model.proofs.Uses.{place_there}
use Rattle.plan_model.proofs.Order.{one_precedes}
use Rattle.train_order.specs.Ordering.{IsOrder}
use Rattle.train_order.proofs.Users.{somewhere}
use Rattle.train_net.specs.Net.{standing, IsNearest}
use Rattle.train_net.specs.Mended.{stood, IsOrigin, AgreeInOrder, IsNearestAfter, AreCompared, is_marked, AreMarked}
use Rattle.train_net.specs.Laws.{ComparedFollow, UnmarkedHasNoneFresh}
use Rattle.train_net.proofs.Standing.{one_standing, before_by}

-- who stands nearest before a position has it as the nearest after
after_of : (cut : Cut) (order : List ℕ) (place near at : ℕ) → at < length order → IsNearest cut order place near at
    → uses_place (standing cut order at) place ≡ true → IsNearestAfter cut order place near at
after_of cut order place near at within nearest uses =
    record { later = nearest.before; within = within; uses = uses; none = nearest.none }

-- ---- marks

by_mark : (new : Cut) (origin : List (Option ℕ)) (order : List ℕ) (marks : List Bool) (at : ℕ)
    → AreMarked new origin order marks → at < length order → is_marked marks (slice_index order at) ≡ false
    → (place near : ℕ) → IsNearest new order place near at → uses_place (standing new order at) place ≡ true
    → (from : Option ℕ) → stood origin (slice_index order near) ≡ from → IsSome from
by_mark new origin order marks at marked within out place near nearest uses (Some a) e = refl
by_mark new origin order marks at marked within out place near nearest uses None e =
    absurd (both_ways (is_marked marks (slice_index order at)) out
    (marked place near at (omega (arith, nearest.before, within)) e nearest.uses
    (after_of new order place near at within nearest uses)))

pub unmarked_has_none_fresh : UnmarkedHasNoneFresh
unmarked_has_none_fresh new origin order marks at marked within out place near nearest uses =
    by_mark new origin order marks at marked within out place near nearest uses (stood origin (slice_index order near)) refl

-- ---- comparing

module _ (old new : Cut) (origin : List (Option ℕ)) (old_order order : List ℕ) (sound : IsSoundCut old)
    (ordered : IsOrder old old_order) (is : IsOrigin old new origin) (agree : AgreeInOrder origin old_order order)
    (compared : AreCompared new origin order) (place near at : ℕ) (within : at < length order)
    (nearest : IsNearest new order place near at) (uses : uses_place (standing new order at) place ≡ true) where
  -- of two kept members the one that stands before precedes, as it did
  kept_follow : (a b : ℕ) → stood origin (slice_index order at) ≡ Some a → stood origin (slice_index order near) ≡ Some b
      → precedes (standing new order near) (standing new order at) place ≡ true
  kept_follow a b kept_at kept_near =
      let stand = agree near at b a nearest.before within kept_near kept_at in
      let x_within : stand.at < length old_order = omega (arith, stand.before, stand.within) in
      let first = is.kept (slice_index order near) b kept_near in
      let then = is.kept (slice_index order at) a kept_at in
      let first_uses : uses_place (member old b) place ≡ true =
      subst (λ (r : CutRow). uses_place r place ≡ true) first.row nearest.uses in
      let then_uses : uses_place (member old a) place ≡ true = subst (λ (r : CutRow). uses_place r place ≡ true) then.row uses in
      let differ : b ≡ a → ⊥ = λ e.
      let same = one_standing old old_order ordered.each_once stand.at stand.next x_within stand.within
      (stand.one ∙ e ∙ sym stand.other) in
      omega (arith, same, stand.before) in
      elim (one_precedes old sound b a place first.before then.before differ first_uses then_uses) [
        | inl e ↦ rw (first.row, then.row) e
        | inr back ↦
            let there = place_there old sound a place then.before then_uses in
            let stand_back = ordered.before a b then.before first.before (somewhere old a b place there back) in
            let lt = before_by old old_order ordered.each_once a b stand.next stand.at stand_back stand.within x_within stand.other stand.one in
            absurd (omega (arith, lt, stand.before))
      ]

  by_origin : (from to : Option ℕ) → stood origin (slice_index order near) ≡ from → stood origin (slice_index order at) ≡ to
      → precedes (standing new order near) (standing new order at) place ≡ true
  by_origin from None e f = compared.before place near at within f uses nearest
  by_origin None (Some a) e f =
      compared.after place near at (omega (arith, nearest.before, within)) e nearest.uses
      (after_of new order place near at within nearest uses)
  by_origin (Some b) (Some a) e f = kept_follow a b f e

pub compared_follow : ComparedFollow
compared_follow old new origin old_order order sound ordered is agree compared place near at within nearest uses =
    by_origin old new origin old_order order sound ordered is agree compared place near at within nearest uses
    (stood origin (slice_index order near)) (stood origin (slice_index order at)) refl refl
