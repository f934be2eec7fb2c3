-- How late the placed trains are at most, and that no moment of theirs is far off.
use Rattle.std.proofs.Common.{◌≡◌, ℕ, ◌+◌, ◌<◌, ◌≤◌, true, List, length, inl, inr, subst, arith}
use Rattle.std.specs.Prelude.{ℤ, ◌+ℤ◌, ◌-ℤ◌, ◌≤ℤ◌, Option, None, Some, slice_index_or, All}
use Rattle.std.proofs.lemmas.Int.{ints}
use Rattle.std.proofs.lemmas.List.{get_or_default}
use Rattle.plan_model.specs.declared.limits.TheConstants.{MEMBERS}
use Rattle.plan_model.specs.declared.cut.Cut.{Cut}
use Rattle.plan_model.specs.declared.answer.Tie.{Tie}
use Rattle.plan_model.specs.Members.{place_count, member, member_count, no_member, uses_place, use_at, is_among}
use Rattle.plan_model.specs.Cut.{IsMoment, IsBounded, IsSoundCut}
use Rattle.plan_model.specs.Schedule.{entry_at, start_by, end_by}
use Rattle.plan_model.proofs.Uses.{place_there}
use Rattle.plan_model.proofs.Sound.{usable, use_sound}
use Rattle.train_placing.specs.declared.last.Last.{Last}
use Rattle.train_placing.specs.Last.{IsNear, IsNearLast}
use Rattle.train_placing.specs.Placing.{IsFloor, next_entry, IsLast, IsLeft, latest, ArePlaced}
use Rattle.train_placing.proofs.Row.{from_below, reached}

-- ---- the latest entry

pub later_still : (n : ℕ) (t : ℤ) → t ≤ℤ latest n → t ≤ℤ latest (n + 1)
later_still n t h = omega (arith, ints, h)

pub floor_latest : (n : ℕ) (t x : ℤ) → IsFloor t → x ≡ t → x ≤ℤ latest (n + 1)
floor_latest n t x h e = omega (arith, ints, h.before, e)

-- a use ends within the limit, its train entered by then, and the next train's times are within the limit
asked_latest : (n : ℕ) (end e y u s planned x : ℤ) → u ≡ (end -ℤ e +ℤ y) → IsMoment end → IsMoment e → IsMoment s
    → IsMoment planned → y ≤ℤ latest n → x ≡ (u -ℤ (s -ℤ planned)) → x ≤ℤ latest (n + 1)
asked_latest n end e y u s planned x h a b c d l q = omega
    (arith, ints, h, a.before, b.after, c.after, d.before, l, q)

-- the last use of a place
pub left_as : {cut : Cut} {floor : ℕ → ℤ} {some : List ℕ} {entries : List ℤ} {ties : List Tie} {last : List (Option Last)}
    → ArePlaced cut floor some entries ties last → (p : ℕ) (o : Option Last) → p < place_count cut → slice_index_or last p None ≡ o
    → IsLeft cut entries some p o
left_as {cut} {some = some} {entries = entries} placed p o l e = subst (IsLeft cut entries some p) e (placed.left p l)

module _ (cut : Cut) (floor : ℕ → ℤ) (some : List ℕ) (entries : List ℤ) (ties : List Tie) (last : List (Option Last))
    (j : ℕ) (sound : IsSoundCut cut) (placed : ArePlaced cut floor some entries ties last) (lj : j < member_count cut)
    (floor_j : IsFloor (floor j)) where
  pub entry_latest : next_entry cut j (floor j) last ≤ℤ latest (length some + 1)
  entry_latest =
      let row = member cut j in
      elim (reached row.entry last (floor j) row.uses (sound.each j no_member lj).places_differ) [
        | inl e ↦ floor_latest (length some) (floor j) (next_entry cut j (floor j) last) floor_j e
        | inr a ↦
            let left : IsLast cut entries some a.place a.last_use =
            left_as placed a.place (Some a.last_use) (place_there cut sound j a.place lj a.used) a.is in
            let t = a.last_use.train in
            let lt = placed.there t left.there in
            asked_latest (length some) (use_at (member cut t) a.place).«end» (member cut t).entry (entry_at entries t)
            a.last_use.until (use_at row a.place).start row.entry (next_entry cut j (floor j) last) left.until
            (use_sound cut sound t lt a.place left.uses).ends (usable cut sound t lt).entry
            (use_sound cut sound j lj a.place a.used).starts (usable cut sound j lj).entry
            (placed.latest t left.there) a.at_entry
      ]

-- ---- moments that are near

pub near_floor : (t : ℤ) → IsFloor t → IsNear t
near_floor t h = record { after = omega (arith, ints, h.after); before = omega (arith, ints, h.before) }

near_until : (n : ℕ) (end e y u w : ℤ) → n ≤ MEMBERS → u ≡ (end -ℤ e +ℤ y) → IsMoment end → IsMoment e → IsFloor w
    → w ≤ℤ y → y ≤ℤ latest n → IsNear u
near_until n end e y u w few h a b z v l = record {
  after = omega (arith, ints, h, a.after, b.before, z.after, v);
  before = omega (arith, ints, few, h, a.before, b.after, l);
}

module _ (cut : Cut) (floor : ℕ → ℤ) (some : List ℕ) (entries : List ℤ) (ties : List Tie) (last : List (Option Last))
    (sound : IsSoundCut cut) (floors : (i : ℕ) → i < member_count cut → IsFloor (floor i))
    (placed : ArePlaced cut floor some entries ties last) (few : length some ≤ MEMBERS) where
  near_last : (p : ℕ) (o : Option Last) → IsLeft cut entries some p o → IsNearLast o
  near_last p None left = tt
  near_last p (Some l) left =
      let t = l.train in
      let lt = placed.there t left.there in
      near_until (length some) (use_at (member cut t) p).«end» (member cut t).entry (entry_at entries t) l.until
      (floor t) few left.until (use_sound cut sound t lt p left.uses).ends (usable cut sound t lt).entry
      (floors t lt) (placed.from t left.there) (placed.latest t left.there)

  pub all_near : All IsNearLast last
  all_near k d l =
      subst IsNearLast (get_or_default last k None d l)
      (near_last k (slice_index_or last k None) (placed.left k (omega (arith, l, placed.places))))

-- ---- the next entry

bounded_floor : (x t : ℤ) → IsNear t → x ≡ t → IsBounded x
bounded_floor x t h e = record { after = omega (arith, ints, h.after, e); before = omega (arith, ints, h.before, e) }

bounded_asked : (x t u s planned : ℤ) → IsNear t → t ≤ℤ x → IsNear u → IsMoment s → IsMoment planned
    → x ≡ (u -ℤ (s -ℤ planned)) → IsBounded x
bounded_asked x t u s planned z h n a b e = record {
  after = omega (arith, ints, z.after, h);
  before = omega (arith, ints, e, n.before, a.after, b.before);
}

pub entry_bounded : (cut : Cut) (last : List (Option Last)) (j : ℕ) (floor : ℤ) → IsSoundCut cut
    → j < member_count cut → IsNear floor → length last ≡ place_count cut → All IsNearLast last
    → IsBounded (next_entry cut j floor last)
entry_bounded cut last j floor sound lj from count near =
    let row = member cut j in
    elim (reached row.entry last floor row.uses (sound.each j no_member lj).places_differ) [
      | inl e ↦ bounded_floor (next_entry cut j floor last) floor from e
      | inr a ↦
          let there = place_there cut sound j a.place lj a.used in
          let n : IsNear a.last_use.until = subst IsNearLast a.is (near a.place None (omega (arith, there, count))) in
          bounded_asked (next_entry cut j floor last) floor a.last_use.until (use_at row a.place).start row.entry
          from (from_below row.entry last floor row.uses) n
          (use_sound cut sound j lj a.place a.used).starts (usable cut sound j lj).entry a.at_entry
    ]

-- ---- all times

bounded_entry : (n : ℕ) (y w : ℤ) → n ≤ MEMBERS → IsFloor w → w ≤ℤ y → y ≤ℤ latest n → IsBounded y
bounded_entry n y w few z v l = record {
  after = omega (arith, ints, z.after, v);
  before = omega (arith, ints, few, l);
}

bounded_time : (n : ℕ) (t e y w : ℤ) → n ≤ MEMBERS → IsMoment t → IsMoment e → IsFloor w → w ≤ℤ y → y ≤ℤ latest n
    → IsBounded (t -ℤ e +ℤ y)
bounded_time n t e y w few a b z v l = record {
  after = omega (arith, ints, a.after, b.before, z.after, v);
  before = omega (arith, ints, few, a.before, b.after, l);
}

module _ (cut : Cut) (floor : ℕ → ℤ) (some : List ℕ) (entries : List ℤ) (ties : List Tie) (last : List (Option Last))
    (sound : IsSoundCut cut) (floors : (i : ℕ) → i < member_count cut → IsFloor (floor i))
    (placed : ArePlaced cut floor some entries ties last) (few : length some ≤ MEMBERS) (i : ℕ)
    (among : is_among some i ≡ true) where
  l : i < member_count cut
  l = placed.there i among

  pub entry_within : IsBounded (entry_at entries i)
  entry_within =
      bounded_entry (length some) (entry_at entries i) (floor i) few (floors i l) (placed.from i among)
      (placed.latest i among)

  pub start_within : (p : ℕ) → uses_place (member cut i) p ≡ true → IsBounded (start_by cut entries i p)
  start_within p used =
      bounded_time (length some) (use_at (member cut i) p).start (member cut i).entry (entry_at entries i)
      (floor i) few (use_sound cut sound i l p used).starts (usable cut sound i l).entry (floors i l)
      (placed.from i among) (placed.latest i among)

  pub end_within : (p : ℕ) → uses_place (member cut i) p ≡ true → IsBounded (end_by cut entries i p)
  end_within p used =
      bounded_time (length some) (use_at (member cut i) p).«end» (member cut i).entry (entry_at entries i)
      (floor i) few (use_sound cut sound i l p used).ends (usable cut sound i l).entry (floors i l)
      (placed.from i among) (placed.latest i among)
