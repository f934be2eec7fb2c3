-- A part of an orderly piece is orderly: what remained in the part would be preceded in the whole piece, too.
use Rattle.std.proofs.Common.{◌≡◌, ℕ, zero, suc, ◌+◌, ◌-◌, ◌<◌, ◌≤◌, Bool, true, List, [], ◌∷◌, map, length, get_or, inl, inr, refl, sym, ap, subst, ◌∙◌, arith, length-append}
use Rattle.std.specs.Prelude.{filter, take, drop}
use Rattle.std.specs.List.{list_any, range_with_len}
use Rattle.std.proofs.lemmas.Bool.{cases_Bool, and_parts, or_left, eq-eqb}
use Rattle.std.proofs.lemmas.List.{length-take, length-drop}
use Rattle.plan_model.specs.declared.cut.CutRow.{CutRow}
use Rattle.plan_model.specs.declared.cut.Cut.{Cut}
use Rattle.plan_model.specs.Members.{place_count, places, member, member_count, no_member, uses_place, precedes, precedes_somewhere}
use Rattle.plan_model.specs.Disorder.{remaining}
use Rattle.plan_model.proofs.MemberTests.{has, has-range, has_any, in_range}
use Rattle.plan_model.proofs.Preceded.{remain}
use Rattle.train_order.proofs.Find.{find_some}
use Rattle.critical_chain.proofs.Opposite.{ordered_is_not_opposite}
use Rattle.line_cutter.specs.Cutting.{piece, piece_row, uses_piece}
use Rattle.line_cutter.specs.Laws.{PartIsOrderly}
use Rattle.line_cutter.proofs.Part.{same_precedence, used_within, wider}
use Rattle.line_cutter.proofs.Remaining.{remaining_there, remaining_preceded}

-- ---- rows that both of two lists are made from

record IsMade (g : CutRow → CutRow) (q : CutRow → Bool) (rows : List CutRow) (row : CutRow) : Type 0 where
  pub at : ℕ
  pub there : at < length (map g (filter q rows))
  pub is : get_or (map g (filter q rows)) at no_member ≡ g row

record IsKept (f g : CutRow → CutRow) (q : CutRow → Bool) (rows : List CutRow) (item : CutRow) : Type 0 where
  pub row : CutRow
  pub from : item ≡ f row
  pub other : IsMade g q rows row

module _ (g : CutRow → CutRow) (q : CutRow → Bool) where
  made_first : (r : CutRow) (rows : List CutRow) → q r ≡ true → IsMade g q (r ∷ rows) r
  made_first r rows e = record { at = 0; there = rw e (omega arith); is = rw e refl }

  made_more : (r : CutRow) (rows : List CutRow) (row : CutRow) → IsMade g q rows row → IsMade g q (r ∷ rows) row
  made_more r rows row made =
      elim (cases_Bool (q r)) [
        | inl e ↦ record { at = suc made.at; there = rw e (omega (arith, made.there)); is = rw e made.is }
        | inr e ↦ record { at = made.at; there = rw e made.there; is = rw e made.is }
      ]

module _ (f g : CutRow → CutRow) (p q : CutRow → Bool) (also : (r : CutRow) → p r ≡ true → q r ≡ true) where
  kept_more : (r : CutRow) (rows : List CutRow) (item : CutRow) → IsKept f g q rows item → IsKept f g q (r ∷ rows) item
  kept_more r rows item kept = record { row = kept.row; from = kept.from; other = made_more g q r rows kept.row kept.other }

  kept : (rows : List CutRow) (i : ℕ) → i < length (map f (filter p rows))
      → IsKept f g q rows (get_or (map f (filter p rows)) i no_member)
  kept [] i l = absurd (omega (arith, l))
  kept (r ∷ rows) zero l =
      elim (cases_Bool (p r)) [
        | inl e ↦ record { row = r; from = rw e refl; other = made_first g q r rows (also r e) }
        | inr e ↦ rw e (kept_more r rows _ (kept rows zero (rw e at l)))
      ]
  kept (r ∷ rows) (suc i) l =
      elim (cases_Bool (p r)) [
        | inl e ↦ let m = rw e at l in rw e (kept_more r rows _ (kept rows i (omega (arith, m))))
        | inr e ↦ rw e (kept_more r rows _ (kept rows (suc i) (rw e at l)))
      ]

-- ---- the part and the whole piece

-- what a test finds among the first numbers
pub some_below : (test : ℕ → Bool) (n : ℕ) → list_any test (range_with_len 0 n) ≡ true → (p : ℕ) × (p < n) × (test p ≡ true)
some_below test n h =
    let some = find_some test (range_with_len 0 n) h in
    (some.0, omega (arith, in_range 0 n some.0 some.2), some.3)

place_in_piece : (cut : Cut) (a b : ℕ) → place_count (piece cut a b) ≡ length (take b cut.section.blocks) - a
place_in_piece cut a b =
    let front = take b cut.section.blocks in
    omega (arith, length-append (drop a front) [], length-drop a front)

-- a member of the whole piece whose row remains in the part
record Stays (cut : Cut) (a b c d j : ℕ) : Type 0 where
  pub there : j < member_count (piece cut a b)
  pub row : CutRow
  pub is : member (piece cut a b) j ≡ piece_row a b row
  pub at : ℕ
  pub remains : has (remaining (piece cut c d)) at ≡ true
  pub part : member (piece cut c d) at ≡ piece_row c d row

module _ (cut : Cut) (a b c d : ℕ) (from : a ≤ c) (to : d ≤ b) where
  abbrev stays : (at : ℕ) → has (remaining (piece cut c d)) at ≡ true → (j : ℕ) × Stays cut a b c d j
  stays at h =
      let some = kept (piece_row c d) (piece_row a b) (uses_piece c d) (uses_piece a b) (λ r u. wider a b c d from to r.uses u)
      cut.rows at (remaining_there (piece cut c d) at h) in
      (some.other.at, record { there = some.other.there; row = some.row; is = some.other.is; at = at; remains = h; part = some.from })

  precedes_too : (i j : CutRow) (p : ℕ) → p < place_count (piece cut c d)
      → precedes (piece_row c d i) (piece_row c d j) p ≡ true
      → (p + c - a < place_count (piece cut a b)) × (precedes (piece_row a b i) (piece_row a b j) (p + c - a) ≡ true)
  precedes_too i j p l h =
      let uses = (and_parts (uses_place (piece_row c d i) p) (uses_place (piece_row c d j) p) (and_parts _ _ h).0).0 in
      let within : p + c < d = used_within c d p i.uses uses in
      let blocks = cut.section.blocks in (
        omega (arith, l, from, to, place_in_piece cut a b, place_in_piece cut c d, length-take b blocks, length-take d blocks),
        same_precedence a b (p + c - a) (p + c) (omega (arith, from)) (omega (arith, within, to)) i j
            ∙ sym (same_precedence c d p (p + c) refl within i j) ∙ h,
      )

  stays_preceded : (j : ℕ) → Stays cut a b c d j
      → (i : ℕ) × Stays cut a b c d i × (precedes_somewhere (piece cut a b) i j ≡ true)
  stays_preceded j s =
      let by = remaining_preceded (piece cut c d) s.at s.remains in
      let other = stays by.0 by.1 in
      let o = other.1 in
      let before = some_below (precedes (member (piece cut c d) by.0) (member (piece cut c d) s.at)) (place_count (piece cut c d)) by.2 in
      let part : precedes (piece_row c d o.row) (piece_row c d s.row) before.0 ≡ true =
      subst (λ (r : CutRow). precedes r (piece_row c d s.row) before.0 ≡ true) o.part
      (subst (λ (r : CutRow). precedes (member (piece cut c d) by.0) r before.0 ≡ true) s.part before.2) in
      let too = precedes_too o.row s.row before.0 before.1 part in
      let whole : precedes (member (piece cut a b) other.0) (member (piece cut a b) j) (before.0 + c - a) ≡ true =
      subst (λ (r : CutRow). precedes r (member (piece cut a b) j) (before.0 + c - a) ≡ true) (sym o.is)
      (subst (λ (r : CutRow). precedes (piece_row a b o.row) r (before.0 + c - a) ≡ true) (sym s.is) too.1) in (
        other.0,
        o,
        has_any (precedes (member (piece cut a b) other.0) (member (piece cut a b) j)) (places (piece cut a b)) (before.0 + c - a)
            (has-range (place_count (piece cut a b)) (before.0 + c - a) too.0) whole,
      )

  none_left : remaining (piece cut a b) ≡ [] → (left : List ℕ) → remaining (piece cut c d) ≡ left → left ≡ []
  none_left none [] e = refl
  none_left none (k ∷ left) e =
      let first : has (k ∷ left) k ≡ true = or_left _ _ (eq-eqb k k refl) in
      let some = stays k (rw e first) in
      let remains = remain (piece cut a b) (λ j. Stays cut a b c d j) (λ j s. s.there) stays_preceded some.0 some.1 in
      let gone = ap (λ all. has all some.0) none in
      absurd (cc)

pub part_is_orderly : PartIsOrderly
part_is_orderly cut a b c d from to orderly =
    let none = none_left cut a b c d from to orderly.none_remains (remaining (piece cut c d)) refl in
    record { not_opposite = ordered_is_not_opposite (piece cut c d) none; none_remains = none }
