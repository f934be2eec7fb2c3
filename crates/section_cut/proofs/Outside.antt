-- Uses that start before a section's window, or after it, are no member's.
use Rattle.std.proofs.Common.{◌≡◌, ℕ, ◌<◌, Bool, true, false, ltb, List, [], ◌∷◌, map, length, All, refl, sym, subst, inl, inr, arith}
use Rattle.std.specs.Prelude.{ℤ, pos, ◌<ℤ◌, ◌≤ℤ◌, int_lt, int_le, nat_lt, ◌&&◌, filter, fold}
use Rattle.std.specs.Int.{int_min}
use Rattle.std.proofs.lemmas.Int.{ints, fold-int_min_bounds}
use Rattle.std.proofs.lemmas.Bool.{and_parts, cases_Bool, lt-ltb, ltb-true}
use Rattle.std.proofs.lemmas.List.{length-map}
use Rattle.std.proofs.lemmas.List.Elements.{All-map, All-filter}
use Rattle.rail_model.specs.declared.items.Section.{Section}
use Rattle.rail_model.specs.declared.stair.Use.{Use}
use Rattle.plan_model.specs.Cut.{least}
use Rattle.section_cut.specs.Starts.{EntersEarly, StartsOutside}
use Rattle.section_cut.specs.Members.{enters}
use Rattle.section_cut.proofs.BlockUses.{least_holds}

-- the uses with their blocks by some position, and those of them that are in the section
module _ (section : Section) (position : ℕ → ℕ) (blocks : ℕ) (uses : List Use) where
  abbrev placed : Use → Use
  placed u = record u { block = position u.block }

  abbrev inside : List Use
  inside = filter (λ u. ltb u.block blocks) (map placed uses)

  abbrev starts : List ℤ
  starts = map (λ (u : Use). u.start) inside

  -- what holds of all starts holds of the least of those in the section
  entry_holds : (P : ℤ → Type 0) → 0 < length inside → All (λ (u : Use). P u.start) uses → P (least starts)
  entry_holds P some each =
      let From : Use → Type 0 = λ u. P u.start in
      least_holds P starts (omega (arith, some, length-map inside (λ (u : Use). u.start)))
      (All-map P (λ (u : Use). u.start) inside
      (All-filter (λ (u : Use). ltb u.block blocks) From (map placed uses) (All-map From placed uses each)))

  from_before : (entry : ℤ) → int_le (pos section.from_s) entry ≡ true → entry <ℤ pos section.from_s → ⊥
  from_before entry h before = grind (arith, ints)

  after_to : (entry : ℤ) → int_lt entry (pos section.to_s) ≡ true → pos section.to_s ≤ℤ entry → ⊥
  after_to entry h after = grind (arith, ints)

  pub outside_not_entered : StartsOutside section uses → enters section inside ≡ false
  outside_not_entered outside = elim (cases_Bool (enters section inside)) [
    | inl enters ↦
        let entry = least starts in
        let outer = and_parts (nat_lt 0 (length inside) && int_le (pos section.from_s) entry) (int_lt entry (pos section.to_s)) enters in
        let inner = and_parts (nat_lt 0 (length inside)) (int_le (pos section.from_s) entry) outer.0 in
        let some = ltb-true 0 (length inside) inner.0 in
        elim outside [
          | inl before ↦ absurd (from_before entry inner.1 (entry_holds (λ t. t <ℤ pos section.from_s) some before))
          | inr after ↦ absurd (after_to entry outer.1 (entry_holds (λ t. pos section.to_s ≤ℤ t) some after))
        ]
    | inr stays ↦ stays
  ]

-- ---- a run whose first use is of the section and starts before its window

module _ (section : Section) (position : ℕ → ℕ) where
  abbrev test : Use → Bool
  test u = ltb u.block (length section.blocks)

  abbrev moved : Use → Use
  moved u = record u { block = position u.block }

  below_window : (entry start : ℤ) → entry ≤ℤ start → start <ℤ pos section.from_s → int_le (pos section.from_s) entry ≡ true → ⊥
  below_window entry start least before h = grind (arith, ints)

  entered : (first : Use) (rest : List Use) → first.start <ℤ pos section.from_s → enters section (first ∷ rest) ≡ false
  entered first rest before = elim (cases_Bool (enters section (first ∷ rest))) [
    | inl enters ↦
        let starts = map (λ (u : Use). u.start) rest in
        let entry = fold int_min first.start starts in
        let outer = and_parts (nat_lt 0 (length (first ∷ rest)) && int_le (pos section.from_s) entry) (int_lt entry (pos section.to_s)) enters in
        let inner = and_parts (nat_lt 0 (length (first ∷ rest))) (int_le (pos section.from_s) entry) outer.0 in
        absurd (below_window entry first.start (fold-int_min_bounds first.start starts entry refl).0 before inner.1)
    | inr stays ↦ stays
  ]

  pub early_not_entered : (uses : List Use) → EntersEarly section position uses → enters section (filter test (map moved uses)) ≡ false
  early_not_entered [] enters_early = absurd (omega (arith, enters_early.early.some))
  early_not_entered (u ∷ uses) enters_early =
      let at : position u.block < length section.blocks = subst (λ b. position b < length section.blocks) (sym enters_early.early.first) enters_early.inside in
      let inside : ltb (position u.block) (length section.blocks) ≡ true = lt-ltb (position u.block) (length section.blocks) at in
      rw inside (entered (moved u) (filter test (map moved uses)) enters_early.early.before)
