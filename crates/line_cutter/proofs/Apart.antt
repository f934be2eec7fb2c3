-- Members whose ranges have no moment in common are not opposite.
use Rattle.std.proofs.Common.{◌≡◌, ℕ, true, false, ◌&&◌, inl, inr, arith}
use Rattle.std.specs.Prelude.{ℤ, ◌≤ℤ◌, ◌<ℤ◌, int_le, All}
use Rattle.std.proofs.lemmas.Int.{ints}
use Rattle.std.proofs.lemmas.Bool.{and_parts, and_cases, and_left, and_right, false_from_ne_true}
use Rattle.rail_model.specs.declared.stair.Use.{Use}
use Rattle.plan_model.specs.declared.cut.Cut.{Cut}
use Rattle.plan_model.specs.declared.cut.CutRow.{CutRow}
use Rattle.plan_model.specs.Members.{place_count, member, uses_place, use_at, precedes, precedes_somewhere, comes_before}
use Rattle.plan_model.specs.Disorder.{are_opposite}
use Rattle.plan_model.proofs.Planned.{no_later}
use Rattle.plan_model.proofs.Sound.{of_all}
use Rattle.line_cutter.specs.declared.opposed.StartRange.{StartRange}
use Rattle.line_cutter.specs.Opposed.{IsStartRange}
use Rattle.line_cutter.proofs.Whole.{some_below}

-- what starts after all starts of another precedes it nowhere
never : (i j : CutRow) (first last : ℤ) → All (λ u. first ≤ℤ u.start) i.uses → All (λ u. u.start ≤ℤ last) j.uses
    → last <ℤ first → (p : ℕ) → precedes i j p ≡ true → ⊥
never i j first last from to apart p h =
    let parts = and_parts (uses_place i p && uses_place j p) (comes_before (use_at i p).start i.name (use_at j p).start j.name) h in
    let used = and_parts (uses_place i p) (uses_place j p) parts.0 in
    let low : first ≤ℤ (use_at i p).start = of_all (λ (u : Use). first ≤ℤ u.start) i.uses p from used.0 in
    let high : (use_at j p).start ≤ℤ last = of_all (λ (u : Use). u.start ≤ℤ last) j.uses p to used.1 in
    let before = no_later (use_at i p).start (use_at j p).start i.name j.name parts.1 in
    omega (arith, ints, low, high, before, apart)

module _ (cut : Cut) (i j : ℕ) (one other : StartRange) (is_one : IsStartRange (member cut i).uses one)
    (is_other : IsStartRange (member cut j).uses other) where
  nowhere : int_le one.first other.last ≡ false → precedes_somewhere cut i j ≡ false
  nowhere h =
      false_from_ne_true (precedes_somewhere cut i j) (λ t.
      let some = some_below (precedes (member cut i) (member cut j)) (place_count cut) t in
      never (member cut i) (member cut j) one.first other.last is_one.first is_other.last (grind (arith, ints)) some.0 some.2)

  nowhere_back : int_le other.first one.last ≡ false → precedes_somewhere cut j i ≡ false
  nowhere_back h =
      false_from_ne_true (precedes_somewhere cut j i) (λ t.
      let some = some_below (precedes (member cut j) (member cut i)) (place_count cut) t in
      never (member cut j) (member cut i) other.first one.last is_other.first is_one.last (grind (arith, ints)) some.0 some.2)

  pub not_opposite : (int_le one.first other.last && int_le other.first one.last) ≡ false → are_opposite cut i j ≡ false
  not_opposite h =
      elim (and_cases (int_le one.first other.last) (int_le other.first one.last) h) [
        | inl e ↦ and_left (precedes_somewhere cut i j) (precedes_somewhere cut j i) (nowhere e)
        | inr e ↦ and_right (precedes_somewhere cut i j) (precedes_somewhere cut j i) (nowhere_back e)
      ]
