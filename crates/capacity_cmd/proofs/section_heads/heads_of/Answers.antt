use Rattle.std.proofs.Common.{◌≡◌, ℕ, ◌<◌, ◌≤◌, ◌-◌, ◌∙◌, length, ap, arith}
use Rattle.std.specs.List.{range_with_len}
use Rattle.rail_model.specs.Conflict.{timetable}
use Rattle.rayon.specs.Numbers.{nat_range}
use Rattle.rayon.proofs.ToStd.{nat_range-All}
use Rattle.capacity_cmd.proofs.SideBySide.{heads_collected}
use Rattle.capacity_cmd.proofs.section_heads.heads_of.Goals as goal

pub collect-requires-clause-ready : goal.collect-requires-clause-ready
collect-requires-clause-ready g c κs within =
    let tables = c.args.tables.now in
    let ends = c.into_par_iter.ensures in
    let count = c.sections-count.ensures in
    let few : length tables.sections < 4294967296 = omega (arith, count.sound) in
    let IsThere : ℕ → Type 0 =
    λ i. (i < length tables.sections) × (i < 4294967296) × (c.args.stairs.now ≡ timetable tables) in
    let there : (a i : ℕ) → a ≤ i → i < c.sections-count.result → IsThere i =
    λ a i low high. (omega (arith, high, count.count), omega (arith, high, few), c.requires) in
    rw (c.map.ensures.base, c.map.ensures.f, c.with_min_len.ensures.base, ends.0, ends.1)
    (λ k d lt. (nat_range-All IsThere _ c.sections-count.result (there _) k d lt, λ y p. tt))

pub returns : goal.returns
returns g c =
    let tables = c.args.tables.now in
    let ends = c.into_par_iter.ensures in
    let h = c.in_ok-collect.ensures in
    let count : c.sections-count.result - 0 ≡ length tables.sections = omega (arith, c.sections-count.ensures.count) in
    let given = rw (c.map.ensures.base, c.with_min_len.ensures.base) at h.1.1 in
    heads_collected (λ heads. heads.items) tables c.map.result.f.1.now h.1.0 h.0 c.in_ok-collect.field-0 _
    (ap (λ f. f.1.now) c.map.ensures.f) (given ∙ (λ i. nat_range (ends.0 i) (ends.1 i)) ∙ ap (range_with_len 0) count) h.1.2 h.2
