use Rattle.std.proofs.Common.{◌≡◌, ℕ, ◌<◌, ◌≤◌, ◌-◌, ◌∙◌, map, subst, ap, arith}
use Rattle.plan_model.specs.Members.{member_count, place_count}
use Rattle.headway_table.specs.Starts.{AreStarts}
use Rattle.std.specs.Prelude.{IfOk}
use Rattle.std.specs.List.{range_with_len}
use Rattle.rayon.specs.Numbers.{nat_range}
use Rattle.rail_model.proofs.Collected.{images_collected}
use Rattle.rayon.proofs.ToStd.{nat_range-All}
use Rattle.headway_table.specs.Table as tables
use Rattle.headway_table.proofs.table.rows_of.Goals as goal

pub collect-requires-clause-ready : goal.collect-requires-clause-ready
collect-requires-clause-ready g c κs within =
    let cut = c.args.cut.now in
    let ends = c.into_par_iter.ensures in
    let count = c.member_count.ensures in
    let IsThere : ℕ → Type 0 =
    λ i. (i < member_count cut) × (i < 4294967296) × AreStarts (place_count cut) cut.rows c.args.starts.now in
    let there : (a i : ℕ) → a ≤ i → i < c.member_count.result → IsThere i =
    λ a i low high. (omega (arith, high, count.count), omega (arith, high, count.most), c.requires.starts) in
    rw (c.map.ensures.base, c.map.ensures.f, c.with_min_len.ensures.base, ends.0, ends.1)
    (λ k d lt. (nat_range-All IsThere _ c.member_count.result (there _) k d lt, λ y p. tt))

pub returns : goal.returns
returns g c =
    let cut = c.args.cut.now in
    let ends = c.into_par_iter.ensures in
    let h = c.in_ok-collect.ensures in
    let chain = rw (c.map.ensures.base, c.map.ensures.f, c.with_min_len.ensures.base) at h.1 in
    let count : c.member_count.result - 0 ≡ member_count cut = omega (arith, c.member_count.ensures.count) in
    let places : chain.0 ≡ range_with_len 0 (member_count cut) =
    chain.1 ∙ (λ i. nat_range (ends.0 i) (ends.1 i)) ∙ ap (range_with_len 0) count in
    subst (λ some. IfOk c.in_ok-collect.field-0 (λ rows. rows.items ≡ map (tables.row_of cut) some)) places
    (images_collected (tables.row_of cut) (λ rows. rows.items) chain.0 h.0 c.in_ok-collect.field-0 _ chain.2 h.2)
