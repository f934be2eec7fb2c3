use Rattle.std.proofs.Common.{◌≡◌, ℕ, ◌+◌, ◌<◌, List, length, take, arith}
use Rattle.std.specs.Prelude.{ℤ, ◌≤ℤ◌}
use Rattle.std.specs.Int.{int_min, int_max}
use Rattle.std.proofs.lemmas.Int.{ints}
use Rattle.std.proofs.lemmas.List.Elements.{All-more, All-weaker}
use Rattle.rail_model.specs.declared.stair.Use.{Use}
use Rattle.plan_model.specs.Members.{no_use}
use Rattle.line_cutter.specs.declared.opposed.StartRange.{StartRange}
use Rattle.line_cutter.specs.Opposed.{IsStartRange}
use Rattle.line_cutter.specs.Ways.{nth}
use Rattle.line_cutter.proofs.opposed.range_of.Goals as goal

least_of : (x y z : ℤ) → z ≡ int_min x y → (z ≤ℤ x) × (z ≤ℤ y)
least_of x y z e = (grind (arith, ints), grind (arith, ints))

greatest_of : (x y z : ℤ) → z ≡ int_max x y → (x ≤ℤ z) × (y ≤ℤ z)
greatest_of x y z e = (grind (arith, ints), grind (arith, ints))

range_more : (uses : List Use) (i : ℕ) (range wide : StartRange) → i < length uses → IsStartRange (take i uses) range
    → wide.first ≡ int_min range.first (nth uses i).start → wide.last ≡ int_max range.last (nth uses i).start
    → IsStartRange (take (i + 1) uses) wide
range_more uses i range wide l is first last =
    let low = least_of range.first (nth uses i).start wide.first first in
    let high = greatest_of range.last (nth uses i).start wide.last last in
    record {
      first =
          All-more (λ (u : Use). wide.first ≤ℤ u.start) uses i no_use l
          (All-weaker (λ (u : Use). range.first ≤ℤ u.start) (λ (u : Use). wide.first ≤ℤ u.start)
          (λ u h. let from = low.0 in omega (arith, ints, h, from)) (take i uses) is.first) low.1;
      last =
          All-more (λ (u : Use). u.start ≤ℤ wide.last) uses i no_use l
          (All-weaker (λ (u : Use). u.start ≤ℤ range.last) (λ (u : Use). u.start ≤ℤ wide.last)
          (λ u h. let to = high.0 in omega (arith, ints, h, to)) (take i uses) is.last) high.1;
    }

pub loop-one-preserved : goal.loop-one-preserved
loop-one-preserved c =
    range_more c.args.uses.now c.loop-one.one-index c.loop-one.range c.widened-range.result c.loop-one-test.true c.loop-one.invariant
    c.widened-range.ensures.first c.widened-range.ensures.last
