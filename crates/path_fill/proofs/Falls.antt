-- With more copies neither the filled occupancy nor the consumption is less.
use Rattle.std.proofs.Common.{◌≡◌, ℕ, zero, suc, ◌+◌, ◌*◌, ◌<◌, ◌≤◌, arith}
use Rattle.std.proofs.Math.Nat.{mul-le-mul_right, le_of_mul-le-mul_right}
use Rattle.plan_model.specs.Answer.{period, reduced, IsReduced, occupancy}
use Rattle.plan_model.proofs.Reduced.{fraction_is_reduced}
use Rattle.path_fill.specs.Search.{filled_time}
use Rattle.path_fill.specs.Laws.{OccupancyNeverFalls, ConsumptionNeverFalls}
use Rattle.path_fill.proofs.Merged.{members_enter_as_compressed}
use Rattle.path_fill.proofs.SomeFill.{some_fill}
use Rattle.path_fill.proofs.Unique.{filled_occupancy_is_unique}

rises : (alone first headway fewer more : ℕ) → fewer ≤ more
    → filled_time alone first headway fewer ≤ filled_time alone first headway more
rises alone first headway zero zero l = omega arith
rises alone first headway zero (suc b) l = omega arith
rises alone first headway (suc a) zero l = absurd (omega (arith, l))
rises alone first headway (suc a) (suc b) l =
    let times : a * headway ≤ b * headway = mul-le-mul_right headway (omega (arith, l)) in
    omega (arith, times)

pub occupancy_never_falls : OccupancyNeverFalls
occupancy_never_falls cut r fewer more time longer by =
    let (entries, copies, one, is) = by.with_fewer in
    let least = members_enter_as_compressed cut r fewer entries copies one in
    let alone = occupancy cut entries in
    let (first, headway, all) = some_fill cut by.sound r by.there entries least in
    let this = filled_occupancy_is_unique cut r fewer time (filled_time alone first headway fewer) by.with_fewer
    (all.filled fewer) in
    let other = filled_occupancy_is_unique cut r more longer (filled_time alone first headway more) by.with_more
    (all.filled more) in
    omega (arith, this, other, rises alone first headway fewer more by.no_fewer)

-- ---- fractions

-- of fractions with one denominator, that of the lesser numerator is no greater
no_greater : (p q s t a b d : ℕ) → p * d ≡ a * q → s * d ≡ b * t → 0 < d → a ≤ b → p * t ≤ s * q
no_greater p q s t a b d e f some l =
    let times : a * (q * t) ≤ b * (q * t) = mul-le-mul_right (q * t) l in
    let left : (p * t) * d ≡ (p * d) * t = omega arith in
    let right : (s * q) * d ≡ (s * d) * q = omega arith in
    let one : (p * t) * d ≡ a * (q * t) = rw (left, e) (omega arith) in
    let two : (s * q) * d ≡ b * (q * t) = rw (right, f) (omega arith) in
    let both : (p * t) * d ≤ (s * q) * d = omega (arith, times, one, two) in
    le_of_mul-le-mul_right both some

pub consumption_never_falls : ConsumptionNeverFalls
consumption_never_falls cut r fewer more time longer by =
    let added = 100 + cut.section.add_percent in
    let window = 100 * period cut.section in
    let some : 0 < window = omega (arith, by.sound.window) in
    let f = reduced (time * added) window in
    let g = reduced (longer * added) window in
    let one : IsReduced f (time * added) window = fraction_is_reduced (time * added) window some in
    let two : IsReduced g (longer * added) window = fraction_is_reduced (longer * added) window some in
    no_greater f.num f.den g.num g.den (time * added) (longer * added) window one.equal two.equal some
    (mul-le-mul_right added (occupancy_never_falls cut r fewer more time longer by))
