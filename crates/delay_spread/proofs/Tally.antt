-- Knock-on delays, member after member.
use Rattle.std.proofs.Common.{◌≡◌, ℕ, ◌+◌, ◌<◌, ◌≤◌, Bool, true, false, List, length, take, get_or, ap, ◌∙◌, arith}
use Rattle.std.specs.Prelude.{ℤ, nat_lt, count_by, sum_by}
use Rattle.std.proofs.lemmas.Bool.Decides.{nat_tests}
use Rattle.std.proofs.lemmas.List.{length-take-le, take_all}
use Rattle.std.proofs.lemmas.List.FromFn.{length-range_with_len, get_or-range_with_len}
use Rattle.std.proofs.lemmas.List.Sums.{count_by-le-length, count_by_more_yes, count_by_more_no, sum_by_more}
use Rattle.plan_model.specs.declared.cut.Cut.{Cut}
use Rattle.plan_model.specs.Members.{member_count, members}
use Rattle.delay_spread.specs.Spreading.{knock_on}

above : (n : ℕ) → 0 < n → nat_lt 0 n ≡ true
above n l = grind (arith, nat_tests, l)

none : (n : ℕ) → n ≤ 0 → nat_lt 0 n ≡ false
none n l = grind (arith, nat_tests, l)

module _ (cut : Cut) (delays : List ℕ) (entries : List ℤ) where
  abbrev is_late : ℕ → Bool
  is_late k = nat_lt 0 (knock_on cut delays entries k)

  long : length (members cut) ≡ member_count cut
  long = length-range_with_len 0 (member_count cut)

  pub all : (i : ℕ) → member_count cut ≤ i → take i (members cut) ≡ members cut
  all i l = take_all i (members cut) (omega (arith, l, long))

  module _ (i : ℕ) (l : i < member_count cut) where
    at : get_or (members cut) i 0 ≡ i
    at = get_or-range_with_len 0 (member_count cut) i 0 l ∙ omega arith

    there : i < length (members cut)
    there = omega (arith, l, long)

    pub few : count_by is_late (take i (members cut)) ≤ i
    few =
        omega (
          arith,
          count_by-le-length is_late (take i (members cut)),
          length-take-le i (members cut) (omega (arith, there)),
        )

    pub late_more : 0 < knock_on cut delays entries i
        → count_by is_late (take (i + 1) (members cut)) ≡ count_by is_late (take i (members cut)) + 1
    late_more some =
        count_by_more_yes is_late (members cut) i 0 there (ap is_late at ∙ above (knock_on cut delays entries i) some)

    pub late_same : knock_on cut delays entries i ≤ 0
        → count_by is_late (take (i + 1) (members cut)) ≡ count_by is_late (take i (members cut))
    late_same zero =
        count_by_more_no is_late (members cut) i 0 there (ap is_late at ∙ none (knock_on cut delays entries i) zero)

    pub sum_more : sum_by (knock_on cut delays entries) (take (i + 1) (members cut))
        ≡ sum_by (knock_on cut delays entries) (take i (members cut)) + knock_on cut delays entries i
    sum_more =
        sum_by_more (knock_on cut delays entries) (members cut) i 0 there
        ∙ ap (λ k. sum_by (knock_on cut delays entries) (take i (members cut)) + knock_on cut delays entries k) at
