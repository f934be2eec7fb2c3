-- The counts of a total add up.
use Rattle.std.proofs.Common.{◌≡◌, ◌+◌, true, false, List, [], ◌∷◌, length, refl, arith}
use Rattle.std.specs.Prelude.{Bool, cond, not, count_by}
use Rattle.std.proofs.lemmas.List.Sums.{sum_by-cons}
use Rattle.plan_model.specs.declared.answer.Answer.{Answer}
use Rattle.plan_model.specs.declared.answer.Answer.TheVariants as answer
use Rattle.plan_model.specs.Answer.{is_within}
use Rattle.capacity_report.specs.Answers.{consumption_of, is_ordered, is_within_capacity, is_over_capacity, is_disordered, is_crowded}
use Rattle.capacity_report.specs.Laws.{TotalAddsUp}

either : (b : Bool) → cond b 1 0 + cond (not b) 1 0 ≡ 1
either true = refl
either false = refl

-- an answer is of one kind
pub one_kind : (a : Answer) → cond (is_ordered a) 1 0 + cond (is_disordered a) 1 0 + cond (is_crowded a) 1 0 ≡ 1
one_kind (answer.Ordered plan) = refl
one_kind (answer.Opposite first second block1 block2) = refl
one_kind (answer.Ring links) = refl
one_kind (answer.Crowded count) = refl

-- an ordered one is within its capacity or over it
pub one_rate : (a : Answer) → cond (is_within_capacity a) 1 0 + cond (is_over_capacity a) 1 0 ≡ cond (is_ordered a) 1 0
one_rate (answer.Ordered plan) = either (is_within (consumption_of plan))
one_rate (answer.Opposite first second block1 block2) = refl
one_rate (answer.Ring links) = refl
one_rate (answer.Crowded count) = refl

count_cons : (test : Answer → Bool) (a : Answer) (answers : List Answer)
    → count_by test (a ∷ answers) ≡ cond (test a) 1 0 + count_by test answers
count_cons test a answers = sum_by-cons (λ x. cond (test x) 1 0) a answers

-- of how many kinds and rates some answers are
counts : (answers : List Answer)
    → (length answers ≡ count_by is_ordered answers + count_by is_disordered answers + count_by is_crowded answers)
    × (count_by is_ordered answers ≡ count_by is_within_capacity answers + count_by is_over_capacity answers)
counts [] = (refl, refl)
counts (a ∷ answers) =
    let rest = counts answers in
    let ordered = count_cons is_ordered a answers in (
      omega (arith, rest.0, one_kind a, ordered, count_cons is_disordered a answers, count_cons is_crowded a answers),
      omega (arith, rest.1, one_rate a, ordered, count_cons is_within_capacity a answers, count_cons is_over_capacity a answers),
    )

pub total_adds_up : TotalAddsUp
total_adds_up answers =
    let kinds = (counts answers).0 in
    let rates = (counts answers).1 in
    record {
      few_ordered = omega (arith, kinds);
      few_within = omega (arith, kinds, rates);
      few_over = omega (arith, kinds, rates);
      few_disordered = omega (arith, kinds);
      few_crowded = omega (arith, kinds);
      each_kind = kinds;
      each_rate = rates;
    }
