-- A report with one section more.
use Rattle.std.proofs.Common.{◌≡◌, ◌+◌, suc, List, [], ◌∷◌, ◌++◌, length, refl, sym, ap, ◌∙◌, append_assoc, append-nil, arith, length-append}
use Rattle.std.specs.Prelude.{Bool, cond, count_by}
use Rattle.std.proofs.lemmas.List.Sums.{sum_by-append}
use Rattle.rail_model.specs.declared.items.Section.{Section}
use Rattle.rail_model.specs.declared.tables.Tables.{Tables}
use Rattle.plan_model.specs.declared.answer.Answer.{Answer}
use Rattle.plan_model.specs.Cut.{section_cut}
use Rattle.plan_model.specs.Answer.{IsAnswer}
use Rattle.capacity_report.specs.declared.answers.Detail.TheVariants as detail
use Rattle.capacity_report.specs.Answers.{answer_rows, total_of, with_answer, joined, is_ordered, is_within_capacity, is_over_capacity, is_disordered, is_crowded, AreAnswers, heads}

count_both : (test : Answer → Bool) (xs ys : List Answer) → count_by test (xs ++ ys) ≡ count_by test xs + count_by test ys
count_both test xs ys = sum_by-append (λ a. cond (test a) 1 0) xs ys

count_more : (test : Answer → Bool) (answers : List Answer) (a : Answer)
    → count_by test (answers ++ a ∷ []) ≡ count_by test answers + cond (test a) 1 0
count_more test answers a = omega (arith, count_both test answers (a ∷ []))

-- the total with one answer more
pub total_more : (answers : List Answer) (a : Answer) → total_of (answers ++ a ∷ []) ≡ with_answer (total_of answers) a
total_more answers a =
    rw (
      length-append answers (a ∷ []),
      count_more is_ordered answers a,
      count_more is_within_capacity answers a,
      count_more is_over_capacity answers a,
      count_more is_disordered answers a,
      count_more is_crowded answers a,
    ) refl

-- the total of two lists of answers
pub total_joined : (xs ys : List Answer) → total_of (xs ++ ys) ≡ joined (total_of xs) (total_of ys)
total_joined xs ys =
    rw (
      length-append xs ys,
      count_both is_ordered xs ys,
      count_both is_within_capacity xs ys,
      count_both is_over_capacity xs ys,
      count_both is_disordered xs ys,
      count_both is_crowded xs ys,
    ) refl

-- the heads with one more section and its answer
pub heads_more : (sections : List Section) (answers : List Answer) (s : Section) (a : Answer) → length sections ≡ length answers
    → heads (sections ++ s ∷ []) (answers ++ a ∷ []) ≡ heads sections answers ++ answer_rows s.name a detail.Head
heads_more [] [] s a same = append-nil (answer_rows s.name a detail.Head)
heads_more [] (b ∷ answers) s a same = absurd (omega arith)
heads_more (t ∷ sections) [] s a same = absurd (omega arith)
heads_more (t ∷ sections) (b ∷ answers) s a same =
    ap (λ rows. answer_rows t.name b detail.Head ++ rows) (heads_more sections answers s a (omega arith))
    ∙ sym (append_assoc (answer_rows t.name b detail.Head) (heads sections answers) (answer_rows s.name a detail.Head))

-- the answers with one more
module _ (tables : Tables) (s : Section) (a : Answer) (is : IsAnswer (section_cut tables s) a) where
  pub answers_more : (sections : List Section) (answers : List Answer) → AreAnswers tables sections answers
      → AreAnswers tables (sections ++ s ∷ []) (answers ++ a ∷ [])
  answers_more [] [] are = (is, tt)
  answers_more [] (b ∷ answers) are = absurd are
  answers_more (t ∷ sections) [] are = absurd are
  answers_more (t ∷ sections) (b ∷ answers) are = (are.0, answers_more sections answers are.1)

-- there are as many as there are sections
pub answers_count : (tables : Tables) (sections : List Section) (answers : List Answer) → AreAnswers tables sections answers
    → length sections ≡ length answers
answers_count tables [] [] are = refl
answers_count tables [] (b ∷ answers) are = absurd are
answers_count tables (t ∷ sections) [] are = absurd are
answers_count tables (t ∷ sections) (b ∷ answers) are = ap suc (answers_count tables sections answers are.1)
