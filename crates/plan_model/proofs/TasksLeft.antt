-- Where no task is left, each planner has done its script.
use Rattle.std.proofs.Common.{◌≡◌, ◌-◌, ◌<◌, ◌≤◌, List, [], ◌∷◌, ◌++◌, length, drop, get_or, refl, sym, ap, ◌∙◌, subst, arith}
use Rattle.std.proofs.Math.Seq.{drop-append_seam}
use Rattle.std.proofs.lemmas.List.{append-nil}
use Rattle.std.proofs.lemmas.List.FromFn.{get_or-range_with_len, length-range_with_len}
use Rattle.std.proofs.lemmas.List.Sums.{get_or-le-sum_by}
use Rattle.plan_model.specs.Journal.{opening, planners, done_by, left_of, tasks_left}
use Rattle.plan_model.specs.Legal.{KeepsToScript}
use Rattle.plan_model.specs.JournalLaws.{NoneIsLeft}

pub none_of : {X : Type 0} (xs : List X) → length xs ≤ 0 → xs ≡ []
none_of [] few = refl
none_of (x ∷ xs) few = absurd (omega (arith, few))

pub none_is_left : NoneIsLeft
none_is_left journal planner h none is_planner =
    let count = length (opening journal).scripts in
    let place : get_or (planners journal) (planner - 1) planner ≡ planner =
    get_or-range_with_len 1 count (planner - 1) planner (omega (arith, is_planner.from_one, is_planner.to_last))
    ∙ omega (arith, is_planner.from_one) in
    let within : planner - 1 < length (planners journal) =
    omega (arith, length-range_with_len 1 count, is_planner.from_one, is_planner.to_last) in
    let keeps = subst (KeepsToScript journal) place (h.scripts (planner - 1) planner within) in
    let few : length (left_of journal planner) ≤ 0 =
    subst (λ n. length (left_of journal planner) ≤ n) none
    (subst (λ p. length (left_of journal p) ≤ tasks_left journal) place
    (get_or-le-sum_by (λ p. length (left_of journal p)) (planners journal) (planner - 1) planner within)) in
    let rest : left_of journal planner ≡ keeps.0 =
    ap (drop (length (done_by journal planner))) keeps.1 ∙ drop-append_seam (done_by journal planner) keeps.0 in
    sym (keeps.1 ∙ ap (λ ts. done_by journal planner ++ ts) (sym rest ∙ none_of (left_of journal planner) few)
    ∙ append-nil (done_by journal planner))
