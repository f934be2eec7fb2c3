use Rattle.std.proofs.Common.{◌≡◌, ℕ, ◌+◌, [], length, get_or, ap, ◌∙◌, arith}
use Rattle.std.specs.Prelude.{sum_by}
use Rattle.std.specs.List.{range_with_len}
use Rattle.plan_model.specs.Journal.{opening, left_of}
use Rattle.plan_book.proofs.Left.{enough, left_next, most_next, scripts_most}
use Rattle.plan_book.proofs.reading.left_in.Goals as goal

pub overflow_sub-left : goal.overflow_sub-left
overflow_sub-left c =
    enough c.args.journal.now c.args.done.now c.loop-place.place c.loop-place.left c.script.result.now c.requires.is_journal c.requires.done c.loop-place-test.true
    (c.script.ensures ∙ ap (λ scripts. get_or scripts c.loop-place.place []) c.scripts_of-scripts.ensures)

pub overflow_add-left : goal.overflow_add-left
overflow_add-left c =
    let j = c.args.journal.now in
    let k = c.loop-place.place in
    let most = most_next j c.args.done.now k c.loop-place.left c.script.result.now c.requires.is_journal c.requires.done c.loop-place-test.true
    (c.script.ensures ∙ ap (λ scripts. get_or scripts c.loop-place.place []) c.scripts_of-scripts.ensures) c.loop-place.invariant.most in
    omega (arith, most, scripts_most (opening j).scripts (k + 1), c.requires.within.tasks)

pub loop-place-preserved : goal.loop-place-preserved
loop-place-preserved c =
    let j = c.args.journal.now in
    let k = c.loop-place.place in
    let script = c.script.result.now in
    let is = c.script.ensures ∙ ap (λ scripts. get_or scripts c.loop-place.place []) c.scripts_of-scripts.ensures in
    record {
      left = left_next j c.args.done.now k c.loop-place.left script c.requires.is_journal c.requires.done c.loop-place-test.true is c.loop-place.invariant.left;
      most = most_next j c.args.done.now k c.loop-place.left script c.requires.is_journal c.requires.done c.loop-place-test.true is c.loop-place.invariant.most;
    }

pub returns : goal.returns
returns c =
    let j = c.args.journal.now in
    let all : c.loop-place.place ≡ length (opening j).scripts =
    omega (arith, c.loop-place-test.false, c.loop-place.auto.place-end, c.requires.done.count) in
    c.loop-place.invariant.left ∙ ap (λ n. sum_by (λ (p : ℕ). length (left_of j p)) (range_with_len 1 n)) all
