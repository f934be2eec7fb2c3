use Rattle.std.proofs.Common.{ℕ, List, not, sym, ap, ◌∙◌, get_or, arith}
use Rattle.std.specs.List.{range_with_len}
use Rattle.std.proofs.lemmas.Bool.{not_from_true, not_from_false}
use Rattle.train_order.specs.Sets.{holds}
use Rattle.train_order.proofs.Find.{first_found, found_first}
use Rattle.train_order.proofs.Ranges.{passing_on}
use Rattle.train_order.proofs.ring.first_left.Goals as goal

pub returns-then-not-has : goal.returns-then-not-has
returns-then-not-has c =
    let words = c.args.gone.now.words in
    let j = c.loop-j.j in
    sym (found_first (λ i. not (holds words i)) (range_with_len 0 c.args.count) j
    (first_found (λ i. not (holds words i)) 0 c.args.count j (omega arith) (omega (arith, c.loop-j-test.true))
    (λ k lk m. not_from_true _ (c.loop-j.invariant k m)) (not_from_false _ (sym c.has.ensures ∙ c.if-not-has.true))))

pub returns : goal.returns
returns c =
    let words = c.args.gone.now.words in
    sym (ap (λ (xs : List ℕ). get_or xs 0 0)
    (passing_on (λ i. not (holds words i)) 0 c.args.count (omega arith) (λ k lk l.
    not_from_true _ (c.loop-j.invariant k (omega (arith, l, c.loop-j-test.false))))))
