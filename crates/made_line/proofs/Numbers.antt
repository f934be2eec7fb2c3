-- The numbers that draws go through.
use Rattle.std.proofs.Common.{◌≡◌, ℕ, zero, suc, ◌+◌, ◌*◌, refl, sym, ap, ◌∙◌, add-one, arith}
use Rattle.made_line.specs.Base.{next_number, after_draws}

pub after_none : (x : ℕ) → after_draws x 0 ≡ x
unfolding after_draws
after_none x = refl

pub after_draws-more : (x k : ℕ) → after_draws x (k + 1) ≡ next_number (after_draws x k)
unfolding after_draws
after_draws-more x k = ap (after_draws x) (add-one k)

-- draws that come after draws
pub after_draws-further : (x k l : ℕ) → after_draws (after_draws x k) l ≡ after_draws x (k + l)
unfolding after_draws
after_draws-further x k zero =
    let same : k ≡ k + 0 = omega arith in ap (after_draws x) same
after_draws-further x k (suc l) =
    let same : suc (k + l) ≡ k + suc l = omega arith in
    ap next_number (after_draws-further x k l) ∙ ap (after_draws x) same

-- a draw, and then others
pub after_draws-first : (x k m : ℕ) → 1 + k ≡ m → after_draws (next_number x) k ≡ after_draws x m
after_draws-first x k m e =
    ap (λ y. after_draws y k) (sym (after_draws-more x 0 ∙ ap next_number (after_none x)))
    ∙ after_draws-further x 1 k ∙ ap (after_draws x) e

-- past one run more
pub after_next_run : (x i y z : ℕ) → y ≡ after_draws x (65 * i) → z ≡ after_draws y 65
    → z ≡ after_draws x (65 * (i + 1))
after_next_run x i y z at_run next =
    let same : 65 * i + 65 ≡ 65 * (i + 1) = omega arith in
    next ∙ ap (λ w. after_draws w 65) at_run ∙ after_draws-further x (65 * i) 65 ∙ ap (after_draws x) same
