use Rattle.std.proofs.Common.{◌≡◌, List, ℕ, ◌++◌, take, drop, ap, ◌∙◌, arith}
use Rattle.std.specs.Prelude.{reverse, nat_le}
use Rattle.std.specs.List.{list_all, position_or_len}
use Rattle.std.proofs.lemmas.Grind.{common_steps}
use Rattle.train_order.proofs.ring.turn_round.Goals as goal

pub returns : goal.returns
returns c =
    let walk : List ℕ = reverse (drop c.args.from c.args.walk.now) in
    let piece : c.of-members.result ≡ drop c.args.from c.args.walk.now = grind (arith, common_steps, c.of-members.ensures) in
    let back : c.reverse.new.self ≡ walk = c.reverse.ensures ∙ ap reverse piece in
    let least : c.least_place-least.result ≡ position_or_len (λ m. list_all (nat_le m) walk) walk =
    c.least_place-least.ensures.least ∙ ap (λ (xs : List ℕ). position_or_len (λ m. list_all (nat_le m) xs) xs) (c.slice.ensures ∙ back) in
    c.rotate_left.ensures
    ∙ ap (λ k. drop k c.reverse.new.self ++ take k c.reverse.new.self) least
    ∙ ap (λ xs. drop (position_or_len (λ m. list_all (nat_le m) walk) walk) xs
    ++ take (position_or_len (λ m. list_all (nat_le m) walk) walk) xs) back
