use Rattle.std.proofs.Common.{◌≡◌, ℕ, ◌+◌, cond, get_or, sym, ◌∙◌, arith}
use Rattle.std.specs.Prelude.{nat_lt}
use Rattle.std.proofs.lemmas.Bool.Decides.{nat_tests}
use Rattle.row_text.proofs.Lanes.{lane-bit}
use Rattle.row_text.proofs.plain_rows.possible_ends.Goals as goal

pub returns : goal.returns
returns c k l none =
    let bit : ℕ = cond (nat_lt (get_or c.args.text.now (c.args.at + k) 0) 45) 1 0 in
    let fails : bit ≡ 0 = sym (lane-bit nat_lt c.args.text.now c.args.at 45 k l c.requires) ∙ none in
    grind (arith, nat_tests)
