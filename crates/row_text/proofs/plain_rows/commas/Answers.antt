use Rattle.std.proofs.Common.{◌≡◌, ℕ, ◌+◌, cond, get_or, sym, ◌∙◌, arith}
use Rattle.std.specs.Prelude.{nat_eq}
use Rattle.std.proofs.lemmas.Bool.Decides.{nat_tests}
use Rattle.row_text.proofs.Lanes.{lane-bit}
use Rattle.row_text.proofs.plain_rows.commas.Goals as goal

pub returns : goal.returns
returns c k l one =
    let bit : ℕ = cond (nat_eq (get_or c.args.text.now (c.args.at + k) 0) 44) 1 0 in
    let passes : bit ≡ 1 = sym (lane-bit nat_eq c.args.text.now c.args.at 44 k l c.requires) ∙ one in
    grind (arith, nat_tests)
