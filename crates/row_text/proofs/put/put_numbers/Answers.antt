use Rattle.std.proofs.Common.{pos, get_or, w64, FitsSigned, sym, refl, ◌∙◌, append_assoc, rules, arith}
use Rattle.std.proofs.lemmas.Int.{to_z-of_z}
use Rattle.row_text.proofs.PlainFields.{more_text-numbers, has_fields-numbers}
use Rattle.row_text.proofs.put.put_numbers.Goals as goal

pub loop-number-preserved : goal.loop-number-preserved
loop-number-preserved c =
    let numbers = c.args.numbers.now in
    let i = c.loop-number.number-index in
    let inv = c.loop-number.invariant in
    let put = c.put_signed-at.ensures in
    let fits : FitsSigned w64 (get_or numbers i (pos 0)) = search rules in
    let written = rw (to_z-of_z w64 (get_or numbers i (pos 0)) fits, inv.written, inv.after) at put.written in
    record {
      grown = omega (arith, inv.grown, put.more);
      within = omega (arith, inv.within, put.within);
      after = sym (has_fields-numbers c.args.has_field numbers i (pos 0) c.loop-number-test.true);
      written = rw (more_text-numbers c.args.has_field numbers i (pos 0) c.loop-number-test.true fits) (written ∙ rw append_assoc refl);
    }
