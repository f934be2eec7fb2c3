use Rattle.std.proofs.Common.{◌++◌, ◌||◌, length, true, sym, ap, ◌∙◌, arith}
use Rattle.std.proofs.lemmas.List.{length-append}
use Rattle.std.proofs.Math.Bool.{or-true}
use Rattle.row_text.specs.Sheet.{sheet_rows}
use Rattle.row_text.specs.SheetText.{HoldsRows}
use Rattle.row_text.proofs.SheetRows.{has_fields-some, more_text-body, sheet_rows-is, IsSheet-from}
use Rattle.row_text.proofs.SheetSteps.{with_bytes, pushed_in}
use Rattle.row_text.proofs.sheet.Sheet.push_written.Goals as goal

holds : (c : goal.After-self-3-1) → HoldsRows (with_bytes c.self.inside c.make_room.new.text c.put_text-self-inside.new.text c.put_text-self-inside.result true) (sheet_rows c.self.inside).rows ((sheet_rows c.self.inside).row ++ c.args.fields.now)
holds c =
    let put = c.put_text-self-inside.ensures in
    let room = c.in_ok-make_room.ensures in
    pushed_in c.self.inside c.make_room.new.text c.deref_mut.result.now c.put_text-self-inside.new.text c.put_text-self-inside.result true c.args.fields.now c.self.invariant
    c.deref_mut.ensures.value room.kept c.put_text-self-inside.auto.text (sym (ap (λ some. c.self.inside.has_field || some) (has_fields-some c.args.fields.now c.text-text.ensures.some) ∙ or-true c.self.inside.has_field)) (rw (more_text-body c.self.inside.has_field c.args.fields.now (has_fields-some c.args.fields.now c.text-text.ensures.some), ← c.text-text.ensures.text) put.written) put.more (omega (arith, put.within, room.ok, ap length c.deref_mut.ensures.value))

pub invariant_of-self-2 : goal.invariant_of-self-2
invariant_of-self-2 c = IsSheet-from _ _ _ (holds c)

pub returns-clause-ok : goal.returns-clause-ok
returns-clause-ok c = rw (← c.self.view_is) (sheet_rows-is _ _ _ (holds c))

pub returns-clause-some : goal.returns-clause-some
returns-clause-some c = let count = ap (λ seen. length seen.row) (sheet_rows-is _ _ _ (holds c)) in omega (arith, count, c.text-text.ensures.some, length-append (sheet_rows c.self.inside).row c.args.fields.now)
