use Rattle.std.proofs.Common.{◌++◌, ◌∷◌, [], length, decimal, true, sym, ap, arith}
use Rattle.std.proofs.lemmas.List.{append-nil}
use Rattle.std.proofs.Math.Bool.{or-true}
use Rattle.row_text.specs.Sheet.{sheet_rows}
use Rattle.row_text.specs.SheetText.{HoldsRows}
use Rattle.row_text.proofs.PlainFields.{field_text-decimal}
use Rattle.row_text.proofs.SheetRows.{sheet_rows-is, IsSheet-from}
use Rattle.row_text.proofs.SheetSteps.{with_bytes, pushed_in}
use Rattle.row_text.proofs.sheet.Sheet.push_count.Goals as goal

holds : (c : goal.After-self-3-1) → HoldsRows (with_bytes c.self.inside c.make_room.new.text c.put_unsigned-self-inside.new.text c.put_unsigned-self-inside.result true) (sheet_rows c.self.inside).rows ((sheet_rows c.self.inside).row ++ (decimal c.args.number ∷ []))
holds c =
    let put = c.put_unsigned-self-inside.ensures in
    let room = c.in_ok-make_room.ensures in
    pushed_in c.self.inside c.make_room.new.text c.deref_mut.result.now c.put_unsigned-self-inside.new.text c.put_unsigned-self-inside.result true (decimal c.args.number ∷ []) c.self.invariant
    c.deref_mut.ensures.value room.kept c.put_unsigned-self-inside.auto.text (sym (or-true c.self.inside.has_field)) (rw (field_text-decimal c.args.number (omega arith), append-nil) put.written) put.more (omega (arith, put.within, room.ok, ap length c.deref_mut.ensures.value))

pub invariant_of-self-2 : goal.invariant_of-self-2
invariant_of-self-2 c = IsSheet-from _ _ _ (holds c)

pub returns-clause-ok : goal.returns-clause-ok
returns-clause-ok c = rw (← c.self.view_is) (sheet_rows-is _ _ _ (holds c))
