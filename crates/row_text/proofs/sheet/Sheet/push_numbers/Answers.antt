use Rattle.std.proofs.Common.{◌++◌, ◌||◌, length, map, not, sym, ap, ◌∙◌, arith}
use Rattle.std.specs.Fmt.{signed_decimal}
use Rattle.row_text.specs.Sheet.{sheet_rows}
use Rattle.row_text.specs.SheetText.{HoldsRows}
use Rattle.row_text.proofs.PlainFields.{has_fields-map}
use Rattle.row_text.proofs.SheetRows.{sheet_rows-is, IsSheet-from}
use Rattle.row_text.proofs.SheetSteps.{with_bytes, pushed_in}
use Rattle.row_text.proofs.sheet.Sheet.push_numbers.Goals as goal

holds : (c : goal.After-self-3-1) → HoldsRows (with_bytes c.self.inside c.make_room.new.text c.put_numbers-self-inside.new.text c.put_numbers-self-inside.result (c.self.inside.has_field || not c.is_empty.result)) (sheet_rows c.self.inside).rows ((sheet_rows c.self.inside).row ++ (map signed_decimal c.args.numbers.now))
holds c =
    let put = c.put_numbers-self-inside.ensures in
    let room = c.in_ok-make_room.ensures in
    pushed_in c.self.inside c.make_room.new.text c.deref_mut.result.now c.put_numbers-self-inside.new.text c.put_numbers-self-inside.result (c.self.inside.has_field || not c.is_empty.result) (map signed_decimal c.args.numbers.now) c.self.invariant
    c.deref_mut.ensures.value room.kept c.put_numbers-self-inside.auto.text (ap (λ none. c.self.inside.has_field || none) (ap not c.is_empty.ensures ∙ sym (has_fields-map c.args.numbers.now))) put.written put.more (omega (arith, put.within, room.ok, ap length c.deref_mut.ensures.value))

pub invariant_of-self-2 : goal.invariant_of-self-2
invariant_of-self-2 c = IsSheet-from _ _ _ (holds c)

pub returns-clause-ok : goal.returns-clause-ok
returns-clause-ok c = rw (← c.self.view_is) (sheet_rows-is _ _ _ (holds c))
