use Rattle.std.proofs.Common.{◌≡◌, ◌++◌, ◌∷◌, [], length, false, refl, sym, ap, ◌∙◌, arith}
use Rattle.std.specs.Vec.{with_items}
use Rattle.std.proofs.lemmas.List.{with_items_is}
use Rattle.row_text.specs.declared.sheet.Sheet.TheInside.{Inside}
use Rattle.row_text.specs.Sheet.{sheet_rows}
use Rattle.row_text.specs.SheetText.{HoldsRows}
use Rattle.row_text.proofs.SheetRows.{has_fields-some, sheet_rows-is, IsSheet-from}
use Rattle.row_text.proofs.SheetSteps.{HoldsRows-end}
use Rattle.row_text.proofs.sheet.Sheet.end_row.Goals as goal

-- the sheet with the row
abbrev after : goal.After-self-4-1 → Inside
after c = record {
  text = with_items c.make_room.new.text c.put_end-self-inside.new.text;
  ended = c.put_end-self-inside.result;
  used = c.put_end-self-inside.result;
  has_field = false;
}

holds : (c : goal.After-self-4-1) → HoldsRows (after c) ((sheet_rows c.self.inside).rows ++ (sheet_rows c.self.inside).row ∷ []) []
holds c =
    let room = c.in_ok-make_room.ensures in
    let put = c.put_end-self-inside.ensures in
    let size = ap length c.deref_mut.ensures.value in
    let same : (after c).text.items ≡ c.put_end-self-inside.new.text = with_items_is c.make_room.new.text c.put_end-self-inside.new.text (c.put_end-self-inside.auto.text ∙ size ∙ sym c.make_room.new.text.ok.0) in
    let some = has_fields-some (sheet_rows c.self.inside).row (rw (← c.self.view_is) at c.requires) in
    HoldsRows-end c.self.inside (after c) _ _ c.self.invariant some refl refl (rw same (omega (arith, put.within, room.ok, c.put_end-self-inside.auto.text, size))) (rw same (put.written ∙ rw (c.deref_mut.ensures.value, room.kept) refl))

pub invariant_of-self-2 : goal.invariant_of-self-2
invariant_of-self-2 c = IsSheet-from (after c) _ _ (holds c)

pub returns-clause-ok : goal.returns-clause-ok
returns-clause-ok c = rw (← c.self.view_is) (sheet_rows-is (after c) _ _ (holds c))
