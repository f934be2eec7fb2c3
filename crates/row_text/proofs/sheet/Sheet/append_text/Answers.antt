use Rattle.std.proofs.Common.{◌≡◌, ◌++◌, List, [], length, refl, sym, ap, subst, ◌∙◌, arith}
use Rattle.std.specs.Vec.{with_items}
use Rattle.std.proofs.lemmas.List.{with_items_is}
use Rattle.row_text.specs.declared.sheet.Sheet.TheInside.{Inside}
use Rattle.row_text.specs.Sheet.{sheet_rows}
use Rattle.row_text.specs.SheetRows.{Row, IsTextOf}
use Rattle.row_text.specs.SheetText.{HoldsRows}
use Rattle.row_text.proofs.SheetRows.{sheet_rows-is, IsSheet-from}
use Rattle.row_text.proofs.SheetSteps.{HoldsRows-append}
use Rattle.row_text.proofs.sheet.Sheet.append_text.Goals as goal

-- the sheet with the rows
abbrev after : goal.After-self-3-1 → Inside
after c = record {
  text = with_items c.make_room.new.text c.put_bytes-self-inside.new.text;
  ended = c.put_bytes-self-inside.result;
  used = c.put_bytes-self-inside.result;
  has_field = c.self.inside.has_field;
}

holds : (c : goal.After-self-3-1) (rows : List Row) → IsTextOf c.args.text.now rows → HoldsRows (after c) ((sheet_rows c.self.inside).rows ++ rows) []
holds c rows is =
    let room = c.in_ok-make_room.ensures in
    let put = c.put_bytes-self-inside.ensures in
    let size = ap length c.deref_mut.ensures.value in
    let same : (after c).text.items ≡ c.put_bytes-self-inside.new.text = with_items_is c.make_room.new.text c.put_bytes-self-inside.new.text (c.put_bytes-self-inside.auto.text ∙ size ∙ sym c.make_room.new.text.ok.0) in
    let dropped = subst (HoldsRows c.self.inside (sheet_rows c.self.inside).rows) (ap (λ seen. seen.row) c.self.view_is ∙ c.drop_row.ensures.row) c.self.invariant in
    HoldsRows-append c.self.inside (after c) c.args.text.now _ rows dropped is refl refl (rw same (omega (arith, put.end, room.ok, c.put_bytes-self-inside.auto.text, size)))
    (rw same (put.written ∙ rw (c.deref_mut.ensures.value, room.kept) refl))

pub invariant_of-self-2 : goal.invariant_of-self-2
invariant_of-self-2 c = IsSheet-from (after c) _ _ (holds c c.requires.0 c.requires.1)

pub returns-clause-ok : goal.returns-clause-ok
returns-clause-ok c rows is =
    let mine = ap (λ seen. seen.rows) c.self.view_is ∙ c.drop_row.ensures.rows in
    ap (λ seen. seen.rows) (sheet_rows-is (after c) _ _ (holds c rows is)) ∙ ap (λ kept. kept ++ rows) mine
