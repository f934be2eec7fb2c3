use Rattle.std.proofs.Common.{[], false, refl, ap}
use Rattle.row_text.specs.declared.sheet.Sheet.TheInside.{Inside}
use Rattle.row_text.proofs.SheetRows.{sheet_rows-is, IsSheet-from}
use Rattle.row_text.proofs.SheetSteps.{HoldsRows-none}
use Rattle.row_text.proofs.sheet.Sheet.with_room.Goals as goal

pub invariant_of-result : goal.invariant_of-result
invariant_of-result c =
    let sheet : Inside = record { text = c.args.room; ended = 0; used = 0; has_field = false } in
    IsSheet-from sheet [] [] (HoldsRows-none sheet refl refl refl)

pub returns : goal.returns
returns c =
    let sheet : Inside = record { text = c.args.room; ended = 0; used = 0; has_field = false } in
    let seen = sheet_rows-is sheet [] [] (HoldsRows-none sheet refl refl refl) in
    record { rows = ap (λ s. s.rows) seen; row = ap (λ s. s.row) seen }
