use Rattle.std.proofs.Common.{◌≡◌, true, false, Bool, sym, subst, arith}
use Rattle.std.proofs.lemmas.Slice.Zip.{AllZip-long}
use Rattle.plan_model.specs.declared.cut.CutRow.{CutRow}
use Rattle.line_cutter.specs.Ways.{IsOneWay}
use Rattle.line_cutter.proofs.Paired.{paired_at}
use Rattle.line_cutter.proofs.piece.piece_rows.Goals as goal

pub bounds-one_way-k : goal.bounds-one_way-k
bounds-one_way-k c =
    omega (
      arith,
      AllZip-long (λ (row : CutRow) (mark : Bool). mark ≡ true → IsOneWay row.uses) c.args.rows.now c.args.one_way.now c.requires.ways,
      c.loop-k-test.true,
    )

pub add_row-requires : goal.add_row-requires
add_row-requires c =
    let row = c.index-rows-k.result in
    λ t. subst (λ (r : CutRow). IsOneWay r.uses) (sym c.index-rows-k.is)
    (paired_at (λ (row : CutRow) (mark : Bool). mark ≡ true → IsOneWay row.uses) c.args.rows.now c.args.one_way.now c.loop-k.k row false
    c.requires.ways c.loop-k-test.true t)
