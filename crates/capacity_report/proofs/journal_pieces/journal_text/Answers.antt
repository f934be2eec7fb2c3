use Rattle.std.proofs.Common.{◌≡◌, ◌++◌, take, drop, length, map, sym, ap, ◌∙◌, arith}
use Rattle.std.proofs.Math.Seq.{take-append_seam}
use Rattle.std.proofs.lemmas.Result.{IfOk-weaker}
use Rattle.row_text.specs.SheetRows.{text_of_rows}
use Rattle.capacity_report.specs.Published.{PublishesAnswer}
use Rattle.capacity_report.specs.Rows.{rows_of_journal}
use Rattle.capacity_report.proofs.PieceTexts.{entries_of, in_pieces, texts_of_pieces}
use Rattle.capacity_report.proofs.Published.{publish_answers}
use Rattle.capacity_report.proofs.journal_pieces.journal_text.Goals as goal

pub fill_all-requires-clause-entries : goal.fill_all-requires-clause-entries
fill_all-requires-clause-entries g c κs inside =
    in_pieces (λ e. PublishesAnswer e.act) _ (rw (c.deref_mut.ensures.value, c.in_ok-pieces.ensures) (publish_answers c.args.journal c.requires))

pub returns : goal.returns
returns g c =
    let written = c.fill_all.new.pieces in
    let old = c.in_ok-pieces.pieces in
    let long : old.len ≡ length written = omega (arith, c.fill_all.ensures.count) in
    let whole : take old.len (written ++ drop (length written) old.items) ≡ written =
    ap (λ n. take n (written ++ drop (length written) old.items)) long ∙ take-append_seam written (drop (length written) old.items) in
    IfOk-weaker c.joined.result _ _
    (λ text h.
    h.2 ∙ texts_of_pieces _ written h.0 c.fill_all.ensures (ap (map (λ p. p.texts)) (sym whole) ∙ sym c.in_ok-texts_of.ensures ∙ h.1)
    ∙ ap (λ es. text_of_rows (rows_of_journal es)) (ap entries_of c.deref_mut.ensures.value ∙ c.in_ok-pieces.ensures))
    c.joined.ensures
