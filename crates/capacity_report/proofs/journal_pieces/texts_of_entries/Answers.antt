use Rattle.std.proofs.Common.{suc, ◌∷◌, ◌++◌, sym, ap, subst, ◌∙◌, append_assoc, arith}
use Rattle.std.specs.Prelude.{All}
use Rattle.std.specs.Vec.Iter.{into_iter_items}
use Rattle.std.proofs.lemmas.List.Concat.{flat_map-append}
use Rattle.plan_model.specs.declared.journal.Entry.{Entry}
use Rattle.row_text.specs.SheetRows.{text_of_row, text_of_rows}
use Rattle.capacity_report.specs.Published.{PublishesAnswer}
use Rattle.capacity_report.specs.Rows.{act_rows, rows_of_journal}
use Rattle.capacity_report.specs.TextSoFar.{so_far}
use Rattle.capacity_report.proofs.journal_pieces.texts_of_entries.Goals as goal

pub loop-entry-preserved : goal.loop-entry-preserved
loop-entry-preserved c =
    let entry = c.in-Some.entry in
    let rest = into_iter_items c.next.new.self in
    let items = c.in-Some.ensures.steps.0 in
    let before = so_far c.loop-entry.text in
    let all : All (λ (e : Entry). PublishesAnswer e.act) (entry ∷ rest) = subst (All (λ (e : Entry). PublishesAnswer e.act)) items c.loop-entry.invariant.answers in
    record {
      there = c.in_ok-text.ensures.there;
      answers = λ k d l. all (suc k) d (omega (arith, l));
      text = ap (λ t. t ++ text_of_rows (rows_of_journal rest)) c.in_ok-text.ensures.text
          ∙ append_assoc before (text_of_rows (act_rows entry.act)) (text_of_rows (rows_of_journal rest))
          ∙ ap (λ t. before ++ t) (sym (flat_map-append text_of_row (act_rows entry.act) (rows_of_journal rest)))
          ∙ ap (λ es. before ++ text_of_rows (rows_of_journal es)) (sym items)
          ∙ c.loop-entry.invariant.text;
    }
