-- A report, to which the head of one more section's answer comes.
use Rattle.std.proofs.Common.{◌≡◌, ℕ, zero, suc, ◌+◌, ◌<◌, ◌≤◌, List, [], ◌∷◌, ◌++◌, length, take, refl, sym, ap, ◌∙◌, subst, append_assoc, arith}
use Rattle.std.proofs.lemmas.List.{take_all, take_more, length-take-le}
use Rattle.std.proofs.lemmas.List.Concat.{flat_map-append}
use Rattle.rail_model.specs.declared.tables.Tables.{Tables}
use Rattle.rail_model.specs.Tables.{no_section, section_at}
use Rattle.plan_model.specs.declared.scripts.Task.{Task}
use Rattle.plan_model.specs.declared.journal.Entry.{Entry}
use Rattle.plan_model.specs.Journal.{tables_of}
use Rattle.plan_model.specs.Session.{IsSession}
use Rattle.row_text.specs.SheetRows.{Row, text_of_row, text_of_rows}
use Rattle.capacity_report.specs.declared.answers.Detail.TheVariants as detail
use Rattle.capacity_report.specs.Answers.{answer_rows, AreAnswers, heads, report_rows, Total, total_row, with_answer}
use Rattle.capacity_report.specs.Rows.{rows_of_journal}
use Rattle.capacity_report.proofs.Reports.{total_more, heads_more, answers_more, answers_count}
use Rattle.capacity_cmd.specs.Ends.{IsReportText, IsJournalWith, IsJournalText}
use Rattle.capacity_cmd.specs.Heads.{AddsReport, AddsHead, HasHeads, IsTextOfHeads}

-- the heads of the first sections, and that of the next
pub heads_added : (tables : Tables) (count : ℕ) (before rows more : List Row) (total greater : Total) → count < length tables.sections → HasHeads tables count before rows total → AddsHead tables (section_at tables count) rows more total greater → HasHeads tables (count + 1) before more greater
heads_added tables count before rows more total greater there had adds =
    let first = take count tables.sections in
    let section = section_at tables count in
    let one_more = take_more tables.sections count no_section there in
    let answers = had.answers ++ adds.answer ∷ [] in
    record {
      answers = answers;
      are = subst (λ sections. AreAnswers tables sections answers) (sym one_more)
          (answers_more tables section adds.answer adds.is first had.answers had.are);
      written = adds.head ∙ ap (λ (r : List Row). r ++ answer_rows section.name adds.answer detail.Head) had.written
          ∙ append_assoc before (heads first had.answers) (answer_rows section.name adds.answer detail.Head)
          ∙ ap (λ (r : List Row). before ++ r)
          (sym (heads_more first had.answers section adds.answer (answers_count tables first had.answers had.are))
          ∙ ap (λ sections. heads sections answers) (sym one_more));
      counted = adds.counted ∙ ap (λ t. with_answer t adds.answer) had.counted ∙ sym (total_more had.answers adds.answer);
    }

-- the total counts the sections whose heads there are
pub sections_counted : (tables : Tables) (count : ℕ) (before rows : List Row) (total : Total) → count ≤ length tables.sections → HasHeads tables count before rows total → total.sections ≡ count
sections_counted tables count before rows total within had =
    ap (λ (t : Total). t.sections) had.counted
    ∙ sym (answers_count tables (take count tables.sections) had.answers had.are)
    ∙ length-take-le count tables.sections within

-- the heads of all sections and the total are the report
pub report_added : (tables : Tables) (before made whole : List Row) (total : Total)
    → HasHeads tables (length tables.sections) before made total → whole ≡ made ++ total_row total ∷ []
    → AddsReport tables before whole
report_added tables before made whole total had is =
    let all = take_all (length tables.sections) tables.sections (omega arith) in
    let last = λ (t : Total). total_row t ∷ [] in (
      had.answers,
      subst (λ sections. AreAnswers tables sections had.answers) all had.are,
      is ∙ ap (λ (r : List Row). r ++ last total) (had.written ∙ ap (λ sections. before ++ heads sections had.answers) all)
          ∙ append_assoc before (heads tables.sections had.answers) (last total)
          ∙ ap (λ t. before ++ (heads tables.sections had.answers ++ last t)) had.counted,
    )

-- without rows before it the report is the text of `report`
pub report_written : (tables : Tables) (before whole : List Row) (text : List ℕ) → before ≡ []
    → AddsReport tables before whole → text ≡ text_of_rows whole → IsReportText tables text
report_written tables before whole text none adds written = (
  adds.0,
  adds.1,
  written ∙ ap text_of_rows (adds.2 ∙ ap (λ (r : List Row). r ++ report_rows tables.sections adds.0) none),
)

-- the text of the heads of all sections and that of the total are the report
pub heads_reported : (tables : Tables) (first last text : List ℕ) (total : Total) → IsTextOfHeads tables (length tables.sections) first total
    → last ≡ text_of_rows (total_row total ∷ []) → text ≡ first ++ last → IsReportText tables text
heads_reported tables first last text total had is joined =
    let whole = had.rows ++ total_row total ∷ [] in
    report_written tables [] whole text refl (report_added tables [] had.rows whole total had.heads refl)
    (joined ∙ ap (λ t. t ++ last) had.written ∙ ap (λ t. text_of_rows had.rows ++ t) is
    ∙ sym (flat_map-append text_of_row had.rows (total_row total ∷ [])))

-- after the text of a session's journal the report of the tables at its end makes the text of the session
pub journal_written : (journal seen : List Entry) (end_tables : Tables) (first last text : List ℕ)
    → seen ≡ journal → end_tables ≡ tables_of journal → first ≡ text_of_rows (rows_of_journal seen)
    → IsReportText end_tables last → text ≡ first ++ last → IsJournalText journal text
journal_written journal seen end_tables first last text same at_end rows report joined =
    let told = subst (λ (t : Tables). IsReportText t last) at_end report in
    let all = report_rows (tables_of journal).sections told.0 in (
      told.0,
      told.1,
      joined ∙ ap (λ t. t ++ last) (rows ∙ ap (λ entries. text_of_rows (rows_of_journal entries)) same)
          ∙ ap (λ t. text_of_rows (rows_of_journal journal) ++ t) told.2
          ∙ sym (flat_map-append text_of_row (rows_of_journal journal) all),
    )

-- the journal of a session with workers, by its number of workers
pub journal_with : (workers at : ℕ) (tables : Tables) (scripts : List (List Task)) (journal : List Entry) → 1 ≤ workers
    → IsSession tables at scripts workers journal → IsJournalWith workers tables at scripts journal
journal_with zero at tables scripts journal some is = absurd (omega (arith, some))
journal_with (suc workers) at tables scripts journal some is = is
