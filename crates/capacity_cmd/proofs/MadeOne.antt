-- The text of `made` is one: the answers of a line's sections are, and the journal leaves the same tables in any order.
use Rattle.std.proofs.Common.{◌≡◌, ℕ, List, sym, ap, ◌∙◌, subst}
use Rattle.rail_model.specs.declared.tables.Tables.{Tables}
use Rattle.row_text.specs.SheetRows.{text_of_rows}
use Rattle.capacity_report.specs.Answers.{AreAnswers}
use Rattle.made_line.specs.declared.counts.TheConstants.{BASE_EDITS, WORKERS, SCRIPT_EDITS}
use Rattle.made_line.specs.Base.{base_tables}
use Rattle.made_line.specs.Later.{later_tables}
use Rattle.made_line.proofs.Sessions.{each_session_makes_all}
use Rattle.capacity_cmd.specs.Ends.{rows_of_answers, made_rows, IsMadeText}
use Rattle.capacity_cmd.specs.MadeOne.{TellsOfAll}
use Rattle.capacity_cmd.specs.Laws.{MadeIsOne}
use Rattle.capacity_cmd.proofs.OneOutcome.{answers_one}

tells_of_all : (n : ℕ) (text : List ℕ) → IsMadeText n text → TellsOfAll n text
tells_of_all n text h =
    let all = each_session_makes_all n BASE_EDITS WORKERS h.journal h.session in
    record {
      base = h.base;
      base_are = h.base_are;
      last = h.last;
      last_are = subst (λ (tables : Tables). AreAnswers tables tables.sections h.last) all.tables h.last_are;
      text_is = h.text_is ∙ ap (λ made. text_of_rows (made_rows n (rows_of_answers h.base) made (rows_of_answers h.last))) all.count;
    }

same_text : (n : ℕ) (text other : List ℕ) → TellsOfAll n text → TellsOfAll n other → other ≡ text
same_text n text other h k =
    let base = answers_one (base_tables n) (base_tables n).sections k.base h.base k.base_are h.base_are in
    let last = answers_one (later_tables n) (later_tables n).sections k.last h.last k.last_are h.last_are in
    k.text_is ∙ (λ i. text_of_rows (made_rows n (rows_of_answers (base i)) SCRIPT_EDITS (rows_of_answers (last i)))) ∙ sym h.text_is

pub made_is_one : MadeIsOne
made_is_one n text h =
    let tells = tells_of_all n text h in
    record { tells = tells; one = λ other k. same_text n text other tells (tells_of_all n other k) }
