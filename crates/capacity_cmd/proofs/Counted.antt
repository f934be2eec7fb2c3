-- What is counted of a line that is made, its rows, and what a call that sends them ends with.
use Rattle.std.proofs.Common.{◌≡◌, ℕ, ◌+◌, ◌<◌, ◌≤◌, List, [], ◌∷◌, ◌++◌, length, take, refl, sym, ap, ◌∙◌, subst, inl, inr, append_assoc, arith}
use Rattle.std.specs.Prelude.{◌⊎◌, sum_by}
use Rattle.std.proofs.lemmas.List.{take_all, take_more, length-take-le}
use Rattle.std.proofs.lemmas.List.Sums.{sum_by-append}
use Rattle.rail_model.specs.declared.tables.Tables.{Tables}
use Rattle.rail_model.specs.Tables.{no_section, section_at}
use Rattle.rail_outside.specs.InCall.{SinkInCall, ShowsNoWriteFailed}
use Rattle.plan_model.specs.declared.answer.Answer.{Answer}
use Rattle.plan_model.specs.declared.scripts.Task.{Task}
use Rattle.plan_model.specs.declared.journal.Entry.{Entry}
use Rattle.plan_model.specs.Session.{IsSession}
use Rattle.plan_model.specs.Journal.{opening, edits, last_number}
use Rattle.row_text.specs.SheetRows.{Row}
use Rattle.capacity_report.specs.Answers.{AreAnswers}
use Rattle.capacity_report.proofs.Reports.{total_more, answers_more, answers_count}
use Rattle.made_line.specs.declared.counts.TheConstants.{BASE_EDITS}
use Rattle.capacity_cmd.specs.declared.reply.CallReply.{CallReply}
use Rattle.capacity_cmd.specs.declared.status.Status.{Status}
use Rattle.capacity_cmd.specs.declared.status.Status.TheVariants.{Done, Refused, ReadFault, WriteFault, OutOfMemory}
use Rattle.capacity_cmd.specs.Outcome.{Writes, EndsInText, outcome_text, outcome_status}
use Rattle.capacity_cmd.specs.Ends.{occupancy_of, line_row, session_row, made_rows}
use Rattle.capacity_cmd.specs.Counted.{Counted, counted_of, with_one, CountsSection, AreCounted}
use Rattle.capacity_cmd.specs.Reply.{IsCallReply, IsSent}
use Rattle.capacity_cmd.specs.Promise.{WritesOutcome}

-- ---- what is counted

occupancy_more : (answers : List Answer) (a : Answer)
    → sum_by occupancy_of (answers ++ a ∷ []) ≡ sum_by occupancy_of answers + occupancy_of a
occupancy_more answers a = omega (arith, sum_by-append occupancy_of answers (a ∷ []))

counted_more : (answers : List Answer) (a : Answer) → counted_of (answers ++ a ∷ []) ≡ with_one (counted_of answers) a
counted_more answers a = rw (total_more answers a, occupancy_more answers a) refl

-- the answers of the first sections, and that of the next
pub one_counted : (tables : Tables) (count : ℕ) (before after : Counted) → count < length tables.sections
    → AreCounted tables count before → CountsSection tables (section_at tables count) before after
    → AreCounted tables (count + 1) after
one_counted tables count before after there had adds =
    let first = take count tables.sections in
    let section = section_at tables count in
    let one_more = take_more tables.sections count no_section there in
    let answers = had.answers ++ adds.answer ∷ [] in
    record {
      answers = answers;
      are = subst (λ sections. AreAnswers tables sections answers) (sym one_more)
          (answers_more tables section adds.answer adds.is first had.answers had.are);
      counted_is = adds.counted ∙ ap (λ c. with_one c adds.answer) had.counted_is ∙ sym (counted_more had.answers adds.answer);
    }

-- so many are counted
pub answers_counted : (tables : Tables) (count : ℕ) (counted : Counted) → count ≤ length tables.sections
    → AreCounted tables count counted → counted.total.sections ≡ count
answers_counted tables count counted within had =
    ap (λ (c : Counted). c.total.sections) had.counted_is
    ∙ sym (answers_count tables (take count tables.sections) had.answers had.are)
    ∙ length-take-le count tables.sections within

-- those of all sections
pub all_counted : (tables : Tables) (counted : Counted) (had : AreCounted tables (length tables.sections) counted)
    → AreAnswers tables tables.sections had.answers
all_counted tables counted had =
    let all = take_all (length tables.sections) tables.sections (omega arith) in
    subst (λ sections. AreAnswers tables sections had.answers) all had.are

-- ---- the edits of its session

-- it opens with the base
pub session_opens : (tables : Tables) (at : ℕ) (scripts : List (List Task)) (workers : ℕ) (journal : List Entry)
    → IsSession tables at scripts workers journal → (opening journal).at ≡ at
session_opens tables at scripts workers journal is = ap (λ (j : List Entry). (opening j).at) is.is

-- edits are numbered on from those of the base
pub numbers_on : (journal : List Entry) → (opening journal).at ≡ BASE_EDITS
    → last_number journal ≡ BASE_EDITS + length (edits journal)
unfolding last_number
numbers_on journal is = ap (λ at. at + length (edits journal)) is

-- ---- its rows

pub rows_made : (n made : ℕ) (base last none line counted session whole : List Row) → none ≡ []
    → line ≡ none ++ line_row n ∷ [] → counted ≡ line ++ base → session ≡ counted ++ session_row made ∷ []
    → whole ≡ session ++ last → whole ≡ made_rows n base made last
rows_made n made base last none line counted session whole e0 e1 e2 e3 e4 =
    rw (e4, e3, e2, e1, e0) (append_assoc (line_row n ∷ base) (session_row made ∷ []) last)

-- ---- the call that sends them

-- the reply to it is a text
pub text_said : (IsText : List ℕ → Type 0) (reply : CallReply) → IsCallReply (EndsInText IsText) reply → IsText reply.text
text_said IsText reply is =
    subst IsText (sym (is.said.text ∙ ap outcome_text is.ends.2)) is.ends.1

pub is_done : (IsText : List ℕ → Type 0) (reply : CallReply) → IsCallReply (EndsInText IsText) reply → reply.status ≡ Done
is_done IsText reply is = is.said.status ∙ ap outcome_status is.ends.2

done_fault : {X : Type 0} → Done ≡ WriteFault → X
done_fault is = absurd (cc)

module _ {K : Type 0} (IsText : List ℕ → Type 0) (sink : SinkInCall K) (reply : CallReply) (status : Status)
    (is : IsCallReply (EndsInText IsText) reply) (sent : IsSent sink reply status) where
  done_here : (status ≡ Done) ⊎ (status ≡ WriteFault)
  done_here = elim sent [ inl w ↦ inl (w.0 ∙ is_done IsText reply is) | inr f ↦ inr f.0 ]

  pub ends_unread : (status ≡ Done) ⊎ (status ≡ WriteFault) ⊎ (status ≡ OutOfMemory)
  ends_unread = elim done_here [ inl d ↦ inl d | inr f ↦ inr (inl f) ]

  ends : EndsInText IsText (Writes reply.text)
  ends = (reply.text, text_said IsText reply is, refl)

  other_than : (s : Status) → status ≡ s → (Done ≡ s → ⊥) → (WriteFault ≡ s → ⊥) → ⊥
  other_than s at done fault = elim done_here [ inl d ↦ done (sym d ∙ at) | inr f ↦ fault (sym f ∙ at) ]

  pub writes_sent : WritesOutcome (EndsInText IsText) status sink
  writes_sent = record {
    done = λ d. elim sent [ inl w ↦ (reply.text, ends, w.1) | inr f ↦ done_fault (sym d ∙ f.0) ];
    refused = λ row why at. absurd (other_than (Refused row why) at (λ e. cc) (λ e. cc));
    write_fault = λ at. elim sent [ inl w ↦ done_fault (sym (w.0 ∙ is_done IsText reply is) ∙ at) | inr f ↦ f.2 ];
    broke_off = λ at. elim sent [ inl w ↦ done_fault (sym (w.0 ∙ is_done IsText reply is) ∙ at) | inr f ↦ (Writes reply.text, ends, f.1) ];
    no_write_fault = λ other. elim sent [ inl w ↦ w.2 | inr f ↦ absurd (other f.0) ];
    nothing_written = λ at. absurd (other_than ReadFault at (λ e. cc) (λ e. cc));
    no_memory = λ at. absurd (other_than OutOfMemory at (λ e. cc) (λ e. cc));
  }

  pub complete_sent : ShowsNoWriteFailed sink → (status ≡ Done) ⊎ (status ≡ OutOfMemory)
  complete_sent shows = elim sent [ inl w ↦ inl (w.0 ∙ is_done IsText reply is) | inr f ↦ absurd (omega (arith, f.2, shows.0, shows.1)) ]
