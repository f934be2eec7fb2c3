-- A command has one outcome on an input, but for what it leaves open: each answer that its text tells is unique.
use Rattle.std.proofs.Common.{◌≡◌, ◌⊎◌, ℕ, zero, suc, List, [], ◌∷◌, ◌++◌, inl, inr, refl, sym, ap, ◌∙◌, subst, arith}
use Rattle.std.specs.Prelude.{Result, Ok, Err}
use Rattle.rail_model.specs.declared.items.Section.{Section}
use Rattle.rail_model.specs.declared.tables.Tables.{Tables}
use Rattle.rail_model.specs.Conflict.{timetable}
use Rattle.row_text.specs.SheetRows.{Row, text_of_rows}
use Rattle.conflict_finder.proofs.Unique.{conflicts_are_unique}
use Rattle.plan_model.specs.declared.cut.Cut.{Cut}
use Rattle.plan_model.specs.declared.answer.Answer.{Answer}
use Rattle.plan_model.specs.declared.scripts.Task.{Task}
use Rattle.plan_model.specs.declared.journal.Entry.{Entry}
use Rattle.plan_model.specs.Members.{member}
use Rattle.plan_model.specs.Cut.{section_cut}
use Rattle.plan_model.specs.Journal.{tables_of}
use Rattle.plan_model.proofs.Unique.{answer_is_unique}
use Rattle.plan_model.proofs.Alone.{session_alone_is_one}
use Rattle.capacity_report.specs.declared.answers.Detail.TheVariants as detail
use Rattle.capacity_report.specs.Answers.{answer_rows, AreAnswers, report_rows}
use Rattle.capacity_report.specs.Rows.{stairs_rows, check_rows, rows_of_journal}
use Rattle.line_cutter.specs.Rows.{cutting_rows}
use Rattle.line_cutter.proofs.Unique.{cutting_is_unique}
use Rattle.cycle_time.proofs.Repeated.{cycles_are_alike}
use Rattle.delay_spread.specs.Spreading.{spread_rows}
use Rattle.delay_spread.proofs.Unique.{spread_is_unique}
use Rattle.path_fill.specs.Filling.{IsOrdered, fill_rows}
use Rattle.path_fill.proofs.OneFill.{not_headed, fill_is_unique}
use Rattle.capacity_cmd.specs.declared.command.Command.{Command}
use Rattle.capacity_cmd.specs.declared.command.Command.TheVariants as command
use Rattle.capacity_cmd.specs.declared.refusal.Refusal.{Refusal}
use Rattle.capacity_cmd.specs.declared.accepted.Accepted.{Accepted}
use Rattle.capacity_cmd.specs.declared.status.Cause.{Cause}
use Rattle.capacity_cmd.specs.Command.{planners_of}
use Rattle.capacity_cmd.specs.Input.{Content, accepted_of, content_of_input}
use Rattle.capacity_cmd.specs.Outcome.{Outcome, Writes, EndsInText}
use Rattle.capacity_cmd.specs.Ends.{cut_named, EndsOnNamed, IsHeadText, IsCheckText, IsCompressText, IsReportText, IsHeadwaysText, IsCutText, IsCycleText, delayed_named, IsSpreadText, IsDelaysText, member_named, IsFilledText, IsFillText, IsJournalText, IsSessionText, EndsOnAccepted, Ends}
use Rattle.capacity_cmd.specs.OneOutcome.{IsLeftOpen, DifferInCircuit}
use Rattle.capacity_cmd.specs.Laws.{OutcomeIsOne}

-- at most one text is such
abbrev IsOne : (List ℕ → Type 0) → Type 0
IsOne IsText = (text other : List ℕ) → IsText text → IsText other → text ≡ other

in_text : (IsText : List ℕ → Type 0) → IsOne IsText → (a b : Outcome) → EndsInText IsText a → EndsInText IsText b → a ≡ b
in_text IsText one a b (text, is, ends) (other, also, others) = ends ∙ ap Writes (one text other is also) ∙ sym others

on_named : {X : Type 0} (IsText : X → List ℕ → Type 0) → ((x : X) → IsOne (IsText x)) → (found : Result X Cause)
    → (a b : Outcome) → EndsOnNamed IsText found a → EndsOnNamed IsText found b → a ≡ b
on_named IsText one (Ok x) a b is also = in_text (IsText x) (one x) a b is also
on_named IsText one (Err why) a b is also = is ∙ sym also

-- a text is one that tells, in rows, what is unique
told : {X : Type 0} {Is : X → Type 0} → ((x y : X) → Is x → Is y → x ≡ y) → (rows : X → List Row)
    → IsOne (λ text. (x : X) × Is x × (text ≡ text_of_rows (rows x)))
told unique rows text other (x, is, one) (y, also, two) = one ∙ ap (λ z. text_of_rows (rows z)) (unique x y is also) ∙ sym two

-- ---- texts of a line

check_one : (tables : Tables) → IsOne (IsCheckText tables)
check_one tables = told (conflicts_are_unique (timetable tables)) (check_rows tables)

pub answers_one : (tables : Tables) (sections : List Section) (answers others : List Answer)
    → AreAnswers tables sections answers → AreAnswers tables sections others → answers ≡ others
answers_one tables [] [] [] are also = refl
answers_one tables [] [] (b ∷ others) are also = absurd also
answers_one tables [] (a ∷ answers) others are also = absurd are
answers_one tables (s ∷ sections) [] others are also = absurd are
answers_one tables (s ∷ sections) (a ∷ answers) [] are also = absurd also
answers_one tables (s ∷ sections) (a ∷ answers) (b ∷ others) are also =
    let first = answer_is_unique (section_cut tables s) a b are.0 also.0 in
    let rest = answers_one tables sections answers others are.1 also.1 in λ i. first i ∷ rest i

report_one : (tables : Tables) → IsOne (IsReportText tables)
report_one tables = told (answers_one tables tables.sections) (report_rows tables.sections)

journal_one : (journal : List Entry) → IsOne (IsJournalText journal)
journal_one journal =
    let tables = tables_of journal in
    told (answers_one tables tables.sections) (λ some. rows_of_journal journal ++ report_rows tables.sections some)

session_one : (tables : Tables) (at : ℕ) (scripts : List (List Task)) → IsOne (IsSessionText tables at scripts 0)
session_one tables at scripts text other (journal, is, written) (another, also, others) =
    let same = session_alone_is_one tables at scripts journal another is also in
    journal_one journal text other written (subst (λ j. IsJournalText j other) (sym same) others)

-- ---- texts of a section

compress_one : (cut : Cut) → IsOne (IsCompressText cut)
compress_one cut = told (answer_is_unique cut) (λ a. answer_rows cut.section.name a detail.Full)

head_one : (cut : Cut) → IsOne (IsHeadText cut)
head_one cut text other (a, is, none, one) (b, also, neither, two) =
    told (answer_is_unique cut) (λ c. answer_rows cut.section.name c detail.Head) text other (a, is, one) (b, also, two)

-- a cut that is compressed has no text of its answer alone
no_head : (cut : Cut) (text : List ℕ) → IsHeadText cut text → IsOrdered cut → ⊥
no_head cut text (a, is, none, one) ordered = not_headed cut a ordered is none

or_head : (cut : Cut) (IsText : List ℕ → Type 0) → IsOne IsText → ((text : List ℕ) → IsText text → IsOrdered cut)
    → IsOne (λ text. IsHeadText cut text ⊎ IsText text)
or_head cut IsText one ordered text other (inl is) (inl also) = head_one cut text other is also
or_head cut IsText one ordered text other (inl is) (inr also) = absurd (no_head cut text is (ordered other also))
or_head cut IsText one ordered text other (inr is) (inl also) = absurd (no_head cut other also (ordered text is))
or_head cut IsText one ordered text other (inr is) (inr also) = one text other is also

cut_one : (cut : Cut) → IsOne (IsCutText cut)
cut_one cut text other (inl (many, is)) (inl (also, others)) = is ∙ sym others
cut_one cut text other (inl is) (inr also) = absurd (omega (arith, is.0, also.0))
cut_one cut text other (inr is) (inl also) = absurd (omega (arith, is.0, also.0))
cut_one cut text other (inr (few, cutting, is, one)) (inr (no_more, another, also, two)) =
    told (cutting_is_unique cut) (cutting_rows cut) text other (cutting, is, one) (another, also, two)

spread_one : (cut : Cut) (delays : List ℕ) → IsOne (IsSpreadText cut delays)
spread_one cut delays text other (ordered, spread, is, one) (too, another, also, two) =
    told (spread_is_unique cut delays) (spread_rows cut) text other (spread, is, one) (another, also, two)

delays_one : (of : Cut × List ℕ) → IsOne (IsDelaysText of)
delays_one (cut, delays) = or_head cut (IsSpreadText cut delays) (spread_one cut delays) (λ text is. is.0)

filled_one : (cut : Cut) (row : ℕ) → IsOne (IsFilledText cut row)
filled_one cut row text other (ordered, fill, is, one) (too, another, also, two) =
    told (fill_is_unique cut row) (fill_rows cut.section (member cut row).name) text other (fill, is, one)
    (another, also, two)

fill_one : (of : Cut × ℕ) → IsOne (IsFillText of)
fill_one (cut, row) = or_head cut (IsFilledText cut row) (filled_one cut row) (λ text is. is.0)

cycle_texts : (cut : Cut) (a b : Outcome) → EndsInText (IsCycleText cut) a → EndsInText (IsCycleText cut) b
    → (a ≡ b) ⊎ DifferInCircuit a b
cycle_texts cut a b (text, inl is, ends) (other, inl also, others) =
    inl (ends ∙ ap Writes (head_one cut text other is also) ∙ sym others)
cycle_texts cut a b (text, inl is, ends) (other, inr also, others) = absurd (no_head cut text is also.0)
cycle_texts cut a b (text, inr is, ends) (other, inl also, others) = absurd (no_head cut other also is.0)
cycle_texts cut a b (text, inr (ordered, cycle, is, one), ends) (other, inr (too, another, also, two), others) =
    inr
    (record {
      cut = cut;
      cycle = cycle;
      other_cycle = another;
      alike = cycles_are_alike cut cycle another is also;
      one = ends ∙ ap Writes one;
      two = others ∙ ap Writes two;
    })

cycle_named : (found : Result Cut Cause) (a b : Outcome) → EndsOnNamed IsCycleText found a
    → EndsOnNamed IsCycleText found b → (a ≡ b) ⊎ DifferInCircuit a b
cycle_named (Ok cut) a b is also = cycle_texts cut a b is also
cycle_named (Err why) a b is also = inl (is ∙ sym also)

-- ---- outcomes

on_accepted : (c : Command) (g : Accepted) (a b : Outcome) → EndsOnAccepted c g a → EndsOnAccepted c g b
    → (a ≡ b) ⊎ IsLeftOpen c a b
on_accepted command.Stairs g a b is also =
    inl (in_text (λ text. text ≡ text_of_rows (stairs_rows g.tables)) (λ text other one two. one ∙ sym two) a b is also)
on_accepted command.Check g a b is also = inl (in_text (IsCheckText g.tables) (check_one g.tables) a b is also)
on_accepted (command.Compress section) g a b is also =
    inl (on_named IsCompressText compress_one (cut_named g.tables section) a b is also)
on_accepted command.Report g a b is also = inl (in_text (IsReportText g.tables) (report_one g.tables) a b is also)
on_accepted (command.Headways section) g a b is also =
    inl (on_named IsHeadwaysText (λ cut text other one two. one ∙ sym two) (cut_named g.tables section) a b is also)
on_accepted (command.Cut section) g a b is also = inl (on_named IsCutText cut_one (cut_named g.tables section) a b is also)
on_accepted (command.Cycle section) g a b is also = cycle_named (cut_named g.tables section) a b is also
on_accepted (command.Delays section delays) g a b is also =
    inl (on_named IsDelaysText delays_one (delayed_named g.tables section delays) a b is also)
on_accepted (command.Fill section run) g a b is also =
    inl (on_named IsFillText fill_one (member_named g.tables section run) a b is also)
on_accepted (command.Session zero) g a b is also =
    inl (in_text (IsSessionText g.tables g.at g.scripts 0) (session_one g.tables g.at g.scripts) a b is also)
on_accepted (command.Session (suc workers)) g a b is also = inr (omega arith)

on_content : (c : Command) (content : Result Content Refusal) (a b : Outcome) → Ends c content a → Ends c content b
    → (a ≡ b) ⊎ IsLeftOpen c a b
on_content c (Ok content) a b is also = on_accepted c (accepted_of content) a b is also
on_content c (Err refusal) a b is also = inl (is ∙ sym also)

pub outcome_is_one : OutcomeIsOne
outcome_is_one c input a b is also = on_content c (content_of_input (planners_of c) input) a b is also
