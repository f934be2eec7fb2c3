-- Answers that are worked out ahead may be published, and what is kept with them was read.
use Rattle.std.proofs.Common.{◌≡◌, ℕ, ◌<◌, ◌≤◌, List, [], ◌∷◌, ◌++◌, length, map, get_or, None, Some, Result, Ok, Err, sym, ap, ◌∙◌, subst, arith, append_assoc, append-nil}
use Rattle.std.proofs.lemmas.List.{get_or-map, length-map, map-append}
use Rattle.std.specs.Prelude.{All, IfOk, IfSome}
use Rattle.std.specs.Result.{result_ok}
use Rattle.rail_model.specs.declared.memory.OutOfMemory.{OutOfMemory}
use Rattle.plan_model.specs.declared.answer.Answer.{Answer}
use Rattle.plan_model.specs.declared.answer.Done.{Done}
use Rattle.plan_model.specs.declared.journal.Entry.{Entry}
use Rattle.plan_model.specs.Answer.{IsAnswer}
use Rattle.plan_model.specs.Cut.{stamped}
use Rattle.plan_model.specs.Reading.{Shown}
use Rattle.plan_model.specs.Journal.{opening, last_number}
use Rattle.plan_model.specs.Legal.{IsAnswerAt, IsLegal, IsReading}
use Rattle.plan_model.specs.Outcome.{IsAnswerOf, IsDone, IsNextReading}
use Rattle.plan_model.proofs.Legality.{legal_has_one}
use Rattle.plan_model.proofs.Readings.{reading_name}
use Rattle.plan_model.proofs.Touching.{answer_longer}
use Rattle.plan_model.proofs.Unstamped.{answer_unstamped}
use Rattle.plan_repair.specs.Kept.{kept_of, TakesAtMost}
use Rattle.plan_book.specs.Reading.{IsReadingOf, IsOpenReading}
use Rattle.section_worker.specs.declared.worker.KeptReading.{KeptReading}
use Rattle.section_worker.specs.Keeping.{Working, kept_for, kept_reading, Keeps, KeepsRows, KeepsWhatWasRead}
use Rattle.section_worker.proofs.Keeps.{keeps_rows}
use Rattle.session_run.specs.declared.ahead.Ahead.{Ahead}
use Rattle.session_run.specs.Ahead.{WasShown, AreOf, IsWorkedOut, AreWorkedOut, IsAhead, AreAhead, IsDoneNow}

-- ---- readings

-- a reading of a section is one by its own name
pub own_name : (journal : List Entry) (name : List ℕ) (shown : Shown) → IsReadingOf journal name shown
    → IsReadingOf journal shown.cut.section.name shown
own_name journal name shown r =
    subst (λ n. IsReadingOf journal n shown) (sym (reading_name journal name shown.cut r.reading)) r

pub shown_now : (journal : List Entry) (shown : Shown) → IsLegal journal
    → IsReadingOf journal shown.cut.section.name shown → WasShown journal shown
shown_now journal shown legal r = record {
  found = journal;
  more = [];
  is = sym (append-nil journal);
  legal = legal;
  reading = r.reading;
  at = r.at;
}

pub shown_next : (journal : List Entry) (shown : Shown) → IsLegal journal → IsNextReading 0 1 journal shown
    → WasShown journal shown
shown_next journal shown legal next =
    shown_now journal shown legal
    (own_name journal _ shown (record { reading = next.reading; at = next.at; untaken = next.untaken }))

-- what was shown of a beginning stays so in a longer journal
pub shown_on : (journal more after : List Entry) (shown : Shown) → after ≡ journal ++ more → WasShown journal shown
    → WasShown after shown
shown_on journal more after shown is s = record {
  found = s.found;
  more = s.more ++ more;
  is = is ∙ ap (λ j. j ++ more) s.is ∙ append_assoc s.found s.more more;
  legal = s.legal;
  reading = s.reading;
  at = s.at;
}

-- ---- what is answered

-- an answer and what is to be kept are those of a reading, also after uses of it are taken
right_later : (shown later : Shown) (r : Result (KeptReading × Answer) OutOfMemory) → later.cut ≡ shown.cut → later.at ≡ shown.at
    → IfOk r (λ both. both.0 ≡ kept_reading shown) → IfOk r (λ both. IsAnswer shown.cut both.1)
    → IfSome (result_ok r) (AreOf later)
right_later shown later (Ok both) cut at keep answer =
    (keep ∙ (λ k. record { at = sym at k; keep = kept_of (sym cut k) }), subst (λ k. IsAnswer k both.1) (sym cut) answer)
right_later shown later (Err e) cut at keep answer = tt

pub worked_out : (old new : Ahead) (most : ℕ) (r : Result (KeptReading × Answer) OutOfMemory) → new.done ≡ result_ok r
    → TakesAtMost most old.reading new.reading → IfOk r (λ both. both.0 ≡ kept_reading old.reading)
    → IfOk r (λ both. IsAnswer old.reading.cut both.1) → IsWorkedOut old new
worked_out old new most r done taken keep answer = record {
  cut = taken.cut;
  at = taken.at;
  right =
      subst (λ d. IfSome d (AreOf new.reading)) (sym done)
      (right_later old.reading new.reading r taken.cut taken.at keep answer);
}

-- a worker keeps what is to be kept of a reading
pub keeps_put : (section : List ℕ) (shown : Shown) (w later : Working) (h : KeptReading) → section ≡ shown.cut.section.name
    → h ≡ kept_reading shown → Keeps section h w later → KeepsRows shown.cut shown.at w later
keeps_put section shown w later h named is k = record {
  rows = ap (kept_for later) (sym named) ∙ k.kept ∙ ap (λ x. Some x) is;
  others = λ other ne. k.others other (λ e. ne (e ∙ named));
}

opens_before : (journal : List Entry) → (opening journal).at ≤ last_number journal
unfolding last_number
opens_before journal = omega arith

module _ (journal : List Entry) (shown : Shown) (s : WasShown journal shown) where
  -- the answer may be published
  pub shown_done : (done : Done) → IsAnswerOf shown done → IsDone journal done
  shown_done done is =
      let at_found : IsAnswerAt s.found done.section done.at done.answer =
      rw (is.section, is.at ∙ s.at)
      (record {
        from_opening = opens_before s.found;
        to_last = omega arith;
        cut = stamped 0 shown.cut;
        there = s.reading.value;
        is_answer = answer_unstamped shown.cut done.answer is.answer;
      }) in
      subst (λ j. IsDone j done) (sym s.is)
      (answer_longer s.found s.more done.section done.at done.answer (legal_has_one s.found s.legal) at_found)

  -- what is kept was read
  pub shown_kept : (w later : Working) → KeepsRows shown.cut shown.at w later → KeepsWhatWasRead w journal
      → KeepsWhatWasRead later journal
  shown_kept w later rows keeps =
      subst (KeepsWhatWasRead later) (sym s.is)
      (keeps_rows w later shown.cut shown.at s.found s.more shown.cut.section.name s.legal s.reading s.at rows
      (subst (KeepsWhatWasRead w) s.is keeps))

  -- it may be published of what is read now, where that is of the same section and the same edit
  pub answer_now : (now : Shown) (r : Result Done OutOfMemory) → shown.cut.section.name ≡ now.cut.section.name → shown.at ≡ now.at
      → IfOk r (IsAnswerOf shown) → IfOk r (IsDoneNow journal now)
  answer_now now (Ok done) name at is =
      record { section = is.section ∙ name; at = is.at ∙ at; is_done = shown_done done is }
  answer_now now (Err e) name at is = tt

-- what is left of a section after its answer is taken in
pub taken_stays : (journal : List Entry) (old new : Ahead) → new.reading ≡ old.reading → new.done ≡ None → IsAhead journal old
    → IsAhead journal new
taken_stays journal old new reading gone a =
    record { shown = subst (WasShown journal) (sym reading) a.shown; right = rw gone tt }

-- ---- lists

pub ahead_on : (journal more after : List Entry) (all : List Ahead) → after ≡ journal ++ more → AreAhead journal all
    → AreAhead after all
ahead_on journal more after all is h = λ k d l.
    let a = h k d l in
    record { shown = shown_on journal more after _ is a.shown; right = a.right }

-- one reading more is to be answered
pub asked_more : (all : List Ahead) (a : Ahead) (rest old given : List Shown) → old ≡ a.reading ∷ rest
    → map (λ a. a.reading) all ++ old ≡ given → map (λ a. a.reading) (all ++ a ∷ []) ++ rest ≡ given
asked_more all a rest old given is h =
    ap (λ rs. rs ++ rest) (map-append (λ (a : Ahead). a.reading) all (a ∷ []))
    ∙ append_assoc (map (λ (a : Ahead). a.reading) all) (a.reading ∷ []) rest
    ∙ ap (λ rs. map (λ (a : Ahead). a.reading) all ++ rs) (sym is) ∙ h

-- a reading stays one where its cut and its number do
shown_same : (journal : List Entry) (shown later : Shown) → later.cut ≡ shown.cut → later.at ≡ shown.at → WasShown journal shown
    → WasShown journal later
shown_same journal shown later cut at s = record {
  found = s.found;
  more = s.more;
  is = s.is;
  legal = s.legal;
  reading = subst (λ c. IsReading s.found c.section.name c) (sym cut) s.reading;
  at = at ∙ s.at;
}

-- readings of sections that aren't current were read, and so were the answers that are worked out of them
pub are_ahead : (journal : List Entry) (below : ℕ) (readings : List Shown) (old new : List Ahead) → IsLegal journal
    → All (IsOpenReading journal below) readings → map (λ a. a.reading) old ≡ readings → AreWorkedOut old new
    → AreAhead journal new
are_ahead journal below readings old new legal wanted asked worked = λ k d l.
    let there : k < length old = omega (arith, l, worked.count) in
    let one = worked.each k d there in
    let place : get_or readings k d.reading ≡ (get_or old k d).reading =
    ap (λ rs. get_or rs k d.reading) (sym asked) ∙ get_or-map (λ (a : Ahead). a.reading) old k d d.reading there in
    let inside : k < length readings = omega (arith, there, ap length asked, length-map old (λ (a : Ahead). a.reading)) in
    let shown = subst (WasShown journal) place
    (shown_now journal _ legal (own_name journal _ _ (wanted k d.reading inside).reads)) in
    record { shown = shown_same journal (get_or old k d).reading (get_or new k d).reading one.cut one.at shown; right = one.right }
