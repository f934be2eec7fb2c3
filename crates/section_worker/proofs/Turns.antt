-- What a turn does, put together from its two calls.
use Rattle.std.proofs.Common.{◌≡◌, ℕ, ◌<◌, List, [], ◌++◌, length, Result, Ok, Err, refl, sym, ap, ◌∙◌, subst, inr, arith, append_assoc, append-nil}
use Rattle.std.specs.Prelude.{All}
use Rattle.std.proofs.lemmas.List.Elements.{All-nil, All-append}
use Rattle.rail_model.specs.declared.memory.OutOfMemory.{OutOfMemory}
use Rattle.plan_model.specs.declared.answer.Answer.{Answer}
use Rattle.plan_model.specs.declared.cut.Cut.{Cut}
use Rattle.plan_model.specs.declared.journal.Entry.{Entry}
use Rattle.plan_model.specs.declared.outcome.Next.{Next}
use Rattle.plan_model.specs.declared.outcome.Next.TheVariants as next
use Rattle.plan_model.specs.declared.outcome.NotTaken.{NotTaken}
use Rattle.plan_model.specs.declared.outcome.NotTaken.TheVariants as not_taken
use Rattle.plan_model.specs.Reading.{Shown}
use Rattle.plan_model.specs.Journal.{last_number, tasks_left}
use Rattle.plan_model.specs.declared.journal.Act.TheVariants as act
use Rattle.plan_model.specs.Legal.{IsTouchedSince, IsCurrentSince, IsCurrent}
use Rattle.plan_model.specs.Call.{IsOthers, GoesOn, AddsOwn}
use Rattle.plan_model.specs.Board.{Access, IsAccess, IsCall, KeepsCounts, NotesTaken}
use Rattle.plan_model.specs.Outcome.{AddsEntry, ShareIsCurrent, IsNextReading, ReadsTo, PublishesTo}
use Rattle.plan_model.proofs.Growing.{last_number-more}
use Rattle.plan_model.proofs.Legality.{legal_has_one}
use Rattle.section_worker.specs.declared.worker.Turned.{Turned}
use Rattle.section_worker.specs.declared.worker.Turned.TheVariants as turned
use Rattle.section_worker.specs.Keeping.{Working, kept_for, uses_missing, KeepsWhatWasRead, KeepsRows, Forgets}
use Rattle.section_worker.specs.Turn.{Reads, TurnsOut, done_of, EndsAs, Answers, Fails, WorksTo, Rests, TurnsTo, turned_of}
use Rattle.plan_model.proofs.Adding.{publish_adds}
use Rattle.plan_repair.specs.Kept.{TakesAtMost}
use Rattle.plan_model.proofs.Readings.{reading_name}
use Rattle.section_worker.proofs.Keeps.{still_read, keeps_rows}
use Rattle.section_worker.proofs.Past.{published_past}

pub goes_nowhere : (numbers : List ℕ) (seen : List Entry) → GoesOn numbers seen seen
goes_nowhere numbers seen = record { more = []; is = sym (append-nil seen); others = All-nil (IsOthers numbers) }

pub goes_farther : (numbers : List ℕ) (seen found later : List Entry) → GoesOn numbers seen found
    → GoesOn numbers found later → GoesOn numbers seen later
goes_farther numbers seen found later g h = record {
  more = g.more ++ h.more;
  is = h.is ∙ ap (λ j. j ++ h.more) g.is ∙ append_assoc seen g.more h.more;
  others = All-append (IsOthers numbers) g.more h.more g.others h.others;
}

-- ---- what is read

pub reads_here : (w : Working) (a : Access) (shown : Shown) → IsAccess a → IsNextReading w.share w.of a.seen shown
    → Reads w a
reads_here w a shown access next = record {
  found = a.seen;
  goes_on = goes_nowhere a.numbers a.seen;
  is_journal = access.seen;
  cut = shown.cut;
  at = shown.at;
  next = record {
    number = next.number;
    of_share = next.of_share;
    wanted = next.wanted;
    first = next.first;
    reading = next.reading;
    at = next.at;
    untaken = refl;
  };
  own = record {
    number = next.number;
    of_share = next.of_share;
    name = reading_name a.seen _ shown.cut next.reading;
  };
  since = omega (arith, next.at);
}

-- a turn that begins later, after entries of others
module _ (w later : Working) (old mid new : Access) (g : GoesOn old.numbers old.seen mid.seen) (access : IsAccess old)
    (pass : mid.pass ≡ old.pass) (numbers : mid.numbers ≡ old.numbers) where
  reads_later : Reads w mid → Reads w old
  reads_later r = record {
    found = r.found;
    goes_on = goes_farther old.numbers old.seen mid.seen r.found g
        (subst (λ ns. GoesOn ns mid.seen r.found) numbers r.goes_on);
    is_journal = r.is_journal;
    cut = r.cut;
    at = r.at;
    next = r.next;
    own = r.own;
    since = omega (
      arith,
      r.since,
      ap last_number g.is,
      last_number-more old.seen g.more
          (legal_has_one old.seen access.seen.legal),
    );
  }

  ends_later : (r : Reads w mid) (t : Turned) → EndsAs r new.seen t → EndsAs (reads_later r) new.seen t
  unfolding reads_later
  ends_later r (turned.Published section at) e = record {
    of_section = e.of_section;
    at_reading = e.at_reading;
    before = e.before;
    goes_on = subst (λ ns. GoesOn ns r.found e.before) numbers e.goes_on;
    answer = e.answer;
    adds = subst (λ p. AddsEntry p (act.Published section at e.answer) e.before new.seen) pass e.adds;
  }
  ends_later r (turned.Stale section at by) e = record {
    of_section = e.of_section;
    at_reading = e.at_reading;
    goes_on = subst (λ ns. GoesOn ns r.found new.seen) numbers e.goes_on;
    touched = e.touched;
  }
  ends_later r (turned.Current section last) e = record {
    of_section = e.of_section;
    goes_on = record {
      more = e.goes_on.more;
      is = e.goes_on.is;
      others = subst (λ ns. All (IsOthers ns) e.goes_on.more) numbers e.goes_on.others;
    };
    current = e.current;
    by_others = e.by_others;
  }
  ends_later r (turned.Idle left) e = absurd e

  answers_later : (t : Turned) → Answers w later mid new t → Answers w later old new t
  unfolding reads_later
  answers_later t a = record {
    reads = reads_later a.reads;
    ends = ends_later a.reads t a.ends;
    keeps = a.keeps;
    handed = a.handed;
  }

  fails_later : Fails w later mid new → Fails w later old new
  unfolding reads_later
  fails_later f = record {
    goes_on = goes_farther old.numbers old.seen mid.seen new.seen g
        (subst (λ ns. GoesOn ns mid.seen new.seen) numbers f.goes_on);
    reads = reads_later f.reads;
    forgets = f.forgets;
  }

  pub turns_later : (r : Result Turned OutOfMemory) → WorksTo w later mid new r → TurnsTo w later old new r
  turns_later (Ok (turned.Published section at)) h = answers_later _ h
  turns_later (Ok (turned.Stale section at by)) h = answers_later _ h
  turns_later (Ok (turned.Current section at)) h = answers_later _ h
  turns_later (Ok (turned.Idle left)) h = absurd h.ends
  turns_later (Err e) h = inr (fails_later h)

-- ---- what comes of a publication

module _ {w : Working} {a : Access} (reads : Reads w a) (found seen : List Entry) (shown : Shown) (answer : Answer)
    (section : shown.cut.section.name ≡ reads.cut.section.name) (at : shown.at ≡ reads.at) where
  pub ends_as : (p : Result (Unit {0}) NotTaken) → 0 < length reads.found
      → (IsCurrent reads.found shown.cut.section.name → ⊥) → GoesOn a.numbers reads.found found
      → PublishesTo a.pass (done_of shown answer) found p seen
      → EndsAs reads seen (turned_of shown.cut.section.name shown.at p)
  ends_as (Ok u) some wanted g h = record {
    of_section = section;
    at_reading = at;
    before = found;
    goes_on = g;
    answer = answer;
    adds = h;
  }
  ends_as (Err (not_taken.Stale by)) some wanted g h = record {
    of_section = section;
    at_reading = at;
    goes_on = subst (GoesOn a.numbers reads.found) (sym h.0) g;
    touched = subst (λ j. IsTouchedSince j shown.cut.section.name shown.at by) (sym h.0) h.1;
  }
  ends_as (Err (not_taken.Current last)) some wanted g h =
      let name = shown.cut.section.name in
      let later : GoesOn a.numbers reads.found seen = subst (GoesOn a.numbers reads.found) (sym h.0) g in
      let current : IsCurrentSince seen name last = subst (λ j. IsCurrentSince j name last) (sym h.0) h.1.1 in
      record {
        of_section = section;
        goes_on = later;
        current = current;
        by_others = published_past reads.found later.more name last some wanted
            (subst (λ j. IsCurrentSince j name last) later.is current);
      }

-- what is seen after a call goes on from what was seen before
pub seen_more : (pass : ℕ) (numbers : List ℕ) (start found seen : List Entry) → GoesOn numbers start found
    → AddsOwn pass found seen
    → (more : List Entry) × (seen ≡ start ++ more)
seen_more pass numbers start found seen g a =
    (g.more ++ a.own, a.is ∙ ap (λ j. j ++ a.own) g.is ∙ append_assoc start g.more a.own)

-- ---- a turn with a reading

module _ (w later : Working) (a new : Access) (shown : Shown) (access : IsAccess a)
    (next : IsNextReading w.share w.of a.seen shown) where
  -- it finds no memory, and nothing is kept of the section
  pub fails : GoesOn a.numbers a.seen new.seen → Forgets shown.cut.section.name w later → Fails w later a new
  unfolding reads_here
  fails g f = record { goes_on = g; reads = reads_here w a shown access next; forgets = f }

  not_current : IsCurrent a.seen shown.cut.section.name → ⊥
  not_current h = next.wanted (subst (IsCurrent a.seen) (reading_name a.seen _ shown.cut next.reading) h)

  module _ (after : Shown) (answer : Answer) (takes : TakesAtMost
      (uses_missing (kept_for w shown.cut.section.name) shown.cut) shown after) where
    -- it comes to its publication
    pub answered : (t : Turned) → KeepsRows shown.cut shown.at w later
        → IsCall (λ found seen. TurnsOut a.pass (done_of after answer) found t seen) a new
        → NotesTaken after.taken a new → Answers w later a new t
    unfolding reads_here
    answered t keeps call notes =
        let out = call.does in
        let wanted : IsCurrent a.seen after.cut.section.name → ⊥ =
        subst (λ (c : Cut). IsCurrent a.seen c.section.name → ⊥) (sym takes.cut) not_current in
        let reads = reads_here w a shown access next in
        record {
          reads = reads;
          ends = subst (EndsAs reads new.seen) (sym out.1)
              (ends_as reads call.found new.seen after answer (ap (λ (c : Cut). c.section.name) takes.cut) takes.at out.0
              (legal_has_one a.seen access.seen.legal) wanted call.goes_on out.2);
          keeps = keeps;
          handed = omega (arith, notes.handed, takes.taken, next.untaken);
        }

    -- what is kept then was read
    pub kept_then : (t : Turned) → KeepsRows shown.cut shown.at w later → KeepsWhatWasRead w a.seen
        → IsCall (λ found seen. TurnsOut a.pass (done_of after answer) found t seen) a new
        → KeepsWhatWasRead later new.seen
    kept_then t keeps kept call =
        let m = seen_more a.pass a.numbers a.seen call.found new.seen call.goes_on
        (publish_adds a.pass call.found new.seen (done_of after answer) call.does.0 call.does.2) in
        subst (KeepsWhatWasRead later) (sym m.1)
        (keeps_rows w later shown.cut shown.at a.seen m.0 _ access.seen.legal next.reading next.at keeps
        (λ section h is. still_read a.seen m.0 section h (kept section h is)))

-- a call that adds nothing: what is seen then is what it found
pub seen_found : (Does : List Entry → List Entry → Type 0) (old new : Access) (call : IsCall Does old new)
    → new.seen ≡ call.found → GoesOn old.numbers old.seen new.seen
seen_found Does old new call same = subst (GoesOn old.numbers old.seen) (sym same) call.goes_on

-- and so it is of a call that reads
pub seen_read : {R : Type 0} (shown : R → Shown) (share of : ℕ) (n : Next R) (old new : Access)
    → IsCall (λ found seen. ReadsTo shown share of found n seen) old new → GoesOn old.numbers old.seen new.seen
seen_read shown share of n old new call =
    seen_found (λ found seen. ReadsTo shown share of found n seen) old new call
    (elim n as (λ m. ReadsTo shown share of call.found m new.seen → new.seen ≡ call.found) [
      | next.Reading r ↦ λ h. h.0
      | next.Idle left ↦ λ h. h.0
    ] call.does)

-- all sections of the share are current
pub rests : {R : Type 0} (shown : R → Shown) (w : Working) (left : ℕ) (old new : Access)
    → IsCall (λ found seen. ReadsTo shown w.share w.of found (next.Idle left) seen) old new → KeepsCounts old new
    → Rests w w old new left
rests shown w left old new call counts =
    let same = call.does.0 in
    record {
      nothing = record {
        goes_on = subst (GoesOn old.numbers old.seen) (sym same) call.goes_on;
        counts = counts;
        keeps = refl;
      };
      current = subst (ShareIsCurrent w.share w.of) (sym same) call.does.1;
      left_is = call.does.2 ∙ ap tasks_left (sym same);
    }
