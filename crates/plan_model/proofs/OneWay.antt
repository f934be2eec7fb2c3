-- By the journal that a call finds, it ends in one way.
use Rattle.std.proofs.Common.{◌≡◌, ℕ, ◌<◌, ◌≤◌, List, [], ◌∷◌, map, Option, Some, None, Result, Ok, Err, inl, inr, refl, sym, ap, ◌∙◌, subst, arith}
use Rattle.std.specs.Prelude.{All}
use Rattle.std.proofs.lemmas.Bool.{cases_lt}
use Rattle.std.proofs.lemmas.List.Elements.{All-head, All-tail}
use Rattle.rail_model.specs.declared.edit.Edit.{Edit}
use Rattle.rail_model.specs.declared.edit.Rule.{Rule}
use Rattle.plan_model.specs.declared.answer.Done.{Done}
use Rattle.plan_model.specs.declared.cut.CutRow.{CutRow}
use Rattle.plan_model.specs.declared.cut.Cut.{Cut}
use Rattle.plan_model.specs.declared.scripts.Task.{Task}
use Rattle.plan_model.specs.declared.scripts.Task.TheVariants as task
use Rattle.plan_model.specs.declared.journal.Entry.{Entry}
use Rattle.plan_model.specs.declared.journal.Reply.{Reply}
use Rattle.plan_model.specs.declared.journal.Reply.TheVariants as reply
use Rattle.plan_model.specs.declared.outcome.Asked.{Asked}
use Rattle.plan_model.specs.declared.outcome.Asked.TheVariants as asked
use Rattle.plan_model.specs.declared.outcome.Stepped.{Stepped}
use Rattle.plan_model.specs.declared.outcome.Stepped.TheVariants as stepped
use Rattle.plan_model.specs.declared.outcome.Next.{Next}
use Rattle.plan_model.specs.declared.outcome.Next.TheVariants as next
use Rattle.plan_model.specs.declared.outcome.NotTaken.{NotTaken}
use Rattle.plan_model.specs.declared.outcome.NotTaken.TheVariants as not_taken
use Rattle.plan_model.specs.Journal.{Publication, opening, last_number}
use Rattle.plan_model.specs.Legal.{Stays, IsLastChange, cut_at, row_at, IsUntouchedSince, IsStamp, IsReading, WasPublishedAt, IsTouchedSince, IsReply, IsLegal}
use Rattle.plan_model.specs.Cut.{stamped_row, stamped}
use Rattle.plan_model.specs.Reading.{Shown}
use Rattle.plan_model.specs.Outcome.{EditsTo, reply_of, GivesLast, AsksTo, next_task, StepsTo, section_name, IsNextReading, ReadsTo, IsDone, PublishesTo}
use Rattle.plan_model.specs.JournalLaws.{CallsEndInOneWay}
use Rattle.plan_model.proofs.Touching.{same_one, last_is_right, current_since}
use Rattle.plan_model.proofs.Stamps.{same_row}

-- ---- options and results

something : {X : Type 0} (x : X) (o : Option X) → o ≡ Some x → o ≡ None → ⊥
something x o is none = cc

-- ---- last changes

module _ {X : Type 0} (value : ℕ → X) (first last : ℕ) where
  -- none comes after another one
  not_after : (a b : ℕ) → IsLastChange value first last a → IsLastChange value first last b → a < b → ⊥
  not_after a b one other less =
      elim other.changes [
        | inl is ↦ omega (arith, one.from_first)
        | inr changes ↦ changes (one.stays.each b less other.to_last)
      ]

  last_change_one : (a b : ℕ) → IsLastChange value first last a → IsLastChange value first last b → a ≡ b
  last_change_one a b one other =
      elim (cases_lt a b) [
        | inl less ↦ absurd (not_after a b one other less)
        | inr rest ↦ elim (cases_lt b a) [
          | inl less ↦ absurd (not_after b a other one less)
          | inr back ↦ omega arith
        ]
      ]

  -- nothing stays from before the last change on
  no_longer : (at by : ℕ) → first ≤ at → at < by → IsLastChange value first last by → Stays value at last → ⊥
  no_longer at by from less change stays =
      elim change.changes [
        | inl is ↦ omega arith
        | inr changes ↦ changes (stays.each by less change.to_last)
      ]

-- ---- replies

module _ (journal : List Entry) (section : List ℕ) where
  published_one : (a b : ℕ) → WasPublishedAt journal section a → WasPublishedAt journal section b → a ≡ b
  published_one a b one other =
      let p : Publication = record { at = a; answer = one.0 } in
      let q : Publication = record { at = b; answer = other.0 } in
      ap (λ (p : Publication). p.at) (same_one p q (sym one.1 ∙ other.1))

  published_after_opening : (a : ℕ) → IsLegal journal → WasPublishedAt journal section a → (opening journal).at ≤ a
  published_after_opening a legal was =
      (last_is_right journal section legal (record { at = a; answer = was.0 }) was.1).from_opening

  stale_not_ready : (a b by : ℕ) → IsLegal journal → IsReply journal section (reply.Stale a by) → IsReply journal section (reply.Ready b) → ⊥
  stale_not_ready a b by legal stale ready =
      let same = published_one b a ready.1.published stale.1 in
      no_longer (cut_at journal section) (opening journal).at (last_number journal) a by
      (published_after_opening a legal stale.1) stale.2.later stale.2.last
      (subst (λ n. Stays (cut_at journal section) n (last_number journal)) same ready.1.untouched)

  pub reply_one : (one other : Reply) → IsLegal journal → IsReply journal section one → IsReply journal section other → one ≡ other
  reply_one reply.Unknown reply.Unknown legal h k = refl
  reply_one reply.Unknown reply.NotYet legal h k = absurd (k.0 h)
  reply_one reply.Unknown (reply.Stale at by) legal h k = absurd (k.0 h)
  reply_one reply.Unknown (reply.Ready at) legal h k = absurd (k.0 h)
  reply_one reply.NotYet reply.Unknown legal h k = absurd (h.0 k)
  reply_one reply.NotYet reply.NotYet legal h k = refl
  reply_one reply.NotYet (reply.Stale at by) legal h k = absurd (something _ _ k.1.1 h.1)
  reply_one reply.NotYet (reply.Ready at) legal h k = absurd (something _ _ k.1.published.1 h.1)
  reply_one (reply.Stale at by) reply.Unknown legal h k = absurd (h.0 k)
  reply_one (reply.Stale at by) reply.NotYet legal h k = absurd (something _ _ h.1.1 k.1)
  reply_one (reply.Stale at by) (reply.Stale other_at other_by) legal h k =
      let same_at = published_one at other_at h.1 k.1 in
      let same_by = last_change_one (cut_at journal section) (opening journal).at (last_number journal) by other_by h.2.last k.2.last in
      rw (same_at, same_by) refl
  reply_one (reply.Stale at by) (reply.Ready other) legal h k = absurd (stale_not_ready at other by legal h k)
  reply_one (reply.Ready at) reply.Unknown legal h k = absurd (h.0 k)
  reply_one (reply.Ready at) reply.NotYet legal h k = absurd (something _ _ h.1.published.1 k.1)
  reply_one (reply.Ready at) (reply.Stale other by) legal h k = absurd (stale_not_ready other at by legal k h)
  reply_one (reply.Ready at) (reply.Ready other) legal h k = rw (published_one at other h.1.published k.1.published) refl

-- answers that are ready are equal, where their replies and the last publication are
asked_one : (found : List Entry) (section : List ℕ) (one other : Asked) → reply_of one ≡ reply_of other
    → GivesLast found section one → GivesLast found section other → one ≡ other
asked_one found section (asked.Ready at answer) (asked.Ready at2 answer2) same h k =
    let p : Publication = record { at = at; answer = answer } in
    let q : Publication = record { at = at2; answer = answer2 } in
    ap (λ (p : Publication). asked.Ready p.at p.answer) (same_one p q (sym h ∙ k))
asked_one found section (asked.Ready at answer) (asked.Stale at2 by) same h k = absurd (cc)
asked_one found section (asked.Ready at answer) asked.NotYet same h k = absurd (cc)
asked_one found section (asked.Ready at answer) asked.Unknown same h k = absurd (cc)
asked_one found section (asked.Stale at by) (asked.Ready at2 answer) same h k = absurd (cc)
asked_one found section (asked.Stale at by) (asked.Stale at2 by2) same h k = cc
asked_one found section (asked.Stale at by) asked.NotYet same h k = absurd (cc)
asked_one found section (asked.Stale at by) asked.Unknown same h k = absurd (cc)
asked_one found section asked.NotYet (asked.Ready at answer) same h k = absurd (cc)
asked_one found section asked.NotYet (asked.Stale at by) same h k = absurd (cc)
asked_one found section asked.NotYet asked.NotYet same h k = refl
asked_one found section asked.NotYet asked.Unknown same h k = absurd (cc)
asked_one found section asked.Unknown (asked.Ready at answer) same h k = absurd (cc)
asked_one found section asked.Unknown (asked.Stale at by) same h k = absurd (cc)
asked_one found section asked.Unknown asked.NotYet same h k = absurd (cc)
asked_one found section asked.Unknown asked.Unknown same h k = refl

ask_one : (found : List Entry) → IsLegal found → (pass planner : ℕ) (section : List ℕ) (one other : Asked) (after later : List Entry)
    → AsksTo pass planner section found one after → AsksTo pass planner section found other later → one ≡ other
ask_one found legal pass planner section one other after later h k =
    asked_one found section one other
    (reply_one found section (reply_of one) (reply_of other) legal h.adds.next.follows k.adds.next.follows) h.gives k.gives

-- ---- edits

edit_one : (found : List Entry) (pass planner : ℕ) (edit : Edit) (one other : Result ℕ Rule) (after later : List Entry)
    → EditsTo pass planner edit found one after → EditsTo pass planner edit found other later → one ≡ other
edit_one found pass planner edit (Ok a) (Ok b) after later h k = rw (h.next.follows.0, k.next.follows.0) refl
edit_one found pass planner edit (Ok a) (Err rule) after later h k = absurd (something rule _ k.next.follows h.next.follows.1)
edit_one found pass planner edit (Err rule) (Ok b) after later h k = absurd (something rule _ h.next.follows k.next.follows.1)
edit_one found pass planner edit (Err rule) (Err other) after later h k =
    ap (λ r. Err r) (same_one rule other (sym h.next.follows ∙ k.next.follows))

-- ---- readings

module _ (found : List Entry) (section : List ℕ) where
  row_one : (row other : CutRow) → stamped_row 0 row ≡ stamped_row 0 other → IsStamp found section row
      → IsStamp found section other → row ≡ other
  row_one row other same h k =
      let name : other.name ≡ row.name = ap (λ (r : CutRow). r.name) (sym same) in
      let stamp = subst (λ n. IsLastChange (row_at found section n) (opening found).at (last_number found) other.stamp) name k in
      same_row row other
      (last_change_one (row_at found section row.name) (opening found).at (last_number found) row.stamp other.stamp h stamp)
      same

  rows_one : (rows others : List CutRow) → map (stamped_row 0) rows ≡ map (stamped_row 0) others
      → All (IsStamp found section) rows → All (IsStamp found section) others → rows ≡ others
  rows_one [] [] same h k = refl
  rows_one [] (s ∷ others) same h k = absurd (cc)
  rows_one (r ∷ rows) [] same h k = absurd (cc)
  rows_one (r ∷ rows) (s ∷ others) same h k =
      let first : stamped_row 0 r ≡ stamped_row 0 s = cc in
      let rest : map (stamped_row 0) rows ≡ map (stamped_row 0) others = cc in
      let row = row_one r s first (All-head (IsStamp found section) r rows h) (All-head (IsStamp found section) s others k) in
      let more = rows_one rows others rest (All-tail (IsStamp found section) r rows h) (All-tail (IsStamp found section) s others k) in
      λ i. row i ∷ more i

  -- two readings of a section are equal, with their stamps
  cut_one : (one other : Cut) → IsReading found section one → IsReading found section other → one ≡ other
  cut_one one other h k =
      let same = same_one (stamped 0 one) (stamped 0 other) (sym h.value ∙ k.value) in
      let rows = rows_one one.rows other.rows (ap (λ (c : Cut). c.rows) same) h.stamps k.stamps in
      λ i. record { section = (same i).section; connections = (same i).connections; rows = rows i }

module _ (found : List Entry) (share of : ℕ) where
  number_one : (one other : Shown) (h : IsNextReading share of found one) (k : IsNextReading share of found other)
      → h.number ≡ k.number
  number_one one other h k =
      elim (cases_lt h.number k.number) [
        | inl less ↦ absurd (h.wanted (k.first h.number less h.of_share))
        | inr rest ↦ elim (cases_lt k.number h.number) [
          | inl less ↦ absurd (k.wanted (h.first k.number less k.of_share))
          | inr back ↦ omega arith
        ]
      ]

  shown_one : (one other : Shown) → IsNextReading share of found one → IsNextReading share of found other → one ≡ other
  shown_one one other h k =
      let number = number_one one other h k in
      let reading = subst (λ n. IsReading found (section_name found n) other.cut) (sym number) k.reading in
      let cut = cut_one found (section_name found h.number) one.cut other.cut h.reading reading in
      let at = h.at ∙ sym k.at in
      let taken = h.untaken ∙ sym k.untaken in
      λ i. record { cut = cut i; at = at i; taken = taken i }

  read_one : (one other : Next Shown) (after later : List Entry)
      → ReadsTo (λ shown. shown) share of found one after → ReadsTo (λ shown. shown) share of found other later
      → one ≡ other
  read_one (next.Reading one) (next.Reading other) after later h k =
      ap (λ (s : Shown). next.Reading s) (shown_one one other h.1 k.1)
  read_one (next.Reading one) (next.Idle left) after later h k = absurd (h.1.wanted (k.1 h.1.number h.1.of_share))
  read_one (next.Idle left) (next.Reading other) after later h k = absurd (k.1.wanted (h.1 k.1.number k.1.of_share))
  read_one (next.Idle left) (next.Idle other) after later h k = rw (h.2, k.2) refl

-- ---- publications

module _ (found : List Entry) (pass : ℕ) (done : Done) (is_done : IsDone found done) where
  stale_alone : (by : ℕ) → IsTouchedSince found done.section done.at by → IsUntouchedSince found done.section done.at → ⊥
  stale_alone by touched untouched =
      no_longer (cut_at found done.section) (opening found).at (last_number found) done.at by is_done.from_opening
      touched.later touched.last untouched

  publish_one : (one other : Result (Unit {0}) NotTaken) (after later : List Entry)
      → PublishesTo pass done found one after → PublishesTo pass done found other later → one ≡ other
  publish_one (Ok u) (Ok v) after later h k = refl
  publish_one (Ok u) (Err (not_taken.Stale by)) after later h k = absurd (stale_alone by k.1 h.next.follows.untouched)
  publish_one (Ok u) (Err (not_taken.Current at)) after later h k = absurd (h.next.follows.wanted (current_since found done.section at k.1.1))
  publish_one (Err (not_taken.Stale by)) (Ok v) after later h k = absurd (stale_alone by h.1 k.next.follows.untouched)
  publish_one (Err (not_taken.Stale by)) (Err (not_taken.Stale by2)) after later h k =
      rw (last_change_one (cut_at found done.section) (opening found).at (last_number found) by by2 h.1.last k.1.last) refl
  publish_one (Err (not_taken.Stale by)) (Err (not_taken.Current at)) after later h k = absurd (stale_alone by h.1 k.1.0)
  publish_one (Err (not_taken.Current at)) (Ok v) after later h k = absurd (k.next.follows.wanted (current_since found done.section at h.1.1))
  publish_one (Err (not_taken.Current at)) (Err (not_taken.Stale by)) after later h k = absurd (stale_alone by k.1 h.1.0)
  publish_one (Err (not_taken.Current at)) (Err (not_taken.Current at2)) after later h k =
      rw (published_one found done.section at at2 h.1.1.published k.1.1.published) refl

-- ---- steps

same_edit : (a b : Edit) → task.Edit a ≡ task.Edit b → a ≡ b
same_edit a b e = cc

same_section : (a b : List ℕ) → task.Ask a ≡ task.Ask b → a ≡ b
same_section a b e = cc

edit_or_ask : (o : Option Task) (a : Edit) (b : List ℕ) → o ≡ Some (task.Edit a) → o ≡ Some (task.Ask b) → ⊥
edit_or_ask o a b e f = cc

module _ (found : List Entry) (pass planner : ℕ) where
  -- a planner's next task is one edit, which ends in one way
  edits_one : (a b : Edit) (one other : Result ℕ Rule) (after later : List Entry)
      → next_task found planner ≡ Some (task.Edit a) → next_task found planner ≡ Some (task.Edit b)
      → EditsTo pass planner a found one after → EditsTo pass planner b found other later → one ≡ other
  edits_one a b one other after later at bt h k =
      let same : b ≡ a = same_edit b a (same_one (task.Edit b) (task.Edit a) (sym bt ∙ at)) in
      edit_one found pass planner a one other after later h (subst (λ e. EditsTo pass planner e found other later) same k)

  asks_one : IsLegal found → (a b : List ℕ) (one other : Asked) (after later : List Entry)
      → next_task found planner ≡ Some (task.Ask a) → next_task found planner ≡ Some (task.Ask b)
      → AsksTo pass planner a found one after → AsksTo pass planner b found other later → one ≡ other
  asks_one legal a b one other after later at bt h k =
      let same : b ≡ a = same_section b a (same_one (task.Ask b) (task.Ask a) (sym bt ∙ at)) in
      ask_one found legal pass planner a one other after later h (subst (λ s. AsksTo pass planner s found other later) same k)

  step_one : IsLegal found → (one other : Stepped) (after later : List Entry)
      → StepsTo pass planner found one after → StepsTo pass planner found other later → one ≡ other
  step_one legal (stepped.Edited a) (stepped.Edited b) after later h k =
      let same = edits_one h.edit k.edit (Ok a) (Ok b) after later h.next k.next h.edits k.edits in cc
  step_one legal (stepped.Edited a) (stepped.Refused rule) after later h k =
      let same = edits_one h.edit k.edit (Ok a) (Err rule) after later h.next k.next h.edits k.edits in absurd (cc)
  step_one legal (stepped.Edited a) (stepped.Asked b) after later h k = absurd (edit_or_ask _ h.edit k.section h.next k.next)
  step_one legal (stepped.Edited a) stepped.Ended after later h k = absurd (something _ _ h.next k.0)
  step_one legal (stepped.Refused rule) (stepped.Edited b) after later h k =
      let same = edits_one h.edit k.edit (Err rule) (Ok b) after later h.next k.next h.edits k.edits in absurd (cc)
  step_one legal (stepped.Refused rule) (stepped.Refused other) after later h k =
      let same = edits_one h.edit k.edit (Err rule) (Err other) after later h.next k.next h.edits k.edits in cc
  step_one legal (stepped.Refused rule) (stepped.Asked b) after later h k = absurd (edit_or_ask _ h.edit k.section h.next k.next)
  step_one legal (stepped.Refused rule) stepped.Ended after later h k = absurd (something _ _ h.next k.0)
  step_one legal (stepped.Asked a) (stepped.Edited b) after later h k = absurd (edit_or_ask _ k.edit h.section k.next h.next)
  step_one legal (stepped.Asked a) (stepped.Refused rule) after later h k = absurd (edit_or_ask _ k.edit h.section k.next h.next)
  step_one legal (stepped.Asked a) (stepped.Asked b) after later h k =
      ap (λ a. stepped.Asked a) (asks_one legal h.section k.section a b after later h.next k.next h.asks k.asks)
  step_one legal (stepped.Asked a) stepped.Ended after later h k = absurd (something _ _ h.next k.0)
  step_one legal stepped.Ended (stepped.Edited b) after later h k = absurd (something _ _ k.next h.0)
  step_one legal stepped.Ended (stepped.Refused rule) after later h k = absurd (something _ _ k.next h.0)
  step_one legal stepped.Ended (stepped.Asked b) after later h k = absurd (something _ _ k.next h.0)
  step_one legal stepped.Ended stepped.Ended after later h k = refl

pub calls_end_in_one_way : CallsEndInOneWay
calls_end_in_one_way found legal = record {
  edit = edit_one found;
  ask = ask_one found legal;
  step = λ pass planner. step_one found pass planner legal;
  read_next = read_one found;
  publish = λ pass done one other after later is_done. publish_one found pass done is_done one other after later;
}
