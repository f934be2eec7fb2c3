-- Legal journals: their beginnings, their next entries, and the tables that they leave.
use Rattle.std.proofs.Common.{◌≡◌, ℕ, ◌<◌, ◌≤◌, List, [], ◌∷◌, ◌++◌, length, refl, sym, ap, ◌∙◌, subst, inl, inr, arith, append_assoc, length-append, ◌-◌}
use Rattle.std.specs.List.{cons_option}
use Rattle.std.proofs.lemmas.Bool.{cases_lt}
use Rattle.std.proofs.lemmas.List.{append-nil, take_all}
use Rattle.rail_model.specs.declared.edit.Edit.{Edit}
use Rattle.rail_model.specs.Rules.{after_edits, IsSound}
use Rattle.rail_model.proofs.Sound.{IsSound-after}
use Rattle.plan_model.specs.declared.journal.Act.{Act}
use Rattle.plan_model.specs.declared.journal.Act.TheVariants as act
use Rattle.plan_model.specs.declared.journal.Entry.{Entry}
use Rattle.plan_model.specs.Journal.{edit_of, last_number, tables_at, tables_of, done_by, script}
use Rattle.plan_model.specs.Legal.{MayFollow, IsNext, AllFollow, Opens, IsLegal, KeepsToScript}
use Rattle.plan_model.specs.JournalLaws.{BeginningIsLegal, BeginningIsJournal, EachIsNext, NextIsLegal, TablesAreSound}
use Rattle.plan_model.proofs.Growing.{opening-more, last_number-more, tables_at-more, tables_at-past, tables_of-more, done_by-more}

-- ---- beginnings and next entries

-- the entries before another list of entries follow, too
front_follows : (before xs ys : List Entry) → AllFollow before (xs ++ ys) → AllFollow before xs
front_follows before [] ys h = tt
front_follows before (e ∷ xs) ys h = (h.0, front_follows (before ++ e ∷ []) xs ys h.1)

-- and each one follows those before it
one_follows : (before xs : List Entry) (e : Entry) (ys : List Entry) → AllFollow before (xs ++ e ∷ ys) → IsNext (before ++ xs) e
one_follows before [] e ys h = subst (λ j. IsNext j e) (sym (append-nil before)) h.0
one_follows before (a ∷ xs) e ys h =
    subst (λ j. IsNext j e) (append_assoc before (a ∷ []) xs) (one_follows (before ++ a ∷ []) xs e ys h.1)

-- one more at the end
one_more_follows : (before xs : List Entry) (e : Entry) → AllFollow before xs → IsNext (before ++ xs) e → AllFollow before (xs ++ e ∷ [])
one_more_follows before [] e h next = (subst (λ j. IsNext j e) (append-nil before) next, tt)
one_more_follows before (a ∷ xs) e h next =
    (h.0, one_more_follows (before ++ a ∷ []) xs e h.1 (subst (λ j. IsNext j e) (sym (append_assoc before (a ∷ []) xs)) next))

pub beginning_is_legal : BeginningIsLegal
beginning_is_legal e xs ys h = (h.0, h.1, front_follows (e ∷ []) xs ys h.2)

pub each_is_next : EachIsNext
each_is_next [] e later some h = absurd (omega (arith, some))
each_is_next (a ∷ xs) e later some h = one_follows (a ∷ []) xs e later h.2

pub next_is_legal : NextIsLegal
next_is_legal [] e h next = absurd h
next_is_legal (a ∷ xs) e h next = (h.0, h.1, one_more_follows (a ∷ []) xs e h.2 next)

-- a legal journal has an entry
pub legal_has_one : (journal : List Entry) → IsLegal journal → 0 < length journal
legal_has_one [] h = absurd h
legal_has_one (e ∷ xs) h = omega arith

-- the same of a beginning that is any list with an entry
pub front_is_legal : (xs ys : List Entry) → 0 < length xs → IsLegal (xs ++ ys) → IsLegal xs
front_is_legal [] ys some h = absurd (omega (arith, some))
front_is_legal (e ∷ xs) ys some h = beginning_is_legal e xs ys h

-- ---- scripts

front_keeps : (xs ys : List Entry) (planner : ℕ) → 0 < length xs → KeepsToScript (xs ++ ys) planner → KeepsToScript xs planner
front_keeps xs ys planner some (left, is) = (
  done_by ys planner ++ left,
  ap (λ o. script o.scripts planner) (sym (opening-more xs ys some)) ∙ is
      ∙ ap (λ ts. ts ++ left) (done_by-more xs ys planner) ∙ append_assoc (done_by xs planner) (done_by ys planner) left,
)

pub beginning_is_journal : BeginningIsJournal
beginning_is_journal e xs ys h = record {
  legal = beginning_is_legal e xs ys h.legal;
  scripts = λ k d l. front_keeps (e ∷ xs) ys _ (omega arith) (h.scripts k d l);
}

-- ---- sound tables

-- an act that may follow leaves sound tables sound
sound_after_act : (journal : List Entry) (a : Act) → MayFollow journal a → IsSound (tables_of journal)
    → IsSound (after_edits (tables_of journal) (cons_option (edit_of a) []))
sound_after_act journal (act.Opened tables at scripts) h sound = absurd h
sound_after_act journal (act.Entered number) h sound = sound
sound_after_act journal (act.Edited planner at edit) h sound = IsSound-after (tables_of journal) edit sound h.1
sound_after_act journal (act.Refused planner rule edit) h sound = sound
sound_after_act journal (act.Asked planner section reply) h sound = sound
sound_after_act journal (act.Published section at answer) h sound = sound

abbrev AllSound : List Entry → Type 0
AllSound journal = (number : ℕ) → IsSound (tables_at journal number)

sound_now : (journal : List Entry) → AllSound journal → IsSound (tables_of journal)
sound_now journal sound = subst IsSound (tables_at-past journal (last_number journal) (omega arith)) (sound (last_number journal))

few_edits : (a : Act) → length (cons_option (edit_of a) []) ≤ 1
few_edits (act.Opened tables at scripts) = omega arith
few_edits (act.Entered number) = omega arith
few_edits (act.Edited planner at edit) = omega arith
few_edits (act.Refused planner rule edit) = omega arith
few_edits (act.Asked planner section reply) = omega arith
few_edits (act.Published section at answer) = omega arith

sound_next : (journal : List Entry) (e : Entry) → 0 < length journal → AllSound journal → IsNext journal e → AllSound (journal ++ e ∷ [])
sound_next journal e some sound next number =
    elim (cases_lt (last_number journal) number) [
      | inl past ↦
          let last : last_number (journal ++ e ∷ []) ≤ number =
          omega (arith, last_number-more journal (e ∷ []) some, few_edits e.act, past) in
          subst IsSound (sym (tables_at-past (journal ++ e ∷ []) number last ∙ tables_of-more journal (e ∷ []) some))
          (sound_after_act journal e.act next.follows (sound_now journal sound))
      | inr before ↦ subst IsSound (sym (tables_at-more journal (e ∷ []) number some before)) (sound number)
    ]

sound_along : (journal later : List Entry) → 0 < length journal → AllSound journal → AllFollow journal later → AllSound (journal ++ later)
sound_along journal [] some sound h = subst AllSound (sym (append-nil journal)) sound
sound_along journal (e ∷ later) some sound h =
    subst AllSound (append_assoc journal (e ∷ []) later)
    (sound_along (journal ++ e ∷ []) later (omega (arith, length-append journal (e ∷ []))) (sound_next journal e some sound h.0) h.1)

sound_first : (e : Entry) (a : Act) → e.act ≡ a → Opens a → (number : ℕ) → IsSound (tables_at (e ∷ []) number)
unfolding tables_at
sound_first e (act.Opened tables at scripts) is h number = rw (is, take_all {A = Edit} (number - at) [] (omega arith)) h
sound_first e (act.Entered pass) is h number = absurd h
sound_first e (act.Edited planner at edit) is h number = absurd h
sound_first e (act.Refused planner rule edit) is h number = absurd h
sound_first e (act.Asked planner section reply) is h number = absurd h
sound_first e (act.Published section at answer) is h number = absurd h

pub tables_are_sound : TablesAreSound
tables_are_sound [] h = absurd h
tables_are_sound (e ∷ later) h =
    let each = sound_along (e ∷ []) later (omega arith) (λ number. sound_first e e.act refl h.1 number) h.2 in
    record { now = sound_now (e ∷ later) each; each = each }
