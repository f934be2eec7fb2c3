-- What touches a section, what leaves it current, and what its published answer says.
use Rattle.std.proofs.Common.{◌≡◌, ℕ, ◌<◌, ◌≤◌, List, [], ◌∷◌, ◌++◌, length, Option, Some, None, inl, inr, refl, sym, ap, ◌∙◌, subst, arith, append_assoc, length-append}
use Rattle.std.specs.List.{last_or, cons_option}
use Rattle.std.proofs.lemmas.Bool.{cases_Bool}
use Rattle.std.proofs.lemmas.List.{append-nil}
use Rattle.rail_model.specs.Name.{is_same}
use Rattle.rail_model.specs.Tables.{section_at}
use Rattle.rail_model.proofs.NameOrder.{same_name}
use Rattle.plan_model.specs.declared.answer.Answer.{Answer}
use Rattle.plan_model.specs.declared.journal.Act.{Act}
use Rattle.plan_model.specs.declared.journal.Act.TheVariants as act
use Rattle.plan_model.specs.declared.journal.Entry.{Entry}
use Rattle.plan_model.specs.Journal.{Publication, last_number, publication_of, last_publication, edits, tables_of}
use Rattle.plan_model.specs.Legal.{Stays, cut_at, Touches, IsCurrent, IsAnswerAt, IsCurrentSince, MayFollow, IsNext, AllFollow, Opens, IsLegal}
use Rattle.plan_model.specs.Outcome.{section_name, ShareIsCurrent}
use Rattle.plan_model.specs.JournalLaws.{CurrentStays, CurrentIsAnswered}
use Rattle.plan_model.proofs.Growing.{others_keep_tables, opening-more, last_number-more, cut_at-more, last_publication-more}
use Rattle.plan_model.proofs.Changing.{stays_at, stays_on, stays_within, stays_too, same_from}

pub same_one : {X : Type 0} (a b : X) → Some a ≡ Some b → a ≡ b
same_one a b e = cc

-- a section that an edit after its last publication touches is not current
pub touched_since : (journal : List Entry) (section : List ℕ) (p : Publication) (number : ℕ)
    → last_publication journal section ≡ Some p → p.at < number → number ≤ last_number journal
    → Touches journal section number → IsCurrent journal section → ⊥
touched_since journal section p number last after to touches current =
    let same : current.publication ≡ p = same_one current.publication p (sym current.last ∙ last) in
    touches (current.untouched.each number (subst (λ q. q.at < number) (sym same) after) to)

-- a longer journal has a last edit that is no earlier
later_last : (journal more : List Entry) → 0 < length journal → last_number journal ≤ last_number (journal ++ more)
later_last journal more some = omega (arith, last_number-more journal more some)

-- what of a section stays in a journal stays in a longer one, and the other way round
stays_longer : (journal more : List Entry) (section : List ℕ) (from to : ℕ) → 0 < length journal → to ≤ last_number journal
    → Stays (cut_at journal section) from to → Stays (cut_at (journal ++ more) section) from to
stays_longer journal more section from to some within =
    stays_too (cut_at journal section) (cut_at (journal ++ more) section) from to
    (λ n below. cut_at-more journal more section n some (omega (arith, below, within)))

stays_shorter : (journal more : List Entry) (section : List ℕ) (from to : ℕ) → 0 < length journal → to ≤ last_number journal
    → Stays (cut_at (journal ++ more) section) from to → Stays (cut_at journal section) from to
stays_shorter journal more section from to some within =
    stays_too (cut_at (journal ++ more) section) (cut_at journal section) from to
    (λ n below. sym (cut_at-more journal more section n some (omega (arith, below, within))))

-- ---- current

-- an act that publishes the section is not made of one that is current
publishes_none : (journal : List Entry) (section : List ℕ) (a : Act) → MayFollow journal a → IsCurrent journal section
    → publication_of section a ≡ None
publishes_none journal section (act.Opened tables at scripts) h current = refl
publishes_none journal section (act.Entered number) h current = refl
publishes_none journal section (act.Edited planner at edit) h current = refl
publishes_none journal section (act.Refused planner rule edit) h current = refl
publishes_none journal section (act.Asked planner asked reply) h current = refl
publishes_none journal section (act.Published other at answer) h current =
    elim (cases_Bool (is_same other section)) [
      | inl same ↦ absurd (h.wanted (subst (IsCurrent journal) (sym (same_name other section same)) current))
      | inr apart ↦ rw apart refl
    ]

current_next : (journal : List Entry) (e : Entry) (section : List ℕ) → 0 < length journal → IsNext journal e
    → IsCurrent journal section
    → Stays (cut_at (journal ++ e ∷ []) section) (last_number journal) (last_number (journal ++ e ∷ []))
    → IsCurrent (journal ++ e ∷ []) section
current_next journal e section some next current stays = record {
  publication = current.publication;
  last =
      last_publication-more journal (e ∷ []) section
      ∙ rw (publishes_none journal section e.act next.follows current) current.last;
  untouched =
      stays_on (cut_at (journal ++ e ∷ []) section) current.publication.at (last_number journal) (last_number (journal ++ e ∷ []))
      (stays_longer journal (e ∷ []) section current.publication.at (last_number journal) some (omega arith) current.untouched)
      stays;
}

current_along : (journal later : List Entry) (section : List ℕ) → 0 < length journal → AllFollow journal later
    → IsCurrent journal section
    → Stays (cut_at (journal ++ later) section) (last_number journal) (last_number (journal ++ later))
    → IsCurrent (journal ++ later) section
current_along journal [] section some h current stays =
    subst (λ j. IsCurrent j section) (sym (append-nil journal)) current
current_along journal (e ∷ later) section some h current stays =
    let more = journal ++ e ∷ [] in
    let whole : journal ++ e ∷ later ≡ more ++ later = sym (append_assoc journal (e ∷ []) later) in
    let stays_all = subst (λ j. Stays (cut_at j section) (last_number journal) (last_number j)) whole stays in
    let some_more : 0 < length more = omega (arith, length-append journal (e ∷ []), some) in
    let low = later_last journal (e ∷ []) some in
    let high = later_last more later some_more in
    let here = stays_shorter more later section (last_number journal) (last_number more) some_more (omega arith)
    (stays_within (cut_at (more ++ later) section) (last_number journal) (last_number (more ++ later)) (last_number journal) (last_number more) stays_all (omega arith) high) in
    let rest = stays_within (cut_at (more ++ later) section) (last_number journal) (last_number (more ++ later)) (last_number more) (last_number (more ++ later)) stays_all low (omega arith) in
    subst (λ j. IsCurrent j section) (sym whole)
    (current_along more later section some_more h.1 (current_next journal e section some h.0 current here) rest)

-- the entries that follow a beginning
later_follow : (before xs ys : List Entry) → AllFollow before (xs ++ ys) → AllFollow (before ++ xs) ys
later_follow before [] ys h = subst (λ j. AllFollow j ys) (sym (append-nil before)) h
later_follow before (e ∷ xs) ys h =
    subst (λ j. AllFollow j ys) (append_assoc before (e ∷ []) xs) (later_follow (before ++ e ∷ []) xs ys h.1)

pub legal_later : (journal more : List Entry) → 0 < length journal → IsLegal (journal ++ more) → AllFollow journal more
legal_later [] more some h = absurd (omega (arith, some))
legal_later (e ∷ journal) more some h = later_follow (e ∷ []) journal more h.2

pub current_stays : CurrentStays
current_stays journal more section some legal current stays =
    current_along journal more section some (legal_later journal more some legal) current stays

-- ---- published answers

-- the last published answer of a section is that of its cut at the edit that it names
abbrev LastIsRight : List ℕ → List Entry → Type 0
LastIsRight section journal = (p : Publication) → last_publication journal section ≡ Some p → IsAnswerAt journal section p.at p.answer

pub answer_longer : (journal more : List Entry) (section : List ℕ) (at : ℕ) (answer : Answer) → 0 < length journal
    → IsAnswerAt journal section at answer → IsAnswerAt (journal ++ more) section at answer
answer_longer journal more section at answer some h = record {
  from_opening = rw (opening-more journal more some) h.from_opening;
  to_last = omega (arith, h.to_last, later_last journal more some);
  cut = h.cut;
  there = cut_at-more journal more section at some h.to_last ∙ h.there;
  is_answer = h.is_answer;
}

-- the publication of a section that an act may make is right
publishes_right : (journal : List Entry) (section : List ℕ) (a : Act) (p : Publication) → MayFollow journal a
    → publication_of section a ≡ Some p → IsAnswerAt journal section p.at p.answer
publishes_right journal section (act.Opened tables at scripts) p h is = absurd h
publishes_right journal section (act.Entered number) p h is = absurd (cc)
publishes_right journal section (act.Edited planner at edit) p h is = absurd (cc)
publishes_right journal section (act.Refused planner rule edit) p h is = absurd (cc)
publishes_right journal section (act.Asked planner asked reply) p h is = absurd (cc)
publishes_right journal section (act.Published other at answer) p h is =
    elim (cases_Bool (is_same other section)) [
      | inl same ↦
          let q : Publication = record { at = at; answer = answer } in
          let is_p : q ≡ p = same_one q p (sym (rw same refl) ∙ is) in
          subst (λ q. IsAnswerAt journal section q.at q.answer) is_p
          (subst (λ n. IsAnswerAt journal n at answer) (same_name other section same) h.done)
      | inr apart ↦ let none : None ≡ Some p = sym (rw apart refl) ∙ is in absurd (cc)
    ]

right_by : (journal : List Entry) (e : Entry) (section : List ℕ) (p : Publication) (o : Option Publication) → 0 < length journal
    → LastIsRight section journal → IsNext journal e → publication_of section e.act ≡ o
    → last_or (last_publication journal section) (cons_option o []) ≡ Some p
    → IsAnswerAt journal section p.at p.answer
right_by journal e section p None some right next of_e last = right p last
right_by journal e section p (Some q) some right next of_e last =
    subst (λ q. IsAnswerAt journal section q.at q.answer) (same_one q p last)
    (publishes_right journal section e.act q next.follows of_e)

right_next : (journal : List Entry) (e : Entry) (section : List ℕ) → 0 < length journal → LastIsRight section journal
    → IsNext journal e → LastIsRight section (journal ++ e ∷ [])
right_next journal e section some right next p last =
    answer_longer journal (e ∷ []) section p.at p.answer some
    (right_by journal e section p (publication_of section e.act) some right next refl
    (sym (last_publication-more journal (e ∷ []) section) ∙ last))

right_along : (journal later : List Entry) (section : List ℕ) → 0 < length journal → LastIsRight section journal
    → AllFollow journal later → LastIsRight section (journal ++ later)
right_along journal [] section some right h = subst (LastIsRight section) (sym (append-nil journal)) right
right_along journal (e ∷ later) section some right h =
    subst (LastIsRight section) (append_assoc journal (e ∷ []) later)
    (right_along (journal ++ e ∷ []) later section (omega (arith, length-append journal (e ∷ []), some)) (right_next journal e section some right h.0) h.1)

-- an entry that opens publishes nothing
pub opening_publishes_none : (section : List ℕ) (a : Act) → Opens a → publication_of section a ≡ None
opening_publishes_none section (act.Opened tables at scripts) h = refl
opening_publishes_none section (act.Entered number) h = absurd h
opening_publishes_none section (act.Edited planner at edit) h = absurd h
opening_publishes_none section (act.Refused planner rule edit) h = absurd h
opening_publishes_none section (act.Asked planner asked reply) h = absurd h
opening_publishes_none section (act.Published other at answer) h = absurd h

right_first : (e : Entry) (section : List ℕ) → Opens e.act → LastIsRight section (e ∷ [])
unfolding last_publication
right_first e section opens p last =
    let none : None ≡ Some p = sym (rw (opening_publishes_none section e.act opens) refl) ∙ last in absurd (cc)

pub last_is_right : (journal : List Entry) (section : List ℕ) → IsLegal journal → LastIsRight section journal
last_is_right [] section h = absurd h
last_is_right (e ∷ later) section h =
    right_along (e ∷ []) later section (omega arith) (right_first e section h.1) h.2

pub current_is_answered : CurrentIsAnswered
current_is_answered journal section legal current =
    let right = last_is_right journal section legal current.publication current.last in
    record {
      cut = right.cut;
      there = same_from (cut_at journal section) current.publication.at (last_number journal) right.to_last current.untouched ∙ right.there;
      is_answer = right.is_answer;
    }

-- a section that is current stays so by entries that make no edit, and so does a share
pub current_without_edits : (journal more : List Entry) (section : List ℕ) → 0 < length journal → IsLegal (journal ++ more)
    → edits more ≡ [] → IsCurrent journal section → IsCurrent (journal ++ more) section
current_without_edits journal more section some legal none current =
    let same = (others_keep_tables journal more some none).number in
    current_stays journal more section some legal current (rw same (stays_at (cut_at (journal ++ more) section) (last_number journal)))

pub share_without_edits : (share of : ℕ) (journal more : List Entry) → 0 < length journal → IsLegal (journal ++ more)
    → edits more ≡ [] → ShareIsCurrent share of journal → ShareIsCurrent share of (journal ++ more)
share_without_edits share of journal more some legal none current number is_of =
    let same = (others_keep_tables journal more some none).tables in
    let there : number < length (tables_of journal).sections = subst (λ t. number < length t.sections) same is_of.there in
    subst (IsCurrent (journal ++ more)) (ap (λ t. (section_at t number).name) (sym same))
    (current_without_edits journal more (section_name journal number) some legal none
    (current number (record { there = there; rest = is_of.rest })))

-- a section that is current since a publication is current
pub current_since : (journal : List Entry) (section : List ℕ) (at : ℕ) → IsCurrentSince journal section at
    → IsCurrent journal section
current_since journal section at h = record {
  publication = record { at = at; answer = h.published.0 };
  last = h.published.1;
  untouched = h.untouched;
}
