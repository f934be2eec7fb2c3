-- The answers that a journal has published last.
use Rattle.std.proofs.Common.{◌≡◌, ℕ, suc, ◌+◌, ◌<◌, true, false, List, [], ◌∷◌, ◌++◌, length, get_or, map, replicate, Option, Some, None, refl, sym, ap, ◌∙◌, subst, inl, inr, arith, Bor, option_copied}
use Rattle.std.specs.Prelude.{slice_set, option_map, All}
use Rattle.std.proofs.lemmas.Bool.{cases_Bool}
use Rattle.std.proofs.lemmas.List.{length-map, get_or-map}
use Rattle.rail_model.specs.declared.items.Section.{Section}
use Rattle.rail_model.specs.Name.{is_same, NamesRise}
use Rattle.rail_model.specs.Rules.{is_named}
use Rattle.rail_model.specs.declared.tables.Tables.{Tables}
use Rattle.rail_model.specs.Tables.{number_of, no_section, section_at}
use Rattle.rail_model.proofs.NameOrder.{same_name, is_same-sym, is_same-before}
use Rattle.plan_model.specs.declared.answer.Answer.{Answer}
use Rattle.plan_model.specs.declared.journal.Act.{Act}
use Rattle.plan_model.specs.declared.journal.Act.TheVariants as act
use Rattle.plan_model.specs.declared.journal.Entry.{Entry}
use Rattle.plan_model.specs.Journal.{Publication, publication_of, last_publication, last_number, tables_of}
use Rattle.plan_model.specs.Cut.{section_cut}
use Rattle.plan_model.specs.Answer.{IsAnswer}
use Rattle.plan_model.specs.Legal.{cut_at, cut_now, IsLegal}
use Rattle.plan_model.specs.Session.{AllAreCurrent}
use Rattle.section_cut.proofs.Rows.{found_at}
use Rattle.section_cut.proofs.SoundCut.{sound_cut}
use Rattle.plan_model.proofs.Growing.{last_publication-more, tables_at-past}
use Rattle.plan_model.proofs.Legality.{tables_are_sound}
use Rattle.plan_model.proofs.Touching.{same_one, current_is_answered}
use Rattle.plan_model.proofs.Unique.{answer_is_unique}
use Rattle.capacity_report.specs.Answers.{AreAnswers, IsAnswerOfSome}
use Rattle.capacity_cmd.specs.Ends.{IsJournalText}
use Rattle.capacity_cmd.specs.Published.{last_answer, last_answers, IsAnsweredLast, WerePublishedLast, ReportsLast, HasAnswer, HaveAnswers}

-- without entries there is none
pub none_yet : {X : Type 0} (f : X → Option Answer) (x : X) (sections : List Section) → f x ≡ None
    → map f (replicate (length sections) x) ≡ last_answers [] sections
unfolding last_publication
none_yet f x [] is = refl
none_yet f x (s ∷ sections) is = rw (is, none_yet f x sections is) refl

-- an entry that publishes nothing of a section leaves its last answer
kept : (journal : List Entry) (e : Entry) (name : List ℕ) → publication_of name e.act ≡ None
    → last_answer (journal ++ e ∷ []) name ≡ last_answer journal name
kept journal e name none = rw (last_publication-more journal (e ∷ []) name, none) refl

-- so do all sections where it publishes nothing of any
pub all_kept : (journal : List Entry) (e : Entry) (sections : List Section)
    → ((name : List ℕ) → publication_of name e.act ≡ None)
    → last_answers journal sections ≡ last_answers (journal ++ e ∷ []) sections
all_kept journal e [] none = refl
all_kept journal e (s ∷ sections) none =
    rw (sym (kept journal e s.name (none s.name)), all_kept journal e sections none) refl

-- an act of another kind publishes nothing
pub publishes_none : (a : Act) → ((section : List ℕ) (at : ℕ) (answer : Answer) → a ≡ act.Published section at answer → ⊥)
    → (name : List ℕ) → publication_of name a ≡ None
publishes_none (act.Opened tables at scripts) other name = refl
publishes_none (act.Entered number) other name = refl
publishes_none (act.Edited planner at edit) other name = refl
publishes_none (act.Refused planner rule edit) other name = refl
publishes_none (act.Asked planner section reply) other name = refl
publishes_none (act.Published section at answer) other name = absurd (other section at answer refl)

module _ (journal : List Entry) (e : Entry) (name : List ℕ) (at : ℕ) (answer : Answer) (is : e.act ≡ act.Published name at answer) where
  -- an entry that publishes an answer of a section
  says : (n : List ℕ) → is_same n name ≡ true → last_answer (journal ++ e ∷ []) n ≡ Some answer
  says n same =
      let of_it : publication_of n e.act ≡ Some (record { at = at; answer = answer }) = rw is (rw (is_same-sym name n, same) refl) in
      rw (last_publication-more journal (e ∷ []) n, of_it) refl

  says_no_other : (n : List ℕ) → is_same n name ≡ false → last_answer (journal ++ e ∷ []) n ≡ last_answer journal n
  says_no_other n apart = kept journal e n (rw is (rw (is_same-sym name n, apart) refl))

  -- leaves those of sections of other names
  pub others_kept : (sections : List Section) → is_named (λ (s : Section). s.name) sections name ≡ false
      → last_answers journal sections ≡ last_answers (journal ++ e ∷ []) sections
  others_kept [] out = refl
  others_kept (s ∷ sections) out =
      elim (cases_Bool (is_same s.name name)) [
        | inl same ↦ let it : true ≡ false = sym (rw same refl) ∙ out in absurd (cc)
        | inr apart ↦ rw (says_no_other s.name apart, others_kept sections (sym (rw apart refl) ∙ out)) refl
      ]

  later_kept : (s : Section) (sections : List Section) → is_same s.name name ≡ true → NamesRise (λ (s : Section). s.name) (s ∷ sections)
      → (k : ℕ) → k < length sections → is_same (get_or sections k no_section).name name ≡ false
  later_kept s sections same rise k l =
      rw (is_same-sym (get_or sections k no_section).name name, ← same_name s.name name same)
      (is_same-before s.name (get_or sections k no_section).name (rise 0 (suc k) no_section (omega arith) (omega (arith, l))))

  all_apart : (sections : List Section) → ((k : ℕ) → k < length sections → is_same (get_or sections k no_section).name name ≡ false)
      → last_answers journal sections ≡ last_answers (journal ++ e ∷ []) sections
  all_apart [] apart = refl
  all_apart (s ∷ sections) apart =
      rw (says_no_other s.name (apart 0 (omega arith)), all_apart sections (λ k l. apart (suc k) (omega (arith, l)))) refl

  -- and comes to the place of the section
  pub one_set : (sections : List Section) (number : ℕ) → NamesRise (λ (s : Section). s.name) sections
      → number ≡ number_of (λ (s : Section). s.name) sections name → number < length sections
      → slice_set (last_answers journal sections) number (Some answer) ≡ last_answers (journal ++ e ∷ []) sections
  one_set [] number rise place there = absurd (omega (arith, there))
  one_set (s ∷ sections) number rise place there =
      elim (cases_Bool (is_same s.name name)) [
        | inl same ↦
            let first : number ≡ 0 = place ∙ rw same refl in
            rw (first, says s.name same) (ap (λ (l : List (Option Answer)). Some answer ∷ l) (all_apart sections (later_kept s sections same rise)))
        | inr apart ↦
            let past : number ≡ 1 + number_of (λ (x : Section). x.name) sections name = place ∙ rw apart refl in
            let next : number ≡ suc (number_of (λ (x : Section). x.name) sections name) = omega (arith, past) in
            rw (next, says_no_other s.name apart)
            (ap (λ (l : List (Option Answer)). last_answer journal s.name ∷ l)
            (one_set sections (number_of (λ (x : Section). x.name) sections name) (λ i j d before below. rise (suc i) (suc j) d (omega (arith, before)) (omega (arith, below))) refl (omega (arith, next, there))))
      ]

-- ---- in the end of a session

module _ (journal : List Entry) (legal : IsLegal journal) where
  -- a section's cut
  cut_in_end : (k : ℕ) (d : Section) → k < length (tables_of journal).sections
      → cut_now journal (get_or (tables_of journal).sections k d).name
      ≡ Some (section_cut (tables_of journal) (get_or (tables_of journal).sections k d))
  unfolding cut_at
  cut_in_end k d there =
      let tables = tables_of journal in
      rw (tables_at-past journal (last_number journal) (omega arith))
      (ap (option_map (section_cut tables))
      (found_at (λ (s : Section). s.name) tables.sections k d (tables_are_sound journal legal).now.sections.names there))

  -- where all sections are current, the answer that was published last is that of this cut
  pub answered_last : AllAreCurrent journal → All (IsAnsweredLast journal) (tables_of journal).sections
  answered_last current k d there =
      let section = get_or (tables_of journal).sections k d in
      let is = current k d there in
      let now = current_is_answered journal section.name legal is in
      let same : now.cut ≡ section_cut (tables_of journal) section = same_one _ _ (sym now.there ∙ cut_in_end k d there) in
      record {
        publication = is.publication;
        last = is.last;
        is_answer = subst (λ cut. IsAnswer cut is.publication.answer) same now.is_answer;
      }

  -- so there is an answer of each section
  pub have_answers : (found : List (Option Answer)) → AllAreCurrent journal
      → found ≡ last_answers journal (tables_of journal).sections → HaveAnswers (tables_of journal) found
  have_answers found current is =
      let tables = tables_of journal in
      let sound = (tables_are_sound journal legal).now in
      let last = λ (s : Section). last_answer journal s.name in
      record {
        count = ap length is ∙ length-map tables.sections last;
        each = λ n there.
            let section = section_at tables n in
            let one = answered_last current n no_section there in
            record {
              answer = one.publication.answer;
              there = ap (λ (l : List (Option Answer)). get_or l n None) is ∙ get_or-map last tables.sections n no_section None there
                  ∙ ap (option_map (λ (p : Publication). p.answer)) one.last;
              is = one.is_answer;
              of_some = record {
                cut = section_cut tables section;
                sound = sound_cut tables section sound (sound.sections.each n no_section there);
                is = one.is_answer;
              };
            };
      }

-- answers of the sections' cuts are those that were published last
were_published : (journal : List Entry) (sections : List Section) (answers : List Answer) → All (IsAnsweredLast journal) sections
    → AreAnswers (tables_of journal) sections answers → WerePublishedLast journal sections answers
were_published journal [] [] last are = refl
were_published journal [] (a ∷ answers) last are = absurd are
were_published journal (s ∷ sections) [] last are = absurd are
were_published journal (s ∷ sections) (a ∷ answers) last are =
    let one = last 0 s (omega arith) in
    let same = answer_is_unique (section_cut (tables_of journal) s) one.publication.answer a one.is_answer are.0 in
    rw (one.last, same, were_published journal sections answers (λ k d below. last (suc k) d (omega (arith, below))) are.1) refl

pub reports_last : (journal : List Entry) (text : List ℕ) → IsLegal journal → AllAreCurrent journal → IsJournalText journal text
    → ReportsLast journal text
reports_last journal text legal current is =
    (is.0, were_published journal (tables_of journal).sections is.0 (answered_last journal legal current) is.1, is.2)

-- ---- the answer at the place of a section

module _ (tables : Tables) (n : ℕ) (there : n < length tables.sections) (found : List (Option (Bor Answer))) (have : HaveAnswers tables (map option_copied found)) where
  at_place : (d : Option (Bor Answer)) → HasAnswer tables (section_at tables n) (option_copied (get_or found n d))
  at_place d =
      let long : n < length found = omega (arith, there, have.count, length-map found option_copied) in
      subst (HasAnswer tables (section_at tables n)) (get_or-map option_copied found n d None long) (have.each n there)

  -- is that of its cut
  pub answer_there : (d : Option (Bor Answer)) (a : Bor Answer) → get_or found n d ≡ Some a
      → IsAnswer (section_cut tables (section_at tables n)) a.now × IsAnswerOfSome a.now
  answer_there d a is =
      let has = at_place d in
      let same : has.answer ≡ a.now = same_one has.answer a.now (sym has.there ∙ ap option_copied is) in
      (subst (IsAnswer (section_cut tables (section_at tables n))) same has.is, subst IsAnswerOfSome same has.of_some)

  none_there : (o : Option (Bor Answer)) → HasAnswer tables (section_at tables n) (option_copied o)
      → ((a : Bor Answer) → o ≡ Some a → ⊥) → ⊥
  none_there None has none = let missing = has.there in absurd (cc)
  none_there (Some a) has none = none a refl

  -- and there is one
  pub none_missing : (d : Option (Bor Answer)) → ((a : Bor Answer) → get_or found n d ≡ Some a → ⊥) → ⊥
  none_missing d none = none_there (get_or found n d) (at_place d) none
