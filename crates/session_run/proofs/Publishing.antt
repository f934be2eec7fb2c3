-- A section that is read as not current is published, and is current then.
use Rattle.std.proofs.Common.{◌≡◌, ℕ, ◌<◌, List, [], ◌∷◌, ◌++◌, length, Some, Ok, Err, refl, ◌∙◌, subst, arith}
use Rattle.rail_model.proofs.NameOrder.{is_same-from}
use Rattle.plan_model.specs.declared.answer.Answer.{Answer}
use Rattle.plan_model.specs.declared.answer.Done.{Done}
use Rattle.plan_model.specs.declared.journal.Act.TheVariants as act
use Rattle.plan_model.specs.declared.journal.Entry.{Entry}
use Rattle.plan_model.specs.declared.outcome.NotTaken.{NotTaken}
use Rattle.plan_model.specs.declared.outcome.NotTaken.TheVariants as not_taken
use Rattle.plan_model.specs.Reading.{Shown}
use Rattle.plan_model.specs.Journal.{last_number, publication_of, issued}
use Rattle.plan_model.specs.Legal.{cut_at, IsCurrent, IsLegal}
use Rattle.plan_model.specs.Outcome.{IsNextReading, PublishesTo}
use Rattle.plan_model.proofs.Growing.{others_keep_tables, last_publication-more}
use Rattle.plan_model.proofs.Changing.{stays_at}
use Rattle.plan_model.proofs.Readings.{next_name}
use Rattle.plan_model.proofs.Touching.{current_since}
use Rattle.session_run.specs.Ahead.{IsDoneNow}
use Rattle.session_run.specs.Turns.{PublishesNow}

-- pass 0 is issued
pub main_issued : (journal : List Entry) → 0 < issued journal
unfolding issued
main_issued journal = omega arith

-- what is read and answered is not refused
pub not_refused : (found after : List Entry) (shown : Shown) (done : Done) (why : NotTaken) → IsNextReading 0 1 found shown
    → IsDoneNow found shown done → PublishesTo 0 done found (Err why) after → ⊥
not_refused found after shown done (not_taken.Stale by) r is h = omega (arith, r.at, is.at, h.1.last.to_last, h.1.later)
not_refused found after shown done (not_taken.Current last) r is h =
    r.wanted
    (subst (IsCurrent found) (is.section ∙ next_name 0 1 found shown r)
    (current_since found done.section last h.1.1))

pub is_published : (found after : List Entry) (shown : Shown) (done : Done) → IsNextReading 0 1 found shown
    → IsDoneNow found shown done → PublishesTo 0 done found (Ok tt) after → IsLegal found → IsLegal after
    → PublishesNow shown.cut.section.name found after
is_published found after shown done r is h legal_found legal = record {
  answer = done.answer;
  is = h.is ∙ (λ k. found ++ record { pass = 0; act = act.Published (is.section k) ((is.at ∙ r.at) k) done.answer } ∷ []);
  legal_found = legal_found;
  legal = legal;
}

-- ---- what is current after a publication

module _ (found : List Entry) (e : Entry) (name : List ℕ) (answer : Answer) (some : 0 < length found) (is : e.act ≡ act.Published name (last_number found) answer) where
  says : publication_of name e.act ≡ Some (record { at = last_number found; answer = answer })
  says = rw is (rw (is_same-from name name refl) refl)

  pub published_is_current : IsCurrent (found ++ e ∷ []) name
  published_is_current = record {
    publication = record { at = last_number found; answer = answer };
    last = last_publication-more found (e ∷ []) name ∙ rw says refl;
    untouched =
        rw (others_keep_tables found (e ∷ []) some (rw is refl)).number
        (stays_at (cut_at (found ++ e ∷ []) name) (last_number found));
  }
