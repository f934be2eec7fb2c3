-- Whether a section is current, by what is known of it.
use Rattle.std.proofs.Common.{◌≡◌, ℕ, ◌<◌, List, Option, Some, None, refl, sym, ◌∙◌, subst, inl, inr, arith}
use Rattle.std.proofs.lemmas.Bool.{cases_lt}
use Rattle.plan_model.specs.declared.journal.Entry.{Entry}
use Rattle.plan_model.specs.Journal.{Publication, last_number}
use Rattle.plan_model.specs.Legal.{cut_at, IsCurrent, IsJournal}
use Rattle.plan_model.proofs.Changing.{stays_within}
use Rattle.plan_model.proofs.Touching.{touched_since, last_is_right}
use Rattle.plan_book.specs.declared.shelf.Published.{Published}
use Rattle.plan_book.specs.declared.shelf.Shelf.{Shelf}
use Rattle.plan_book.specs.Shelves.{IsPublished, KnowsLast, IsShelf}
use Rattle.plan_book.specs.Reading.{HasLatest}

module _ (journal : List Entry) (name : List ℕ) (s : Shelf) (is_journal : IsJournal journal) (known : IsShelf journal name s) where
  -- a publication before the last edit that touched the section leaves it not current
  not_latest : (p : Published) (last : IsPublished journal name p) → p.at < s.touched → IsCurrent journal name → ⊥
  not_latest p last before current =
      let there : Publication = record { at = p.at; answer = last.answer } in
      elim known.touched.changes [
        | inl first ↦ omega (arith, first, before, (last_is_right journal name is_journal.legal there last.last).from_opening)
        | inr touches ↦ touched_since journal name there s.touched last.last before known.touched.to_last touches current
      ]

  pub latest_is_current : HasLatest s → IsCurrent journal name
  latest_is_current h =
      let last : IsPublished journal name h.last = subst (KnowsLast journal name) h.published known.published in
      record {
        publication = record { at = h.last.at; answer = last.answer };
        last = last.last;
        untouched =
            stays_within (cut_at journal name) s.touched (last_number journal) h.last.at (last_number journal) known.touched.stays h.since (omega arith);
      }

  current_by : (o : Option Published) → s.published ≡ o → KnowsLast journal name o → IsCurrent journal name → HasLatest s
  current_by None is last current = let both : Some current.publication ≡ None = sym current.last ∙ last in absurd (cc)
  current_by (Some p) is last current = elim (cases_lt p.at s.touched) [
    | inl before ↦ absurd (not_latest p last before current)
    | inr since ↦ record { last = p; published = is; since = since }
  ]

  pub current_has_latest : IsCurrent journal name → HasLatest s
  current_has_latest current = current_by s.published refl known.published current
