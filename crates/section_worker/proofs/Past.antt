-- A section that was not current, and is current in a longer journal, was published between.
use Rattle.std.proofs.Common.{◌≡◌, ℕ, ◌<◌, List, [], ◌∷◌, ◌++◌, length, Option, None, Some, sym, ◌∙◌, arith}
use Rattle.std.specs.List.{last_or}
use Rattle.plan_model.specs.declared.journal.Entry.{Entry}
use Rattle.plan_model.specs.Journal.{Publication, publications, last_publication}
use Rattle.plan_model.specs.Legal.{IsUntouchedSince, IsCurrent, WasPublishedAt, IsCurrentSince}
use Rattle.plan_model.proofs.Growing.{last_number-more, cut_at-more, last_publication-more}

-- what no edit of a longer journal touches is not touched by those of the shorter
untouched_before : (xs ys : List Entry) (section : List ℕ) (at : ℕ) → 0 < length xs
    → IsUntouchedSince (xs ++ ys) section at → IsUntouchedSince xs section at
untouched_before xs ys section at some h = record {
  each = λ n above below.
      sym (cut_at-more xs ys section n some below)
      ∙ h.each n above (omega (arith, below, last_number-more xs ys some))
      ∙ cut_at-more xs ys section _ some (omega (arith, below));
}

last_is : (o : Option Publication) (ps : List Publication) (p : Publication) → last_or o ps ≡ Some p
    → (o ≡ Some p → ⊥) → last_or None ps ≡ Some p
last_is o [] p is none = absurd (none is)
last_is o (q ∷ qs) p is none = is

pub published_past : (xs ys : List Entry) (section : List ℕ) (at : ℕ) → 0 < length xs → (IsCurrent xs section → ⊥)
    → IsCurrentSince (xs ++ ys) section at → WasPublishedAt ys section at
unfolding last_publication
published_past xs ys section at some wanted now =
    let p : Publication = record { at = at; answer = now.published.0 } in (
      now.published.0,
      last_is (last_publication xs section) (publications ys section) p
          (sym (last_publication-more xs ys section) ∙ now.published.1)
          (λ e. wanted record { publication = p; last = e; untouched = untouched_before xs ys section at some now.untouched }),
    )
