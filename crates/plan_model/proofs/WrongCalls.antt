-- Calls that a board may not make: an entry twice, none where one is answered, and an answer by what was seen before.
use Rattle.std.proofs.Common.{◌≡◌, ℕ, ◌+◌, ◌<◌, List, [], ◌∷◌, ◌++◌, length, Ok, ap, ◌∙◌, arith, length-append}
use Rattle.rail_model.specs.declared.edit.Edit.{Edit}
use Rattle.plan_model.specs.declared.answer.Done.{Done}
use Rattle.plan_model.specs.declared.journal.Act.{Act}
use Rattle.plan_model.specs.declared.journal.Entry.{Entry}
use Rattle.plan_model.specs.declared.outcome.Asked.{Asked}
use Rattle.plan_model.specs.Journal.{edits, last_number}
use Rattle.plan_model.specs.Outcome.{AddsEntry, EditsTo, AsksTo, PublishesTo}
use Rattle.plan_model.proofs.Growing.{last_number-more}

-- ---- one entry, and no other number of entries

one_longer : (pass : ℕ) (a : Act) (found after : List Entry) → AddsEntry pass a found after → length after ≡ length found + 1
one_longer pass a found after h = ap (λ es. length es) h.is ∙ length-append found (record { pass = pass; act = a } ∷ [])

edit_made_twice : (pass planner at : ℕ) (edit : Edit) (found : List Entry) (one other : Entry)
    → EditsTo pass planner edit found (Ok at) (found ++ one ∷ other ∷ []) → ⊥
edit_made_twice pass planner at edit found one other h =
    omega (arith, one_longer pass _ found _ h, length-append found (one ∷ other ∷ []))

edit_not_made : (pass planner at : ℕ) (edit : Edit) (found : List Entry) → EditsTo pass planner edit found (Ok at) found → ⊥
edit_not_made pass planner at edit found h = omega (arith, one_longer pass _ found found h)

question_not_noted : (pass planner : ℕ) (section : List ℕ) (a : Asked) (found : List Entry) → AsksTo pass planner section found a found → ⊥
question_not_noted pass planner section a found h = omega (arith, one_longer pass _ found found h.adds)

answer_not_published : (pass : ℕ) (done : Done) (found : List Entry) → PublishesTo pass done found (Ok tt) found → ⊥
answer_not_published pass done found h = omega (arith, one_longer pass _ found found h)

-- ---- by the journal that the call finds, and not by what was seen before

number_by_what_was_seen : (pass planner : ℕ) (edit : Edit) (seen more after : List Entry) → 0 < length seen → 0 < length (edits more)
    → EditsTo pass planner edit (seen ++ more) (Ok (last_number seen + 1)) after → ⊥
number_by_what_was_seen pass planner edit seen more after some others h =
    omega (arith, last_number-more seen more some, h.next.follows.0, others)
