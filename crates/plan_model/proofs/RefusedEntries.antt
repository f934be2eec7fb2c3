-- Entries that may not come next, and those that may in their place.
use Rattle.std.proofs.Common.{◌≡◌, [], arith, refl, inr, lit≤, lit<, Some, None}
use Rattle.std.specs.Prelude.{codes}
use Rattle.rail_model.specs.declared.items.Item.TheVariants as item
use Rattle.rail_model.specs.declared.edit.Edit.{Edit}
use Rattle.rail_model.specs.declared.edit.Edit.TheVariants as edit
use Rattle.rail_model.specs.declared.edit.Rule.TheVariants.{Range, Twice}
use Rattle.plan_model.specs.declared.journal.Reply.TheVariants as reply
use Rattle.plan_model.specs.declared.journal.Act.TheVariants as act
use Rattle.plan_model.specs.Journal.{last_number, tables_at, tables_of, last_publication, issued}
use Rattle.plan_model.specs.Legal.{cut_at, MayBePublished, MayFollow, IsNext}
use Rattle.plan_model.proofs.Changing.{stays_at}
use Rattle.plan_model.proofs.JournalExamples.{s, at_8, at_9, move, two_runs, moved_1, moved_2, moved_3, moved_touches, s_current_2}

something : {X : Type 0} (x : X) → Some x ≡ None → ⊥
something x h = cc

-- ---- a pass

second_pass : MayFollow moved_1 (act.Entered 1)
unfolding issued
second_pass = refl

third_pass_before_the_second : MayFollow moved_1 (act.Entered 2) → ⊥
unfolding issued
third_pass_before_the_second h = cc

pass_never_issued : IsNext moved_1 (record { pass = 1; act = act.Edited 1 9 move }) → ⊥
unfolding issued
pass_never_issued h = omega (arith, h.pass)

opened_again : MayFollow moved_1 (act.Opened two_runs 8 []) → ⊥
opened_again h = h

-- ---- an edit

number_skipped : MayFollow moved_2 (act.Edited 1 10 move) → ⊥
unfolding last_number tables_of
number_skipped h = absurd (omega (arith, h.0))

-- a block of no length that has the name of another one
abbrev short_block : Edit
short_block = edit.Put (item.Block (record { name = codes "A"; length_m = 0 }))

refused_edit_made : MayFollow moved_2 (act.Edited 1 9 short_block) → ⊥
unfolding last_number tables_of
refused_edit_made h = let is : Some Range ≡ None = h.1 in cc

refused_by_the_first_rule : MayFollow moved_2 (act.Refused 1 Range short_block)
unfolding tables_of
refused_by_the_first_rule = refl

refused_by_a_later_rule : MayFollow moved_2 (act.Refused 1 Twice short_block) → ⊥
unfolding tables_of
refused_by_a_later_rule h = let is : Some Range ≡ Some Twice = h in cc

good_edit_refused : MayFollow moved_2 (act.Refused 1 Range move) → ⊥
unfolding tables_of
good_edit_refused h = let is : None ≡ Some Range = h in cc

-- ---- a publication

published_past_a_touching_edit : MayBePublished moved_3 s 8 at_8 → ⊥
unfolding last_number
published_past_a_touching_edit h = moved_touches (h.untouched.each 9 (lit< tt) (lit≤ tt))

published_though_current : MayBePublished moved_2 s 8 at_8 → ⊥
published_though_current h = h.wanted s_current_2

published_of_no_section : MayBePublished moved_1 (codes "X") 8 at_8 → ⊥
unfolding cut_at tables_at
published_of_no_section h = let is : None ≡ Some h.done.cut = h.done.there in cc

published_at_an_edit_to_come : MayBePublished moved_1 s 9 at_9 → ⊥
unfolding last_number
published_at_an_edit_to_come h = omega (arith, h.done.to_last)

-- ---- a reply

not_yet : MayFollow moved_1 (act.Asked 1 s reply.NotYet)
unfolding last_publication last_number cut_at tables_at
not_yet = ((λ e. cc), refl)

not_yet_after_a_publication : MayFollow moved_2 (act.Asked 1 s reply.NotYet) → ⊥
unfolding last_publication
not_yet_after_a_publication h = something _ h.1

stale : MayFollow moved_3 (act.Asked 1 s (reply.Stale 8 9))
unfolding last_publication last_number cut_at tables_at
stale = (
  (λ e. cc),
  (at_8, refl),
  record {
    last = record {
      from_first = lit≤ tt;
      to_last = lit≤ tt;
      changes = inr moved_touches;
      stays = stays_at _ 9;
    };
    later = lit< tt;
  },
)

ready_after_a_touching_edit : MayFollow moved_3 (act.Asked 1 s (reply.Ready 8)) → ⊥
unfolding last_number
ready_after_a_touching_edit h = moved_touches (h.1.untouched.each 9 (lit< tt) (lit≤ tt))

unknown : MayFollow moved_3 (act.Asked 1 (codes "X") reply.Unknown)
unfolding last_number cut_at tables_at
unknown = refl

unknown_though_there : MayFollow moved_3 (act.Asked 1 s reply.Unknown) → ⊥
unfolding last_number cut_at tables_at
unknown_though_there h = cc
