-- Journals of sessions with workers, on the line of two blocks and two trains.
use Rattle.std.proofs.Common.{◌≡◌, ℕ, ◌<◌, ◌≤◌, List, [], ◌∷◌, ◌++◌, arith, refl, inr, lit≤, lit<, drop, Some, None}
use Rattle.plan_model.specs.declared.cut.Cut.{Cut}
use Rattle.plan_model.specs.declared.answer.Answer.{Answer}
use Rattle.plan_model.specs.declared.journal.Reply.TheVariants as reply
use Rattle.plan_model.specs.declared.journal.Act.{Act}
use Rattle.plan_model.specs.declared.journal.Act.TheVariants as act
use Rattle.plan_model.specs.declared.journal.Entry.{Entry}
use Rattle.plan_model.specs.Answer.{IsAnswer}
use Rattle.plan_model.specs.Journal.{opening, last_number, tables_at, tables_of, last_publication, issued, done_by}
use Rattle.plan_model.specs.Legal.{cut_at, Touches, IsCurrent, IsNext}
use Rattle.plan_model.specs.Session.{IsMade, IsSession}
use Rattle.plan_model.proofs.Changing.{stays_at}
use Rattle.plan_model.proofs.Touching.{touched_since}
use Rattle.plan_model.proofs.Examples.{two_trains, two_trains_answer}
use Rattle.plan_model.proofs.JournalExamples.{s, two_runs, two_runs_sound, move, asked_script, at_8, at_9, together, together_answer, by_main, apart, second_entry, all_current, published_now, each_of}

-- an entry by the pass of a planner or a worker
abbrev by : ℕ → Act → Entry
by pass a = record { pass = pass; act = a }

-- the section is published at the last edit, where it is not current
published_next : (journal : List Entry) (pass at : ℕ) (answer : Answer) (cut : Cut) → pass < issued journal
    → (opening journal).at ≤ at → at ≡ last_number journal → cut_at journal s at ≡ Some cut → IsAnswer cut answer
    → (IsCurrent journal s → ⊥)
    → IsNext journal (by pass (act.Published s at answer))
published_next journal pass at answer cut known from now there right wanted = record {
  pass = known;
  follows = record {
    done = record { from_opening = from; to_last = rw now (omega arith); cut = cut; there = there; is_answer = right };
    untouched = rw now (stays_at _ _);
    wanted = wanted;
  };
}

never_published : (journal : List Entry) → last_publication journal s ≡ None → IsCurrent journal s → ⊥
never_published journal none current = let last = current.last in cc

-- ---- one worker, and no planner

abbrev alone_1 : List Entry
alone_1 = by_main (act.Opened two_runs 8 []) ∷ by_main (act.Entered 1) ∷ []

abbrev alone_2 : List Entry
alone_2 = alone_1 ++ by 1 (act.Published s 8 at_8) ∷ []

alone_current : IsCurrent alone_2 s
unfolding last_number last_publication
alone_current = published_now alone_2 8 at_8 refl refl

one_worker : IsSession two_runs 8 [] 1 alone_2
unfolding last_number last_publication issued cut_at tables_at tables_of
one_worker = record {
  rest = drop 2 alone_2;
  is = refl;
  legal = (
    refl,
    two_runs_sound,
    (
      record { pass = lit< tt; follows = refl },
      (published_next alone_1 1 8 at_8 two_trains (lit< tt) (lit≤ tt) refl refl two_trains_answer (never_published alone_1 refl), tt),
    ),
  );
  made = each_of (λ e. IsMade 0 1 e.pass e.act) (drop 2 alone_2) ((lit< tt, lit≤ tt), tt);
  done = refl;
  current = all_current alone_2 refl alone_current;
}

-- ---- two workers, and a planner who moves the second train and asks

abbrev both_1 : List Entry
both_1 =
    by_main (act.Opened two_runs 8 asked_script) ∷ by_main (act.Entered 1) ∷ by_main (act.Entered 2) ∷ by_main (act.Entered 3)
    ∷ []

-- the planner asks between the edit and the second publication
abbrev late_2 : List Entry
late_2 = both_1 ++ by 2 (act.Published s 8 at_8) ∷ []

abbrev late_3 : List Entry
late_3 = late_2 ++ by 1 (act.Edited 1 9 move) ∷ []

abbrev late_4 : List Entry
late_4 = late_3 ++ by 1 (act.Asked 1 s (reply.Stale 8 9)) ∷ []

abbrev late_5 : List Entry
late_5 = late_4 ++ by 3 (act.Published s 9 at_9) ∷ []

late_touches_3 : Touches late_3 s 9
unfolding cut_at tables_at
late_touches_3 = apart second_entry _ _ (lit< tt)

late_touches_4 : Touches late_4 s 9
unfolding cut_at tables_at
late_touches_4 = apart second_entry _ _ (lit< tt)

late_current : IsCurrent late_5 s
unfolding last_number last_publication
late_current = published_now late_5 9 at_9 refl refl

asked_too_early : IsSession two_runs 8 asked_script 2 late_5
unfolding last_number last_publication issued cut_at tables_at tables_of done_by
asked_too_early = record {
  rest = drop 4 late_5;
  is = refl;
  legal = (
    refl,
    two_runs_sound,
    (
      record { pass = lit< tt; follows = refl },
      (
        record { pass = lit< tt; follows = refl },
        (
          record { pass = lit< tt; follows = refl },
          (
            published_next both_1 2 8 at_8 two_trains (lit< tt) (lit≤ tt) refl refl two_trains_answer (never_published both_1 refl),
            (
              record { pass = lit< tt; follows = (refl, refl) },
              (
                record {
                  pass = lit< tt;
                  follows = (
                    (λ e. cc),
                    (at_8, refl),
                    record {
                      last = record {
                        from_first = lit≤ tt;
                        to_last = lit≤ tt;
                        changes = inr late_touches_3;
                        stays = stays_at _ 9;
                      };
                      later = lit< tt;
                    },
                  );
                },
                (
                  published_next late_4 3 9 at_9 together (lit< tt) (lit≤ tt) refl refl together_answer
                      (touched_since late_4 s (record { at = 8; answer = at_8 }) 9 refl (lit< tt) (lit≤ tt) late_touches_4),
                  tt,
                ),
              ),
            ),
          ),
        ),
      ),
    ),
  );
  made = each_of (λ e. IsMade 1 2 e.pass e.act) (drop 4 late_5) (
    (lit< tt, lit≤ tt),
    (
      record { from_one = lit≤ tt; to_last = lit≤ tt; its_pass = refl },
      (record { from_one = lit≤ tt; to_last = lit≤ tt; its_pass = refl }, ((lit< tt, lit≤ tt), tt)),
    ),
  );
  done = refl;
  current = all_current late_5 refl late_current;
}

-- the planner is through before the first publication
abbrev first_2 : List Entry
first_2 = both_1 ++ by 1 (act.Edited 1 9 move) ∷ []

abbrev first_3 : List Entry
first_3 = first_2 ++ by 1 (act.Asked 1 s reply.NotYet) ∷ []

abbrev first_4 : List Entry
first_4 = first_3 ++ by 2 (act.Published s 9 at_9) ∷ []

first_current : IsCurrent first_4 s
unfolding last_number last_publication
first_current = published_now first_4 9 at_9 refl refl

asked_before_all : IsSession two_runs 8 asked_script 2 first_4
unfolding last_number last_publication issued cut_at tables_at tables_of done_by
asked_before_all = record {
  rest = drop 4 first_4;
  is = refl;
  legal = (
    refl,
    two_runs_sound,
    (
      record { pass = lit< tt; follows = refl },
      (
        record { pass = lit< tt; follows = refl },
        (
          record { pass = lit< tt; follows = refl },
          (
            record { pass = lit< tt; follows = (refl, refl) },
            (
              record { pass = lit< tt; follows = ((λ e. cc), refl) },
              (published_next first_3 2 9 at_9 together (lit< tt) (lit≤ tt) refl refl together_answer (never_published first_3 refl), tt),
            ),
          ),
        ),
      ),
    ),
  );
  made = each_of (λ e. IsMade 1 2 e.pass e.act) (drop 4 first_4) (
    record { from_one = lit≤ tt; to_last = lit≤ tt; its_pass = refl },
    (record { from_one = lit≤ tt; to_last = lit≤ tt; its_pass = refl }, ((lit< tt, lit≤ tt), tt)),
  );
  done = refl;
  current = all_current first_4 refl first_current;
}

-- a planner's answer may not be published by its own pass
by_the_planner : IsMade 1 2 1 (act.Published s 8 at_8) → ⊥
by_the_planner h = omega (arith, h.0)

-- nor may the pass that opened the journal edit
by_the_opening_pass : IsMade 1 2 0 (act.Edited 1 9 move) → ⊥
by_the_opening_pass h = omega (arith, h.its_pass)
