-- Edits that touch a section and edits that do not, on the line of two blocks and two trains.
use Rattle.std.proofs.Common.{◌≡◌, ℕ, List, [], ◌∷◌, ◌++◌, arith, refl, inl, inr, lit≤, lit<, drop, length, Option, Some, None}
use Rattle.std.specs.Prelude.{pos, codes}
use Rattle.std.proofs.lemmas.List.Elements.{All-nil}
use Rattle.rail_model.specs.declared.items.Section.{Section}
use Rattle.rail_model.specs.declared.items.Item.TheVariants as item
use Rattle.rail_model.specs.declared.edit.Kind.TheVariants as kind
use Rattle.rail_model.specs.declared.edit.Edit.{Edit}
use Rattle.rail_model.specs.declared.edit.Edit.TheVariants as edit
use Rattle.plan_model.specs.declared.cut.Cut.{Cut}
use Rattle.plan_model.specs.declared.scripts.Task.{Task}
use Rattle.plan_model.specs.declared.scripts.Task.TheVariants as task
use Rattle.plan_model.specs.declared.journal.Reply.TheVariants as reply
use Rattle.plan_model.specs.declared.journal.Act.TheVariants as act
use Rattle.plan_model.specs.declared.journal.Entry.{Entry}
use Rattle.plan_model.specs.Journal.{last_number, tables_at, tables_of, last_publication, issued, done_by}
use Rattle.plan_model.specs.Legal.{cut_at, row_at, Touches, IsUntouchedSince, IsLastTouching, IsCurrent, IsStamp, IsReading, MayBePublished, IsLegal}
use Rattle.plan_model.specs.Session.{IsMade, IsPublicationAt, tasks_in_turn, GoesInTurn, IsSessionAlone}
use Rattle.plan_model.proofs.Changing.{stays_at, stays_more}
use Rattle.plan_model.proofs.Examples.{section, train, row, kept, t2, two_trains}
use Rattle.plan_model.proofs.JournalExamples.{s, two_runs, two_runs_sound, at_8, by_main, first_at_8, by_one, apart, apart_back, all_current, published_now, each_of}

-- ---- a train that enters after the window does not touch the section

abbrev far : Edit
far = edit.Put (item.Run (train (codes "T3") (codes "R") 5000 (60 ∷ 60 ∷ [])))

abbrev far_script : List (List Task)
far_script = (task.Edit far ∷ task.Ask s ∷ []) ∷ []

abbrev far_1 : List Entry
far_1 = by_main (act.Opened two_runs 8 far_script) ∷ []

abbrev far_2 : List Entry
far_2 = far_1 ++ by_main (act.Published s 8 at_8) ∷ []

abbrev far_3 : List Entry
far_3 = far_2 ++ by_main (act.Edited 1 9 far) ∷ []

abbrev far_4 : List Entry
far_4 = far_3 ++ by_main (act.Asked 1 s (reply.Ready 8)) ∷ []

far_is_outside : cut_at far_4 s 9 ≡ cut_at far_4 s 8
unfolding cut_at tables_at
far_is_outside = refl

far_untouched_3 : IsUntouchedSince far_3 s 8
unfolding last_number cut_at tables_at
far_untouched_3 = stays_more _ 8 8 (stays_at _ 8) refl

far_untouched_4 : IsUntouchedSince far_4 s 8
unfolding last_number cut_at tables_at
far_untouched_4 = stays_more _ 8 8 (stays_at _ 8) refl

-- so the answer of before is still given
far_legal : IsLegal far_4
unfolding last_number last_publication issued cut_at tables_at tables_of
far_legal = (
  refl,
  two_runs_sound,
  (
    first_at_8 far_script,
    (
      record { pass = lit< tt; follows = (refl, refl) },
      (record { pass = lit< tt; follows = ((λ e. cc), record { published = (at_8, refl); untouched = far_untouched_3 }) }, tt),
    ),
  ),
)

far_current_2 : IsCurrent far_2 s
unfolding last_number last_publication
far_current_2 = published_now far_2 8 at_8 refl refl

far_current_3 : IsCurrent far_3 s
unfolding last_publication
far_current_3 = record { publication = record { at = 8; answer = at_8 }; last = refl; untouched = far_untouched_3 }

far_current_4 : IsCurrent far_4 s
unfolding last_publication
far_current_4 = record { publication = record { at = 8; answer = at_8 }; last = refl; untouched = far_untouched_4 }

-- and no second one is published
far_in_turn : GoesInTurn far_1 (tasks_in_turn far_script) (drop 1 far_4)
unfolding tables_of last_number
far_in_turn = (
  by_main (act.Published s 8 at_8) ∷ [],
  by_main (act.Edited 1 9 far),
  drop 3 far_4,
  refl,
  record {
    names = s ∷ [];
    count = refl;
    each =
        each_of (λ p. IsPublicationAt 8 p.0 p.1) ((s, by_main (act.Published s 8 at_8)) ∷ [])
        (record { answer = at_8; is = refl }, tt);
    rise = λ i j d lt l. absurd (omega arith);
    current = all_current far_2 refl far_current_2;
  },
  refl,
  (
    [],
    by_main (act.Asked 1 s (reply.Ready 8)),
    [],
    refl,
    record {
      names = [];
      count = refl;
      each = All-nil (λ p. IsPublicationAt 9 p.0 p.1);
      rise = λ i j d lt l. absurd (omega arith);
      current = all_current far_3 refl far_current_3;
    },
    refl,
    record {
      names = [];
      count = refl;
      each = All-nil (λ p. IsPublicationAt 9 p.0 p.1);
      rise = λ i j d lt l. absurd (omega arith);
      current = all_current far_4 refl far_current_4;
    },
  ),
)

far_session : IsSessionAlone two_runs 8 far_script far_4
unfolding done_by tables_of
far_session = record {
  session = record {
    rest = drop 1 far_4;
    is = refl;
    legal = far_legal;
    made = each_of (λ e. IsMade 1 0 e.pass e.act) (drop 1 far_4) (refl, (by_one, (by_one, tt)));
    done = refl;
    current = all_current far_4 refl far_current_4;
  };
  in_turn = far_in_turn;
}

-- ---- a train that is dropped and put again

abbrev drop_t2 : Edit
drop_t2 = edit.Drop kind.Run (codes "T2")

abbrev put_t2 : Edit
put_t2 = edit.Put (item.Run t2)

abbrev pub again : List Entry
again = by_main (act.Opened two_runs 8 []) ∷ by_main (act.Edited 0 9 drop_t2) ∷ by_main (act.Edited 0 10 put_t2) ∷ []

again_legal : IsLegal again
unfolding last_number issued tables_of
again_legal = (
  refl,
  two_runs_sound,
  (
    record { pass = lit< tt; follows = (refl, refl) },
    (record { pass = lit< tt; follows = (refl, refl) }, tt),
  ),
)

again_last : last_number again ≡ 10
unfolding last_number
again_last = refl

-- the two cuts have equal values
again_equal : cut_at again s 10 ≡ cut_at again s 8
unfolding cut_at tables_at
again_equal = refl

-- how many trains a cut has
abbrev trains : Option Cut → ℕ
trains None = 0
trains (Some cut) = length cut.rows

-- and both edits touch the section
again_touches_9 : Touches again s 9
unfolding cut_at tables_at
again_touches_9 = apart trains _ _ (lit< tt)

again_touches_10 : Touches again s 10
unfolding cut_at tables_at
again_touches_10 = apart_back trains _ _ (lit< tt)

pub again_last_touching : IsLastTouching again s 10
unfolding last_number
again_last_touching = record {
  from_first = lit≤ tt;
  to_last = lit≤ tt;
  changes = inr again_touches_10;
  stays = stays_at _ 10;
}

-- so the answer of before them may not be published
again_too_late : MayBePublished again s 8 at_8 → ⊥
unfolding last_number
again_too_late h = again_touches_9 (h.untouched.each 9 (lit< tt) (lit≤ tt))

-- the train that stayed has the opening's stamp, the other one the last edit's
abbrev again_cut : Cut
again_cut = record two_trains {
  rows =
      record (row (codes "T1") (pos 85) (kept 0 85 171 ∷ kept 1 85 235 ∷ [])) { stamp = 8 }
      ∷ record (row (codes "T2") (pos 385) (kept 0 385 471 ∷ kept 1 385 535 ∷ [])) { stamp = 10 }
      ∷ [];
}

again_reading : IsReading again s again_cut
unfolding last_number cut_at tables_at row_at
again_reading = record {
  value = refl;
  stamps = each_of (IsStamp again s) again_cut.rows (
    record {
      from_first = lit≤ tt;
      to_last = lit≤ tt;
      changes = inl refl;
      stays = stays_more _ 8 9 (stays_more _ 8 8 (stays_at _ 8) refl) refl;
    },
    (
      record {
        from_first = lit≤ tt;
        to_last = lit≤ tt;
        changes = inr (λ e. cc);
        stays = stays_at _ 10;
      },
      tt,
    ),
  );
}

-- ---- another rate for the section

abbrev rated : Section
rated = record (section (codes "A" ∷ codes "B" ∷ [])) { add_percent = 34 }

abbrev rated_journal : List Entry
rated_journal = again ++ by_main (act.Edited 0 11 (edit.Change (item.Section rated))) ∷ []

-- the rate of a cut
abbrev rate_of : Option Cut → ℕ
rate_of None = 0
rate_of (Some cut) = cut.section.add_percent

-- it touches the section
rate_touches : Touches rated_journal s 11
unfolding cut_at tables_at
rate_touches = apart_back rate_of _ _ (lit< tt)

-- and the rows keep their stamps
rated_reading : IsReading rated_journal s (record again_cut { section = rated })
unfolding last_number cut_at tables_at row_at
rated_reading = record {
  value = refl;
  stamps = each_of (IsStamp rated_journal s) again_cut.rows (
    record {
      from_first = lit≤ tt;
      to_last = lit≤ tt;
      changes = inl refl;
      stays = stays_more _ 8 10 (stays_more _ 8 9 (stays_more _ 8 8 (stays_at _ 8) refl) refl) refl;
    },
    (
      record {
        from_first = lit≤ tt;
        to_last = lit≤ tt;
        changes = inr (λ e. cc);
        stays = stays_more _ 10 10 (stays_at _ 10) refl;
      },
      tt,
    ),
  );
}
