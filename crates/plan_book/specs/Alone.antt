-- The access of a pass that is alone with a book.
use Rattle.std.specs.Prelude.{◌≡◌, ℕ, ◌+◌, ◌-◌, ◌^◌, ◌<◌, min, List, [], length}
use Rattle.std.specs.List.{range_with_len}
use Rattle.plan_model.specs.declared.journal.Entry.{Entry}
use Rattle.plan_model.specs.declared.outcome.Next.{Next}
use Rattle.plan_model.specs.declared.outcome.Next.TheVariants as next
use Rattle.plan_model.specs.Journal.{issued}
use Rattle.plan_model.specs.Legal.{IsJournal}
use Rattle.plan_model.specs.Call.{GoesOn}
use Rattle.plan_model.specs.Board.{Access}

-- There is one journal, of which all is seen. The pass has the numbers of all passes that are issued, so that there are
-- no others
abbrev pub alone : List Entry → ℕ → ℕ → ℕ → Access
alone seen who readings handed = record {
  journal = [];
  pass = who;
  numbers = range_with_len 0 (issued seen);
  seen = seen;
  readings = readings;
  handed = handed;
}

-- how many readings were given, after this answer; the count stands still at the greatest number of 64 bits
abbrev pub counted : {R : Type 0} → ℕ → Next R → ℕ
counted readings (next.Reading r) = min (readings + 1) (2 ^ 64 - 1)
counted readings (next.Idle left) = readings

-- nobody else adds: what is found is what was seen
abbrev pub NobodyElseAdds : Type 0
NobodyElseAdds =
    (seen found : List Entry) (who readings handed : ℕ) → 0 < length seen
    → GoesOn (alone seen who readings handed).numbers seen found → IsJournal found → found ≡ seen
