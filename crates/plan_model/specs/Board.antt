-- What contracts see of a board, and what a call of it does.
use Rattle.std.specs.Prelude.{◌≡◌, ℕ, ◌+◌, ◌-◌, ◌^◌, ◌<◌, min, List, Result, Ok, Err, MatchResult, Contains}
use Rattle.rail_model.specs.declared.memory.OutOfMemory.{OutOfMemory}
use Rattle.plan_model.specs.Types.{Entry, Next}
use Rattle.plan_model.specs.declared.outcome.Next.TheVariants as next
use Rattle.plan_model.specs.Journal.{issued}
use Rattle.plan_model.specs.Legal.{IsJournal}
use Rattle.plan_model.specs.Call.{GoesOn}

-- the access of a pass to a journal: which journal it is, by numbers that tell it from others; the pass, and its
-- numbers, which are its own and those of the passes that have left into it; the part of the journal that it has seen;
-- how many readings it was given, and how many uses were taken of the last reading that it handed back
pub record Access : Type 0 where
  pub journal : List ℕ
  pub pass : ℕ
  pub numbers : List ℕ
  pub seen : List Entry
  pub readings : ℕ
  pub handed : ℕ

-- what was seen is a journal, the pass is issued in it, and its number is one of its numbers
pub record IsAccess (a : Access) : Type 0 where
  pub seen : IsJournal a.seen
  pub issued : a.pass < issued a.seen
  pub own : Contains a.numbers a.pass

-- a call by the pass: it finds a journal, which is what was seen and then entries of others; it does this to it; and
-- what it leaves is seen
pub record IsCall (Does : List Entry → List Entry → Type 0) (old new : Access) : Type 0 where
  pub before : IsAccess old
  pub found : List Entry
  pub goes_on : GoesOn old.numbers old.seen found
  pub is_journal : IsJournal found
  pub does : Does found new.seen
  pub after : IsAccess new
  pub same_journal : new.journal ≡ old.journal
  pub same_pass : new.pass ≡ old.pass
  pub same_numbers : new.numbers ≡ old.numbers

-- the call answers so; without memory it leaves the journal as it found it
abbrev pub Gives : {A : Type 0} → (List Entry → A → List Entry → Type 0) → Result A OutOfMemory
    → List Entry → List Entry → Type 0
Gives Does result found after = MatchResult result (λ answer. Does found answer after) (λ _. after ≡ found)

-- a call that neither gives a reading nor takes one back
pub record KeepsCounts (old new : Access) : Type 0 where
  pub readings : new.readings ≡ old.readings
  pub handed : new.handed ≡ old.handed

-- a call that may give a reading counts it; the count stands still at the greatest number of 64 bits
pub record CountsReading (old new : Access) : Type 0 where
  pub readings : new.readings ≡ min (old.readings + 1) (2 ^ 64 - 1)
  pub handed : new.handed ≡ old.handed

-- a call that is to give a reading counts the one that it gives
abbrev pub CountsNext : {R : Type 0} → Result (Next R) OutOfMemory → Access → Access → Type 0
CountsNext (Ok (next.Reading r)) old new = CountsReading old new
CountsNext (Ok (next.Idle left)) old new = KeepsCounts old new
CountsNext (Err e) old new = KeepsCounts old new

-- a call that takes a reading back notes how many uses were taken of it, unless it finds no memory
pub record NotesTaken (taken : ℕ) (old new : Access) : Type 0 where
  pub readings : new.readings ≡ old.readings
  pub handed : new.handed ≡ taken

-- a call that takes a reading back, whatever it answers
abbrev pub CountsHanded : {A : Type 0} → ℕ → Result A OutOfMemory → Access → Access → Type 0
CountsHanded taken result old new = MatchResult result (λ _. NotesTaken taken old new) (λ _. KeepsCounts old new)
