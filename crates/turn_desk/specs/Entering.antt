-- What `enter` does: one call by a pass, whose own entries stand side by side and issue one number each.
use Rattle.std.specs.Prelude.{◌≡◌, ℕ, ◌+◌, ◌<◌, ◌≤◌, List, ◌++◌, length, All, Result, MatchResult}
use Rattle.rail_model.specs.declared.memory.OutOfMemory.{OutOfMemory}
use Rattle.turn_desk.specs.declared.kept.TheConstants.{MOST_PASSES}
use Rattle.turn_desk.specs.Journal.{GoesOn, AddsOwn, Calls}
use Rattle.turn_desk.specs.Known.{Known, new_passes}

module _ {E : Type 0} (pass_of : E → ℕ) (issued_by : List E → ℕ) where
  -- so many entries were made, and each issued one number more
  pub record Issues (number count : ℕ) (found after : List E) : Type 0 where
    pub adds_own : AddsOwn pass_of number found after
    pub many : length adds_own.own ≡ count
    pub issued : issued_by after ≡ issued_by found + count

  -- all entries were made, with a new pass for each; or some of them
  abbrev pub HasDrawn : Known E → Known E → ℕ → Result (List (Known E)) OutOfMemory → Type 0
  HasDrawn old new count result = MatchResult result
      (λ given. Issues old.number count old.seen new.seen
      × (given ≡ new_passes old.desk new.seen (issued_by old.seen) count))
      (λ _. (made : ℕ) × (made ≤ count) × Issues old.number made old.seen new.seen)

  -- The call made so many entries, for which numbers enough were left. It gives a new pass for each number
  -- that they issued, in order
  pub record EntersAll (old new : Known E) (count : ℕ) (given : List (Known E)) : Type 0 where
    pub call : Calls pass_of old.number old.numbers old.seen new.seen
    pub room : issued_by call.found + count ≤ MOST_PASSES
    pub many : length call.adds_own.own ≡ count
    pub issued : issued_by new.seen ≡ issued_by call.found + count
    pub passes : given ≡ new_passes old.desk new.seen (issued_by call.found) count

  -- the call found too few numbers left, and made no entry
  pub record EntersNone (old new : Known E) (count : ℕ) : Type 0 where
    pub goes_on : GoesOn pass_of old.numbers old.seen new.seen
    pub full : MOST_PASSES < issued_by new.seen + count

  -- The call made no more than so many entries. Each issued one number more, and the numbers of the pass are
  -- lesser ones. No pass is given, and a later call issues greater numbers: these go to no pass
  pub record EntersSome (old new : Known E) (count : ℕ) : Type 0 where
    pub call : Calls pass_of old.number old.numbers old.seen new.seen
    pub few : length call.adds_own.own ≤ count
    pub issued : issued_by new.seen ≡ issued_by call.found + length call.adds_own.own
    pub lesser : All (λ n. n < issued_by call.found) new.numbers

  -- who has seen these entries draws numbers that they haven't issued
  abbrev pub LaterNumbersAreGreater : Type 0
  LaterNumbersAreGreater = (entries more : List E) (old new : Known E) (count : ℕ) (given : List (Known E))
      → old.seen ≡ entries ++ more → EntersAll old new count given → All (λ k. issued_by entries ≤ k.number) given
