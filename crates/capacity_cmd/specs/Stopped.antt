-- What a step of a call gives, where memory suffices.
use Rattle.std.specs.Prelude.{◌≡◌, ℕ, List, Result, Ok, Err}
use Rattle.capacity_cmd.specs.Types.{Cause, Stopped}
use Rattle.capacity_cmd.specs.declared.stopped.Stopped.TheVariants.{Refused, OutOfMemory}
use Rattle.capacity_cmd.specs.Outcome.{Outcome, Writes, Refuses}

-- a text that a command may write, or a refusal of the input as a whole with which it may end, or no memory
abbrev pub Makes : (Outcome → Type 0) → Result (List ℕ) (Stopped Cause) → Type 0
Makes MayEnd (Ok text) = MayEnd (Writes text)
Makes MayEnd (Err (Refused why)) = MayEnd (Refuses 0 why)
Makes MayEnd (Err OutOfMemory) = Unit {0}

-- what is defined, a value or a refusal, or no memory
abbrev pub Gives : {X W : Type 0} → Result X W → Result X (Stopped W) → Type 0
Gives defined (Ok x) = defined ≡ Ok x
Gives defined (Err (Refused why)) = defined ≡ Err why
Gives defined (Err OutOfMemory) = Unit {0}
