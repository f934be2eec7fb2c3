-- What tries that found the turn taken leave as it was: each is a step.
use Rattle.std.proofs.Common.{◌≡◌, ◌+◌, ◌-◌, ◌≤◌}
use Rattle.turn_desk.specs.Known.{Known}

pub record IsWaiting {E : Type 0} (old new : Known E) : Type 0 where
  pub desk : new.desk ≡ old.desk
  pub number : new.number ≡ old.number
  pub numbers : new.numbers ≡ old.numbers
  pub seen : new.seen ≡ old.seen
  pub holds : new.holds ≡ old.holds
  pub tries : old.tries ≤ new.tries
  pub steps : new.steps ≡ old.steps + (new.tries - old.tries)
