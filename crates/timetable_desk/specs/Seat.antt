-- What contracts see of a seat.
use Rattle.std.specs.Prelude.{ℕ}
use Rattle.turn_desk.specs.Known.{Known}
use Rattle.turn_desk.specs.Laws.{numbers_of}
use Rattle.plan_model.specs.declared.journal.Entry.{Entry}
use Rattle.plan_model.specs.Board.{Access}

-- a seat: its pass, how many readings it was given, and how many uses were taken of the last that it handed back
pub record Seated : Type 0 where
  pub pass : Known Entry
  pub readings : ℕ
  pub handed : ℕ

-- the seat of a pass that was given no reading yet
abbrev pub new_seat : Known Entry → Seated
new_seat pass = record { pass = pass; readings = 0; handed = 0 }

-- the access that a seat has: to the journal of its desk, by its pass
abbrev pub access_of : Seated → Access
access_of s = record {
  journal = numbers_of s.pass.desk;
  pass = s.pass.number;
  numbers = s.pass.numbers;
  seen = s.pass.seen;
  readings = s.readings;
  handed = s.handed;
}
