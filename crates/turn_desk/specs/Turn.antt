-- What a turn ends as, where its value is lent for writing.
use Rattle.std.specs.Borrow.{Lends, Fml, RattleType, MutBor}
use Rattle.turn_desk.specs.contracts.turn.Turn.{the_row}

-- the turn ends with the last value written through r
abbrev pub LendsValue : (V : RattleType) → MutBor V.Denot → MutBor V.Denot → Fml
LendsValue V turn r = Lends (the_row V) V turn r (λ w. w)
