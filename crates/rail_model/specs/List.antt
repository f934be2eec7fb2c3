-- What a list ends as, where one of its items is lent for writing.
use Rattle.std.specs.Prelude.{ℕ, List, slice_set}
use Rattle.std.specs.Borrow.{Lends, Fml, RattleType, MutBor}
use Rattle.rail_model.specs.contracts.list.List.{the_row}

-- the list ends with item i set to the last value written through r
abbrev pub LendsItem : (T : RattleType) → MutBor (List T.Denot) → ℕ → MutBor T.Denot → Fml
LendsItem T items i r = Lends (the_row T) T items r (slice_set items.now i)
