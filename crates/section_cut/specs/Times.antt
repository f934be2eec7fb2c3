-- Uses at the places of some and with the times of others.
use Rattle.std.specs.Prelude.{List, map}
use Rattle.std.specs.List.{zip}
use Rattle.rail_model.specs.declared.stair.Use.{Use}

-- a use of this place with this time
abbrev pub with_time : Use → Use → Use
with_time place time = record time { block = place.block }

-- the uses of these places with these times
abbrev pub with_times : List Use → List Use → List Use
with_times places times = map (λ p. with_time p.0 p.1) (zip places times)
