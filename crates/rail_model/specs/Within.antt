-- Numbers and lists within their limits.
use Rattle.std.specs.Prelude.{ℕ, ◌-◌, Bool, ◌&&◌, ◌==◌, nat_lt, nat_le, List, length, slice_index_or}
use Rattle.std.specs.List.{list_all}
use Rattle.rail_model.specs.Types.{Block, Signal, Route, Leg, Run, Section, Connection, Item}
use Rattle.rail_model.specs.declared.items.Item.TheVariants as item
use Rattle.rail_model.specs.declared.limits.TheConstants.{PATH_HOPS, GREATEST_LENGTH_M, GREATEST_START_S, GREATEST_TIME_S, GREATEST_WINDOW_END_S, GREATEST_RATE}

-- a number from 1 to a limit
abbrev pub is_from_one : ℕ → ℕ → Bool
is_from_one n most = nat_lt 0 n && nat_le n most

-- a placeholder where a run has no leg
abbrev pub no_leg : Leg
no_leg = record { running_s = 0; dwell_s = 0 }

-- the numbers of a leg are within the limits
abbrev pub is_leg_within : Leg → Bool
is_leg_within leg = is_from_one leg.running_s GREATEST_TIME_S && nat_le leg.dwell_s GREATEST_TIME_S

-- the dwell of the last leg
abbrev pub last_dwell : List Leg → ℕ
last_dwell legs = (slice_index_or legs (length legs - 1) no_leg).dwell_s

-- all numbers of an item, and the length of its list, are within the limits; a run ends without a dwell, and a window isn't empty
abbrev pub is_within : Item → Bool
is_within (item.Block b) = is_from_one b.length_m GREATEST_LENGTH_M
is_within (item.Signal s) =
    nat_le s.approach_m GREATEST_LENGTH_M && nat_le s.overlap_m GREATEST_LENGTH_M && nat_le s.watch_s GREATEST_TIME_S
    && nat_le s.form_s GREATEST_TIME_S && nat_le s.release_s GREATEST_TIME_S
is_within (item.Route r) = is_from_one (length r.signals) PATH_HOPS
is_within (item.Run r) =
    is_from_one (length r.legs) PATH_HOPS && is_from_one r.length_m GREATEST_LENGTH_M && nat_le r.tail_s GREATEST_TIME_S
    && nat_le r.start_s GREATEST_START_S && list_all is_leg_within r.legs && (last_dwell r.legs == 0)
is_within (item.Section s) =
    is_from_one (length s.blocks) PATH_HOPS && nat_le s.from_s GREATEST_START_S && is_from_one s.to_s GREATEST_WINDOW_END_S
    && nat_lt s.from_s s.to_s && nat_le s.add_percent GREATEST_RATE
is_within (item.Connection c) = nat_le c.minimum_s GREATEST_TIME_S

-- whether a block, a signal, a route, a run, a section or a connection is within its limits
abbrev pub is_block_within : Block → Bool
is_block_within b = is_within (item.Block b)

abbrev pub is_signal_within : Signal → Bool
is_signal_within s = is_within (item.Signal s)

abbrev pub is_route_within : Route → Bool
is_route_within r = is_within (item.Route r)

abbrev pub is_run_within : Run → Bool
is_run_within r = is_within (item.Run r)

abbrev pub is_section_within : Section → Bool
is_section_within s = is_within (item.Section s)

abbrev pub is_connection_within : Connection → Bool
is_connection_within c = is_within (item.Connection c)
