-- What a command leaves open, where it has several outcomes on one input.
use Rattle.std.specs.Prelude.{◌≡◌, ◌<◌}
use Rattle.row_text.specs.SheetRows.{text_of_rows}
use Rattle.plan_model.specs.declared.cut.Cut.{Cut}
use Rattle.cycle_time.specs.declared.found.Cycle.{Cycle}
use Rattle.cycle_time.specs.Cycle.{cycle_rows}
use Rattle.cycle_time.specs.Laws.{AreAlike}
use Rattle.capacity_cmd.specs.Types.{Command}
use Rattle.capacity_cmd.specs.declared.command.Command.TheVariants as command
use Rattle.capacity_cmd.specs.Outcome.{Outcome, Writes}

-- both outcomes are texts of cycles of one cut, with one period and the same entries: at most their circuits differ
pub record DifferInCircuit (outcome other : Outcome) : Type 0 where
  pub cut : Cut
  pub cycle : Cycle
  pub other_cycle : Cycle
  pub alike : AreAlike cycle other_cycle
  pub one : outcome ≡ Writes (text_of_rows (cycle_rows cut cycle))
  pub two : other ≡ Writes (text_of_rows (cycle_rows cut other_cycle))

-- `cycle` leaves open which circuit refuses each lesser period, and a session with workers in which order these and the
-- planners come. No other command leaves anything open
abbrev pub IsLeftOpen : Command → Outcome → Outcome → Type 0
IsLeftOpen (command.Cycle section) outcome other = DifferInCircuit outcome other
IsLeftOpen (command.Session workers) outcome other = 0 < workers
IsLeftOpen command outcome other = ⊥
