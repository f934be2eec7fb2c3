-- The types of the code that definitions speak of.
pub use Rattle.cycle_time.specs.declared.demand.Demand.{Demand}
pub use Rattle.cycle_time.specs.declared.found.Cycle.{Cycle}
pub use Rattle.cycle_time.specs.declared.found.Step.{Step}
pub use Rattle.cycle_time.specs.declared.least_period.LeastPeriod.{LeastPeriod}
pub use Rattle.cycle_time.specs.declared.settling.Settled.{Settled}
pub use Rattle.cycle_time.specs.declared.stay.Ends.{Ends}
pub use Rattle.cycle_time.specs.declared.stay.Stay.{Stay}
