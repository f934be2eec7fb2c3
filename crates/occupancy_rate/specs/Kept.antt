-- A name that stands in plan_model now.
pub use Rattle.plan_model.specs.Cut.{IsBounded}
