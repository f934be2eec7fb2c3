-- The types of the code that definitions speak of.
pub use Rattle.capacity_report.specs.declared.answers.Detail.{Detail}
