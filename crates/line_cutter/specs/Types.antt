-- The types of the code that definitions speak of.
pub use Rattle.line_cutter.specs.declared.found.Cutting.{Cutting}
pub use Rattle.line_cutter.specs.declared.found.Stretch.{Stretch}
pub use Rattle.line_cutter.specs.declared.longest.Longest.{Longest}
pub use Rattle.line_cutter.specs.declared.opposed.StartRange.{StartRange}
