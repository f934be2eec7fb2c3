-- The types of the code that definitions speak of.
pub use Rattle.path_fill.specs.declared.found.Fill.{Fill}
