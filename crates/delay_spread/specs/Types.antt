-- The types of the code that definitions speak of.
pub use Rattle.delay_spread.specs.declared.found.Held.{Held}
pub use Rattle.delay_spread.specs.declared.found.Spread.{Spread}
