-- The types of the code that definitions speak of.
pub use Rattle.train_order.specs.declared.entry_order.Moment.{Moment}
pub use Rattle.train_order.specs.declared.found.Disordered.{Disordered}
pub use Rattle.train_order.specs.declared.found.Order.{Order}
pub use Rattle.train_order.specs.declared.member_set.MemberSet.{MemberSet}
pub use Rattle.train_order.specs.declared.visits.Visit.{Visit}
pub use Rattle.train_order.specs.declared.ordering.WithoutSets.{WithoutSets}
