-- The types of the code that definitions speak of.
pub use Rattle.rail_model.specs.declared.edit.Edit.{Edit}
pub use Rattle.rail_model.specs.declared.edit.Kind.{Kind}
pub use Rattle.rail_model.specs.declared.edit.Rule.{Rule}
pub use Rattle.rail_model.specs.declared.items.Block.{Block}
pub use Rattle.rail_model.specs.declared.items.Connection.{Connection}
pub use Rattle.rail_model.specs.declared.items.Item.{Item}
pub use Rattle.rail_model.specs.declared.items.Leg.{Leg}
pub use Rattle.rail_model.specs.declared.items.Route.{Route}
pub use Rattle.rail_model.specs.declared.items.Run.{Run}
pub use Rattle.rail_model.specs.declared.items.Section.{Section}
pub use Rattle.rail_model.specs.declared.items.Signal.{Signal}
pub use Rattle.rail_model.specs.declared.path.Hop.{Hop}
pub use Rattle.rail_model.specs.declared.path.Path.{Path}
pub use Rattle.rail_model.specs.declared.stair.Stair.{Stair}
pub use Rattle.rail_model.specs.declared.stair.Use.{Use}
pub use Rattle.rail_model.specs.declared.tables.Tables.{Tables}
