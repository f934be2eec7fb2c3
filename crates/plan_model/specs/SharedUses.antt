-- The uses of a row, as one row or several hold them.
use Rattle.std.specs.Prelude.{List, [], ◌∷◌}
use Rattle.std.specs.Arc.{arc_value}
use Rattle.rail_model.specs.declared.stair.Use.{Use}
use Rattle.plan_model.specs.declared.shared_uses.Held.{Held}
use Rattle.plan_model.specs.declared.shared_uses.Held.TheVariants as held

-- the uses that are held
abbrev pub uses_in : Held → List Use
uses_in (held.One one alloc) = one ∷ []
uses_in (held.Own uses) = uses.items
uses_in (held.Shared uses) = (arc_value uses).items
