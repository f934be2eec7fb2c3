use Rattle.std.proofs.Common.{◌≡◌, take}
use Rattle.rail_model.proofs.copies.copy_routes.Given as goal

abbrev pub invariant-loop-route : goal.invariant-loop-route
invariant-loop-route l = l.others ≡ take l.route-index l.routes
