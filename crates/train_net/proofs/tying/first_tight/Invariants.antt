use Rattle.std.proofs.Common.{◌<◌, take}
use Rattle.std.specs.Prelude.{IfSome}
use Rattle.plan_model.specs.Members.{place_count}
use Rattle.train_net.specs.Reading.{IsFirstOf}
use Rattle.train_net.proofs.tying.first_tight.Given as goal

-- the first of the first edges
abbrev pub invariant-loop-edge : goal.invariant-loop-edge
invariant-loop-edge l = record {
  first : IsFirstOf l.cut (take l.edge-index l.edges) l.entries l.entry l.best;
  there : IfSome l.best (λ e. e.place < place_count l.cut);
}
