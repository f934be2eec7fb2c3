use Rattle.std.proofs.Common.{◌≡◌, ◌<◌, ℕ, List, Option, Result, Ok, Err, length, arith}
use Rattle.std.specs.Prelude.{IfSome, MatchResult}
use Rattle.std.specs.Result.{result_ok}
use Rattle.slab.specs.Slab.{get as slot}
use Rattle.rail_model.specs.Tables.{number_of}
use Rattle.line_tables.specs.Table.{filed, named, IsPositionOf, IsPositionFor}
use Rattle.line_tables.proofs.Filed.{length-filed}
use Rattle.line_tables.proofs.named_table.NamedTable.number_of.Goals as goal

number : {X : Type 0} (name : X → List ℕ) (at : ℕ → Option X) (order : List ℕ) (n : List ℕ) (r : Result ℕ ℕ) → MatchResult r (IsPositionOf name at order n) (IsPositionFor name at order n) → IfSome (result_ok r) (λ i. i ≡ number_of (named name) (filed at order) n)
number name at order n (Ok i) h = h.number
number name at order n (Err i) h = tt

in_range : {X : Type 0} (name : X → List ℕ) (at : ℕ → Option X) (order : List ℕ) (n : List ℕ) (r : Result ℕ ℕ) → length (filed at order) ≡ length order → MatchResult r (IsPositionOf name at order n) (IsPositionFor name at order n) → IfSome (result_ok r) (λ i. i < length (filed at order))
in_range name at order n (Ok i) long h = let l : i < length order = h.within in omega arith
in_range name at order n (Err i) long h = tt

pub returns-clause-number : goal.returns-clause-number
returns-clause-number g c =
    rw (c.ok.ensures.value, ← c.self.view_is) (number g.T.Named.label (slot c.self.inside.slots) c.self.inside.order.items c.args.name.now c.position_of.result c.position_of.ensures)

pub returns-clause-in_range : goal.returns-clause-in_range
returns-clause-in_range g c =
    let at = slot c.self.inside.slots in
    let order = c.self.inside.order.items in
    rw (c.ok.ensures.value, ← c.self.view_is) (in_range g.T.Named.label at order c.args.name.now c.position_of.result (length-filed at order c.self.invariant.stored) c.position_of.ensures)
