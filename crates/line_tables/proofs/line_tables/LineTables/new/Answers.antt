use Rattle.std.proofs.Common.{◌≡◌, ℕ, false, List, [], refl, arith}
use Rattle.rail_model.specs.declared.items.Item.{Item}
use Rattle.rail_model.specs.Rules.{AreSound, no_tables}
use Rattle.line_tables.specs.KeySet.{holds}
use Rattle.line_tables.proofs.Bits.{holds_past}
use Rattle.line_tables.proofs.line_tables.LineTables.new.Goals as goal

-- no items are sound
none_sound : {X : Type 0} (of_kind : X → Item) (name : X → List ℕ) (limit : ℕ) → AreSound no_tables of_kind name limit []
none_sound of_kind name limit = record {
  names = λ i j d lt l. absurd (omega arith);
  most = omega arith;
  each = λ k d l. absurd (omega arith);
}

none_held : (r : ℕ) → holds [] r ≡ false
none_held r = holds_past [] r (omega arith)

pub invariant_of-result : goal.invariant_of-result
invariant_of-result c =
    rw (c.new.ensures, c.new-2.ensures, c.new-3.ensures, c.new-4.ensures, c.new-5.ensures, c.new-6.ensures, c.new-7.ensures, c.new-8.ensures, c.new-9.ensures, c.new-10.ensures, c.new-11.ensures.signals, c.new-11.ensures.blocks)
    (record {
      sound = record {
        blocks = none_sound _ _ _;
        signals = none_sound _ _ _;
        routes = none_sound _ _ _;
        runs = none_sound _ _ _;
        sections = none_sound _ _ _;
        connections = none_sound _ _ _;
        apart = λ k d l. absurd (omega arith);
      };
      signals = λ k d l. absurd (omega arith);
      routes = λ k d l. absurd (omega arith);
      runs = λ k d l. absurd (omega arith);
      sections = λ k d l. absurd (omega arith);
      connections = λ k d l. absurd (omega arith);
      block_uses = λ k. refl;
      signal_uses = λ k. refl;
      route_uses = λ k. refl;
      run_uses = λ k. refl;
      signal_routes = λ x r. none_held r;
      block_routes = λ x r. none_held r;
    })
