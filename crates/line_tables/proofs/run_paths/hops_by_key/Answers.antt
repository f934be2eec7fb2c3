use Rattle.std.proofs.Common.{◌≡◌, ℕ, ◌+◌, List, get_or, Some, refl, ap, ◌∙◌, subst, sym}
use Rattle.std.specs.Prelude.{option_map, slice_get}
use Rattle.std.proofs.Math.ListN.{set}
use Rattle.std.proofs.lemmas.Option.{slice_get_within, get_or_from_slice_get}
use Rattle.rail_model.specs.declared.items.Signal.{Signal}
use Rattle.rail_model.specs.Blocking.{no_hop}
use Rattle.line_tables.specs.declared.linked.Linked.{Linked}
use Rattle.line_tables.specs.Table.{under, IsTable, AreAtKeys}
use Rattle.line_tables.specs.Links.{IsKey}
use Rattle.line_tables.specs.Hops.{hop_of}
use Rattle.line_tables.proofs.Filed.{some_from_map}
use Rattle.line_tables.proofs.Numbers.{at_keys_more}
use Rattle.line_tables.proofs.Labels.{signal_name}
use Rattle.line_tables.proofs.run_paths.hops_by_key.Goals as goal

-- an item stands under the key of a number
key_there : (signals : List (ℕ × Linked Signal)) (n key : ℕ) → IsTable signal_name signals → option_map (λ e. e.0) (slice_get signals n) ≡ Some key → IsKey signals key
key_there signals n key table here =
    let y = some_from_map (λ (e : ℕ × Linked Signal). e.0) (slice_get signals n) key here in
    let at = get_or_from_slice_get signals n y.0 y.0 y.1 in
    let stands = subst (λ k. under signals k ≡ Some (get_or signals n y.0).1) (ap (λ (e : ℕ × Linked Signal). e.0) at ∙ y.2) (table.keys n y.0 (slice_get_within signals n y.0 y.1)) in
    rw stands refl

pub untimed_hop-requires-clause-there : goal.untimed_hop-requires-clause-there
untimed_hop-requires-clause-there c =
    key_there c.args.signals.now c.loop-number.number c.key_at-key.result c.key_at-key.ensures.table c.key_at-key.ensures.key

pub loop-number-preserved : goal.loop-number-preserved
loop-number-preserved c =
    let signals = c.args.signals.now in
    let n = c.loop-number.number in
    let key = c.key_at-key.result in
    let grown = c.in_ok-grow.ensures in
    let long = c.grow.new.hops.items in
    subst (λ h. AreAtKeys (λ i k. hop_of c.args.blocks.now signals k) (n + 1) signals (set long key h)) (sym c.untimed_hop.ensures)
    (at_keys_more signal_name signals (λ i k. hop_of c.args.blocks.now signals k) no_hop c.loop-number.hops.items long n key
    c.key_at-key.ensures.table c.key_at-key.ensures.key grown.same grown.longer grown.within c.loop-number.invariant)
