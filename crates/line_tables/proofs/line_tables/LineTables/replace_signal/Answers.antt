use Rattle.std.proofs.Common.{◌≡◌, ◌≢◌, ◌==◌, ◌∷◌, ◌∙◌, ℕ, List, [], Bool, true, false, if◌then◌else◌, Option, Some, None, get_or, map, refl, ap, sym, inl, inr, arith}
use Rattle.std.specs.Prelude.{is_some}
use Rattle.std.proofs.lemmas.Bool.{cases_Bool, both_ways, eqb-true, eq-eqb}
use Rattle.rail_model.specs.declared.items.Block.{Block}
use Rattle.rail_model.specs.declared.items.Signal.{Signal}
use Rattle.rail_model.specs.declared.items.Route.{Route}
use Rattle.rail_model.specs.declared.items.Item.TheVariants as item
use Rattle.rail_model.specs.declared.edit.Rule.{Rule}
use Rattle.rail_model.specs.declared.edit.Rule.TheVariants.{Unknown, Twice}
use Rattle.rail_model.specs.Rules.{has_signal, has_block, makes_repeat, rule_of_change}
use Rattle.rail_model.specs.Within.{is_within}
use Rattle.line_tables.specs.declared.linked.Linked.{Linked}
use Rattle.line_tables.specs.Table.{with_change, key_of, IsTable}
use Rattle.line_tables.specs.KeySet.{Meets, KeepsApart}
use Rattle.line_tables.specs.Links.{block_of}
use Rattle.line_tables.specs.Inside.{whole_tables, WholeTables, tables_of, names_of_signal, IsJoined}
use Rattle.line_tables.proofs.Entries.{is_some-key_of}
use Rattle.line_tables.proofs.Found.{name_under, found_by_key}
use Rattle.line_tables.proofs.References.{entry}
use Rattle.line_tables.proofs.Views.{is_named-map, map-with_change}
use Rattle.line_tables.proofs.Meets.{makes_repeat_where_moved, makes_none_where_same}
use Rattle.line_tables.proofs.Reaches.{meet_tells}
use Rattle.line_tables.proofs.Moves.{one_block, follows_after}
use Rattle.line_tables.proofs.Known.{refs_of_found}
use Rattle.line_tables.proofs.Answered.{refuses, makes}
use Rattle.line_tables.proofs.RulesOfChange.{refused_signal, refused_block, refused_repeat}
use Rattle.line_tables.proofs.KeptLine.{kept_table, names_after_change, joined_with_signals}
use Rattle.line_tables.proofs.JoinedSignals.{signal_change}
use Rattle.line_tables.proofs.Labels.{block_name, signal_name}
use Rattle.line_tables.proofs.line_tables.LineTables.replace_signal.Goals as goal

abbrev answer : Bool → Option Rule
answer twice = if twice then Some Twice else None

has_signal_by : (t : WholeTables) (n : List ℕ) → has_signal (tables_of t) n ≡ is_some (key_of signal_name t.signals n)
has_signal_by t n =
    is_named-map (λ (e : ℕ × Linked Signal). e.1.item) (λ x. x.name) t.signals n ∙ sym (is_some-key_of signal_name t.signals n)

has_block_by : (t : WholeTables) (n : List ℕ) → has_block (tables_of t) n ≡ is_some (key_of block_name t.blocks n)
has_block_by t n = is_named-map (λ (e : ℕ × Block). e.1) (λ x. x.name) t.blocks n ∙ sym (is_some-key_of block_name t.blocks n)

-- what refuses a signal that is there, and whose block is: a second signal of that block on one of its routes, or nothing
module _ (t : WholeTables) (j : IsJoined t) (signals : IsTable signal_name t.signals) (blocks : IsTable block_name t.blocks) (routes : IsTable (λ (e : Linked Route). e.item.name) t.routes) (s : Signal) (key to : ℕ) (here : key_of signal_name t.signals s.name ≡ Some key) (known : key_of block_name t.blocks s.block ≡ Some to) where
  met : (from : ℕ) → from ≡ block_of t.signals key → (twice : Bool) → (from ≡ to → twice ≡ false) → (from ≢ to → twice ≡ true → Meets (get_or t.route_sets.of_signals key []) (get_or t.route_sets.of_blocks to [])) → (from ≢ to → twice ≡ false → KeepsApart (get_or t.route_sets.of_signals key []) (get_or t.route_sets.of_blocks to [])) → makes_repeat (tables_of t) (item.Signal s) ≡ twice
  met from is twice stays some none =
      let image = block_of t.signals key in
      elim (cases_Bool (image == to)) [
        | inl e ↦
            let same = eqb-true image to e in
            makes_none_where_same t j signals blocks s key to here known same ∙ sym (stays (is ∙ same))
        | inr e ↦
            let apart : from ≢ to = λ f. both_ways (image == to) e (eq-eqb image to (sym is ∙ f)) in
            makes_repeat_where_moved t j signals blocks s key to here known e
            ∙ sym (meet_tells t.signals t.routes t.route_sets.of_signals t.route_sets.of_blocks key to j.signal_routes j.block_routes twice routes (some apart) (none apart))
      ]

  told : is_within (item.Signal s) ≡ true → (twice : Bool) → makes_repeat (tables_of t) (item.Signal s) ≡ twice → rule_of_change (tables_of t) (item.Signal s) ≡ answer twice
  told within twice is =
      refused_repeat (tables_of t) s within (has_signal_by t s.name ∙ ap is_some here) (has_block_by t s.block ∙ ap is_some known) twice is

pub returns-in_default : goal.returns-in_default
returns-in_default c =
    let t = whole_tables c.self.inside in
    let s = c.args.signal in
    rw (← c.self.view_is) (refuses _ _ _ _ Unknown (refused_signal (tables_of t) s c.requires (has_signal_by t s.name ∙ ap is_some (sym c.in_default.ensures.key))) refl)

pub returns-in_default-key_of : goal.returns-in_default-key_of
returns-in_default-key_of c =
    let t = whole_tables c.self.inside in
    let s = c.args.signal in
    rw (← c.self.view_is) (refuses _ _ _ _ Unknown (refused_block (tables_of t) s c.requires (has_signal_by t s.name ∙ ap is_some (sym c.in-Some.ensures.key)) (has_block_by t s.block ∙ ap is_some (sym c.in_default-key_of.ensures.key))) refl)

pub block_of-from-requires-clause-there : goal.block_of-from-requires-clause-there
block_of-from-requires-clause-there c =
    let found = found_by_key signal_name c.self.inside.signals c.args.signal.name c.in-Some.key c.key_of.ensures.table (sym c.in-Some.ensures.key) in
    rw found.1.under refl

pub block_of-from-requires-clause-one : goal.block_of-from-requires-clause-one
block_of-from-requires-clause-one c = one_block (whole_tables c.self.inside) c.self.invariant

pub returns-then-meet_where_moved : goal.returns-then-meet_where_moved
returns-then-meet_where_moved c =
    let t = whole_tables c.self.inside in
    let s = c.args.signal in
    let asked = c.meet_where_moved in
    let is = met t c.self.invariant c.key_of.ensures.table c.key_of-2.ensures.table (kept_table c.self.inside c.learn_order.ensures) s c.in-Some.key c.in-Some-key_of.to (sym c.in-Some.ensures.key) (sym c.in-Some-key_of.ensures.key) c.block_of-from.result c.block_of-from.ensures asked.result asked.ensures.stays asked.ensures.some asked.ensures.none in
    let rule = told t c.self.invariant c.key_of.ensures.table c.key_of-2.ensures.table (kept_table c.self.inside c.learn_order.ensures) s c.in-Some.key c.in-Some-key_of.to (sym c.in-Some.ensures.key) (sym c.in-Some-key_of.ensures.key) c.requires asked.result is in
    rw (← c.self.view_is) (refuses _ _ _ _ Twice (rule ∙ ap answer c.if-meet_where_moved.true) refl)

pub change_linked-requires-clause-same_name : goal.change_linked-requires-clause-same_name
change_linked-requires-clause-same_name c =
    name_under signal_name c.self.inside.signals c.args.signal.name c.in-Some.key c.key_of.ensures.table (sym c.in-Some.ensures.key)

pub change_linked-requires-clause-counted_before : goal.change_linked-requires-clause-counted_before
change_linked-requires-clause-counted_before c e k h =
    let t = whole_tables c.self.inside in
    let key = c.in-Some.key in
    omega (arith, c.self.invariant.block_uses k, refs_of_found (λ u. u.0 == key) t.signals e k h)

pub invariant_of-self-2 : goal.invariant_of-self-2
invariant_of-self-2 c =
    let t = whole_tables c.self.inside in
    let s = c.args.signal in
    let key = c.in-Some.key in
    let to = c.in-Some-key_of.to in
    let from = c.block_of-from.result in
    let refs = c.in_ok-refs.refs in
    let asked = c.meet_where_moved in
    let done = c.in_ok-change_linked.ensures in
    let room = c.make_room_to_move.ensures in
    let moves = c.move_routes.ensures in
    let is = met t c.self.invariant c.key_of.ensures.table c.key_of-2.ensures.table (kept_table c.self.inside c.learn_order.ensures) s key to (sym c.in-Some.ensures.key) (sym c.in-Some-key_of.ensures.key) from c.block_of-from.ensures asked.result asked.ensures.stays asked.ensures.some asked.ensures.none in
    let rule = told t c.self.invariant c.key_of.ensures.table c.key_of-2.ensures.table (kept_table c.self.inside c.learn_order.ensures) s key to (sym c.in-Some.ensures.key) (sym c.in-Some-key_of.ensures.key) c.requires asked.result is in
    let same = name_under signal_name t.signals s.name key c.key_of.ensures.table (sym c.in-Some.ensures.key) in
    let found : map (key_of block_name t.blocks) (names_of_signal s) ≡ map Some refs = rw c.in_ok-refs.ensures (ap (λ o. o ∷ []) (sym c.in-Some-key_of.ensures.key)) in
    rw done.changed
    (joined_with_signals c.self.inside (with_change t.signals key (entry s refs)) c.change_linked.new.uses c.move_routes.new.self (names_after_change c.self.inside c.self.invariant c.key_of.ensures.table key (entry s refs) same)
    (signal_change t key s refs c.change_linked.new.uses c.self.invariant c.key_of.ensures.table same (rule ∙ ap answer c.if-meet_where_moved.false) found done.counted from to c.move_routes.new.self c.key_of-2.ensures.table (sym c.block_of-from.ensures) (ap (λ l. get_or l 0 0) c.in_ok-refs.ensures) (moves.signals ∙ room.signals)
    (follows_after t.route_sets.of_signals c.make_room_to_move.new.self.of_signals key from to t.route_sets.of_blocks c.make_room_to_move.new.self.of_blocks c.move_routes.new.self.of_blocks room.signals room.blocks moves.stayed moves.moved)))

pub returns : goal.returns
returns c =
    let t = whole_tables c.self.inside in
    let s = c.args.signal in
    let asked = c.meet_where_moved in
    let is = met t c.self.invariant c.key_of.ensures.table c.key_of-2.ensures.table (kept_table c.self.inside c.learn_order.ensures) s c.in-Some.key c.in-Some-key_of.to (sym c.in-Some.ensures.key) (sym c.in-Some-key_of.ensures.key) c.block_of-from.result c.block_of-from.ensures asked.result asked.ensures.stays asked.ensures.some asked.ensures.none in
    let rule = told t c.self.invariant c.key_of.ensures.table c.key_of-2.ensures.table (kept_table c.self.inside c.learn_order.ensures) s c.in-Some.key c.in-Some-key_of.to (sym c.in-Some.ensures.key) (sym c.in-Some-key_of.ensures.key) c.requires asked.result is in
    let same = name_under signal_name t.signals s.name c.in-Some.key c.key_of.ensures.table (sym c.in-Some.ensures.key) in
    rw (← c.self.view_is, c.in_ok-change_linked.ensures.changed)
    (makes _ _ _ _ (rule ∙ ap answer c.if-meet_where_moved.false)
    (ap (λ l. tables_of (record t { signals = with_change t.signals c.in-Some.key (entry s c.in_ok-refs.refs); routes = l })) (names_after_change c.self.inside c.self.invariant c.key_of.ensures.table c.in-Some.key (entry s c.in_ok-refs.refs) same)
    ∙ ap (λ l. record (tables_of t) { signals = l }) (map-with_change (λ (e : Linked _). e.item) (λ x. x.name) t.signals c.in-Some.key (entry s c.in_ok-refs.refs) c.key_of.ensures.table same)))
