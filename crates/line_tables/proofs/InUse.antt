-- Whether an item is in use, by the counts, and which rule refuses to drop it.
use Rattle.std.proofs.Common.{◌≡◌, ℕ, ◌+◌, Bool, not, ◌||◌, if◌then◌else◌, List, Option, Some, None, refl, sym, ap, ◌∙◌, arith}
use Rattle.std.specs.Prelude.{nat_lt, is_some}
use Rattle.std.proofs.lemmas.Bool.Decides.{nat_tests}
use Rattle.rail_model.specs.declared.items.Block.{Block}
use Rattle.rail_model.specs.declared.items.Signal.{Signal}
use Rattle.rail_model.specs.declared.items.Route.{Route}
use Rattle.rail_model.specs.declared.items.Run.{Run}
use Rattle.rail_model.specs.declared.edit.Kind.TheVariants as kind
use Rattle.rail_model.specs.declared.edit.Rule.TheVariants.{Unknown, InUse}
use Rattle.rail_model.specs.Name.{is_same}
use Rattle.rail_model.specs.Rules.{lists, has, is_used, rule_of_drop}
use Rattle.line_tables.specs.declared.linked.Linked.{Linked}
use Rattle.line_tables.specs.Table.{key_of, IsTable}
use Rattle.line_tables.specs.KeyCounts.{count_of}
use Rattle.line_tables.specs.Links.{references}
use Rattle.line_tables.specs.References.{rule_of_key}
use Rattle.line_tables.specs.Inside.{WholeTables, tables_of, names_of_signal, names_of_route, names_of_run, names_of_section, names_of_connection, IsJoined}
use Rattle.line_tables.proofs.Entries.{is_some-key_of}
use Rattle.line_tables.proofs.Views.{is_named-map}
use Rattle.line_tables.proofs.Joined.{is_listed, referred}
use Rattle.line_tables.proofs.JoinedTrains.{either_is_listed}

positive_either : (a b : ℕ) → nat_lt 0 (a + b) ≡ (nat_lt 0 a || nat_lt 0 b)
positive_either a b = grind (arith, nat_tests)

pub block_used : (t : WholeTables) (n : List ℕ) (k : ℕ) → IsJoined t → IsTable (λ b. b.name) t.blocks → key_of (λ b. b.name) t.blocks n ≡ Some k → nat_lt 0 (count_of t.block_uses k) ≡ is_used (tables_of t) kind.Block n
block_used t n k j table key =
    let by_signal = referred names_of_signal (λ x. x.name) (λ b. b.name) t.signals t.blocks j.signals table n k key (λ s. is_same s.block n) (λ s. is_listed s.block n) in
    let by_section = referred names_of_section (λ x. x.name) (λ b. b.name) t.sections t.blocks j.sections table n k key (λ s. lists s.blocks n) (λ s. refl) in
    ap (nat_lt 0) (j.block_uses k) ∙ positive_either (references t.signals k) (references t.sections k) ∙ rw (by_signal, by_section) refl

pub signal_used : (t : WholeTables) (n : List ℕ) (k : ℕ) → IsJoined t → IsTable (λ e. e.item.name) t.signals → key_of (λ e. e.item.name) t.signals n ≡ Some k → nat_lt 0 (count_of t.signal_uses k) ≡ is_used (tables_of t) kind.Signal n
signal_used t n k j table key =
    ap (nat_lt 0) (j.signal_uses k) ∙ sym (referred names_of_route (λ x. x.name) (λ e. e.item.name) t.routes t.signals j.routes table n k key (λ r. lists r.signals n) (λ r. refl))

pub route_used : (t : WholeTables) (n : List ℕ) (k : ℕ) → IsJoined t → IsTable (λ e. e.item.name) t.routes → key_of (λ e. e.item.name) t.routes n ≡ Some k → nat_lt 0 (count_of t.route_uses k) ≡ is_used (tables_of t) kind.Route n
route_used t n k j table key =
    ap (nat_lt 0) (j.route_uses k) ∙ sym (referred names_of_run (λ x. x.name) (λ e. e.item.name) t.runs t.routes j.runs table n k key (λ r. is_same r.route n) (λ r. is_listed r.route n))

pub run_used : (t : WholeTables) (n : List ℕ) (k : ℕ) → IsJoined t → IsTable (λ e. e.item.name) t.runs → key_of (λ e. e.item.name) t.runs n ≡ Some k → nat_lt 0 (count_of t.run_uses k) ≡ is_used (tables_of t) kind.Run n
run_used t n k j table key =
    ap (nat_lt 0) (j.run_uses k) ∙ sym (referred names_of_connection (λ x. x.name) (λ e. e.item.name) t.connections t.runs j.connections table n k key (λ c. is_same c.first n || is_same c.second n) (λ c. sym (either_is_listed c n)))

-- ---- the rule that refuses a drop

told_by_key : (uses : List ℕ) (found : Option ℕ) (there used : Bool) → there ≡ is_some found → ((k : ℕ) → found ≡ Some k → nat_lt 0 (count_of uses k) ≡ used) → rule_of_key uses found ≡ (if not there then Some Unknown else if used then Some InUse else None)
told_by_key uses None there used is counted = rw is refl
told_by_key uses (Some k) there used is counted = rw (is, counted k refl) refl

module _ (t : WholeTables) (n : List ℕ) (found : Option ℕ) (j : IsJoined t) where
  pub block_dropped : IsTable (λ b. b.name) t.blocks → found ≡ key_of (λ b. b.name) t.blocks n → rule_of_key t.block_uses found ≡ rule_of_drop (tables_of t) kind.Block n
  block_dropped table is =
      told_by_key t.block_uses found (has (tables_of t) kind.Block n) (is_used (tables_of t) kind.Block n)
      (is_named-map (λ (e : ℕ × Block). e.1) (λ x. x.name) t.blocks n ∙ sym (is_some-key_of (λ (b : Block). b.name) t.blocks n) ∙ ap is_some (sym is))
      (λ k e. block_used t n k j table (sym is ∙ e))

  pub signal_dropped : IsTable (λ e. e.item.name) t.signals → found ≡ key_of (λ e. e.item.name) t.signals n → rule_of_key t.signal_uses found ≡ rule_of_drop (tables_of t) kind.Signal n
  signal_dropped table is =
      told_by_key t.signal_uses found (has (tables_of t) kind.Signal n) (is_used (tables_of t) kind.Signal n)
      (is_named-map (λ (e : ℕ × Linked Signal). e.1.item) (λ x. x.name) t.signals n ∙ sym (is_some-key_of (λ (e : Linked Signal). e.item.name) t.signals n) ∙ ap is_some (sym is))
      (λ k e. signal_used t n k j table (sym is ∙ e))

  pub route_dropped : IsTable (λ e. e.item.name) t.routes → found ≡ key_of (λ e. e.item.name) t.routes n → rule_of_key t.route_uses found ≡ rule_of_drop (tables_of t) kind.Route n
  route_dropped table is =
      told_by_key t.route_uses found (has (tables_of t) kind.Route n) (is_used (tables_of t) kind.Route n)
      (is_named-map (λ (e : ℕ × Linked Route). e.1.item) (λ x. x.name) t.routes n ∙ sym (is_some-key_of (λ (e : Linked Route). e.item.name) t.routes n) ∙ ap is_some (sym is))
      (λ k e. route_used t n k j table (sym is ∙ e))

  pub run_dropped : IsTable (λ e. e.item.name) t.runs → found ≡ key_of (λ e. e.item.name) t.runs n → rule_of_key t.run_uses found ≡ rule_of_drop (tables_of t) kind.Run n
  run_dropped table is =
      told_by_key t.run_uses found (has (tables_of t) kind.Run n) (is_used (tables_of t) kind.Run n)
      (is_named-map (λ (e : ℕ × Linked Run). e.1.item) (λ x. x.name) t.runs n ∙ sym (is_some-key_of (λ (e : Linked Run). e.item.name) t.runs n) ∙ ap is_some (sym is))
      (λ k e. run_used t n k j table (sym is ∙ e))
