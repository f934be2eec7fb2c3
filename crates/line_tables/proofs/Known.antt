-- What an item that no rule refuses refers to, and what it is counted for.
use Rattle.std.proofs.Common.{◌≡◌, ℕ, ◌+◌, ◌≤◌, Bool, true, if◌then◌else◌, false, List, Some, None, refl, sym, ap, ◌∙◌, arith}
use Rattle.std.specs.Prelude.{option_map}
use Rattle.std.specs.List.{list_all, find}
use Rattle.std.proofs.lemmas.Bool.{and_parts, and_from}
use Rattle.rail_model.specs.declared.items.Block.{Block}
use Rattle.rail_model.specs.declared.items.Signal.{Signal}
use Rattle.rail_model.specs.declared.items.Route.{Route}
use Rattle.rail_model.specs.declared.items.Run.{Run}
use Rattle.rail_model.specs.declared.items.Section.{Section}
use Rattle.rail_model.specs.declared.items.Connection.{Connection}
use Rattle.rail_model.specs.declared.items.Item.{Item}
use Rattle.rail_model.specs.declared.items.Item.TheVariants as item
use Rattle.rail_model.specs.declared.edit.Rule.TheVariants as rule
use Rattle.rail_model.specs.declared.tables.Tables.{Tables}
use Rattle.rail_model.specs.Rules.{is_named, has_block, has_run, refers_to_known, repeats}
use Rattle.line_tables.specs.declared.linked.Linked.{Linked}
use Rattle.line_tables.specs.Table.{named, key_of, entry_of}
use Rattle.line_tables.specs.KeyCounts.{count_of, times}
use Rattle.line_tables.specs.Links.{references}
use Rattle.line_tables.specs.References.{rule_of_references}
use Rattle.line_tables.specs.Inside.{WholeTables, tables_of, names_of_signal, names_of_run, names_of_section, names_of_connection}
use Rattle.line_tables.proofs.Filed.{stored_at, some_from_map}
use Rattle.line_tables.proofs.Entries.{is_some-key_of}
use Rattle.line_tables.proofs.Views.{is_named-map, list_all_same, found_in_sum}

-- an item of a name that is there, with its key
pub entry_there : {X : Type 0} (name : X → List ℕ) (items : List (ℕ × X)) (n : List ℕ) → is_named (named name) items n ≡ true → (y : ℕ × X) × (entry_of name items n ≡ Some y)
entry_there name items n there =
    let key = stored_at (key_of name items n) (is_some-key_of name items n ∙ there) in
    let y = some_from_map (λ (e : ℕ × _). e.0) (entry_of name items n) key.0 key.1 in
    (y.0, y.1)

-- each key is counted as before, and as often more as it stands in the list
abbrev pub CountsMore : List ℕ → List ℕ → List ℕ → Type 0
CountsMore old new keys = (k : ℕ) → count_of new k ≡ count_of old k + times k keys

named_block : (t : WholeTables) (n : List ℕ) → has_block (tables_of t) n ≡ is_named (λ e. e.1.name) t.blocks n
named_block t n = is_named-map (λ (e : ℕ × Block). e.1) (λ x. x.name) t.blocks n

pub signal_knows : (t : WholeTables) (x : Signal) → refers_to_known (tables_of t) (item.Signal x) ≡ true → list_all (is_named (λ e. e.1.name) t.blocks) (names_of_signal x) ≡ true
signal_knows t x h = and_from _ true (sym (named_block t x.block) ∙ h) refl

pub section_knows : (t : WholeTables) (x : Section) → refers_to_known (tables_of t) (item.Section x) ≡ true → list_all (is_named (λ e. e.1.name) t.blocks) (names_of_section x) ≡ true
section_knows t x h = list_all_same _ _ (λ n. sym (named_block t n)) x.blocks ∙ h

-- the same as one equation
pub section_known_by : (t : WholeTables) (x : Section) → refers_to_known (tables_of t) (item.Section x) ≡ list_all (is_named (λ e. e.1.name) t.blocks) x.blocks
section_known_by t x = list_all_same _ _ (named_block t) x.blocks

pub route_known_by : (t : WholeTables) (x : Route) → refers_to_known (tables_of t) (item.Route x) ≡ list_all (is_named (λ e. e.1.item.name) t.signals) x.signals
route_known_by t x =
    list_all_same _ _ (λ n. is_named-map (λ (e : ℕ × Linked Signal). e.1.item) (λ x. x.name) t.signals n) x.signals

pub refused_unknown : (t : Tables) (x : Item) → refers_to_known t x ≡ false → rule_of_references t x ≡ Some rule.Unknown
refused_unknown t x e = rw e refl

pub refused_twice : (t : Tables) (x : Item) (twice : Bool) → refers_to_known t x ≡ true → repeats t x ≡ twice → rule_of_references t x ≡ (if twice then Some rule.Twice else None)
refused_twice t x twice e r = rw (e, r) refl

pub run_knows : (t : WholeTables) (x : Run) → refers_to_known (tables_of t) (item.Run x) ≡ true → list_all (is_named (λ e. e.1.item.name) t.routes) (names_of_run x) ≡ true
run_knows t x h =
    and_from _ true (sym (is_named-map (λ (e : ℕ × Linked Route). e.1.item) (λ x. x.name) t.routes x.route) ∙ h) refl

pub connection_knows : (t : WholeTables) (x : Connection) → refers_to_known (tables_of t) (item.Connection x) ≡ true → list_all (is_named (λ e. e.1.item.name) t.runs) (names_of_connection x) ≡ true
connection_knows t x h =
    let named : (n : List ℕ) → has_run (tables_of t) n ≡ is_named (λ e. e.1.item.name) t.runs n = is_named-map (λ (e : ℕ × Linked Run). e.1.item) (λ x. x.name) t.runs in
    let parts = and_parts _ _ h in
    and_from _ _ (sym (named x.first) ∙ parts.0) (and_from _ true (sym (named x.second) ∙ parts.1) refl)

-- a user's own references are among those of all users
pub refs_of_found : {A : Type 0} (p : ℕ × Linked A → Bool) (users : List (ℕ × Linked A)) (e : Linked A) (k : ℕ) → option_map (λ u. u.1) (find p users) ≡ Some e → times k e.refs ≤ references users k
refs_of_found p users e k h =
    let u = some_from_map (λ (u : ℕ × Linked _). u.1) (find p users) e h in
    omega (arith, found_in_sum (λ (u : ℕ × Linked _). times k u.1.refs) p users u.0 u.1, ap (λ (e : Linked _). times k e.refs) u.2)
