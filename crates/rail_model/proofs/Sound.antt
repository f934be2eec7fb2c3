-- An edit that no rule refuses keeps tables sound.
use Rattle.std.proofs.Common.{◌≡◌, ℕ, Bool, true, false, not, eqb, ◌&&◌, ◌||◌, List, [], ◌∷◌, length, map, get_or, Some, None, if◌then◌else◌, refl, sym, ap, ◌∙◌, inl, inr, arith}
use Rattle.std.specs.Prelude.{◌<◌, nat_le, IsTrue}
use Rattle.std.specs.List.{list_any, list_all, All}
use Rattle.std.proofs.lemmas.Bool.{both_ways, and_parts, and_from, and_cases, or_parts, or_from, cases_Bool, false_from_ne_true, leb-false, not-true}
use Rattle.std.proofs.lemmas.List.Elements.{All-filter}
use Rattle.std.proofs.lemmas.List.Folds.{list_any_none}
use Rattle.rail_model.specs.declared.items.Block.{Block}
use Rattle.rail_model.specs.declared.items.Signal.{Signal}
use Rattle.rail_model.specs.declared.items.Route.{Route}
use Rattle.rail_model.specs.declared.items.Run.{Run}
use Rattle.rail_model.specs.declared.items.Section.{Section}
use Rattle.rail_model.specs.declared.items.Connection.{Connection}
use Rattle.rail_model.specs.declared.items.Item.{Item}
use Rattle.rail_model.specs.declared.items.Item.TheVariants as item
use Rattle.rail_model.specs.declared.edit.Kind.{Kind}
use Rattle.rail_model.specs.declared.edit.Kind.TheVariants as kind
use Rattle.rail_model.specs.declared.edit.Edit.{Edit}
use Rattle.rail_model.specs.declared.edit.Edit.TheVariants as edit
use Rattle.rail_model.specs.declared.edit.Rule.TheVariants.{Range, Twice, Unknown, Limit, Count, InUse}
use Rattle.rail_model.specs.declared.tables.Tables.{Tables}
use Rattle.rail_model.specs.declared.limits.TheConstants.{BLOCKS, SIGNALS, ROUTES, RUNS, SECTIONS, CONNECTIONS}
use Rattle.rail_model.specs.Name.{is_same, has_repeat}
use Rattle.rail_model.specs.Tables.{no_signal, no_route, signal_named, route_named}
use Rattle.rail_model.specs.Within.{is_within}
use Rattle.rail_model.specs.Rules.{with_item, with_changed, without, after_put, after_change, after_drop, after, is_named, has_block, has_signal, has_run, has, lists, kind_of_item, name_of_item, is_taken, is_full, refers_to_known, repeats_block, repeats, miscounts_legs, makes_repeat, makes_miscount, is_used, rule_of_put, rule_of_change, rule_of_drop, rule_of, Stands, AreSound, IsSound}
use Rattle.rail_model.proofs.Members.{never, not_never, Keeps, none_passes, grown_by_put, All-with_item, not_named-with_item, length-with_changed, is_named-with_changed, NamesRise-with_changed, kept_by_change, first-with_changed, All-with_changed, kept_by_drop, NamesRise-without, length-without, not_named-without}
use Rattle.rail_model.proofs.NameOrder.{same_name, is_same-sym}

-- ---- lists of names

-- names that are known and not gone are known afterwards
names_kept : (p q gone : List ℕ → Bool) → ((n : List ℕ) → gone n ≡ false → p n ≡ true → q n ≡ true) → (names : List (List ℕ)) → list_any gone names ≡ false → list_all p names ≡ true → list_all q names ≡ true
names_kept p q gone keeps [] g h = refl
names_kept p q gone keeps (n ∷ names) g h =
    let apart = or_parts (gone n) (list_any gone names) g in
    let parts = and_parts (p n) (list_all p names) h in
    and_from (q n) (list_all q names) (keeps n apart.0 parts.0) (names_kept p q gone keeps names apart.1 parts.1)

-- and a look-up that is the same for them gives the same list
look_ups_kept : {Y : Type 0} (p other : List ℕ → Bool) (f g : List ℕ → Y) → ((n : List ℕ) → other n ≡ false → p n ≡ true → f n ≡ g n) → (names : List (List ℕ)) → list_any other names ≡ false → list_all p names ≡ true → map f names ≡ map g names
look_ups_kept p other f g same [] o h = refl
look_ups_kept p other f g same (n ∷ names) o h =
    let apart = or_parts (other n) (list_any other names) o in
    let parts = and_parts (p n) (list_all p names) h in
    rw (same n apart.0 parts.0, look_ups_kept p other f g same names apart.1 parts.1) refl

list_any-never : (names : List (List ℕ)) → list_any never names ≡ false
list_any-never [] = refl
list_any-never (n ∷ names) = rw (not_never n, list_any-never names) refl

-- both hold of each element
both : {X : Type 0} (P Q R : X → Type 0) → ((x : X) → P x → Q x → R x) → (xs : List X) → All P xs → All Q xs → All R xs
both P Q R from xs ps qs = λ k d l. from (get_or xs k d) (ps k d l) (qs k d l)

-- ---- one kind

-- an item that stands in t stands in u where the tests give the same there
moved : (t u : Tables) (x : Item) → IsTrue (refers_to_known u x) → IsTrue (not (repeats u x)) → IsTrue (not (miscounts_legs u x)) → Stands t x → Stands u x
moved t u x known no_repeat count h = record { within = h.within; known = known; no_repeat = no_repeat; count = count }

module _ {X : Type 0} (t u : Tables) (of_kind : X → Item) (name : X → List ℕ) (limit : ℕ) (items : List X) where
  -- a kind that stays is sound in u where each of its items stands there
  kept : ((k : ℕ) (d : X) → k < length items → Stands t (of_kind (get_or items k d)) → Stands u (of_kind (get_or items k d))) → AreSound t of_kind name limit items → AreSound u of_kind name limit items
  kept stand a = record { names = a.names; most = a.most; each = λ k d l. stand k d l (a.each k d l) }

  -- a kind with one more, one changed, or one less
  put_list : (x : X) → AreSound t of_kind name limit items → is_named name items (name x) ≡ false → nat_le limit (length items) ≡ false → Stands t (of_kind x) → AreSound t of_kind name limit (with_item name items x)
  put_list x a new room stands =
      let grown = grown_by_put name items x a.names new in
      record {
        names = grown.rise;
        most = omega (arith, grown.count, leb-false limit (length items) room);
        each = All-with_item name items x (λ y. Stands t (of_kind y)) stands a.each;
      }

  change_list : (x : X) → AreSound t of_kind name limit items → Stands t (of_kind x) → AreSound t of_kind name limit (with_changed name items x)
  change_list x a stands = record {
    names = NamesRise-with_changed name x items a.names;
    most = rw (length-with_changed name x items) a.most;
    each = All-with_changed name x (λ y. Stands t (of_kind y)) items stands a.each;
  }

  drop_list : (n : List ℕ) → AreSound t of_kind name limit items → AreSound t of_kind name limit (without name items n)
  drop_list n a = record {
    names = NamesRise-without name n items a.names;
    most = omega (arith, length-without name n items, a.most);
    each = All-filter (λ y. not (is_same (name y) n)) (λ y. Stands t (of_kind y)) items a.each;
  }

-- ---- tables of which one kind is another list

module _ (t : Tables) (s : IsSound t) where
  -- a connection whose runs are not gone
  both_known : (u : Tables) (gone : List ℕ → Bool) → ((n : List ℕ) → gone n ≡ false → has_run t n ≡ true → has_run u n ≡ true) → (c : Connection) → (gone c.first || gone c.second) ≡ false → (has_run t c.first && has_run t c.second) ≡ true → (has_run u c.first && has_run u c.second) ≡ true
  both_known u gone keeps c g h =
      let apart = or_parts (gone c.first) (gone c.second) g in
      let parts = and_parts (has_run t c.first) (has_run t c.second) h in
      and_from (has_run u c.first) (has_run u c.second) (keeps c.first apart.0 parts.0) (keeps c.second apart.1 parts.1)

  pub blocks_moved : (blocks : List Block) → AreSound t item.Block (λ x. x.name) BLOCKS blocks → (gone other : List ℕ → Bool) → Keeps (λ (x : Block). x.name) t.blocks blocks gone other → All (λ g. gone g.block ≡ false) t.signals → All (λ c. list_any gone c.blocks ≡ false) t.sections → All (λ c. is_named (λ (x : Block). x.name) blocks c.name ≡ false) t.connections → IsSound (record t { blocks = blocks })
  blocks_moved blocks new gone other k signals sections apart =
      let u = record t { blocks = blocks } in
      record {
        blocks = kept t u item.Block (λ x. x.name) BLOCKS blocks (λ k d l h. moved t u (item.Block (get_or blocks k d)) h.known h.no_repeat h.count h) new;
        signals = kept t u item.Signal (λ x. x.name) SIGNALS t.signals (λ i d l h. moved t u (item.Signal (get_or t.signals i d)) (k.names (get_or t.signals i d).block (signals i d l) h.known) h.no_repeat h.count h) s.signals;
        routes = kept t u item.Route (λ x. x.name) ROUTES t.routes (λ k d l h. moved t u (item.Route (get_or t.routes k d)) h.known h.no_repeat h.count h) s.routes;
        runs = kept t u item.Run (λ x. x.name) RUNS t.runs (λ k d l h. moved t u (item.Run (get_or t.runs k d)) h.known h.no_repeat h.count h) s.runs;
        sections = kept t u item.Section (λ x. x.name) SECTIONS t.sections (λ i d l h. moved t u (item.Section (get_or t.sections i d)) (names_kept (has_block t) (has_block u) gone k.names (get_or t.sections i d).blocks (sections i d l) h.known) h.no_repeat h.count h) s.sections;
        connections = kept t u item.Connection (λ x. x.name) CONNECTIONS t.connections (λ k d l h. moved t u (item.Connection (get_or t.connections k d)) h.known h.no_repeat h.count h) s.connections;
        apart = apart;
      }

  pub signals_moved : (signals : List Signal) → AreSound t item.Signal (λ x. x.name) SIGNALS signals → (gone other : List ℕ → Bool) → Keeps (λ (x : Signal). x.name) t.signals signals gone other → All (λ r. list_any gone r.signals ≡ false) t.routes → All (λ r. repeats_block (record t { signals = signals }) r ≡ false) t.routes → IsSound (record t { signals = signals })
  signals_moved signals new gone other k routes differ =
      let u = record t { signals = signals } in
      record {
        blocks = kept t u item.Block (λ x. x.name) BLOCKS t.blocks (λ k d l h. moved t u (item.Block (get_or t.blocks k d)) h.known h.no_repeat h.count h) s.blocks;
        signals = kept t u item.Signal (λ x. x.name) SIGNALS signals (λ k d l h. moved t u (item.Signal (get_or signals k d)) h.known h.no_repeat h.count h) new;
        routes = kept t u item.Route (λ x. x.name) ROUTES t.routes (λ i d l h. moved t u (item.Route (get_or t.routes i d)) (names_kept (has_signal t) (has_signal u) gone k.names (get_or t.routes i d).signals (routes i d l) h.known) (ap not (differ i d l)) h.count h) s.routes;
        runs = kept t u item.Run (λ x. x.name) RUNS t.runs (λ k d l h. moved t u (item.Run (get_or t.runs k d)) h.known h.no_repeat h.count h) s.runs;
        sections = kept t u item.Section (λ x. x.name) SECTIONS t.sections (λ k d l h. moved t u (item.Section (get_or t.sections k d)) h.known h.no_repeat h.count h) s.sections;
        connections = kept t u item.Connection (λ x. x.name) CONNECTIONS t.connections (λ k d l h. moved t u (item.Connection (get_or t.connections k d)) h.known h.no_repeat h.count h) s.connections;
        apart = s.apart;
      }

  pub routes_moved : (routes : List Route) → AreSound t item.Route (λ x. x.name) ROUTES routes → (gone other : List ℕ → Bool) → Keeps (λ (x : Route). x.name) t.routes routes gone other → All (λ r. gone r.route ≡ false) t.runs → All (λ r. miscounts_legs (record t { routes = routes }) (item.Run r) ≡ false) t.runs → IsSound (record t { routes = routes })
  routes_moved routes new gone other k runs counts =
      let u = record t { routes = routes } in
      record {
        blocks = kept t u item.Block (λ x. x.name) BLOCKS t.blocks (λ k d l h. moved t u (item.Block (get_or t.blocks k d)) h.known h.no_repeat h.count h) s.blocks;
        signals = kept t u item.Signal (λ x. x.name) SIGNALS t.signals (λ k d l h. moved t u (item.Signal (get_or t.signals k d)) h.known h.no_repeat h.count h) s.signals;
        routes = kept t u item.Route (λ x. x.name) ROUTES routes (λ k d l h. moved t u (item.Route (get_or routes k d)) h.known h.no_repeat h.count h) new;
        runs = kept t u item.Run (λ x. x.name) RUNS t.runs (λ i d l h. moved t u (item.Run (get_or t.runs i d)) (k.names (get_or t.runs i d).route (runs i d l) h.known) h.no_repeat (ap not (counts i d l)) h) s.runs;
        sections = kept t u item.Section (λ x. x.name) SECTIONS t.sections (λ k d l h. moved t u (item.Section (get_or t.sections k d)) h.known h.no_repeat h.count h) s.sections;
        connections = kept t u item.Connection (λ x. x.name) CONNECTIONS t.connections (λ k d l h. moved t u (item.Connection (get_or t.connections k d)) h.known h.no_repeat h.count h) s.connections;
        apart = s.apart;
      }

  pub runs_moved : (runs : List Run) → AreSound t item.Run (λ x. x.name) RUNS runs → (gone other : List ℕ → Bool) → Keeps (λ (x : Run). x.name) t.runs runs gone other → All (λ c. (gone c.first || gone c.second) ≡ false) t.connections → IsSound (record t { runs = runs })
  runs_moved runs new gone other k connections =
      let u = record t { runs = runs } in
      record {
        blocks = kept t u item.Block (λ x. x.name) BLOCKS t.blocks (λ k d l h. moved t u (item.Block (get_or t.blocks k d)) h.known h.no_repeat h.count h) s.blocks;
        signals = kept t u item.Signal (λ x. x.name) SIGNALS t.signals (λ k d l h. moved t u (item.Signal (get_or t.signals k d)) h.known h.no_repeat h.count h) s.signals;
        routes = kept t u item.Route (λ x. x.name) ROUTES t.routes (λ k d l h. moved t u (item.Route (get_or t.routes k d)) h.known h.no_repeat h.count h) s.routes;
        runs = kept t u item.Run (λ x. x.name) RUNS runs (λ k d l h. moved t u (item.Run (get_or runs k d)) h.known h.no_repeat h.count h) new;
        sections = kept t u item.Section (λ x. x.name) SECTIONS t.sections (λ k d l h. moved t u (item.Section (get_or t.sections k d)) h.known h.no_repeat h.count h) s.sections;
        connections = kept t u item.Connection (λ x. x.name) CONNECTIONS t.connections (λ i d l h. moved t u (item.Connection (get_or t.connections i d)) (both_known u gone k.names (get_or t.connections i d) (connections i d l) h.known) h.no_repeat h.count h) s.connections;
        apart = s.apart;
      }

  pub sections_moved : (sections : List Section) → AreSound t item.Section (λ x. x.name) SECTIONS sections → IsSound (record t { sections = sections })
  sections_moved sections new =
      let u = record t { sections = sections } in
      record {
        blocks = kept t u item.Block (λ x. x.name) BLOCKS t.blocks (λ k d l h. moved t u (item.Block (get_or t.blocks k d)) h.known h.no_repeat h.count h) s.blocks;
        signals = kept t u item.Signal (λ x. x.name) SIGNALS t.signals (λ k d l h. moved t u (item.Signal (get_or t.signals k d)) h.known h.no_repeat h.count h) s.signals;
        routes = kept t u item.Route (λ x. x.name) ROUTES t.routes (λ k d l h. moved t u (item.Route (get_or t.routes k d)) h.known h.no_repeat h.count h) s.routes;
        runs = kept t u item.Run (λ x. x.name) RUNS t.runs (λ k d l h. moved t u (item.Run (get_or t.runs k d)) h.known h.no_repeat h.count h) s.runs;
        sections = kept t u item.Section (λ x. x.name) SECTIONS sections (λ k d l h. moved t u (item.Section (get_or sections k d)) h.known h.no_repeat h.count h) new;
        connections = kept t u item.Connection (λ x. x.name) CONNECTIONS t.connections (λ k d l h. moved t u (item.Connection (get_or t.connections k d)) h.known h.no_repeat h.count h) s.connections;
        apart = s.apart;
      }

  pub connections_moved : (connections : List Connection) → AreSound t item.Connection (λ x. x.name) CONNECTIONS connections → All (λ c. has_block t c.name ≡ false) connections → IsSound (record t { connections = connections })
  connections_moved connections new apart =
      let u = record t { connections = connections } in
      record {
        blocks = kept t u item.Block (λ x. x.name) BLOCKS t.blocks (λ k d l h. moved t u (item.Block (get_or t.blocks k d)) h.known h.no_repeat h.count h) s.blocks;
        signals = kept t u item.Signal (λ x. x.name) SIGNALS t.signals (λ k d l h. moved t u (item.Signal (get_or t.signals k d)) h.known h.no_repeat h.count h) s.signals;
        routes = kept t u item.Route (λ x. x.name) ROUTES t.routes (λ k d l h. moved t u (item.Route (get_or t.routes k d)) h.known h.no_repeat h.count h) s.routes;
        runs = kept t u item.Run (λ x. x.name) RUNS t.runs (λ k d l h. moved t u (item.Run (get_or t.runs k d)) h.known h.no_repeat h.count h) s.runs;
        sections = kept t u item.Section (λ x. x.name) SECTIONS t.sections (λ k d l h. moved t u (item.Section (get_or t.sections k d)) h.known h.no_repeat h.count h) s.sections;
        connections = kept t u item.Connection (λ x. x.name) CONNECTIONS connections (λ k d l h. moved t u (item.Connection (get_or connections k d)) h.known h.no_repeat h.count h) new;
        apart = apart;
      }

-- ---- the rules of an accepted edit

-- no rule refuses a put
pub record IsAccepted (t : Tables) (x : Item) : Type 0 where
  pub within : is_within x ≡ true
  pub new : is_taken t x ≡ false
  pub room : is_full t x ≡ false
  pub known : refers_to_known t x ≡ true
  pub no_repeat : repeats t x ≡ false
  pub count : miscounts_legs t x ≡ false

no_rule : (a b c d e f : Bool) → (if not a then Some Range else if b then Some Twice else if c then Some Limit else if not d then Some Unknown else if e then Some Twice else if f then Some Count else None) ≡ None → (a ≡ true) × (b ≡ false) × (c ≡ false) × (d ≡ true) × (e ≡ false) × (f ≡ false)
no_rule false b c d e f h = absurd (cc)
no_rule true true c d e f h = absurd (cc)
no_rule true false true d e f h = absurd (cc)
no_rule true false false false e f h = absurd (cc)
no_rule true false false true true f h = absurd (cc)
no_rule true false false true false true h = absurd (cc)
no_rule true false false true false false h = (refl, refl, refl, refl, refl, refl)

pub accepted : (t : Tables) (x : Item) → rule_of_put t x ≡ None → IsAccepted t x
accepted t x h =
    let all = no_rule (is_within x) (is_taken t x) (is_full t x) (refers_to_known t x) (repeats t x) (miscounts_legs t x) h in
    record { within = all.0; new = all.1; room = all.2; known = all.3; no_repeat = all.4; count = all.5 }

stands_put : (t : Tables) (x : Item) → IsAccepted t x → Stands t x
stands_put t x a = record { within = a.within; known = a.known; no_repeat = ap not a.no_repeat; count = ap not a.count }

-- no rule refuses a change
pub record IsChangeable (t : Tables) (x : Item) : Type 0 where
  pub within : is_within x ≡ true
  pub there : has t (kind_of_item x) (name_of_item x) ≡ true
  pub known : refers_to_known t x ≡ true
  pub no_repeat : repeats t x ≡ false
  pub makes_none : makes_repeat t x ≡ false
  pub count : miscounts_legs t x ≡ false
  pub counts : makes_miscount t x ≡ false

no_rule_of_change : (a b c d e f g : Bool) → (if not a then Some Range else if not b then Some Unknown else if not c then Some Unknown else if d || e then Some Twice else if f || g then Some Count else None) ≡ None → (a ≡ true) × (b ≡ true) × (c ≡ true) × (d ≡ false) × (e ≡ false) × (f ≡ false) × (g ≡ false)
no_rule_of_change false b c d e f g h = absurd (cc)
no_rule_of_change true false c d e f g h = absurd (cc)
no_rule_of_change true true false d e f g h = absurd (cc)
no_rule_of_change true true true true e f g h = absurd (cc)
no_rule_of_change true true true false true f g h = absurd (cc)
no_rule_of_change true true true false false true g h = absurd (cc)
no_rule_of_change true true true false false false true h = absurd (cc)
no_rule_of_change true true true false false false false h = (refl, refl, refl, refl, refl, refl, refl)

pub changeable : (t : Tables) (x : Item) → rule_of_change t x ≡ None → IsChangeable t x
changeable t x h =
    let all = no_rule_of_change (is_within x) (has t (kind_of_item x) (name_of_item x)) (refers_to_known t x) (repeats t x) (makes_repeat t x) (miscounts_legs t x) (makes_miscount t x) h in
    record { within = all.0; there = all.1; known = all.2; no_repeat = all.3; makes_none = all.4; count = all.5; counts = all.6 }

stands_change : (t : Tables) (x : Item) → IsChangeable t x → Stands t x
stands_change t x a = record { within = a.within; known = a.known; no_repeat = ap not a.no_repeat; count = ap not a.count }

-- no rule refuses a drop
pub record IsFree (t : Tables) (k : Kind) (n : List ℕ) : Type 0 where
  pub there : has t k n ≡ true
  pub unused : is_used t k n ≡ false

no_rule_of_drop : (a b : Bool) → (if not a then Some Unknown else if b then Some InUse else None) ≡ None → (a ≡ true) × (b ≡ false)
no_rule_of_drop false b h = absurd (cc)
no_rule_of_drop true true h = absurd (cc)
no_rule_of_drop true false h = (refl, refl)

pub free : (t : Tables) (k : Kind) (n : List ℕ) → rule_of_drop t k n ≡ None → IsFree t k n
free t k n h =
    let all = no_rule_of_drop (has t k n) (is_used t k n) h in
    record { there = all.0; unused = all.1 }

-- ---- look-ups that stay

-- a route has signals of the same blocks in both tables where no signal of it is other
repeats_kept : (t u : Tables) (other : List ℕ → Bool) → ((n : List ℕ) → other n ≡ false → has_signal t n ≡ true → signal_named u n ≡ signal_named t n) → (r : Route) → list_any other r.signals ≡ false → Stands t (item.Route r) → repeats_block u r ≡ false
repeats_kept t u other same r o h =
    ap has_repeat (look_ups_kept (has_signal t) other (λ n. (signal_named u n).block) (λ n. (signal_named t n).block) (λ n apart known. ap (λ (x : Signal). x.block) (same n apart known)) r.signals o h.known)
    ∙ not-true (repeats_block t r) h.no_repeat

-- a run's legs are as many as the signals of its route in both tables where its route is not other
count_kept : (t u : Tables) → (r : Run) → route_named u r.route ≡ route_named t r.route → Stands t (item.Run r) → miscounts_legs u (item.Run r) ≡ false
count_kept t u r same h =
    ap (λ (x : Route). not (eqb (length r.legs) (length x.signals))) same ∙ not-true (miscounts_legs t (item.Run r)) h.count

-- ---- a put

pub IsSound-after_put : (t : Tables) (x : Item) → IsSound t → rule_of_put t x ≡ None → IsSound (after_put t x)
IsSound-after_put t (item.Block x) s none =
    let a = accepted t (item.Block x) none in
    let new = or_parts (has_block t x.name) (has t kind.Connection x.name) a.new in
    let grown = grown_by_put (λ (y : Block). y.name) t.blocks x s.blocks.names new.0 in
    blocks_moved t s (with_item (λ y. y.name) t.blocks x) (put_list t t item.Block (λ y. y.name) BLOCKS t.blocks x s.blocks new.0 a.room (stands_put t (item.Block x) a)) never never grown.keeps
    (λ k d l. not_never (get_or t.signals k d).block)
    (λ k d l. list_any-never (get_or t.sections k d).blocks)
    (λ k d l. not_named-with_item (λ (y : Block). y.name) t.blocks x (get_or t.connections k d).name (s.apart k d l)
    (is_same-sym x.name (get_or t.connections k d).name ∙ none_passes (λ c. is_same c.name x.name) t.connections new.1 k d l))
IsSound-after_put t (item.Signal x) s none =
    let a = accepted t (item.Signal x) none in
    let grown = grown_by_put (λ (y : Signal). y.name) t.signals x s.signals.names a.new in
    let u = after_put t (item.Signal x) in
    signals_moved t s u.signals (put_list t t item.Signal (λ y. y.name) SIGNALS t.signals x s.signals a.new a.room (stands_put t (item.Signal x) a)) never never grown.keeps
    (λ k d l. list_any-never (get_or t.routes k d).signals)
    (λ k d l. repeats_kept t u never (λ n o known. grown.keeps.first n no_signal o known) (get_or t.routes k d) (list_any-never (get_or t.routes k d).signals) (s.routes.each k d l))
IsSound-after_put t (item.Route x) s none =
    let a = accepted t (item.Route x) none in
    let grown = grown_by_put (λ (y : Route). y.name) t.routes x s.routes.names a.new in
    let u = after_put t (item.Route x) in
    routes_moved t s u.routes (put_list t t item.Route (λ y. y.name) ROUTES t.routes x s.routes a.new a.room (stands_put t (item.Route x) a)) never never grown.keeps
    (λ k d l. not_never (get_or t.runs k d).route)
    (λ k d l.
    let r = get_or t.runs k d in
    count_kept t u r (grown.keeps.first r.route no_route (not_never r.route) (s.runs.each k d l).known) (s.runs.each k d l))
IsSound-after_put t (item.Run x) s none =
    let a = accepted t (item.Run x) none in
    let grown = grown_by_put (λ (y : Run). y.name) t.runs x s.runs.names a.new in
    runs_moved t s (with_item (λ y. y.name) t.runs x) (put_list t t item.Run (λ y. y.name) RUNS t.runs x s.runs a.new a.room (stands_put t (item.Run x) a)) never never grown.keeps
    (λ k d l. or_from (never (get_or t.connections k d).first) (never (get_or t.connections k d).second) (not_never (get_or t.connections k d).first) (not_never (get_or t.connections k d).second))
IsSound-after_put t (item.Section x) s none =
    let a = accepted t (item.Section x) none in
    sections_moved t s (with_item (λ y. y.name) t.sections x) (put_list t t item.Section (λ y. y.name) SECTIONS t.sections x s.sections a.new a.room (stands_put t (item.Section x) a))
IsSound-after_put t (item.Connection x) s none =
    let a = accepted t (item.Connection x) none in
    let new = or_parts (has t kind.Connection x.name) (has_block t x.name) a.new in
    connections_moved t s (with_item (λ y. y.name) t.connections x) (put_list t t item.Connection (λ y. y.name) CONNECTIONS t.connections x s.connections new.0 a.room (stands_put t (item.Connection x) a))
    (All-with_item (λ (y : Connection). y.name) t.connections x (λ c. has_block t c.name ≡ false) new.1 s.apart)

-- ---- a change

pub IsSound-after_change : (t : Tables) (x : Item) → IsSound t → rule_of_change t x ≡ None → IsSound (after_change t x)
IsSound-after_change t (item.Block x) s none =
    let a = changeable t (item.Block x) none in
    let u = after_change t (item.Block x) in
    blocks_moved t s u.blocks (change_list t t item.Block (λ y. y.name) BLOCKS t.blocks x s.blocks (stands_change t (item.Block x) a)) never (λ n. is_same n x.name) (kept_by_change (λ (y : Block). y.name) x t.blocks)
    (λ k d l. not_never (get_or t.signals k d).block)
    (λ k d l. list_any-never (get_or t.sections k d).blocks)
    (λ k d l. is_named-with_changed (λ (y : Block). y.name) x (get_or t.connections k d).name t.blocks ∙ s.apart k d l)
IsSound-after_change t (item.Signal x) s none =
    let a = changeable t (item.Signal x) none in
    let u = after_change t (item.Signal x) in
    let keeps = kept_by_change (λ (y : Signal). y.name) x t.signals in
    let listed = none_passes (λ (r : Route). lists r.signals x.name && repeats_block u r) t.routes a.makes_none in
    signals_moved t s u.signals (change_list t t item.Signal (λ y. y.name) SIGNALS t.signals x s.signals (stands_change t (item.Signal x) a)) never (λ n. is_same n x.name) keeps
    (λ k d l. list_any-never (get_or t.routes k d).signals)
    (λ k d l.
    let r = get_or t.routes k d in
    elim (and_cases (lists r.signals x.name) (repeats_block u r) (listed k d l)) [
      | inl apart ↦ repeats_kept t u (λ n. is_same n x.name) (λ n o known. keeps.first n no_signal o known) r apart (s.routes.each k d l)
      | inr none ↦ none
    ])
IsSound-after_change t (item.Route x) s none =
    let a = changeable t (item.Route x) none in
    let u = after_change t (item.Route x) in
    let keeps = kept_by_change (λ (y : Route). y.name) x t.routes in
    let counted = none_passes (λ (r : Run). is_same r.route x.name && not (eqb (length r.legs) (length x.signals))) t.runs a.counts in
    routes_moved t s u.routes (change_list t t item.Route (λ y. y.name) ROUTES t.routes x s.routes (stands_change t (item.Route x) a)) never (λ n. is_same n x.name) keeps
    (λ k d l. not_never (get_or t.runs k d).route)
    (λ k d l.
    let r = get_or t.runs k d in
    elim (cases_Bool (is_same r.route x.name)) [
      | inl e ↦
          let here : route_named u r.route ≡ x = ap (route_named u) (same_name r.route x.name e) ∙ first-with_changed (λ (y : Route). y.name) x t.routes no_route a.there in
          rw here (elim (and_cases (is_same r.route x.name) (not (eqb (length r.legs) (length x.signals))) (counted k d l)) [
            | inl apart ↦ absurd (both_ways (is_same r.route x.name) apart e)
            | inr none ↦ none
          ])
      | inr e ↦ count_kept t u r (keeps.first r.route no_route e (s.runs.each k d l).known) (s.runs.each k d l)
    ])
IsSound-after_change t (item.Run x) s none =
    let a = changeable t (item.Run x) none in
    runs_moved t s (with_changed (λ y. y.name) t.runs x) (change_list t t item.Run (λ y. y.name) RUNS t.runs x s.runs (stands_change t (item.Run x) a)) never (λ n. is_same n x.name) (kept_by_change (λ (y : Run). y.name) x t.runs)
    (λ k d l. or_from (never (get_or t.connections k d).first) (never (get_or t.connections k d).second) (not_never (get_or t.connections k d).first) (not_never (get_or t.connections k d).second))
IsSound-after_change t (item.Section x) s none =
    let a = changeable t (item.Section x) none in
    sections_moved t s (with_changed (λ y. y.name) t.sections x) (change_list t t item.Section (λ y. y.name) SECTIONS t.sections x s.sections (stands_change t (item.Section x) a))
IsSound-after_change t (item.Connection x) s none =
    let a = changeable t (item.Connection x) none in
    connections_moved t s (with_changed (λ y. y.name) t.connections x) (change_list t t item.Connection (λ y. y.name) CONNECTIONS t.connections x s.connections (stands_change t (item.Connection x) a))
    (All-with_changed (λ (y : Connection). y.name) x (λ c. has_block t c.name ≡ false) t.connections (apart_there t s x a.there) s.apart)
  where
    -- a connection whose name is there has no block's name
    apart_there : (t : Tables) → IsSound t → (x : Connection) → has t kind.Connection x.name ≡ true → has_block t x.name ≡ false
    apart_there t s x there =
        false_from_ne_true (has_block t x.name) (λ block. both_ways (has t kind.Connection x.name)
        (list_any_none (λ c. is_same c.name x.name) t.connections (λ k d l.
        false_from_ne_true (is_same (get_or t.connections k d).name x.name) (λ same. both_ways (has_block t x.name)
        (ap (has_block t) (sym (same_name (get_or t.connections k d).name x.name same)) ∙ s.apart k d l) block))) there)

-- ---- a drop

pub IsSound-after_drop : (t : Tables) (k : Kind) (n : List ℕ) → IsSound t → rule_of_drop t k n ≡ None → IsSound (after_drop t k n)
IsSound-after_drop t kind.Block n s none =
    let a = free t kind.Block n none in
    let apart = or_parts (list_any (λ (g : Signal). is_same g.block n) t.signals) (list_any (λ (c : Section). lists c.blocks n) t.sections) a.unused in
    blocks_moved t s (without (λ y. y.name) t.blocks n) (drop_list t t item.Block (λ y. y.name) BLOCKS t.blocks n s.blocks) (λ m. is_same m n) (λ m. is_same m n) (kept_by_drop (λ (y : Block). y.name) n t.blocks)
    (none_passes (λ (g : Signal). is_same g.block n) t.signals apart.0)
    (none_passes (λ (c : Section). lists c.blocks n) t.sections apart.1)
    (λ k d l. not_named-without (λ (y : Block). y.name) n (get_or t.connections k d).name t.blocks (s.apart k d l))
IsSound-after_drop t kind.Signal n s none =
    let a = free t kind.Signal n none in
    let u = after_drop t kind.Signal n in
    let keeps = kept_by_drop (λ (y : Signal). y.name) n t.signals in
    let apart = none_passes (λ (r : Route). lists r.signals n) t.routes a.unused in
    signals_moved t s u.signals (drop_list t t item.Signal (λ y. y.name) SIGNALS t.signals n s.signals) (λ m. is_same m n) (λ m. is_same m n) keeps apart
    (λ k d l. repeats_kept t u (λ m. is_same m n) (λ m o known. keeps.first m no_signal o known) (get_or t.routes k d) (apart k d l) (s.routes.each k d l))
IsSound-after_drop t kind.Route n s none =
    let a = free t kind.Route n none in
    let u = after_drop t kind.Route n in
    let keeps = kept_by_drop (λ (y : Route). y.name) n t.routes in
    let apart = none_passes (λ (r : Run). is_same r.route n) t.runs a.unused in
    routes_moved t s u.routes (drop_list t t item.Route (λ y. y.name) ROUTES t.routes n s.routes) (λ m. is_same m n) (λ m. is_same m n) keeps apart
    (λ k d l.
    let r = get_or t.runs k d in
    count_kept t u r (keeps.first r.route no_route (apart k d l) (s.runs.each k d l).known) (s.runs.each k d l))
IsSound-after_drop t kind.Run n s none =
    let a = free t kind.Run n none in
    runs_moved t s (without (λ y. y.name) t.runs n) (drop_list t t item.Run (λ y. y.name) RUNS t.runs n s.runs) (λ m. is_same m n) (λ m. is_same m n) (kept_by_drop (λ (y : Run). y.name) n t.runs)
    (none_passes (λ (c : Connection). is_same c.first n || is_same c.second n) t.connections a.unused)
IsSound-after_drop t kind.Section n s none =
    sections_moved t s (without (λ y. y.name) t.sections n) (drop_list t t item.Section (λ y. y.name) SECTIONS t.sections n s.sections)
IsSound-after_drop t kind.Connection n s none =
    connections_moved t s (without (λ y. y.name) t.connections n) (drop_list t t item.Connection (λ y. y.name) CONNECTIONS t.connections n s.connections)
    (All-filter (λ (c : Connection). not (is_same c.name n)) (λ c. has_block t c.name ≡ false) t.connections s.apart)

-- ---- an edit

pub IsSound-after : (t : Tables) (e : Edit) → IsSound t → rule_of t e ≡ None → IsSound (after t e)
IsSound-after t (edit.Put x) s none = IsSound-after_put t x s none
IsSound-after t (edit.Change x) s none = IsSound-after_change t x s none
IsSound-after t (edit.Drop k n) s none = IsSound-after_drop t k n s none
