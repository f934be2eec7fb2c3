-- References between the items of two tables, by key.
use Rattle.std.specs.Prelude.{◌≡◌, ℕ, ◌==◌, Bool, false, ◌&&◌, ◌||◌, Some, IsSome, List, [], ◌∷◌, map, sum_by, All, slice_index}
use Rattle.std.specs.List.{list_any}
use Rattle.std.specs.Option.{option_map_or}
use Rattle.rail_model.specs.declared.items.Signal.{Signal}
use Rattle.rail_model.specs.declared.items.Route.{Route}
use Rattle.line_tables.specs.declared.linked.Linked.{Linked}
use Rattle.line_tables.specs.Table.{under, key_of}
use Rattle.line_tables.specs.KeyCounts.{times}

-- each user refers to the items that it names, by their keys
abbrev pub IsLinked : {A B : Type 0} → (A → List (List ℕ)) → (B → List ℕ) → List (ℕ × Linked A) → List (ℕ × B) → Type 0
IsLinked names name users used = All (λ u. map (key_of name used) (names u.1.item) ≡ map Some u.1.refs) users

-- how often the users refer to a key
abbrev pub references : {A : Type 0} → List (ℕ × Linked A) → ℕ → ℕ
references users k = sum_by (λ u. times k u.1.refs) users

-- some key stands for k, where each stands for itself or for what f makes of it
abbrev pub lead_to : (ℕ → ℕ) → List ℕ → ℕ → Bool
lead_to f keys k = list_any (λ q. f q == k) keys

-- a key stands among keys
abbrev pub lists_key : List ℕ → ℕ → Bool
lists_key keys k = lead_to (λ q. q) keys k

-- a key stands twice
abbrev pub repeats_key : List ℕ → Bool
repeats_key [] = false
repeats_key (k ∷ keys) = lists_key keys k || repeats_key keys

-- the key of the block beyond the signal under a key
abbrev pub block_of : List (ℕ × Linked Signal) → ℕ → ℕ
block_of signals k = option_map_or (λ e. slice_index e.refs 0) (under signals k) 0

-- a route lists the signal under a key, and has a signal of the block under another
abbrev pub meets : List (ℕ × Linked Signal) → ℕ → ℕ → ℕ × Linked Route → Bool
meets signals signal block r = lists_key r.1.refs signal && lead_to (block_of signals) r.1.refs block

-- a key under which an item stands
abbrev pub IsKey : {A : Type 0} → List (ℕ × A) → ℕ → Type 0
IsKey items k = IsSome (under items k)
