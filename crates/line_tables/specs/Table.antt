-- A table of named items, each under a key that stays its own: the list of (key, item) in the order of names.
use Rattle.std.specs.Prelude.{◌≡◌, ℕ, ◌==◌, if◌then◌else◌, Option, Some, List, [], map, filter_map, All, unwrap_or, option_map, IsSome, slice_get, length, ◌<◌, ◌≤◌, true, false, take, drop, slice_index_or}
use Rattle.std.specs.List.{find}
use Rattle.rail_model.specs.Name.{IsBefore, is_same, NamesRise}
use Rattle.rail_model.specs.Tables.{number_of}
use Rattle.rail_model.specs.Rules.{is_named}

module _ {X : Type 0} where
  -- the items under these keys, each with its key, where `at` tells what stands under a key
  abbrev pub filed : (ℕ → Option X) → List ℕ → List (ℕ × X)
  filed at order = filter_map (λ k. option_map (λ x. (k, x)) (at k)) order

  -- the item under a key
  abbrev pub under : List (ℕ × X) → ℕ → Option X
  under items k = option_map (λ e. e.1) (find (λ e. e.0 == k) items)

  -- the items with another one under a key
  abbrev pub with_change : List (ℕ × X) → ℕ → X → List (ℕ × X)
  with_change items k x = map (λ e. if e.0 == k then (k, x) else e) items

  -- at the key of each of the first n items stands what f makes of its number and its key
  abbrev pub AreAtKeys : {Y : Type 0} → (ℕ → ℕ → Y) → ℕ → List (ℕ × X) → List Y → Type 0
  AreAtKeys f n items ys = (i : ℕ) (e : ℕ × X) → i < n → slice_get items i ≡ Some e → slice_get ys e.0 ≡ Some (f i e.0)

  -- each of the first n items has its number at its key
  abbrev pub AreNumbered : ℕ → List (ℕ × X) → List ℕ → Type 0
  AreNumbered n items numbers = AreAtKeys (λ i k. i) n items numbers

  module _ (name : X → List ℕ) where
    -- the name of an item that stands under a key
    abbrev pub named : ℕ × X → List ℕ
    named e = name e.1

    -- the name of what stands under a key: no bytes where nothing does
    abbrev pub name_at : (ℕ → Option X) → ℕ → List ℕ
    name_at at k = unwrap_or (option_map name (at k)) []

    -- the item of a name with its key, its key, and the item alone
    abbrev pub entry_of : List (ℕ × X) → List ℕ → Option (ℕ × X)
    entry_of items n = find (λ e. is_same (name e.1) n) items

    abbrev pub key_of : List (ℕ × X) → List ℕ → Option ℕ
    key_of items n = option_map (λ e. e.0) (entry_of items n)

    abbrev pub item_of : List (ℕ × X) → List ℕ → Option X
    item_of items n = option_map (λ e. e.1) (entry_of items n)

    -- names rise, and under each key stands one item
    pub record IsTable (items : List (ℕ × X)) : Type 0 where
      pub rise : NamesRise named items
      pub keys : All (λ e. under items e.0 ≡ Some e.1) items

    -- the order has keys under which items stand, names rise along it, and `sought` finds the key of each name
    pub record IsKept (at : ℕ → Option X) (order : List ℕ) (sought : List ℕ → Option ℕ) : Type 0 where
      pub stored : All (λ k. IsSome (at k)) order
      pub rise : NamesRise named (filed at order)
      pub found : (n : List ℕ) → sought n ≡ key_of (filed at order) n

    -- the item of a name stands under the key at position i
    pub record IsPositionOf (at : ℕ → Option X) (order : List ℕ) (n : List ℕ) (i : ℕ) : Type 0 where
      pub within : i < length order
      pub number : i ≡ number_of named (filed at order) n
      pub there : is_named named (filed at order) n ≡ true
      pub item : X
      pub under : at (slice_index_or order i 0) ≡ Some item
      pub label : name item ≡ n

    -- names of items under keys before position i are before n, and those from i on after it
    pub record IsPositionFor (at : ℕ → Option X) (order : List ℕ) (n : List ℕ) (i : ℕ) : Type 0 where
      pub within : i ≤ length order
      pub missing : is_named named (filed at order) n ≡ false
      pub below : All (λ k. IsBefore (name_at at k) n) (take i order)
      pub above : All (λ k. IsBefore n (name_at at k)) (drop i order)
