-- The names of the items that pass a test, where names rise; and the uses of a run's connections by these names.
use Rattle.std.proofs.Common.{◌≡◌, ℕ, zero, suc, ◌+◌, ◌<◌, Bool, false, cond, List, [], ◌∷◌, ◌++◌, map, length, get_or, take, Option, Some, None, refl, ap, ◌∙◌, inl, inr, arith}
use Rattle.std.specs.Prelude.{All, filter}
use Rattle.std.specs.Option.{option_to_list}
use Rattle.std.specs.List.{filter_map, cons_option, enumerate_from, list_any}
use Rattle.std.proofs.lemmas.Bool.{cases_Bool, or_parts}
use Rattle.std.proofs.lemmas.List.{length-map, get_or-map, take_more}
use Rattle.std.proofs.lemmas.List.Elements.{All-head, All-tail, All-filter, All-map, filter_map-append}
use Rattle.std.proofs.lemmas.List.Folds.{list_any_none}
use Rattle.std.proofs.lemmas.List.Kept.{AllPairs-filter}
use Rattle.rail_model.specs.declared.items.Run.{Run}
use Rattle.rail_model.specs.declared.items.Section.{Section}
use Rattle.rail_model.specs.declared.items.Connection.{Connection}
use Rattle.rail_model.specs.declared.tables.Tables.{Tables}
use Rattle.rail_model.specs.Name.{is_same, IsBefore, NamesRise}
use Rattle.rail_model.specs.Rules.{is_named, IsSound}
use Rattle.rail_model.specs.Tables.{number_of}
use Rattle.rail_model.proofs.Lists.{AllPairs-map}
use Rattle.rail_model.proofs.NameOrder.{is_same-from, is_same-before, is_same-after}
use Rattle.rail_model.proofs.Places.{number_of-found}
use Rattle.plan_model.specs.Cut.{binds, binding_connections, connection_use, uses_of_connections}
use Rattle.section_cut.specs.Connected.{joins, use_if_listed}

module _ {X : Type 0} (name : X → List ℕ) (p : X → Bool) where
  -- their names rise
  pub names_rise : (xs : List X) → NamesRise name xs → NamesRise (λ (n : List ℕ). n) (map name (filter p xs))
  names_rise xs rise =
      AllPairs-map name IsBefore (filter p xs) (AllPairs-filter (λ (a : X) (b : X). IsBefore (name a) (name b)) p xs rise)

  -- an item's name is one of them exactly where the item passes
  pub listed_is : (xs : List X) → NamesRise name xs → All (λ x. is_named (λ n. n) (map name (filter p xs)) (name x) ≡ p x) xs
  listed_is xs rise k d l = at xs k rise l d
    where
      at : (xs : List X) (k : ℕ) → NamesRise name xs → k < length xs → (d : X)
          → list_any (λ n. is_same n (name (get_or xs k d))) (map name (filter p xs)) ≡ p (get_or xs k d)
      at [] k rise l d = absurd (omega (arith, l))
      at (x ∷ xs) zero rise l d =
          elim (cases_Bool (p x)) [
            | inl e ↦ rw (e, is_same-from (name x) (name x) refl) refl
            | inr e ↦ rw e
                (list_any_none (λ (n : List ℕ). is_same n (name x)) (map name (filter p xs))
                (All-map (λ (n : List ℕ). is_same n (name x) ≡ false) name (filter p xs)
                (All-filter p (λ y. is_same (name y) (name x) ≡ false) xs
                (λ i e m. is_same-after (name x) (name (get_or xs i e)) (rise 0 (suc i) e (omega arith) (omega (arith, m)))))))
          ]
      at (x ∷ xs) (suc k) rise l d =
          let rest = at xs k (λ i j e before below. rise (suc i) (suc j) e (omega (arith, before)) (omega (arith, below))) (omega (arith, l)) d in
          elim (cases_Bool (p x)) [
            | inl e ↦ rw (e, is_same-before (name x) (name (get_or xs k d)) (rise 0 (suc k) d (omega arith) (omega (arith, l)))) rest
            | inr e ↦ rw e rest
          ]

  -- and its place among them is its number among the items that pass
  pub number_at : (xs : List X) → NamesRise name xs → (k : ℕ) (d : X) → k < length (filter p xs)
      → number_of (λ (n : List ℕ). n) (map name (filter p xs)) (name (get_or (filter p xs) k d)) ≡ k
  number_at xs rise k d l =
      number_of-found (λ (n : List ℕ). n) (map name (filter p xs)) (name (get_or (filter p xs) k d)) k (names_rise xs rise)
      (omega (arith, l, length-map (filter p xs) name)) (λ e. get_or-map name (filter p xs) k d e l)

-- of numbered items that pass a test those to which another test gives something are found by their numbers
walked : {X Y : Type 0} (p q listed : X → Bool) (f : ℕ × X → Option Y) (place : X → ℕ) (n : ℕ) (xs : List X)
    → ((m : ℕ) (x : X) → q x ≡ false → f (m, x) ≡ None) → All (λ x. listed x ≡ p x) xs
    → ((k : ℕ) (d : X) → k < length (filter p xs) → place (get_or (filter p xs) k d) ≡ n + k)
    → filter_map (λ x. cond (listed x) (f (place x, x)) None) (filter q xs) ≡ filter_map f (enumerate_from n (filter p xs))
walked p q listed f place n [] none same at = refl
walked {X} {Y} p q listed f place n (x ∷ xs) none same at =
    let tail = All-tail (λ x. listed x ≡ p x) x xs same in
    let here : listed x ≡ p x = All-head (λ x. listed x ≡ p x) x xs same in
    let g : X → Option Y = λ x. cond (listed x) (f (place x, x)) None in
    elim (cases_Bool (p x)) [
      | inl e ↦
          let later : (k : ℕ) (d : X) → k < length (filter p xs) → place (get_or (filter p xs) k d) ≡ (n + 1) + k =
          λ k d l.
          let whole : place (get_or (filter p (x ∷ xs)) (suc k) d) ≡ n + suc k = at (suc k) d (rw e (omega (arith, l))) in
          let it : place (get_or (filter p xs) k d) ≡ n + suc k = rw e at whole in
          omega (arith, it) in
          let rest = walked p q listed f place (n + 1) xs none tail later in
          let whole : place (get_or (filter p (x ∷ xs)) 0 x) ≡ n + 0 = at 0 x (rw e (omega arith)) in
          let first : place x ≡ n + 0 = rw e at whole in
          let number : place x ≡ n = omega (arith, first) in
          elim (cases_Bool (q x)) [
            | inl h ↦ rw (e, h) (rw (here ∙ e, number) (ap (cons_option (f (n, x))) rest))
            | inr h ↦ rw (e, h) (rw (none n x h) rest)
          ]
      | inr e ↦
          let later : (k : ℕ) (d : X) → k < length (filter p xs) → place (get_or (filter p xs) k d) ≡ n + k =
          λ k d l.
          let whole : place (get_or (filter p (x ∷ xs)) k d) ≡ n + k = at k d (rw e l) in
          rw e at whole in
          let rest = walked p q listed f place n xs none tail later in
          elim (cases_Bool (q x)) [
            | inl h ↦ rw (e, h) (rw (here ∙ e) rest)
            | inr h ↦ rw (e, h) rest
          ]
    ]

-- a run's uses of its connections that are among these names are its uses of those that bind
pub uses_listed : (tables : Tables) → IsSound tables → (s : Section) (run : Run) (names : List (List ℕ))
    → names ≡ map (λ (c : Connection). c.name) (binding_connections tables s)
    → filter_map (use_if_listed tables s names run) (filter (joins run.name) tables.connections) ≡ uses_of_connections tables s run
uses_listed tables sound s run names is =
    let name : Connection → List ℕ = λ c. c.name in
    let cs = tables.connections in
    let rise = sound.connections.names in
    let all = map name (filter (binds tables s) cs) in
    ap (λ ns. filter_map (use_if_listed tables s ns run) (filter (joins run.name) cs)) is
    ∙ walked (binds tables s) (joins run.name) (λ (c : Connection). is_named (λ (n : List ℕ). n) all c.name) (connection_use tables s run)
    (λ (c : Connection). length s.blocks + number_of (λ (n : List ℕ). n) all c.name) (length s.blocks) cs
    (λ m c out.
    let apart = or_parts (is_same c.first run.name) (is_same c.second run.name) out in
    rw (apart.0, apart.1) refl)
    (listed_is name (binds tables s) cs rise)
    (λ k d l. ap (λ m. length s.blocks + m) (number_at name (binds tables s) cs rise k d l))

-- what a list gives with its next item
pub filter_map_more : {X Y : Type 0} (f : X → Option Y) (xs : List X) (i : ℕ) (d : X) → i < length xs
    → filter_map f (take (i + 1) xs) ≡ filter_map f (take i xs) ++ option_to_list (f (get_or xs i d))
filter_map_more f xs i d l =
    ap (filter_map f) (take_more xs i d l) ∙ filter_map-append f (take i xs) (get_or xs i d ∷ []) ∙ ap (λ ys. filter_map f (take i xs) ++ ys) (one (f (get_or xs i d)))
  where
    one : {Y : Type 0} (o : Option Y) → cons_option o [] ≡ option_to_list o
    one None = refl
    one (Some y) = refl
