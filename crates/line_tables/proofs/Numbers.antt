-- What is kept of a table's items by their keys, as their numbers.
use Rattle.std.proofs.Common.{◌≡◌, ◌≢◌, ℕ, ◌+◌, ◌<◌, ◌≤◌, List, length, get_or, Some, sym, ap, ◌∙◌, subst, inl, inr, arith}
use Rattle.std.specs.Prelude.{option_map, slice_get}
use Rattle.std.proofs.Math.ListN.{set}
use Rattle.std.proofs.lemmas.Bool.{cases_order}
use Rattle.std.proofs.lemmas.List.{get_or-set_same, get_or-set_other, length-set}
use Rattle.std.proofs.lemmas.Option.{slice_get-get_or, slice_get_within, get_or_from_slice_get}
use Rattle.std.proofs.lemmas.List.Folds.{find_at}
use Rattle.rail_model.specs.Name.{is_same}
use Rattle.rail_model.specs.Tables.{number_of}
use Rattle.line_tables.specs.Table.{named, key_of, entry_of, IsTable, AreAtKeys, AreNumbered}
use Rattle.line_tables.proofs.Filed.{some_from_map}
use Rattle.line_tables.proofs.Found.{keys_differ}

module _ {X : Type 0} (name : X → List ℕ) (items : List (ℕ × X)) where
  -- one item more
  pub at_keys_more : {Y : Type 0} (f : ℕ → ℕ → Y) (d : Y) (ys grown : List Y) (n key : ℕ) → IsTable name items → option_map (λ e. e.0) (slice_get items n) ≡ Some key → ((k : ℕ) → get_or grown k d ≡ get_or ys k d) → length ys ≤ length grown → key < length grown → AreAtKeys f n items ys → AreAtKeys f (n + 1) items (set grown key (f n key))
  at_keys_more f d ys grown n key table here same longer within so_far i e below at =
      let y = some_from_map (λ (e : ℕ × X). e.0) (slice_get items n) key here in
      let last = slice_get_within items n y.0 y.1 in
      let at_n = get_or_from_slice_get items n y.0 y.0 y.1 in
      let at_i = get_or_from_slice_get items i e y.0 at in
      elim (cases_order i n) [
        | inl is ↦
            let both : Some e ≡ Some y.0 = sym at ∙ ap (slice_get items) is ∙ y.1 in
            let one : e ≡ y.0 = cc in
            let key_is : e.0 ≡ key = ap (λ (e : ℕ × X). e.0) one ∙ y.2 in
            rw (key_is, slice_get-get_or (set grown key (f n key)) key d (omega (arith, length-set grown key (f n key))), get_or-set_same grown key (f n key) d within) (ap (λ i. Some (f i key)) (sym is))
        | inr o ↦
            let lt : i < n = elim o [ inl lt ↦ lt | inr gt ↦ absurd (omega arith) ] in
            let before = so_far i e lt at in
            let there = slice_get_within ys e.0 (f i e.0) before in
            let apart : e.0 ≢ key = λ k. keys_differ name items table i n y.0 lt last (ap (λ (e : ℕ × X). e.0) at_i ∙ k ∙ sym y.2 ∙ ap (λ (e : ℕ × X). e.0) (sym at_n)) in
            slice_get-get_or (set grown key (f n key)) e.0 d (omega (arith, length-set grown key (f n key)))
            ∙ ap Some (get_or-set_other grown key e.0 (f n key) d apart ∙ same e.0 ∙ get_or_from_slice_get ys e.0 (f i e.0) d before)
      ]

  -- what stands at the key of a name
  pub at_key : {Y : Type 0} (f : ℕ → ℕ → Y) (ys : List Y) (n : List ℕ) (k : ℕ) → AreAtKeys f (length items) items ys → key_of name items n ≡ Some k → (slice_get ys k ≡ Some (f (number_of (named name) items n) k)) × (number_of (named name) items n < length items)
  at_key f ys n k all key =
      let number = number_of (named name) items n in
      let y = some_from_map (λ (e : ℕ × X). e.0) (entry_of name items n) k key in
      let at : slice_get items number ≡ Some y.0 = sym (find_at (λ (e : ℕ × X). is_same (name e.1) n) items) ∙ y.1 in
      let within = slice_get_within items number y.0 at in
      (subst (λ k. slice_get ys k ≡ Some (f number k)) y.2 (all number y.0 within at), within)

  -- the number at the key of a name
  pub number_at_key : (numbers : List ℕ) (n : List ℕ) (k : ℕ) → AreNumbered (length items) items numbers → key_of name items n ≡ Some k → (slice_get numbers k ≡ Some (number_of (named name) items n)) × (number_of (named name) items n < length items)
  number_at_key numbers n k all key = at_key (λ i k. i) numbers n k all key
