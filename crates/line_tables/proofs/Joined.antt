-- What an edit of one table keeps of its references: of those that its items make, and of those that are made to them.
use Rattle.std.proofs.Common.{◌≡◌, ℕ, ◌+◌, Bool, true, false, List, [], ◌∷◌, get_or, map, Some, refl, sym, ap, ◌∙◌, inl, inr, arith}
use Rattle.std.specs.Prelude.{option_map, nat_lt}
use Rattle.std.specs.List.{list_any}
use Rattle.std.proofs.lemmas.Bool.{cases_Bool, ltb-false}
use Rattle.rail_model.specs.Name.{is_same}
use Rattle.rail_model.specs.Rules.{is_named, with_item, without}
use Rattle.line_tables.specs.declared.linked.Linked.{Linked}
use Rattle.line_tables.specs.Table.{under, with_change, named, key_of, item_of, IsTable}
use Rattle.line_tables.specs.KeyCounts.{count_of, times}
use Rattle.line_tables.specs.Links.{IsLinked, references}
use Rattle.line_tables.specs.Inside.{items_of}
use Rattle.line_tables.proofs.Filed.{some_from_map}
use Rattle.line_tables.proofs.Found.{key_after_put, key_after_change, key_after_drop, sum-with_item, sum-with_change, sum-without, list_any-map}
use Rattle.line_tables.proofs.References.{entry, linked_by_put, linked_by_change, linked_by_drop, linked_to_same, linked_to_rest, references_tell, list_any_same}
use Rattle.line_tables.proofs.Known.{CountsMore, entry_there}

-- a name is the same as another where it is listed alone
pub is_listed : (m n : List ℕ) → is_same m n ≡ list_any (λ q. is_same q n) (m ∷ [])
is_listed m n = elim (cases_Bool (is_same m n)) [ inl e ↦ rw e refl | inr e ↦ rw e refl ]

-- the items refer to what they name, and each key is counted as often more or less as they refer to it now
pub record IsEdited {A B : Type 0} (names : A → List (List ℕ)) (name : B → List ℕ) (used : List (ℕ × B)) (users later : List (ℕ × Linked A)) (old new : List ℕ) : Type 0 where
  pub links : IsLinked names name later used
  pub counts : (k : ℕ) → count_of new k + references users k ≡ count_of old k + references later k

module _ {A B : Type 0} (names : A → List (List ℕ)) (label : A → List ℕ) (name : B → List ℕ) (users : List (ℕ × Linked A)) (used : List (ℕ × B)) (linked : IsLinked names name users used) where
  -- ---- an edit of the users

  module _ (table : IsTable (λ (e : Linked A). label e.item) users) (old new : List ℕ) where
    pub by_put : (key : ℕ) (x : A) (refs : List ℕ) → is_named (λ e. label e.1.item) users (label x) ≡ false → map (key_of name used) (names x) ≡ map Some refs → CountsMore old new refs → IsEdited names name used users (with_item (λ e. label e.1.item) users (key, entry x refs)) old new
    by_put key x refs fresh found counted = record {
      links = linked_by_put names label name users used key x refs linked found;
      counts = λ k. omega (arith, counted k, sum-with_item (λ (e : Linked A). label e.item) (λ e. times k e.1.refs) users (key, entry x refs) table.rise fresh);
    }

    pub by_change : (key : ℕ) (x : A) (refs : List ℕ) → option_map (λ (e : Linked A). label e.item) (under users key) ≡ Some (label x) → map (key_of name used) (names x) ≡ map Some refs → ((e : Linked A) (k : ℕ) → under users key ≡ Some e → count_of new k + times k e.refs ≡ count_of old k + times k refs) → IsEdited names name used users (with_change users key (entry x refs)) old new
    by_change key x refs same found counted =
        let was = some_from_map (λ (e : Linked A). label e.item) (under users key) (label x) same in
        record {
          links = linked_by_change names label name users used key x refs linked found;
          counts = λ k. omega (arith, counted was.0 k was.1, sum-with_change (λ (e : Linked A). label e.item) (λ e. times k e.1.refs) users key was.0 (entry x refs) table was.1);
        }

    pub by_drop : (n : List ℕ) → is_named (λ e. label e.1.item) users n ≡ true → ((e : Linked A) (k : ℕ) → item_of (λ (e : Linked A). label e.item) users n ≡ Some e → count_of new k + times k e.refs ≡ count_of old k) → IsEdited names name used users (without (λ e. label e.1.item) users n) old new
    by_drop n there counted =
        let gone = entry_there (λ (e : Linked A). label e.item) users n there in
        record {
          links = linked_by_drop names label name users used n linked;
          counts = λ k. omega (arith, counted gone.0.1 k (ap (option_map (λ (e : ℕ × Linked A). e.1)) gone.1), sum-without (λ (e : Linked A). label e.item) (λ e. times k e.1.refs) users n gone.0 table.rise gone.1);
        }

  -- ---- an edit of what they use

  module _ (table : IsTable name used) where
    pub to_put : (key : ℕ) (x : B) → is_named (named name) used (name x) ≡ false → IsLinked names name users (with_item (named name) used (key, x))
    to_put key x fresh =
        linked_to_same names label name users used (with_item (named name) used (key, x)) linked (λ n i e. key_after_put name used key i x n table.rise fresh e)

    pub to_change : (key : ℕ) (x : B) → option_map name (under used key) ≡ Some (name x) → IsLinked names name users (with_change used key x)
    to_change key x same =
        linked_to_same names label name users used (with_change used key x) linked (λ n i e. key_after_change name used key x n table same ∙ e)

    pub to_drop : (n : List ℕ) (key : ℕ) → key_of name used n ≡ Some key → references users key ≡ 0 → IsLinked names name users (without (named name) used n)
    to_drop n key is none =
        linked_to_rest names label name users used (without (named name) used n) key linked none (λ m i apart e. key_after_drop name used n m key i is e apart)

    -- some item names what stands under a key where the items refer to the key
    pub referred : (n : List ℕ) (key : ℕ) → key_of name used n ≡ Some key → (names_it : A → Bool) → ((x : A) → names_it x ≡ list_any (λ m. is_same m n) (names x)) → list_any names_it (items_of users) ≡ nat_lt 0 (references users key)
    referred n key is names_it told =
        list_any-map (λ (u : ℕ × Linked A). u.1.item) names_it users
        ∙ (list_any_same (λ (u : ℕ × Linked A). names_it u.1.item) (λ u. list_any (λ m. is_same m n) (names u.1.item)) users (λ i d l. told (get_or users i d).1.item)
        ∙ references_tell names label name users used n key table linked is)

    pub unreferred : (n : List ℕ) (key : ℕ) → key_of name used n ≡ Some key → (names_it : A → Bool) → ((x : A) → names_it x ≡ list_any (λ m. is_same m n) (names x)) → list_any names_it (items_of users) ≡ false → references users key ≡ 0
    unreferred n key is names_it told none =
        let not_one = ltb-false 0 (references users key) (sym (referred n key is names_it told) ∙ none) in
        omega arith
