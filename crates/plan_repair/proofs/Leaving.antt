-- The kept rows that are left behind a name.
use Rattle.std.proofs.Common.{◌≡◌, ℕ, suc, ◌+◌, true, false, List, [], ◌∷◌, ◌++◌, get_or, drop, Option, None, Some, inl, inr, refl, sym, ap, ◌∙◌, subst, append_assoc, arith}
use Rattle.std.specs.Prelude.{◌==◌, find, option_to_list, Contains, IfSome}
use Rattle.std.proofs.lemmas.List.{drop_more}
use Rattle.std.proofs.lemmas.List.Elements.{Contains-append_right}
use Rattle.std.proofs.lemmas.Bool.{and_left, and_right, and_parts, both_ways, false_from_ne_true, ne_eqb}
use Rattle.rail_model.specs.Name.{IsBefore, is_before, is_same, NamesRise}
use Rattle.rail_model.proofs.NameOrder.{same_name, is_same-before, is_same-after, IsBefore-from, IsBefore-trans, is_before-from, is_before-back, is_before-itself, same_or_after}
use Rattle.rail_model.proofs.Lists.{find_none}
use Rattle.plan_model.specs.declared.cut.CutRow.{CutRow}
use Rattle.plan_model.specs.Members.{no_member}
use Rattle.plan_repair.specs.Kept.{has}
use Rattle.plan_repair.specs.Left.{first_is, HasName, EndsWith, IsLeft}

-- ---- rows that others end with

pub ends_through : (a b c : List CutRow) → EndsWith a b → EndsWith b c → EndsWith a c
ends_through a b c first second = record {
  before = first.before ++ second.before;
  is = first.is ∙ ap (λ rows. first.before ++ rows) second.is ∙ sym (append_assoc first.before second.before c);
}

pub part_of : (rows last : List CutRow) → EndsWith rows last → (row : CutRow) → Contains last row → Contains rows row
part_of rows last ends row there =
    subst (λ (all : List CutRow). Contains all row) (sym ends.is) (Contains-append_right ends.before last row there)

-- the first of them, where it is taken out, stood right before those that are left
pub first_behind : (all last after : List CutRow) (first : Option CutRow) → EndsWith all last → last ≡ option_to_list first ++ after
    → IfSome first (λ row. EndsWith all (row ∷ after))
first_behind all last after None ends is = tt
first_behind all last after (Some row) ends is =
    record { before = ends.before; is = ends.is ∙ ap (λ rows. ends.before ++ rows) is }

-- ---- rows that are let go of

pub left_through : (name : List ℕ) (a b c : List CutRow) → IsLeft name a b → IsLeft name b c → IsLeft name a c
left_through name a b c first second = record {
  rise = second.rise;
  ends = ends_through a b c first.ends second.ends;
  later = λ row after. second.later row after ∙ first.later row after;
}

-- a name that doesn't come after one isn't any name that does
not_same : (a b : List ℕ) → IsBefore a b → (k : List ℕ) → is_before a k ≡ false → is_same k b ≡ false
not_same a b after k h =
    false_from_ne_true (is_same k b) (λ same.
    both_ways (is_before a k) h (subst (λ n. is_before a n ≡ true) (sym (same_name k b same)) (is_before-from a b after)))

-- a row that doesn't come after the name is let go of
pub left_behind : (name : List ℕ) (k : CutRow) (rest : List CutRow) → NamesRise (λ r. r.name) (k ∷ rest)
    → is_before name k.name ≡ false → IsLeft name (k ∷ rest) rest
left_behind name k rest rise h = record {
  rise = λ i j d before below. rise (suc i) (suc j) d (omega arith) (omega arith);
  ends = record { before = k ∷ []; is = refl };
  later = λ row after. rw (not_same name row.name after k.name h) refl;
}

-- so is a row of the name itself
pub left_at : (name : List ℕ) (k : CutRow) (rest : List CutRow) → NamesRise (λ r. r.name) (k ∷ rest) → k.name ≡ name
    → IsLeft name (k ∷ rest) rest
left_at name k rest rise same = left_behind name k rest rise (rw same (is_before-itself name))

pub left_in_place : (name : List ℕ) (rows : List CutRow) (i : ℕ) → HasName rows i name → NamesRise (λ r. r.name) (drop i rows)
    → IsLeft name (drop i rows) (drop (i + 1) rows)
left_in_place name rows i first rise =
    let is = drop_more rows i no_member first.there in
    rw is (left_at name (get_or rows i no_member) (drop (i + 1) rows) (rw is at rise) first.name)

-- ---- rows before a name

not_has : (name : List ℕ) (stamp : ℕ) (k : CutRow) → is_before k.name name ≡ true → has name stamp k ≡ false
not_has name stamp k h =
    and_left (is_same k.name name) (k.stamp == stamp) (is_same-before k.name name (IsBefore-from k.name name h))

-- what comes after a name that isn't before another comes after that
after_first : (name k b : List ℕ) → is_before k name ≡ false → IsBefore k b → IsBefore name b
after_first name k b reached behind =
    elim (same_or_after k name reached) [
      | inl e ↦ subst (λ n. IsBefore n b) e behind
      | inr before ↦ IsBefore-trans name k b before behind
    ]

module _ (name : List ℕ) where
  pub passed_over : (rows : List CutRow) → NamesRise (λ r. r.name) rows → first_is (λ r. is_before r.name name) rows ≡ true
      → IsLeft name rows (drop 1 rows)
  passed_over [] rise h = absurd (cc)
  passed_over (k ∷ rest) rise h = left_behind name k rest rise (is_before-back k.name name (IsBefore-from k.name name h))

  pub found_behind : (rows : List CutRow) (stamp : ℕ) → first_is (λ r. is_before r.name name) rows ≡ true
      → find (has name stamp) (drop 1 rows) ≡ find (has name stamp) rows
  found_behind [] stamp h = absurd (cc)
  found_behind (k ∷ rest) stamp h = rw (not_has name stamp k h) refl

  module _ (stamp : ℕ) where
    pub left_first : (rows : List CutRow) → NamesRise (λ r. r.name) rows → first_is (has name stamp) rows ≡ true
        → IsLeft name rows (drop 1 rows)
    left_first [] rise h = absurd (cc)
    left_first (k ∷ rest) rise h =
        left_at name k rest rise (same_name k.name name (and_parts (is_same k.name name) (k.stamp == stamp) h).0)

    -- none is
    pub found_none : (rows : List CutRow) → NamesRise (λ r. r.name) rows → first_is (λ r. is_before r.name name) rows ≡ false
        → first_is (has name stamp) rows ≡ false → find (has name stamp) rows ≡ None
    found_none [] rise reached h = refl
    found_none (k ∷ rest) rise reached h =
        rw h (find_none (has name stamp) rest (λ i d l.
        let behind = rise 0 (suc i) d (omega arith) (omega arith) in
        let after = after_first name k.name (get_or rest i d).name reached behind in
        and_left (is_same (get_or rest i d).name name) ((get_or rest i d).stamp == stamp) (is_same-after name (get_or rest i d).name after)))

    -- nor where the first of them has the name, but another stamp
    pub none_in_place : (rows : List CutRow) (i : ℕ) → HasName rows i name → NamesRise (λ r. r.name) (drop i rows)
        → ((get_or rows i no_member).stamp ≡ stamp → ⊥) → find (has name stamp) (drop i rows) ≡ None
    none_in_place rows i first rise other =
        let one = get_or rows i no_member in
        let is = drop_more rows i no_member first.there in
        let same = first.name in
        rw is
        (found_none (one ∷ drop (i + 1) rows) (rw is at rise) (rw same (is_before-itself name))
        (and_right (is_same one.name name) (one.stamp == stamp) (ne_eqb one.stamp stamp other)))
