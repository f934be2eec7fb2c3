-- Tables of which one column changes.
use Rattle.std.proofs.Common.{◌≡◌, ◌≢◌, ℕ, ◌<◌, List, [], length, inl, inr, refl, ap, sym, ◌∙◌, arith, length-set}
use Rattle.std.specs.Prelude.{◌==◌, ℤ, pos, if◌then◌else◌, slice_index_or, slice_set}
use Rattle.std.proofs.lemmas.Bool.{cases_eq, eq-eqb, ne_eqb}
use Rattle.std.proofs.lemmas.List.{get_or-set_same, get_or-set_other}
use Rattle.headway_table.specs.Starts.{start_in_table, Changes}

abbrev pub row : List (List ℤ) → ℕ → List ℤ
row table p = slice_index_or table p []

-- one start_in_table is set
module _ (table : List (List ℤ)) (place j : ℕ) (x : ℤ) (there : place < length table)
    (within : j < length (row table place)) where
  abbrev set : List (List ℤ)
  set = slice_set table place (slice_set (row table place) j x)

  here : (p : ℕ) → place ≡ p → row set p ≡ slice_set (row table p) j x
  here p e =
      ap (λ q. row set q) (sym e)
      ∙ get_or-set_same table place (slice_set (row table place) j x) [] there
      ∙ ap (λ q. slice_set (row table q) j x) e

  elsewhere : (p : ℕ) → place ≢ p → row set p ≡ row table p
  elsewhere p ne = get_or-set_other table place p (slice_set (row table place) j x) [] (λ e. ne (sym e))

  width : (p : ℕ) → length (row set p) ≡ length (row table p)
  width p =
      elim (cases_eq place p) [
        | inl e ↦ ap length (here p e) ∙ length-set (row table p) j x
        | inr ne ↦ ap length (elsewhere p ne)
      ]

  own : (p : ℕ) → start_in_table set p j ≡ (if place == p then x else start_in_table table p j)
  own p =
      elim (cases_eq place p) [
        | inl e ↦
            rw (eq-eqb place p e) (ap (λ r. slice_index_or r j (pos 0)) (here p e)
            ∙ get_or-set_same (row table p) j x (pos 0) (omega (arith, within, ap (λ q. length (row table q)) e)))
        | inr ne ↦ rw (ne_eqb place p ne) (ap (λ r. slice_index_or r j (pos 0)) (elsewhere p ne))
      ]

  others : (p k : ℕ) → k ≢ j → start_in_table set p k ≡ start_in_table table p k
  others p k not =
      elim (cases_eq place p) [
        | inl e ↦
            ap (λ r. slice_index_or r k (pos 0)) (here p e) ∙ get_or-set_other (row table p) j k x (pos 0) not
        | inr ne ↦ ap (λ r. slice_index_or r k (pos 0)) (elsewhere p ne)
      ]

  pub set_one : Changes j (λ p c. if place == p then x else c) table set
  set_one = record {
    count = length-set table place (slice_set (row table place) j x);
    widths = λ p l. width p;
    own = λ p l. own p;
    others = λ p k l not. others p k not;
  }

-- nothing changes, and one change after another
pub unchanged : (j : ℕ) (table : List (List ℤ)) → Changes j (λ p c. c) table table
unchanged j table = record {
  count = refl;
  widths = λ p l. refl;
  own = λ p l. refl;
  others = λ p k l not. refl;
}

pub one_more : (j : ℕ) (f g h : ℕ → ℤ → ℤ) (a b c : List (List ℤ)) → ((p : ℕ) (x : ℤ) → h p x ≡ g p (f p x))
    → Changes j f a b → Changes j g b c → Changes j h a c
one_more j f g h a b c whole first second = record {
  count = second.count ∙ first.count;
  widths = λ p l. second.widths p (omega (arith, l, first.count)) ∙ first.widths p l;
  own = λ p l.
      second.own p (omega (arith, l, first.count)) ∙ ap (g p) (first.own p l) ∙ sym (whole p (start_in_table a p j));
  others = λ p k l not. second.others p k (omega (arith, l, first.count)) not ∙ first.others p k l not;
}
