-- A place that a train ends: the numbers that it raises.
use Rattle.std.proofs.Common.{◌≡◌, ℕ, ◌<◌, ◌+◌, List, [], length, take, get_or, inl, inr, sym, ap, subst, ◌∙◌, arith, length-set, set}
use Rattle.std.specs.Prelude.{ℤ, pos, ◌-ℤ◌, slice_index_or, fold}
use Rattle.std.specs.List.{All}
use Rattle.std.proofs.lemmas.Bool.{cases_eq}
use Rattle.std.proofs.lemmas.Grind.{get_or-set_at}
use Rattle.std.proofs.lemmas.List.{get_or-set_other}
use Rattle.std.proofs.lemmas.List.Sums.{fold_more}
use Rattle.rail_model.specs.declared.stair.Use.{Use}
use Rattle.plan_model.specs.declared.cut.CutRow.{CutRow}
use Rattle.headway_table.specs.declared.ending.Ending.{Ending}
use Rattle.headway_table.specs.Starts.{IsStart, IsWide}
use Rattle.headway_table.specs.Numbers.{raised, raised_at, raised_from, raised_by_four, IsEnding, IsEndingOf, AreRaised}

module _ (table : List (List ℤ)) (row : CutRow) (u : Use) (place : Ending) (is : IsEndingOf table row u place) where
  -- it has a start for each train
  pub fits : (n m : ℕ) → IsWide (length table) n table → All (λ row. All IsStart row) table → n ≡ m → IsEnding m place
  fits n m wide each count = record {
    «end» = is.near;
    count = ap length is.starts ∙ wide.widths u.block is.there ∙ count;
    starts = subst (λ starts. All IsStart starts) (sym is.starts) (each u.block [] is.there);
  }

  -- and raises as the use does
  pub raises : (j : ℕ) (z : ℤ) → raised_at place j z ≡ raised_from table row.entry j z u
  raises j z =
      ap (λ e. raised z e (slice_index_or place.starts.now j (pos 0))) is.«end»
      ∙ ap (λ starts. raised z (u.«end» -ℤ row.entry) (slice_index_or starts j (pos 0))) is.starts

-- one number more is raised
pub one_more : (raise : ℕ → ℤ → ℤ) (j : ℕ) (before now : List ℤ) (x : ℤ) → AreRaised raise j before now → j < length now
    → x ≡ raise j (slice_index_or now j (pos 0)) → AreRaised raise (j + 1) before (set now j x)
one_more raise j before now x so_far there is = record {
  count = length-set now j x ∙ so_far.count;
  done = λ k l.
      elim (cases_eq k j) [
        | inl e ↦
            get_or-set_at now j k x (pos 0) e there
            ∙ is
            ∙ ap (λ i. raise i (slice_index_or now i (pos 0))) (sym e)
            ∙ ap (raise k) (so_far.rest k (omega (arith, e)))
        | inr ne ↦ get_or-set_other now j k x (pos 0) ne ∙ so_far.done k (omega (arith, l, ne))
      ];
  rest = λ k l. get_or-set_other now j k x (pos 0) (λ e. omega (arith, l, e)) ∙ so_far.rest k (omega (arith, l));
}

-- four places raise as their uses do
module _ (table : List (List ℤ)) (row : CutRow) (j : ℕ) where
  abbrev by_use : ℤ → Use → ℤ
  by_use = raised_from table row.entry j

  pub four_raise : (u v w x : Use) (a b c d : Ending) → IsEndingOf table row u a → IsEndingOf table row v b
      → IsEndingOf table row w c → IsEndingOf table row x d → (z : ℤ)
      → raised_by_four a b c d j z ≡ by_use (by_use (by_use (by_use z u) v) w) x
  four_raise u v w x a b c d au bv cw dx z =
      raises table row x d dx j _
      ∙ ap (λ y. by_use y x) (raises table row w c cw j _
      ∙ ap (λ y. by_use y w) (raises table row v b bv j _ ∙ ap (λ y. by_use y v) (raises table row u a au j z)))

-- four uses more
pub four_more : (f : ℤ → Use → ℤ) (a : ℤ) (xs : List Use) (k : ℕ) (d : Use) → k + 3 < length xs
    → f (f (f (f (fold f a (take k xs)) (get_or xs k d)) (get_or xs (k + 1) d)) (get_or xs (k + 2) d)) (get_or xs (k + 3) d)
    ≡ fold f a (take (k + 4) xs)
four_more f a xs k d l =
    let so = λ (n : ℕ). fold f a (take n xs) in
    let one : so (k + 1) ≡ f (so k) (get_or xs k d) = fold_more f a xs k d (omega (arith, l)) in
    let two : so (k + 2) ≡ f (so (k + 1)) (get_or xs (k + 1) d) =
    ap so (omega arith) ∙ fold_more f a xs (k + 1) d (omega (arith, l)) in
    let three : so (k + 3) ≡ f (so (k + 2)) (get_or xs (k + 2) d) =
    ap so (omega arith) ∙ fold_more f a xs (k + 2) d (omega (arith, l)) in
    let four : so (k + 4) ≡ f (so (k + 3)) (get_or xs (k + 3) d) =
    ap so (omega arith) ∙ fold_more f a xs (k + 3) d (omega (arith, l)) in
    sym (four
    ∙ ap (λ z. f z (get_or xs (k + 3) d)) three
    ∙ ap (λ z. f (f z (get_or xs (k + 2) d)) (get_or xs (k + 3) d)) two
    ∙ ap (λ z. f (f (f z (get_or xs (k + 1) d)) (get_or xs (k + 2) d)) (get_or xs (k + 3) d)) one)
