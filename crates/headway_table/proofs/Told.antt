-- The numbers of a train tell its row of the table.
use Rattle.std.proofs.Common.{◌≡◌, ℕ, suc, ◌<◌, List, [], ◌∷◌, map, inl, inr, refl, ap, ◌∙◌, arith}
use Rattle.std.specs.Prelude.{◌==◌, ℤ, pos, ◌-ℤ◌, fold, slice_index_or}
use Rattle.std.specs.List.{All, range_with_len}
use Rattle.std.proofs.lemmas.Bool.{cases_Bool}
use Rattle.std.proofs.lemmas.List.FromFn.{fill_by_all, length-map-range_with_len, get_or-map-range_with_len}
use Rattle.rail_model.specs.declared.stair.Use.{Use}
use Rattle.plan_model.specs.declared.cut.CutRow.{CutRow}
use Rattle.plan_model.specs.declared.cut.Cut.{Cut}
use Rattle.plan_model.specs.Cut.{IsSoundCut}
use Rattle.plan_model.specs.Members.{place_count, member, member_count}
use Rattle.headway_table.specs.declared.row.TheConstants.{NEVER}
use Rattle.headway_table.specs.Table.{between, row_of}
use Rattle.headway_table.specs.Starts.{start_in_table, start_in, AreStarts}
use Rattle.headway_table.specs.Numbers.{raised, raised_by, raised_from, greatest_by, headway_of, headways_of, headway_by}
use Rattle.headway_table.proofs.Filled.{start_at}
use Rattle.plan_model.proofs.Sound.{usable, differ}
use Rattle.headway_table.proofs.Raised.{greatest_is}

same_fold : (a b : CutRow) (table : List (List ℤ)) (j : ℕ) (z : ℤ) (uses : List Use)
    → All (λ u. start_in_table table u.block j ≡ start_in b u.block) uses
    → fold (raised_from table a.entry j) z uses ≡ fold (raised_by a b) z uses
same_fold a b table j z [] each = refl
same_fold a b table j z (u ∷ uses) each =
    let here : start_in_table table u.block j ≡ start_in b u.block = each 0 u (omega arith) in
    ap (λ s. fold (raised_from table a.entry j) (raised z (u.«end» -ℤ a.entry) s) uses) here
    ∙ same_fold a b table j (raised_by a b z u) uses (λ i d l. each (suc i) d (omega (arith, l)))

same_map : {X : Type 0} (f g : ℕ → X) (n : ℕ) → ((k : ℕ) → k < n → f k ≡ g k)
    → map f (range_with_len 0 n) ≡ map g (range_with_len 0 n)
same_map f g n each =
    fill_by_all g (map f (range_with_len 0 n)) n (f 0) (length-map-range_with_len f 0 n)
    (λ k l. get_or-map-range_with_len f 0 n k k (f 0) l (omega arith) ∙ each k l)

module _ (cut : Cut) (sound : IsSoundCut cut) (table : List (List ℤ)) (starts : AreStarts (place_count cut) cut.rows table)
    (i : ℕ) (there : i < member_count cut) where
  number_is : (j : ℕ) → j < member_count cut
      → fold (raised_from table (member cut i).entry j) NEVER (member cut i).uses
      ≡ greatest_by (member cut i) (member cut j)
  number_is j l =
      same_fold (member cut i) (member cut j) table j NEVER (member cut i).uses
      (λ k d m. start_at cut.rows (place_count cut) table starts _ j ((usable cut sound i there).there k d m) l)

  told_is : (numbers : List ℤ) (j : ℕ) → j < member_count cut
      → slice_index_or numbers j (pos 0) ≡ fold (raised_from table (member cut i).entry j) NEVER (member cut i).uses
      → headway_by numbers i j ≡ between cut i j
  told_is numbers j l is =
      elim (cases_Bool (i == j)) [
        | inl e ↦ rw e refl
        | inr e ↦
            rw e (ap headway_of (is ∙ number_is j l)
            ∙ greatest_is (place_count cut) (member cut i) (member cut j) (usable cut sound i there) (usable cut sound j l)
            (differ cut sound i there) (differ cut sound j l))
      ]

  pub row_told : (numbers : List ℤ) (n : ℕ) → n ≡ member_count cut
      → ((j : ℕ) → j < member_count cut → slice_index_or numbers j (pos 0)
      ≡ fold (raised_from table (member cut i).entry j) NEVER (member cut i).uses)
      → headways_of numbers i n ≡ row_of cut i
  row_told numbers n count is =
      ap (headways_of numbers i) count
      ∙ same_map (headway_by numbers i) (between cut i) (member_count cut) (λ j l. told_is numbers j l (is j l))
