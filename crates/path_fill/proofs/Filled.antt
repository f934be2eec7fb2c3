-- What is found fills the section.
use Rattle.std.proofs.Common.{◌≡◌, ℕ, zero, suc, ◌+◌, ◌<◌, false, List, inl, inr, sym, ap, subst, ◌∙◌, arith, append-nil}
use Rattle.std.specs.Prelude.{ℤ, pos, ◌-ℤ◌, ◌<ℤ◌, ◌≤ℤ◌, ◌++◌}
use Rattle.std.proofs.lemmas.Int.{ints}
use Rattle.plan_model.specs.declared.cut.CutRow.{CutRow}
use Rattle.plan_model.specs.declared.cut.Cut.{Cut}
use Rattle.plan_model.specs.Members.{block_count, member, member_count, uses_place, use_at}
use Rattle.plan_model.specs.Cut.{IsSoundCut}
use Rattle.plan_model.specs.Schedule.{IsLeast}
use Rattle.plan_model.specs.Answer.{occupancy}
use Rattle.plan_model.proofs.Uses.{takes_time}
use Rattle.path_fill.specs.declared.found.Fill.{Fill}
use Rattle.path_fill.specs.declared.found.Fill.TheVariants as fill
use Rattle.path_fill.specs.Filling.{IsFilledOccupancy, with_copies, IsFill, has_room}
use Rattle.path_fill.specs.Search.{time_at, kept_to, filled_time, IsGreatest, IsFillBy}
use Rattle.path_fill.proofs.BlockUses.{some_block}
use Rattle.path_fill.proofs.FirstCopy.{IsFirstCopy}
use Rattle.path_fill.proofs.Least.{IsOwnHeadway, copy_entries, least_filled}
use Rattle.path_fill.proofs.Behind.{occupancy_is}

some_time : (s f : ℤ) (h : ℕ) → s <ℤ f → (f -ℤ s) ≤ℤ pos h → 0 < h
some_time s f h t l = omega (arith, ints, t, l)

-- the longest that a member keeps a block
pub own_is : (cut : Cut) → IsSoundCut cut → (r : ℕ) → r < member_count cut → (headway : ℕ)
    → IsGreatest (uses_place (member cut r)) (time_at cut r) (block_count cut) (pos 0) (pos headway)
    → IsOwnHeadway cut r headway × (0 < headway)
own_is cut sound r there headway greatest =
    let at = some_block cut sound r there in
    let u = use_at (member cut r) at.0 in
    let some : 0 < headway =
    some_time u.start u.«end» headway (takes_time cut sound r at.0 there at.2) (greatest.each at.0 at.1 at.2) in
    elim greatest.reached [
      | inl none ↦ absurd (omega (arith, ints, none, some))
      | inr (b, lb, used, e) ↦
          (record { each = greatest.each; block = b; there = lb; used = used; reached = sym e }, some)
    ]

module _ (cut : Cut) (sound : IsSoundCut cut) (r : ℕ) (there : r < member_count cut) (entries : List ℤ)
    (least : IsLeast cut entries) (entry : ℤ) (headway : ℕ) (first : IsFirstCopy cut r entries entry)
    (own : IsOwnHeadway cut r headway) (time : ℕ)
    (kept : IsGreatest (uses_place (member cut r)) (kept_to cut r entries entry) (block_count cut) (pos 0) (pos time))
  where
    time_is : (count : ℕ) → filled_time (occupancy cut entries) time headway count
        ≡ occupancy (with_copies cut r count) (entries ++ copy_entries entry headway count)
    time_is zero =
        ap (λ (rows : List CutRow). occupancy (record cut { rows = rows }) entries) (sym (append-nil cut.rows))
        ∙ ap (occupancy (with_copies cut r 0)) (sym (append-nil entries))
    time_is (suc more) = sym (occupancy_is cut sound r there entries least entry headway first own more time kept)

    pub filled_is : (count : ℕ) → IsFilledOccupancy cut r count (filled_time (occupancy cut entries) time headway count)
    filled_is count = (
      entries,
      copy_entries entry headway count,
      least_filled cut r entries entry headway least first own count,
      time_is count,
    )

    pub fill_is : (found : Fill) → IsFillBy cut.section (occupancy cut entries) time headway found → IsFill cut r found
    fill_is (fill.Over alone) (same, none) = (
      subst (IsFilledOccupancy cut r 0) (sym same) (filled_is 0),
      subst (λ t. has_room cut.section t ≡ false) (sym same) none,
    )
    fill_is (fill.Fits copies now next) by = record {
      occupancy = subst (IsFilledOccupancy cut r copies) (sym by.occupancy) (filled_is copies);
      next = subst (IsFilledOccupancy cut r (copies + 1)) (sym by.next) (filled_is (copies + 1));
      fit = λ count l. (filled_time (occupancy cut entries) time headway count, filled_is count, by.fit count l);
      over = λ count l. (filled_time (occupancy cut entries) time headway count, filled_is count, by.over count l);
    }
