-- What is found of trains that are placed.
use Rattle.std.proofs.Common.{◌≡◌, ℕ, ◌<◌, ◌≤◌, List, [], sym, subst, arith}
use Rattle.std.specs.Prelude.{ℤ, pos, nat_abs, All, Option}
use Rattle.std.proofs.lemmas.Int.{ints}
use Rattle.plan_model.specs.declared.limits.TheConstants.{MEMBERS}
use Rattle.plan_model.specs.declared.cut.Cut.{Cut}
use Rattle.plan_model.specs.declared.answer.Tie.{Tie}
use Rattle.plan_model.specs.Members.{block_count, member, member_count, uses_place}
use Rattle.plan_model.specs.Cut.{IsBounded, IsSoundCut}
use Rattle.plan_model.specs.Disorder.{remaining}
use Rattle.plan_model.specs.Schedule.{window_start, window_floor}
use Rattle.plan_model.specs.Answer.{occupancy}
use Rattle.plan_model.proofs.Closing.{abs_is}
use Rattle.train_order.specs.Ordering.{IsOrder}
use Rattle.train_order.proofs.Next.{count}
use Rattle.train_placing.specs.declared.last.Last.{Last}
use Rattle.train_placing.specs.Last.{IsNearLast}
use Rattle.train_placing.specs.Placing.{IsFloor, ArePlaced}
use Rattle.train_placing.proofs.Laid.{all_bounded}
use Rattle.train_placing.proofs.Moments.{all_near}
use Rattle.train_placing.proofs.Whole.{least}
use Rattle.path_fill.specs.declared.found.Fill.{Fill}
use Rattle.path_fill.specs.Filling.{IsFill}
use Rattle.path_fill.specs.Search.{asked, kept_to, time_at, IsGreatest, IsFillBy}
use Rattle.path_fill.proofs.FirstCopy.{first_copy_is}
use Rattle.path_fill.proofs.Filled.{own_is, fill_is}

pub own_some : (cut : Cut) → IsSoundCut cut → (r : ℕ) → r < member_count cut → (headway : ℤ)
    → IsGreatest (uses_place (member cut r)) (time_at cut r) (block_count cut) (pos 0) headway → 0 < nat_abs headway
own_some cut sound r there headway greatest =
    (own_is cut sound r there (nat_abs headway)
    (subst (IsGreatest (uses_place (member cut r)) (time_at cut r) (block_count cut) (pos 0))
    (sym (abs_is headway greatest.above)) greatest)).1

module _ (cut : Cut) (order : List ℕ) (entries : List ℤ) (ties : List Tie) (last : List (Option Last))
    (sound : IsSoundCut cut) (few : member_count cut ≤ MEMBERS) (is : IsOrder cut order)
    (placed : ArePlaced cut (window_floor cut) order entries ties last) where
  floors : (i : ℕ) → i < member_count cut → IsFloor (window_floor cut i)
  floors i l = record { after = omega (arith, ints); before = omega (arith, ints, sound.window_start) }

  pub bounded : All IsBounded entries
  bounded = all_bounded cut order entries ties last sound few is placed

  pub near : All IsNearLast last
  near =
      all_near cut (window_floor cut) order entries ties last sound floors placed
      (omega (arith, few, count cut order is))

  pub found_is : (r : ℕ) → r < member_count cut → remaining cut ≡ [] → (entry first headway : ℤ) (alone : ℕ)
      (found : Fill)
      → IsGreatest (uses_place (member cut r)) (asked cut r last) (block_count cut) (window_start cut) entry
      → IsGreatest (uses_place (member cut r)) (kept_to cut r entries entry) (block_count cut) (pos 0) first
      → IsGreatest (uses_place (member cut r)) (time_at cut r) (block_count cut) (pos 0) headway
      → alone ≡ occupancy cut entries → IsFillBy cut.section alone (nat_abs first) (nat_abs headway) found
      → IsFill cut r found
  found_is r there none entry first headway alone found asks keeps times same by =
      let own = own_is cut sound r there (nat_abs headway)
      (subst (IsGreatest (uses_place (member cut r)) (time_at cut r) (block_count cut) (pos 0))
      (sym (abs_is headway times.above)) times) in
      fill_is cut sound r there entries (least cut (window_floor cut) order entries ties last sound is placed none)
      entry (nat_abs headway) (first_copy_is cut order entries ties last sound is placed r there entry asks) own.0
      (nat_abs first)
      (subst (IsGreatest (uses_place (member cut r)) (kept_to cut r entries entry) (block_count cut) (pos 0))
      (sym (abs_is first keeps.above)) keeps)
      found (subst (λ t. IsFillBy cut.section t (nat_abs first) (nat_abs headway) found) same by)
