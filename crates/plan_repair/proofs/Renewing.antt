-- One row more of a cut that is put together.
use Rattle.std.proofs.Common.{◌≡◌, ℕ, ◌+◌, ◌<◌, List, [], ◌∷◌, ◌++◌, take, drop, set, length, Option, None, refl, sym, ap, ◌∙◌, subst, arith}
use Rattle.std.specs.Prelude.{if◌then◌else◌, sum_by, find, IfSome}
use Rattle.std.proofs.lemmas.List.{take_more, take_more_set, drop-set-lt}
use Rattle.std.proofs.lemmas.List.Sums.{sum_by_more, sum_by-take-le}
use Rattle.rail_model.specs.Name.{NamesRise}
use Rattle.plan_model.specs.declared.cut.CutRow.{CutRow}
use Rattle.plan_model.specs.declared.cut.Cut.{Cut}
use Rattle.plan_model.specs.Cut.{IsSoundCut}
use Rattle.plan_model.specs.Members.{member, member_count, no_member}
use Rattle.plan_model.specs.Reading.{Shown}
use Rattle.plan_repair.specs.Kept.{uses_to_take, TakesAtMost, has}
use Rattle.plan_repair.specs.Left.{HasName, IsLeft, StoodAt}
use Rattle.plan_repair.specs.Renewed.{IsRenewed}
use Rattle.plan_repair.proofs.Looking.{none_has}
use Rattle.plan_repair.proofs.Leaving.{ends_through, left_in_place}
use Rattle.plan_repair.proofs.Standing.{stood_none, stood_more}

-- what is taken of a row that isn't kept is all its uses
pub taken_whole : (kept : List CutRow) (row : CutRow) (before after : Shown) → find (has row.name row.stamp) kept ≡ None
    → TakesAtMost (length row.uses) before after → TakesAtMost (uses_to_take kept row) before after
taken_whole kept row before after none all = rw (none_has (has row.name row.stamp) kept none) all

module _ (kept : List CutRow) (before : Shown) where
  abbrev cut : Cut
  cut = before.cut

  -- at first all kept rows are left, and nothing is taken
  pub renewed_first : NamesRise (λ r. r.name) kept → IsRenewed kept before 0 [] kept [] before
  renewed_first rise = record {
    first = refl;
    stood = stood_none kept;
    renewing = record {
      left = record { rise = rise; ends = record { before = []; is = refl }; later = λ j from below. refl };
      taken = record { cut = refl; at = refl; taken = omega arith; no_less = omega arith };
    };
  }

  -- what is taken of some rows is no more than is taken in all
  pub in_all : (i : ℕ) (now : Shown) → TakesAtMost (sum_by (uses_to_take kept) (take i cut.rows)) before now
      → TakesAtMost (sum_by (uses_to_take kept) cut.rows) before now
  in_all i now some = record {
    cut = some.cut;
    at = some.at;
    taken = omega (arith, some.taken, sum_by-take-le (uses_to_take kept) cut.rows i);
    no_less = some.no_less;
  }

  module _ (i : ℕ) (rows left : List CutRow) (origin : List (Option ℕ)) (now : Shown)
      (so_far : IsRenewed kept before i rows left origin now) (below : i < member_count cut) (after : Shown)
      (one : TakesAtMost (uses_to_take left (member now.cut i)) now after) where
    -- what is taken with one row more
    taken_more : TakesAtMost (sum_by (uses_to_take kept) (take (i + 1) cut.rows)) before after
    taken_more =
        let row = member cut i in
        let was = so_far.renewing in
        let same : uses_to_take left row ≡ uses_to_take kept row =
        ap (λ b. if b then 0 else length row.uses) (was.left.later i (omega arith) below) in
        let uses = ap (λ (k : Cut). uses_to_take left (member k i)) was.taken.cut in
        record {
          cut = one.cut ∙ was.taken.cut;
          at = one.at ∙ was.taken.at;
          taken = omega (arith, one.taken, was.taken.taken, same, uses, sum_by_more (uses_to_take kept) cut.rows i no_member below);
          no_less = omega (arith, one.no_less, was.taken.no_less);
        }

    pub taken_in_all : TakesAtMost (sum_by (uses_to_take kept) cut.rows) before after
    taken_in_all = in_all (i + 1) after taken_more

    pub renewed_more : (row : CutRow) (from : Option ℕ) (left_then : List CutRow) → IsSoundCut cut → row ≡ member now.cut i
        → IsLeft (member now.cut i).name left left_then → IfSome from (StoodAt (length kept) left left_then row)
        → IsRenewed kept before (i + 1) (rows ++ row ∷ []) left_then (origin ++ from ∷ []) after
    renewed_more row from left_then sound is next stood =
        let was = so_far.renewing in
        let behind : IsLeft (member cut i).name left left_then =
        subst (λ (k : Cut). IsLeft (member k i).name left left_then) was.taken.cut next in
        record {
          first = rw (so_far.first, is, was.taken.cut) (sym (take_more cut.rows i no_member below));
          stood = stood_more kept left left_then rows origin row from so_far.stood was.left.ends next.ends stood;
          renewing = record {
            left = record {
              rise = behind.rise;
              ends = ends_through kept left left_then was.left.ends behind.ends;
              later = λ j from there.
                  behind.later (member cut j) (sound.names_rise i j no_member (omega arith) there)
                  ∙ was.left.later j (omega arith) there;
            };
            taken = taken_more;
          };
        }

  -- where rows are renewed in the place of kept ones
  pub more_in_place : (i : ℕ) (rows rows_then : List CutRow) (origin : List (Option ℕ)) (from : Option ℕ) (now after : Shown)
      → IsRenewed kept before i (take i rows) (drop i rows) origin now → IsSoundCut cut → i < member_count cut
      → length rows ≡ length kept → HasName rows i (member now.cut i).name → rows_then ≡ set rows i (member now.cut i)
      → IfSome from (StoodAt (length rows) (drop i rows) (drop (i + 1) rows) (member now.cut i))
      → TakesAtMost (uses_to_take (drop i rows) (member now.cut i)) now after
      → IsRenewed kept before (i + 1) (take (i + 1) rows_then) (drop (i + 1) rows_then) (origin ++ from ∷ []) after
  more_in_place i rows rows_then origin from now after so_far sound below count first is stood one =
      let row = member now.cut i in
      let there = first.there in
      let left = left_in_place row.name rows i first so_far.renewing.left.rise in
      let at = subst (λ n. IfSome from (StoodAt n (drop i rows) (drop (i + 1) rows) row)) count stood in
      let done = ap (take (i + 1)) is ∙ take_more_set rows i row there in
      let rest = ap (drop (i + 1)) is ∙ drop-set-lt (i + 1) rows i row (omega arith) in
      rw (done, rest)
      (renewed_more i (take i rows) (drop i rows) origin now so_far below after one row from (drop (i + 1) rows) sound refl left at)
