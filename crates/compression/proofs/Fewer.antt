-- With one train fewer no other train enters later.
use Rattle.std.proofs.Common.{◌≡◌, ℕ, ◌+◌, ◌<◌, List, length, inl, inr, arith}
use Rattle.std.specs.Prelude.{ℤ, pos, remove}
use Rattle.std.proofs.lemmas.Bool.{cases_lt}
use Rattle.std.proofs.lemmas.List.Edits.{length-remove, get_or-remove_below, get_or-remove_above}
use Rattle.plan_model.specs.declared.cut.Cut.{Cut}
use Rattle.plan_model.specs.Members.{member, member_count, no_member}
use Rattle.plan_model.specs.Schedule.{entry_at, IsSchedule}
use Rattle.compression.specs.Laws.{cut_without, NoneIsLaterWithout}

-- a train that stays is one of the cut
pub record Stays (cut : Cut) (r i : ℕ) : Type 0 where
  pub position : ℕ
  pub is_there : position < member_count cut
  pub row : member (cut_without cut r) i ≡ member cut position
  pub entry : (entries : List ℤ) → length entries ≡ member_count cut
      → entry_at (remove entries r) i ≡ entry_at entries position

pub stays : (cut : Cut) (r : ℕ) → r < member_count cut → (i : ℕ) → i < member_count (cut_without cut r)
    → Stays cut r i
stays cut r there i l =
    let fewer = length-remove cut.rows r there in
    elim (cases_lt i r) [
      | inl below ↦
          record {
            position = i;
            is_there = omega (arith, l, fewer);
            row = get_or-remove_below cut.rows r no_member i below there;
            entry = λ entries same.
                get_or-remove_below entries r (pos 0) i below (omega (arith, there, same));
          }
      | inr above ↦
          record {
            position = i + 1;
            is_there = omega (arith, l, fewer);
            row = get_or-remove_above cut.rows r no_member i above there;
            entry = λ entries same.
                get_or-remove_above entries r (pos 0) i above (omega (arith, there, same));
          }
    ]

-- the entries of the trains that stay are a schedule of theirs
still_schedule : (cut : Cut) (r : ℕ) (entries : List ℤ) → r < member_count cut → IsSchedule cut entries
    → IsSchedule (cut_without cut r) (remove entries r)
still_schedule cut r entries there one = record {
  count =
      omega (
        arith,
        one.count,
        length-remove cut.rows r there,
        length-remove entries r (omega (arith, there, one.count)),
      );
  from = λ i l.
      let s = stays cut r there i l in
      rw (s.entry entries one.count) (one.from s.position s.is_there);
  order = λ i j place li lj before.
      let s = stays cut r there i li in
      let t = stays cut r there j lj in
      rw (s.row, t.row, s.entry entries one.count, t.entry entries one.count)
      (one.order s.position t.position place s.is_there t.is_there (rw (s.row, t.row) at before));
}

pub none_is_later_without : NoneIsLaterWithout
none_is_later_without cut r entries fewer there all least i l =
    least.least (remove entries r) (still_schedule cut r entries there all.schedule) i l
