-- The headway, use after use of the train that follows.
use Rattle.std.specs.Prelude.{ℕ, ◌==◌, ℤ, pos, ◌-ℤ◌, ◌≤ℤ◌, fold, find, Option, None, Some, option_map}
use Rattle.std.specs.Int.{int_max}
use Rattle.rail_model.specs.declared.stair.Use.{Use}
use Rattle.plan_model.specs.declared.cut.CutRow.{CutRow}

-- how long a moment lies after another: at most 100,000,000 seconds
pub record IsLength (t : ℤ) : Type 0 where
  pub after : (pos 0 -ℤ pos 100000000) ≤ℤ t
  pub before : t ≤ℤ pos 100000000

-- how long after its entry a train ends its use of a place, if it uses it
abbrev pub end_in : CutRow → ℕ → Option ℤ
end_in row place = option_map (λ u. u.«end» -ℤ row.entry) (find (λ u. u.block == place) row.uses)

-- the greater of the greatest so far, if there is one, and of one more
abbrev pub greater : Option ℤ → ℤ → ℤ
greater None one = one
greater (Some greatest) one = int_max greatest one

-- the greatest so far with a place that the other train starts so long after its entry
abbrev pub with_start : Option ℤ → Option ℤ → ℤ → Option ℤ
with_start greatest None start = greatest
with_start greatest (Some «end») start = Some (greater greatest («end» -ℤ start))

-- the greatest so far with a use of a train that enters at a moment, by the end of the first train there
abbrev pub by_end : Option ℤ → ℤ → Option ℤ → Use → Option ℤ
by_end «end» entry greatest u = with_start greatest «end» (u.start -ℤ entry)

-- the greatest so far with a use of a train that enters at a moment, by the ends of the first train at all places
abbrev pub with_use : (ℕ → Option ℤ) → ℤ → Option ℤ → Use → Option ℤ
with_use ends entry greatest u = by_end (ends u.block) entry greatest u

-- the greatest over all uses of the train that follows
abbrev pub walked : (ℕ → Option ℤ) → CutRow → Option ℤ
walked ends row = fold (with_use ends row.entry) None row.uses
