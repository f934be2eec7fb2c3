-- Readings: what they show of a cut, and what a call takes of it.
use Rattle.std.specs.Prelude.{◌≡◌, ℕ, ◌+◌, ◌-◌, ◌^◌, min, List, length, sum_by}
use Rattle.std.specs.Borrow.{Fml, RattleType, MutBor}
use Rattle.std.specs.Io.BufRead.{Rests}
use Rattle.rail_model.specs.declared.stair.Use.{Use}
use Rattle.plan_model.specs.Types.{Cut}
use Rattle.plan_model.specs.declared.reading.HeldCut.{HeldCut}
use Rattle.plan_model.specs.declared.reading.HeldCut.TheVariants as held
use Rattle.plan_model.specs.Members.{member}

-- the cut that a reading holds, as its own or shared with others
abbrev pub held_cut : HeldCut → Cut
held_cut (held.Own cut) = cut
held_cut (held.Shared cut) = cut

-- what a reading shows: a cut, the number of the last edit before it was read, and how many uses were taken of it
pub record Shown : Type 0 where
  pub cut : Cut
  pub at : ℕ
  pub taken : ℕ

-- the reading after n more uses are taken: the count stands still at the greatest number of 64 bits
abbrev pub after_taking : ℕ → Shown → Shown
after_taking n s = record s { taken = min (s.taken + n) (2 ^ 64 - 1) }

-- the uses of the row at a position, and how many there are in all rows
abbrev pub uses_of : Shown → ℕ → List Use
uses_of s i = (member s.cut i).uses

abbrev pub use_count : Shown → ℕ
use_count s = sum_by (λ r. length r.uses) s.cut.rows

-- once what the call lent is given back, n more uses are taken, and nothing else has changed
abbrev pub Takes : (R : RattleType) → MutBor R.Denot → (R.Denot → Shown) → Shown → ℕ → Fml
Takes R reading shown before n = Rests R reading (λ after. shown after ≡ after_taking n before)
