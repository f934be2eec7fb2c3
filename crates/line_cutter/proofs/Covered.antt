-- Where each member of a cut is also a member of a cut that has an order, with the same uses, the cut has an order.
use Rattle.std.proofs.Common.{◌≡◌, ℕ, ◌<◌, ◌≤◌, true, List, [], ◌∷◌, length, get_or, refl, sym, ap, ◌∙◌, arith}
use Rattle.std.proofs.lemmas.Bool.{or_left, eq-eqb}
use Rattle.plan_model.specs.declared.cut.CutRow.{CutRow}
use Rattle.plan_model.specs.declared.cut.Cut.{Cut}
use Rattle.plan_model.specs.Members.{place_count, places, member, member_count, no_member, precedes, precedes_somewhere}
use Rattle.plan_model.specs.Disorder.{remaining}
use Rattle.plan_model.proofs.MemberTests.{has, has-range, has_any}
use Rattle.plan_model.proofs.Preceded.{remain}
use Rattle.line_cutter.proofs.Remaining.{remaining_there, remaining_preceded}
use Rattle.line_cutter.proofs.Whole.{some_below}

-- one train in two rows
pub record IsSameTrain (row other : CutRow) : Type 0 where
  pub name : row.name ≡ other.name
  pub uses : row.uses ≡ other.uses

-- a train is among some rows
pub record IsAmong (rows : List CutRow) (row : CutRow) : Type 0 where
  pub at : ℕ
  pub there : at < length rows
  pub is : IsSameTrain row (get_or rows at no_member)

same_precedes : (i j k m : CutRow) (p : ℕ) → IsSameTrain i k → IsSameTrain j m → precedes i j p ≡ precedes k m p
same_precedes i j k m p one other = rw (one.name, one.uses, other.name, other.uses) refl

module _ (cut whole : Cut) (enough : place_count cut ≤ place_count whole)
    (among : (j : ℕ) → j < member_count cut → IsAmong whole.rows (member cut j)) where
  -- a member of the whole remains in the cut
  record Remains (k : ℕ) : Type 0 where
    pub is_there : k < member_count whole
    pub position : ℕ
    pub remains : has (remaining cut) position ≡ true
    pub is : IsSameTrain (member cut position) (member whole k)

  abbrev of_remaining : (j : ℕ) → has (remaining cut) j ≡ true → (k : ℕ) × Remains k
  of_remaining j h =
      let some = among j (remaining_there cut j h) in
      (some.at, record { is_there = some.there; position = j; remains = h; is = some.is })

  -- one that remains precedes it
  each : (k : ℕ) → Remains k → (i : ℕ) × Remains i × (precedes_somewhere whole i k ≡ true)
  each k r =
      let by = remaining_preceded cut r.position r.remains in
      let other = of_remaining by.0 by.1 in
      let before = some_below (precedes (member cut by.0) (member cut r.position)) (place_count cut) by.2 in
      let same = same_precedes (member cut by.0) (member cut r.position) (member whole other.0) (member whole k) before.0
      other.1.is r.is in (
        other.0,
        other.1,
        has_any (precedes (member whole other.0) (member whole k)) (places whole) before.0
            (has-range (place_count whole) before.0 (omega (arith, enough, before.1))) (sym same ∙ before.2),
      )

  none_left : remaining whole ≡ [] → (left : List ℕ) → remaining cut ≡ left → left ≡ []
  none_left none [] e = refl
  none_left none (j ∷ left) e =
      let first : has (j ∷ left) j ≡ true = or_left _ _ (eq-eqb j j refl) in
      let some = of_remaining j (rw e first) in
      let remains = remain whole Remains (λ k r. r.is_there) each some.0 some.1 in
      let gone = ap (λ all. has all some.0) none in
      absurd (cc)

  pub stays_in_order : remaining whole ≡ [] → remaining cut ≡ []
  stays_in_order none = none_left none (remaining cut) refl
