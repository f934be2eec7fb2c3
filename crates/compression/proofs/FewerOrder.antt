-- With one train fewer the others keep an order.
use Rattle.std.proofs.Common.{◌≡◌, ℕ, ◌<◌, Bool, true, List, [], ◌∷◌, refl, sym, subst, arith}
use Rattle.std.specs.Prelude.{◌==◌}
use Rattle.std.specs.List.{list_any}
use Rattle.std.proofs.lemmas.Bool.{eq-eqb, or_left}
use Rattle.std.proofs.lemmas.List.Folds.{Any-from_list_any, list_any_at}
use Rattle.plan_model.specs.declared.cut.Cut.{Cut}
use Rattle.plan_model.specs.Members.{member, member_count, members, precedes_somewhere}
use Rattle.plan_model.specs.Disorder.{preceded, remaining}
use Rattle.plan_model.proofs.MemberTests.{has, in_range, filter-has}
use Rattle.plan_model.proofs.Preceded.{remain}
use Rattle.plan_model.proofs.Remaining.{remaining_is_left}
use Rattle.plan_model.proofs.TrueRing.{of_rounds}
use Rattle.compression.specs.Laws.{cut_without, OrderStaysWithout}
use Rattle.compression.proofs.Fewer.{stays}

some_of : (test : ℕ → Bool) (some : List ℕ) → list_any test some ≡ true
    → (i : ℕ) × (has some i ≡ true) × (test i ≡ true)
some_of test some h =
    let at = Any-from_list_any test some h in
    (at.1, list_any_at (λ k. k == at.1) some at.0 at.1 at.2 (eq-eqb _ at.1 at.3), at.4)

module _ (cut : Cut) (r : ℕ) (there : r < member_count cut) where
  abbrev rest : Cut
  rest = cut_without cut r

  left_there : (j : ℕ) → has (remaining rest) j ≡ true → j < member_count rest
  left_there j h =
      omega (
        arith,
        in_range 0 (member_count rest) j (of_rounds rest (member_count rest) (members rest) j h),
      )

  same_before : (i j k m : ℕ) → member rest i ≡ member cut k → member rest j ≡ member cut m
      → precedes_somewhere rest i j ≡ true → precedes_somewhere cut k m ≡ true
  same_before i j k m one other before = rw (one, other) at before

  -- a train of the cut remains without the one that is taken out
  record Remains (k : ℕ) : Type 0 where
    pub is_there : k < member_count cut
    pub position : ℕ
    pub among : has (remaining rest) position ≡ true
    pub row : member rest position ≡ member cut k

  -- one that remains precedes it
  each : (k : ℕ) → Remains k → (i : ℕ) × Remains i × (precedes_somewhere cut i k ≡ true)
  each k remains =
      let j = remains.position in
      let test : ℕ → Bool = λ m. list_any (λ i. precedes_somewhere rest i m) (remaining rest) in
      let again : has (preceded rest (remaining rest)) j ≡ true =
      subst (λ some. has some j ≡ true) (sym (remaining_is_left rest)) remains.among in
      let (i, among, before) = some_of (λ i. precedes_somewhere rest i j) (remaining rest)
      (filter-has test (remaining rest) j again).1 in
      let s = stays cut r there i (left_there i among) in (
        s.position,
        record { is_there = s.is_there; position = i; among = among; row = s.row },
        same_before i j s.position k s.row remains.row before,
      )

  none_left : remaining cut ≡ [] → (left : List ℕ) → remaining rest ≡ left → remaining rest ≡ []
  none_left none [] e = e
  none_left none (j ∷ left) e =
      let among : has (remaining rest) j ≡ true =
      subst (λ some. has some j ≡ true) (sym e) (or_left (j == j) (has left j) (eq-eqb j j refl)) in
      let s = stays cut r there j (left_there j among) in
      let one = remain cut Remains (λ k m. m.is_there) each s.position
      (record { is_there = s.is_there; position = j; among = among; row = s.row }) in
      absurd (let here = subst (λ some. has some s.position ≡ true) none one in cc)

pub order_stays_without : OrderStaysWithout
order_stays_without cut r there none = none_left cut r there none (remaining (cut_without cut r)) refl
