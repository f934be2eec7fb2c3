-- The first member that ends its use of a block last, visit after visit.
use Rattle.std.proofs.Common.{◌≡◌, ◌⊎◌, ℕ, true, false, List, [], ◌∷◌, inl, inr, refl, sym, ap, subst, ◌∙◌, arith}
use Rattle.std.specs.Prelude.{ℤ, ◌≤ℤ◌, ◌<ℤ◌, int_lt, ◌==◌, Option, None, Some, find, filter, fold}
use Rattle.std.specs.Int.Signed.{≤ℤ_refl, <ℤ-≤ℤ_trans}
use Rattle.std.specs.Ordering.{int_eq}
use Rattle.std.proofs.lemmas.Bool.{cases_Bool, eqb-true, or_cases, false_from_ne_true}
use Rattle.std.proofs.lemmas.Bool.Decides.{Decides-int_eq}
use Rattle.std.proofs.lemmas.Int.{ints}
use Rattle.rail_model.proofs.Numbers.{le_both_ways, le_from_lt, le_from_not_lt, lt_from_test, lt_through}
use Rattle.plan_model.specs.declared.cut.Cut.{Cut}
use Rattle.plan_model.specs.Members.{member, member_count, members, uses_place}
use Rattle.plan_model.specs.Schedule.{end_by}
use Rattle.plan_model.specs.Answer.{users, last_end, last_member}
use Rattle.plan_model.proofs.MemberTests.{has}
use Rattle.plan_model.proofs.Greatest.{above_each, greatest_within}
use Rattle.critical_chain.specs.declared.last.Latest.{Latest}
use Rattle.critical_chain.specs.Parts.{later, member_of, latest_upto}
use Rattle.train_order.proofs.Find.{found}

not_same : (a b : ℤ) → a <ℤ b → int_eq a b ≡ false
not_same a b h =
    false_from_ne_true (int_eq a b) (λ t. let e = (Decides-int_eq a b).0 t in omega (arith, ints, h, e))

module _ (cut : Cut) (entries : List ℤ) (block : ℕ) where
  abbrev ends : ℕ → ℤ
  ends i = end_by cut entries i block

  abbrev step : Option Latest → ℕ → Option Latest
  step latest i = later latest i (ends i)

  abbrev using : List ℕ → List ℕ
  using some = filter (λ i. uses_place (member cut i) block) some

  -- one of some members ends last, and is the first that does
  record IsLatest (some : List ℕ) (l : Latest) : Type 0 where
    most : (i : ℕ) → has some i ≡ true → ends i ≤ℤ l.until
    first : find (λ i. int_eq (ends i) l.until) some ≡ Some l.member

  -- those that end no later than one before them
  abbrev NoneAfter : List ℕ → Latest → Type 0
  NoneAfter some a = (i : ℕ) → has (using some) i ≡ true → ends i ≤ℤ a.until

  -- after one before them some members leave it, or one of them ends later
  abbrev Left : List ℕ → Latest → Type 0
  Left some a =
      ((fold step (Some a) (using some) ≡ Some a) × NoneAfter some a)
      ⊎ ((l : Latest) × (fold step (Some a) (using some) ≡ Some l) × (a.until <ℤ l.until) × IsLatest (using some) l)

  more : (k : ℕ) (some : List ℕ) (z : ℤ) → ends k ≤ℤ z → ((i : ℕ) → has (using some) i ≡ true → ends i ≤ℤ z)
      → (i : ℕ) → has (k ∷ using some) i ≡ true → ends i ≤ℤ z
  more k some z h each i there =
      elim (or_cases (k == i) (has (using some) i) there) [
        | inl e ↦ subst (λ m. ends m ≤ℤ z) (eqb-true k i e) h
        | inr e ↦ each i e
      ]

  -- a member that uses the block ends later than all before it
  taken : (k : ℕ) (some : List ℕ) → uses_place (member cut k) block ≡ true
      → Left some (record { member = k; until = ends k })
      → (l : Latest) × (fold step (Some (record { member = k; until = ends k })) (using some) ≡ Some l)
      × (ends k ≤ℤ l.until) × IsLatest (using (k ∷ some)) l
  taken k some u (inl (is, none)) =
      let same : int_eq (ends k) (ends k) ≡ true = (Decides-int_eq (ends k) (ends k)).1 refl in (
        record { member = k; until = ends k },
        is,
        ≤ℤ_refl (ends k),
        rw u (record { most = more k some (ends k) (≤ℤ_refl (ends k)) none; first = rw same refl }),
      )
  taken k some u (inr (l, is, after, latest)) =
      let other : int_eq (ends k) l.until ≡ false = not_same (ends k) l.until after in (
        l,
        is,
        le_from_lt (ends k) l.until after,
        rw u (record { most = more k some l.until (le_from_lt (ends k) l.until after) latest.most; first = rw other latest.first }),
      )

  -- one more that uses the block
  with_user : (a : Option Latest) (k : ℕ) (some : List ℕ) → uses_place (member cut k) block ≡ true
      → fold step a (using (k ∷ some)) ≡ fold step (later a k (ends k)) (using some)
  with_user a k some u = rw u refl

  without_user : (a : Option Latest) (k : ℕ) (some : List ℕ) → uses_place (member cut k) block ≡ false
      → fold step a (using (k ∷ some)) ≡ fold step a (using some)
  without_user a k some u = rw u refl

  takes : (a : Latest) (k : ℕ) (z : ℤ) → int_lt a.until z ≡ true → later (Some a) k z ≡ Some (record { member = k; until = z })
  takes a k z t = rw t refl

  leaves : (a : Latest) (k : ℕ) (z : ℤ) → int_lt a.until z ≡ false → later (Some a) k z ≡ Some a
  leaves a k z t = rw t refl

  left : (some : List ℕ) (a : Latest) → Left some a
  left [] a = inl (refl, λ i h. absurd (cc))
  left (k ∷ some) a =
      elim (cases_Bool (uses_place (member cut k) block)) [
        | inr u ↦ rw u (left some a)
        | inl u ↦ elim (cases_Bool (int_lt a.until (ends k))) [
          | inl t ↦
              let r = taken k some u (left some (record { member = k; until = ends k })) in
              let after = <ℤ-≤ℤ_trans (lt_from_test a.until (ends k) t) r.2 in
              inr (
                r.0,
                with_user (Some a) k some u ∙ ap (λ o. fold step o (using some)) (takes a k (ends k) t) ∙ r.1,
                after,
                r.3,
              )
          | inr t ↦
              let before = le_from_not_lt a.until (ends k) t in
              elim (left some a) [
                | inl (is, none) ↦
                    inl (
                      with_user (Some a) k some u ∙ ap (λ o. fold step o (using some)) (leaves a k (ends k) t) ∙ is,
                      rw u (more k some a.until before none),
                    )
                | inr (l, is, after, latest) ↦
                    let other : int_eq (ends k) l.until ≡ false = not_same (ends k) l.until (lt_through (ends k) a.until l.until before after) in
                    inr (
                      l,
                      with_user (Some a) k some u ∙ ap (λ o. fold step o (using some)) (leaves a k (ends k) t) ∙ is,
                      after,
                      rw u (record {
                        most = more k some l.until (le_from_lt (ends k) l.until (lt_through (ends k) a.until l.until before after)) latest.most;
                        first = rw other latest.first;
                      }),
                    )
              ]
        ]
      ]

  -- the latest of some members, if any uses the block
  latest_of : (some : List ℕ)
      → ((fold step None (using some) ≡ None) × (using some ≡ []))
      ⊎ ((l : Latest) × (fold step None (using some) ≡ Some l) × IsLatest (using some) l)
  latest_of [] = inl (refl, refl)
  latest_of (k ∷ some) =
      elim (cases_Bool (uses_place (member cut k) block)) [
        | inr u ↦ elim (latest_of some) [
          | inl (is, none) ↦ inl (rw u is, rw u none)
          | inr (l, is, latest) ↦ inr (l, rw u is, rw u latest)
        ]
        | inl u ↦
            let r = taken k some u (left some (record { member = k; until = ends k })) in
            inr (r.0, rw u r.1, r.3)
      ]

  last_is : (l : Latest) → IsLatest (users cut block) l → last_member cut entries block ≡ Some l.member
  last_is l latest =
      let one = found (λ i. int_eq (ends i) l.until) (users cut block) l.member latest.first in
      let its = (Decides-int_eq (ends l.member) l.until).0 one.1 in
      let most : last_end cut entries block ≡ l.until =
      le_both_ways (last_end cut entries block) l.until (greatest_within ends l.until (users cut block) l.member one.0 latest.most)
      (subst (λ z. z ≤ℤ last_end cut entries block) its (above_each ends (users cut block) l.member one.0)) in
      ap (λ z. find (λ i. int_eq (ends i) z) (users cut block)) most ∙ latest.first

  pub last_member_is : member_of (latest_upto cut entries block (member_count cut)) ≡ last_member cut entries block
  last_member_is =
      elim (latest_of (members cut)) [
        | inl (is, none) ↦
            ap member_of is ∙ sym (ap (find (λ i. int_eq (ends i) (last_end cut entries block))) none)
        | inr (l, is, latest) ↦ ap member_of is ∙ sym (last_is l latest)
      ]
