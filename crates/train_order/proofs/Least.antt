-- The least opposite pair of a cut, found by those members of which each pair has one, or by the first members.
use Rattle.std.proofs.Common.{◌≡◌, ℕ, zero, suc, ◌+◌, ◌-◌, ◌<◌, ◌≤◌, Bool, true, false, List, map, inl, inr, refl, sym, ap, subst, ◌∙◌, arith}
use Rattle.std.specs.Prelude.{Option, Some, None, find, nat_lt, option_map}
use Rattle.std.specs.List.{flat_map, range_with_len}
use Rattle.std.proofs.lemmas.Bool.{cases_Bool, cases_lt, cases_order, and_parts, and_from, ltb-true, lt-ltb, le-ltb, both_ways, false_from_ne_true}
use Rattle.std.proofs.lemmas.List.Sorted.{IsPermutation-refl}
use Rattle.rail_model.proofs.Lists.{find-map}
use Rattle.plan_model.specs.declared.cut.Cut.{Cut}
use Rattle.plan_model.specs.Members.{places, member, member_count, members, precedes, precedes_somewhere}
use Rattle.plan_model.specs.Disorder.{are_opposite, opposite_pair}
use Rattle.plan_model.specs.Cut.{IsSoundCut}
use Rattle.train_order.specs.Sets.{holds}
use Rattle.train_order.specs.OutOfTurn.{AreApart}
use Rattle.train_order.specs.Pairs.{pair_with, lesser, least_with, IsFirstOpposite}
use Rattle.train_order.proofs.Find.{find_some, found_in, none_yet, first_found, none_found}
use Rattle.train_order.proofs.InOrder.{not_itself}
use Rattle.train_order.proofs.Opposed.{no_pair}

-- the pair so far has no greater first number
abbrev IsFrom : Option (ℕ × ℕ) → ℕ → Type 0
IsFrom None x = ⊥
IsFrom (Some q) x = q.0 ≤ x

lesser_from : (so_far : Option (ℕ × ℕ)) (p : ℕ × ℕ) (x : ℕ) → IsFrom so_far x → IsFrom (lesser so_far p) x
lesser_from None p x h = absurd h
lesser_from (Some q) p x h =
    elim (cases_Bool (nat_lt p.0 q.0)) [
      | inl t ↦ rw t (omega (arith, h, ltb-true p.0 q.0 t))
      | inr t ↦ rw t h
    ]

lesser_below : (so_far : Option (ℕ × ℕ)) (p : ℕ × ℕ) (x : ℕ) → p.0 ≤ x → IsFrom (lesser so_far p) x
lesser_below None p x l = l
lesser_below (Some q) p x l =
    elim (cases_Bool (nat_lt p.0 q.0)) [
      | inl t ↦ rw t l
      | inr t ↦ rw t (elim (cases_lt p.0 q.0) [ inl less ↦ absurd (both_ways _ t (lt-ltb p.0 q.0 less)) | inr more ↦ omega (arith, l, more) ])
    ]

-- a pair that takes the place of the one so far has a lesser first number
lesser_is : (Good : ℕ × ℕ → Type 0) (so_far : Option (ℕ × ℕ)) (p : ℕ × ℕ) → ((q : ℕ × ℕ) → so_far ≡ Some q → Good q)
    → ((IsFrom so_far p.0 → ⊥) → Good p) → (q : ℕ × ℕ) → lesser so_far p ≡ Some q → Good q
lesser_is Good None p old new q e = subst Good (let f : p ≡ q = (cc) in f) (new (λ h. h))
lesser_is Good (Some r) p old new q e =
    elim (cases_Bool (nat_lt p.0 r.0)) [
      | inl t ↦
          subst Good (let f : Some p ≡ Some q = rw t at e in let g : p ≡ q = (cc) in g)
          (new (λ h. omega (arith, h, ltb-true p.0 r.0 t)))
      | inr t ↦ old q (rw t at e)
    ]

module _ (cut : Cut) where
  abbrev n : ℕ
  n = member_count cut

  opposed_back : (i j : ℕ) → are_opposite cut i j ≡ true → are_opposite cut j i ≡ true
  opposed_back i j h =
      let parts = and_parts (precedes_somewhere cut i j) (precedes_somewhere cut j i) h in
      and_from (precedes_somewhere cut j i) (precedes_somewhere cut i j) parts.1 parts.0

  not_opposed_itself : IsSoundCut cut → (i : ℕ) → i < n → are_opposite cut i i ≡ true → ⊥
  not_opposed_itself sound i there its =
      let parts = and_parts (precedes_somewhere cut i i) (precedes_somewhere cut i i) its in
      let one = find_some (precedes (member cut i) (member cut i)) (places cut) parts.0 in
      not_itself cut (members cut) (IsPermutation-refl _) sound i one.0 there one.3

  -- a member and the first that is opposite to it, which is greater
  abbrev IsFirstPair : ℕ × ℕ → Type 0
  IsFirstPair p = (p.0 < p.1) × IsFirstOpposite cut p.0 (Some p.1)

  -- such a pair is the least, if no member before its first is opposite to another
  module _ (p : ℕ × ℕ) (is : IsFirstPair p) (from : (x y : ℕ) → x < n → y < n → are_opposite cut x y ≡ true → p.0 ≤ x) where
    abbrev test : ℕ × ℕ → Bool
    test q = are_opposite cut q.0 q.1

    abbrev behind : ℕ → List ℕ
    behind i = range_with_len (i + 1) (n - (i + 1))

    abbrev row : ℕ → List (ℕ × ℕ)
    row i = map (λ j. (i, j)) (behind i)

    rows : (m : ℕ) → m ≤ p.0 → find test (flat_map row (range_with_len 0 m)) ≡ None
    rows zero l = refl
    rows (suc m) l =
        subst (λ k. find test (flat_map row (range_with_len 0 k)) ≡ None) (let e : m + 1 ≡ suc m = omega arith in e)
        (none_yet test row m (rows m (omega (arith, l)))
        (find-map (λ j. (m, j)) test (behind m)
        ∙ ap (option_map (λ j. (m, j))) (none_found (are_opposite cut m) (m + 1) (n - (m + 1)) (λ k lk ln.
        let there : k < n = omega (arith, lk, ln) in
        false_from_ne_true _ (λ h. let least = from m k (omega (arith, lk, there)) there h in omega (arith, l, least))))))

    first_is : opposite_pair cut ≡ Some p
    first_is =
        let (less, (there, opposed, none)) = is in
        found_in test row n p.0 p (omega (arith, less, there)) (rows p.0 (omega arith))
        (find-map (λ j. (p.0, j)) test (behind p.0)
        ∙ ap (option_map (λ j. (p.0, j))) (first_found (are_opposite cut p.0) (p.0 + 1) (n - (p.0 + 1)) p.1 (omega (arith, less))
        (omega (arith, less, there)) (λ k l lk. none k lk) opposed))

  -- the first member that is opposite to one before which no member is opposite to another
  pub first_of_all : IsSoundCut cut → (i j : ℕ) → i < n → ((x y : ℕ) → x < i → y < n → are_opposite cut x y ≡ false)
      → IsFirstOpposite cut i (Some j) → opposite_pair cut ≡ Some (i, j)
  first_of_all sound i j there none first =
      let later : i < j = elim (cases_order j i) [
        | inl e ↦ absurd (not_opposed_itself sound i there (subst (λ m. are_opposite cut i m ≡ true) e first.1))
        | inr d ↦ elim d [
          | inl less ↦ absurd (both_ways _ (none j i less there) (opposed_back i j first.1))
          | inr more ↦ more
        ]
      ] in
      first_is (i, j) (later, first) (λ x y lx ly h. elim (cases_lt x i) [
        | inl less ↦ absurd (both_ways _ (none x y less ly) h)
        | inr more ↦ more
      ])

  module _ (words : List ℕ) where
    -- of the opposite pairs with a member of the set below a number, the first of those with the least first member
    pub record IsLeast (below : ℕ) (so_far : Option (ℕ × ℕ)) : Type 0 where
      pub is : (p : ℕ × ℕ) → so_far ≡ Some p → IsFirstPair p
      pub least : (x y : ℕ) → holds words x ≡ true → x < below → y < n → are_opposite cut x y ≡ true
          → IsFrom so_far x × IsFrom so_far y

    pub least_at_first : (below : ℕ) → ((k : ℕ) → k < below → holds words k ≡ false) → IsLeast below None
    least_at_first below none = record { is = λ p e. absurd (cc); least = λ x y a l ly h. absurd (both_ways _ (none x l) a) }

    module _ (apart : AreApart cut words) where
      -- no opposite pair of members below a number has one before the pair so far
      both_from : (below : ℕ) (so_far : Option (ℕ × ℕ)) → IsLeast below so_far → (x y : ℕ) → x < below → y < below → x < n → y < n
          → are_opposite cut x y ≡ true → IsFrom so_far x
      both_from below so_far so x y lx ly nx ny h =
          elim (cases_Bool (holds words x)) [
            | inl a ↦ (so.least x y a lx ny h).0
            | inr a ↦ elim (cases_Bool (holds words y)) [
              | inl b ↦ (so.least y x b ly nx (opposed_back x y h)).1
              | inr b ↦ absurd (both_ways _ (apart x y nx ny a b) h)
            ]
          ]

      module _ (sound : IsSoundCut cut) (i next : ℕ) (there : i < n)
          (none : (k : ℕ) → i + 1 ≤ k → k < next → holds words k ≡ false) where
        its_pair : (j : ℕ) (so_far : Option (ℕ × ℕ)) → IsFirstOpposite cut i (Some j) → IsLeast i so_far
            → (IsFrom so_far (pair_with i j).0 → ⊥) → IsFirstPair (pair_with i j)
        its_pair j so_far first so never =
            elim (cases_order j i) [
              | inl e ↦
                  absurd (not_opposed_itself sound i there (subst (λ m. are_opposite cut i m ≡ true) e first.1))
              | inr d ↦ elim d [
                | inl less ↦
                    let t = lt-ltb j i less in
                    let before : IsFrom so_far j → ⊥ = rw t at never in
                    let none_first : (k : ℕ) → k < i → are_opposite cut j k ≡ false =
                    λ k lk. false_from_ne_true _ (λ h. before (both_from i so_far so j k less lk first.0 (omega (arith, lk, there)) h)) in
                    rw t (less, (there, opposed_back i j first.1, none_first))
                | inr more ↦ let t = le-ltb j i (omega (arith, more)) in rw t (more, first)
              ]
            ]

        pair_low : (j : ℕ) → ((pair_with i j).0 ≤ i) × ((pair_with i j).0 ≤ j)
        pair_low j =
            elim (cases_lt j i) [
              | inl less ↦ let t = lt-ltb j i less in rw t (omega (arith, less), omega arith)
              | inr more ↦ let t = le-ltb j i more in rw t (omega arith, more)
            ]

        pub least_more : (so_far : Option (ℕ × ℕ)) (other : Option ℕ) → IsFirstOpposite cut i other → IsLeast i so_far
            → IsLeast next (least_with so_far i other)
        least_more so_far None first so = record {
          is = so.is;
          least = λ x y a l ly h. elim (cases_order x i) [
            | inl e ↦ absurd (both_ways _ (first y ly) (subst (λ m. are_opposite cut m y ≡ true) e h))
            | inr d ↦ elim d [ inl less ↦ so.least x y a less ly h | inr more ↦ absurd (both_ways _ (none x (omega (arith, more)) l) a) ]
          ];
        }
        least_more so_far (Some j) first so =
            let p = pair_with i j in
            record {
              is = lesser_is IsFirstPair so_far p so.is (its_pair j so_far first so);
              least = λ x y a l ly h. elim (cases_order x i) [
                | inl e ↦
                    let behind : j ≤ y = elim (cases_lt y j) [
                      | inl less ↦ absurd (both_ways _ (first.2 y less) (subst (λ m. are_opposite cut m y ≡ true) e h))
                      | inr more ↦ more
                    ] in (
                      lesser_below so_far p x (omega (arith, e, (pair_low j).0)),
                      lesser_below so_far p y (omega (arith, behind, (pair_low j).1)),
                    )
                | inr d ↦ elim d [
                  | inl less ↦
                      let from = so.least x y a less ly h in (lesser_from so_far p x from.0, lesser_from so_far p y from.1)
                  | inr more ↦ absurd (both_ways _ (none x (omega (arith, more)) l) a)
                ]
              ];
            }

      -- ---- all pairs

      module _ (below : ℕ) (past : n ≤ below) where
        from : (so_far : Option (ℕ × ℕ)) → IsLeast below so_far → (x y : ℕ) → x < n → y < n → are_opposite cut x y ≡ true → IsFrom so_far x
        from so_far so x y lx ly h = both_from below so_far so x y (omega (arith, lx, past)) (omega (arith, ly, past)) lx ly h

        pub least_is : (so_far : Option (ℕ × ℕ)) → IsLeast below so_far → so_far ≡ opposite_pair cut
        least_is None so = sym (no_pair cut (λ i j lt lj h. from None so i j (omega (arith, lt, lj)) lj h))
        least_is (Some p) so = sym (first_is p (so.is p refl) (from (Some p) so))
