-- What is taken up stays sound as members are tried.
use Rattle.std.proofs.Common.{◌≡◌, ℕ, ◌+◌, ◌-◌, ◌<◌, ◌≤◌, true, false, ◌||◌, ◌==◌, List, [], ◌∷◌, ◌++◌, length, take, get_or, inl, inr, refl, sym, ap, subst, ◌∙◌, arith, length-append}
use Rattle.std.specs.List.{All}
use Rattle.std.proofs.lemmas.Bool.{cases_Bool, cases_eq, or_left, or_right, eqb-true, eq-eqb, ne_eqb, both_ways, false_from_ne_true}
use Rattle.std.proofs.lemmas.List.{take-append-le, take_all, get_or_append_left, get_or-append_right}
use Rattle.std.proofs.lemmas.List.Elements.{All-append, All-cons, All-nil, All-from_get_or}
use Rattle.train_order.specs.declared.member_set.MemberSet.{MemberSet}
use Rattle.train_order.specs.Sets.{holds, relates}
use Rattle.train_order.specs.Taking.{is_among, IsDistinct, IsFree, IsTaking, IsTried, IsUp}
use Rattle.train_order.proofs.Among.{stands_at, among_at, among_put, not_at_end, end_parts, distinct_end, distinct_more}
use Rattle.train_order.proofs.Whole.{whole_length}

-- what stands at the end
at_end : (some : List ℕ) (j : ℕ) → get_or (some ++ j ∷ []) (length some) 0 ≡ j
at_end some j =
    get_or-append_right some (j ∷ []) (length some) (length some) 0 refl (omega arith)
    ∙ ap (λ k. get_or (j ∷ []) k 0) (let z : length some - length some ≡ 0 = omega arith in z)

before_end : (some : List ℕ) (j k : ℕ) → k < length some → get_or (some ++ j ∷ []) k 0 ≡ get_or some k 0
before_end some j k l = get_or_append_left some (j ∷ []) 0 k l

one_longer : (some : List ℕ) (j : ℕ) → length (some ++ j ∷ []) ≡ length some + 1
one_longer some j = length-append some (j ∷ [])

module _ {sets : List MemberSet} where
  -- ---- a free member is taken up

  module _ {taken words : List ℕ} (up : IsUp sets taken words) where
    module _ (j : ℕ) (l : j < length sets) (free : IsFree sets words j) where
      fresh : is_among taken j ≡ false
      fresh = sym (up.same j) ∙ free.fresh

      within_then : All (λ k. k < length sets) (taken ++ j ∷ [])
      within_then =
          All-append (λ k. k < length sets) taken (j ∷ []) up.sound.within
          (All-cons (λ k. k < length sets) j [] l (All-nil (λ k. k < length sets)))

      once_then : IsDistinct (taken ++ j ∷ [])
      once_then = distinct_more taken j up.sound.once fresh

      pub next_few : length taken < length sets
      next_few = omega (arith, whole_length (length sets) (taken ++ j ∷ []) within_then once_then, one_longer taken j)

      after_then : (k i : ℕ) → k < length (taken ++ j ∷ []) → i < length sets → relates sets i (get_or (taken ++ j ∷ []) k 0) ≡ true
          → is_among (take k (taken ++ j ∷ [])) i ≡ true
      after_then k i lk li r =
          ap (λ ts. is_among ts i) (take-append-le k taken (j ∷ []) (omega (arith, lk, one_longer taken j)))
          ∙ elim (cases_eq k (length taken)) [
            | inl e ↦
                let of_j : relates sets i j ≡ true =
                subst (λ m. relates sets i m ≡ true) (ap (λ m. get_or (taken ++ j ∷ []) m 0) e ∙ at_end taken j) r in
                ap (λ ts. is_among ts i) (take_all k taken (omega arith)) ∙ sym (up.same i) ∙ free.after i li of_j
            | inr ne ↦
                let old : k < length taken = omega (arith, lk, one_longer taken j, ne) in
                up.sound.after k i old li (subst (λ y. relates sets i y ≡ true) (before_end taken j k old) r)
          ]

      up_then : (after : List ℕ) → ((k : ℕ) → holds after k ≡ ((j == k) || holds words k)) → IsUp sets (taken ++ j ∷ []) after
      up_then after put = record {
        sound = record { within = within_then; once = once_then; after = after_then };
        same = among_put (λ k. k) words after taken j up.same put;
      }

  -- ---- the work

  -- the last member of the path is free
  pub popped : {taken words tried : List ℕ} (rest : List ℕ) (j : ℕ) → IsTaking sets taken words tried (rest ++ j ∷ []) → j < length sets
      → IsFree sets words j → (after : List ℕ) → ((k : ℕ) → holds after k ≡ ((j == k) || holds words k))
      → IsTaking sets (taken ++ j ∷ []) after tried rest
  popped {taken} {words} {tried} rest j so_far l free after put =
      let last = distinct_end rest j so_far.once in
      let its = so_far.on_path (length rest) (omega (arith, one_longer rest j)) in
      let long : (k : ℕ) → k < length rest → k < length (rest ++ j ∷ []) = λ k lk. omega (arith, lk, one_longer rest j) in
      record {
        up = up_then so_far.up j l free after put;
        all_tried = λ k h. elim (cases_Bool (is_among taken k)) [
          | inl t ↦ so_far.all_tried k t
          | inr f ↦ elim (cases_Bool (j == k)) [
            | inl t ↦ subst (λ m. holds tried m ≡ true) (at_end rest j ∙ eqb-true j k t) its.came
            | inr g ↦ absurd (both_ways _ (not_at_end taken j k f g) h)
          ]
        ];
        once = last.0;
        on_path = λ k lk.
            let old = so_far.on_path k (long k lk) in
            let y = get_or rest k 0 in
            let is = before_end rest j k lk in
            record {
              there = omega (arith, old.there, is);
              came = subst (λ m. holds tried m ≡ true) is old.came;
              left =
                  not_at_end taken j y (subst (λ m. is_among taken m ≡ false) is old.left)
                  (ne_eqb j y (λ e. both_ways _ last.1 (among_at rest k j lk (sym e))));
            };
        links = λ k lk.
            subst (λ m. relates sets m (get_or rest k 0) ≡ true) (before_end rest j (k + 1) lk)
            (subst (λ m. relates sets (get_or (rest ++ j ∷ []) (k + 1) 0) m ≡ true) (before_end rest j k (omega (arith, lk)))
            (so_far.links k (long (k + 1) lk)));
        rest = λ k t out off.
            let parts = end_parts taken j k out in
            let old = so_far.rest k t parts.0 (not_at_end rest j k off parts.1) in
            let apart = end_parts rest j old.member old.apart in
            record {
              member = old.member;
              is_tried = record {
                there = old.is_tried.there;
                came = old.is_tried.came;
                left = not_at_end taken j old.member old.is_tried.left apart.1;
              };
              apart = apart.0;
              precedes = old.precedes;
            };
      }

  module _ {taken words tried path : List ℕ} (so_far : IsTaking sets taken words tried path) where
    path_there : All (λ k. k < length sets) path
    path_there = All-from_get_or (λ k. k < length sets) path 0 (λ k l. (so_far.on_path k l).there)

    pub path_few : length path ≤ length sets
    path_few = omega (arith, whole_length (length sets) path path_there so_far.once)

    -- a member that is left precedes the last of the path
    module _ (j : ℕ) (l : j < length sets) (out : is_among taken j ≡ false)
        (link : (k : ℕ) → k + 1 ≡ length path → relates sets j (get_or path k 0) ≡ true) where
      -- it was tried
      pub stuck : holds tried j ≡ true → IsTaking sets taken words tried []
      stuck t = record {
        up = so_far.up;
        all_tried = so_far.all_tried;
        once = tt;
        on_path = λ k lk. absurd (omega (arith, lk));
        links = λ k lk. absurd (omega (arith, lk));
        rest = λ k tk ok off. elim (cases_Bool (is_among path k)) [
          | inr f ↦
              let old = so_far.rest k tk ok f in
              record { member = old.member; is_tried = old.is_tried; apart = refl; precedes = old.precedes }
          | inl h ↦
              let s = stands_at path k h in
              elim (cases_eq (s.at + 1) (length path)) [
                | inl e ↦ record {
                  member = j;
                  is_tried = record { there = l; came = t; left = out };
                  apart = refl;
                  precedes = subst (λ m. relates sets j m ≡ true) s.is (link s.at e);
                }
                | inr ne ↦ record {
                  member = get_or path (s.at + 1) 0;
                  is_tried = so_far.on_path (s.at + 1) (omega (arith, s.within, ne));
                  apart = refl;
                  precedes =
                      subst (λ m. relates sets (get_or path (s.at + 1) 0) m ≡ true) s.is (so_far.links s.at (omega (arith, s.within, ne)));
                }
              ]
        ];
      }

      -- it was not
      module _ (fresh : holds tried j ≡ false) where
        off_path : is_among path j ≡ false
        off_path =
            false_from_ne_true _ (λ h.
            let s = stands_at path j h in
            both_ways _ fresh (subst (λ m. holds tried m ≡ true) s.is (so_far.on_path s.at s.within).came))

        pub path_room : length path < length sets
        path_room =
            omega (
              arith,
              whole_length (length sets) (path ++ j ∷ [])
                  (All-append (λ k. k < length sets) path (j ∷ []) path_there (All-cons (λ k. k < length sets) j [] l (All-nil (λ k. k < length sets))))
                  (distinct_more path j so_far.once off_path),
              one_longer path j,
            )

        module _ (after : List ℕ) (put : (k : ℕ) → holds after k ≡ ((j == k) || holds tried k)) where
          pub grown : (k : ℕ) → holds tried k ≡ true → holds after k ≡ true
          grown k h = put k ∙ or_right (j == k) (holds tried k) h

          still : (k : ℕ) → IsTried sets taken tried k → IsTried sets taken after k
          still k old = record { there = old.there; came = grown k old.came; left = old.left }

          pub tried_then : holds after j ≡ true
          tried_then = put j ∙ or_left (j == j) (holds tried j) (eq-eqb j j refl)

          pub pushed : IsTaking sets taken words after (path ++ j ∷ [])
          pushed = record {
            up = so_far.up;
            all_tried = λ k h. grown k (so_far.all_tried k h);
            once = distinct_more path j so_far.once off_path;
            on_path = λ k lk. elim (cases_eq k (length path)) [
              | inl e ↦
                  subst (IsTried sets taken after) (sym (ap (λ m. get_or (path ++ j ∷ []) m 0) e ∙ at_end path j))
                  (record { there = l; came = tried_then; left = out })
              | inr ne ↦
                  let old : k < length path = omega (arith, lk, one_longer path j, ne) in
                  subst (IsTried sets taken after) (sym (before_end path j k old)) (still _ (so_far.on_path k old))
            ];
            links = λ k lk.
                let here : k < length path = omega (arith, lk, one_longer path j) in
                subst (λ m. relates sets (get_or (path ++ j ∷ []) (k + 1) 0) m ≡ true) (sym (before_end path j k here))
                (elim (cases_eq (k + 1) (length path)) [
                  | inl e ↦
                      subst (λ m. relates sets m (get_or path k 0) ≡ true)
                      (sym (ap (λ m. get_or (path ++ j ∷ []) m 0) e ∙ at_end path j)) (link k e)
                  | inr ne ↦
                      let old : k + 1 < length path = omega (arith, here, ne) in
                      subst (λ m. relates sets m (get_or path k 0) ≡ true) (sym (before_end path j (k + 1) old)) (so_far.links k old)
                ]);
            rest = λ k t ok off.
                let parts = end_parts path j k off in
                let was : holds tried k ≡ true = ap (λ b. b || holds tried k) (sym parts.1) ∙ sym (put k) ∙ t in
                let old = so_far.rest k was ok parts.0 in
                record {
                  member = old.member;
                  is_tried = still old.member old.is_tried;
                  apart =
                      not_at_end path j old.member old.apart
                      (ne_eqb j old.member (λ e. both_ways _ fresh (subst (λ m. holds tried m ≡ true) (sym e) old.is_tried.came)));
                  precedes = old.precedes;
                };
          }
