-- One more train is placed: what is known of the placed trains still is.
use Rattle.std.proofs.Common.{◌≡◌, ℕ, ◌+◌, ◌<◌, ◌⊎◌, true, false, ◌==◌, ◌&&◌, List, [], ◌∷◌, ◌++◌, length, inl, inr, refl, sym, ap, subst, ◌∙◌, arith, length-append}
use Rattle.std.specs.Prelude.{◌≢◌, ℤ, pos, ◌+ℤ◌, ◌-ℤ◌, ◌≤ℤ◌, ◌<ℤ◌, IsTrue, Option, None, Some, slice_index_or}
use Rattle.std.specs.Ordering.{int_eq}
use Rattle.std.proofs.lemmas.Bool.{cases_Bool, cases_eq, or_parts, and_parts, and_from, both_ways}
use Rattle.std.proofs.lemmas.Bool.Decides.{Decides-int_eq}
use Rattle.std.proofs.lemmas.Int.{ints}
use Rattle.std.proofs.lemmas.List.{length-set, get_or-set_same, get_or-set_other}
use Rattle.std.proofs.lemmas.List.Folds.{list_any-append}
use Rattle.plan_model.specs.declared.cut.CutRow.{CutRow}
use Rattle.plan_model.specs.declared.cut.Cut.{Cut}
use Rattle.plan_model.specs.declared.answer.Tie.{Tie}
use Rattle.plan_model.specs.declared.answer.Tie.TheVariants.{Start, After}
use Rattle.plan_model.specs.Members.{place_count, member, member_count, no_member, uses_place, use_at, precedes, is_among}
use Rattle.plan_model.specs.Cut.{IsSoundCut, IsSoundRow}
use Rattle.plan_model.specs.Schedule.{entry_at, start_at, end_at, start_by, end_by, touches}
use Rattle.plan_model.proofs.Uses.{place_there, takes_time}
use Rattle.plan_model.proofs.Planned.{not_itself}
use Rattle.plan_model.proofs.Order.{one_precedes}
use Rattle.train_order.specs.Laws.{ComesNext}
use Rattle.train_order.proofs.Users.{user_there, users}
use Rattle.plan_model.proofs.FirstWith.{among_both, among_new, among_old}
use Rattle.train_placing.specs.declared.last.Last.{Last}
use Rattle.train_placing.specs.declared.tie.Touch.{Touch}
use Rattle.train_placing.specs.Touch.{tie, tie_of, touch_of, first_touch}
use Rattle.train_placing.specs.Placing.{IsFloor, next_entry, IsNextPlaced, IsLast, IsLeft, IsFirstTouch, IsTie, latest, ArePlaced}
use Rattle.train_placing.proofs.Row.{at, row_step, from_below, each_below, reached, block_found}
use Rattle.train_placing.proofs.FirstTouch.{touch_at, IsBest, IsFirstOf, first_of, no_less, no_less_name}
use Rattle.train_placing.proofs.Moments.{later_still, left_as, entry_latest}

-- ---- moments

-- one that has left by the last one's start has left by the next one's
leaves_first : (b s f e y u r x : ℤ) → b ≤ℤ (s -ℤ e +ℤ y) → s <ℤ f → u ≡ (f -ℤ e +ℤ y) → (u -ℤ r) ≤ℤ x → b ≤ℤ (r +ℤ x)
leaves_first b s f e y u r x p q h k = omega (arith, ints)

-- one that has left by the last one's start doesn't touch the next one
leaves_before : (b s f e y u r x : ℤ) → b ≤ℤ (s -ℤ e +ℤ y) → s <ℤ f → u ≡ (f -ℤ e +ℤ y) → (u -ℤ r) ≤ℤ x
    → b ≡ (r +ℤ x) → ⊥
leaves_before b s f e y u r x p q h k t = omega (arith, ints)

leaves_as : (b u r x : ℤ) → u ≡ b → (u -ℤ r) ≤ℤ x → b ≤ℤ (r +ℤ x)
leaves_as b u r x e h = omega (arith, ints)

asks_for : (x u r : ℤ) → x ≡ (u -ℤ r) → u ≡ (r +ℤ x)
asks_for x u r h = omega (arith, ints)

more_among : (some : List ℕ) (j i : ℕ) → is_among (some ++ j ∷ []) i ≡ true → (is_among some i ≡ true) ⊎ (i ≡ j)
more_among some j i h =
    elim (among_both some j i h) [ inl e ↦ inl e | inr e ↦ inr (sym e) ]

module _ (cut : Cut) (floor : ℕ → ℤ) (some : List ℕ) (j : ℕ) (entries : List ℤ) (ties : List Tie) (last : List (Option Last))
    (entries' : List ℤ) (ties' : List Tie) (last' : List (Option Last)) (sound : IsSoundCut cut)
    (floor_j : IsFloor (floor j)) (placed : ArePlaced cut floor some entries ties last) (next : ComesNext cut some j)
    (step : IsNextPlaced cut j (floor j) entries ties last entries' ties' last') where
  abbrev row : CutRow
  row = member cut j

  abbrev x : ℤ
  x = next_entry cut j (floor j) last

  row_sound : IsSoundRow cut row
  row_sound = sound.each j no_member next.there

  -- ---- the entries

  at_j : entry_at entries' j ≡ x
  at_j =
      ap (λ es. entry_at es j) step.entry
      ∙ get_or-set_same entries j x (pos 0) (omega (arith, placed.entries_count, next.there))

  at_other : (i : ℕ) → i ≢ j → entry_at entries' i ≡ entry_at entries i
  at_other i ne = ap (λ es. entry_at es i) step.entry ∙ get_or-set_other entries j i x (pos 0) ne

  apart : (i : ℕ) → is_among some i ≡ true → i ≢ j
  apart i h e = both_ways (is_among some j) next.not_yet (subst (λ k. is_among some k ≡ true) e h)

  same : (i : ℕ) → is_among some i ≡ true → entry_at entries' i ≡ entry_at entries i
  same i h = at_other i (apart i h)

  same_end : (i p : ℕ) → is_among some i ≡ true → end_by cut entries' i p ≡ end_by cut entries i p
  same_end i p h = ap (λ t. end_at (member cut i) t p) (same i h)

  same_start : (i p : ℕ) → is_among some i ≡ true → start_by cut entries' i p ≡ start_by cut entries i p
  same_start i p h = ap (λ t. start_at (member cut i) t p) (same i h)

  start_j : (p : ℕ) → start_by cut entries' j p ≡ start_at row x p
  start_j p = ap (λ t. start_at row t p) at_j

  end_j : (p : ℕ) → end_by cut entries' j p ≡ end_at row x p
  end_j p = ap (λ t. end_at row t p) at_j

  -- ---- who used a place has left it

  -- what the last user of a place asks for
  asks : (p : ℕ) (l : Last) → slice_index_or last p None ≡ Some l → uses_place row p ≡ true
      → (l.until -ℤ ((use_at row p).start -ℤ row.entry)) ≤ℤ x
  asks p l is used = each_below row.entry last (floor j) row.uses p l used is

  clear_of : (i p : ℕ) (l : Last) → slice_index_or last p None ≡ Some l → IsLast cut entries some p l
      → uses_place row p ≡ true → is_among some i ≡ true → uses_place (member cut i) p ≡ true
      → end_by cut entries i p ≤ℤ start_at row x p
  clear_of i p l is left used h user =
      elim (cases_eq i l.train) [
        | inl e ↦
            leaves_as (end_by cut entries i p) l.until ((use_at row p).start -ℤ row.entry) x
            (left.until ∙ ap (λ k. end_by cut entries k p) (sym e)) (asks p l is used)
        | inr ne ↦
            let t = member cut l.train in
            leaves_first (end_by cut entries i p) (use_at t p).start (use_at t p).«end» t.entry
            (entry_at entries l.train)
            l.until ((use_at row p).start -ℤ row.entry) x (left.others i h user ne)
            (takes_time cut sound l.train p (placed.there l.train left.there) left.uses) left.until (asks p l is used)
      ]

  clear_by : (i p : ℕ) (o : Option Last) → slice_index_or last p None ≡ o → IsLeft cut entries some p o
      → uses_place row p ≡ true → is_among some i ≡ true → uses_place (member cut i) p ≡ true
      → end_by cut entries i p ≤ℤ start_at row x p
  clear_by i p None is left used h user = absurd (both_ways (uses_place (member cut i) p) (left i h) user)
  clear_by i p (Some l) is left used h user = clear_of i p l is left used h user

  clear : (i p : ℕ) → uses_place row p ≡ true → is_among some i ≡ true → uses_place (member cut i) p ≡ true
      → end_by cut entries' i p ≤ℤ start_by cut entries' j p
  clear i p used h user =
      let l = place_there cut sound j p next.there used in
      let c = clear_by i p (slice_index_or last p None) refl (left_as placed p _ l refl) used h user in
      subst (λ t. t ≤ℤ start_by cut entries' j p) (sym (same_end i p h))
      (subst (λ t. end_by cut entries i p ≤ℤ t) (sym (start_j p)) c)

  order : (i k p : ℕ) → is_among (some ++ j ∷ []) i ≡ true → is_among (some ++ j ∷ []) k ≡ true
      → IsTrue (precedes (member cut i) (member cut k) p) → end_by cut entries' i p ≤ℤ start_by cut entries' k p
  order i k p hi hk pr =
      elim (more_among some j i hi) [
        | inl a ↦ elim (more_among some j k hk) [
          | inl b ↦
              subst (λ t. t ≤ℤ start_by cut entries' k p) (sym (same_end i p a))
              (subst (λ t. end_by cut entries i p ≤ℤ t) (sym (same_start k p b)) (placed.order i k p a b pr))
          | inr e ↦
              let q = subst (λ m. precedes (member cut i) (member cut m) p ≡ true) e pr in
              let u = users cut i j p q in
              subst (λ m. end_by cut entries' i p ≤ℤ start_by cut entries' m p) (sym e) (clear i p u.1 a u.0)
        ]
        | inr e ↦
            let q = subst (λ m. precedes (member cut m) (member cut k) p ≡ true) e pr in
            elim (more_among some j k hk) [
              | inl b ↦ absurd (next.none_after k p b q)
              | inr f ↦
                  absurd (not_itself row p (subst (λ m. precedes row (member cut m) p ≡ true) f q))
            ]
      ]

  -- ---- touches

  -- a touch of a train that is placed is the same
  same_touch : (m i p : ℕ) → is_among some i ≡ true → touches cut entries' m i p ≡ touches cut entries m i p
  same_touch m i p h =
      elim (cases_Bool (precedes (member cut m) (member cut i) p)) [
        | inr e ↦ rw e refl
        | inl e ↦
            let among = placed.closed m i p (user_there cut m p (users cut m i p e).0) h e in
            ap (λ t. precedes (member cut m) (member cut i) p && int_eq t (start_by cut entries' i p))
            (same_end m p among)
            ∙ ap (λ t. precedes (member cut m) (member cut i) p && int_eq (end_by cut entries m p) t)
            (same_start i p h)
      ]

  same_tie : (i : ℕ) → is_among some i ≡ true → (t : Tie) → IsTie cut floor entries i t → IsTie cut floor entries' i t
  same_tie i h Start tied = same i h ∙ tied
  same_tie i h (After m p) tied = record {
    later = λ e. tied.later (sym (same i h) ∙ e);
    there = tied.there;
    place_there = tied.place_there;
    touch = same_touch m i p h ∙ tied.touch;
    first = λ k q t. tied.first k q (sym (same_touch k i q h) ∙ t);
    first_place = λ q t. tied.first_place q (sym (same_touch m i q h) ∙ t);
  }

  -- the touch at a place
  abbrev touch_of_j : ℕ → Option Touch
  touch_of_j p = touch_at cut row.entry x last row.uses p

  touch_is : (p : ℕ) (l : Last) → slice_index_or last p None ≡ Some l → uses_place row p ≡ true
      → l.until ≡ start_at row x p → touch_of_j p ≡ Some (record { train = l.train; place = p })
  touch_is p l is used e =
      let test : int_eq l.until ((at row.uses p).start -ℤ row.entry +ℤ x) ≡ true = (Decides-int_eq l.until
      (start_at row x p)).1 e in
      let block = block_found row.uses p used in
      ap (λ o. touch_of row.entry x o (at row.uses p)) is
      ∙ rw test (ap (λ b. Some (record { train = l.train; place = b })) block)

  touched_last : (k p : ℕ) (l : Last) → slice_index_or last p None ≡ Some l → IsLast cut entries some p l
      → uses_place row p ≡ true → is_among some k ≡ true → uses_place (member cut k) p ≡ true
      → end_by cut entries k p ≡ start_at row x p → touch_of_j p ≡ Some (record { train = k; place = p })
  touched_last k p l is left used h user e =
      elim (cases_eq k l.train) [
        | inl s ↦
            touch_is p l is used (left.until ∙ ap (λ m. end_by cut entries m p) (sym s) ∙ e)
            ∙ ap (λ m. Some (record { train = m; place = p })) (sym s)
        | inr ne ↦
            let t = member cut l.train in
            absurd (leaves_before (end_by cut entries k p) (use_at t p).start (use_at t p).«end» t.entry
            (entry_at entries l.train)
            l.until ((use_at row p).start -ℤ row.entry) x (left.others k h user ne)
            (takes_time cut sound l.train p (placed.there l.train left.there) left.uses) left.until
            (asks p l is used) e)
      ]

  touched_by : (k p : ℕ) (o : Option Last) → slice_index_or last p None ≡ o → IsLeft cut entries some p o
      → uses_place row p ≡ true → is_among some k ≡ true → uses_place (member cut k) p ≡ true
      → end_by cut entries k p ≡ start_at row x p → touch_of_j p ≡ Some (record { train = k; place = p })
  touched_by k p None is left used h user e = absurd (both_ways (uses_place (member cut k) p) (left k h) user)
  touched_by k p (Some l) is left used h user e = touched_last k p l is left used h user e

  -- who touches the train is the last user of a place
  touched : (k p : ℕ) → touches cut entries' k j p ≡ true
      → (uses_place row p ≡ true) × (touch_of_j p ≡ Some (record { train = k; place = p }))
  touched k p t =
      let parts = and_parts (precedes (member cut k) row p) (int_eq (end_by cut entries' k p)
      (start_by cut entries' j p)) t in
      let u = users cut k j p parts.0 in
      let h = next.before k p parts.0 in
      let e = (Decides-int_eq (end_by cut entries' k p) (start_by cut entries' j p)).0 parts.1 in
      let l = place_there cut sound j p next.there u.1 in (
        u.1,
        touched_by k p (slice_index_or last p None) refl (left_as placed p _ l refl) u.1 h u.0
            (sym (same_end k p h) ∙ e ∙ start_j p),
      )

  -- the last user of a place that it touches does precede it
  touching_last : (p : ℕ) (l : Last) → IsLast cut entries some p l → uses_place row p ≡ true
      → l.until ≡ start_at row x p → touches cut entries' l.train j p ≡ true
  touching_last p l left used e =
      let first : IsTrue (precedes (member cut l.train) row p) =
      elim (one_precedes cut sound l.train j p (placed.there l.train left.there) next.there
      (apart l.train left.there) left.uses used) [
        | inl a ↦ a
        | inr b ↦ absurd (next.none_after l.train p left.there b)
      ] in
      and_from (precedes (member cut l.train) row p) (int_eq (end_by cut entries' l.train p)
      (start_by cut entries' j p)) first
      ((Decides-int_eq (end_by cut entries' l.train p) (start_by cut entries' j p)).1
      (same_end l.train p left.there ∙ sym left.until ∙ e ∙ sym (start_j p)))

  -- a touch is of a train that touches
  touching_by : (p : ℕ) (t : Touch) (o : Option Last) → IsLeft cut entries some p o → uses_place row p ≡ true
      → touch_of row.entry x o (at row.uses p) ≡ Some t
      → (touches cut entries' t.train j p ≡ true) × (t.train < member_count cut)
  touching_by p t None left used e = absurd (cc)
  touching_by p t (Some l) left used e =
      elim (cases_Bool (int_eq l.until ((at row.uses p).start -ℤ row.entry +ℤ x))) [
        | inr f ↦ absurd (let w = rw f at e in cc)
        | inl f ↦
            let w = rw f at e in
            let s : l.train ≡ t.train = cc in (
              subst (λ m. touches cut entries' m j p ≡ true) s
                  (touching_last p l left used ((Decides-int_eq l.until (start_at row x p)).0 f)),
              subst (λ m. m < member_count cut) s (placed.there l.train left.there),
            )
      ]

  touching : (p : ℕ) (t : Touch) → uses_place row p ≡ true → touch_of_j p ≡ Some t
      → (touches cut entries' t.train j p ≡ true) × (t.train < member_count cut)
  touching p t used e =
      touching_by p t (slice_index_or last p None) (left_as placed p _
      (place_there cut sound j p next.there used) refl) used e

  -- ---- the tie

  first_tie : (late : entry_at entries' j ≢ floor j) (t : Touch)
      → IsBest cut row.entry x last None row.uses t
      → IsFirstTouch cut floor entries' j t.train t.place
  first_tie late t best =
      let from : (uses_place row t.place ≡ true) × (touch_of_j t.place ≡ Some t) =
      elim best.from [ inl none ↦ absurd (cc) | inr h ↦ h ] in
      let there = touching t.place t from.0 from.1 in
      record {
        later = late;
        there = there.1;
        place_there = place_there cut sound j t.place next.there from.0;
        touch = there.0;
        first = λ k p h.
            let o = touched k p h in
            let n = no_less cut (record { train = k; place = p }) t (best.each p
            (record { train = k; place = p }) o.0 o.1) in
            omega (arith, n);
        first_place = λ p h.
            let o = touched t.train p h in
            no_less_name cut (record { train = t.train; place = p }) t
            (best.each p (record { train = t.train; place = p }) o.0 o.1) refl;
      }

  -- a train that enters after the window's start touches one
  not_none : (entry_at entries' j ≢ floor j)
      → ((p : ℕ) → uses_place row p ≡ true → touch_of_j p ≡ None) → ⊥
  not_none late none =
      elim (reached row.entry last (floor j) row.uses row_sound.places_differ) [
        | inl e ↦ late (at_j ∙ e)
        | inr a ↦
            let e = asks_for x a.last_use.until ((use_at row a.place).start -ℤ row.entry) a.at_entry in
            let some = touch_is a.place a.last_use a.is a.used e in
            let no = none a.place a.used in
            absurd (cc)
      ]

  late_tie : (late : entry_at entries' j ≢ floor j) (o : Option Touch)
      → IsFirstOf cut row.entry x last None row.uses o → IsTie cut floor entries' j (tie_of o)
  late_tie late None h = absurd (not_none late h.1)
  late_tie late (Some t) h = first_tie late t h

  own_tie : IsTie cut floor entries' j (tie cut row (floor j) x last)
  own_tie =
      elim (cases_Bool (int_eq x (floor j))) [
        | inl e ↦ rw e (at_j ∙ (Decides-int_eq x (floor j)).0 e)
        | inr ne ↦
            rw ne (late_tie
            (λ e. both_ways (int_eq x (floor j)) ne ((Decides-int_eq x (floor j)).1 (sym at_j ∙ e)))
            (first_touch cut row x last) (first_of cut row.entry x last None row.uses row_sound.places_differ))
      ]

  tied : (i : ℕ) → is_among (some ++ j ∷ []) i ≡ true → IsTie cut floor entries' i (slice_index_or ties' i Start)
  tied i h =
      let t = tie cut row (floor j) x last in
      elim (more_among some j i h) [
        | inl a ↦
            let stays : slice_index_or ties' i Start ≡ slice_index_or ties i Start =
            ap (λ ts. slice_index_or ts i Start) step.tie ∙ get_or-set_other ties j i t Start (apart i a) in
            subst (IsTie cut floor entries' i) (sym stays) (same_tie i a (slice_index_or ties i Start) (placed.tied i a))
        | inr e ↦
            let is : slice_index_or ties' j Start ≡ t =
            ap (λ ts. slice_index_or ts j Start) step.tie
            ∙ get_or-set_same ties j t Start (omega (arith, placed.ties_count, next.there)) in
            subst (λ m. IsTie cut floor entries' m (slice_index_or ties' m Start)) (sym e)
            (subst (IsTie cut floor entries' j) (sym is) own_tie)
      ]

  -- ---- the last uses

  now_last : (p : ℕ) → uses_place row p ≡ true
      → IsLast cut entries' (some ++ j ∷ []) p (record { until = end_at row x p; train = j })
  now_last p used = record {
    there = among_new some j;
    uses = used;
    until = sym (end_j p);
    others = λ i h user ne.
        elim (more_among some j i h) [ inl a ↦ clear i p used a user | inr e ↦ absurd (ne e) ];
  }

  still_last : (p : ℕ) (l : Last) → uses_place row p ≡ false → IsLast cut entries some p l
      → IsLast cut entries' (some ++ j ∷ []) p l
  still_last p l unused left = record {
    there = among_old some j l.train left.there;
    uses = left.uses;
    until = left.until ∙ sym (same_end l.train p left.there);
    others = λ i h user ne.
        elim (more_among some j i h) [
          | inl a ↦
              subst (λ t. t ≤ℤ start_by cut entries' l.train p) (sym (same_end i p a))
              (subst (λ t. end_by cut entries i p ≤ℤ t) (sym (same_start l.train p left.there))
              (left.others i a user ne))
          | inr e ↦
              absurd (both_ways (uses_place row p) unused (subst (λ m. uses_place (member cut m) p ≡ true) e user))
        ];
  }

  still_left : (p : ℕ) (o : Option Last) → uses_place row p ≡ false → IsLeft cut entries some p o
      → IsLeft cut entries' (some ++ j ∷ []) p o
  still_left p (Some l) unused left = still_last p l unused left
  still_left p None unused left =
      λ i h.
      elim (more_among some j i h) [
        | inl a ↦ left i a
        | inr e ↦ subst (λ m. uses_place (member cut m) p ≡ false) (sym e) unused
      ]

  left_then : (p : ℕ) → p < place_count cut
      → IsLeft cut entries' (some ++ j ∷ []) p (slice_index_or last' p None)
  left_then p l =
      let is = step.each p (omega (arith, l, placed.places)) ∙ row_step cut row j x p
      (slice_index_or last p None) row_sound in
      subst (IsLeft cut entries' (some ++ j ∷ []) p) (sym is)
      (elim (cases_Bool (uses_place row p)) [
        | inl e ↦ rw e (now_last p e)
        | inr e ↦ rw e (still_left p (slice_index_or last p None) e (placed.left p l))
      ])

  -- ---- bounds

  from : (i : ℕ) → is_among (some ++ j ∷ []) i ≡ true → floor i ≤ℤ entry_at entries' i
  from i h =
      elim (more_among some j i h) [
        | inl a ↦ subst (λ t. floor i ≤ℤ t) (sym (same i a)) (placed.from i a)
        | inr e ↦
            subst (λ m. floor m ≤ℤ entry_at entries' m) (sym e)
            (subst (λ t. floor j ≤ℤ t) (sym at_j) (from_below row.entry last (floor j) row.uses))
      ]

  latest_at : (i : ℕ) → is_among (some ++ j ∷ []) i ≡ true → entry_at entries' i ≤ℤ latest (length (some ++ j ∷ []))
  latest_at i h =
      let long = length-append some (j ∷ []) in
      subst (λ n. entry_at entries' i ≤ℤ latest n) (sym long)
      (elim (more_among some j i h) [
        | inl a ↦ later_still (length some) (entry_at entries' i) (subst (λ t. t ≤ℤ latest (length some)) (sym
            (same i a)) (placed.latest i a))
        | inr e ↦
            subst (λ m. entry_at entries' m ≤ℤ latest (length some + 1)) (sym e)
            (subst (λ t. t ≤ℤ latest (length some + 1)) (sym at_j)
            (entry_latest cut floor some entries ties last j sound placed next.there floor_j))
      ])

  -- a train that isn't placed yet has the entry of before, which is its floor
  pub unplaced : (i : ℕ) → is_among (some ++ j ∷ []) i ≡ false
      → (is_among some i ≡ false) × (entry_at entries' i ≡ entry_at entries i)
  unplaced i h = (
    (or_parts (is_among some i) (is_among (j ∷ []) i) (sym (list_any-append (λ k. k == i) some (j ∷ [])) ∙ h)).0,
    at_other i (λ e. both_ways (is_among (some ++ j ∷ []) i) h
        (subst (λ m. is_among (some ++ j ∷ []) m ≡ true) (sym e) (among_new some j))),
  )

  pub placed_next : ArePlaced cut floor (some ++ j ∷ []) entries' ties' last'
  placed_next = record {
    entries_count = ap length step.entry ∙ length-set entries j x ∙ placed.entries_count;
    ties_count = ap length step.tie ∙ length-set ties j (tie cut row (floor j) x last) ∙ placed.ties_count;
    places = step.count ∙ placed.places;
    there = λ i h.
        elim (more_among some j i h) [
          | inl a ↦ placed.there i a
          | inr e ↦ subst (λ m. m < member_count cut) (sym e) next.there
        ];
    from = from;
    latest = latest_at;
    order = order;
    closed = λ i k p l h pr.
        elim (more_among some j k h) [
          | inl a ↦ among_old some j i (placed.closed i k p l a pr)
          | inr e ↦
              among_old some j i
              (next.before i p (subst (λ m. precedes (member cut i) (member cut m) p ≡ true) e pr))
        ];
    tied = tied;
    left = left_then;
  }
