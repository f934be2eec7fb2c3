-- What the sweep finds are the conflicts, in their order.
use Rattle.std.proofs.Common.{◌≡◌, ℕ, ◌+◌, ◌-◌, ◌<◌, true, eqb, List, length, get_or, drop, refl, sym, ap, ◌∙◌, subst, inl, inr, arith}
use Rattle.std.specs.Prelude.{pos, ◌<ℤ◌, int_lt}
use Rattle.std.specs.List.{AllPairs, Contains, take_while, prefix_len}
use Rattle.std.specs.List.Sorted.{IsPermutation, IsPartitionedBy}
use Rattle.std.proofs.lemmas.Bool.{and_parts, and_from, eqb-true, eq-eqb, cases_lt, cases_order}
use Rattle.std.proofs.lemmas.Int.{ints}
use Rattle.std.proofs.lemmas.List.{get_or-take, get_or-drop, length-drop, get_or_default}
use Rattle.std.proofs.lemmas.List.Elements.{Contains-get_or}
use Rattle.std.proofs.lemmas.List.Folds.{length-prefix_len}
use Rattle.std.proofs.lemmas.List.Sums.{prefix_len_passes, prefix_len-le-length}
use Rattle.rail_model.specs.declared.stair.Use.{Use}
use Rattle.rail_model.specs.declared.stair.Stair.{Stair}
use Rattle.rail_model.specs.Name.{IsBefore}
use Rattle.rail_model.specs.Conflict as whole
use Rattle.rail_model.specs.Conflict.{IsConflict, IsListedBefore, AreConflicts, Makes, Overlap, IsTimetable, no_stair}
use Rattle.rail_model.proofs.NameOrder.{never_before_itself, IsBefore-trans}
use Rattle.conflict_finder.specs.declared.ranked.Ranked.{Ranked}
use Rattle.conflict_finder.specs.declared.run_uses.RunUse.{RunUse}
use Rattle.conflict_finder.specs.Runs.{no_ranked, ranked_at, run_use_of, uses_of, all_run_uses}
use Rattle.conflict_finder.specs.Sweep.{IsSweptBefore, IsSwept, meets, conflict_of, no_run_use, conflicts_at, all_conflicts}
use Rattle.rail_model.proofs.Lists.{AllPairs-map}
use Rattle.conflict_finder.proofs.Lists.{upto, upto_is, from_upto, in_upto, AllPairs-upto, in_map, from_map, before_stop}
use Rattle.conflict_finder.proofs.Ranks.{AreRanked}
use Rattle.conflict_finder.proofs.Order.{IsNotLater, stairway_of, made_by, makes}

-- ---- who meets whom

met_parts : (a b : RunUse) → meets a b ≡ true → (a.block ≡ b.block) × (b.start <ℤ a.«end»)
met_parts a b h =
    let parts = and_parts (eqb a.block b.block) (int_lt b.start a.«end») h in
    (eqb-true a.block b.block parts.0, (let lt : int_lt b.start a.«end» ≡ true = parts.1 in grind (arith, ints)))

meets_from : (a b : RunUse) → a.block ≡ b.block → b.start <ℤ a.«end» → meets a b ≡ true
meets_from a b e lt = and_from (eqb a.block b.block) (int_lt b.start a.«end») (eq-eqb a.block b.block e) (grind (arith, ints))

-- the order without the names
in_order : (a b : RunUse) → IsSweptBefore a b → IsNotLater a b
in_order a b h =
    elim h [
      | inl lt ↦ (omega arith, λ e. absurd (omega arith))
      | inr o ↦ (omega (arith, o.0), λ e. elim o.1 [ inl lt ↦ omega (arith, ints) | inr p ↦ let s : a.start ≡ b.start = p.0 in omega (arith, ints) ])
    ]

-- who comes between two that meet meets the first too
meets_between : (a b c : RunUse) → IsNotLater a b → IsNotLater b c → meets a c ≡ true → meets a b ≡ true
meets_between a b c one other h =
    let m = met_parts a c h in
    let same : a.block ≡ b.block = omega (arith, one.0, other.0, m.0) in
    let start = other.1 (sym same ∙ m.0) in
    let before : c.start <ℤ a.«end» = m.1 in
    meets_from a b same (omega (arith, ints))

pub partitioned : (run_uses : List RunUse) → AllPairs IsNotLater run_uses → (i : ℕ) → i < length run_uses → IsPartitionedBy (meets (get_or run_uses i no_run_use)) (drop (i + 1) run_uses)
partitioned run_uses order i l m n d le ln h =
    let long = length-drop (i + 1) run_uses in
    let one = get_or run_uses i no_run_use in
    elim (cases_lt m n) [
      | inl lt ↦
          rw (get_or-drop (i + 1) run_uses m d) (let passes : meets one (get_or run_uses ((i + 1) + n) d) ≡ true = rw (get_or-drop (i + 1) run_uses n d) at h in
          meets_between one (get_or run_uses ((i + 1) + m) d) (get_or run_uses ((i + 1) + n) d)
          (subst (λ x. IsNotLater x (get_or run_uses ((i + 1) + m) d)) (get_or_default run_uses i d no_run_use l) (order i ((i + 1) + m) d (omega arith) (omega arith)))
          (order ((i + 1) + m) ((i + 1) + n) d (omega arith) (omega arith)) passes)
      | inr ge ↦ let e : n ≡ m = omega arith in subst (λ k. meets one (get_or (drop (i + 1) run_uses) k d) ≡ true) e h
    ]

module _ (run_uses : List RunUse) (swept : IsSwept run_uses) where
  pub at : ℕ → RunUse
  at i = get_or run_uses i no_run_use

  -- those after i in their order, up to the first that doesn't meet it
  pub met : ℕ → List RunUse
  met i = take_while (meets (get_or run_uses i no_run_use)) (drop (i + 1) run_uses)

  at_is : (i : ℕ) (d : RunUse) → i < length run_uses → get_or run_uses i d ≡ at i
  unfolding at
  at_is i d l = get_or_default run_uses i d no_run_use l

  order_at : (i j : ℕ) → i < j → j < length run_uses → IsSweptBefore (at i) (at j)
  unfolding at
  order_at i j lt l = swept i j no_run_use lt l

  pub from_met : (i : ℕ) (y : RunUse) → i < length run_uses → Contains (met i) y → (j : ℕ) × (i < j) × (j < length run_uses) × (y ≡ at j) × (meets (at i) (at j) ≡ true)
  unfolding at met
  from_met i y l h =
      let p = meets (at i) in
      let rest = drop (i + 1) run_uses in
      let k = h.0 in
      let inside : k < prefix_len p rest = omega (arith, h.1, length-prefix_len p rest) in
      let long = length-drop (i + 1) run_uses in
      let within : (i + 1) + k < length run_uses = omega (arith, prefix_len-le-length p rest) in
      let is : y ≡ at ((i + 1) + k) = sym h.2 ∙ get_or-take (prefix_len p rest) rest k y inside ∙ get_or-drop (i + 1) run_uses k y ∙ at_is ((i + 1) + k) y within in
      let passes : p (get_or rest k no_run_use) ≡ true = prefix_len_passes p rest k no_run_use inside in
      ((i + 1) + k, omega arith, within, is, rw (get_or-drop (i + 1) run_uses k no_run_use) at passes)

  pub in_met : (i j : ℕ) → i < j → j < length run_uses → meets (at i) (at j) ≡ true → Contains (met i) (at j)
  unfolding at met
  in_met i j lt l h =
      let p = meets (at i) in
      let rest = drop (i + 1) run_uses in
      let k = j - (i + 1) in
      let e : (i + 1) + k ≡ j = omega arith in
      let long = length-drop (i + 1) run_uses in
      let here : get_or rest k no_run_use ≡ at j = get_or-drop (i + 1) run_uses k no_run_use ∙ ap at e in
      let inside : k < prefix_len p rest = before_stop p rest k no_run_use (omega arith) (λ m le. partitioned run_uses (λ i j d lt l. in_order (get_or run_uses i d) (get_or run_uses j d) (swept i j d lt l)) i (omega arith) m k no_run_use le (omega arith) (ap p here ∙ h)) in (
        k,
        omega (arith, inside, length-prefix_len p rest),
        get_or-take (prefix_len p rest) rest k (at j) inside ∙ get_or_default rest k (at j) no_run_use (omega arith) ∙ here,
      )

-- ---- from what is found to the timetable, and back

module _ (stairs : List Stair) (runs : List Ranked) (t : IsTimetable stairs) (ranked : AreRanked stairs runs) (run_uses : List RunUse) (same : IsPermutation (all_run_uses stairs runs) run_uses) (swept : IsSwept run_uses) where
  pub stair_of : ℕ → Stair
  stair_of k = get_or stairs (get_or runs k no_ranked).stair no_stair

  pub name_of : ℕ → List ℕ
  name_of k = (get_or runs k no_ranked).name

  name_is : (k : ℕ) → k < length runs → name_of k ≡ (stair_of k).run
  unfolding stair_of name_of
  name_is k l = ap (λ (r : Ranked). r.name) (ranked.named k no_ranked l)

  names_rise : (k m : ℕ) → k < m → m < length runs → IsBefore (name_of k) (name_of m)
  unfolding name_of
  names_rise k m lt l = ranked.rise k m no_ranked lt l

  in_timetable : (k : ℕ) → k < length runs → Contains stairs (stair_of k)
  unfolding stair_of
  in_timetable k l = Contains-get_or stairs (get_or runs k no_ranked).stair no_stair (ranked.there k no_ranked l)

  -- a use with the run and the use that make it
  pub record IsOf (b : RunUse) : Type 0 where
    pub k : ℕ
    pub within : k < length runs
    pub u : Use
    pub used : Contains (stair_of k).uses u
    pub is : b ≡ run_use_of k u

  made : (i : ℕ) → i < length run_uses → IsOf (at run_uses swept i)
  unfolding at stair_of
  made i l =
      let none : Use = record { block = 0; start = pos 0; «end» = pos 0 } in
      let m = made_by stairs runs t ranked run_uses same (get_or run_uses i no_run_use) (Contains-get_or run_uses i no_run_use l) in
      record {
        k = m.0;
        within = m.1;
        u = get_or (uses_of stairs runs m.0) m.2.0 none;
        used = Contains-get_or (uses_of stairs runs m.0) m.2.0 none m.2.1;
        is = m.2.2 none;
      }

  not_empty : (b : RunUse) → (m : IsOf b) → m.u.start <ℤ m.u.«end»
  unfolding stair_of
  not_empty b m =
      let some = (stairway_of stairs runs t ranked m.k m.within).not_empty m.used.0 m.u m.used.1 in
      subst (λ (u : Use). u.start <ℤ u.«end») m.used.2 some

  -- two uses in order make the conflict that is found
  makes_conflict : (k q : ℕ) (u v : Use) → k < length runs → q < length runs → v.start <ℤ v.«end» → IsSweptBefore (run_use_of k u) (run_use_of q v) → meets (run_use_of k u) (run_use_of q v) ≡ true → Makes (stair_of k) u (stair_of q) v (conflict_of runs (run_use_of k u) (run_use_of q v))
  unfolding name_of
  makes_conflict k q u v lk lq some before h =
      let parts = met_parts (run_use_of k u) (run_use_of q v) h in
      let not_later = (in_order (run_use_of k u) (run_use_of q v) before).1 parts.0 in
      record {
        overlap = record { block = parts.0; first = omega (arith, ints); second = parts.1 };
        precedes = (
          parts.0,
          elim before [
            | inl lt ↦ absurd (omega (arith, parts.0))
            | inr o ↦ elim o.1 [
              | inl lt ↦ inl lt
              | inr p ↦ inr (p.0, rw (← name_is k lk, ← name_is q lq) (names_rise k q p.1 lq))
            ]
          ],
        );
        block = refl;
        first = name_is k lk;
        first_start = refl;
        second = name_is q lq;
        from = refl;
        to = refl;
      }

  from_pair : (a b : RunUse) → IsOf a → IsOf b → IsSweptBefore a b → meets a b ≡ true → IsConflict stairs (conflict_of runs a b)
  from_pair a b m n before h =
      let x = run_use_of m.k m.u in
      let c : IsSweptBefore x (run_use_of n.k n.u) = subst (λ y. IsSweptBefore x y) n.is (subst (λ y. IsSweptBefore y b) m.is before) in
      let g : meets x (run_use_of n.k n.u) ≡ true = subst (λ y. meets x y ≡ true) n.is (subst (λ y. meets y b ≡ true) m.is h) in
      subst (λ y. IsConflict stairs (conflict_of runs y b)) (sym m.is) (subst (λ y. IsConflict stairs (conflict_of runs x y)) (sym n.is) (
        stair_of m.k,
        m.u,
        stair_of n.k,
        n.u,
        (in_timetable m.k m.within, m.used),
        (in_timetable n.k n.within, n.used),
        makes_conflict m.k n.k m.u n.u m.within n.within (not_empty b n) c g,
      ))

  whole_is : all_conflicts runs run_uses ≡ upto (conflicts_at runs run_uses) (length run_uses)
  whole_is = sym (upto_is (conflicts_at runs run_uses) (length run_uses))

  pub from_found : (c : whole.Conflict) → Contains (all_conflicts runs run_uses) c → IsConflict stairs c
  unfolding at met
  from_found c h =
      let r = from_upto (conflicts_at runs run_uses) (length run_uses) c (rw whole_is at h) in
      let i = r.0 in
      let m = from_map (conflict_of runs (get_or run_uses i no_run_use)) (met run_uses swept i) c r.2 in
      let y = get_or (met run_uses swept i) m.0 no_run_use in
      let of_y = from_met run_uses swept i y r.1 (Contains-get_or (met run_uses swept i) m.0 no_run_use m.1) in
      let made_pair = from_pair (at run_uses swept i) (at run_uses swept of_y.0) (made i r.1) (made of_y.0 of_y.2) (order_at run_uses swept i of_y.0 of_y.1 of_y.2) of_y.4 in
      rw (m.2 no_run_use, of_y.3) made_pair

  -- a run of the timetable has a number
  pub record HasNumber (i : Stair) : Type 0 where
    pub k : ℕ
    pub within : k < length runs
    pub is : stair_of k ≡ i

  number : (i : Stair) → Contains stairs i → HasNumber i
  unfolding stair_of
  number i h =
      let there = ranked.each h.0 h.1 in
      let r = ranked_at stairs h.0 in
      let read : get_or runs there.0 no_ranked ≡ r = get_or_default runs there.0 no_ranked r there.1 ∙ there.2 in
      record {
        k = there.0;
        within = there.1;
        is = ap (λ (x : Ranked). get_or stairs x.stair no_stair) read ∙ get_or_default stairs h.0 no_stair i h.1 ∙ h.2;
      }

  -- of two uses, the one whose run precedes comes first
  comes_first : (s e : ℕ) → s < length run_uses → e < length run_uses → (k q : ℕ) (u v : Use) → k < length runs → q < length runs → at run_uses swept s ≡ run_use_of k u → at run_uses swept e ≡ run_use_of q v → u.block ≡ v.block → whole.ComesBefore u.start (stair_of k).run v.start (stair_of q).run → s < e
  comes_first s e ls le k q u v lk lq su ev block before =
      elim (cases_order s e) [
        | inl same ↦
            let one : run_use_of k u ≡ run_use_of q v = sym su ∙ ap (at run_uses swept) same ∙ ev in
            let start : u.start ≡ v.start = ap (λ (x : RunUse). x.start) one in
            let run : k ≡ q = ap (λ (x : RunUse). x.run) one in
            absurd (elim before [
              | inl lt ↦ omega (arith, ints)
              | inr p ↦ never_before_itself (stair_of q).run (subst (λ j. IsBefore (stair_of j).run (stair_of q).run) run p.1)
            ])
        | inr o ↦ elim o [
          | inl lt ↦ lt
          | inr gt ↦
              let c : IsSweptBefore (run_use_of q v) (run_use_of k u) = subst (λ y. IsSweptBefore (run_use_of q v) y) su (subst (λ y. IsSweptBefore y (at run_uses swept s)) ev (order_at run_uses swept e s gt ls)) in
              absurd (elim c [
                | inl lt ↦ omega arith
                | inr p ↦ elim p.1 [
                  | inl lt ↦ elim before [ inl gt ↦ omega (arith, ints) | inr z ↦ let e : u.start ≡ v.start = z.0 in omega (arith, ints) ]
                  | inr z ↦ elim before [
                    | inl gt ↦ let e : v.start ≡ u.start = z.0 in omega (arith, ints)
                    | inr w ↦
                        let back : IsBefore (stair_of q).run (stair_of k).run = rw (← name_is q lq, ← name_is k lk) (names_rise q k z.1 lk) in
                        never_before_itself (stair_of k).run (IsBefore-trans (stair_of k).run (stair_of q).run (stair_of k).run w.1 back)
                  ]
                ]
              ])
        ]
      ]

  is_of : (c : whole.Conflict) (k q : ℕ) (u v : Use) → k < length runs → q < length runs → Makes (stair_of k) u (stair_of q) v c → conflict_of runs (run_use_of k u) (run_use_of q v) ≡ c
  unfolding name_of
  is_of c k q u v lk lq m = λ j. record {
    block = sym m.block j;
    first = (name_is k lk ∙ sym m.first) j;
    first_start = sym m.first_start j;
    second = (name_is q lq ∙ sym m.second) j;
    from = sym m.from j;
    to = sym m.to j;
  }

  in_found_by : (c : whole.Conflict) (k q : ℕ) (u v : Use) → k < length runs → q < length runs → Contains (stair_of k).uses u → Contains (stair_of q).uses v → Makes (stair_of k) u (stair_of q) v c → Contains (all_conflicts runs run_uses) c
  unfolding at met stair_of
  in_found_by c k q u v lk lq used other_used m =
      let a = run_use_of k u in
      let b = run_use_of q v in
      let s = makes stairs runs t ranked run_uses same k u lk used in
      let e = makes stairs runs t ranked run_uses same q v lq other_used in
      let at_s : at run_uses swept s.0 ≡ a = get_or_default run_uses s.0 no_run_use a s.1 ∙ s.2 in
      let at_e : at run_uses swept e.0 ≡ b = get_or_default run_uses e.0 no_run_use b e.1 ∙ e.2 in
      let first : s.0 < e.0 = comes_first s.0 e.0 s.1 e.1 k q u v lk lq at_s at_e m.overlap.block m.precedes.1 in
      let meet : meets (at run_uses swept s.0) (at run_uses swept e.0) ≡ true = rw (at_s, at_e) (meets_from a b m.overlap.block m.overlap.second) in
      let here = in_map (conflict_of runs (at run_uses swept s.0)) (met run_uses swept s.0) (at run_uses swept e.0) (in_met run_uses swept s.0 e.0 first e.1 meet) in
      let is : conflict_of runs (at run_uses swept s.0) (at run_uses swept e.0) ≡ c = rw (at_s, at_e) (is_of c k q u v lk lq m) in
      rw whole_is (in_upto (conflicts_at runs run_uses) (length run_uses) s.0 c s.1 (subst (Contains (conflicts_at runs run_uses s.0)) is here))

  pub in_found : (c : whole.Conflict) → IsConflict stairs c → Contains (all_conflicts runs run_uses) c
  in_found c h =
      let m : Makes h.0 h.1 h.2 h.3 c = h.6 in
      let one = number h.0 h.4.0 in
      let other = number h.2 h.5.0 in
      let uses_one : Contains (stair_of one.k).uses h.1 = subst (λ (x : Stair). Contains x.uses h.1) (sym one.is) h.4.1 in
      let uses_other : Contains (stair_of other.k).uses h.3 = subst (λ (x : Stair). Contains x.uses h.3) (sym other.is) h.5.1 in
      in_found_by c one.k other.k h.1 h.3 one.within other.within uses_one uses_other
      (subst (λ (x : Stair). Makes (stair_of one.k) h.1 x h.3 c) (sym other.is) (subst (λ (x : Stair). Makes x h.1 h.2 h.3 c) (sym one.is) m))

  -- ---- the order of the list

  -- where one comes before another on its block, so does its moment with its name
  moment_before : (a b : RunUse) → b.run < length runs → a.block ≡ b.block → IsSweptBefore a b → whole.ComesBefore a.start (get_or runs a.run no_ranked).name b.start (get_or runs b.run no_ranked).name
  moment_before a b l e before =
      elim before [
        | inl lt ↦ absurd (omega arith)
        | inr o ↦ elim o.1 [
          | inl lt ↦ inl lt
          | inr p ↦ inr (p.0, ranked.rise a.run b.run no_ranked p.1 l)
        ]
      ]

  run_there : (i : ℕ) → i < length run_uses → (at run_uses swept i).run < length runs
  run_there i l = let m = made i l in let is : (at run_uses swept i).run ≡ m.k = ap (λ (x : RunUse). x.run) m.is in omega (arith, m.within)

  -- of two that one meets, in their order
  met_in_order : (i : ℕ) → AllPairs IsSweptBefore (met run_uses swept i)
  unfolding met
  met_in_order i m n d lt l =
      let p = meets (get_or run_uses i no_run_use) in
      let rest = drop (i + 1) run_uses in
      let long = length-drop (i + 1) run_uses in
      let inside : n < prefix_len p rest = omega (arith, l, length-prefix_len p rest) in
      let fits = prefix_len-le-length p rest in
      rw (get_or-take (prefix_len p rest) rest m d (omega arith), get_or-take (prefix_len p rest) rest n d inside, get_or-drop (i + 1) run_uses m d, get_or-drop (i + 1) run_uses n d)
      (swept ((i + 1) + m) ((i + 1) + n) d (omega arith) (omega arith))

  piece_in_order : (i : ℕ) → i < length run_uses → AllPairs IsListedBefore (conflicts_at runs run_uses i)
  unfolding at met
  piece_in_order i l =
      AllPairs-map (conflict_of runs (at run_uses swept i)) IsListedBefore (met run_uses swept i) (λ m n d lt ln.
      let one = get_or (met run_uses swept i) m d in
      let other = get_or (met run_uses swept i) n d in
      let y = from_met run_uses swept i one l (Contains-get_or (met run_uses swept i) m d (omega arith)) in
      let z = from_met run_uses swept i other l (Contains-get_or (met run_uses swept i) n d ln) in
      let block_y : one.block ≡ (at run_uses swept i).block = ap (λ (x : RunUse). x.block) y.3 ∙ sym (met_parts (at run_uses swept i) (at run_uses swept y.0) y.4).0 in
      let block_z : other.block ≡ (at run_uses swept i).block = ap (λ (x : RunUse). x.block) z.3 ∙ sym (met_parts (at run_uses swept i) (at run_uses swept z.0) z.4).0 in
      let there : other.run < length runs = subst (λ (x : RunUse). x.run < length runs) (sym z.3) (run_there z.0 z.2) in
      inr (refl, inr (refl, refl, moment_before one other there (block_y ∙ sym block_z) (met_in_order i m n d lt ln))))

  pieces_in_order : (i j : ℕ) (c d : whole.Conflict) → i < j → j < length run_uses → Contains (conflicts_at runs run_uses i) c → Contains (conflicts_at runs run_uses j) d → IsListedBefore c d
  unfolding at met
  pieces_in_order i j c d lt l h g =
      let a = at run_uses swept i in
      let b = at run_uses swept j in
      let m = from_map (conflict_of runs a) (met run_uses swept i) c h in
      let n = from_map (conflict_of runs b) (met run_uses swept j) d g in
      let before = order_at run_uses swept i j lt l in
      let as_listed : IsListedBefore (conflict_of runs a (get_or (met run_uses swept i) m.0 no_run_use)) (conflict_of runs b (get_or (met run_uses swept j) n.0 no_run_use)) =
      elim before [
        | inl less ↦ inl less
        | inr o ↦ inr (o.0, inl (moment_before a b (run_there j l) o.0 (inr o)))
      ] in
      subst (λ x. IsListedBefore x d) (sym (m.2 no_run_use)) (subst (λ y. IsListedBefore (conflict_of runs a (get_or (met run_uses swept i) m.0 no_run_use)) y) (sym (n.2 no_run_use)) as_listed)

  pub all_found : AreConflicts stairs (all_conflicts runs run_uses)
  all_found = record {
    each = λ c. (from_found c, in_found c);
    order = rw whole_is (AllPairs-upto (conflicts_at runs run_uses) IsListedBefore (length run_uses) piece_in_order pieces_in_order);
  }
