-- A ring of demands, told from its least train on.
use Rattle.std.proofs.Common.{◌≡◌, ◌≢◌, ℕ, zero, suc, ◌+◌, ◌<◌, ◌≤◌, List, [], ◌∷◌, ◌++◌, length, take, drop, map, get_or, reverse, refl, sym, ap, subst, ◌∙◌, arith}
use Rattle.std.specs.Prelude.{pos, ◌+ℤ◌, ◌-ℤ◌, ◌*ℤ◌, ◌<ℤ◌, cond, All, AllPairs}
use Rattle.std.specs.List.Sorted.{IsPermutation}
use Rattle.std.proofs.lemmas.Bool.{both_ways}
use Rattle.std.proofs.lemmas.Int.{ints}
use Rattle.std.proofs.lemmas.List.{get_or-map, length-map, map-append, get_or_default, take-append-drop, drop_more, reverse-append}
use Rattle.std.proofs.lemmas.List.Elements.{All-head, All-tail, All-map, All-more, All-weaker}
use Rattle.std.proofs.lemmas.List.Sums.{sum_by-cons, sum_by-append}
use Rattle.std.proofs.lemmas.List.Sorted.{All-permutation, IsPermutation-map, IsPermutation-trans, length_permutation}
use Rattle.plan_model.specs.declared.cut.Cut.{Cut}
use Rattle.train_order.specs.Taking.{IsDistinct}
use Rattle.train_order.proofs.Among.{among_at}
use Rattle.train_order.proofs.Apart.{Differ, not_twice}
use Rattle.cycle_time.specs.declared.demand.Demand.{Demand}
use Rattle.cycle_time.specs.declared.found.Step.{Step}
use Rattle.cycle_time.specs.Cycle.{IsStep, total, patterns, Leads, first_train, Refuses}
use Rattle.cycle_time.specs.Demands.{IsDemand}
use Rattle.cycle_time.specs.Raising.{Back}
use Rattle.cycle_time.specs.Rings.{to_of, step_of, no_demand, IsTurned, weights, laps, IsLoop}

-- ---- back from one train to another

back_split : (i : ℕ) (xs ys : List Demand) (j : ℕ) → Back i (xs ++ ys) j → (k : ℕ) × Back i xs k × Back k ys j
back_split i [] ys j b = (i, refl, b)
back_split i (e ∷ xs) ys j b =
    let rest = back_split e.step.from xs ys j b.1 in (rest.0, (b.0, rest.1), rest.2)

back_join : (i : ℕ) (xs ys : List Demand) (k j : ℕ) → Back i xs k → Back k ys j → Back i (xs ++ ys) j
back_join i [] ys k j b c = subst (λ m. Back m ys j) (sym b) c
back_join i (e ∷ xs) ys k j b c = (b.0, back_join e.step.from xs ys k j b.1 c)

-- a ring that is turned so that another demand comes first
pub back_turned : (i m : ℕ) (ring : List Demand) → Back i ring i → (k : ℕ) × Back k (drop m ring ++ take m ring) k
back_turned i m ring b =
    let split = back_split i (take m ring) (drop m ring) i (subst (λ es. Back i es i) (sym (take-append-drop m ring)) b) in
    (split.0, back_join split.0 (drop m ring) (take m ring) i split.0 split.2 split.1)

-- ---- forward

leads_more : (cut : Cut) (i : ℕ) (steps : List Step) (s : Step) (j : ℕ) → Leads cut i steps s.from → IsStep cut s → s.to ≡ j
    → Leads cut i (steps ++ s ∷ []) j
leads_more cut i [] s j l is e = (is, sym l, e)
leads_more cut i (t ∷ steps) s j l is e = (l.0, l.1, leads_more cut t.to steps s j l.2 is e)

pub forward : (cut : Cut) (i : ℕ) (ring : List Demand) (j : ℕ) → All (IsDemand cut) ring → Back i ring j
    → Leads cut j (map step_of (reverse ring)) i
forward cut i [] j all b = sym b
forward cut i (e ∷ ring) j all b =
    let rest = forward cut e.step.from ring j (All-tail (IsDemand cut) e ring all) b.1 in
    let is = All-head (IsDemand cut) e ring all in
    subst (λ steps. Leads cut j steps i) (sym (ap (map step_of) (reverse-append (e ∷ []) ring) ∙ map-append step_of (reverse ring) (e ∷ [])))
    (leads_more cut j (map step_of (reverse ring)) e.step i rest is.is_step b.0)

-- ---- sums

pub weights_append : (xs ys : List Demand) → weights (xs ++ ys) ≡ weights xs +ℤ weights ys
weights_append [] ys = omega (arith, ints)
weights_append (e ∷ xs) ys = let rest = weights_append xs ys in omega (arith, ints, rest)

weights_reverse : (ring : List Demand) → weights (reverse ring) ≡ weights ring
weights_reverse [] = refl
weights_reverse (e ∷ ring) =
    let rest = weights_reverse ring in
    let split = ap weights (reverse-append (e ∷ []) ring) ∙ weights_append (reverse ring) (e ∷ []) in
    omega (arith, ints, rest, split)

total_is : (cut : Cut) (ring : List Demand) → All (IsDemand cut) ring → total cut (map step_of ring) ≡ weights ring
total_is cut [] all = refl
total_is cut (e ∷ ring) all =
    let rest = total_is cut ring (All-tail (IsDemand cut) e ring all) in
    let is = (All-head (IsDemand cut) e ring all).weight_is in
    omega (arith, ints, rest, is)

abbrev one_of : Demand → ℕ
one_of e = cond e.step.next 1 0

patterns_is : (ring : List Demand) → patterns (map step_of ring) ≡ laps ring
patterns_is [] = refl
patterns_is (e ∷ ring) =
    sum_by-cons (λ (s : Step). cond s.next 1 0) e.step (map step_of ring)
    ∙ ap (λ n. one_of e + n) (patterns_is ring) ∙ sym (sum_by-cons one_of e ring)

laps_reverse : (ring : List Demand) → laps (reverse ring) ≡ laps ring
laps_reverse [] = refl
laps_reverse (e ∷ ring) =
    let rest = laps_reverse ring in
    let split = ap laps (reverse-append (e ∷ []) ring) ∙ sum_by-append one_of (reverse ring) (e ∷ []) in
    let first = sum_by-cons one_of e ring in
    let last = sum_by-cons one_of e [] in
    omega (arith, rest, split, first, last)

-- ---- no train twice

differ : (some : List ℕ) → IsDistinct some → Differ some
differ [] once i j d l lj e = absurd (omega (arith, lj))
differ (x ∷ some) once zero zero d l lj e = absurd (omega (arith, l))
differ (x ∷ some) once zero (suc j) d l lj e =
    both_ways _ once.0
    (among_at some j x (omega (arith, lj)) (get_or_default some j 0 d (omega (arith, lj)) ∙ sym e))
differ (x ∷ some) once (suc i) zero d l lj e = absurd (omega (arith, l))
differ (x ∷ some) once (suc i) (suc j) d l lj e = differ some once.1 i j d (omega (arith, l)) (omega (arith, lj)) e

-- ---- the least train

pub least_more : (demands : List Demand) (k least next : ℕ) → k < length demands
    → All (λ (e : Demand). (get_or demands least no_demand).step.to ≤ e.step.to) (take k demands)
    → (get_or demands next no_demand).step.to ≤ (get_or demands least no_demand).step.to
    → (get_or demands next no_demand).step.to ≤ (get_or demands k no_demand).step.to
    → All (λ (e : Demand). (get_or demands next no_demand).step.to ≤ e.step.to) (take (k + 1) demands)
least_more demands k least next l so_far a b =
    All-more (λ (e : Demand). (get_or demands next no_demand).step.to ≤ e.step.to) demands k no_demand l
    (All-weaker (λ (e : Demand). (get_or demands least no_demand).step.to ≤ e.step.to)
    (λ (e : Demand). (get_or demands next no_demand).step.to ≤ e.step.to) (λ e h. omega (arith, h, a)) (take k demands) so_far)
    b

-- ---- the steps of a ring

first_is : (cut : Cut) (i : ℕ) (steps : List Step) (j : ℕ) → 0 < length steps → Leads cut i steps j → first_train steps ≡ i
first_is cut i [] j some l = absurd (omega (arith, some))
first_is cut i (s ∷ steps) j some l = l.1

module _ (ring turned final : List Demand) (steps : List Step) (m : ℕ) (there : m < length ring)
    (least : All (λ (e : Demand). (get_or ring m no_demand).step.to ≤ e.step.to) ring)
    (turns : turned ≡ drop m ring ++ take m ring) (permuted : IsPermutation ring turned)
    (back : final ≡ reverse turned) (reversed : IsPermutation turned final) (told : steps ≡ map step_of final) where
  whole : IsPermutation ring final
  whole = IsPermutation-trans ring turned final permuted reversed

  long : length steps ≡ length ring
  long = ap length told ∙ length-map final step_of ∙ length_permutation ring final whole

  module _ (cut : Cut) (period : ℕ) (is : IsLoop cut ring)
      (more : (pos (laps ring) *ℤ (pos period -ℤ pos 1)) <ℤ weights ring) where
    all : All (IsDemand cut) turned
    all = All-permutation (IsDemand cut) ring turned permuted is.each

    around : (k : ℕ) × Back k turned k
    around = let b = back_turned is.at m ring is.leads in (b.0, subst (λ es. Back b.0 es b.0) (sym turns) b.1)

    starts : around.0 ≡ (get_or ring m no_demand).step.to
    starts =
        let b = subst (λ es. Back around.0 es around.0) (turns ∙ ap (λ es. es ++ take m ring) (drop_more ring m no_demand there)) around.1 in
        sym b.0

    same_weights : weights final ≡ weights ring
    same_weights =
        let a = weights_append (drop m ring) (take m ring) in
        let b = weights_append (take m ring) (drop m ring) in
        let c = ap weights (take-append-drop m ring) in
        let d = ap weights turns in
        let e = ap weights back in
        let f = weights_reverse turned in
        omega (arith, ints, a, b, c, d, e, f)

    same_laps : laps final ≡ laps ring
    same_laps =
        let a = sum_by-append one_of (drop m ring) (take m ring) in
        let b = sum_by-append one_of (take m ring) (drop m ring) in
        let c = ap laps (take-append-drop m ring) in
        let d = ap laps turns in
        let e = ap laps back in
        let f = laps_reverse turned in
        omega (arith, a, b, c, d, e, f)

    leads : Leads cut around.0 steps around.0
    leads =
        subst (λ ss. Leads cut around.0 ss around.0) (sym (told ∙ ap (map step_of) back))
        (forward cut around.0 turned around.0 all around.1)

    first : first_train steps ≡ around.0
    first = first_is cut around.0 steps around.0 (omega (arith, long, there)) leads

    to_is : (i : ℕ) (d : Step) → i < length steps → (get_or steps i d).to ≡ get_or (map to_of final) i 0
    to_is i d l =
        let lf : i < length final = omega (arith, l, ap length told, length-map final step_of) in
        ap (λ ss. (get_or ss i d).to) told ∙ ap (λ (s : Step). s.to) (get_or-map step_of final i no_demand d lf)
        ∙ sym (get_or-map to_of final i no_demand 0 lf)

    once : AllPairs (λ (s : Step) (t : Step). s.to ≢ t.to) steps
    once i j d l lj e =
        let far : j < length (map to_of final) = omega (arith, lj, ap length told, length-map final step_of, length-map final to_of) in
        not_twice (map to_of ring) (map to_of final) (differ (map to_of ring) is.once) (IsPermutation-map to_of ring final whole)
        i j l far (sym (to_is i d (omega (arith, l, lj))) ∙ e ∙ to_is j d lj)

    least_first : All (λ (s : Step). first_train steps ≤ s.to) steps
    least_first =
        let all_final = All-permutation (λ (e : Demand). (get_or ring m no_demand).step.to ≤ e.step.to) ring final whole least in
        let e : first_train steps ≡ (get_or ring m no_demand).step.to = first ∙ starts in
        subst (λ ss. All (λ (s : Step). first_train steps ≤ s.to) ss) (sym told)
        (All-map (λ (s : Step). first_train steps ≤ s.to) step_of final (λ k d l. let h = all_final k d l in omega (arith, e, h)))

    sum : total cut steps ≡ weights ring
    sum = ap (total cut) told ∙ total_is cut final (All-permutation (IsDemand cut) ring final whole is.each) ∙ same_weights

    counted : patterns steps ≡ laps ring
    counted = ap patterns told ∙ patterns_is final ∙ same_laps

    refuses : Refuses cut period steps
    refuses = record {
      is_ring = record {
        leads = subst (λ k. Leads cut k steps k) (sym first) leads;
        once = once;
        least = least_first;
      };
      some = omega (arith, counted, is.some);
      more = subst (λ n. (pos n *ℤ (pos period -ℤ pos 1)) <ℤ total cut steps) (sym counted)
          (subst (λ w. (pos (laps ring) *ℤ (pos period -ℤ pos 1)) <ℤ w) (sym sum) more);
    }

  pub is_turned : IsTurned ring steps
  is_turned cut period is more = refuses cut period is more
