-- The ring of members that remain: each precedes the next, none comes twice, and the least comes first.
use Rattle.std.proofs.Common.{◌≡◌, ◌≢◌, ℕ, zero, suc, ◌+◌, ◌<◌, ◌≤◌, true, ◌==◌, List, [], ◌∷◌, ◌++◌, length, map, take, drop, get_or, Option, Some, None, inl, inr, refl, sym, ap, ◌∙◌, subst, arith, append_assoc, length-append}
use Rattle.std.specs.Prelude.{All, AllPairs, find, fold, zip, reverse, unwrap_or, slice_index}
use Rattle.std.specs.List.{list_any}
use Rattle.std.proofs.lemmas.Bool.{cases_Bool, or_left, eqb-true, eq-eqb, both_ways}
use Rattle.std.proofs.lemmas.List.{append-nil}
use Rattle.std.proofs.lemmas.List.Elements.{All-nil, All-cons, All-push}
use Rattle.std.proofs.lemmas.List.Folds.{list_any_at}
use Rattle.std.proofs.lemmas.List.Quantifiers.{all_pairs_push}
use Rattle.rail_model.specs.Name.{is_same}
use Rattle.rail_model.proofs.NameOrder.{is_same-from, names_apart}
use Rattle.rail_model.proofs.Lists.{AllPairs-map}
use Rattle.plan_model.specs.declared.cut.CutRow.{CutRow}
use Rattle.plan_model.specs.declared.cut.Cut.{Cut}
use Rattle.plan_model.specs.declared.answer.Link.{Link}
use Rattle.plan_model.specs.Members.{place_count, places, first_by_name, first_with, AnswersFirst, no_member, member, member_count, members, precedes, places_of_precedence, precedes_somewhere}
use Rattle.plan_model.specs.Cut.{IsSoundCut}
use Rattle.plan_model.specs.Disorder.{preceded, after_rounds, remaining, predecessor, circuit, ring_members, link_of}
use Rattle.plan_model.specs.Laws.{IsTrueLink, IsTrueRing, RingIsTrue}
use Rattle.plan_model.proofs.MemberTests.{has, in_range, has-filter, filter-has}
use Rattle.plan_model.proofs.FirstWith.{one_more, is_first}
use Rattle.plan_model.proofs.Remaining.{remaining_is_left}
use Rattle.plan_model.proofs.Parts.{all_last, split_at, found}
use Rattle.plan_model.proofs.Rounds.{Leads, LeadsTo, leads_more, leads_last, Once, once_last, once_short, IsGood, good_back, least_first}

-- ---- the walk back

module _ (cut : Cut) where
  abbrev count : ℕ
  count = member_count cut

  abbrev Precedes : ℕ → ℕ → Type 0
  Precedes i j = precedes_somewhere cut i j ≡ true

  abbrev IsPreceded : ℕ → ℕ → Type 0
  IsPreceded j i = Precedes i j

  abbrev Remains : ℕ → Type 0
  Remains j = has (remaining cut) j ≡ true

  pub of_rounds : (n : ℕ) (some : List ℕ) (j : ℕ) → has (after_rounds cut n some) j ≡ true → has some j ≡ true
  of_rounds zero some j h = h
  of_rounds (suc n) some j h =
      (filter-has (λ j. list_any (λ i. precedes_somewhere cut i j) some) some j (of_rounds n (preceded cut some) j h)).0

  pub remains_there : (j : ℕ) → Remains j → j < count
  remains_there j h = omega (arith, in_range 0 count j (of_rounds count (members cut) j h))

  pub predecessor_is : (j : ℕ) → Remains j → Remains (predecessor cut j) × Precedes (predecessor cut j) j
  predecessor_is j h =
      let left = remaining cut in
      let again : has (preceded cut left) j ≡ true = subst (λ xs. has xs j ≡ true) (sym (remaining_is_left cut)) h in
      found (λ i. precedes_somewhere cut i j) left j
      (filter-has (λ j. list_any (λ i. precedes_somewhere cut i j) left) left j again).1

  walk : (n : ℕ) (walked : List ℕ) (j : ℕ) → All (λ i. i < count) walked → Once walked → LeadsTo IsPreceded walked j
      → Remains j → count < length walked + n → IsGood IsPreceded count (circuit cut n walked j)
  walk zero walked j there once leads remains long =
      absurd (omega (arith, once_short walked count once there, long))
  walk (suc n) walked j there once leads remains long =
      elim (cases_Bool (has walked j)) [
        | inl came ↦
            let s = split_at (λ m. m == j) walked came in
            let same : s.first ≡ j = eqb-true s.first j s.passes in
            let back = leads_last IsPreceded s.before s.first s.after j (subst (λ xs. LeadsTo IsPreceded xs j) s.is leads) in
            let good : IsGood IsPreceded count (s.first ∷ s.after) = record {
              round = subst (Leads IsPreceded s.first s.after) (sym same) back;
              there = all_last (λ i. i < count) s.before (s.first ∷ s.after) (subst (All (λ i. i < count)) s.is there);
              once = once_last s.before (s.first ∷ s.after) (subst Once s.is once);
            } in
            rw came (subst (IsGood IsPreceded count) (sym s.dropped) good)
        | inr fresh ↦
            let next = predecessor_is j remains in
            rw fresh
            (walk n (walked ++ j ∷ []) (predecessor cut j)
            (All-push (λ i. i < count) walked j there (remains_there j remains))
            (all_pairs_push (λ i j. i ≢ j) walked j once
            (λ k d l e. both_ways (has walked j) fresh (list_any_at (λ m. m == j) walked k d l (eq-eqb _ j e))))
            (leads_more IsPreceded walked j (predecessor cut j) leads next.1) next.0
            (omega (arith, length-append walked (j ∷ []), long)))
      ]

  first_remains : (some : List ℕ) → some ≢ [] → has some (slice_index some 0) ≡ true
  first_remains [] h = absurd (h refl)
  first_remains (x ∷ some) h = or_left (x == x) (has some x) (eq-eqb x x refl)

  ring_good : remaining cut ≢ []
      → IsGood Precedes count (ring_members cut) × All (λ i. slice_index (ring_members cut) 0 ≤ i) (ring_members cut)
  ring_good some =
      let first = slice_index (remaining cut) 0 in
      let back = walk (count + 1) [] first (All-nil (λ i. i < count)) (λ i j d before below. absurd (omega (arith, below))) tt
      (first_remains (remaining cut) some) (omega arith) in
      least_first Precedes count (reverse (circuit cut (count + 1) [] first))
      (good_back IsPreceded count (circuit cut (count + 1) [] first) back)

  -- ---- the links

  -- of some places one is the first by name
  pub looked_at : (some later : List ℕ) (best : Option ℕ) → AnswersFirst cut some best
      → AnswersFirst cut (some ++ later) (fold (first_with cut) best later)
  looked_at some [] best first = subst (λ ps. AnswersFirst cut ps best) (sym (append-nil some)) first
  looked_at some (p ∷ later) best first =
      subst (λ ps. AnswersFirst cut ps (fold (first_with cut) best (p ∷ later))) (append_assoc some (p ∷ []) later)
      (looked_at (some ++ p ∷ []) later (first_with cut best p) (one_more cut some p best first))

  first_there : IsSoundCut cut → (some : List ℕ) (i d : ℕ) → has some i ≡ true
      → ((c : ℕ) → has some c ≡ true → c < place_count cut) → has some (unwrap_or (first_by_name cut some) d) ≡ true
  first_there sound some i d h there =
      let best = fold (first_with cut) None some in
      let first = looked_at [] some None refl in
      let go : (o : Option ℕ) → AnswersFirst cut some o → has some (unwrap_or o d) ≡ true =
      elim [ None ↦ λ none. absurd (let gone = ap (λ ps. has ps i) none in cc) | Some b ↦ λ first. first.there ] in
      subst (λ o. has some (unwrap_or o d) ≡ true) (sym (is_first cut sound some best there first)) (go best first)

  link_is_true : IsSoundCut cut → (i j : ℕ) → Precedes i j → IsTrueLink cut (link_of cut (i, j))
  link_is_true sound i j h =
      let test = precedes (member cut i) (member cut j) in
      let some = places_of_precedence cut i j in
      let at = found test (places cut) 0 h in
      let named = unwrap_or (first_by_name cut some) (place_count cut) in
      let below : (c : ℕ) → has some c ≡ true → c < place_count cut =
      λ c m. omega (arith, in_range 0 (place_count cut) c (filter-has test (places cut) c m).0) in
      let there = first_there sound some (unwrap_or (find test (places cut)) 0) (place_count cut)
      (has-filter test (places cut) _ at.0 at.1) below in
      record {
        first = i;
        second = j;
        place = named;
        there = below named there;
        precedes = (filter-has test (places cut) named there).1;
        train = refl;
        block = refl;
        next = refl;
      }

  links_are_true : IsSoundCut cut → (x : ℕ) (vs : List ℕ) (y : ℕ) → Leads Precedes x vs y
      → All (IsTrueLink cut) (map (link_of cut) (zip (x ∷ vs) (vs ++ y ∷ [])))
  links_are_true sound x [] y h =
      All-cons (IsTrueLink cut) (link_of cut (x, y)) [] (link_is_true sound x y h) (All-nil (IsTrueLink cut))
  links_are_true sound x (a ∷ vs) y h =
      All-cons (IsTrueLink cut) (link_of cut (x, a)) (map (link_of cut) (zip (a ∷ vs) (vs ++ y ∷ [])))
      (link_is_true sound x a h.0) (links_are_true sound a vs y h.1)

  abbrev name : ℕ → List ℕ
  name i = (member cut i).name

  trains_are : (x : ℕ) (vs : List ℕ) (y : ℕ)
      → map (λ (l : Link). l.train) (map (link_of cut) (zip (x ∷ vs) (vs ++ y ∷ []))) ≡ map name (x ∷ vs)
  trains_are x [] y = refl
  trains_are x (a ∷ vs) y = ap (λ ns. name x ∷ ns) (trains_are a vs y)

  nexts_are : (x : ℕ) (vs : List ℕ) (y : ℕ)
      → map (λ (l : Link). l.next) (map (link_of cut) (zip (x ∷ vs) (vs ++ y ∷ []))) ≡ map name vs ++ name y ∷ []
  nexts_are x [] y = refl
  nexts_are x (a ∷ vs) y = ap (λ ns. name a ∷ ns) (nexts_are a vs y)

  names_differ : IsSoundCut cut → (r : List ℕ) → All (λ i. i < count) r → Once r → AllPairs (λ a b. a ≢ b) (map name r)
  names_differ sound r there once =
      AllPairs-map name (λ a b. a ≢ b) r
      (λ i j d before below same.
      let a = get_or r i d in
      let b = get_or r j d in
      both_ways (is_same (name a) (name b))
      (names_apart (λ (row : CutRow). row.name) cut.rows no_member sound.names_rise a b (there i d (omega (arith, before, below))) (there j d below) (once i j d before below))
      (is_same-from (name a) (name b) same))

  ring_of : IsSoundCut cut → (r : List ℕ) → IsGood Precedes count r → All (λ i. slice_index r 0 ≤ i) r
      → IsTrueRing cut r (map (link_of cut) (zip r (drop 1 r ++ take 1 r)))
  ring_of sound [] good least = absurd good.round
  ring_of sound (x ∷ xs) good least = record {
    some = λ e. absurd (cc);
    there = good.there;
    trains = trains_are x xs x;
    each = links_are_true sound x xs x good.round;
    close = nexts_are x xs x ∙ ap (λ ns. drop 1 ns ++ take 1 ns) (sym (trains_are x xs x));
    once = subst (AllPairs (λ a b. a ≢ b)) (sym (trains_are x xs x)) (names_differ sound (x ∷ xs) good.there good.once);
    least = least;
  }

pub ring_is_true : RingIsTrue
ring_is_true cut sound some = let good = ring_good cut some in ring_of cut sound (ring_members cut) good.0 good.1
