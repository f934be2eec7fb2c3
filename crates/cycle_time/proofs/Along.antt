-- Demands that are laid along an order: who keeps them keeps each place for the trains so far.
use Rattle.std.proofs.Common.{◌≡◌, ◌≢◌, ℕ, ◌+◌, ◌<◌, ◌≤◌, Bool, true, false, ◌==◌, ◌||◌, List, [], ◌∷◌, length, get_or, set, take, ◌⊎◌, inl, inr, refl, sym, ap, subst, ◌∙◌, arith, length-set}
use Rattle.std.specs.Prelude.{ℤ, pos, ◌+ℤ◌, ◌-ℤ◌, ◌≤ℤ◌, All, IsTrue, Option, None, Some, IfSome, if◌then◌else◌, replicate, unwrap_or}
use Rattle.std.specs.List.{list_any}
use Rattle.std.proofs.lemmas.Bool.{cases_Bool, cases_eq, both_ways, eq-eqb, ne_eqb, or_left, or_right, or_from}
use Rattle.std.proofs.lemmas.Int.{ints}
use Rattle.std.proofs.lemmas.List.{get_or-set_same, get_or-set_other, get_or-replicate, length-replicate, take_more}
use Rattle.std.proofs.lemmas.List.Elements.{All-nil}
use Rattle.std.proofs.lemmas.List.Folds.{list_any-append, list_any_at}
use Rattle.rail_model.specs.declared.stair.Use.{Use}
use Rattle.plan_model.specs.declared.cut.Cut.{Cut}
use Rattle.plan_model.specs.Members.{block_count, place_count, is_among, member, member_count, no_member, no_use, uses_place, use_at, precedes}
use Rattle.plan_model.specs.Cut.{IsSoundCut}
use Rattle.plan_model.specs.Schedule.{entry_at, start_by, end_by}
use Rattle.plan_model.proofs.Order.{one_precedes}
use Rattle.plan_model.proofs.Sound.{differ}
use Rattle.plan_model.proofs.UseFound.{found_at}
use Rattle.plan_model.proofs.Uses.{takes_time_by}
use Rattle.train_order.specs.Laws.{ComesNext}
use Rattle.train_order.specs.Ordering.{IsOrder}
use Rattle.train_order.proofs.Among.{among_first, first_among, among_more}
use Rattle.train_order.proofs.Following.{apart}
use Rattle.train_order.proofs.Next.{is_there}
use Rattle.train_order.proofs.Users.{user_there, users}
use Rattle.cycle_time.specs.declared.demand.Demand.{Demand}
use Rattle.cycle_time.specs.declared.stay.Stay.{Stay}
use Rattle.cycle_time.specs.declared.stay.Ends.{Ends}
use Rattle.cycle_time.specs.Cycle.{IsStep, weight}
use Rattle.cycle_time.specs.Demands.{step_on, IsSpan, IsLight, IsDemand, Keeps, AreEnough}
use Rattle.cycle_time.specs.Laying.{stay_by, with_stay, demand_to, Cover, IsAdded, IsLedTo, IsLedOn, HaveSpans, IsStayOf, AreEnds, AreEndsIfAny, KeepOrder, AreEnoughFor, ends_at, AreLaidOn, AreLaid, with_uses, AreLaidAgain}
use Rattle.cycle_time.proofs.Weights.{by_moments, by_moments_again}

-- ---- at first

pub none_laid : (cut : Cut) (some : List ℕ) (demands : List Demand) (ends : List (Option Ends)) → some ≡ [] → demands ≡ []
    → ends ≡ replicate (place_count cut) None → AreLaid cut some demands ends
none_laid cut some demands ends s e is = record {
  each = subst (All (IsDemand cut)) (sym e) (All-nil (IsDemand cut));
  count = ap length is ∙ length-replicate (place_count cut) None;
  places = λ place l.
      let none : ends_at ends place ≡ None = ap (λ es. ends_at es place) is ∙ get_or-replicate (place_count cut) place None None l in
      let nobody : (i : ℕ) → IsTrue (is_among some i) → ⊥ =
      λ i h. let a : is_among [] i ≡ true = subst (λ is. is_among is i ≡ true) s h in absurd (cc) in
      rw none (record { enough = λ period entries keep i j hi hj p. absurd (nobody i hi); ends = λ i h. absurd (nobody i h) });
}

-- entries that keep the demands that there are keep those that there were
abbrev IsKept : List Demand → List Demand → Type 0
IsKept before after = (period : ℕ) (entries : List ℤ) → All (Keeps period entries) after → All (Keeps period entries) before

-- ---- a demand between two uses of a place

light : (until from : ℤ) → IsSpan until → IsSpan from → IsLight (until -ℤ from)
light until from u f = record {
  above = omega (arith, ints, u.above, f.below);
  below = omega (arith, ints, u.below, f.above);
}

module _ (cut : Cut) (place : ℕ) (one other : Stay) (first : IsStayOf cut place one) (second : IsStayOf cut place other) where
  abbrev i : ℕ
  i = one.train

  abbrev j : ℕ
  j = other.train

  until_is : one.until ≡ ((use_at (member cut i) place).«end» -ℤ (member cut i).entry)
  until_is = ap (λ (s : Stay). s.until) first.is

  from_is : other.from ≡ ((use_at (member cut j) place).start -ℤ (member cut j).entry)
  from_is = ap (λ (s : Stay). s.from) second.is

  weight_is : (next : Bool) → (one.until -ℤ other.from) ≡ weight cut (step_on i j place next)
  weight_is next = ap (λ u. u -ℤ other.from) until_is
      ∙ ap (λ f. ((use_at (member cut i) place).«end» -ℤ (member cut i).entry) -ℤ f) from_is

  is_demand : (next : Bool) → IsStep cut (step_on i j place next) → IsDemand cut (demand_to one other place next)
  is_demand next step =
      record { is_step = step; weight_is = weight_is next; light = light one.until other.from first.until second.from }

  module _ (period : ℕ) (entries : List ℤ) where
    abbrev x : ℤ
    x = entry_at entries i

    abbrev y : ℤ
    y = entry_at entries j

    clear : Keeps period entries (demand_to one other place false) → end_by cut entries i place ≤ℤ start_by cut entries j place
    clear keep =
        by_moments (use_at (member cut i) place).«end» (use_at (member cut j) place).start (member cut i).entry
        (member cut j).entry x y (subst (λ w. (x +ℤ w) ≤ℤ y) (weight_is false) keep)

    clear_again : Keeps period entries (demand_to one other place true)
        → end_by cut entries i place ≤ℤ (start_by cut entries j place +ℤ pos period)
    clear_again keep =
        by_moments_again (use_at (member cut i) place).«end» (use_at (member cut j) place).start (member cut i).entry
        (member cut j).entry x y (pos period) (subst (λ w. (x +ℤ (w -ℤ pos period)) ≤ℤ y) (weight_is true) keep)

-- all of some trains have left a place by when the last one leaves, and start there from when the first one starts on
module _ (cut : Cut) (sound : IsSoundCut cut) (place : ℕ) (some : List ℕ) (ends : Ends) (are : AreEnds cut place some ends)
    (entries : List ℤ) (keep : KeepOrder cut place some entries) (i : ℕ) (among : IsTrue (is_among some i))
    (used : IsTrue (uses_place (member cut i) place)) where
  by_last : end_by cut entries i place ≤ℤ end_by cut entries ends.last.train place
  by_last =
      let last = ends.last.train in
      elim (cases_eq i last) [
        | inl e ↦ rw e (omega (arith, ints))
        | inr ne ↦ elim (one_precedes cut sound i last place (user_there cut i place used) are.last.there ne used are.last.used) [
          | inl p ↦
              let off = keep i last among are.last_among p in
              let lasts = takes_time_by cut sound last place are.last.there are.last.used (entry_at entries last) in
              omega (arith, ints, off, lasts)
          | inr p ↦ absurd (are.none_after i among p)
        ]
      ]

  from_first : start_by cut entries ends.first.train place ≤ℤ start_by cut entries i place
  from_first =
      let first = ends.first.train in
      elim (cases_eq i first) [
        | inl e ↦ rw e (omega (arith, ints))
        | inr ne ↦ elim (one_precedes cut sound i first place (user_there cut i place used) are.first.there ne used are.first.used) [
          | inl p ↦ absurd (are.none_before i among p)
          | inr p ↦
              let off = keep first i are.first_among among p in
              let lasts = takes_time_by cut sound first place are.first.there are.first.used (entry_at entries first) in
              omega (arith, ints, off, lasts)
        ]
      ]

-- ---- one train more

-- a list of trains with one more
pub record IsMore (some more : List ℕ) (j : ℕ) : Type 0 where
  pub old : (i : ℕ) → IsTrue (is_among some i) → IsTrue (is_among more i)
  pub new : IsTrue (is_among more j)
  pub either : (i : ℕ) → IsTrue (is_among more i) → IsTrue (is_among some i) ⊎ (i ≡ j)

pub next_more : (order : List ℕ) (k : ℕ) → k < length order → IsMore (take k order) (take (k + 1) order) (get_or order k 0)
next_more order k l = record {
  old = λ i h. among_more order k (k + 1) i (omega arith) (omega (arith, l)) h;
  new = among_first order (k + 1) k (get_or order k 0) (omega (arith, l)) (omega arith) refl;
  either = λ i h.
      let at = first_among order (k + 1) i (omega (arith, l)) h in
      elim (cases_eq at.0 k) [
        | inl e ↦ inr (sym (ap (λ m. get_or order m 0) (sym e) ∙ at.2))
        | inr ne ↦ inl (among_first order k at.0 i (omega (arith, l)) (omega (arith, at.1, ne)) at.2)
      ];
}

module _ (cut : Cut) (sound : IsSoundCut cut) (some more : List ℕ) (j : ℕ) (is_more : IsMore some more j)
    (next : ComesNext cut some j) where
  not_itself : (i k place : ℕ) → i ≡ j → k ≡ j → IsTrue (precedes (member cut i) (member cut k) place) → ⊥
  not_itself i k place e f p =
      let itself : IsTrue (precedes (member cut j) (member cut j) place) =
      subst (λ m. IsTrue (precedes (member cut j) (member cut m) place)) f
      (subst (λ m. IsTrue (precedes (member cut m) (member cut k) place)) e p) in
      both_ways _ next.not_yet (next.before j place itself)

  -- a place that the train doesn't use
  module _ (place : ℕ) (free : uses_place (member cut j) place ≡ false) where
    still : (i : ℕ) → IsTrue (is_among more i) → IsTrue (uses_place (member cut i) place) → IsTrue (is_among some i)
    still i h u =
        elim (is_more.either i h) [
          | inl a ↦ a
          | inr e ↦ absurd (both_ways _ (ap (λ m. uses_place (member cut m) place) e ∙ free) u)
        ]

    ends_still : (o : Option Ends) → AreEndsIfAny cut place some o → AreEndsIfAny cut place more o
    ends_still None seen = λ i h. elim (is_more.either i h) [
      | inl a ↦ seen i a
      | inr e ↦ ap (λ m. uses_place (member cut m) place) e ∙ free
    ]
    ends_still (Some ends) seen = record {
      first = seen.first;
      last = seen.last;
      first_among = is_more.old ends.first.train seen.first_among;
      last_among = is_more.old ends.last.train seen.last_among;
      none_before = λ i h p. seen.none_before i (still i h (users cut i ends.first.train place p).0) p;
      none_after = λ i h p. seen.none_after i (still i h (users cut ends.last.train i place p).1) p;
    }

    unused : (demands : List Demand) (o : Option Ends) → AreEnoughFor cut place some demands o → AreEnoughFor cut place more demands o
    unused demands o are = record {
      enough = λ period entries keep i k hi hk p.
          let both = users cut i k place p in
          are.enough period entries keep i k (still i hi both.0) (still k hk both.1) p;
      ends = ends_still o are.ends;
    }

  -- a place that it uses
  module _ (place : ℕ) (stay : Stay) (its : IsStayOf cut place stay) (train : stay.train ≡ j) (before after : List Demand) where
    -- what there is after a demand from the last train on the place
    record IsLaidNow (o : Option Ends) : Type 0 where
      each : All (IsDemand cut) before → All (IsDemand cut) after
      kept : IsKept before after
      now : AreEnoughFor cut place more after (Some (with_stay o stay))

    among : IsTrue (is_among more stay.train)
    among = rw train is_more.new

    none_after_it : (i : ℕ) → IsTrue (is_among more i) → IsTrue (precedes (member cut stay.train) (member cut i) place) → ⊥
    none_after_it i h p =
        elim (is_more.either i h) [
          | inl a ↦ next.none_after i place a (subst (λ m. IsTrue (precedes (member cut m) (member cut i) place)) train p)
          | inr e ↦ not_itself stay.train i place train e p
        ]

    alone : AreEnoughFor cut place some before None → after ≡ before → IsLaidNow None
    alone are same =
        let only : (i : ℕ) → IsTrue (is_among more i) → IsTrue (uses_place (member cut i) place) → i ≡ j =
        λ i h u. elim (is_more.either i h) [
          | inl a ↦ absurd (both_ways _ (are.ends i a) u)
          | inr e ↦ e
        ] in record {
          each = λ all. rw same all;
          kept = λ period entries keep. subst (All (Keeps period entries)) same keep;
          now = record {
            enough = λ period entries keep i k hi hk p.
                let both = users cut i k place p in
                absurd (not_itself i k place (only i hi both.0) (only k hk both.1) p);
            ends = record {
              first = its;
              last = its;
              first_among = among;
              last_among = among;
              none_before = λ i h p. not_itself i stay.train place (only i h (users cut i stay.train place p).0) train p;
              none_after = none_after_it;
            };
          };
        }

    module _ (ends : Ends) (are : AreEnoughFor cut place some before (Some ends)) where
      abbrev last : ℕ
      last = ends.last.train

      goes : IsTrue (precedes (member cut last) (member cut stay.train) place)
      goes =
          elim (one_precedes cut sound last stay.train place are.ends.last.there its.there
          (λ e. both_ways _ next.not_yet (subst (λ m. IsTrue (is_among some m)) (e ∙ train) are.ends.last_among))
          are.ends.last.used its.used) [
            | inl p ↦ p
            | inr p ↦ absurd (none_after_it last (is_more.old last are.ends.last_among) p)
          ]

      step : IsStep cut (step_on last stay.train place false)
      step = record {
        one_there = are.ends.last.there;
        other_there = its.there;
        same = λ e. goes;
        next = λ e. absurd (cc);
      }

      behind : IsAdded before after (demand_to ends.last stay place false) → IsLaidNow (Some ends)
      behind added = record {
        each = λ all. added.each cut all (is_demand cut place ends.last stay are.ends.last its false step);
        kept = added.kept;
        now = record {
          enough = λ period entries keep i k hi hk p.
              let old = are.enough period entries (added.kept period entries keep) in
              elim (is_more.either i hi) [
                | inl a ↦ elim (is_more.either k hk) [
                  | inl b ↦ old i k a b p
                  | inr e ↦
                      let by = by_last cut sound place some ends are.ends entries old i a (users cut i k place p).0 in
                      let off = clear cut place ends.last stay are.ends.last its period entries (added.more period entries keep) in
                      rw (e ∙ sym train) (omega (arith, ints, by, off))
                ]
                | inr e ↦
                    absurd (none_after_it k hk (subst (λ m. IsTrue (precedes (member cut m) (member cut k) place)) (e ∙ sym train) p))
              ];
          ends = record {
            first = are.ends.first;
            last = its;
            first_among = is_more.old ends.first.train are.ends.first_among;
            last_among = among;
            none_before = λ i h p. elim (is_more.either i h) [
              | inl a ↦ are.ends.none_before i a p
              | inr e ↦ next.none_after ends.first.train place are.ends.first_among
                  (subst (λ m. IsTrue (precedes (member cut m) (member cut ends.first.train) place)) e p)
            ];
            none_after = none_after_it;
          };
        };
      }

    laid_now : (o : Option Ends) → AreEnoughFor cut place some before o → IsLedTo o stay place before after → IsLaidNow o
    laid_now None are led = alone are led
    laid_now (Some ends) are led = behind ends are led

-- ---- its uses one after the other

module _ (cut : Cut) (sound : IsSoundCut cut) (some more : List ℕ) (j : ℕ) (is_more : IsMore some more j)
    (next : ComesNext cut some j) where
  abbrev uses : List Use
  uses = (member cut j).uses

  abbrev use_of : ℕ → Use
  use_of n = get_or uses n no_use

  abbrev stay : ℕ → Stay
  stay n = stay_by j (member cut j).entry (use_of n)

  -- what it uses is a use of that place
  is_stay : (n : ℕ) → n < length uses → IsSpan (stay n).from → IsSpan (stay n).until → IsStayOf cut (use_of n).block (stay n)
  is_stay n l from until =
      let place = (use_of n).block in
      let found = found_at place uses n (differ cut sound j next.there) l refl in
      let at : use_at (member cut j) place ≡ use_of n = ap (λ o. unwrap_or o no_use) found in record {
        there = next.there;
        used = list_any_at (λ (u : Use). u.block == place) uses n no_use l (eq-eqb place place refl);
        is = ap (stay_by j (member cut j).entry) (sym at);
        from = from;
        until = until;
      }

  module _ (n : ℕ) (l : n < length uses) (before after : List Demand) (ends now : List (Option Ends)) where
    abbrev place : ℕ
    place = (use_of n).block

    abbrev uses_it : List Use → ℕ → Bool
    uses_it us p = list_any (λ (u : Use). u.block == p) us

    -- the first uses, and this one
    with_it : (p : ℕ) → uses_it (take (n + 1) uses) p ≡ (uses_it (take n uses) p || uses_it (use_of n ∷ []) p)
    with_it p =
        ap (λ us. uses_it us p) (take_more uses n no_use l)
        ∙ list_any-append (λ (u : Use). u.block == p) (take n uses) (use_of n ∷ [])

    here : uses_it (take (n + 1) uses) place ≡ true
    here =
        with_it place
        ∙ or_right (uses_it (take n uses) place) (uses_it (use_of n ∷ []) place)
        (or_left (place == place) false (eq-eqb place place refl))

    elsewhere : (p : ℕ) → p ≢ place → uses_it (take (n + 1) uses) p ≡ uses_it (take n uses) p
    elsewhere p ne =
        let other : uses_it (use_of n ∷ []) p ≡ false = or_from (place == p) false (ne_eqb place p (λ e. ne (sym e))) refl in
        with_it p ∙ ap (λ b. uses_it (take n uses) p || b) other ∙ or_none (uses_it (take n uses) p)
      where
        or_none : (b : Bool) → (b || false) ≡ b
        or_none true = refl
        or_none false = refl

    module _ (laid : AreLaidOn cut (with_uses some more (take n uses)) before ends)
        (led : IsLedTo (ends_at ends place) (stay n) place before after)
        (is : now ≡ set ends place (Some (with_stay (ends_at ends place) (stay n)))) (from : IsSpan (stay n).from)
        (until : IsSpan (stay n).until) where
      there : place < place_count cut
      there = ((sound.each j no_member next.there).each n no_use l).place

      led_now : IsLaidNow cut sound some more j is_more next place (stay n) (is_stay n l from until) refl before after (ends_at ends place)
      led_now = laid_now cut sound some more j is_more next place (stay n) (is_stay n l from until) refl before after (ends_at ends place)
          (subst (λ b. AreEnoughFor cut place (if b then more else some) before (ends_at ends place))
          (apart uses n (differ cut sound j next.there) l) (laid.places place there)) led

      pub use_laid : AreLaidOn cut (with_uses some more (take (n + 1) uses)) after now
      use_laid = record {
        each = led_now.each laid.each;
        count = ap length is ∙ length-set ends place _ ∙ laid.count;
        places = λ p lp. elim (cases_eq p place) [
          | inl e ↦
              let at : ends_at now place ≡ Some (with_stay (ends_at ends place) (stay n)) =
              ap (λ es. ends_at es place) is ∙ get_or-set_same ends place _ None (omega (arith, there, laid.count)) in
              rw (e, at, here) led_now.now
          | inr ne ↦
              let at : ends_at now p ≡ ends_at ends p =
              ap (λ es. ends_at es p) is ∙ get_or-set_other ends place p _ None ne in
              rw (at, elsewhere p ne) (record {
                enough = λ period entries keep. (laid.places p lp).enough period entries (led_now.kept period entries keep);
                ends = (laid.places p lp).ends;
              })
        ];
      }

  -- all of them
  pub train_laid : (demands : List Demand) (ends : List (Option Ends)) → AreLaidOn cut (with_uses some more uses) demands ends
      → AreLaid cut more demands ends
  train_laid demands ends laid = record {
    each = laid.each;
    count = laid.count;
    places = λ place l.
        let are = laid.places place l in
        elim (cases_Bool (uses_place (member cut j) place)) [
          | inl used ↦ subst (λ b. AreEnoughFor cut place (if b then more else some) demands (ends_at ends place)) used are
          | inr free ↦
              unused cut sound some more j is_more next place free demands (ends_at ends place)
              (subst (λ b. AreEnoughFor cut place (if b then more else some) demands (ends_at ends place)) free are)
        ];
  }

-- ---- the next pattern

pub have_spans : (cut : Cut) (place : ℕ) (some : List ℕ) (o : Option Ends) → AreEndsIfAny cut place some o → IfSome o HaveSpans
have_spans cut p some None seen = tt
have_spans cut p some (Some ends) seen = record { first = seen.first.from; last = seen.last.until }

module _ (cut : Cut) (some : List ℕ) (ends : List (Option Ends)) (n : ℕ) (block : n < block_count cut) (there : n < place_count cut)
    (before after : List Demand) where
  record IsOn (o : Option Ends) : Type 0 where
    each : All (IsDemand cut) before → All (IsDemand cut) after
    kept : IsKept before after
    again : IfSome o (λ e. Cover after (demand_to e.last e.first n true))

  led_on : (o : Option Ends) → AreEndsIfAny cut n some o → IsLedOn o n before after → IsOn o
  led_on None seen led = record {
    each = λ all. rw led all;
    kept = λ period entries keep. subst (All (Keeps period entries)) led keep;
    again = tt;
  }
  led_on (Some e) seen led = record {
    each = λ all. led.each cut all (is_demand cut n e.last e.first seen.last seen.first true (record {
      one_there = seen.last.there;
      other_there = seen.first.there;
      same = λ e. absurd (cc);
      next = λ e. record { block_there = block; one = seen.last.used; other = seen.first.used };
    }));
    kept = led.kept;
    again = led.more;
  }

  again_kept : IsKept before after → (m : ℕ) (o : Option Ends) → IfSome o (λ e. Cover before (demand_to e.last e.first m true))
      → IfSome o (λ e. Cover after (demand_to e.last e.first m true))
  again_kept kept m None h = tt
  again_kept kept m (Some e) h = λ period entries keep. h period entries (kept period entries keep)

  pub again_more : AreLaidAgain cut some before ends n → IsLedOn (ends_at ends n) n before after
      → AreLaidAgain cut some after ends (n + 1)
  again_more laid led =
      let on = led_on (ends_at ends n) (laid.laid.places n there).ends led in record {
        laid = record {
          each = on.each laid.laid.each;
          count = laid.laid.count;
          places = λ p l. record {
            enough = λ period entries keep. (laid.laid.places p l).enough period entries (on.kept period entries keep);
            ends = (laid.laid.places p l).ends;
          };
        };
        again = λ m l. elim (cases_eq m n) [
          | inl e ↦ rw e on.again
          | inr ne ↦ again_kept on.kept m (ends_at ends m) (laid.again m (omega (arith, l, ne)))
        ];
      }

-- ---- all places

module _ (cut : Cut) (sound : IsSoundCut cut) (order : List ℕ) (is : IsOrder cut order) (demands : List Demand) (place : ℕ) where
  again_kept_on : (o : Option Ends) → AreEndsIfAny cut place order o → IfSome o (λ e. Cover demands (demand_to e.last e.first place true))
      → (period : ℕ) (entries : List ℤ) → All (Keeps period entries) demands → KeepOrder cut place order entries
      → (i j : ℕ) → i < member_count cut → j < member_count cut → IsTrue (uses_place (member cut i) place)
      → IsTrue (uses_place (member cut j) place) → end_by cut entries i place ≤ℤ (start_by cut entries j place +ℤ pos period)
  again_kept_on None seen again period entries keep kept i j li lj ui uj =
      absurd (both_ways _ (seen i (is_there cut order is i li)) ui)
  again_kept_on (Some e) seen again period entries keep kept i j li lj ui uj =
      let a = by_last cut sound place order e seen entries kept i (is_there cut order is i li) ui in
      let b = clear_again cut place e.last e.first seen.last seen.first period entries (again period entries keep) in
      let c = from_first cut sound place order e seen entries kept j (is_there cut order is j lj) uj in
      omega (arith, ints, a, b, c)

pub all_laid : (cut : Cut) → IsSoundCut cut → (order : List ℕ) → IsOrder cut order → (demands : List Demand)
    (ends : List (Option Ends)) (n : ℕ) → block_count cut ≤ n → AreLaidAgain cut order demands ends n → AreEnough cut demands
all_laid cut sound order is demands ends n all laid = record {
  each = laid.laid.each;
  enough = λ period entries keep place l.
      let are = laid.laid.places place l in
      let kept = are.enough period entries keep in record {
        order = λ i j li lj p. kept i j (is_there cut order is i li) (is_there cut order is j lj) p;
        again = λ block. again_kept_on cut sound order is demands place (ends_at ends place) are.ends
            (laid.again place (omega (arith, block, all))) period entries keep kept;
      };
}
