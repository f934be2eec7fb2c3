-- The parts that are looked at are those of a plan that is what its entries make of a cut.
use Rattle.std.proofs.Common.{◌≡◌, ℕ, ◌<◌, ◌≤◌, List, [], length, map, get_or, refl, sym, ap, subst, ◌∙◌, arith}
use Rattle.std.specs.Prelude.{ℤ, pos, ◌≤ℤ◌, All, Option}
use Rattle.std.proofs.lemmas.Bool.{and_from}
use Rattle.std.proofs.lemmas.Bool.Decides.{Decides-int_eq}
use Rattle.std.proofs.lemmas.Int.{ints}
use Rattle.std.proofs.lemmas.List.{length-map, get_or-map}
use Rattle.std.proofs.lemmas.List.FromFn.{length-map-range_with_len, get_or-map-range_with_len, fill_by_all}
use Rattle.plan_model.specs.declared.limits.TheConstants.{MEMBERS}
use Rattle.plan_model.specs.declared.cut.Cut.{Cut}
use Rattle.plan_model.specs.declared.answer.Tie.{Tie}
use Rattle.plan_model.specs.declared.answer.Tie.TheVariants.{Start, After}
use Rattle.plan_model.specs.declared.answer.Placed.{Placed}
use Rattle.plan_model.specs.declared.answer.Plan.{Plan}
use Rattle.plan_model.specs.Members.{member_count, members}
use Rattle.plan_model.specs.Cut.{IsSoundCut, IsBounded}
use Rattle.plan_model.specs.Disorder.{remaining}
use Rattle.plan_model.specs.Schedule.{window_start, entry_at, start_by, end_by, tie_of}
use Rattle.plan_model.specs.Answer.{placed_at, plan_of}
use Rattle.plan_model.proofs.Uses.{place_there}
use Rattle.critical_chain.specs.Chain.{no_train, train_at}
use Rattle.critical_chain.specs.Checked.{entries_of, IsChecked}
use Rattle.critical_chain.specs.Parts.{HasFrame, HasTrains, HasTie, tie_in, KeepsAll}
use Rattle.critical_chain.proofs.Checked.{tied_by}
use Rattle.critical_chain.proofs.EntryBounds.{bounded}
use Rattle.critical_chain.proofs.Tied.{touching, tie_by, has_tie, first_touch}
use Rattle.train_order.proofs.Users.{users}

-- ---- equal parts

abbrev train : List ℕ → ℤ → ℤ → Tie → Placed
train t n e i = record { train = t; planned = n; entry = e; tie = i }

same_train : (p q : Placed) → p.train ≡ q.train → p.planned ≡ q.planned → p.entry ≡ q.entry → p.tie ≡ q.tie → p ≡ q
same_train p q a b c d =
    ap (λ t. train t p.planned p.entry p.tie) a
    ∙ ap (λ n. train q.train n p.entry p.tie) b
    ∙ ap (λ e. train q.train q.planned e p.tie) c
    ∙ ap (λ i. train q.train q.planned q.entry i) d

abbrev made : ℕ → ℕ → ℕ → List (List ℕ) → List Placed → ℕ → Option ℕ → Option ℕ → Plan
made f t a b p o m c = record {
  from_s = f;
  to_s = t;
  add_percent = a;
  blocks = b;
  placed = p;
  occupancy = o;
  busiest = m;
  critical = c;
}

same_plan : (p q : Plan) → p.from_s ≡ q.from_s → p.to_s ≡ q.to_s → p.add_percent ≡ q.add_percent → p.blocks ≡ q.blocks
    → p.placed ≡ q.placed → p.occupancy ≡ q.occupancy → p.busiest ≡ q.busiest → p.critical ≡ q.critical → p ≡ q
same_plan p q a b c d e f g h =
    ap (λ x. made x p.to_s p.add_percent p.blocks p.placed p.occupancy p.busiest p.critical) a
    ∙ ap (λ x. made q.from_s x p.add_percent p.blocks p.placed p.occupancy p.busiest p.critical) b
    ∙ ap (λ x. made q.from_s q.to_s x p.blocks p.placed p.occupancy p.busiest p.critical) c
    ∙ ap (λ x. made q.from_s q.to_s q.add_percent x p.placed p.occupancy p.busiest p.critical) d
    ∙ ap (λ x. made q.from_s q.to_s q.add_percent q.blocks x p.occupancy p.busiest p.critical) e
    ∙ ap (λ x. made q.from_s q.to_s q.add_percent q.blocks q.placed x p.busiest p.critical) f
    ∙ ap (λ x. made q.from_s q.to_s q.add_percent q.blocks q.placed q.occupancy x p.critical) g
    ∙ ap (λ x. made q.from_s q.to_s q.add_percent q.blocks q.placed q.occupancy q.busiest x) h

-- ---- entries

entry_is : (placed : List Placed) (i : ℕ) → i < length placed
    → entry_at (map (λ p. p.entry) placed) i ≡ (get_or placed i no_train).entry
entry_is placed i l = get_or-map (λ (p : Placed). p.entry) placed i no_train (pos 0) l

bounded_train : (t : ℕ) (x : ℤ) → pos t ≤ℤ x → x ≤ℤ pos 1125899906842624 → IsBounded x
bounded_train t x h k = record { after = omega (arith, ints, h); before = omega (arith, ints, k) }

pub all_bounded : (cut : Cut) (placed : List Placed) → HasTrains cut placed → All IsBounded (map (λ p. p.entry) placed)
all_bounded cut placed trains k d l =
    let lk : k < length placed = omega (arith, l, length-map placed (λ (p : Placed). p.entry)) in
    let its = trains.each k (omega (arith, lk, trains.count)) in
    subst IsBounded (sym (get_or-map (λ (p : Placed). p.entry) placed k no_train d lk))
    (bounded_train cut.section.from_s (get_or placed k no_train).entry its.after its.before)

module _ (cut : Cut) (plan : Plan) (sound : IsSoundCut cut) where
  abbrev entries : List ℤ
  entries = entries_of plan

  -- ---- of the parts

  module _ (frame : HasFrame cut plan) (trains : HasTrains cut plan.placed) (all : KeepsAll cut entries plan) where
    its_entry : (i : ℕ) → i < member_count cut → entry_at entries i ≡ (train_at plan i).entry
    its_entry i l = entry_is plan.placed i (omega (arith, l, trains.count))

    its_tie : (j : ℕ) → j < member_count cut → tie_in plan.placed j ≡ tie_of cut entries j
    its_tie j l =
        tie_by cut entries sound j l (tie_in plan.placed j) (all.ties j l)
        (λ i p t.
        let its = touching cut entries sound i j p t in
        (all.keep p its.place_is i j its.member_there l its.before).first its.ends)

    placed_is : plan.placed ≡ map (placed_at cut entries) (members cut)
    placed_is =
        fill_by_all (placed_at cut entries) plan.placed (member_count cut) no_train trains.count
        (λ k l.
        let its = trains.each k l in
        same_train (train_at plan k) (placed_at cut entries k) its.train its.planned (sym (its_entry k l)) (its_tie k l))

    starts_by : (j : ℕ) (tie : Tie) → tie ≡ tie_of cut entries j → HasTie cut entries j tie → tie_of cut entries j ≡ Start
        → entry_at entries j ≡ window_start cut
    starts_by j Start e h is = h
    starts_by j (After i p) e h is = absurd (let same : After i p ≡ Start = e ∙ is in cc)

    pub checked : IsChecked cut plan
    checked = record {
      plan_of =
          same_plan plan (plan_of cut entries) frame.from frame.to frame.rate frame.places placed_is all.occupied.time
          all.occupied.busiest all.occupied.critical;
      schedule = record {
        count = length-map plan.placed (λ (p : Placed). p.entry) ∙ trains.count;
        from = λ i l. subst (λ x. window_start cut ≤ℤ x) (sym (its_entry i l)) (trains.each i l).after;
        order = λ i j p li lj h.
            (all.keep p (place_there cut sound i p li (users cut i j p h).0) i j li lj h).clear;
      };
      starts = λ j l. starts_by j (tie_in plan.placed j) (its_tie j l) (all.ties j l);
    }

  -- ---- the parts

  module _ (none : remaining cut ≡ []) (few : member_count cut ≤ MEMBERS) (checked : IsChecked cut plan) where
    abbrev same : plan ≡ plan_of cut entries
    same = checked.plan_of

    pub frame : HasFrame cut plan
    frame = record {
      from = ap (λ (p : Plan). p.from_s) same;
      to = ap (λ (p : Plan). p.to_s) same;
      rate = ap (λ (p : Plan). p.add_percent) same;
      places = ap (λ (p : Plan). p.blocks) same;
    }

    count : length plan.placed ≡ member_count cut
    count = ap (λ (p : Plan). length p.placed) same ∙ length-map-range_with_len (placed_at cut entries) 0 (member_count cut)

    at : (i : ℕ) → i < member_count cut → train_at plan i ≡ placed_at cut entries i
    at i l =
        ap (λ (p : Plan). train_at p i) same
        ∙ get_or-map-range_with_len (placed_at cut entries) 0 (member_count cut) i i no_train l (omega arith)

    entry_there : (i : ℕ) → i < member_count cut → (train_at plan i).entry ≡ entry_at entries i
    entry_there i l = ap (λ (p : Placed). p.entry) (at i l)

    pub trains : HasTrains cut plan.placed
    trains = record {
      count = count;
      each = λ i l. record {
        train = ap (λ (p : Placed). p.train) (at i l);
        planned = ap (λ (p : Placed). p.planned) (at i l);
        after = subst (λ x. window_start cut ≤ℤ x) (sym (entry_there i l)) (checked.schedule.from i l);
        before =
            subst (λ x. x ≤ℤ pos 1125899906842624) (sym (entry_there i l))
            (bounded cut entries sound
            (λ j lj. tied_by cut entries j (tie_of cut entries j) refl (checked.starts j lj)) none few i l);
      };
    }

    tie_there : (j : ℕ) → j < member_count cut → tie_of cut entries j ≡ tie_in plan.placed j
    tie_there j l = sym (ap (λ (p : Placed). p.tie) (at j l))

    pub keeps_all : KeepsAll cut entries plan
    keeps_all = record {
      ties = λ j l. has_tie cut entries sound j l (tie_in plan.placed j) (tie_there j l) (checked.starts j l);
      keep = λ p lp i j li lj h. record {
        clear = checked.schedule.order i j p li lj h;
        first = λ e.
            first_touch cut entries sound j lj (tie_in plan.placed j) (tie_there j lj) i p
            (and_from _ _ h ((Decides-int_eq (end_by cut entries i p) (start_by cut entries j p)).1 e));
      };
      occupied = record {
        time = ap (λ (p : Plan). p.occupancy) same;
        busiest = ap (λ (p : Plan). p.busiest) same;
        critical = ap (λ (p : Plan). p.critical) same;
      };
    }
