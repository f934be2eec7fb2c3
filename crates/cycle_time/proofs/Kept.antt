-- Entries that repeat keep all places, and the other way round.
use Rattle.std.proofs.Common.{◌≡◌, ℕ, ◌+◌, ◌-◌, ◌<◌, false, List, length, inl, inr, get_or, sym, subst, arith, length-append}
use Rattle.std.specs.Prelude.{ℤ, pos, ◌≤ℤ◌}
use Rattle.std.proofs.lemmas.Bool.{and_parts, cases_eq}
use Rattle.std.proofs.lemmas.List.Elements.{All-get_or, All-from_get_or}
use Rattle.plan_model.specs.declared.cut.Cut.{Cut}
use Rattle.plan_model.specs.Members.{member, use_at}
use Rattle.plan_model.specs.Cut.{IsSoundCut}
use Rattle.plan_model.specs.Schedule.{entry_at, window_start}
use Rattle.plan_model.proofs.Uses.{place_there}
use Rattle.train_order.specs.declared.visits.Visit.{Visit}
use Rattle.train_order.specs.Visits.{no_visit}
use Rattle.cycle_time.specs.Cycle.{IsRepeating}
use Rattle.cycle_time.specs.Demands.{demand_on, Keeps, KeepsPlace}
use Rattle.cycle_time.specs.declared.demand.Demand.{Demand}
use Rattle.cycle_time.specs.Laying.{IsVisitOf, train_at, AreTurns, KeepsTurn, KeepTurns, KeepsAgain}
use Rattle.cycle_time.specs.Checking.{KeepAll}
use Rattle.cycle_time.proofs.Weights.{by_weight, by_weight_again}

-- ---- all places

module _ (cut : Cut) (period : ℕ) (entries : List ℤ) where
  pub repeat : IsSoundCut cut → KeepAll cut period entries → IsRepeating cut period entries
  repeat sound all = record {
    schedule = record {
      count = all.count;
      from = λ i l. All-get_or (λ x. window_start cut ≤ℤ x) entries i (pos 0) (omega (arith, l, all.count)) all.from;
      order = λ i j place li lj h.
          (all.places place (place_there cut sound i place li ((and_parts _ _ ((and_parts _ _ h).0)).0))).order i j li lj h;
    };
    again = λ i j block li lj lb ui uj.
        (all.places block (omega (arith, lb, length-append cut.section.blocks cut.connections))).again lb i j li lj ui uj;
  }

  pub keep_all : IsRepeating cut period entries → KeepAll cut period entries
  keep_all repeats = record {
    count = repeats.schedule.count;
    from = All-from_get_or (λ x. window_start cut ≤ℤ x) entries (pos 0) (λ k l.
        repeats.schedule.from k (omega (arith, l, repeats.schedule.count)));
    places = λ place l. record {
      order = λ i j li lj h. repeats.schedule.order i j place li lj h;
      again = λ block i j li lj ui uj. repeats.again i j place li lj block ui uj;
    };
  }

-- ---- one place

module _ (cut : Cut) (period : ℕ) (entries : List ℤ) (place : ℕ) (some : List Visit) (turns : AreTurns cut place some)
    (keeps : KeepsPlace cut period entries place) where
  visit : (k : ℕ) → k < length some → IsVisitOf cut place (get_or some k no_visit)
  visit k l = All-get_or (IsVisitOf cut place) some k no_visit l turns.each

  -- a place that is kept is kept from each visit to the next one
  pub turns_kept : KeepTurns cut place some (length some) period entries
  turns_kept k l =
      let i = train_at some k in
      let j = train_at some (k + 1) in
      by_weight (use_at (member cut i) place).«end» (use_at (member cut j) place).start (member cut i).entry (member cut j).entry
      (entry_at entries i) (entry_at entries j)
      (keeps.order i j (visit k (omega (arith, l))).there (visit (k + 1) l).there (turns.goes k l))

  -- and from the last one to the first one of the next pattern
  pub again_kept : KeepsAgain cut place some period entries
  again_kept block l =
      let i = train_at some (length some - 1) in
      let j = train_at some 0 in
      let v = visit (length some - 1) (omega (arith, l)) in
      let w = visit 0 l in
      by_weight_again (use_at (member cut i) place).«end» (use_at (member cut j) place).start (member cut i).entry (member cut j).entry
      (entry_at entries i) (entry_at entries j) (pos period)
      (keeps.again block i j v.there w.there v.used w.used)

-- ---- the demands from each visit to the next one

module _ (cut : Cut) (period : ℕ) (entries : List ℤ) (place : ℕ) (some : List Visit) (k : ℕ) (first : 0 < k) (e : Demand)
    (is : e ≡ demand_on cut (train_at some (k - 1)) (train_at some k) place false) where
  before : k - 1 + 1 ≡ k
  before = omega (arith, first)

  abbrev on : ℕ → Type 0
  on m = Keeps period entries (demand_on cut (train_at some (k - 1)) (train_at some m) place false)

  pub turn_more : KeepTurns cut place some k period entries → Keeps period entries e → KeepTurns cut place some (k + 1) period entries
  turn_more so_far keep m l =
      elim (cases_eq (m + 1) k) [
        | inr ne ↦ so_far m (omega (arith, l, ne))
        | inl s ↦
            let mk : k - 1 ≡ m = omega (arith, s) in
            subst (KeepsTurn cut place some period entries) mk (subst on (sym before) (subst (Keeps period entries) is keep))
      ]

  pub turn_back : k < length some → KeepTurns cut place some (length some) period entries → Keeps period entries e
  turn_back l turns =
      subst (Keeps period entries) (sym is) (subst on before (turns (k - 1) (omega (arith, before, l))))
