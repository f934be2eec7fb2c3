-- A ring alone refuses each lesser period.
use Rattle.std.proofs.Common.{◌≡◌, ℕ, zero, suc, ◌+◌, ◌*◌, ◌≤◌, List, [], ◌∷◌, inl, inr, refl, ap, subst, ◌∙◌, arith}
use Rattle.std.specs.Prelude.{ℤ, pos, ◌+ℤ◌, ◌-ℤ◌, ◌*ℤ◌, ◌≤ℤ◌, if◌then◌else◌, cond}
use Rattle.std.proofs.lemmas.Bool.{cases_Bool, cases_lt}
use Rattle.std.proofs.lemmas.Int.{ints}
use Rattle.std.proofs.lemmas.List.Sums.{sum_by-cons}
use Rattle.plan_model.specs.declared.cut.Cut.{Cut}
use Rattle.plan_model.specs.Members.{member, use_at}
use Rattle.plan_model.specs.Schedule.{entry_at}
use Rattle.cycle_time.specs.declared.found.Step.{Step}
use Rattle.cycle_time.specs.Cycle.{IsRepeating, IsStep, weight, total, patterns, Leads, first_train}
use Rattle.cycle_time.specs.Laws.{NoLesserPeriod, ShorterIsRefused}
use Rattle.cycle_time.proofs.Weights.{by_weight, by_weight_again}

-- how much a step asks for in a period
abbrev pub step_asks : Cut → ℕ → Step → ℤ
step_asks cut period s = if s.next then weight cut s -ℤ pos period else weight cut s

pub nat_times : (m n : ℕ) → pos m *ℤ pos n ≡ pos (m * n)
nat_times m n = refl

pub times : (m p t : ℕ) → m ≡ 1 + p → pos m *ℤ pos t ≡ pos t +ℤ (pos p *ℤ pos t)
times m p t e =
    let s : m ≡ suc p = omega (arith, e) in
    let h : m * t ≡ t + p * t = ap (λ k. k * t) s ∙ (let d : suc p * t ≡ t + p * t = omega arith in d) in
    omega (arith, ints, h, nat_times m t, nat_times p t)

pub mono : (m a b : ℕ) → a ≤ b → m * a ≤ m * b
mono zero a b l = omega arith
mono (suc m) a b l = omega (arith, l, mono m a b l)

module _ (cut : Cut) (period : ℕ) (entries : List ℤ) (repeats : IsRepeating cut period entries) where
  -- entries that repeat keep each step
  pub keeps_step : (s : Step) → IsStep cut s → (entry_at entries s.from +ℤ step_asks cut period s) ≤ℤ entry_at entries s.to
  keeps_step s step =
      let i = member cut s.from in
      let j = member cut s.to in
      elim (cases_Bool s.next) [
        | inl e ↦
            let users = step.next e in
            rw e (by_weight_again (use_at i s.block).«end» (use_at j s.block).start i.entry j.entry (entry_at entries s.from)
            (entry_at entries s.to) (pos period)
            (repeats.again s.from s.to s.block step.one_there step.other_there users.block_there users.one users.other))
        | inr e ↦
            rw e (by_weight (use_at i s.block).«end» (use_at j s.block).start i.entry j.entry (entry_at entries s.from)
            (entry_at entries s.to)
            (repeats.schedule.order s.from s.to s.block step.one_there step.other_there (step.same e)))
      ]

  -- along steps
  keeps_steps : (i : ℕ) (steps : List Step) (j : ℕ) → Leads cut i steps j
      → (entry_at entries i +ℤ total cut steps) ≤ℤ (entry_at entries j +ℤ (pos (patterns steps) *ℤ pos period))
  keeps_steps i [] j leads = rw leads (omega (arith, ints))
  keeps_steps i (s ∷ steps) j leads =
      let first = keeps_step s leads.0 in
      let rest = keeps_steps s.to steps j leads.2 in
      let counted : patterns (s ∷ steps) ≡ cond s.next 1 0 + patterns steps =
      sum_by-cons (λ (t : Step). cond t.next 1 0) s steps in
      elim (cases_Bool s.next) [
        | inl e ↦
            let one : patterns (s ∷ steps) ≡ 1 + patterns steps = counted ∙ ap (λ b. cond b 1 0 + patterns steps) e in
            let here = subst (λ b. (entry_at entries s.from +ℤ (if b then weight cut s -ℤ pos period else weight cut s)) ≤ℤ entry_at entries s.to) e first in
            let goes = times (patterns (s ∷ steps)) (patterns steps) period one in
            subst (λ k. (entry_at entries k +ℤ total cut (s ∷ steps)) ≤ℤ (entry_at entries j +ℤ (pos (patterns (s ∷ steps)) *ℤ pos period))) leads.1
            (omega (arith, ints, here, rest, goes))
        | inr e ↦
            let none : patterns (s ∷ steps) ≡ patterns steps = omega (arith, counted ∙ ap (λ b. cond b 1 0 + patterns steps) e) in
            let here = subst (λ b. (entry_at entries s.from +ℤ (if b then weight cut s -ℤ pos period else weight cut s)) ≤ℤ entry_at entries s.to) e first in
            let same : pos (patterns (s ∷ steps)) *ℤ pos period ≡ pos (patterns steps) *ℤ pos period = ap (λ m. pos m *ℤ pos period) none in
            subst (λ k. (entry_at entries k +ℤ total cut (s ∷ steps)) ≤ℤ (entry_at entries j +ℤ (pos (patterns (s ∷ steps)) *ℤ pos period))) leads.1
            (omega (arith, ints, here, rest, same))
      ]

-- what is less takes less
less : (m : ℕ) (a b : ℤ) → a ≤ℤ b → (pos m *ℤ a) ≤ℤ (pos m *ℤ b)
less zero a b l = omega (arith, ints)
less (suc m) a b l = omega (arith, ints, l, less m a b l)

pub no_lesser_period : NoLesserPeriod
no_lesser_period cut period other ring entries refuses repeats =
    elim (cases_lt other period) [
      | inr le ↦ omega (arith, le)
      | inl l ↦
          let round = keeps_steps cut other entries repeats (first_train ring) ring (first_train ring) refuses.is_ring.leads in
          absurd (omega (arith, ints, round, refuses.more, less (patterns ring) (pos other) (pos period -ℤ pos 1) (omega (arith, ints, l))))
    ]

pub shorter_is_refused : ShorterIsRefused
shorter_is_refused cut period shorter ring l refuses = record {
  is_ring = refuses.is_ring;
  some = refuses.some;
  more = omega (arith, ints, refuses.more, less (patterns ring) (pos shorter -ℤ pos 1) (pos period -ℤ pos 1) (omega (arith, ints, l)));
}
