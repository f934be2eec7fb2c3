-- A cut has at most one least schedule and one answer.
use Rattle.std.proofs.Common.{◌≡◌, ◌<◌, List, length, map, sym, ap, ◌∙◌, arith}
use Rattle.std.specs.Prelude.{ℤ, pos, Option, Some, None}
use Rattle.std.proofs.lemmas.List.{ext_get_or}
use Rattle.std.proofs.lemmas.List.FromFn.{length-map-range_with_len, get_or-map-range_with_len}
use Rattle.std.proofs.lemmas.Simd.{map-map}
use Rattle.plan_model.specs.declared.cut.Cut.{Cut}
use Rattle.plan_model.specs.declared.answer.Placed.{Placed}
use Rattle.plan_model.specs.declared.answer.Plan.{Plan}
use Rattle.plan_model.specs.declared.answer.Answer.{Answer}
use Rattle.plan_model.specs.declared.answer.Answer.TheVariants as answer
use Rattle.plan_model.specs.Members.{member_count, members}
use Rattle.plan_model.specs.Disorder.{Opposite}
use Rattle.plan_model.specs.Schedule.{entry_at, window_floor}
use Rattle.plan_model.specs.Answer.{placed_at, plan_of, entries_of, IsCompressed}
use Rattle.plan_model.specs.Laws.{LeastIsUnique, AnswerIsUnique}
use Rattle.rail_model.proofs.Numbers.{le_both_ways}

pub least_is_unique : LeastIsUnique
least_is_unique cut floor entries other p q =
    ext_get_or (pos 0) entries other (p.schedule.count ∙ sym q.schedule.count)
    (λ i l.
    let here : i < member_count cut = omega (arith, l, p.schedule.count) in
    le_both_ways (entry_at entries i) (entry_at other i) (p.least other q.schedule i here)
    (q.least entries p.schedule i here))

-- a plan of some entries has these entries
pub entries_are : (cut : Cut) (entries : List ℤ) (plan : Plan) → length entries ≡ member_count cut
    → plan ≡ plan_of cut entries → entries_of plan ≡ entries
entries_are cut entries plan count same =
    let n = member_count cut in
    let long = length-map-range_with_len (entry_at entries) 0 n in
    ap entries_of same
    ∙ map-map (λ (p : Placed). p.entry) (placed_at cut entries) (members cut)
    ∙ ext_get_or (pos 0) (map (entry_at entries) (members cut)) entries (long ∙ sym count)
    (λ i l. get_or-map-range_with_len (entry_at entries) 0 n i i (pos 0) (omega (arith, l, long)) (omega arith))

plan_is_unique : (cut : Cut) (plan other : Plan) → IsCompressed cut plan → IsCompressed cut other → plan ≡ other
plan_is_unique cut plan other p q =
    p.2 ∙ ap (plan_of cut) (least_is_unique cut (window_floor cut) p.0 q.0 p.1 q.1) ∙ sym q.2

-- the answer that speaks of opposite trains
abbrev told : Option Opposite → Answer → Answer
told None other = other
told (Some o) other = answer.Opposite o.first o.second o.block1 o.block2

pub answer_is_unique : AnswerIsUnique
answer_is_unique cut (answer.Ordered plan) (answer.Ordered other) p q =
    ap answer.Ordered (plan_is_unique cut plan other p.3 q.3)
answer_is_unique cut (answer.Ordered plan) (answer.Opposite a b c d) p q = absurd (let e = sym p.1 ∙ q.1 in cc)
answer_is_unique cut (answer.Ordered plan) (answer.Ring links) p q = absurd (q.2 p.2)
answer_is_unique cut (answer.Ordered plan) (answer.Crowded n) p q = absurd (omega (arith, p.0, q.0))
answer_is_unique cut (answer.Opposite a b c d) (answer.Ordered plan) p q = absurd (let e = sym p.1 ∙ q.1 in cc)
answer_is_unique cut (answer.Opposite a b c d) (answer.Opposite a' b' c' d') p q =
    ap (λ o. told o (answer.Crowded 0)) (sym p.1 ∙ q.1)
answer_is_unique cut (answer.Opposite a b c d) (answer.Ring links) p q = absurd (let e = sym p.1 ∙ q.1 in cc)
answer_is_unique cut (answer.Opposite a b c d) (answer.Crowded n) p q = absurd (omega (arith, p.0, q.0))
answer_is_unique cut (answer.Ring links) (answer.Ordered plan) p q = absurd (p.2 q.2)
answer_is_unique cut (answer.Ring links) (answer.Opposite a b c d) p q = absurd (let e = sym p.1 ∙ q.1 in cc)
answer_is_unique cut (answer.Ring links) (answer.Ring others) p q = ap answer.Ring (p.3 ∙ sym q.3)
answer_is_unique cut (answer.Ring links) (answer.Crowded n) p q = absurd (omega (arith, p.0, q.0))
answer_is_unique cut (answer.Crowded m) (answer.Ordered plan) p q = absurd (omega (arith, p.0, q.0))
answer_is_unique cut (answer.Crowded m) (answer.Opposite a b c d) p q = absurd (omega (arith, p.0, q.0))
answer_is_unique cut (answer.Crowded m) (answer.Ring links) p q = absurd (omega (arith, p.0, q.0))
answer_is_unique cut (answer.Crowded m) (answer.Crowded n) p q = ap answer.Crowded (p.1 ∙ sym q.1)
