use Rattle.std.proofs.Common.{◌≡◌, ℕ, ◌≤◌, List, length, map, IfOk, sym, ap, subst, ◌∙◌, arith}
use Rattle.std.specs.Prelude.{ℤ, ◌^◌, All, Result, Ok, Err}
use Rattle.plan_model.specs.declared.limits.TheConstants.{MEMBERS}
use Rattle.plan_model.specs.declared.cut.Cut.{Cut}
use Rattle.plan_model.specs.Members.{member, member_count, members}
use Rattle.plan_model.specs.Schedule.{entry_at, IsLeastFrom, tie_from}
use Rattle.plan_model.proofs.Sound.{usable}
use Rattle.train_order.proofs.Next.{is_there, count}
use Rattle.train_placing.specs.Placing.{IsFloor, ArePlaced}
use Rattle.train_placing.proofs.Moments.{entry_within}
use Rattle.delay_spread.specs.declared.found.Spread.{Spread}
use Rattle.delay_spread.specs.Spreading.{delayed_floor, delay_at, knock_on, IsSpread, spread_by}
use Rattle.delay_spread.proofs.Floors.{floors, long, same_floors, floor_near, all_floors}
use Rattle.delay_spread.proofs.Later.{small}
use Rattle.delay_spread.proofs.spreading.spread_in.Goals as goal

-- what is found by the least schedule is the spread
on_ok : {E : Type 0} (cut : Cut) (delays : List ℕ) (entries : List ℤ)
    → IsLeastFrom cut (delayed_floor cut delays) entries → (result : Result Spread E)
    → IfOk result (λ s. s ≡ spread_by cut delays entries) → IfOk result (IsSpread cut delays)
on_ok cut delays entries least (Ok s) same = (entries, least, same)
on_ok cut delays entries least (Err e) same = tt

-- the floors that are made are those of the members
floor_of : (cut : Cut) (delays : List ℕ) → length delays ≡ member_count cut → (made : List ℤ) (shown : Cut)
    → shown ≡ cut → made ≡ map (delayed_floor shown delays) (members shown) → entry_at made ≡ delayed_floor cut delays
floor_of cut delays many made shown same is =
    ap entry_at (is ∙ ap (λ (k : Cut). map (delayed_floor k delays) (members k)) same) ∙ same_floors cut delays many

pub place_all-requires : goal.place_all-requires
place_all-requires c =
    let cut = c.args.cut.now in
    let delays = c.args.delays.now in
    let is : c.in_ok-floors.floors.items ≡ floors cut delays c.requires.count =
    c.in_ok-floors.ensures ∙ ap (λ (k : Cut). map (delayed_floor k delays) (members k)) c.sound.ensures.cut in
    record {
      order = c.requires.order;
      count = ap length is ∙ long cut delays c.requires.count;
      floors =
          subst (All IsFloor) (sym is)
          (all_floors cut delays c.requires.count c.sound.ensures.sound c.requires.limit);
    }

pub spread_of_placed-requires : goal.spread_of_placed-requires
spread_of_placed-requires c =
    let cut = c.args.cut.now in
    let delays = c.args.delays.now in
    let order = c.args.order.now in
    let entries = c.in_ok-placing.placing.entries.items in
    let ties = c.in_ok-placing.placing.ties.items in
    let last = c.in_ok-placing.placing.last.items in
    let sound = c.sound.ensures.sound in
    let same = floor_of cut delays c.requires.count c.in_ok-floors.floors.items c.sound.result.now c.sound.ensures.cut
    c.in_ok-floors.ensures in
    let placed : ArePlaced cut (delayed_floor cut delays) order entries ties last =
    subst (λ f. ArePlaced cut f order entries ties last) same c.in_ok-placing.ensures.placed in
    record {
      delays = c.requires.count;
      entries = ap length c.deref.ensures.value ∙ placed.entries_count;
      ties =
          c.deref-2.ensures.value ∙ c.in_ok-placing.ensures.ties
          ∙ ap (λ f. map (tie_from cut f entries) (members cut)) same
          ∙ ap (λ es. map (tie_from cut (delayed_floor cut delays) es) (members cut)) (sym c.deref.ensures.value);
      small = λ i l.
          let among = is_there cut order c.requires.order i l in
          let few : length order ≤ MEMBERS =
          omega (arith, count cut order c.requires.order, c.sound.ensures.few) in
          subst (λ es. knock_on cut delays es i ≤ 2 ^ 51) (sym c.deref.ensures.value)
          (small (entry_at entries i) (member cut i).entry (delay_at delays i)
          (entry_within cut (delayed_floor cut delays) order entries ties last sound
          (floor_near cut delays c.requires.count sound c.requires.limit) placed few i among)
          (usable cut sound i l).entry (c.requires.limit i 0 (omega (arith, l, c.requires.count)))
          (placed.from i among));
    }

pub returns : goal.returns
returns c =
    let cut = c.args.cut.now in
    let delays = c.args.delays.now in
    let same = floor_of cut delays c.requires.count c.in_ok-floors.floors.items c.sound.result.now c.sound.ensures.cut
    c.in_ok-floors.ensures in
    let least : IsLeastFrom cut (delayed_floor cut delays) c.deref.result.now =
    subst (IsLeastFrom cut (delayed_floor cut delays)) (sym c.deref.ensures.value)
    (subst (λ f. IsLeastFrom cut f c.in_ok-placing.placing.entries.items) same
    (c.in_ok-placing.ensures.least c.requires.none)) in
    on_ok cut delays c.deref.result.now least c.spread_of_placed.result c.spread_of_placed.ensures
