use Rattle.std.proofs.Common.{◌≡◌, ℕ, ◌<◌, List, [], ◌∷◌, ◌++◌, length, map, rules, sym, ap, ◌∙◌, arith, to_z, of_z, w64}
use Rattle.std.specs.Prelude.{slice_index_or}
use Rattle.std.specs.List.{range_with_len}
use Rattle.std.proofs.lemmas.List.FromFn.{length-map-range_with_len, get_or-map-range_with_len, map-range_with_len_more}
use Rattle.plan_model.specs.declared.answer.Tie.{Tie}
use Rattle.plan_model.specs.declared.answer.Tie.TheVariants.{Start}
use Rattle.plan_model.specs.Members.{member, member_count}
use Rattle.plan_model.specs.Schedule.{entry_at, tie_from}
use Rattle.delay_spread.specs.declared.found.Held.{Held}
use Rattle.delay_spread.specs.Spreading.{delay_at, delayed_floor, held_at}
use Rattle.delay_spread.proofs.spreading.held.Goals as goal

long : (T : ℕ → Tie) (n : ℕ) (ties : List Tie) → ties ≡ map T (range_with_len 0 n) → length ties ≡ n
long T n ties e = ap length e ∙ length-map-range_with_len T 0 n

tie_at : (T : ℕ → Tie) (n : ℕ) (ties : List Tie) (i : ℕ) (d : Tie) → ties ≡ map T (range_with_len 0 n) → i < n
    → slice_index_or ties i d ≡ T i
tie_at T n ties i d e l = ap (λ ts. slice_index_or ts i d) e ∙ get_or-map-range_with_len T 0 n i i d l (omega arith)

pub bounds-ties-at : goal.bounds-ties-at
bounds-ties-at c =
    let cut = c.args.cut.now in
    let T = tie_from cut (delayed_floor cut c.args.delays.now) c.args.entries.now in
    omega (
      arith,
      long T (member_count cut) c.args.ties.now c.requires.ties,
      c.loop-i-test.true,
      c.member_count-i-end.ensures.count,
    )

pub loop-i-preserved : goal.loop-i-preserved
loop-i-preserved c =
    let cut = c.args.cut.now in
    let delays = c.args.delays.now in
    let entries = c.args.entries.now in
    let i = c.loop-i.i in
    let F = held_at cut delays entries in
    let T = tie_from cut (delayed_floor cut delays) entries in
    let there : i < member_count cut = omega (arith, c.loop-i-test.true, c.member_count-i-end.ensures.count) in
    let cast : to_z w64 (of_z w64 (entry_at entries i)) ≡ entry_at entries i = search rules in
    let item : c.held_at.result ≡ F i =
    c.held_at.ensures
    ∙ ap (λ e. record {
      train = (member cut i).name;
      delay = delay_at delays i;
      entry = e;
      tie = slice_index_or c.args.ties.now i Start;
    }) cast
    ∙ ap (λ (t : Tie). record {
      train = (member cut i).name;
      delay = delay_at delays i;
      entry = entry_at entries i;
      tie = t;
    }) (tie_at T (member_count cut) c.args.ties.now i Start c.requires.ties there) in
    c.in_ok-push.ensures.ok
    ∙ ap (λ (xs : List Held). xs ++ c.held_at.result ∷ []) c.loop-i.invariant
    ∙ ap (λ (x : Held). map F (range_with_len 0 i) ++ x ∷ []) item
    ∙ sym (map-range_with_len_more F 0 i i (omega arith))

pub returns : goal.returns
returns c =
    let cut = c.args.cut.now in
    let all : c.loop-i.i ≡ c.member_count-i-end.result = omega (arith, c.loop-i-test.false, c.loop-i.auto.i-end) in
    c.loop-i.invariant
    ∙ ap (λ n. map (held_at cut c.args.delays.now c.args.entries.now) (range_with_len 0 n))
    (all ∙ c.member_count-i-end.ensures.count)
