use Rattle.std.proofs.Common.{◌≡◌, ℕ, ◌+◌, ◌-◌, ◌<◌, ◌≤◌, true, false, ◌==◌, ◌||◌, refl, ◌++◌, ◌∷◌, List, [], length, take, get_or, sym, ap, subst, ◌∙◌, arith, length-append}
use Rattle.std.specs.Prelude.{slice_index_or}
use Rattle.std.proofs.lemmas.Bool.{both_ways, false_from_ne_true}
use Rattle.std.proofs.lemmas.List.{take_more, take_all}
use Rattle.plan_model.specs.declared.limits.TheConstants.{MEMBERS}
use Rattle.train_order.specs.declared.member_set.MemberSet.{MemberSet}
use Rattle.train_order.specs.Sets.{IsFirstOutside, holds, no_set, relates}
use Rattle.train_order.specs.Taking.{is_among, IsFree, IsTaking, IsTried}
use Rattle.train_order.proofs.Step.{next_few, path_few, path_room, popped, pushed, stuck, grown, tried_then}
use Rattle.train_order.proofs.taking.take_up.Goals as goal

-- the first member that precedes the last of the path and is left
record IsAtEnd (sets : List MemberSet) (taken words tried path : List ℕ) (last missing : ℕ) : Type 0 where
  so_far : IsTaking sets taken words tried path
  some : 0 < length path
  last_at : get_or path (length path - 1) 0 ≡ last
  first : IsFirstOutside (slice_index_or sets last no_set).words words missing

at_end : {sets : List MemberSet} {taken words tried path : List ℕ} (seen : List ℕ) (len missing : ℕ)
    → IsTaking sets taken words tried path → seen ≡ path → len ≡ length path → 0 < length path
    → IsFirstOutside (slice_index_or sets (get_or seen (len - 1) 0) no_set).words words missing
    → IsAtEnd sets taken words tried path (get_or seen (len - 1) 0) missing
at_end {sets} {taken} {words} {tried} {path} seen len missing so_far same is some first = record {
  so_far = so_far;
  some = some;
  last_at = ap (λ (xs : List ℕ). get_or xs (length path - 1) 0) (sym same) ∙ ap (λ n. get_or seen (n - 1) 0) (sym is);
  first = first;
}

module _ {sets : List MemberSet} {taken words tried path : List ℕ} {last missing : ℕ}
    (at : IsAtEnd sets taken words tried path last missing) where
  its : IsTried sets taken tried last
  its = subst (IsTried sets taken tried) at.last_at (at.so_far.on_path (length path - 1) (omega (arith, at.some)))

  -- none is left
  module _ (none : length sets ≤ missing) where
    free : IsFree sets words last
    free = record {
      fresh = at.so_far.up.same last ∙ its.left;
      after = λ i li r. at.first.none i (omega arith) r;
    }

    room : length taken < length sets
    room = next_few at.so_far.up last its.there free

    module _ (rest : List ℕ) (e : rest ≡ take (length path - 1) path) where
      whole : path ≡ rest ++ last ∷ []
      whole =
          sym (take_all (length path - 1 + 1) path (omega (arith, at.some)))
          ∙ take_more path (length path - 1) 0 (omega (arith, at.some))
          ∙ ap (λ xs. xs ++ get_or path (length path - 1) 0 ∷ []) (sym e) ∙ ap (λ m. rest ++ m ∷ []) at.last_at

      shorter : length rest + 1 ≡ length path
      shorter = omega (arith, ap length whole, length-append rest (last ∷ []))

      taken_then : (after : List ℕ) → ((k : ℕ) → holds after k ≡ ((last == k) || holds words k))
          → IsTaking sets (taken ++ last ∷ []) after tried rest
      taken_then after put = popped rest last (subst (IsTaking sets taken words tried) whole at.so_far) its.there free after put

  -- one is left
  module _ (l : missing < length sets) (few : length sets ≤ MEMBERS) where
    out : is_among taken missing ≡ false
    out = sym (at.so_far.up.same missing) ∙ at.first.outside (omega arith)

    link : (k : ℕ) → k + 1 ≡ length path → relates sets missing (get_or path k 0) ≡ true
    link k e =
        let here : k ≡ length path - 1 = omega (arith, e) in
        subst (λ m. relates sets missing m ≡ true) (sym (ap (λ m. get_or path m 0) here ∙ at.last_at)) (at.first.there (omega arith))

nothing : (some : List ℕ) → length some ≤ 0 → some ≡ []
nothing [] l = refl
nothing (k ∷ some) l = absurd (omega (arith, l))

pub loop-path-init : goal.loop-path-init
loop-path-init c =
    let member = c.args.member in
    let out : is_among c.args.taken.now member ≡ false =
    false_from_ne_true _ (λ h. both_ways _ c.requires.fresh (c.requires.so_far.all_tried member h)) in
    let link : (k : ℕ) → k + 1 ≡ 0 → relates c.args.sets.now member (get_or [] k 0) ≡ true = λ k e. absurd (omega (arith, e)) in
    let after = c.insert.new.self.words in
    record {
      so_far =
          subst (IsTaking c.args.sets.now c.args.taken.now c.args.up.now.words after)
          (sym (c.push.ensures ∙ ap (λ xs. xs ++ member ∷ []) c.clear.ensures))
          (pushed c.requires.so_far member c.requires.there out link c.requires.fresh after c.insert.ensures);
      more = grown c.requires.so_far member c.requires.there out link c.requires.fresh after c.insert.ensures;
      tried = tried_then c.requires.so_far member c.requires.there out link c.requires.fresh after c.insert.ensures;
    }

-- ---- the last member is free

pub push-requires-then-missing-sets : goal.push-requires-then-missing-sets
push-requires-then-missing-sets c =
    let end = at_end c.slice.result.now c.len-in-loop-path.result c.first_outside-missing.result c.loop-path.invariant.so_far c.slice.ensures
    c.len-in-loop-path.ensures (omega (arith, c.loop-path-test.true, c.len.ensures)) c.first_outside-missing.ensures in
    omega (arith, c.requires.few, room end c.if-missing-sets.true)

pub loop-path-smaller-then-missing-sets : goal.loop-path-smaller-then-missing-sets
loop-path-smaller-then-missing-sets c =
    let end = at_end c.slice.result.now c.len-in-loop-path.result c.first_outside-missing.result c.loop-path.invariant.so_far c.slice.ensures
    c.len-in-loop-path.ensures (omega (arith, c.loop-path-test.true, c.len.ensures)) c.first_outside-missing.ensures in
    omega (
      arith,
      room end c.if-missing-sets.true,
      shorter end c.if-missing-sets.true c.pop.new.self c.pop.ensures,
      path_few c.loop-path.invariant.so_far,
      ap length c.push-then-missing-sets.ensures,
      length-append c.loop-path.taken (get_or c.slice.result.now (c.len-in-loop-path.result - 1) 0 ∷ []),
    )

pub loop-path-preserved-then-missing-sets : goal.loop-path-preserved-then-missing-sets
loop-path-preserved-then-missing-sets c =
    let end = at_end c.slice.result.now c.len-in-loop-path.result c.first_outside-missing.result c.loop-path.invariant.so_far c.slice.ensures
    c.len-in-loop-path.ensures (omega (arith, c.loop-path-test.true, c.len.ensures)) c.first_outside-missing.ensures in
    record {
      so_far =
          subst (λ ts. IsTaking c.args.sets.now ts c.insert-then-missing-sets.new.self.words c.loop-path.tried.words c.pop.new.self)
          (sym c.push-then-missing-sets.ensures)
          (taken_then end c.if-missing-sets.true c.pop.new.self c.pop.ensures c.insert-then-missing-sets.new.self.words
          c.insert-then-missing-sets.ensures);
      more = c.loop-path.invariant.more;
      tried = c.loop-path.invariant.tried;
    }

-- ---- it isn't

pub returns-then-has-clause-so_far : goal.returns-then-has-clause-so_far
returns-then-has-clause-so_far c =
    let end = at_end c.slice.result.now c.len-in-loop-path.result c.first_outside-missing.result c.loop-path.invariant.so_far c.slice.ensures
    c.len-in-loop-path.ensures (omega (arith, c.loop-path-test.true, c.len.ensures)) c.first_outside-missing.ensures in
    let l = c.if-missing-sets.false in
    stuck c.loop-path.invariant.so_far c.first_outside-missing.result l (out end l c.requires.few) (link end l c.requires.few)
    (sym c.has.ensures ∙ c.if-has.true)

pub push-requires-else-has : goal.push-requires-else-has
push-requires-else-has c =
    let end = at_end c.slice.result.now c.len-in-loop-path.result c.first_outside-missing.result c.loop-path.invariant.so_far c.slice.ensures
    c.len-in-loop-path.ensures (omega (arith, c.loop-path-test.true, c.len.ensures)) c.first_outside-missing.ensures in
    let l = c.if-missing-sets.false in
    omega (
      arith,
      c.requires.few,
      path_room c.loop-path.invariant.so_far c.first_outside-missing.result l (out end l c.requires.few) (link end l c.requires.few)
          (sym c.has.ensures ∙ c.if-has.false),
    )

pub loop-path-smaller : goal.loop-path-smaller
loop-path-smaller c =
    let end = at_end c.slice.result.now c.len-in-loop-path.result c.first_outside-missing.result c.loop-path.invariant.so_far c.slice.ensures
    c.len-in-loop-path.ensures (omega (arith, c.loop-path-test.true, c.len.ensures)) c.first_outside-missing.ensures in
    let l = c.if-missing-sets.false in
    omega (
      arith,
      path_room c.loop-path.invariant.so_far c.first_outside-missing.result l (out end l c.requires.few) (link end l c.requires.few)
          (sym c.has.ensures ∙ c.if-has.false),
      ap length c.push-else-has.ensures,
      length-append c.loop-path.path (c.first_outside-missing.result ∷ []),
    )

pub loop-path-preserved : goal.loop-path-preserved
loop-path-preserved c =
    let end = at_end c.slice.result.now c.len-in-loop-path.result c.first_outside-missing.result c.loop-path.invariant.so_far c.slice.ensures
    c.len-in-loop-path.ensures (omega (arith, c.loop-path-test.true, c.len.ensures)) c.first_outside-missing.ensures in
    let l = c.if-missing-sets.false in
    let inv = c.loop-path.invariant in
    let missing = c.first_outside-missing.result in
    let after = c.insert-else-has.new.self.words in
    let fresh = sym c.has.ensures ∙ c.if-has.false in
    let grow = grown inv.so_far missing l (out end l c.requires.few) (link end l c.requires.few) fresh after c.insert-else-has.ensures in
    record {
      so_far =
          subst (IsTaking c.args.sets.now c.loop-path.taken c.loop-path.up.words after) (sym c.push-else-has.ensures)
          (pushed inv.so_far missing l (out end l c.requires.few) (link end l c.requires.few) fresh after c.insert-else-has.ensures);
      more = λ k h. grow k (inv.more k h);
      tried = grow c.args.member inv.tried;
    }

-- ---- at the end

pub returns-clause-so_far : goal.returns-clause-so_far
returns-clause-so_far c =
    subst (IsTaking c.args.sets.now c.loop-path.taken c.loop-path.up.words c.loop-path.tried.words)
    (nothing c.loop-path.path (omega (arith, c.loop-path-test.false, c.len.ensures))) c.loop-path.invariant.so_far
