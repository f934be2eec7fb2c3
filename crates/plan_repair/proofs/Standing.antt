-- Where the rows of a cut stood among kept rows.
use Rattle.std.proofs.Common.{◌≡◌, ℕ, ◌+◌, ◌<◌, ◌≤◌, List, [], ◌∷◌, ◌++◌, length, get_or, Option, None, Some, ◌⊎◌, inl, inr, refl, sym, ap, ◌∙◌, subst, append_assoc, arith, length-append}
use Rattle.std.specs.Prelude.{IfSome}
use Rattle.std.proofs.Math.Seq.{get_or-append_seam}
use Rattle.std.proofs.lemmas.List.{get_or_append_left, get_or_past}
use Rattle.std.proofs.lemmas.Option.{MatchOption-at_some, IfSome_then}
use Rattle.std.proofs.lemmas.Bool.{cases_lt, cases_order}
use Rattle.plan_model.specs.declared.cut.CutRow.{CutRow}
use Rattle.plan_model.specs.declared.cut.Cut.{Cut}
use Rattle.plan_model.specs.Members.{no_member, place_names}
use Rattle.train_net.specs.Mended.{stood, IsOrigin}
use Rattle.plan_repair.specs.declared.held.HeldNet.{HeldNet}
use Rattle.plan_repair.specs.Left.{EndsWith, StoodAt}
use Rattle.plan_repair.specs.Origin.{StoodAmong, StoodBefore}
use Rattle.plan_repair.specs.Held.{IsHeld, IsHeldBefore}

-- one more is either one of those before or the last
stood_at_end : (origin : List (Option ℕ)) (one : Option ℕ) (i a : ℕ) → stood (origin ++ one ∷ []) i ≡ Some a
    → ((i < length origin) × (stood origin i ≡ Some a)) ⊎ ((i ≡ length origin) × (one ≡ Some a))
stood_at_end origin one i a h =
    elim (cases_order i (length origin)) [
      | inl same ↦
          inr (same, sym (get_or-append_seam origin one [] None) ∙ ap (λ k. get_or (origin ++ one ∷ []) k None) (sym same) ∙ h)
      | inr (inl below) ↦ inl (below, sym (get_or_append_left origin (one ∷ []) None i below) ∙ h)
      | inr (inr past) ↦
          let out = get_or_past (origin ++ one ∷ []) i None (omega (arith, length-append origin (one ∷ []))) in
          absurd (cc)
    ]

-- a row that stands right before others at the end of kept rows has the position by their count
row_there : (kept after : List CutRow) (row : CutRow) (a : ℕ) → EndsWith kept (row ∷ after) → a + length after + 1 ≡ length kept
    → get_or kept a no_member ≡ row
row_there kept after row a ends at =
    let same : a ≡ length ends.before = omega (arith, ap length ends.is, length-append ends.before (row ∷ after)) in
    ap (λ k. get_or kept k no_member) same
    ∙ ap (λ rows. get_or rows (length ends.before) no_member) ends.is
    ∙ get_or-append_seam ends.before row after no_member

shorter : (rows last : List CutRow) → EndsWith rows last → length last ≤ length rows
shorter rows last ends = omega (arith, ap length ends.is, length-append ends.before last)

-- at first there is no row
pub stood_none : (kept : List CutRow) → StoodBefore kept kept [] []
stood_none kept = record {
  so_far = record {
    count = refl;
    within = λ i a h. absurd (cc);
    same = λ i a h. absurd (cc);
    apart = λ i j a h g. absurd (cc);
  };
  passed = λ i a h. absurd (cc);
}

-- one row more
module _ (kept left after rows : List CutRow) (origin : List (Option ℕ)) (row : CutRow) (one : Option ℕ)
    (before : StoodBefore kept left rows origin) (ends : EndsWith kept left) (behind : EndsWith left after)
    (from : IfSome one (StoodAt (length kept) left after row)) where
  from_at : (a : ℕ) → one ≡ Some a → StoodAt (length kept) left after row a
  from_at a h = MatchOption-at_some _ (StoodAt (length kept) left after row) a h from

  count_is : length origin ≡ length rows
  count_is = before.so_far.count

  passed_more : (i a : ℕ) → stood (origin ++ one ∷ []) i ≡ Some a → a + length after < length kept
  passed_more i a h =
      elim (stood_at_end origin one i a h) [
        | inl (below, old) ↦ omega (arith, before.passed i a old, shorter left after behind)
        | inr (same, is) ↦ let at = (from_at a is).at in omega arith
      ]

  -- the place of the new row is behind those of all before
  not_before : (i a : ℕ) → stood origin i ≡ Some a → one ≡ Some a → ⊥
  not_before i a old is =
      let now = from_at a is in
      omega (arith, before.passed i a old, now.at, shorter left (row ∷ after) now.ends)

  same_more : (i a : ℕ) → stood (origin ++ one ∷ []) i ≡ Some a
      → get_or (rows ++ row ∷ []) i no_member ≡ get_or kept a no_member
  same_more i a h =
      elim (stood_at_end origin one i a h) [
        | inl (below, old) ↦
            get_or_append_left rows (row ∷ []) no_member i (omega (arith, below, count_is)) ∙ before.so_far.same i a old
        | inr (same, is) ↦
            let now = from_at a is in
            ap (λ k. get_or (rows ++ row ∷ []) k no_member) (same ∙ count_is)
            ∙ get_or-append_seam rows row [] no_member
            ∙ sym (row_there kept after row a (record {
              before = ends.before ++ now.ends.before;
              is = ends.is ∙ ap (λ r. ends.before ++ r) now.ends.is ∙ sym (append_assoc ends.before now.ends.before (row ∷ after));
            }) now.at)
      ]

  apart_more : (i j a : ℕ) → stood (origin ++ one ∷ []) i ≡ Some a → stood (origin ++ one ∷ []) j ≡ Some a → i ≡ j
  apart_more i j a h g =
      elim (stood_at_end origin one i a h) [
        | inl (_, old) ↦
            elim (stood_at_end origin one j a g) [
              | inl (_, other) ↦ before.so_far.apart i j a old other
              | inr (_, is) ↦ absurd (not_before i a old is)
            ]
        | inr (same, is) ↦
            elim (stood_at_end origin one j a g) [
              | inl (_, other) ↦ absurd (not_before j a other is)
              | inr (other, _) ↦ same ∙ sym other
            ]
      ]

  pub stood_more : StoodBefore kept after (rows ++ row ∷ []) (origin ++ one ∷ [])
  stood_more = record {
    so_far = record {
      count = omega (arith, count_is, length-append rows (row ∷ []), length-append origin (one ∷ []));
      within = λ i a h. omega (arith, passed_more i a h);
      same = same_more;
      apart = apart_more;
    };
    passed = passed_more;
  }

-- in a later cut with the same places that is the origin of its members
is_origin : (old later : Cut) (origin : List (Option ℕ)) → StoodAmong old.rows later.rows origin → place_names later ≡ place_names old
    → IsOrigin old later origin
is_origin old later origin from places = record {
  places = places;
  kept = λ i a h. record {
    there = there i a h;
    before = from.within i a h;
    row = from.same i a h;
  };
  apart = from.apart;
}
  where
    there : (i a : ℕ) → stood origin i ≡ Some a → i < length later.rows
    there i a h =
        elim (cases_lt i (length later.rows)) [
          | inl below ↦ below
          | inr past ↦ let out = get_or_past origin i None (omega (arith, from.count)) in absurd (cc)
        ]

-- what is held beside kept rows was held before a cut whose rows stood among them
pub held_before : (kept : List CutRow) (later : Cut) (origin : List (Option ℕ)) (beside : Option HeldNet)
    → StoodAmong kept later.rows origin → IfSome beside (IsHeld kept) → IfSome beside (IsHeldBefore later origin)
held_before kept later origin beside from held =
    IfSome_then beside held (λ one is. record {
      cut = is.cut;
      sound = is.sound;
      of = is.of;
      origin = λ places. is_origin is.cut later origin (subst (λ rows. StoodAmong rows later.rows origin) (sym is.same) from) places;
    })
