-- A sound cut is sound without a train that has no connection.
use Rattle.std.proofs.Common.{suc, ◌≡◌, ℕ, Bool, ◌≤◌, true, false, List, [], ◌∷◌, take, drop, inl, inr, refl, ap, arith}
use Rattle.std.specs.Prelude.{◌==◌, nat_lt, not, cond, filter, remove, All}
use Rattle.std.specs.List.{list_any}
use Rattle.std.proofs.lemmas.Bool.{cases_Bool}
use Rattle.std.proofs.lemmas.Bool.Decides.{nat_tests}
use Rattle.std.proofs.lemmas.List.Edits.{length-remove}
use Rattle.std.proofs.lemmas.List.Elements.{All-append, All-take, All-drop}
use Rattle.std.proofs.lemmas.List.Quantifiers.{all_pairs_remove}
use Rattle.std.proofs.lemmas.List.Sums.{sum_by-remove}
use Rattle.rail_model.specs.declared.stair.Use.{Use}
use Rattle.rail_model.specs.Name.{IsBefore}
use Rattle.plan_model.specs.declared.cut.CutRow.{CutRow}
use Rattle.plan_model.specs.declared.cut.Cut.{Cut}
use Rattle.plan_model.specs.Members.{block_count, member, no_member, uses_place}
use Rattle.plan_model.specs.Cut.{IsSoundUse, IsSoundRow}
use Rattle.compression.specs.Laws.{cut_without, SoundWithout}

other_block : (b c n : ℕ) → nat_lt b n ≡ true → n ≤ c → (b == c) ≡ false
other_block b c n below l = grind (arith, nat_tests, below, l)

-- without connections no place behind the blocks is used
none_used : (n c : ℕ) → n ≤ c → (uses : List Use) → filter (λ (u : Use). not (nat_lt u.block n)) uses ≡ []
    → list_any (λ (u : Use). u.block == c) uses ≡ false
none_used n c l [] e = refl
none_used n c l (u ∷ uses) e =
    elim (cases_Bool (nat_lt u.block n)) [
      | inl y ↦ rw (other_block u.block c n y l) (none_used n c l uses (rw y at e))
      | inr f ↦ absurd (let some = rw f at e in cc)
    ]

abbrev counted : Bool → ℕ
counted passes = cond passes 1 0

module _ (cut : Cut) (r : ℕ) where
  still_use : (u : Use) → IsSoundUse cut u → IsSoundUse (cut_without cut r) u
  still_use u one = record { place = one.place; some_time = one.some_time; starts = one.starts; ends = one.ends }

  still_row : (row : CutRow) → IsSoundRow cut row → IsSoundRow (cut_without cut r) row
  still_row row one = record {
    some_block = one.some_block;
    most_blocks = one.most_blocks;
    blocks_first = one.blocks_first;
    places_differ = one.places_differ;
    each = λ k d l. still_use _ (one.each k d l);
    entry = one.entry;
    from_window = one.from_window;
    to_window = one.to_window;
  }

pub sound_without : SoundWithout
sound_without cut r there sound alone =
    let kept : All (IsSoundRow cut) (remove cut.rows r) =
    All-append (IsSoundRow cut) (take r cut.rows) (drop (suc r) cut.rows) (All-take (IsSoundRow cut) r cut.rows sound.each)
    (All-drop (IsSoundRow cut) (suc r) cut.rows sound.each) in
    record {
      window = sound.window;
      window_start = sound.window_start;
      some_block = sound.some_block;
      most_blocks = sound.most_blocks;
      most_connections = sound.most_connections;
      most_rows = omega (arith, sound.most_rows, length-remove cut.rows r there);
      places_differ = sound.places_differ;
      names_rise =
          all_pairs_remove (λ (a b : CutRow). IsBefore a.name b.name) cut.rows r there sound.names_rise;
      each = λ k d l. still_row cut r _ (kept k d l);
      two_rows = λ c from l.
          let unused : uses_place (member cut r) c ≡ false =
          none_used (block_count cut) c from (member cut r).uses alone in
          let all = sum_by-remove (λ (row : CutRow). counted (uses_place row c)) cut.rows r no_member there in
          let none : counted (uses_place (member cut r) c) ≡ 0 = ap counted unused in
          omega (arith, all, none, sound.two_rows c from l);
    }
