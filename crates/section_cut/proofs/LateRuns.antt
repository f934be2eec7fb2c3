-- Stairs without the uses of runs that start too late to enter a section.
use Rattle.std.proofs.Common.{◌≡◌, ℕ, ◌+◌, ◌<◌, ◌≤◌, Bool, true, false, cond, leb, List, [], map, length, get_or, All, refl, sym, ap, ◌∙◌, subst, inl, inr, arith}
use Rattle.std.specs.Prelude.{ℤ, pos, ◌<ℤ◌, ◌≤ℤ◌}
use Rattle.std.proofs.lemmas.Int.{ints}
use Rattle.std.proofs.lemmas.Bool.{cases_Bool, leb-true}
use Rattle.std.proofs.lemmas.List.{length-map, get_or-map}
use Rattle.std.proofs.lemmas.List.Elements.{All-map, All-filter}
use Rattle.rail_model.specs.declared.items.Section.{Section}
use Rattle.rail_model.specs.declared.tables.Tables.{Tables}
use Rattle.rail_model.specs.declared.stair.Use.{Use}
use Rattle.rail_model.specs.declared.stair.Stair.{Stair}
use Rattle.rail_model.specs.Blocking.{hop_count, use_of, stairway, stair_of}
use Rattle.rail_model.specs.Tables.{no_run, run_at, path_in}
use Rattle.rail_model.specs.Rules.{IsSound}
use Rattle.rail_model.proofs.Lists.{All-from_one}
use Rattle.line_tables.specs.Paths.{paths_of}
use Rattle.plan_model.specs.Cut.{use_in_section, section_uses, is_member}
use Rattle.section_cut.specs.Late.{IsLead, bare_stair, stair_to, IsStairFor, AreStairsFor}
use Rattle.section_cut.specs.Positions.{IsPositions, uses_in}
use Rattle.section_cut.specs.Members.{member_row}
use Rattle.rail_model.proofs.Timetables.{used_there}
use Rattle.section_cut.proofs.MemberRows.{uses_by_table}
use Rattle.section_cut.proofs.BlockUses.{least_holds, in_window}
use Rattle.section_cut.proofs.Leads.{blocking_from, path_lead}

module _ (tables : Tables) (section : Section) where
  -- what a stair tells of its run: its name, blocks of the tables, and its row
  module _ (sound : IsSound tables) (n : ℕ) (l : n < length tables.runs) where
    pub stair_name : (stair : Stair) → IsStairFor tables section (run_at tables n) stair → stair.run ≡ (run_at tables n).name
    stair_name stair is = elim is [
      | inl own ↦ ap (λ (s : Stair). s.run) own
      | inr bare ↦ ap (λ (s : Stair). s.run) bare.0
    ]

    pub stair_there : (stair : Stair) → IsStairFor tables section (run_at tables n) stair
        → All (λ (u : Use). u.block < length tables.blocks) stair.uses
    stair_there stair is = elim is [
      | inl own ↦
          subst (λ (s : Stair). All (λ (u : Use). u.block < length tables.blocks) s.uses) (sym own) (used_there tables sound n l)
      | inr bare ↦
          subst (λ (s : Stair). All (λ (u : Use). u.block < length tables.blocks) s.uses) (sym bare.0) (λ k d below. absurd (omega (arith, below)))
    ]

    no_row : (stamp : ℕ) (positions : List ℕ) → is_member tables section (run_at tables n) ≡ false
        → member_row section (run_at tables n).name stamp (uses_in positions (length section.blocks) [])
        ≡ member_row section (run_at tables n).name stamp (section_uses tables section (run_at tables n))
    no_row stamp positions outside = rw outside refl

    pub stair_row : (stamp : ℕ) (positions : List ℕ) → IsPositions tables section positions → (stair : Stair)
        → IsStairFor tables section (run_at tables n) stair
        → member_row section (run_at tables n).name stamp (uses_in positions (length section.blocks) stair.uses)
        ≡ member_row section (run_at tables n).name stamp (section_uses tables section (run_at tables n))
    stair_row stamp positions table stair is =
        let row = member_row section (run_at tables n).name stamp in
        let uses = uses_in positions (length section.blocks) in
        elim is [
          | inl own ↦
              ap (λ (s : Stair). row (uses s.uses)) own ∙ ap row (uses_by_table tables section sound positions table n l)
          | inr bare ↦
              ap (λ (s : Stair). row (uses s.uses)) bare.0
              ∙ no_row stamp positions bare.1
        ]

  module _ (lead : ℕ) (is : IsLead (paths_of tables) lead) where
    module _ (n : ℕ) (l : n < length tables.runs) (late : section.to_s + lead ≤ (run_at tables n).start_s) where
      uses_from : All (λ (u : Use). pos section.to_s ≤ℤ u.start) (section_uses tables section (run_at tables n))
      uses_from =
          let path = path_in tables (run_at tables n) in
          let From : Use → Type 0 = λ u. pos section.to_s ≤ℤ u.start in
          All-filter _ From (map (use_in_section tables section) (stairway path))
          (All-map From (use_in_section tables section) (stairway path)
          (All-from_one From (use_of path) (hop_count path)
          (λ k some on. blocking_from path k section.to_s lead on late (path_lead tables lead is n k l some on))))

      not_both : (entry to : ℤ) → to ≤ℤ entry → entry <ℤ to → ⊥
      not_both entry to p q = omega (arith, ints)

      -- a run that starts the lead after the window's end is no member
      pub late_outside : is_member tables section (run_at tables n) ≡ false
      late_outside = elim (cases_Bool (is_member tables section (run_at tables n))) [
        | inl member ↦
            let window = in_window tables section n member in
            let uses = section_uses tables section (run_at tables n) in
            let from = least_holds (λ t. pos section.to_s ≤ℤ t) (map (λ (u : Use). u.start) uses)
            (omega (arith, window.some, length-map uses (λ (u : Use). u.start)))
            (All-map (λ t. pos section.to_s ≤ℤ t) (λ (u : Use). u.start) uses uses_from) in
            absurd (not_both _ _ from window.to)
        | inr outside ↦ outside
      ]

    one_stair : (n : ℕ) → n < length tables.runs → (b : Bool) → b ≡ leb (section.to_s + lead) (run_at tables n).start_s
        → IsStairFor tables section (run_at tables n) (cond b (bare_stair (run_at tables n)) (stair_of (path_in tables (run_at tables n))))
    one_stair n l true e = inr (refl, late_outside n l (leb-true (section.to_s + lead) (run_at tables n).start_s (sym e)))
    one_stair n l false e = inl refl

    -- the stairs for the section's window are such stairs
    pub late_stairs : (stairs : List Stair) → stairs ≡ map (stair_to tables section.to_s lead) tables.runs
        → AreStairsFor tables section stairs
    late_stairs stairs at = record {
      count = ap length at ∙ length-map tables.runs (stair_to tables section.to_s lead);
      each = λ n d l.
          subst (IsStairFor tables section (run_at tables n))
          (sym (ap (λ s. get_or s n d) at ∙ get_or-map (stair_to tables section.to_s lead) tables.runs n no_run d l))
          (one_stair n l (leb (section.to_s + lead) (run_at tables n).start_s) refl);
    }
