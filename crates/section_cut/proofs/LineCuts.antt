-- The rows of a section's members, run after run.
use Rattle.std.proofs.Common.{◌≡◌, ℕ, suc, ◌+◌, ◌<◌, ◌≤◌, List, [], ◌∷◌, map, length, get_or, inl, sym, ap, ◌∙◌, subst, arith}
use Rattle.std.specs.Prelude.{filter, take, drop}
use Rattle.std.specs.List.{range_with_len}
use Rattle.std.proofs.lemmas.List.{take_all, length-drop, length-take-le, get_or-drop, get_or-take}
use Rattle.std.proofs.Math.Seq.{drop-cons}
use Rattle.std.proofs.lemmas.Simd.{map-map}
use Rattle.rail_model.specs.declared.items.Run.{Run}
use Rattle.rail_model.specs.declared.items.Section.{Section}
use Rattle.rail_model.specs.declared.path.Path.{Path}
use Rattle.rail_model.specs.declared.stair.Stair.{Stair}
use Rattle.rail_model.specs.declared.tables.Tables.{Tables}
use Rattle.rail_model.specs.Blocking.{stair_of}
use Rattle.rail_model.specs.Conflict.{timetable}
use Rattle.rail_model.specs.Rules.{IsSound}
use Rattle.rail_model.specs.Tables.{run_at, path_in, section_at}
use Rattle.rail_model.proofs.Timetables.{stair_at, stairs_count}
use Rattle.line_tables.specs.Paths.{paths_of}
use Rattle.plan_model.specs.declared.cut.Cut.{Cut}
use Rattle.plan_model.specs.Cut.{stamped, IsSoundCut, is_member, section_cut}
use Rattle.section_cut.specs.declared.members.MemberRows.{MemberRows}
use Rattle.section_cut.specs.Late.{AreStairsFor, AreStairsFrom, IsStairFor}
use Rattle.section_cut.specs.Members.{AreMembersTo, row_on_blocks, rows_on_blocks, member_at, members_by_run}
use Rattle.section_cut.proofs.Sections.{section_stands}
use Rattle.section_cut.proofs.SoundCut.{sound_cut, sound_stamped}

-- the first of those that are left
pub first_left : {X : Type 0} (items : List X) (n : ℕ) (x : X) (rest : List X) → x ∷ rest ≡ drop n items
    → (n < length items) × ((d : X) → get_or items n d ≡ x) × (rest ≡ drop (n + 1) items)
first_left items n x rest is =
    let here : n < length items = omega (arith, ap length is, length-drop n items) in
    let next : suc n ≡ n + 1 = omega arith in
    (here, λ d. sym (ap (λ l. get_or l 0 d) (is ∙ drop-cons items n d here)), ap (drop 1) (is ∙ drop-cons items n x here) ∙ ap (λ m. drop m items) next)

module _ (tables : Tables) where
  -- the stairways of all paths are the timetable
  pub stairs_by_paths : (paths : List Path) → paths ≡ paths_of tables → map stair_of paths ≡ timetable tables
  stairs_by_paths paths are = ap (map stair_of) are ∙ map-map stair_of (path_in tables) tables.runs

  module _ (section : Section) where
    -- all stairs are those from the first run on
    pub from_first : (stairs : List Stair) → AreStairsFor tables section stairs → AreStairsFrom tables section 0 stairs
    from_first stairs all = record {
      count = omega (arith, all.count);
      each = λ k d l.
          let same : k ≡ 0 + k = omega arith in
          subst (λ m. IsStairFor tables section (run_at tables m) (get_or stairs k d)) same (all.each k d (omega (arith, l, all.count)));
    }

    -- and a part of the timetable those from a run on
    from_part : (from to : ℕ) (stairs : List Stair) → stairs ≡ drop from (take to (timetable tables))
        → from ≤ to → to ≤ length tables.runs → (from + length stairs ≡ to) × AreStairsFrom tables section from stairs
    from_part from to stairs is part within =
        let long : length (take to (timetable tables)) ≡ to = length-take-le to (timetable tables) (omega (arith, within, stairs_count tables)) in
        let count : from + length stairs ≡ to = omega (arith, ap length is, length-drop from (take to (timetable tables)), long, part) in (
          count,
          record {
            count = omega (arith, count, within);
            each = λ k d l.
                let below : from + k < to = omega (arith, l, count) in
                inl (ap (λ ss. get_or ss k d) is ∙ get_or-drop from (take to (timetable tables)) k d
                ∙ get_or-take to (timetable tables) (from + k) d below
                ∙ stair_at tables (from + k) d (omega (arith, below, within)));
          },
        )

    pub from_part_of : (paths : List Path) → paths ≡ paths_of tables → (from to : ℕ) (stairs : List Stair) → stairs ≡ drop from (take to (map stair_of paths))
        → from ≤ to → to ≤ length tables.runs → (from + length stairs ≡ to) × AreStairsFrom tables section from stairs
    from_part_of paths are from to stairs is = from_part from to stairs (is ∙ ap (λ all. drop from (take to all)) (stairs_by_paths paths are))

    module _ (stamp : ℕ) (all : MemberRows) where
      pub of_none : all.rows ≡ [] → all.of_run.items ≡ [] → AreMembersTo tables section stamp 0 all
      of_none rows of_run = record { rows = rows; of_run = of_run }

      module _ (n : ℕ) (are : AreMembersTo tables section stamp n all) (whole : n ≡ length tables.runs) where
        pub rows_of_members : all.rows ≡ rows_on_blocks tables section stamp
        rows_of_members =
            are.rows
            ∙ ap (λ (rs : List Run). map (row_on_blocks tables section stamp) (filter (is_member tables section) rs)) (take_all n tables.runs (omega (arith, whole)))

        pub all_members : all.of_run.items ≡ members_by_run tables section
        all_members = are.of_run ∙ ap (λ m. map (member_at tables section) (range_with_len 0 m)) whole

  -- a cut that is made by sound tables is sound
  pub sound_made : IsSound tables → (k stamp : ℕ) (cut : Cut) → k < length tables.sections
      → cut ≡ stamped stamp (section_cut tables (section_at tables k)) → IsSoundCut cut
  sound_made sound k stamp cut there is =
      subst IsSoundCut (sym is)
      (sound_stamped stamp (section_cut tables (section_at tables k)) (sound_cut tables (section_at tables k) sound (section_stands tables sound k there)))
