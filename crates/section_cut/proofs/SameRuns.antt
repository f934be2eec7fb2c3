-- Cuts by tables with the same runs and connections: they differ where uses of blocks do.
use Rattle.std.proofs.Common.{◌≡◌, ℕ, ◌+◌, ◌<◌, true, Bool, List, [], ◌∷◌, map, length, get_or, None, Some, refl, sym, ap, ◌∙◌, subst, inl, inr, arith}
use Rattle.std.specs.Prelude.{All, Option, filter, find, option_map}
use Rattle.std.specs.List.{list_any, sum_by}
use Rattle.std.proofs.lemmas.Bool.{cases_Bool, or_left, or_right}
use Rattle.std.proofs.lemmas.List.{get_or_default}
use Rattle.std.proofs.lemmas.List.Elements.{All-head, All-tail}
use Rattle.std.proofs.lemmas.List.Folds.{list_any_at}
use Rattle.rail_model.specs.declared.items.Run.{Run}
use Rattle.rail_model.specs.declared.items.Section.{Section}
use Rattle.rail_model.specs.declared.items.Connection.{Connection}
use Rattle.rail_model.specs.declared.tables.Tables.{Tables}
use Rattle.rail_model.specs.Name.{is_same}
use Rattle.rail_model.specs.Rules.{has_run, IsSound}
use Rattle.rail_model.specs.Tables.{no_run, number_of, run_at, run_named, last_arrival}
use Rattle.rail_model.proofs.NameOrder.{is_same-from}
use Rattle.plan_model.specs.declared.cut.CutRow.{CutRow}
use Rattle.plan_model.specs.declared.cut.Cut.{Cut}
use Rattle.plan_model.specs.Cut.{section_uses, is_member, binds, binding_connections, row_of, section_cut, cut_of}
use Rattle.section_cut.specs.Members.{enters}
use Rattle.section_cut.specs.Connected.{joins, entry_in}
use Rattle.section_cut.proofs.Arrivals.{leg_time, last_arrival_is}
use Rattle.section_cut.proofs.BindsBy.{filter_same, binds_same, entry_same, row_by}
use Rattle.section_cut.proofs.Known.{connection_known, run_there, run_named_name}

pub rows_same : (f g : Run → CutRow) (p q : Run → Bool) (runs : List Run) → All (λ r. (p r ≡ q r) × (f r ≡ g r)) runs → map f (filter p runs) ≡ map g (filter q runs)
rows_same f g p q [] same = refl
rows_same f g p q (r ∷ runs) same =
    let here = All-head (λ r. (p r ≡ q r) × (f r ≡ g r)) r runs same in
    let rest = rows_same f g p q runs (All-tail (λ r. (p r ≡ q r) × (f r ≡ g r)) r runs same) in
    elim (cases_Bool (q r)) [
      | inl e ↦ rw (here.0, e) (ap (λ y. y ∷ map f (filter p runs)) here.1 ∙ ap (λ ys. g r ∷ ys) rest)
      | inr e ↦ rw (here.0, e) rest
    ]

-- a connection is one of both runs that it names
pub joins_first : (c : Connection) → joins c.first c ≡ true
joins_first c = or_left (is_same c.first c.first) (is_same c.second c.first) (is_same-from c.first c.first refl)

pub joins_second : (c : Connection) → joins c.second c ≡ true
joins_second c = or_right (is_same c.first c.second) (is_same c.second c.second) (is_same-from c.second c.second refl)

module _ (earlier later : Tables) (earlier_sound : IsSound earlier) (later_sound : IsSound later) (runs : later.runs ≡ earlier.runs) (connections : later.connections ≡ earlier.connections) where
  run_same : (name : List ℕ) → run_named later name ≡ run_named earlier name
  run_same name = ap (λ (rs : List Run). get_or rs (number_of (λ (r : Run). r.name) rs name) no_run) runs

  pub arrival_same : (n : ℕ) → n < length earlier.runs → last_arrival later (run_at earlier n) ≡ last_arrival earlier (run_at earlier n)
  arrival_same n l =
      subst (λ (r : Run). last_arrival later r ≡ r.start_s + sum_by leg_time r.legs) (ap (λ (rs : List Run). get_or rs n no_run) runs)
      (last_arrival_is later later_sound n (omega (arith, l, ap length runs)))
      ∙ sym (last_arrival_is earlier earlier_sound n l)

  module _ (s : Section) where
    -- the same connections bind, where the runs that have connections enter as before
    pub binding_same : ((n : ℕ) → n < length earlier.runs → list_any (joins (run_at earlier n).name) earlier.connections ≡ true
        → entry_in later s (run_at earlier n) ≡ entry_in earlier s (run_at earlier n))
        → binding_connections later s ≡ binding_connections earlier s
    binding_same steady =
        let entry_at : (name : List ℕ) → has_run earlier name ≡ true → list_any (joins name) earlier.connections ≡ true
        → entry_in later s (run_named later name) ≡ entry_in earlier s (run_named earlier name) =
        λ name there joined.
        ap (entry_in later s) (run_same name)
        ∙ steady (number_of (λ (r : Run). r.name) earlier.runs name) (run_there earlier earlier_sound name there)
        (subst (λ m. list_any (joins m) earlier.connections ≡ true) (sym (run_named_name earlier earlier_sound name there)) joined) in
        ap (filter (binds later s)) connections
        ∙ filter_same (binds later s) (binds earlier s) earlier.connections
        (λ k d l.
        let c = get_or earlier.connections k d in
        let known = connection_known earlier earlier_sound k d l in
        binds_same earlier later s c
        (entry_at c.first known.first (list_any_at (joins c.first) earlier.connections k d l (joins_first c)))
        (entry_at c.second known.second (list_any_at (joins c.second) earlier.connections k d l (joins_second c)))
        (ap (λ (r : Run). r.start_s) (run_same c.second)))

    -- where the same connections bind, a run of the same uses of blocks has the same row
    pub row_same : binding_connections later s ≡ binding_connections earlier s → (n : ℕ) → n < length earlier.runs
        → section_uses later s (run_at earlier n) ≡ section_uses earlier s (run_at earlier n) → row_of later s (run_at earlier n) ≡ row_of earlier s (run_at earlier n)
    row_same binding n l same =
        let run = run_at earlier n in
        ap (λ uses. row_by s run uses (last_arrival later run) (binding_connections later s)) same
        ∙ ap (λ last. row_by s run (section_uses earlier s run) last (binding_connections later s)) (arrival_same n l)
        ∙ ap (row_by s run (section_uses earlier s run) (last_arrival earlier run)) binding

    -- where all runs have the same uses of blocks, the cut is the same
    pub cut_same : ((n : ℕ) → n < length earlier.runs → section_uses later s (run_at earlier n) ≡ section_uses earlier s (run_at earlier n))
        → section_cut later s ≡ section_cut earlier s
    cut_same same =
        let form : List (List ℕ) → List CutRow → Cut = λ cs rows. record { section = s; connections = cs; rows = rows } in
        let binding = binding_same (λ n l joined. entry_same earlier later s (run_at earlier n) (same n l)) in
        let cs = map (λ (c : Connection). c.name) (binding_connections earlier s) in
        ap (λ bs. form (map (λ (c : Connection). c.name) bs) (map (row_of later s) (filter (is_member later s) later.runs))) binding
        ∙ ap (λ rs. form cs (map (row_of later s) (filter (is_member later s) rs))) runs
        ∙ ap (form cs)
        (rows_same (row_of later s) (row_of earlier s) (is_member later s) (is_member earlier s) earlier.runs
        (λ k d l.
        subst (λ (r : Run). (is_member later s r ≡ is_member earlier s r) × (row_of later s r ≡ row_of earlier s r)) (get_or_default earlier.runs k no_run d l)
        (ap (enters s) (same k l), row_same binding k l (same k l))))

  -- and so are the cuts of all sections, where the tables have the same
  pub cuts_same : later.sections ≡ earlier.sections
      → ((s : Section) (n : ℕ) → n < length earlier.runs → section_uses later s (run_at earlier n) ≡ section_uses earlier s (run_at earlier n))
      → (name : List ℕ) → cut_of later name ≡ cut_of earlier name
  cuts_same sections same name =
      ap (λ ss. option_map (section_cut later) (find (λ (s : Section). is_same s.name name) ss)) sections
      ∙ found_same (find (λ (s : Section). is_same s.name name) earlier.sections)
    where
      found_same : (found : Option Section) → option_map (section_cut later) found ≡ option_map (section_cut earlier) found
      found_same None = refl
      found_same (Some s) = ap Some (cut_same s (same s))
