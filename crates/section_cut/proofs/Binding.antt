-- Which member the run of a name is.
use Rattle.std.proofs.Common.{◌≡◌, ℕ, ◌<◌, Bool, true, false, cond, List, map, length, get_or, take, Option, Some, None, refl, sym, ap, ◌∙◌, subst, arith}
use Rattle.std.specs.Prelude.{filter, IfSome, IfNone}
use Rattle.std.specs.List.{range_with_len}
use Rattle.std.proofs.lemmas.List.Sums.{passes_at_first}
use Rattle.std.proofs.lemmas.List.FromFn.{get_or-map-range_with_len}
use Rattle.rail_model.specs.declared.items.Run.{Run}
use Rattle.rail_model.specs.declared.items.Section.{Section}
use Rattle.rail_model.specs.declared.tables.Tables.{Tables}
use Rattle.rail_model.specs.Name.{is_same}
use Rattle.rail_model.specs.Tables.{no_run, number_of, run_at, run_named}
use Rattle.rail_model.proofs.NameOrder.{same_name}
use Rattle.plan_model.specs.Cut.{entry_of, is_member}
use Rattle.section_cut.specs.declared.members.Member.{Member}
use Rattle.section_cut.specs.Members.{member_at}
use Rattle.section_cut.specs.Bound.{IsMember}
use Rattle.section_cut.proofs.Lists.{passing_at}

module _ (tables : Tables) (section : Section) where
  -- the member with a run's number
  pub member_read : (n : ℕ) → n < length tables.runs → (all : List (Option Member))
      → all ≡ map (member_at tables section) (range_with_len 0 (length tables.runs)) → get_or all n None ≡ member_at tables section n
  member_read n l all is =
      ap (λ (ms : List (Option Member)). get_or ms n None) is
      ∙ get_or-map-range_with_len (member_at tables section) 0 (length tables.runs) n n None l (omega arith)

  some_member : (name : List ℕ) (n : ℕ) (b : Bool) → b ≡ is_member tables section (run_at tables n)
      → n ≡ number_of (λ (r : Run). r.name) tables.runs name → n < length tables.runs
      → IfSome (cond b (Some (record {
        row = length (filter (is_member tables section) (take n tables.runs));
        entry = entry_of tables section (run_at tables n);
      })) None) (IsMember tables section name)
  some_member name n false e number l = tt
  some_member name n true e number l =
      let passes = passing_at (is_member tables section) tables.runs n no_run l (sym e) in
      let named : (run_at tables n).name ≡ name =
      same_name (run_at tables n).name name
      (subst (λ k. is_same (get_or tables.runs k no_run).name name ≡ true) (sym number)
      (passes_at_first (λ (r : Run). is_same r.name name) tables.runs no_run (omega (arith, number, l)))) in
      let run : run_at tables n ≡ run_named tables name = ap (λ k. get_or tables.runs k no_run) number in
      record {
        is = subst (λ (r : Run). is_member tables section r ≡ true) run (sym e);
        there = passes.0;
        row = ap (λ (r : Run). r.name) passes.1 ∙ named;
        entry = ap (entry_of tables section) run;
      }

  no_member : (name : List ℕ) (n : ℕ) (b : Bool) (member : Member) → b ≡ is_member tables section (run_at tables n)
      → n ≡ number_of (λ (r : Run). r.name) tables.runs name
      → IfNone (cond b (Some member) None) (is_member tables section (run_named tables name) ≡ false)
  no_member name n true member e number = tt
  no_member name n false member e number =
      let run : run_at tables n ≡ run_named tables name = ap (λ k. get_or tables.runs k no_run) number in
      subst (λ (r : Run). is_member tables section r ≡ false) run (sym e)

  -- the run of a name and a number is the member that the table has at the number, or no member
  pub member_named : (name : List ℕ) (n : ℕ) → n ≡ number_of (λ (r : Run). r.name) tables.runs name → n < length tables.runs
      → IfSome (member_at tables section n) (IsMember tables section name)
  member_named name n number l = some_member name n (is_member tables section (run_at tables n)) refl number l

  pub no_member_named : (name : List ℕ) (n : ℕ) → n ≡ number_of (λ (r : Run). r.name) tables.runs name
      → IfNone (member_at tables section n) (is_member tables section (run_named tables name) ≡ false)
  no_member_named name n number = no_member name n (is_member tables section (run_at tables n)) _ refl number
