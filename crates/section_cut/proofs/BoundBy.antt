-- Whether a connection binds, by what is found of its runs.
use Rattle.std.proofs.Common.{◌≡◌, ℕ, ◌+◌, Bool, true, false, ◌&&◌, List, get_or, sym, ap, ◌∙◌, arith}
use Rattle.std.specs.Prelude.{pos, slice_get, Some}
use Rattle.std.proofs.lemmas.Bool.{and_from, and_right}
use Rattle.std.proofs.lemmas.Option.{get_or_from_slice_get}
use Rattle.rail_model.specs.declared.items.Run.{Run}
use Rattle.rail_model.specs.declared.items.Section.{Section}
use Rattle.rail_model.specs.declared.items.Connection.{Connection}
use Rattle.rail_model.specs.declared.tables.Tables.{Tables}
use Rattle.rail_model.specs.Tables.{no_run, number_of, run_named, last_arrival}
use Rattle.plan_model.specs.Members.{comes_before}
use Rattle.plan_model.specs.Cut.{entry_of, is_member, binds}
use Rattle.section_cut.specs.declared.members.Member.{Member}
use Rattle.section_cut.specs.declared.connections.Bound.{Bound}
use Rattle.section_cut.specs.Members.{members_of}
use Rattle.section_cut.specs.Bound.{IsMember, IsBound}

module _ (tables : Tables) (section : Section) (c : Connection) where
  -- the run that is read by the number of its name
  pub run_read : (name : List ℕ) (n : ℕ) (run : Run) → n ≡ number_of (λ (r : Run). r.name) tables.runs name
      → slice_get tables.runs n ≡ Some run → run ≡ run_named tables name
  run_read name n run number read =
      sym (get_or_from_slice_get tables.runs n run no_run read) ∙ ap (λ k. get_or tables.runs k no_run) number

  module _ (one other : Member) (run : Run) (order : Bool) (first : IsMember tables section c.first one)
      (second : IsMember tables section c.second other) (is : run ≡ run_named tables c.second)
      (told : order ≡ comes_before one.entry c.first (pos run.start_s) c.second) where
    order_is : order ≡ comes_before (entry_of tables section (run_named tables c.first)) c.first (pos (run_named tables c.second).start_s) c.second
    order_is =
        told ∙ ap (λ e. comes_before e c.first (pos run.start_s) c.second) first.entry
        ∙ ap (λ (r : Run). comes_before (entry_of tables section (run_named tables c.first)) c.first (pos r.start_s) c.second) is

    pub out_of_order : order ≡ false → binds tables section c ≡ false
    out_of_order late =
        and_right (is_member tables section (run_named tables c.first) && is_member tables section (run_named tables c.second)) _
        (sym order_is ∙ late)

    pub in_order : order ≡ true → (bound : Bound) → bound.first_row ≡ one.row → bound.second_row ≡ other.row → bound.entry ≡ one.entry
        → bound.until ≡ pos (last_arrival tables (run_named tables c.first) + c.minimum_s) → bound.start_s ≡ run.start_s
        → IsBound tables section c bound
    in_order early bound first_row second_row entry until start = record {
      binds = and_from (is_member tables section (run_named tables c.first) && is_member tables section (run_named tables c.second)) _
          (and_from (is_member tables section (run_named tables c.first)) (is_member tables section (run_named tables c.second)) first.is second.is)
          (sym order_is ∙ early);
      first_there = omega (arith, first.there, first_row);
      first = ap (λ k. (get_or (members_of tables section) k no_run).name) first_row ∙ first.row;
      second_there = omega (arith, second.there, second_row);
      second = ap (λ k. (get_or (members_of tables section) k no_run).name) second_row ∙ second.row;
      entry = entry ∙ first.entry;
      until = until;
      start = start ∙ ap (λ (r : Run). r.start_s) is;
    }
