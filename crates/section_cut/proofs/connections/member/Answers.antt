use Rattle.std.proofs.Common.{subst, sym, ap, length, arith}
use Rattle.std.specs.Prelude.{IfSome, IfNone, ◌≡◌, false}
use Rattle.std.proofs.lemmas.List.FromFn.{length-map-range_with_len}
use Rattle.rail_model.specs.Tables.{run_named}
use Rattle.plan_model.specs.Cut.{is_member}
use Rattle.section_cut.specs.Members.{member_at}
use Rattle.section_cut.specs.Bound.{IsMember}
use Rattle.section_cut.proofs.Binding.{member_read, member_named, no_member_named}
use Rattle.section_cut.proofs.connections.member.Goals as goal

pub bounds-of_run-number : goal.bounds-of_run-number
bounds-of_run-number c =
    let tables = c.args.tables.now in
    omega (arith, c.requires.in_range, ap length c.requires.of_run, length-map-range_with_len (member_at tables c.args.section.now) 0 (length tables.runs))

pub returns-clause-some : goal.returns-clause-some
returns-clause-some c =
    let tables = c.args.tables.now in
    let section = c.args.section.now in
    subst (λ m. IfSome m (IsMember tables section c.args.name.now))
    (sym (member_read tables section c.args.number c.requires.in_range c.args.of_run.now c.requires.of_run))
    (member_named tables section c.args.name.now c.args.number c.requires.number c.requires.in_range)

pub returns-clause-none : goal.returns-clause-none
returns-clause-none c =
    let tables = c.args.tables.now in
    let section = c.args.section.now in
    subst (λ m. IfNone m (is_member tables section (run_named tables c.args.name.now) ≡ false))
    (sym (member_read tables section c.args.number c.requires.in_range c.args.of_run.now c.requires.of_run))
    (no_member_named tables section c.args.name.now c.args.number c.requires.number)
