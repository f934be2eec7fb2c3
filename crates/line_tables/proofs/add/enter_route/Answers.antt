use Rattle.std.proofs.Common.{◌≡◌, ℕ, ◌≤◌, ◌∙◌, false, List, Some, ap, sym, arith}
use Rattle.std.specs.Prelude.{is_some}
use Rattle.line_tables.specs.declared.kept_route.KeptRoute.{KeptRoute}
use Rattle.rail_model.specs.Rules.{is_named, with_item, without}
use Rattle.line_tables.specs.declared.linked.Linked.{Linked}
use Rattle.line_tables.specs.Table.{named, key_of, item_of, under, IsTable}
use Rattle.line_tables.specs.KeyCounts.{count_of, times}
use Rattle.line_tables.proofs.Entries.{is_some-key_of, key_of-put, without-with_item}
use Rattle.line_tables.proofs.Found.{found_by_key}
use Rattle.line_tables.proofs.References.{entry}
use Rattle.line_tables.proofs.Known.{CountsMore}
use Rattle.line_tables.proofs.Labels.{kept_name}
use Rattle.line_tables.proofs.add.enter_route.Goals as goal

-- what is known once the route is in the table
module _ (before later : List (ℕ × Linked KeptRoute)) (x : KeptRoute) (new : is_named (named kept_name) before x.name ≡ false) (key : ℕ) (refs : List ℕ) (put : later ≡ with_item (named kept_name) before (key, entry x refs)) (table : IsTable kept_name before) where
  there_now : key_of kept_name later x.name ≡ Some key
  there_now = rw put (key_of-put kept_name before key (entry x refs) table.rise new)

  item_now : IsTable kept_name later → under later key ≡ Some (entry x refs) → item_of kept_name later x.name ≡ Some (entry x refs)
  item_now table' there =
      let found = found_by_key kept_name later x.name key table' there_now in
      found.1.item ∙ sym found.1.under ∙ there

  taken_back : (back : List (ℕ × Linked KeptRoute)) → back ≡ without (named kept_name) later x.name → back ≡ before
  taken_back back rest =
      rest ∙ ap (λ l. without (named kept_name) l x.name) put ∙ without-with_item kept_name before key (entry x refs) table.rise new

counted_now : (x : KeptRoute) (refs old uses : List ℕ) (e : Linked KeptRoute) (k : ℕ) → CountsMore old uses refs → Some (entry x refs) ≡ Some e → times k e.refs ≤ count_of uses k
counted_now x refs old uses e k counted same =
    let one : entry x refs ≡ e = cc in
    omega (arith, counted k, ap (λ (e : Linked KeptRoute). times k e.refs) one)

pub take_linked-requires-clause-there : goal.take_linked-requires-clause-there
take_linked-requires-clause-there c =
    let done = c.in_ok-key.ensures in
    rw c.name.ensures
    (sym (is_some-key_of kept_name c.put_linked.new.table c.args.route.name)
    ∙ ap is_some (there_now c.args.routes.now c.put_linked.new.table c.args.route c.requires c.in_ok-key.key c.args.found.keys done.put done.table))

pub take_linked-requires-clause-counted_before : goal.take_linked-requires-clause-counted_before
take_linked-requires-clause-counted_before c e k h =
    let done = c.in_ok-key.ensures in
    let item = item_now c.args.routes.now c.put_linked.new.table c.args.route c.requires c.in_ok-key.key c.args.found.keys done.put done.table c.get.ensures.table done.there in
    counted_now c.args.route c.args.found.keys c.args.uses.now c.put_linked.new.uses e k done.counted (sym item ∙ rw c.name.ensures at h)

pub returns-then-is_err-clause-kept : goal.returns-then-is_err-clause-kept
returns-then-is_err-clause-kept c =
    let done = c.in_ok-key.ensures in
    taken_back c.args.routes.now c.put_linked.new.table c.args.route c.requires c.in_ok-key.key c.args.found.keys done.put done.table c.take_linked.new.table (rw c.name.ensures at c.take_linked.ensures.rest)

pub returns-then-is_err-clause-kept_counts : goal.returns-then-is_err-clause-kept_counts
returns-then-is_err-clause-kept_counts c k =
    let done = c.in_ok-key.ensures in
    let item = item_now c.args.routes.now c.put_linked.new.table c.args.route c.requires c.in_ok-key.key c.args.found.keys done.put done.table c.get.ensures.table done.there in
    omega (arith, c.take_linked.ensures.counted (entry c.args.route c.args.found.keys) k (rw c.name.ensures item), done.counted k)
