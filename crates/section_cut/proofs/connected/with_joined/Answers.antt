use Rattle.std.proofs.Common.{◌≡◌, ◌++◌, List, true, Some, length, sym, ap, ◌∙◌, subst, arith}
use Rattle.std.specs.Prelude.{All, filter, option_map, IfSome}
use Rattle.rail_model.specs.Rules.{has_run}
use Rattle.section_cut.proofs.BindsBy.{entry_is}
use Rattle.std.specs.List.{filter_map}
use Rattle.std.proofs.lemmas.List.{length-map}
use Rattle.std.proofs.lemmas.List.Elements.{All-filter, filter_passes}
use Rattle.rail_model.specs.declared.items.Run.{Run}
use Rattle.rail_model.specs.declared.items.Connection.{Connection}
use Rattle.rail_model.specs.declared.stair.Use.{Use}
use Rattle.rail_model.specs.Name.{NamesRise}
use Rattle.rail_model.specs.Tables.{number_of, run_at, run_named}
use Rattle.plan_model.specs.declared.cut.CutRow.{CutRow}
use Rattle.plan_model.specs.Cut.{binds, entry_of}
use Rattle.section_cut.specs.Connected.{joins, IsOneOf, use_if_listed, with_bound}
use Rattle.section_cut.proofs.Known.{IsKnown, connection_known, run_named_name}
use Rattle.section_cut.proofs.Lists.{few_pass}
use Rattle.section_cut.proofs.Listed.{names_rise, uses_listed}
use Rattle.section_cut.proofs.connected.with_joined.Goals as goal

pub add_joined-requires-clause-rise : goal.add_joined-requires-clause-rise
add_joined-requires-clause-rise c =
    let tables = c.args.tables.now in
    subst (NamesRise (λ n. n)) (sym c.requires.names)
    (names_rise (λ (x : Connection). x.name) (binds tables c.args.old.now.section) tables.connections c.learn_sound.ensures.connections.names)

pub add_joined-requires-clause-few : goal.add_joined-requires-clause-few
add_joined-requires-clause-few c =
    let tables = c.args.tables.now in
    let some = filter (binds tables c.args.old.now.section) tables.connections in
    omega (arith, ap length c.requires.names, length-map some (λ (x : Connection). x.name), few_pass (binds tables c.args.old.now.section) tables.connections, c.learn_sound.ensures.connections.most)

pub add_joined-requires-clause-entry : goal.add_joined-requires-clause-entry
add_joined-requires-clause-entry c =
    let tables = c.args.tables.now in
    let s = c.args.old.now.section in
    let name = c.args.name.now in
    let number : c.unwrap-number.result ≡ number_of (λ (r : Run). r.name) tables.runs name =
    subst (λ o. IfSome o (λ n. n ≡ number_of (λ (r : Run). r.name) tables.runs name)) c.unwrap-number.ensures c.run_number.ensures.number in
    entry_is tables s (run_named tables name) c.in-Some.row.entry (sym (ap (option_map (λ (r : CutRow). r.entry)) c.in-Some.is)
    ∙ c.requires.entry (subst (λ o. IfSome o (λ _. has_run tables name ≡ true)) c.in-Some.is c.requires.there))
    ∙ ap (λ n. entry_of tables s (run_at tables n)) (sym number)

pub add_joined-requires-clause-joined : goal.add_joined-requires-clause-joined
add_joined-requires-clause-joined c =
    let tables = c.args.tables.now in
    let name = c.args.name.now in
    let number : c.unwrap-number.result ≡ number_of (λ (r : Run). r.name) tables.runs name =
    subst (λ o. IfSome o (λ n. n ≡ number_of (λ (r : Run). r.name) tables.runs name)) c.unwrap-number.ensures c.run_number.ensures.number in
    let named = ap (λ n. (run_at tables n).name) number ∙ run_named_name tables c.learn_sound.ensures name (subst (λ o. IfSome o (λ _. has_run tables name ≡ true)) c.in-Some.is c.requires.there) in
    subst (λ n. All (IsOneOf n) c.args.joined.now) (sym named)
    (subst (All (IsOneOf name)) (sym c.requires.joined)
    (λ k d l.
    let known = All-filter (joins name) (IsKnown tables) tables.connections (connection_known tables c.learn_sound.ensures) k d l in
    record { one = filter_passes (joins name) tables.connections k d l; minimum = known.minimum }))

pub returns : goal.returns
returns c =
    let tables = c.args.tables.now in
    let old = c.args.old.now in
    let s = old.section in
    let name = c.args.name.now in
    let row = c.in-Some.row in
    let number : c.unwrap-number.result ≡ number_of (λ (r : Run). r.name) tables.runs name =
    subst (λ o. IfSome o (λ n. n ≡ number_of (λ (r : Run). r.name) tables.runs name)) c.unwrap-number.ensures c.run_number.ensures.number in
    let named = run_named_name tables c.learn_sound.ensures name (subst (λ o. IfSome o (λ _. has_run tables name ≡ true)) c.in-Some.is c.requires.there) in
    let with_uses : List Use → CutRow = λ uses. record row { uses = row.uses ++ uses } in
    ap Some
    (c.in_ok-add_joined.ensures
    ∙ ap (λ n. with_uses (filter_map (use_if_listed tables s old.connections (run_at tables n)) c.args.joined.now)) number
    ∙ ap (λ cs. with_uses (filter_map (use_if_listed tables s old.connections (run_named tables name)) cs))
    (c.requires.joined ∙ ap (λ n. filter (joins n) tables.connections) (sym named))
    ∙ ap with_uses (uses_listed tables c.learn_sound.ensures s (run_named tables name) old.connections c.requires.names))
    ∙ sym (ap (option_map (with_bound tables s (run_named tables name))) c.in-Some.is)
