use Rattle.std.proofs.Common.{◌≡◌, false, get_or, Some, sym, subst, inl, inr, arith}
use Rattle.std.specs.Prelude.{find}
use Rattle.std.proofs.lemmas.Bool.{cases_lt, both_ways, false_from_ne_true}
use Rattle.std.proofs.lemmas.Option.{get_or_from_slice_get}
use Rattle.rail_model.specs.declared.items.Connection.{Connection}
use Rattle.rail_model.specs.Name.{is_same}
use Rattle.rail_model.proofs.Lists.{find_none}
use Rattle.rail_model.proofs.NameOrder.{same_name}
use Rattle.section_cut.proofs.Rows.{found_at}
use Rattle.section_cut.proofs.one_connection.connection_named.Goals as goal

pub returns-then-same_name : goal.returns-then-same_name
returns-then-same_name c =
    let all = c.args.tables.now.connections in
    let n = c.loop-number.number in
    let one = c.connection-connection.result.now in
    let here : get_or all n one ≡ one = get_or_from_slice_get all n one one c.connection-connection.ensures in
    sym
    (subst (λ m. find (λ (x : Connection). is_same x.name m) all ≡ Some one) (c.same_name.ensures.0 c.if-same_name.true)
    (subst (λ (x : Connection). find (λ (y : Connection). is_same y.name x.name) all ≡ Some x) here
    (found_at (λ (x : Connection). x.name) all n one c.connections-number-end.ensures.sound.connections.names
    (omega (arith, c.loop-number-test.true, c.connections-number-end.ensures.count)))))

pub loop-number-preserved : goal.loop-number-preserved
loop-number-preserved c k d l =
    let all = c.args.tables.now.connections in
    let n = c.loop-number.number in
    let one = c.connection-connection.result.now in
    let name = c.args.name.now in
    elim (cases_lt k n) [
      | inl lt ↦ c.loop-number.invariant k d lt
      | inr ge ↦
          let last : n ≡ k = omega (arith, ge, l) in
          let here : get_or all n d ≡ one = get_or_from_slice_get all n one d c.connection-connection.ensures in
          let other : is_same one.name name ≡ false =
          false_from_ne_true (is_same one.name name) (λ e. both_ways c.same_name.result c.if-same_name.false (c.same_name.ensures.1 (same_name one.name name e))) in
          subst (λ j. is_same (get_or all j d).name name ≡ false) last (subst (λ (x : Connection). is_same x.name name ≡ false) (sym here) other)
    ]

pub returns : goal.returns
returns c =
    sym
    (find_none (λ (x : Connection). is_same x.name c.args.name.now) c.args.tables.now.connections
    (λ k d l. c.loop-number.invariant k d (omega (arith, l, c.loop-number-test.false, c.connections-number-end.ensures.count))))
