use Rattle.std.proofs.Common.{◌≡◌, true, Some, length, sym, ap, ◌∙◌, rules}
use Rattle.std.proofs.lemmas.List.{length-map}
use Rattle.headway_table.proofs.Filled.{written}
use Rattle.capacity_cmd.specs.Ends.{with_delays, IsDelaysText}
use Rattle.capacity_cmd.proofs.Cuts.{writes_for_named}
use Rattle.capacity_cmd.proofs.Members.{given_to_members}
use Rattle.capacity_cmd.proofs.delays.text_of_given.Goals as goal

pub returns-then-set_delays : goal.returns-then-set_delays
returns-then-set_delays c =
    let cut = c.args.cut.now in
    let given = c.args.given.now in
    let delays = c.deref.result.now in
    let done : c.set_delays.result ≡ true = search rules in
    let all = c.set_delays.ensures.set done in
    let made = c.in_ok-delays.delays in
    let long : made.len ≡ length cut.rows = search rules in
    let count : length c.set_delays.new.delays ≡ made.len = ap length all ∙ length-map cut.rows _ ∙ sym long in
    let same : delays ≡ c.set_delays.new.delays = c.deref.ensures.value ∙ written c.set_delays.new.delays made.items made.len count in
    writes_for_named IsDelaysText (with_delays (Some given) cut) (cut, delays) c.in_ok-delayed_text.field-0
    (given_to_members cut given delays (sym c.set_delays.ensures.members ∙ done) (same ∙ all))
    c.in_ok-delayed_text.ensures
