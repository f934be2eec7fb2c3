use Rattle.std.proofs.Common.{refl}
use Rattle.capacity_cmd.specs.Outcome.{Writes}
use Rattle.capacity_cmd.proofs.reply.made_reply.Goals as goal

pub returns : goal.returns
returns g c =
    let text = c.in_ok-made_text.field-0.items in
    record {
      outcome = Writes text;
      ends = (text, c.in_ok-made_text.ensures, refl);
      said = record { text = c.in_ok-of.ensures; status = refl };
    }
