use Rattle.std.proofs.Common.{refl}
use Rattle.capacity_cmd.specs.Outcome.{Writes}
use Rattle.capacity_cmd.proofs.reply.reply_on_threads.Goals as goal

pub returns : goal.returns
returns g c =
    let text = c.in_ok-text_on_threads.field-0 in
    record {
      outcome = Writes text;
      ends = (text, c.in_ok-text_on_threads.ensures, refl);
      said = record { text = refl; status = refl };
    }
