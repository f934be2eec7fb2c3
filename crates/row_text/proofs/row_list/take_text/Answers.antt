use Rattle.std.proofs.Common.{[], ◌∙◌, sym, inr, refl}
use Rattle.csv.specs.Reading.{Reached, strip_bom}
use Rattle.row_text.proofs.row_list.take_text.Goals as goal

pub take_rows-requires : goal.take_rows-requires
unfolding Reached
take_rows-requires c =
    let reader = c.from_reader-reader.ensures in
    let flexible = c.flexible.ensures in
    let headers = c.has_headers.ensures in (
      strip_bom c.args.text.now,
      [],
      record {
        trim = rw (flexible, headers) at reader.trim ∙ c.new.ensures.trim;
        ready = inr (inr (rw (flexible, headers) at reader.has_headers, reader.headers));
        config = rw (flexible, headers) at reader.config ∙ c.new.ensures.config;
        source = reader.source;
        reached = (sym reader.state, refl);
      },
      c.requires,
    )
