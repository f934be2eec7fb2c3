use Rattle.std.proofs.Common.{◌≡◌, length, take, drop, refl, sym, ap, ◌∙◌, arith}
use Rattle.std.specs.Vec.{with_items}
use Rattle.std.proofs.lemmas.List.{length-drop, length-take-le, with_items_is}
use Rattle.row_text.proofs.fields.put_reserved.Goals as goal

pub returns-clause-put : goal.returns-clause-put
returns-clause-put c =
    let bytes = c.args.bytes.now in
    let text = c.args.text.now in
    let put = c.put_piece-end.ensures in
    let size = ap length c.deref_mut.ensures.value in
    let same : (with_items bytes c.put_piece-end.new.text).items ≡ c.put_piece-end.new.text = with_items_is bytes c.put_piece-end.new.text (c.put_piece-end.auto.text ∙ size ∙ sym bytes.ok.0) in
    let long : length (take c.args.len (drop c.args.start text)) ≡ c.args.len = length-take-le c.args.len (drop c.args.start text) (omega (arith, length-drop c.args.start text, c.requires.within)) in
    rw same
    (record {
      cuts = c.push_reserved.ensures.items;
      bytes = rw (long, ← put.end) (put.written ∙ rw c.deref_mut.ensures.value refl);
      past = omega (arith, long, put.end);
      room = omega (arith, put.end, c.put_piece-end.auto.text, size, c.requires.bytes);
      small = omega (arith, put.end, c.requires.small);
    })
